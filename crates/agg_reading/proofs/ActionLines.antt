-- Action lines of the index `i`, read or refused.
use Rattle.std.specs.Prelude.{◌≡◌, refl, [], Ok, codes}
use Rattle.agg_model.specs.declared.bulk.ActionKind.TheVariants.{Index, Create, Delete}
use Rattle.agg_reading.specs.Reading.{refuse}
use Rattle.agg_reading.specs.Action.{action_at}
use Rattle.agg_reading.proofs.Computing.{computing}

an_update_is_33 : action_at (codes "i") 0 (codes "{\"update\":{\"_id\":\"1\"}}") ≡ refuse 33 []
unfolding computing
an_update_is_33 = refl

an_update_is_33_whatever_its_id : action_at (codes "i") 0 (codes "{\"update\":{\"_id\":1.5}}") ≡ refuse 33 []
unfolding computing
an_update_is_33_whatever_its_id = refl

an_update_of_no_object_is_32 : action_at (codes "i") 0 (codes "{\"update\":5}") ≡ refuse 32 []
unfolding computing
an_update_of_no_object_is_32 = refl

an_action_that_is_not_json_is_32 : action_at (codes "i") 0 (codes "{\"index\":{") ≡ refuse 32 []
unfolding computing
an_action_that_is_not_json_is_32 = refl

an_action_that_is_no_object_is_32 : action_at (codes "i") 0 (codes "[]") ≡ refuse 32 []
unfolding computing
an_action_that_is_no_object_is_32 = refl

two_actions_in_a_line_are_32 : action_at (codes "i") 0 (codes "{\"index\":{},\"delete\":{}}") ≡ refuse 32 []
unfolding computing
two_actions_in_a_line_are_32 = refl

an_unknown_action_is_32 : action_at (codes "i") 0 (codes "{\"upsert\":{}}") ≡ refuse 32 []
unfolding computing
an_unknown_action_is_32 = refl

another_index_is_32 : action_at (codes "i") 0 (codes "{\"index\":{\"_index\":\"j\"}}") ≡ refuse 32 []
unfolding computing
another_index_is_32 = refl

a_version_is_32 : action_at (codes "i") 0 (codes "{\"index\":{\"version\":1}}") ≡ refuse 32 []
unfolding computing
a_version_is_32 = refl

an_empty_id_is_32 : action_at (codes "i") 0 (codes "{\"index\":{\"_id\":\"\"}}") ≡ refuse 32 []
unfolding computing
an_empty_id_is_32 = refl

an_id_that_is_not_whole_is_32 : action_at (codes "i") 0 (codes "{\"index\":{\"_id\":1e2}}") ≡ refuse 32 []
unfolding computing
an_id_that_is_not_whole_is_32 = refl

a_routing_that_is_a_list_is_32 : action_at (codes "i") 0 (codes "{\"index\":{\"routing\":[]}}") ≡ refuse 32 []
unfolding computing
a_routing_that_is_a_list_is_32 = refl

a_delete_without_an_id_is_32 : action_at (codes "i") 0 (codes "{\"delete\":{}}") ≡ refuse 32 []
unfolding computing
a_delete_without_an_id_is_32 = refl

an_absent_id_has_the_number_of_the_action : action_at (codes "i") 12 (codes "{\"index\":{}}") ≡ Ok (record { kind = Index; id = codes "_auto_12"; routing = codes "_auto_12" })
unfolding computing
an_absent_id_has_the_number_of_the_action = refl

an_absent_routing_is_the_id : action_at (codes "i") 0 (codes "{\"create\":{\"_id\":\"7\"}}") ≡ Ok (record { kind = Create; id = codes "7"; routing = codes "7" })
unfolding computing
an_absent_routing_is_the_id = refl

a_whole_number_is_its_decimal_text : action_at (codes "i") 0 (codes "{\"index\":{\"_id\":-7,\"routing\":18446744073709551615}}") ≡ Ok (record { kind = Index; id = codes "-7"; routing = codes "18446744073709551615" })
unfolding computing
a_whole_number_is_its_decimal_text = refl

null_is_absent : action_at (codes "i") 3 (codes "{\"index\":{\"_index\":null,\"_id\":null,\"routing\":null,\"version\":null,\"pipeline\":null}}") ≡ Ok (record { kind = Index; id = codes "_auto_3"; routing = codes "_auto_3" })
unfolding computing
null_is_absent = refl

other_members_have_no_effect : action_at (codes "i") 0 (codes "{\"delete\":{\"_index\":\"i\",\"_id\":\"9\",\"require_alias\":true}}") ≡ Ok (record { kind = Delete; id = codes "9"; routing = codes "9" })
unfolding computing
other_members_have_no_effect = refl

a_routing_may_be_empty : action_at (codes "i") 0 (codes "{\"index\":{\"_id\":\"9\",\"routing\":\"\"}}") ≡ Ok (record { kind = Index; id = codes "9"; routing = [] })
unfolding computing
a_routing_may_be_empty = refl
