-- Index lines, and what they say.
use Rattle.std.specs.Prelude.{◌≡◌, refl, [], ◌∷◌, Some, None, Ok, true, false, codes}
use Rattle.agg_model.specs.declared.mapping.FieldKind.TheVariants.{Long, Integer, Short, Byte, Keyword, Boolean}
use Rattle.agg_reading.specs.IndexLine.{index_line_at}
use Rattle.agg_reading.proofs.Computing.{computing}

a_name_alone_has_one_shard : index_line_at (codes "{\"index\":\"i\"}") ≡ Ok (record { name = codes "i"; mapping = record { fields = []; nested = []; objects = []; strict = false }; shards = 1 })
unfolding computing
a_name_alone_has_one_shard = refl

three_fields_and_the_shards : index_line_at (codes "{\"index\":\"i\",\"mappings\":{\"properties\":{\"b\":{\"type\":\"boolean\"},\"n\":{\"type\":\"long\"},\"t\":{\"type\":\"keyword\"}}},\"settings\":{\"number_of_shards\":7}}") ≡ Ok (record { name = codes "i"; mapping = record { fields = (record { path = codes "b"; kind = Boolean; ignore_above = None; context = 0 } ∷ record { path = codes "n"; kind = Long; ignore_above = None; context = 0 } ∷ record { path = codes "t"; kind = Keyword; ignore_above = None; context = 0 } ∷ []); nested = []; objects = []; strict = false }; shards = 7 })
unfolding computing
three_fields_and_the_shards = refl

nested_objects_are_a_context : index_line_at (codes "{\"index\":\"i\",\"mappings\":{\"properties\":{\"items\":{\"type\":\"nested\",\"properties\":{\"s\":{\"type\":\"keyword\"}}}}}}") ≡ Ok (record { name = codes "i"; mapping = record { fields = (record { path = codes "items.s"; kind = Keyword; ignore_above = None; context = 1 } ∷ []); nested = (record { path = codes "items"; parent = 0 } ∷ []); objects = []; strict = false }; shards = 1 })
unfolding computing
nested_objects_are_a_context = refl

contexts_are_numbered_in_byte_order_of_the_paths : index_line_at (codes "{\"index\":\"i\",\"mappings\":{\"properties\":{\"a\":{\"type\":\"nested\",\"properties\":{\"x\":{\"type\":\"nested\",\"properties\":{\"y\":{\"type\":\"byte\"}}}}},\"a-b\":{\"type\":\"nested\",\"properties\":{\"z\":{\"type\":\"short\"}}},\"o\":{\"properties\":{\"k\":{\"type\":\"keyword\",\"ignore_above\":3,\"eager_global_ordinals\":1},\"e\":{\"type\":\"object\"}}}}}}") ≡ Ok (record { name = codes "i"; mapping = record { fields = (record { path = codes "a-b.z"; kind = Short; ignore_above = None; context = 2 } ∷ record { path = codes "a.x.y"; kind = Byte; ignore_above = None; context = 3 } ∷ record { path = codes "o.k"; kind = Keyword; ignore_above = Some 3; context = 0 } ∷ []); nested = (record { path = codes "a"; parent = 0 } ∷ record { path = codes "a-b"; parent = 0 } ∷ record { path = codes "a.x"; parent = 1 } ∷ []); objects = (codes "o" ∷ codes "o.e" ∷ []); strict = false }; shards = 1 })
unfolding computing
contexts_are_numbered_in_byte_order_of_the_paths = refl

strict_mappings : index_line_at (codes "{\"index\":\"i\",\"mappings\":{\"dynamic\":\"strict\",\"properties\":{\"i\":{\"type\":\"integer\",\"store\":0,\"index\":[],\"doc_values\":null}}}}") ≡ Ok (record { name = codes "i"; mapping = record { fields = (record { path = codes "i"; kind = Integer; ignore_above = None; context = 0 } ∷ []); nested = []; objects = []; strict = true }; shards = 1 })
unfolding computing
strict_mappings = refl

dynamic_false_is_not_strict : index_line_at (codes "{\"index\":\"i\",\"mappings\":{\"dynamic\":\"false\"}}") ≡ Ok (record { name = codes "i"; mapping = record { fields = []; nested = []; objects = []; strict = false }; shards = 1 })
unfolding computing
dynamic_false_is_not_strict = refl

shards_as_a_text_in_an_inner_object : index_line_at (codes "{\"index\":\"i\",\"settings\":{\"index\":{\"number_of_shards\":\"3\",\"number_of_replicas\":\"1\"},\"other\":[]}}") ≡ Ok (record { name = codes "i"; mapping = record { fields = []; nested = []; objects = []; strict = false }; shards = 3 })
unfolding computing
shards_as_a_text_in_an_inner_object = refl

equal_shards_in_four_places : index_line_at (codes "{\"index\":\"i\",\"settings\":{\"index\":{\"number_of_shards\":2,\"index.number_of_shards\":\"2\"},\"index.number_of_shards\":2,\"number_of_shards\":\"02\"}}") ≡ Ok (record { name = codes "i"; mapping = record { fields = []; nested = []; objects = []; strict = false }; shards = 2 })
unfolding computing
equal_shards_in_four_places = refl

an_inner_index_that_is_no_object_has_no_effect : index_line_at (codes "{\"index\":\"i\",\"settings\":{\"index\":5}}") ≡ Ok (record { name = codes "i"; mapping = record { fields = []; nested = []; objects = []; strict = false }; shards = 1 })
unfolding computing
an_inner_index_that_is_no_object_has_no_effect = refl

twenty_levels_of_properties : index_line_at (codes "{\"index\":\"i\",\"mappings\":{\"properties\":{\"x\":{\"properties\":{\"x\":{\"properties\":{\"x\":{\"properties\":{\"x\":{\"properties\":{\"x\":{\"properties\":{\"x\":{\"properties\":{\"x\":{\"properties\":{\"x\":{\"properties\":{\"x\":{\"properties\":{\"x\":{\"properties\":{\"x\":{\"properties\":{\"x\":{\"properties\":{\"x\":{\"properties\":{\"x\":{\"properties\":{\"x\":{\"properties\":{\"x\":{\"properties\":{\"x\":{\"properties\":{\"x\":{\"properties\":{\"x\":{\"properties\":{\"x\":{\"type\":\"long\"}}}}}}}}}}}}}}}}}}}}}}}}}}}}}}}}}}}}}}}}}}") ≡ Ok (record { name = codes "i"; mapping = record { fields = (record { path = codes "x.x.x.x.x.x.x.x.x.x.x.x.x.x.x.x.x.x.x.x"; kind = Long; ignore_above = None; context = 0 } ∷ []); nested = []; objects = (codes "x" ∷ codes "x.x" ∷ codes "x.x.x" ∷ codes "x.x.x.x" ∷ codes "x.x.x.x.x" ∷ codes "x.x.x.x.x.x" ∷ codes "x.x.x.x.x.x.x" ∷ codes "x.x.x.x.x.x.x.x" ∷ codes "x.x.x.x.x.x.x.x.x" ∷ codes "x.x.x.x.x.x.x.x.x.x" ∷ codes "x.x.x.x.x.x.x.x.x.x.x" ∷ codes "x.x.x.x.x.x.x.x.x.x.x.x" ∷ codes "x.x.x.x.x.x.x.x.x.x.x.x.x" ∷ codes "x.x.x.x.x.x.x.x.x.x.x.x.x.x" ∷ codes "x.x.x.x.x.x.x.x.x.x.x.x.x.x.x" ∷ codes "x.x.x.x.x.x.x.x.x.x.x.x.x.x.x.x" ∷ codes "x.x.x.x.x.x.x.x.x.x.x.x.x.x.x.x.x" ∷ codes "x.x.x.x.x.x.x.x.x.x.x.x.x.x.x.x.x.x" ∷ codes "x.x.x.x.x.x.x.x.x.x.x.x.x.x.x.x.x.x.x" ∷ []); strict = false }; shards = 1 })
unfolding computing
twenty_levels_of_properties = refl
