-- Edges of limits and rules: the last thing that is taken, and the first that is refused.
use Rattle.std.specs.Prelude.{◌≡◌, refl, ℕ, zero, suc, List, [], ◌∷◌, ◌++◌, length, replicate, Some, None, Ok, codes, true, false}
use Rattle.serde_json.specs.Data.{string, boolean, array, object, item, no_items, member, no_members}
use Rattle.agg_model.specs.declared.bulk.ActionKind.TheVariants.{Index, Create}
use Rattle.agg_model.specs.declared.mapping.Mapping.{Mapping}
use Rattle.agg_model.specs.declared.mapping.FieldKind.TheVariants.{Boolean}
use Rattle.agg_model.specs.declared.row.Scalar.TheVariants as scalar
use Rattle.agg_reading.specs.declared.parts.Draft.{Draft}
use Rattle.agg_reading.specs.declared.parts.Found.{Found}
use Rattle.agg_reading.specs.Reading.{refuse, ◌>>=◌}
use Rattle.agg_reading.specs.Action.{id_or, action_at}
use Rattle.agg_reading.specs.Document.{document_at, member_at}
use Rattle.agg_reading.specs.Properties.{property_at}
use Rattle.agg_reading.specs.Request.{search_of}
use Rattle.agg_reading.specs.Rows.{empty_draft}
use Rattle.agg_reading.specs.Routing.{hash_of}
use Rattle.agg_reading.proofs.Computing.{computing}
use Rattle.agg_reading.proofs.Mappings.{plain, nested_orders}

-- Actions.

an_id_of_512_bytes_is_taken : id_or Index 0 (Some (replicate 512 97)) ≡ Ok (replicate 512 97)
unfolding computing
an_id_of_512_bytes_is_taken = refl

an_id_of_513_bytes_is_32 : id_or Index 0 (Some (replicate 513 97)) ≡ refuse 32 []
unfolding computing
an_id_of_513_bytes_is_32 = refl

abbrev with_id : ℕ → List ℕ
with_id n = codes "{\"index\":{\"_id\":\"" ++ replicate n 97 ++ codes "\"}}"

a_line_with_an_id_of_512_bytes_is_taken : action_at (codes "i") 0 (with_id 512) ≡ Ok (record { kind = Index; id = replicate 512 97; routing = replicate 512 97 })
unfolding computing
a_line_with_an_id_of_512_bytes_is_taken = refl

a_line_with_an_id_of_513_bytes_is_32 : action_at (codes "i") 0 (with_id 513) ≡ refuse 32 []
unfolding computing
a_line_with_an_id_of_513_bytes_is_32 = refl

a_numeric_id_of_20_digits_is_its_text : action_at (codes "i") 0 (codes "{\"create\":{\"_id\":18446744073709551615}}") ≡ Ok (record { kind = Create; id = codes "18446744073709551615"; routing = codes "18446744073709551615" })
unfolding computing
a_numeric_id_of_20_digits_is_its_text = refl

a_numeric_id_beyond_64_bits_is_32 : action_at (codes "i") 0 (codes "{\"create\":{\"_id\":18446744073709551616}}") ≡ refuse 32 []
unfolding computing
a_numeric_id_beyond_64_bits_is_32 = refl

an_empty_routing_is_hashed_as_no_bytes : (action_at (codes "i") 0 (codes "{\"index\":{\"_id\":\"9\",\"routing\":\"\"}}") >>= λ h. Ok (hash_of h.routing)) ≡ Ok 14695981039346656037
unfolding computing
an_empty_routing_is_hashed_as_no_bytes = refl

-- Fields of a mapping: the field after so many.

abbrev found : ℕ → Found
found n = record { fields = replicate n (record { path = codes "a"; kind = Boolean; ignore_above = None; within = [] }); nested = []; objects = [] }

the_1001st_field_is_31 : property_at 20 [] (codes "b") (codes "/properties/b") (found 1000) (object (member (codes "type") (string (codes "long")) no_members)) ≡ refuse 31 (codes "/properties/b")
unfolding computing
the_1001st_field_is_31 = refl

the_1000th_field_is_taken : (property_at 20 [] (codes "b") (codes "/properties/b") (found 999) (object (member (codes "type") (string (codes "long")) no_members)) >>= λ f. Ok (length f.fields)) ≡ Ok 1000
unfolding computing
the_1000th_field_is_taken = refl

-- Documents.

abbrev full : ℕ → Draft
full n = record { values = record { field = 0; values = replicate n (scalar.Flag true) } ∷ []; children = [] }

-- an object `o` with a boolean `o.b`
abbrev dotted : Mapping
dotted = record { fields = record { path = codes "o.b"; kind = Boolean; ignore_above = None; context = 0 } ∷ []; nested = []; objects = codes "o" ∷ []; strict = false }

a_value_by_its_dotted_name_is_one_more : member_at dotted 0 (codes "o.b") (full 1023, 0) (array (item (boolean true) (item (boolean true) no_items))) ≡ refuse 25 (codes "o.b")
unfolding computing
a_value_by_its_dotted_name_is_one_more = refl

-- so many and one more
abbrev flags : ℕ → List ℕ
flags zero = codes "\"\""
flags (suc n) = codes "\"\"," ++ flags n

-- values that come by the object, and values that come by the dotted name
abbrev by_both : ℕ → ℕ → List ℕ
by_both inner outer = codes "{\"o\":{\"b\":[" ++ flags inner ++ codes "]},\"o.b\":[" ++ flags outer ++ codes "]}"

a_1025th_value_half_by_a_dotted_name_is_25 : document_at dotted (by_both 511 512) ≡ refuse 25 (codes "o.b")
unfolding computing
a_1025th_value_half_by_a_dotted_name_is_25 = refl

-- nested objects `a`, and `a.x` within them
abbrev rows_in_rows : Mapping
rows_in_rows = record { fields = []; nested = record { path = codes "a"; parent = 0 } ∷ record { path = codes "a.x"; parent = 1 } ∷ []; objects = []; strict = false }

rows_within_rows_count_with_them : member_at rows_in_rows 0 (codes "a") (empty_draft, 9998) (object (member (codes "x") (array (item (object no_members) (item (object no_members) no_items))) no_members)) ≡ refuse 24 (codes "a.x")
unfolding computing
rows_within_rows_count_with_them = refl

-- Bodies.

the_17th_source_is_111_before_its_form : search_of plain (codes "{\"aggs\":{\"a\":{\"composite\":{\"sources\":[{\"s0\":{\"terms\":{\"field\":\"t\"}}},{\"s1\":{\"terms\":{\"field\":\"t\"}}},{\"s2\":{\"terms\":{\"field\":\"t\"}}},{\"s3\":{\"terms\":{\"field\":\"t\"}}},{\"s4\":{\"terms\":{\"field\":\"t\"}}},{\"s5\":{\"terms\":{\"field\":\"t\"}}},{\"s6\":{\"terms\":{\"field\":\"t\"}}},{\"s7\":{\"terms\":{\"field\":\"t\"}}},{\"s8\":{\"terms\":{\"field\":\"t\"}}},{\"s9\":{\"terms\":{\"field\":\"t\"}}},{\"s10\":{\"terms\":{\"field\":\"t\"}}},{\"s11\":{\"terms\":{\"field\":\"t\"}}},{\"s12\":{\"terms\":{\"field\":\"t\"}}},{\"s13\":{\"terms\":{\"field\":\"t\"}}},{\"s14\":{\"terms\":{\"field\":\"t\"}}},{\"s15\":{\"terms\":{\"field\":\"t\"}}},5]}}}}") ≡ refuse 111 (codes "/aggs/a/composite/sources/16")
unfolding computing
the_17th_source_is_111_before_its_form = refl

the_33rd_level_is_111_before_its_type : search_of plain (codes "{\"query\":{\"bool\":{\"must\":{\"bool\":{\"must\":{\"bool\":{\"must\":{\"bool\":{\"must\":{\"bool\":{\"must\":{\"bool\":{\"must\":{\"bool\":{\"must\":{\"bool\":{\"must\":{\"bool\":{\"must\":{\"bool\":{\"must\":{\"bool\":{\"must\":{\"bool\":{\"must\":{\"bool\":{\"must\":{\"bool\":{\"must\":{\"bool\":{\"must\":{\"bool\":{\"must\":{\"bool\":{\"must\":{\"bool\":{\"must\":{\"bool\":{\"must\":{\"bool\":{\"must\":{\"bool\":{\"must\":{\"bool\":{\"must\":{\"bool\":{\"must\":{\"bool\":{\"must\":{\"bool\":{\"must\":{\"bool\":{\"must\":{\"bool\":{\"must\":{\"bool\":{\"must\":{\"bool\":{\"must\":{\"bool\":{\"must\":{\"bool\":{\"must\":{\"bool\":{\"must\":5}}}}}}}}}}}}}}}}}}}}}}}}}}}}}}}}}}}}}}}}}}}}}}}}}}}}}}}}}}}}}}}}}") ≡ refuse 111 (codes "/query/bool/must/bool/must/bool/must/bool/must/bool/must/bool/must/bool/must/bool/must/bool/must/bool/must/bool/must/bool/must/bool/must/bool/must/bool/must/bool/must/bool/must/bool/must/bool/must/bool/must/bool/must/bool/must/bool/must/bool/must/bool/must/bool/must/bool/must/bool/must/bool/must/bool/must/bool/must/bool/must")
unfolding computing
the_33rd_level_is_111_before_its_type = refl

global_under_nested_is_110 : search_of nested_orders (codes "{\"aggs\":{\"a\":{\"nested\":{\"path\":\"items\"},\"aggs\":{\"g\":{\"global\":{}}}}}}") ≡ refuse 110 (codes "/aggs/a/aggs/g")
unfolding computing
global_under_nested_is_110 = refl

reverse_nested_to_a_path_that_does_not_enclose_is_109 : search_of nested_orders (codes "{\"aggs\":{\"a\":{\"reverse_nested\":{\"path\":\"items\"}}}}") ≡ refuse 109 (codes "/aggs/a/reverse_nested/path")
unfolding computing
reverse_nested_to_a_path_that_does_not_enclose_is_109 = refl

filters_that_are_a_text_are_103 : search_of plain (codes "{\"aggs\":{\"a\":{\"filters\":{\"filters\":\"x\"}}}}") ≡ refuse 103 (codes "/aggs/a/filters/filters")
unfolding computing
filters_that_are_a_text_are_103 = refl

five_orders_are_104 : search_of plain (codes "{\"aggs\":{\"a\":{\"terms\":{\"field\":\"t\",\"order\":[{\"_key\":\"asc\"},{\"_key\":\"asc\"},{\"_key\":\"asc\"},{\"_key\":\"asc\"},{\"_key\":\"asc\"}]}}}}") ≡ refuse 104 (codes "/aggs/a/terms/order")
unfolding computing
five_orders_are_104 = refl

a_list_of_aggregations_is_103 : search_of plain (codes "{\"aggs\":[]}") ≡ refuse 103 (codes "/aggs")
unfolding computing
a_list_of_aggregations_is_103 = refl
