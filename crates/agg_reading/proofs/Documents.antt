-- Documents, each as its rows or its refusal.
use Rattle.std.specs.Prelude.{◌≡◌, refl, pos, negsuc, [], ◌∷◌, ◌++◌, Some, None, Ok, true, false, codes}
use Rattle.agg_model.specs.declared.mapping.Mapping.{Mapping}
use Rattle.agg_model.specs.declared.mapping.FieldKind.TheVariants.{Integer, Short, Byte, Keyword, Boolean}
use Rattle.agg_model.specs.declared.row.Scalar.TheVariants as scalar
use Rattle.agg_model.specs.declared.row.Row.{roll-Row}
use Rattle.agg_model.specs.declared.row.Children.{roll-Children}
use Rattle.agg_reading.specs.Reading.{refuse}
use Rattle.agg_reading.specs.Document.{document_at}
use Rattle.agg_reading.proofs.Computing.{computing}
use Rattle.agg_reading.proofs.Mappings.{plain, nested_orders}

-- as nested_orders, and strict
abbrev strict_orders : Mapping
strict_orders = record nested_orders { strict = true }

-- two nested paths and three objects
abbrev deep : Mapping
deep = record { fields = (record { path = codes "a.o.k"; kind = Keyword; ignore_above = Some 2; context = 1 } ∷ record { path = codes "a.x.y"; kind = Byte; ignore_above = None; context = 2 } ∷ record { path = codes "h"; kind = Short; ignore_above = None; context = 0 } ∷ record { path = codes "o.i"; kind = Integer; ignore_above = None; context = 0 } ∷ record { path = codes "o.p.b"; kind = Boolean; ignore_above = None; context = 0 } ∷ []); nested = (record { path = codes "a"; parent = 0 } ∷ record { path = codes "a.x"; parent = 1 } ∷ []); objects = (codes "a.o" ∷ codes "o" ∷ codes "o.p" ∷ []); strict = false }

a_source_that_is_not_json_is_20 : document_at plain (codes "{\"n\":") ≡ refuse 20 []
unfolding computing
a_source_that_is_not_json_is_20 = refl

a_source_that_is_no_object_is_20 : document_at plain (codes "[{\"n\":1}]") ≡ refuse 20 []
unfolding computing
a_source_that_is_no_object_is_20 = refl

a_number_with_a_fraction_is_21 : document_at plain (codes "{\"n\":1.5}") ≡ refuse 21 (codes "n")
unfolding computing
a_number_with_a_fraction_is_21 = refl

a_decimal_text_is_a_number : document_at plain (codes "{\"n\":\"12\"}") ≡ Ok (roll-Row (record { values = ((record { field = 1; values = (scalar.Whole (pos 12) ∷ []) }) ∷ []); children = [] }))
unfolding computing
a_decimal_text_is_a_number = refl

a_number_above_64_bits_is_22 : document_at plain (codes "{\"n\":9223372036854775808}") ≡ refuse 22 (codes "n")
unfolding computing
a_number_above_64_bits_is_22 = refl

a_number_of_2_to_the_64_is_21 : document_at plain (codes "{\"n\":18446744073709551616}") ≡ refuse 21 (codes "n")
unfolding computing
a_number_of_2_to_the_64_is_21 = refl

a_decimal_text_above_64_bits_is_22 : document_at plain (codes "{\"n\":\"-9223372036854775809\"}") ≡ refuse 22 (codes "n")
unfolding computing
a_decimal_text_above_64_bits_is_22 = refl

an_object_for_a_number_is_21 : document_at plain (codes "{\"n\":{}}") ≡ refuse 21 (codes "n")
unfolding computing
an_object_for_a_number_is_21 = refl

the_first_refusal_in_byte_order_counts : document_at plain (codes "{\"t\":{},\"n\":1.5,\"b\":2}") ≡ refuse 21 (codes "b")
unfolding computing
the_first_refusal_in_byte_order_counts = refl

the_empty_text_is_false : document_at plain (codes "{\"b\":[\"\",true,\"false\",[null,\"true\"]]}") ≡ Ok (roll-Row (record { values = ((record { field = 0; values = (scalar.Flag false ∷ scalar.Flag false ∷ scalar.Flag true ∷ scalar.Flag true ∷ []) }) ∷ []); children = [] }))
unfolding computing
the_empty_text_is_false = refl

a_text_for_a_boolean_is_21 : document_at plain (codes "{\"b\":\"no\"}") ≡ refuse 21 (codes "b")
unfolding computing
a_text_for_a_boolean_is_21 = refl

words_are_distinct_and_ascending_numbers_repeat : document_at plain (codes "{\"t\":[\"b\",\"a\",\"b\",7,true],\"n\":[5,-1,5]}") ≡ Ok (roll-Row (record { values = ((record { field = 1; values = (scalar.Whole (negsuc 0) ∷ scalar.Whole (pos 5) ∷ scalar.Whole (pos 5) ∷ []) }) ∷ (record { field = 2; values = (scalar.Word (codes "7") ∷ scalar.Word (codes "a") ∷ scalar.Word (codes "b") ∷ scalar.Word (codes "true") ∷ []) }) ∷ []); children = [] }))
unfolding computing
words_are_distinct_and_ascending_numbers_repeat = refl

null_and_empty_lists_are_nothing : document_at plain (codes "{\"t\":[],\"n\":null,\"b\":[[null]]}") ≡ Ok (roll-Row (record { values = []; children = [] }))
unfolding computing
null_and_empty_lists_are_nothing = refl

an_unmapped_member_is_ignored : document_at plain (codes "{\"x\":{\"y\":[1.5]},\"\":1}") ≡ Ok (roll-Row (record { values = []; children = [] }))
unfolding computing
an_unmapped_member_is_ignored = refl

the_last_value_of_a_repeated_name_counts : document_at plain (codes "{\"n\":1.5,\"n\":2}") ≡ Ok (roll-Row (record { values = ((record { field = 1; values = (scalar.Whole (pos 2) ∷ []) }) ∷ []); children = [] }))
unfolding computing
the_last_value_of_a_repeated_name_counts = refl

each_nested_object_is_a_row : document_at nested_orders (codes "{\"items\":[{\"s\":\"k\"},{\"s\":\"k\"},[{}]]}") ≡ Ok (roll-Row (record { values = []; children = ((roll-Children (record { path = 0; rows = ((roll-Row (record { values = ((record { field = 0; values = (scalar.Word (codes "k") ∷ []) }) ∷ []); children = [] })) ∷ (roll-Row (record { values = ((record { field = 0; values = (scalar.Word (codes "k") ∷ []) }) ∷ []); children = [] })) ∷ roll-Row (record { values = []; children = [] }) ∷ []) })) ∷ []) }))
unfolding computing
each_nested_object_is_a_row = refl

a_dotted_name_does_not_reach_into_a_nested_path : document_at nested_orders (codes "{\"items\":{\"s\":\"k\"},\"items.s\":\"z\"}") ≡ Ok (roll-Row (record { values = []; children = ((roll-Children (record { path = 0; rows = ((roll-Row (record { values = ((record { field = 0; values = (scalar.Word (codes "k") ∷ []) }) ∷ []); children = [] })) ∷ []) })) ∷ []) }))
unfolding computing
a_dotted_name_does_not_reach_into_a_nested_path = refl

under_strict_such_a_name_is_27 : document_at strict_orders (codes "{\"items\":{\"s\":\"k\"},\"items.s\":\"z\"}") ≡ refuse 27 (codes "items.s")
unfolding computing
under_strict_such_a_name_is_27 = refl

under_strict_an_unmapped_null_is_27 : document_at strict_orders (codes "{\"x\":null}") ≡ refuse 27 (codes "x")
unfolding computing
under_strict_an_unmapped_null_is_27 = refl

a_text_for_a_nested_path_is_21 : document_at nested_orders (codes "{\"items\":[\"k\"]}") ≡ refuse 21 (codes "items")
unfolding computing
a_text_for_a_nested_path_is_21 = refl

an_object_is_walked_and_a_dotted_name_too : document_at deep (codes "{\"o\":[{\"i\":1,\"p.b\":true},{\"i\":-2147483648}],\"o.i\":\"0\",\"o.p\":{\"b\":false}}") ≡ Ok (roll-Row (record { values = ((record { field = 3; values = (scalar.Whole (negsuc 2147483647) ∷ scalar.Whole (pos 0) ∷ scalar.Whole (pos 1) ∷ []) }) ∷ (record { field = 4; values = (scalar.Flag false ∷ scalar.Flag true ∷ []) }) ∷ []); children = [] }))
unfolding computing
an_object_is_walked_and_a_dotted_name_too = refl

a_number_above_16_bits_is_22 : document_at deep (codes "{\"h\":32768}") ≡ refuse 22 (codes "h")
unfolding computing
a_number_above_16_bits_is_22 = refl

a_number_below_8_bits_is_22 : document_at deep (codes "{\"a\":{\"x\":{\"y\":-129}}}") ≡ refuse 22 (codes "a.x.y")
unfolding computing
a_number_below_8_bits_is_22 = refl

a_number_above_32_bits_is_22 : document_at deep (codes "{\"o\":{\"i\":2147483648}}") ≡ refuse 22 (codes "o.i")
unfolding computing
a_number_above_32_bits_is_22 = refl

a_text_for_an_object_is_21 : document_at deep (codes "{\"o\":{\"p\":\"x\"}}") ≡ refuse 21 (codes "o.p")
unfolding computing
a_text_for_an_object_is_21 = refl

rows_beneath_rows : document_at deep (codes "{\"a\":[{\"o\":{\"k\":[\"ab\",\"abc\",\"" ++ (195 ∷ 164 ∷ 195 ∷ 182 ∷ []) ++ codes "\",\"a\"]},\"x\":[{\"y\":1},{\"y\":[2,\"-128\"]}]},{\"x\":null}],\"a.x\":{\"y\":5},\"h\":1}") ≡ Ok (roll-Row (record { values = ((record { field = 2; values = (scalar.Whole (pos 1) ∷ []) }) ∷ []); children = ((roll-Children (record { path = 0; rows = ((roll-Row (record { values = ((record { field = 0; values = (scalar.Word (codes "a") ∷ scalar.Word (codes "ab") ∷ (scalar.Word ((195 ∷ 164 ∷ 195 ∷ 182 ∷ []))) ∷ []) }) ∷ []); children = ((roll-Children (record { path = 1; rows = ((roll-Row (record { values = ((record { field = 1; values = (scalar.Whole (pos 1) ∷ []) }) ∷ []); children = [] })) ∷ (roll-Row (record { values = ((record { field = 1; values = (scalar.Whole (negsuc 127) ∷ scalar.Whole (pos 2) ∷ []) }) ∷ []); children = [] })) ∷ []) })) ∷ []) })) ∷ roll-Row (record { values = []; children = [] }) ∷ []) })) ∷ []) }))
unfolding computing
rows_beneath_rows = refl
