-- Queries that are refused.
use Rattle.std.specs.Prelude.{◌≡◌, refl, codes}
use Rattle.agg_reading.specs.Reading.{refuse}
use Rattle.agg_reading.specs.Request.{search_of}
use Rattle.agg_reading.proofs.Computing.{computing}
use Rattle.agg_reading.proofs.Mappings.{plain, nested_orders}

a_nested_path_is_not_beneath_itself : search_of nested_orders (codes "{\"query\":{\"nested\":{\"path\":\"items\",\"query\":{\"nested\":{\"path\":\"items\",\"query\":{\"match_all\":{}}}}}}}") ≡ refuse 109 (codes "/query/nested/query/nested/path")
unfolding computing
a_nested_path_is_not_beneath_itself = refl

boost_beside_the_name_of_a_query_is_107 : search_of plain (codes "{\"query\":{\"match_all\":{},\"boost\":1}}") ≡ refuse 107 (codes "/query")
unfolding computing
boost_beside_the_name_of_a_query_is_107 = refl

a_term_without_a_field_is_107 : search_of plain (codes "{\"query\":{\"term\":{\"boost\":1}}}") ≡ refuse 107 (codes "/query/term")
unfolding computing
a_term_without_a_field_is_107 = refl

a_term_of_an_object_without_value_is_102 : search_of plain (codes "{\"query\":{\"term\":{\"t\":{}}}}") ≡ refuse 102 (codes "/query/term/t")
unfolding computing
a_term_of_an_object_without_value_is_102 = refl

a_term_of_null_is_104 : search_of plain (codes "{\"query\":{\"term\":{\"t\":null}}}") ≡ refuse 104 (codes "/query/term/t")
unfolding computing
a_term_of_null_is_104 = refl

a_decimal_text_of_39_digits_is_104 : search_of plain (codes "{\"query\":{\"term\":{\"n\":\"111111111111111111111111111111111111111\"}}}") ≡ refuse 104 (codes "/query/term/n")
unfolding computing
a_decimal_text_of_39_digits_is_104 = refl

an_unknown_field_comes_before_the_type_of_its_value : search_of plain (codes "{\"query\":{\"terms\":{\"x\":1}}}") ≡ refuse 108 (codes "/query/terms/x")
unfolding computing
an_unknown_field_comes_before_the_type_of_its_value = refl

terms_without_a_list_are_103 : search_of plain (codes "{\"query\":{\"terms\":{\"t\":\"a\"}}}") ≡ refuse 103 (codes "/query/terms/t")
unfolding computing
terms_without_a_list_are_103 = refl

an_id_that_is_no_text_is_103 : search_of plain (codes "{\"query\":{\"ids\":{\"values\":[\"1\",2]}}}") ≡ refuse 103 (codes "/query/ids/values/1")
unfolding computing
an_id_that_is_no_text_is_103 = refl

minimum_should_match_above_1024_is_104 : search_of plain (codes "{\"query\":{\"bool\":{\"minimum_should_match\":1025}}}") ≡ refuse 104 (codes "/query/bool/minimum_should_match")
unfolding computing
minimum_should_match_above_1024_is_104 = refl

a_clause_of_a_bool_is_read_in_byte_order : search_of plain (codes "{\"query\":{\"bool\":{\"should\":[{\"x\":{}}],\"filter\":{\"y\":{}}}}}") ≡ refuse 105 (codes "/query/bool/filter/y")
unfolding computing
a_clause_of_a_bool_is_read_in_byte_order = refl
