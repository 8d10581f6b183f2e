-- Bodies that are refused, each with the number and the pointer of the first thing refused.
use Rattle.std.specs.Prelude.{◌≡◌, refl, [], Err, codes}
use Rattle.agg_reading.specs.declared.fault.RequestFault.TheVariants.{NotJson}
use Rattle.agg_reading.specs.Reading.{refuse}
use Rattle.agg_reading.specs.Request.{search_of}
use Rattle.agg_reading.proofs.Computing.{computing}
use Rattle.agg_reading.proofs.Mappings.{plain}

an_unknown_field_is_108 : search_of plain (codes "{\"aggs\":{\"t\":{\"terms\":{\"field\":\"x\"}}}}") ≡ refuse 108 (codes "/aggs/t/terms/field")
unfolding computing
an_unknown_field_is_108 = refl

a_size_above_2147483647_is_104 : search_of plain (codes "{\"aggs\":{\"t\":{\"terms\":{\"field\":\"t\",\"size\":2147483648}}}}") ≡ refuse 104 (codes "/aggs/t/terms/size")
unfolding computing
a_size_above_2147483647_is_104 = refl

a_list_as_body_is_100 : search_of plain (codes "[]") ≡ refuse 100 []
unfolding computing
a_list_as_body_is_100 = refl

a_body_that_is_not_json : search_of plain (codes "{\"aggs\":") ≡ Err NotJson
unfolding computing
a_body_that_is_not_json = refl

an_unknown_member_of_the_body_is_101 : search_of plain (codes "{\"size\":0,\"sizes\":0}") ≡ refuse 101 (codes "/sizes")
unfolding computing
an_unknown_member_of_the_body_is_101 = refl

the_first_unknown_member_in_byte_order_is_refused : search_of plain (codes "{\"z\":0,\"y~/\":0}") ≡ refuse 101 (codes "/y~0~1")
unfolding computing
the_first_unknown_member_in_byte_order_is_refused = refl

a_missing_interval_is_102 : search_of plain (codes "{\"aggs\":{\"a\":{\"histogram\":{\"field\":\"n\"}}}}") ≡ refuse 102 (codes "/aggs/a/histogram")
unfolding computing
a_missing_interval_is_102 = refl

a_text_for_size_is_103 : search_of plain (codes "{\"aggs\":{\"a\":{\"terms\":{\"field\":\"t\",\"size\":\"5\"}}}}") ≡ refuse 103 (codes "/aggs/a/terms/size")
unfolding computing
a_text_for_size_is_103 = refl

a_size_that_is_not_whole_is_104 : search_of plain (codes "{\"aggs\":{\"a\":{\"terms\":{\"field\":\"t\",\"size\":1.5}}}}") ≡ refuse 104 (codes "/aggs/a/terms/size")
unfolding computing
a_size_that_is_not_whole_is_104 = refl

minus_zero_is_not_whole : search_of plain (codes "{\"aggs\":{\"a\":{\"terms\":{\"field\":\"t\",\"size\":-0}}}}") ≡ refuse 104 (codes "/aggs/a/terms/size")
unfolding computing
minus_zero_is_not_whole = refl

null_for_size_is_103 : search_of plain (codes "{\"aggs\":{\"a\":{\"terms\":{\"field\":\"t\",\"size\":null}}}}") ≡ refuse 103 (codes "/aggs/a/terms/size")
unfolding computing
null_for_size_is_103 = refl

an_unknown_query_is_105 : search_of plain (codes "{\"query\":{\"match\":{}}}") ≡ refuse 105 (codes "/query/match")
unfolding computing
an_unknown_query_is_105 = refl

an_unknown_kind_is_106 : search_of plain (codes "{\"aggs\":{\"a\":{\"cardinality\":{\"field\":\"t\"}}}}") ≡ refuse 106 (codes "/aggs/a/cardinality")
unfolding computing
an_unknown_kind_is_106 = refl

an_unknown_kind_of_a_source_is_106 : search_of plain (codes "{\"aggs\":{\"a\":{\"composite\":{\"sources\":[{\"s\":{\"geo\":{}}}]}}}}") ≡ refuse 106 (codes "/aggs/a/composite/sources/0/s/geo")
unfolding computing
an_unknown_kind_of_a_source_is_106 = refl

a_query_of_two_members_is_107 : search_of plain (codes "{\"query\":{\"match_all\":{},\"exists\":{\"field\":\"t\"}}}") ≡ refuse 107 (codes "/query")
unfolding computing
a_query_of_two_members_is_107 = refl

an_aggregation_of_no_kind_is_107 : search_of plain (codes "{\"aggs\":{\"a\":{\"aggs\":{}}}}") ≡ refuse 107 (codes "/aggs/a")
unfolding computing
an_aggregation_of_no_kind_is_107 = refl

both_names_of_aggregations_are_107 : search_of plain (codes "{\"aggs\":{},\"aggregations\":{}}") ≡ refuse 107 []
unfolding computing
both_names_of_aggregations_are_107 = refl

a_histogram_over_words_is_108 : search_of plain (codes "{\"aggs\":{\"a\":{\"histogram\":{\"field\":\"t\",\"interval\":1}}}}") ≡ refuse 108 (codes "/aggs/a/histogram/field")
unfolding computing
a_histogram_over_words_is_108 = refl

a_range_over_booleans_is_108 : search_of plain (codes "{\"query\":{\"range\":{\"b\":{}}}}") ≡ refuse 108 (codes "/query/range/b")
unfolding computing
a_range_over_booleans_is_108 = refl

reverse_nested_at_the_root_is_109 : search_of plain (codes "{\"aggs\":{\"a\":{\"reverse_nested\":{}}}}") ≡ refuse 109 (codes "/aggs/a/reverse_nested")
unfolding computing
reverse_nested_at_the_root_is_109 = refl

a_path_that_is_not_nested_is_109 : search_of plain (codes "{\"aggs\":{\"a\":{\"nested\":{\"path\":\"t\"}}}}") ≡ refuse 109 (codes "/aggs/a/nested/path")
unfolding computing
a_path_that_is_not_nested_is_109 = refl

children_of_a_metric_are_110 : search_of plain (codes "{\"aggs\":{\"a\":{\"sum\":{\"field\":\"n\"},\"aggs\":{\"b\":{\"terms\":{\"field\":\"t\"}}}}}}") ≡ refuse 110 (codes "/aggs/a/aggs")
unfolding computing
children_of_a_metric_are_110 = refl

global_below_the_top_is_110 : search_of plain (codes "{\"aggs\":{\"a\":{\"terms\":{\"field\":\"t\"},\"aggs\":{\"g\":{\"global\":{}}}}}}") ≡ refuse 110 (codes "/aggs/a/aggs/g")
unfolding computing
global_below_the_top_is_110 = refl

composite_below_the_top_is_110 : search_of plain (codes "{\"aggs\":{\"a\":{\"terms\":{\"field\":\"t\"},\"aggregations\":{\"c\":{\"composite\":{\"sources\":[{\"s\":{\"terms\":{\"field\":\"t\"}}}]}}}}}}") ≡ refuse 110 (codes "/aggs/a/aggregations/c")
unfolding computing
composite_below_the_top_is_110 = refl

an_empty_name_is_112 : search_of plain (codes "{\"aggs\":{\"\":{\"terms\":{\"field\":\"t\"}}}}") ≡ refuse 112 (codes "/aggs/")
unfolding computing
an_empty_name_is_112 = refl

a_name_with_a_bracket_is_112 : search_of plain (codes "{\"aggs\":{\"a>b\":{\"terms\":{\"field\":\"t\"}}}}") ≡ refuse 112 (codes "/aggs/a>b")
unfolding computing
a_name_with_a_bracket_is_112 = refl

a_reserved_name_is_112 : search_of plain (codes "{\"aggs\":{\"doc_count\":{\"terms\":{\"field\":\"t\"}}}}") ≡ refuse 112 (codes "/aggs/doc_count")
unfolding computing
a_reserved_name_is_112 = refl

an_empty_filter_name_is_112 : search_of plain (codes "{\"aggs\":{\"a\":{\"filters\":{\"filters\":{\"\":{\"match_all\":{}}}}}}}") ≡ refuse 112 (codes "/aggs/a/filters/filters/")
unfolding computing
an_empty_filter_name_is_112 = refl

an_order_by_no_child_is_113 : search_of plain (codes "{\"aggs\":{\"a\":{\"terms\":{\"field\":\"t\",\"order\":{\"x\":\"asc\"}}}}}") ≡ refuse 113 (codes "/aggs/a/terms/order/x")
unfolding computing
an_order_by_no_child_is_113 = refl

an_average_is_no_fitting_child : search_of plain (codes "{\"aggs\":{\"a\":{\"terms\":{\"field\":\"t\",\"order\":[{\"_key\":\"asc\"},{\"x\":\"asc\"}]},\"aggs\":{\"x\":{\"avg\":{\"field\":\"n\"}}}}}}") ≡ refuse 113 (codes "/aggs/a/terms/order/1/x")
unfolding computing
an_average_is_no_fitting_child = refl

an_order_of_two_members_is_107 : search_of plain (codes "{\"aggs\":{\"a\":{\"terms\":{\"field\":\"t\",\"order\":{\"_key\":\"asc\",\"_count\":\"asc\"}}}}}") ≡ refuse 107 (codes "/aggs/a/terms/order")
unfolding computing
an_order_of_two_members_is_107 = refl

an_empty_list_of_orders_is_104 : search_of plain (codes "{\"aggs\":{\"a\":{\"terms\":{\"field\":\"t\",\"order\":[]}}}}") ≡ refuse 104 (codes "/aggs/a/terms/order")
unfolding computing
an_empty_list_of_orders_is_104 = refl

an_unknown_direction_is_104 : search_of plain (codes "{\"aggs\":{\"a\":{\"terms\":{\"field\":\"t\",\"order\":{\"_key\":\"up\"}}}}}") ≡ refuse 104 (codes "/aggs/a/terms/order/_key")
unfolding computing
an_unknown_direction_is_104 = refl

an_offset_at_the_interval_is_104 : search_of plain (codes "{\"aggs\":{\"a\":{\"histogram\":{\"field\":\"n\",\"interval\":10,\"offset\":10}}}}") ≡ refuse 104 (codes "/aggs/a/histogram/offset")
unfolding computing
an_offset_at_the_interval_is_104 = refl

bounds_with_min_above_max_are_104 : search_of plain (codes "{\"aggs\":{\"a\":{\"histogram\":{\"field\":\"n\",\"interval\":10,\"hard_bounds\":{\"min\":2,\"max\":1}}}}}") ≡ refuse 104 (codes "/aggs/a/histogram/hard_bounds")
unfolding computing
bounds_with_min_above_max_are_104 = refl

extended_bounds_outside_hard_bounds_are_104 : search_of plain (codes "{\"aggs\":{\"a\":{\"histogram\":{\"field\":\"n\",\"interval\":10,\"hard_bounds\":{\"max\":5},\"extended_bounds\":{\"max\":6}}}}}") ≡ refuse 104 (codes "/aggs/a/histogram/extended_bounds")
unfolding computing
extended_bounds_outside_hard_bounds_are_104 = refl

the_other_bucket_with_the_name_of_a_filter_is_104 : search_of plain (codes "{\"aggs\":{\"a\":{\"filters\":{\"filters\":{\"_other_\":{\"match_all\":{}}},\"other_bucket\":true}}}}") ≡ refuse 104 (codes "/aggs/a/filters/other_bucket_key")
unfolding computing
the_other_bucket_with_the_name_of_a_filter_is_104 = refl

no_filters_are_104 : search_of plain (codes "{\"aggs\":{\"a\":{\"filters\":{\"filters\":[]}}}}") ≡ refuse 104 (codes "/aggs/a/filters/filters")
unfolding computing
no_filters_are_104 = refl

absent_filters_are_102 : search_of plain (codes "{\"aggs\":{\"a\":{\"filters\":{}}}}") ≡ refuse 102 (codes "/aggs/a/filters")
unfolding computing
absent_filters_are_102 = refl

after_without_a_name_of_the_sources_is_104 : search_of plain (codes "{\"aggs\":{\"a\":{\"composite\":{\"sources\":[{\"s\":{\"terms\":{\"field\":\"t\"}}}],\"after\":{\"r\":1}}}}}") ≡ refuse 104 (codes "/aggs/a/composite/after")
unfolding computing
after_without_a_name_of_the_sources_is_104 = refl

a_repeated_source_name_is_104 : search_of plain (codes "{\"aggs\":{\"a\":{\"composite\":{\"sources\":[{\"s\":{\"terms\":{\"field\":\"t\"}}},{\"s\":{\"terms\":{\"field\":\"n\"}}}]}}}}") ≡ refuse 104 (codes "/aggs/a/composite/sources/1")
unfolding computing
a_repeated_source_name_is_104 = refl

null_in_after_without_a_missing_bucket_is_104 : search_of plain (codes "{\"aggs\":{\"a\":{\"composite\":{\"sources\":[{\"s\":{\"terms\":{\"field\":\"t\"}}}],\"after\":{\"s\":null}}}}}") ≡ refuse 104 (codes "/aggs/a/composite/after/s")
unfolding computing
null_in_after_without_a_missing_bucket_is_104 = refl

sources_that_are_no_list_are_103 : search_of plain (codes "{\"aggs\":{\"a\":{\"composite\":{\"sources\":{}}}}}") ≡ refuse 103 (codes "/aggs/a/composite/sources")
unfolding computing
sources_that_are_no_list_are_103 = refl

a_missing_value_outside_64_bits_is_104 : search_of plain (codes "{\"aggs\":{\"a\":{\"sum\":{\"field\":\"n\",\"missing\":9223372036854775808}}}}") ≡ refuse 104 (codes "/aggs/a/sum/missing")
unfolding computing
a_missing_value_outside_64_bits_is_104 = refl

unknown_members_come_before_the_field : search_of plain (codes "{\"aggs\":{\"a\":{\"terms\":{\"field\":\"x\",\"fields\":1}}}}") ≡ refuse 101 (codes "/aggs/a/terms/fields")
unfolding computing
unknown_members_come_before_the_field = refl

the_field_is_read_before_other_members : search_of plain (codes "{\"aggs\":{\"a\":{\"terms\":{\"collect_mode\":1,\"field\":\"x\"}}}}") ≡ refuse 108 (codes "/aggs/a/terms/field")
unfolding computing
the_field_is_read_before_other_members = refl

the_kind_is_read_before_the_children : search_of plain (codes "{\"aggs\":{\"a\":{\"aggs\":{\"\":{}},\"terms\":{\"field\":\"x\"}}}}") ≡ refuse 108 (codes "/aggs/a/terms/field")
unfolding computing
the_kind_is_read_before_the_children = refl

partial_results_are_true_or_false : search_of plain (codes "{\"allow_partial_search_results\":null,\"query\":{}}") ≡ refuse 103 (codes "/allow_partial_search_results")
unfolding computing
partial_results_are_true_or_false = refl
