-- Bodies with pipelines: refused, each with the number and the pointer of the first thing refused, or read to their search.
use Rattle.std.specs.Prelude.{◌≡◌, refl, [], ◌∷◌, Some, None, Ok, true, false, codes}
use Rattle.agg_model.specs.declared.query.Query.TheVariants as query
use Rattle.agg_model.specs.declared.aggregation.Agg.{roll-Agg}
use Rattle.agg_model.specs.declared.aggregation.Kind.TheVariants as kind
use Rattle.agg_model.specs.declared.aggregation.OrderBy.TheVariants as by
use Rattle.agg_model.specs.declared.pipeline.PipeKind.TheVariants as pipe
use Rattle.agg_model.specs.declared.pipeline.PipePath.TheVariants as path
use Rattle.agg_reading.specs.Reading.{refuse}
use Rattle.agg_reading.specs.Request.{search_of}
use Rattle.agg_reading.proofs.Computing.{computing}
use Rattle.agg_reading.proofs.Mappings.{plain}

a_pipeline_without_a_path_is_102 : search_of plain (codes "{\"aggs\":{\"a\":{\"histogram\":{\"field\":\"n\",\"interval\":5},\"aggs\":{\"p\":{\"cumulative_sum\":{}}}}}}") ≡ refuse 102 (codes "/aggs/a/aggs/p/cumulative_sum")
unfolding computing
a_pipeline_without_a_path_is_102 = refl

a_number_for_a_pipeline_is_103 : search_of plain (codes "{\"aggs\":{\"a\":{\"histogram\":{\"field\":\"n\",\"interval\":5},\"aggs\":{\"p\":{\"cumulative_sum\":5}}}}}") ≡ refuse 103 (codes "/aggs/a/aggs/p/cumulative_sum")
unfolding computing
a_number_for_a_pipeline_is_103 = refl

a_gap_policy_is_101 : search_of plain (codes "{\"aggs\":{\"a\":{\"histogram\":{\"field\":\"n\",\"interval\":5},\"aggs\":{\"p\":{\"derivative\":{\"buckets_path\":\"_count\",\"gap_policy\":\"skip\"}}}}}}") ≡ refuse 101 (codes "/aggs/a/aggs/p/derivative/gap_policy")
unfolding computing
a_gap_policy_is_101 = refl

a_format_is_101 : search_of plain (codes "{\"aggs\":{\"a\":{\"histogram\":{\"field\":\"n\",\"interval\":5},\"aggs\":{\"p\":{\"cumulative_sum\":{\"buckets_path\":\"_count\",\"format\":\"0\"}}}}}}") ≡ refuse 101 (codes "/aggs/a/aggs/p/cumulative_sum/format")
unfolding computing
a_format_is_101 = refl

a_number_for_a_path_is_103 : search_of plain (codes "{\"aggs\":{\"a\":{\"histogram\":{\"field\":\"n\",\"interval\":5},\"aggs\":{\"p\":{\"cumulative_sum\":{\"buckets_path\":5}}}}}}") ≡ refuse 103 (codes "/aggs/a/aggs/p/cumulative_sum/buckets_path")
unfolding computing
a_number_for_a_path_is_103 = refl

a_path_to_nothing_is_114 : search_of plain (codes "{\"aggs\":{\"a\":{\"histogram\":{\"field\":\"n\",\"interval\":5},\"aggs\":{\"p\":{\"cumulative_sum\":{\"buckets_path\":\"x\"}}}}}}") ≡ refuse 114 (codes "/aggs/a/aggs/p/cumulative_sum/buckets_path")
unfolding computing
a_path_to_nothing_is_114 = refl

a_path_to_the_key_is_114 : search_of plain (codes "{\"aggs\":{\"a\":{\"histogram\":{\"field\":\"n\",\"interval\":5},\"aggs\":{\"p\":{\"cumulative_sum\":{\"buckets_path\":\"_key\"}}}}}}") ≡ refuse 114 (codes "/aggs/a/aggs/p/cumulative_sum/buckets_path")
unfolding computing
a_path_to_the_key_is_114 = refl

a_path_to_an_average_is_114 : search_of plain (codes "{\"aggs\":{\"a\":{\"histogram\":{\"field\":\"n\",\"interval\":5},\"aggs\":{\"p\":{\"derivative\":{\"buckets_path\":\"x\"}},\"x\":{\"avg\":{\"field\":\"n\"}}}}}}") ≡ refuse 114 (codes "/aggs/a/aggs/p/derivative/buckets_path")
unfolding computing
a_path_to_an_average_is_114 = refl

a_sibling_without_a_value_is_114 : search_of plain (codes "{\"aggs\":{\"a\":{\"histogram\":{\"field\":\"n\",\"interval\":5},\"aggs\":{\"p\":{\"sum_bucket\":{\"buckets_path\":\"x\"}},\"x\":{\"terms\":{\"field\":\"n\"}}}}}}") ≡ refuse 114 (codes "/aggs/a/aggs/p/sum_bucket/buckets_path")
unfolding computing
a_sibling_without_a_value_is_114 = refl

a_value_that_the_sibling_has_not_is_114 : search_of plain (codes "{\"aggs\":{\"a\":{\"histogram\":{\"field\":\"n\",\"interval\":5},\"aggs\":{\"p\":{\"sum_bucket\":{\"buckets_path\":\"x>y\"}},\"x\":{\"terms\":{\"field\":\"n\"}}}}}}") ≡ refuse 114 (codes "/aggs/a/aggs/p/sum_bucket/buckets_path")
unfolding computing
a_value_that_the_sibling_has_not_is_114 = refl

a_sibling_of_one_bucket_is_114 : search_of plain (codes "{\"aggs\":{\"a\":{\"histogram\":{\"field\":\"n\",\"interval\":5},\"aggs\":{\"p\":{\"sum_bucket\":{\"buckets_path\":\"x>_count\"}},\"x\":{\"missing\":{\"field\":\"n\"}}}}}}") ≡ refuse 114 (codes "/aggs/a/aggs/p/sum_bucket/buckets_path")
unfolding computing
a_sibling_of_one_bucket_is_114 = refl

a_sort_that_is_no_list_is_103 : search_of plain (codes "{\"aggs\":{\"a\":{\"histogram\":{\"field\":\"n\",\"interval\":5},\"aggs\":{\"p\":{\"bucket_sort\":{\"sort\":5}}}}}}") ≡ refuse 103 (codes "/aggs/a/aggs/p/bucket_sort/sort")
unfolding computing
a_sort_that_is_no_list_is_103 = refl

a_sort_of_five_orders_is_104 : search_of plain (codes "{\"aggs\":{\"a\":{\"histogram\":{\"field\":\"n\",\"interval\":5},\"aggs\":{\"p\":{\"bucket_sort\":{\"sort\":[{},{},{},{},{}]}}}}}}") ≡ refuse 104 (codes "/aggs/a/aggs/p/bucket_sort/sort")
unfolding computing
a_sort_of_five_orders_is_104 = refl

an_empty_order_of_a_sort_is_107 : search_of plain (codes "{\"aggs\":{\"a\":{\"histogram\":{\"field\":\"n\",\"interval\":5},\"aggs\":{\"p\":{\"bucket_sort\":{\"sort\":[{},5]}}}}}}") ≡ refuse 107 (codes "/aggs/a/aggs/p/bucket_sort/sort/0")
unfolding computing
an_empty_order_of_a_sort_is_107 = refl

an_order_that_is_no_object_is_103 : search_of plain (codes "{\"aggs\":{\"a\":{\"histogram\":{\"field\":\"n\",\"interval\":5},\"aggs\":{\"p\":{\"bucket_sort\":{\"sort\":[{\"x\":5}]}}}}}}") ≡ refuse 103 (codes "/aggs/a/aggs/p/bucket_sort/sort/0/x")
unfolding computing
an_order_that_is_no_object_is_103 = refl

an_order_without_a_direction_is_102 : search_of plain (codes "{\"aggs\":{\"a\":{\"histogram\":{\"field\":\"n\",\"interval\":5},\"aggs\":{\"p\":{\"bucket_sort\":{\"sort\":[{\"_count\":{}}]}}}}}}") ≡ refuse 102 (codes "/aggs/a/aggs/p/bucket_sort/sort/0/_count")
unfolding computing
an_order_without_a_direction_is_102 = refl

an_unknown_direction_of_a_sort_is_104 : search_of plain (codes "{\"aggs\":{\"a\":{\"histogram\":{\"field\":\"n\",\"interval\":5},\"aggs\":{\"p\":{\"bucket_sort\":{\"sort\":[{\"x\":{\"order\":\"up\"}}]}}}}}}") ≡ refuse 104 (codes "/aggs/a/aggs/p/bucket_sort/sort/0/x/order")
unfolding computing
an_unknown_direction_of_a_sort_is_104 = refl

a_sort_by_nothing_is_114 : search_of plain (codes "{\"aggs\":{\"a\":{\"histogram\":{\"field\":\"n\",\"interval\":5},\"aggs\":{\"p\":{\"bucket_sort\":{\"sort\":[{\"x\":{\"order\":\"asc\"}}]}}}}}}") ≡ refuse 114 (codes "/aggs/a/aggs/p/bucket_sort/sort/0/x")
unfolding computing
a_sort_by_nothing_is_114 = refl

a_size_below_0_is_104 : search_of plain (codes "{\"aggs\":{\"a\":{\"histogram\":{\"field\":\"n\",\"interval\":5},\"aggs\":{\"p\":{\"bucket_sort\":{\"size\":-1}}}}}}") ≡ refuse 104 (codes "/aggs/a/aggs/p/bucket_sort/size")
unfolding computing
a_size_below_0_is_104 = refl

a_second_bucket_sort_is_115 : search_of plain (codes "{\"aggs\":{\"a\":{\"histogram\":{\"field\":\"n\",\"interval\":5},\"aggs\":{\"p\":{\"bucket_sort\":{}},\"q\":{\"bucket_sort\":{}}}}}}") ≡ refuse 115 (codes "/aggs/a/aggs/q")
unfolding computing
a_second_bucket_sort_is_115 = refl

paths_come_before_places : search_of plain (codes "{\"aggs\":{\"a\":{\"histogram\":{\"field\":\"n\",\"interval\":5},\"aggs\":{\"p\":{\"bucket_sort\":{}},\"q\":{\"bucket_sort\":{}},\"r\":{\"derivative\":{\"buckets_path\":\"x\"}}}}}}") ≡ refuse 114 (codes "/aggs/a/aggs/r/derivative/buckets_path")
unfolding computing
paths_come_before_places = refl

children_of_a_pipeline_are_110 : search_of plain (codes "{\"aggs\":{\"a\":{\"histogram\":{\"field\":\"n\",\"interval\":5},\"aggs\":{\"p\":{\"bucket_sort\":{},\"aggs\":{\"x\":{\"sum\":{\"field\":\"n\"}}}}}}}}") ≡ refuse 110 (codes "/aggs/a/aggs/p/aggs")
unfolding computing
children_of_a_pipeline_are_110 = refl

a_pipeline_below_a_metric_is_110 : search_of plain (codes "{\"aggs\":{\"a\":{\"sum\":{\"field\":\"n\"},\"aggs\":{\"p\":{\"bucket_sort\":{}}}}}}") ≡ refuse 110 (codes "/aggs/a/aggs")
unfolding computing
a_pipeline_below_a_metric_is_110 = refl

a_derivative_below_terms_is_115 : search_of plain (codes "{\"aggs\":{\"a\":{\"terms\":{\"field\":\"t\"},\"aggs\":{\"p\":{\"derivative\":{\"buckets_path\":\"_count\"}}}}}}") ≡ refuse 115 (codes "/aggs/a/aggs/p")
unfolding computing
a_derivative_below_terms_is_115 = refl

a_bucket_sort_below_a_filter_is_115 : search_of plain (codes "{\"aggs\":{\"a\":{\"filter\":{\"match_all\":{}},\"aggs\":{\"p\":{\"bucket_sort\":{}}}}}}") ≡ refuse 115 (codes "/aggs/a/aggs/p")
unfolding computing
a_bucket_sort_below_a_filter_is_115 = refl

a_cumulative_sum_at_the_top_is_115 : search_of plain (codes "{\"aggs\":{\"c\":{\"cumulative_sum\":{\"buckets_path\":\"_count\"}}}}") ≡ refuse 115 (codes "/aggs/c")
unfolding computing
a_cumulative_sum_at_the_top_is_115 = refl

a_path_to_nothing_at_the_top_is_114 : search_of plain (codes "{\"aggs\":{\"c\":{\"cumulative_sum\":{\"buckets_path\":\"x\"}}}}") ≡ refuse 114 (codes "/aggs/c/cumulative_sum/buckets_path")
unfolding computing
a_path_to_nothing_at_the_top_is_114 = refl

orders_come_before_paths : search_of plain (codes "{\"aggs\":{\"a\":{\"terms\":{\"field\":\"t\",\"order\":{\"y\":\"asc\"}},\"aggs\":{\"p\":{\"sum_bucket\":{\"buckets_path\":\"x\"}}}}}}") ≡ refuse 113 (codes "/aggs/a/terms/order/y")
unfolding computing
orders_come_before_paths = refl

a_query_comes_before_pipelines_at_the_top : search_of plain (codes "{\"aggs\":{\"c\":{\"cumulative_sum\":{\"buckets_path\":\"_count\"}}},\"query\":{\"match\":{}}}") ≡ refuse 105 (codes "/query/match")
unfolding computing
a_query_comes_before_pipelines_at_the_top = refl

a_reserved_name_of_a_pipeline_is_112 : search_of plain (codes "{\"aggs\":{\"a\":{\"histogram\":{\"field\":\"n\",\"interval\":5},\"aggs\":{\"key\":{\"bucket_sort\":{}}}}}}") ≡ refuse 112 (codes "/aggs/a/aggs/key")
unfolding computing
a_reserved_name_of_a_pipeline_is_112 = refl

pipelines_below_and_beside :
    search_of plain (codes "{\"aggs\":{\"h\":{\"histogram\":{\"field\":\"n\",\"interval\":10},\"aggs\":{\"c\":{\"cumulative_sum\":{\"buckets_path\":\"_count\"}},\"d\":{\"derivative\":{\"buckets_path\":\"_count\"}}}},\"s\":{\"sum_bucket\":{\"buckets_path\":\"h>_count\"}},\"x\":{\"max_bucket\":{\"buckets_path\":\"h>_count\"}}}}")
    ≡ Ok (record { query = query.All; aggs = (roll-Agg (record { name = codes "h"; kind = kind.Histogram 1 10 0 0 (record { min = None; max = None }) (record { min = None; max = None }) false (record { by = by.Key; descending = false } ∷ []) None; children = [] }) ∷ []); body_bytes = 253; partial = false; pipes = (record { at = 0 ∷ []; name = codes "c"; kind = pipe.CumulativeSum path.Count } ∷ record { at = 0 ∷ []; name = codes "d"; kind = pipe.Derivative path.Count } ∷ record { at = []; name = codes "s"; kind = pipe.SumBucket 0 path.Count } ∷ record { at = []; name = codes "x"; kind = pipe.MaxBucket 0 path.Count } ∷ []) })
unfolding computing
pipelines_below_and_beside = refl

-- in the order of the walk
a_metric_by_its_name_and_value :
    search_of plain (codes "{\"aggs\":{\"b\":{\"min_bucket\":{\"buckets_path\":\"h>m.value\"}},\"h\":{\"histogram\":{\"field\":\"n\",\"interval\":10},\"aggs\":{\"m\":{\"min\":{\"field\":\"n\"}},\"z\":{\"bucket_sort\":{\"sort\":[{\"m\":{\"order\":\"desc\"}},{\"_count\":{\"order\":\"asc\"}}],\"from\":1,\"size\":3}}}}}}")
    ≡ Ok (record { query = query.All; aggs = (roll-Agg (record { name = codes "h"; kind = kind.Histogram 1 10 0 0 (record { min = None; max = None }) (record { min = None; max = None }) false (record { by = by.Key; descending = false } ∷ []) None; children = (roll-Agg (record { name = codes "m"; kind = kind.Min 1 None; children = [] }) ∷ []) }) ∷ []); body_bytes = 238; partial = false; pipes = (record { at = []; name = codes "b"; kind = pipe.MinBucket 0 (path.Child 0) } ∷ record { at = 0 ∷ []; name = codes "z"; kind = pipe.BucketSort (record { path = path.Child 0; descending = true } ∷ record { path = path.Count; descending = false } ∷ []) 1 (Some 3) } ∷ []) })
unfolding computing
a_metric_by_its_name_and_value = refl

a_bucket_sort_keeps_all_by_default :
    search_of plain (codes "{\"aggs\":{\"h\":{\"histogram\":{\"field\":\"n\",\"interval\":10},\"aggs\":{\"z\":{\"bucket_sort\":{},\"aggs\":{}}}}}}")
    ≡ Ok (record { query = query.All; aggs = (roll-Agg (record { name = codes "h"; kind = kind.Histogram 1 10 0 0 (record { min = None; max = None }) (record { min = None; max = None }) false (record { by = by.Key; descending = false } ∷ []) None; children = [] }) ∷ []); body_bytes = 98; partial = false; pipes = (record { at = 0 ∷ []; name = codes "z"; kind = pipe.BucketSort [] 0 None } ∷ []) })
unfolding computing
a_bucket_sort_keeps_all_by_default = refl
