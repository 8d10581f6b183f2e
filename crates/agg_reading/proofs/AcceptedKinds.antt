-- Bodies with each kind of aggregation, and the searches that they are.
use Rattle.std.specs.Prelude.{◌≡◌, refl, pos, negsuc, [], ◌∷◌, Some, None, Ok, true, false, codes}
use Rattle.agg_model.specs.declared.aggregation.Agg.{roll-Agg}
use Rattle.agg_model.specs.declared.aggregation.Kind.TheVariants as kind
use Rattle.agg_model.specs.declared.aggregation.OrderBy.TheVariants as by
use Rattle.agg_model.specs.declared.query.Query as query
use Rattle.agg_model.specs.declared.query.Probe.TheVariants as probe
use Rattle.agg_model.specs.declared.row.Scalar.TheVariants as scalar
use Rattle.agg_model.specs.declared.key.Key.TheVariants as key
use Rattle.agg_reading.specs.Request.{search_of}
use Rattle.agg_reading.proofs.Computing.{computing}
use Rattle.agg_reading.proofs.Mappings.{plain, nested_orders}

terms_with_defaults : search_of plain (codes "{\"aggs\":{\"a\":{\"terms\":{\"field\":\"t\"}}}}") ≡ Ok (record { query = query.All; aggs = ((roll-Agg (record { name = codes "a"; kind = kind.Terms 2 10 25 1 (record { by = by.Count; descending = true } ∷ []) None [] None false; children = [] })) ∷ []); body_bytes = 38; partial = false; pipes = [] })
unfolding computing
terms_with_defaults = refl

shard_size_is_one_and_a_half_times_the_size_and_ten : search_of plain (codes "{\"aggs\":{\"a\":{\"terms\":{\"field\":\"n\",\"size\":3}}}}") ≡ Ok (record { query = query.All; aggs = ((roll-Agg (record { name = codes "a"; kind = kind.Terms 1 3 14 1 (record { by = by.Count; descending = true } ∷ []) None [] None false; children = [] })) ∷ []); body_bytes = 47; partial = false; pipes = [] })
unfolding computing
shard_size_is_one_and_a_half_times_the_size_and_ten = refl

shard_size_is_raised_to_the_size : search_of plain (codes "{\"aggs\":{\"a\":{\"terms\":{\"field\":\"n\",\"size\":4,\"shard_size\":2}}}}") ≡ Ok (record { query = query.All; aggs = ((roll-Agg (record { name = codes "a"; kind = kind.Terms 1 4 4 1 (record { by = by.Count; descending = true } ∷ []) None [] None false; children = [] })) ∷ []); body_bytes = 62; partial = false; pipes = [] })
unfolding computing
shard_size_is_raised_to_the_size = refl

terms_with_all_members : search_of plain (codes "{\"aggs\":{\"a\":{\"terms\":{\"field\":\"n\",\"size\":5,\"shard_size\":9,\"min_doc_count\":2,\"order\":[{\"s.value\":\"desc\"},{\"_key\":\"asc\"}],\"include\":[1,\"-2\"],\"exclude\":[\"3\"],\"missing\":\"-0\",\"show_term_doc_count_error\":true,\"collect_mode\":\"breadth_first\",\"execution_hint\":\"map\"},\"aggs\":{\"r\":{\"avg\":{\"field\":\"n\"}},\"s\":{\"max\":{\"field\":\"n\"}}}}}}") ≡ Ok (record { query = query.All; aggs = ((roll-Agg (record { name = codes "a"; kind = kind.Terms 1 5 9 2 (record { by = by.Child 1; descending = true } ∷ record { by = by.Key; descending = false } ∷ []) (Some (probe.Whole (pos 1) ∷ probe.Whole (negsuc 1) ∷ [])) (probe.Whole (pos 3) ∷ []) (Some (scalar.Whole (pos 0))) true; children = (roll-Agg (record { name = codes "r"; kind = kind.Avg 1 None; children = [] }) ∷ roll-Agg (record { name = codes "s"; kind = kind.Max 1 None; children = [] }) ∷ []) })) ∷ []); body_bytes = 322; partial = false; pipes = [] })
unfolding computing
terms_with_all_members = refl

a_child_of_the_exact_name_comes_first : search_of plain (codes "{\"aggs\":{\"a\":{\"terms\":{\"field\":\"t\",\"order\":{\"s.value\":\"asc\"}},\"aggs\":{\"s\":{\"sum\":{\"field\":\"n\"}},\"s.value\":{\"min\":{\"field\":\"n\"}}}}}}") ≡ Ok (record { query = query.All; aggs = ((roll-Agg (record { name = codes "a"; kind = kind.Terms 2 10 25 1 (record { by = by.Child 1; descending = false } ∷ []) None [] None false; children = (roll-Agg (record { name = codes "s"; kind = kind.Sum 1 None; children = [] }) ∷ roll-Agg (record { name = codes "s.value"; kind = kind.Min 1 None; children = [] }) ∷ []) })) ∷ []); body_bytes = 131; partial = false; pipes = [] })
unfolding computing
a_child_of_the_exact_name_comes_first = refl

include_of_nothing : search_of plain (codes "{\"aggs\":{\"a\":{\"terms\":{\"field\":\"b\",\"include\":[],\"exclude\":[\"true\",false],\"missing\":true}}}}") ≡ Ok (record { query = query.All; aggs = ((roll-Agg (record { name = codes "a"; kind = kind.Terms 0 10 25 1 (record { by = by.Count; descending = true } ∷ []) (Some []) (probe.Flag true ∷ probe.Flag false ∷ []) (Some (scalar.Flag true)) false; children = [] })) ∷ []); body_bytes = 91; partial = false; pipes = [] })
unfolding computing
include_of_nothing = refl

histogram_with_defaults : search_of plain (codes "{\"aggs\":{\"a\":{\"histogram\":{\"field\":\"n\",\"interval\":10}}}}") ≡ Ok (record { query = query.All; aggs = ((roll-Agg (record { name = codes "a"; kind = kind.Histogram 1 10 0 0 (record { min = None; max = None }) (record { min = None; max = None }) false (record { by = by.Key; descending = false } ∷ []) None; children = [] })) ∷ []); body_bytes = 56; partial = false; pipes = [] })
unfolding computing
histogram_with_defaults = refl

histogram_with_all_members : search_of plain (codes "{\"aggs\":{\"a\":{\"histogram\":{\"field\":\"n\",\"interval\":10,\"offset\":3,\"min_doc_count\":1,\"extended_bounds\":{\"min\":-5,\"max\":5},\"hard_bounds\":{\"min\":-9223372036854775808},\"keyed\":true,\"order\":{\"_count\":\"desc\"},\"missing\":-7}}}}") ≡ Ok (record { query = query.All; aggs = ((roll-Agg (record { name = codes "a"; kind = kind.Histogram 1 10 3 1 (record { min = Some (negsuc 4); max = Some (pos 5) }) (record { min = Some (negsuc 9223372036854775807); max = None }) true (record { by = by.Count; descending = true } ∷ []) (Some (scalar.Whole (negsuc 6))); children = [] })) ∷ []); body_bytes = 217; partial = false; pipes = [] })
unfolding computing
histogram_with_all_members = refl

named_filters_with_another_bucket : search_of plain (codes "{\"aggs\":{\"a\":{\"filters\":{\"filters\":{\"y\":{\"term\":{\"t\":\"q\"}},\"x\":{\"term\":{\"t\":\"p\"}}},\"other_bucket_key\":\"rest\"}}}}") ≡ Ok (record { query = query.All; aggs = ((roll-Agg (record { name = codes "a"; kind = kind.Filters (Some (codes "x" ∷ codes "y" ∷ [])) (query.Term 2 (probe.Word (codes "p")) ∷ query.Term 2 (probe.Word (codes "q")) ∷ []) (Some (codes "rest")); children = [] })) ∷ []); body_bytes = 112; partial = false; pipes = [] })
unfolding computing
named_filters_with_another_bucket = refl

listed_filters : search_of plain (codes "{\"aggs\":{\"a\":{\"filters\":{\"filters\":[{\"exists\":{\"field\":\"n\"}},{\"match_all\":{}}],\"other_bucket\":true}}}}") ≡ Ok (record { query = query.All; aggs = ((roll-Agg (record { name = codes "a"; kind = kind.Filters None (query.Exists 1 ∷ query.All ∷ []) (Some (codes "_other_")); children = [] })) ∷ []); body_bytes = 102; partial = false; pipes = [] })
unfolding computing
listed_filters = refl

filter : search_of plain (codes "{\"aggs\":{\"a\":{\"filter\":{\"term\":{\"n\":5}},\"aggs\":{\"v\":{\"value_count\":{\"field\":\"t\"}}}}}}") ≡ Ok (record { query = query.All; aggs = ((roll-Agg (record { name = codes "a"; kind = kind.Filter (query.Term 1 (probe.Whole (pos 5))); children = (roll-Agg (record { name = codes "v"; kind = kind.ValueCount 2 None; children = [] }) ∷ []) })) ∷ []); body_bytes = 85; partial = false; pipes = [] })
unfolding computing
filter = refl

missing : search_of plain (codes "{\"aggs\":{\"a\":{\"missing\":{\"field\":\"n\"}}}}") ≡ Ok (record { query = query.All; aggs = (roll-Agg (record { name = codes "a"; kind = kind.Missing 1; children = [] }) ∷ []); body_bytes = 40; partial = false; pipes = [] })
unfolding computing
missing = refl

global_at_the_top : search_of plain (codes "{\"aggs\":{\"a\":{\"global\":{},\"aggs\":{\"s\":{\"sum\":{\"field\":\"n\",\"missing\":1}}}}}}") ≡ Ok (record { query = query.All; aggs = ((roll-Agg (record { name = codes "a"; kind = kind.Global; children = (roll-Agg (record { name = codes "s"; kind = kind.Sum 1 (Some (scalar.Whole (pos 1))); children = [] }) ∷ []) })) ∷ []); body_bytes = 75; partial = false; pipes = [] })
unfolding computing
global_at_the_top = refl

nested_and_reverse_nested : search_of nested_orders (codes "{\"aggs\":{\"o\":{\"nested\":{\"path\":\"items\"},\"aggs\":{\"by\":{\"terms\":{\"field\":\"items.s\"},\"aggs\":{\"back\":{\"reverse_nested\":{}}}}}}}}") ≡ Ok (record { query = query.All; aggs = ((roll-Agg (record { name = codes "o"; kind = kind.Nested 1; children = ((roll-Agg (record { name = codes "by"; kind = kind.Terms 0 10 25 1 (record { by = by.Count; descending = true } ∷ []) None [] None false; children = (roll-Agg (record { name = codes "back"; kind = kind.ReverseNested 0; children = [] }) ∷ []) })) ∷ []) })) ∷ []); body_bytes = 124; partial = false; pipes = [] })
unfolding computing
nested_and_reverse_nested = refl

composite_with_after : search_of plain (codes "{\"aggs\":{\"a\":{\"composite\":{\"size\":2,\"after\":{\"k\":null,\"m\":\"7\"},\"sources\":[{\"m\":{\"histogram\":{\"field\":\"n\",\"interval\":5,\"order\":\"desc\"}}},{\"k\":{\"terms\":{\"field\":\"t\",\"missing_bucket\":true}}}]}}}}") ≡ Ok (record { query = query.All; aggs = ((roll-Agg (record { name = codes "a"; kind = kind.Composite (record { name = codes "m"; field = 1; interval = Some 5; descending = true; missing_bucket = false } ∷ record { name = codes "k"; field = 2; interval = None; descending = false; missing_bucket = true } ∷ []) 2 (Some (key.Many (key.Whole (pos 7) ∷ key.Null ∷ []))); children = [] })) ∷ []); body_bytes = 192; partial = false; pipes = [] })
unfolding computing
composite_with_after = refl

five_metrics : search_of plain (codes "{\"aggs\":{\"a\":{\"sum\":{\"field\":\"n\"}},\"b\":{\"min\":{\"field\":\"n\"}},\"c\":{\"max\":{\"field\":\"n\"}},\"d\":{\"avg\":{\"field\":\"n\"}},\"e\":{\"value_count\":{\"field\":\"b\"}}}}") ≡ Ok (record { query = query.All; aggs = (roll-Agg (record { name = codes "a"; kind = kind.Sum 1 None; children = [] }) ∷ roll-Agg (record { name = codes "b"; kind = kind.Min 1 None; children = [] }) ∷ roll-Agg (record { name = codes "c"; kind = kind.Max 1 None; children = [] }) ∷ roll-Agg (record { name = codes "d"; kind = kind.Avg 1 None; children = [] }) ∷ roll-Agg (record { name = codes "e"; kind = kind.ValueCount 0 None; children = [] }) ∷ []); body_bytes = 148; partial = false; pipes = [] })
unfolding computing
five_metrics = refl

an_empty_object_of_children_is_none : search_of plain (codes "{\"aggs\":{\"a\":{\"sum\":{\"field\":\"n\"},\"aggs\":{}}}}") ≡ Ok (record { query = query.All; aggs = (roll-Agg (record { name = codes "a"; kind = kind.Sum 1 None; children = [] }) ∷ []); body_bytes = 46; partial = false; pipes = [] })
unfolding computing
an_empty_object_of_children_is_none = refl

members_without_effect : search_of plain (codes "{\"size\":0,\"from\":null,\"track_total_hits\":[],\"_source\":false,\"sort\":1,\"timeout\":\"\",\"fields\":[],\"stored_fields\":0,\"docvalue_fields\":0,\"explain\":0,\"version\":0,\"seq_no_primary_term\":0,\"track_scores\":0}") ≡ Ok (record { query = query.All; aggs = []; body_bytes = 197; partial = false; pipes = [] })
unfolding computing
members_without_effect = refl
