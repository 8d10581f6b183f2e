-- Answers of filters, filter, missing and global, computed.
use Rattle.std.specs.Prelude.{◌≡◌, refl, pos, false, [], ◌∷◌, Some, None, codes}
use Rattle.agg_model.specs.declared.query.Query.TheVariants as query
use Rattle.agg_model.specs.declared.query.Probe.TheVariants as probe
use Rattle.agg_model.specs.declared.query.RangeOp.TheVariants as range
use Rattle.agg_model.specs.declared.aggregation.Kind.TheVariants as kind
use Rattle.agg_spec.specs.Index.{Index}
use Rattle.agg_spec.proofs.Samples.{numbers, words, row, one_shard, by_count, agg, leaf, search_of, aggregations_text}
use Rattle.agg_spec.proofs.Computing.{computing}

abbrev words_of_two : Index
words_of_two = one_shard (row (words (codes "p" ∷ codes "q" ∷ []) ∷ []) ∷ row (words (codes "z" ∷ []) ∷ []) ∷ [])

named_filters_with_other :
    aggregations_text words_of_two (search_of query.All (leaf (codes "f") (kind.Filters (Some (codes "x" ∷ codes "y" ∷ [])) (query.Term 2 (probe.Word (codes "p")) ∷ query.Term 2 (probe.Word (codes "q")) ∷ []) (Some (codes "rest"))) ∷ []))
    ≡ codes "{\"f\":{\"buckets\":{\"rest\":{\"doc_count\":1},\"x\":{\"doc_count\":1},\"y\":{\"doc_count\":1}}}}"
unfolding computing
named_filters_with_other = refl

listed_filters_with_other :
    aggregations_text words_of_two (search_of query.All (agg (codes "f") (kind.Filters None (query.Term 2 (probe.Word (codes "p")) ∷ query.Term 2 (probe.Word (codes "q")) ∷ []) (Some (codes "_other_"))) (leaf (codes "v") (kind.ValueCount 2 None) ∷ []) ∷ []))
    ≡ codes "{\"f\":{\"buckets\":[{\"doc_count\":1,\"v\":{\"value\":2}},{\"doc_count\":1,\"v\":{\"value\":2}},{\"doc_count\":1,\"v\":{\"value\":1}}]}}"
unfolding computing
listed_filters_with_other = refl

named_filters_without_other :
    aggregations_text words_of_two (search_of query.All (leaf (codes "f") (kind.Filters (Some (codes "x" ∷ codes "y" ∷ [])) (query.Term 2 (probe.Word (codes "p")) ∷ query.All ∷ []) None) ∷ []))
    ≡ codes "{\"f\":{\"buckets\":{\"x\":{\"doc_count\":1},\"y\":{\"doc_count\":2}}}}"
unfolding computing
named_filters_without_other = refl

filter_with_child :
    aggregations_text words_of_two (search_of query.All (agg (codes "f") (kind.Filter (query.Terms 2 (probe.Word (codes "q") ∷ probe.Word (codes "y") ∷ []))) (leaf (codes "t") (kind.Terms 2 10 25 1 by_count None [] None false) ∷ []) ∷ []))
    ≡ codes "{\"f\":{\"doc_count\":1,\"t\":{\"buckets\":[{\"doc_count\":1,\"key\":\"p\"},{\"doc_count\":1,\"key\":\"q\"}],\"doc_count_error_upper_bound\":0,\"sum_other_doc_count\":0}}}"
unfolding computing
filter_with_child = refl

missing_of_a_field :
    aggregations_text words_of_two (search_of query.All (leaf (codes "m") (kind.Missing 1) ∷ leaf (codes "none") (kind.Missing 2) ∷ []))
    ≡ codes "{\"m\":{\"doc_count\":2},\"none\":{\"doc_count\":0}}"
unfolding computing
missing_of_a_field = refl

global_whatever_the_query :
    aggregations_text words_of_two (search_of (query.Term 2 (probe.Word (codes "z"))) (agg (codes "g") kind.Global (leaf (codes "t") (kind.Terms 2 10 25 1 by_count None [] None false) ∷ []) ∷ leaf (codes "t") (kind.Terms 2 10 25 1 by_count None [] None false) ∷ []))
    ≡ codes "{\"g\":{\"doc_count\":2,\"t\":{\"buckets\":[{\"doc_count\":1,\"key\":\"p\"},{\"doc_count\":1,\"key\":\"q\"},{\"doc_count\":1,\"key\":\"z\"}],\"doc_count_error_upper_bound\":0,\"sum_other_doc_count\":0}},\"t\":{\"buckets\":[{\"doc_count\":1,\"key\":\"z\"}],\"doc_count_error_upper_bound\":0,\"sum_other_doc_count\":0}}"
unfolding computing
global_whatever_the_query = refl

abbrev numbered : Index
numbered = one_shard (row (numbers (pos 1 ∷ []) ∷ words (codes "a" ∷ []) ∷ []) ∷ row (numbers (pos 5 ∷ []) ∷ words (codes "a" ∷ []) ∷ []) ∷ row (numbers (pos 9 ∷ []) ∷ words (codes "b" ∷ []) ∷ []) ∷ [])

range_query :
    aggregations_text numbered (search_of (query.Range 1 (record { op = range.Gte; value = probe.Whole (pos 5) } ∷ [])) (leaf (codes "t") (kind.Terms 2 10 25 1 by_count None [] None false) ∷ []))
    ≡ codes "{\"t\":{\"buckets\":[{\"doc_count\":1,\"key\":\"a\"},{\"doc_count\":1,\"key\":\"b\"}],\"doc_count_error_upper_bound\":0,\"sum_other_doc_count\":0}}"
unfolding computing
range_query = refl

must_not_query :
    aggregations_text numbered (search_of (query.Bool ([]) (query.Term 2 (probe.Word (codes "a")) ∷ []) ([]) 0) (leaf (codes "t") (kind.Terms 2 10 25 1 by_count None [] None false) ∷ []))
    ≡ codes "{\"t\":{\"buckets\":[{\"doc_count\":1,\"key\":\"b\"}],\"doc_count_error_upper_bound\":0,\"sum_other_doc_count\":0}}"
unfolding computing
must_not_query = refl

should_query_with_minimum :
    aggregations_text numbered (search_of (query.Bool ([]) ([]) (query.Term 2 (probe.Word (codes "a")) ∷ query.Range 1 (record { op = range.Gt; value = probe.Whole (pos 4) } ∷ []) ∷ []) 2) (leaf (codes "t") (kind.Terms 2 10 25 1 by_count None [] None false) ∷ []))
    ≡ codes "{\"t\":{\"buckets\":[{\"doc_count\":1,\"key\":\"a\"}],\"doc_count_error_upper_bound\":0,\"sum_other_doc_count\":0}}"
unfolding computing
should_query_with_minimum = refl

exists_and_ids_query :
    aggregations_text numbered (search_of (query.Bool (query.Exists 1 ∷ []) (query.Ids (codes "9" ∷ []) ∷ []) ([]) 0) (leaf (codes "t") (kind.Terms 2 10 25 1 by_count None [] None false) ∷ []))
    ≡ codes "{\"t\":{\"buckets\":[{\"doc_count\":2,\"key\":\"a\"},{\"doc_count\":1,\"key\":\"b\"}],\"doc_count_error_upper_bound\":0,\"sum_other_doc_count\":0}}"
unfolding computing
exists_and_ids_query = refl
