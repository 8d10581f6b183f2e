-- Answers of terms, computed: size, errors of counts, minimum counts, include and exclude, missing, values of all types.
use Rattle.std.specs.Prelude.{◌≡◌, refl, pos, negsuc, true, false, [], ◌∷◌, Some, None, codes}
use Rattle.agg_model.specs.declared.row.Scalar.TheVariants as scalar
use Rattle.agg_model.specs.declared.query.Query.TheVariants as query
use Rattle.agg_model.specs.declared.query.Probe.TheVariants as probe
use Rattle.agg_model.specs.declared.aggregation.Kind.TheVariants as kind
use Rattle.agg_model.specs.declared.aggregation.OrderBy.TheVariants as by
use Rattle.agg_spec.specs.Index.{Index}
use Rattle.agg_spec.proofs.Samples.{flags, numbers, words, row, index, one_shard, by_count, by_key, leaf, search_of, aggregations_text}
use Rattle.agg_spec.proofs.Computing.{computing}

abbrev two_shards : Index
two_shards = index ((row (words (codes "a" ∷ []) ∷ []) ∷ row (words (codes "a" ∷ []) ∷ []) ∷ row (words (codes "a" ∷ []) ∷ []) ∷ row (words (codes "b" ∷ []) ∷ []) ∷ row (words (codes "b" ∷ []) ∷ []) ∷ []) ∷ (row (words (codes "b" ∷ []) ∷ []) ∷ row (words (codes "b" ∷ []) ∷ []) ∷ row (words (codes "b" ∷ []) ∷ []) ∷ row (words (codes "a" ∷ []) ∷ []) ∷ []) ∷ [])

-- a is 4 in truth: 3 of the first shard, and at most 3 of the second
cut_to_one_term :
    aggregations_text two_shards (search_of query.All (leaf (codes "t") (kind.Terms 2 1 1 1 by_count None [] None true) ∷ []))
    ≡ codes "{\"t\":{\"buckets\":[{\"doc_count\":3,\"doc_count_error_upper_bound\":3,\"key\":\"a\"}],\"doc_count_error_upper_bound\":6,\"sum_other_doc_count\":6}}"
unfolding computing
cut_to_one_term = refl

cut_by_key :
    aggregations_text two_shards (search_of query.All (leaf (codes "t") (kind.Terms 2 1 1 1 by_key None [] None false) ∷ []))
    ≡ codes "{\"t\":{\"buckets\":[{\"doc_count\":4,\"key\":\"a\"}],\"doc_count_error_upper_bound\":0,\"sum_other_doc_count\":5}}"
unfolding computing
cut_by_key = refl

cut_by_rising_count :
    aggregations_text two_shards (search_of query.All (leaf (codes "t") (kind.Terms 2 1 1 1 (record { by = by.Count; descending = false } ∷ []) None [] None false) ∷ []))
    ≡ codes "{\"t\":{\"buckets\":[{\"doc_count\":1,\"key\":\"a\"}],\"doc_count_error_upper_bound\":-1,\"sum_other_doc_count\":8}}"
unfolding computing
cut_by_rising_count = refl

error_of_bucket_by_rising_count :
    aggregations_text two_shards (search_of query.All (leaf (codes "t") (kind.Terms 2 1 1 1 (record { by = by.Count; descending = false } ∷ []) None [] None true) ∷ []))
    ≡ codes "{\"t\":{\"buckets\":[{\"doc_count\":1,\"doc_count_error_upper_bound\":-1,\"key\":\"a\"}],\"doc_count_error_upper_bound\":-1,\"sum_other_doc_count\":8}}"
unfolding computing
error_of_bucket_by_rising_count = refl

uncut_shards :
    aggregations_text two_shards (search_of query.All (leaf (codes "t") (kind.Terms 2 10 25 1 by_count None [] None true) ∷ []))
    ≡ codes "{\"t\":{\"buckets\":[{\"doc_count\":5,\"doc_count_error_upper_bound\":0,\"key\":\"b\"},{\"doc_count\":4,\"doc_count_error_upper_bound\":0,\"key\":\"a\"}],\"doc_count_error_upper_bound\":0,\"sum_other_doc_count\":0}}"
unfolding computing
uncut_shards = refl

by_count_then_key_descending :
    aggregations_text two_shards (search_of query.All (leaf (codes "t") (kind.Terms 2 10 25 1 (record { by = by.Count; descending = false } ∷ record { by = by.Key; descending = true } ∷ []) None [] None false) ∷ []))
    ≡ codes "{\"t\":{\"buckets\":[{\"doc_count\":4,\"key\":\"a\"},{\"doc_count\":5,\"key\":\"b\"}],\"doc_count_error_upper_bound\":0,\"sum_other_doc_count\":0}}"
unfolding computing
by_count_then_key_descending = refl

minimum_count_is_not_in_other :
    aggregations_text two_shards (search_of query.All (leaf (codes "t") (kind.Terms 2 10 25 5 by_count None [] None false) ∷ []))
    ≡ codes "{\"t\":{\"buckets\":[{\"doc_count\":5,\"key\":\"b\"}],\"doc_count_error_upper_bound\":0,\"sum_other_doc_count\":0}}"
unfolding computing
minimum_count_is_not_in_other = refl

abbrev two_terms : Index
two_terms = one_shard (row (words (codes "a" ∷ []) ∷ []) ∷ row (words (codes "a" ∷ []) ∷ []) ∷ row (words (codes "b" ∷ []) ∷ []) ∷ [])

as_many_terms_as_asked_for :
    aggregations_text two_terms (search_of query.All (leaf (codes "t") (kind.Terms 2 2 2 1 by_count None [] None true) ∷ []))
    ≡ codes "{\"t\":{\"buckets\":[{\"doc_count\":2,\"doc_count_error_upper_bound\":0,\"key\":\"a\"},{\"doc_count\":1,\"doc_count_error_upper_bound\":0,\"key\":\"b\"}],\"doc_count_error_upper_bound\":1,\"sum_other_doc_count\":0}}"
unfolding computing
as_many_terms_as_asked_for = refl

abbrev five_terms : Index
five_terms = one_shard (row (words (codes "a" ∷ []) ∷ []) ∷ row (words (codes "b" ∷ []) ∷ []) ∷ row (words (codes "c" ∷ []) ∷ []) ∷ row (words (codes "d" ∷ []) ∷ []) ∷ row (words (codes "e" ∷ []) ∷ []) ∷ [])

shard_size_raised_to_size :
    aggregations_text five_terms (search_of query.All (leaf (codes "t") (kind.Terms 2 4 4 1 by_count None [] None false) ∷ []))
    ≡ codes "{\"t\":{\"buckets\":[{\"doc_count\":1,\"key\":\"a\"},{\"doc_count\":1,\"key\":\"b\"},{\"doc_count\":1,\"key\":\"c\"},{\"doc_count\":1,\"key\":\"d\"}],\"doc_count_error_upper_bound\":1,\"sum_other_doc_count\":1}}"
unfolding computing
shard_size_raised_to_size = refl

shard_size_by_default :
    aggregations_text five_terms (search_of query.All (leaf (codes "t") (kind.Terms 2 3 14 1 by_count None [] None false) ∷ []))
    ≡ codes "{\"t\":{\"buckets\":[{\"doc_count\":1,\"key\":\"a\"},{\"doc_count\":1,\"key\":\"b\"},{\"doc_count\":1,\"key\":\"c\"}],\"doc_count_error_upper_bound\":0,\"sum_other_doc_count\":2}}"
unfolding computing
shard_size_by_default = refl

included :
    aggregations_text five_terms (search_of query.All (leaf (codes "t") (kind.Terms 2 10 25 1 by_count (Some (probe.Word (codes "b") ∷ probe.Word (codes "c") ∷ probe.Word (codes "x") ∷ [])) [] None false) ∷ []))
    ≡ codes "{\"t\":{\"buckets\":[{\"doc_count\":1,\"key\":\"b\"},{\"doc_count\":1,\"key\":\"c\"}],\"doc_count_error_upper_bound\":0,\"sum_other_doc_count\":0}}"
unfolding computing
included = refl

included_none :
    aggregations_text five_terms (search_of query.All (leaf (codes "t") (kind.Terms 2 10 25 1 by_count (Some ([])) [] None false) ∷ []))
    ≡ codes "{\"t\":{\"buckets\":[],\"doc_count_error_upper_bound\":0,\"sum_other_doc_count\":0}}"
unfolding computing
included_none = refl

excluded :
    aggregations_text five_terms (search_of query.All (leaf (codes "t") (kind.Terms 2 10 25 1 by_count (Some (probe.Word (codes "b") ∷ probe.Word (codes "c") ∷ probe.Word (codes "d") ∷ [])) (probe.Word (codes "c") ∷ []) None false) ∷ []))
    ≡ codes "{\"t\":{\"buckets\":[{\"doc_count\":1,\"key\":\"b\"},{\"doc_count\":1,\"key\":\"d\"}],\"doc_count_error_upper_bound\":0,\"sum_other_doc_count\":0}}"
unfolding computing
excluded = refl

abbrev with_and_without : Index
with_and_without = one_shard (row (numbers (pos 1 ∷ []) ∷ words (codes "a" ∷ []) ∷ []) ∷ row (numbers (pos 2 ∷ []) ∷ []) ∷ row (numbers (pos 2 ∷ []) ∷ []) ∷ [])

missing_as_a_word :
    aggregations_text with_and_without (search_of query.All (leaf (codes "t") (kind.Terms 2 10 25 1 by_count None [] (Some (scalar.Word (codes "none"))) false) ∷ []))
    ≡ codes "{\"t\":{\"buckets\":[{\"doc_count\":2,\"key\":\"none\"},{\"doc_count\":1,\"key\":\"a\"}],\"doc_count_error_upper_bound\":0,\"sum_other_doc_count\":0}}"
unfolding computing
missing_as_a_word = refl

missing_is_excluded :
    aggregations_text with_and_without (search_of query.All (leaf (codes "t") (kind.Terms 2 10 25 1 by_count None (probe.Word (codes "none") ∷ []) (Some (scalar.Word (codes "none"))) false) ∷ []))
    ≡ codes "{\"t\":{\"buckets\":[{\"doc_count\":1,\"key\":\"a\"}],\"doc_count_error_upper_bound\":0,\"sum_other_doc_count\":0}}"
unfolding computing
missing_is_excluded = refl

abbrev flags_and_numbers : Index
flags_and_numbers = one_shard (row (flags (true ∷ []) ∷ numbers (negsuc 0 ∷ []) ∷ []) ∷ row (flags (false ∷ []) ∷ numbers (pos 12 ∷ []) ∷ []) ∷ row (flags (false ∷ []) ∷ numbers (pos 0 ∷ []) ∷ []) ∷ [])

flags_with_their_text :
    aggregations_text flags_and_numbers (search_of query.All (leaf (codes "t") (kind.Terms 0 10 25 1 by_count None [] None false) ∷ []))
    ≡ codes "{\"t\":{\"buckets\":[{\"doc_count\":2,\"key\":0,\"key_as_string\":\"false\"},{\"doc_count\":1,\"key\":1,\"key_as_string\":\"true\"}],\"doc_count_error_upper_bound\":0,\"sum_other_doc_count\":0}}"
unfolding computing
flags_with_their_text = refl

numbers_by_value :
    aggregations_text flags_and_numbers (search_of query.All (leaf (codes "t") (kind.Terms 1 10 25 1 by_count None [] None false) ∷ []))
    ≡ codes "{\"t\":{\"buckets\":[{\"doc_count\":1,\"key\":-1},{\"doc_count\":1,\"key\":0},{\"doc_count\":1,\"key\":12}],\"doc_count_error_upper_bound\":0,\"sum_other_doc_count\":0}}"
unfolding computing
numbers_by_value = refl

numbers_included :
    aggregations_text flags_and_numbers (search_of query.All (leaf (codes "t") (kind.Terms 1 10 25 1 by_count (Some (probe.Whole (pos 12) ∷ probe.Whole (negsuc 0) ∷ [])) [] None false) ∷ []))
    ≡ codes "{\"t\":{\"buckets\":[{\"doc_count\":1,\"key\":-1},{\"doc_count\":1,\"key\":12}],\"doc_count_error_upper_bound\":0,\"sum_other_doc_count\":0}}"
unfolding computing
numbers_included = refl
