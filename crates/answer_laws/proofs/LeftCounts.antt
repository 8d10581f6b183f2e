-- What the answer of the shards that are left has at the end of a path of returned buckets.
use Rattle.std.specs.Prelude.{◌≡◌, ℕ, IsTrue, List, map, Some, slice_get}
use Rattle.std.proofs.Common.{sym, ◌∙◌, ap, subst}
use Rattle.agg_model.specs.declared.answer.NodeAnswer.{NodeAnswer}
use Rattle.agg_model.specs.declared.aggregation.Agg.{Agg}
use Rattle.agg_model.specs.declared.aggregation.Search.{Search}
use Rattle.agg_evaluation.specs.SearchFits.{search_fits}
use Rattle.agg_evaluation.specs.Shard.{shard_answer}
use Rattle.agg_evaluation.specs.TrueCounts.{BucketPath, aggs_at}
use Rattle.agg_evaluation.specs.Whole.{whole}
use Rattle.agg_spec.specs.Final.{final}
use Rattle.agg_spec.specs.Index.{Index, rows_in}
use Rattle.agg_spec.specs.Outcome.{answer_of, whole_of}
use Rattle.list_laws.proofs.Booleans.{holds}
use Rattle.list_laws.proofs.Lists.{map-map}
use Rattle.count_laws.specs.Paths.{answer_of_shards, answered_by_shard, whole_of_shards}
use Rattle.count_laws.specs.ReturnedPaths.{answers_at, is_returned}
use Rattle.count_laws.specs.TermsSums.{answer_of_rows}
use Rattle.count_laws.proofs.AtPaths.{some-same}
use Rattle.count_laws.proofs.Reached.{answer-reached}

left-whole : (index : Index) (search : Search) (left : List ℕ) → whole_of index search left ≡ whole_of_shards search (map (rows_in index) left)
left-whole index search left = ap (whole search) (sym (map-map (shard_answer search) (rows_in index) left))

pub left-answer : (index : Index) (search : Search) (left : List ℕ) → answer_of index search left ≡ answer_of_shards search (map (rows_in index) left)
left-answer index search left = ap (final search) (left-whole index search left)

pub left-reached : (index : Index) (search : Search) (left : List ℕ) (path : BucketPath) (place : ℕ) (a : Agg) (given : NodeAnswer) → IsTrue (search_fits index.mapping search)
    → IsTrue (is_returned search.aggs (whole_of index search left).nodes path) → slice_get (aggs_at search.aggs path) place ≡ Some a
    → slice_get (answers_at (answer_of index search left).nodes path) place ≡ Some given → answer_of_rows a (answered_by_shard search path (map (rows_in index) left)) ≡ given
left-reached index search left path place a given fit returned at there =
    let shards = map (rows_in index) left in
    let here = subst (λ w. IsTrue (is_returned search.aggs w.nodes path)) (left-whole index search left) returned in
    some-same (sym (answer-reached index.mapping search shards (holds _ fit) path place a (holds _ here) at) ∙ ap (λ answer. slice_get (answers_at answer.nodes path) place) (sym (left-answer index search left)) ∙ there)
