use Rattle.std.specs.Prelude.{◌≡◌, ◌+◌, ◌++◌, [], ◌∷◌}
use Rattle.std.specs.List.{AllByRecursion}
use Rattle.std.proofs.Common.{sym, ◌∙◌, subst, arith}
use Rattle.agg_model.specs.declared.answer.BucketAnswer.{out-BucketAnswer}
use Rattle.agg_model.specs.declared.answer.NodeAnswer.{out-NodeAnswer}
use Rattle.agg_evaluation.specs.TrueCounts.{true_count, true_key_count}
use Rattle.agg_evaluation.specs.Whole.{parts}
use Rattle.agg_evaluation.specs.Shard.{shard_answer}
use Rattle.agg_model.specs.declared.partial.Partial.{Partial}
use Rattle.list_laws.proofs.Booleans.{holds}
use Rattle.list_laws.proofs.Lists.{sum_by-map}
use Rattle.count_laws.specs.Paths.{answered_by_shard}
use Rattle.count_laws.specs.TermsErrors.{IsBoundOfAll, IsWithinError}
use Rattle.count_laws.specs.TermsSums.{below_minimum_count, other_count, returned_count, whole_of_rows}
use Rattle.count_laws.proofs.AtPaths.{adds_up, bound, some-same, within}
use Rattle.count_laws.proofs.EachCounted.{all-counted}
use Rattle.count_laws.proofs.Reached.{answer-reached, counts-reached}
use Rattle.count_laws.proofs.laws.counts_of_an_answer_are_true_below_returned_buckets.Goals as goal

pub returns-clause-hits : goal.returns-clause-hits
returns-clause-hits c = λ request shards. sum_by-map (λ (t : Partial). t.hits) (shard_answer request) shards

pub returns-clause-sums : goal.returns-clause-sums
returns-clause-sums c = λ m request shards path place a given min fit returned at terms there.
    subst (λ n. returned_count n + other_count n + below_minimum_count min (parts (whole_of_rows a (answered_by_shard request path shards))).buckets ≡ true_key_count shards request path place)
    (some-same (sym (answer-reached m request shards (holds _ fit) path place a (holds _ returned) at) ∙ there)) (adds_up request shards path place a at min terms)

pub returns-clause-printed_sums : goal.returns-clause-printed_sums
returns-clause-printed_sums c = λ m request shards path place a given fit returned at terms there.
    let here = answered_by_shard request path shards in
    let none = all-counted a 1 here terms in
    let all = adds_up request shards path place a at 1 terms in
    subst (λ n. returned_count n + other_count n ≡ true_key_count shards request path place)
    (some-same (sym (answer-reached m request shards (holds _ fit) path place a (holds _ returned) at) ∙ there)) (omega (arith, none, all))

pub returns-clause-errors : goal.returns-clause-errors
returns-clause-errors c = λ m request shards path place a given fit returned at terms there.
    subst (λ n. AllByRecursion (IsWithinError (λ key. true_count shards request (path ++ (place, key) ∷ []))) (out-NodeAnswer n).buckets)
    (some-same (sym (answer-reached m request shards (holds _ fit) path place a (holds _ returned) at) ∙ there)) (within request shards path place a at terms)

pub returns-clause-bound : goal.returns-clause-bound
returns-clause-bound c = λ m request shards path place a given fit returned at terms there.
    let here = answered_by_shard request path shards in
    subst (λ n. IsBoundOfAll (λ key. true_count shards request (path ++ (place, key) ∷ [])) (parts (whole_of_rows a here)).buckets n)
    (some-same (sym (answer-reached m request shards (holds _ fit) path place a (holds _ returned) at) ∙ there)) (bound request shards path place a at terms)

pub returns-clause-counts : goal.returns-clause-counts
returns-clause-counts c = λ m request shards path place a given fit returned at uncut there.
    subst (λ n. AllByRecursion (λ b. (out-BucketAnswer b).count ≡ true_count shards request (path ++ (place, (out-BucketAnswer b).key) ∷ [])) (out-NodeAnswer n).buckets)
    (some-same (sym (answer-reached m request shards (holds _ fit) path place a (holds _ returned) at) ∙ there)) (counts-reached m request shards (holds _ fit) path place a at uncut)
