use Rattle.std.specs.Prelude.{◌≡◌, ◌+◌, ◌++◌, [], ◌∷◌, map}
use Rattle.std.specs.List.{AllByRecursion}
use Rattle.std.proofs.Common.{◌∙◌, ap, subst}
use Rattle.agg_model.specs.declared.answer.BucketAnswer.{out-BucketAnswer}
use Rattle.agg_model.specs.declared.answer.NodeAnswer.{out-NodeAnswer}
use Rattle.agg_evaluation.specs.TrueCounts.{true_count, true_key_count}
use Rattle.agg_evaluation.specs.Whole.{parts}
use Rattle.agg_spec.specs.Failures.{unfailed}
use Rattle.agg_spec.specs.Index.{rows_in}
use Rattle.agg_evaluation.specs.Shard.{shard_answer}
use Rattle.agg_model.specs.declared.answer.Answer.{Answer}
use Rattle.agg_model.specs.declared.partial.Partial.{Partial}
use Rattle.list_laws.proofs.Booleans.{holds}
use Rattle.list_laws.proofs.Lists.{sum_by-map}
use Rattle.count_laws.specs.Paths.{answered_by_shard}
use Rattle.count_laws.specs.TermsErrors.{IsBoundOfAll, IsWithinError}
use Rattle.count_laws.specs.TermsSums.{below_minimum_count, other_count, returned_count, whole_of_rows}
use Rattle.count_laws.proofs.AtPaths.{adds_up, bound, within}
use Rattle.count_laws.proofs.Reached.{counts-reached}
use Rattle.answer_laws.proofs.LeftCounts.{left-answer, left-reached}
use Rattle.answer_laws.proofs.laws.counts_of_a_response_are_of_the_shards_left.Goals as goal

pub returns-clause-hits : goal.returns-clause-hits
returns-clause-hits c = λ index search failures.
    let shards = map (rows_in index) (unfailed index failures) in
    ap (λ (a : Answer). a.hits) (left-answer index search (unfailed index failures)) ∙ sum_by-map (λ (t : Partial). t.hits) (shard_answer search) shards

pub returns-clause-sums : goal.returns-clause-sums
returns-clause-sums c = λ index search failures path place a given min fit returned at terms there.
    let shards = map (rows_in index) (unfailed index failures) in
    subst (λ n. returned_count n + other_count n + below_minimum_count min (parts (whole_of_rows a (answered_by_shard search path shards))).buckets ≡ true_key_count shards search path place)
    (left-reached index search (unfailed index failures) path place a given fit returned at there) (adds_up search shards path place a at min terms)

pub returns-clause-errors : goal.returns-clause-errors
returns-clause-errors c = λ index search failures path place a given fit returned at terms there.
    let shards = map (rows_in index) (unfailed index failures) in
    subst (λ n. AllByRecursion (IsWithinError (λ key. true_count shards search (path ++ (place, key) ∷ []))) (out-NodeAnswer n).buckets)
    (left-reached index search (unfailed index failures) path place a given fit returned at there) (within search shards path place a at terms)

pub returns-clause-bound : goal.returns-clause-bound
returns-clause-bound c = λ index search failures path place a given fit returned at terms there.
    let shards = map (rows_in index) (unfailed index failures) in
    subst (λ n. IsBoundOfAll (λ key. true_count shards search (path ++ (place, key) ∷ [])) (parts (whole_of_rows a (answered_by_shard search path shards))).buckets n)
    (left-reached index search (unfailed index failures) path place a given fit returned at there) (bound search shards path place a at terms)

pub returns-clause-counts : goal.returns-clause-counts
returns-clause-counts c = λ index search failures path place a given fit returned at uncut there.
    let shards = map (rows_in index) (unfailed index failures) in
    subst (λ n. AllByRecursion (λ b. (out-BucketAnswer b).count ≡ true_count shards search (path ++ (place, (out-BucketAnswer b).key) ∷ [])) (out-NodeAnswer n).buckets)
    (left-reached index search (unfailed index failures) path place a given fit returned at there) (counts-reached index.mapping search shards (holds _ fit) path place a at uncut)
