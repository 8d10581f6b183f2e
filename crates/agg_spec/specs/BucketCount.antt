-- The number of buckets of an answer, which `search.max_buckets` limits ('Search settings').
use Rattle.std.specs.Prelude.{ℕ, ◌+◌, ◌-◌, ◌^◌, min, true, false, List, [], ◌∷◌, map, length, sum}
use Rattle.agg_model.specs.declared.answer.BucketAnswer.{out-BucketAnswer}
use Rattle.agg_model.specs.declared.answer.NodeAnswer.{NodeAnswer, out-NodeAnswer}
use Rattle.agg_model.specs.declared.answer.Answer.{Answer}
use Rattle.agg_model.specs.declared.aggregation.Kind.{Kind}
use Rattle.agg_evaluation.specs.Profile.{profile}
use Rattle.agg_model.specs.declared.aggregation.Agg.{Agg}
use Rattle.agg_model.specs.declared.aggregation.Search.{Search}
use Rattle.agg_evaluation.specs.Folds.{fold_agg}

-- the number of buckets of an answer to one aggregation, those below it included
abbrev pub Counter : Type 0
Counter = NodeAnswer → ℕ

abbrev pub count_each : List Counter → List NodeAnswer → ℕ
count_each [] nodes = 0
count_each (c ∷ cs) [] = 0
count_each (c ∷ cs) (n ∷ ns) = c n + count_each cs ns

-- how many of the buckets are members of a `buckets`: the one bucket of a single-bucket aggregation is none
abbrev pub member_count : {A : Type 0} → Kind → List A → ℕ
member_count k buckets = elim (profile k).listed [ true ↦ length buckets | false ↦ 0 ]

abbrev pub counter : Agg → Counter
counter = fold_agg (λ a n.
    let buckets = (out-NodeAnswer n).buckets in
    member_count a.kind buckets + sum (map (λ b. count_each a.children (out-BucketAnswer b).children) buckets))

abbrev pub greatest_count : ℕ
greatest_count = 2 ^ 64 - 1

-- the number of buckets of an answer, or the greatest count where there are more
abbrev pub total_buckets : Search → Answer → ℕ
total_buckets search answer = min (count_each (map counter search.aggs) answer.nodes) greatest_count
