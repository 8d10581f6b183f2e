-- The trace of a task: the amounts that it charges and gives back while it collects, row after row (Elasticsearch Reference 8,
-- 'Circuit breaker settings': the request circuit breaker).
use Rattle.std.specs.Prelude.{ℕ, ℤ, pos, ◌-ℤ◌, ◌+◌, ◌-◌, not, Bool, true, false, if◌then◌else◌, List, [], ◌∷◌, map, filter, length, take}
use Rattle.std.specs.List.{list_any, range_with_len}
use Rattle.std.specs.Int.{int_max, is_positive}
use Rattle.std.specs.Ordering.{int_eq}
use Rattle.agg_model.specs.declared.costs.TheConstants.{TASK_BYTES}
use Rattle.agg_model.specs.declared.partial.Partial.{Partial}
use Rattle.agg_model.specs.declared.aggregation.Agg.{out-Agg}
use Rattle.agg_model.specs.declared.aggregation.Kind.{Kind}
use Rattle.agg_model.specs.declared.aggregation.Search.{Search}
use Rattle.agg_evaluation.specs.Profile.{Steps, profile}
use Rattle.agg_evaluation.specs.Rows.{PlacedRow, roots}
use Rattle.agg_evaluation.specs.Matching.{matched_roots}
use Rattle.agg_evaluation.specs.Shard.{collected_node, int_sum, shard_answer}
use Rattle.agg_evaluation.specs.Cost.{cost}

abbrev pub is_global : Kind → Bool
is_global k = elim (profile k).steps [
  | Steps.same ↦ false
  | Steps.down context ↦ false
  | Steps.up context ↦ false
  | Steps.all_roots ↦ true
]

module _ (search : Search) (all : List PlacedRow) where
  abbrev pub matched : List PlacedRow
  matched = matched_roots all search.query

  -- the roots that a global aggregation collects, after the matched ones
  abbrev pub global_roots : List PlacedRow
  global_roots = if list_any (λ a. is_global (out-Agg a).kind) search.aggs then roots all else []

  -- The tree after the first n collected rows. Terms are not cut yet, and a composite keeps its page.
  abbrev pub built : ℕ → Partial
  built n =
      let globals = take (n - length matched) global_roots in
      record { hits = length matched; nodes = map (λ a. collected_node false all globals a (take n matched)) search.aggs }

  -- the cost of no row, of the first row, of the first two, ..
  abbrev pub built_costs : List ℕ
  built_costs = map (λ n. cost (built n)) (range_with_len 0 (length matched + length global_roots + 1))

-- from the first number to the first of the list, from there to the next, .., and at last to the end
abbrev pub differences : ℕ → List ℕ → ℕ → List ℤ
differences before [] end = (pos end -ℤ pos before) ∷ []
differences before (c ∷ cs) end = (pos c -ℤ pos before) ∷ differences c cs end

-- what a task holds besides its tree
abbrev pub task_overhead : ℕ
task_overhead = TASK_BYTES

-- What a task holds goes from nothing over the overhead with each tree to the answer alone. Amounts of 0 are left out.
abbrev pub trace : Search → List PlacedRow → List ℤ
trace search all =
    filter (λ n. not (int_eq n (pos 0))) (differences 0 (map (λ c. task_overhead + c) (built_costs search all)) (cost (shard_answer search all)))

-- the sum of the first n amounts
abbrev pub sum_before : List ℤ → ℕ → ℤ
sum_before amounts n = int_sum (take n amounts)

abbrev pub greatest_from : ℤ → List ℤ → ℤ
greatest_from n [] = n
greatest_from n (m ∷ ms) = greatest_from (int_max n m) ms

-- the most that a task holds
abbrev pub peak : Search → List PlacedRow → ℤ
peak search all =
    let amounts = trace search all in
    greatest_from (pos 0) (map (sum_before amounts) (range_with_len 0 (length amounts + 1)))

-- the sum of the amounts that a task charges
abbrev pub gross : Search → List PlacedRow → ℤ
gross search all = int_sum (filter is_positive (trace search all))
