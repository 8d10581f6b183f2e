-- What a task holds is never below nothing, and comes to the cost of its answer.
use Rattle.std.specs.Prelude.{◌≡◌, refl, ℕ, zero, suc, ◌+◌, ℤ, pos, ◌+ℤ◌, ◌-ℤ◌, ◌≤ℤ◌, true, false, cond, not, List, [], ◌∷◌, map, filter, take}
use Rattle.std.specs.Ordering.{int_eq}
use Rattle.std.proofs.Common.{arith}
use Rattle.std.proofs.lemmas.Int.{ints}
use Rattle.agg_model.specs.declared.aggregation.Search.{Search}
use Rattle.agg_evaluation.specs.Rows.{PlacedRow}
use Rattle.agg_evaluation.specs.Shard.{int_sum, shard_answer}
use Rattle.agg_evaluation.specs.Cost.{cost}
use Rattle.agg_evaluation.specs.Trace.{differences, trace, sum_before, built_costs, task_overhead}

pub no_amount : (n : ℤ) → not (int_eq n (pos 0)) ≡ false → n ≡ pos 0
no_amount n e = grind (arith, ints)

pub sum-none : (n : ℕ) → int_sum (take n []) ≡ pos 0
sum-none zero = refl
sum-none (suc n) = refl

-- what is held after some amounts
pub never_negative : (before : ℕ) (cs : List ℕ) (end n : ℕ) → pos 0 ≤ℤ (pos before +ℤ int_sum (take n (filter (λ n. not (int_eq n (pos 0))) (differences before cs end))))
never_negative before cs end zero = omega (arith, ints)
never_negative before [] end (suc n) =
    let d = pos end -ℤ pos before in
    elim (not (int_eq d (pos 0))) as (λ b. pos 0 ≤ℤ (pos before +ℤ int_sum (take (suc n) (cond b (d ∷ []) [])))) [
      | true ↦ let none = sum-none n in omega (arith, ints)
      | false ↦ omega (arith, ints)
    ]
never_negative before (c ∷ cs) end (suc n) =
    let d = pos c -ℤ pos before in
    let rest = filter (λ n. not (int_eq n (pos 0))) (differences c cs end) in
    elim (not (int_eq d (pos 0))) as (λ b. not (int_eq d (pos 0)) ≡ b → pos 0 ≤ℤ (pos before +ℤ int_sum (take (suc n) (cond b (d ∷ rest) rest)))) [
      | true ↦ λ e. let later = never_negative c cs end n in omega (arith, ints)
      | false ↦ λ e. let later = never_negative c cs end (suc n) in let none = no_amount d e in omega (arith, ints)
    ] refl

pub comes_to_end : (before : ℕ) (cs : List ℕ) (end : ℕ) → pos before +ℤ int_sum (filter (λ n. not (int_eq n (pos 0))) (differences before cs end)) ≡ pos end
comes_to_end before [] end =
    let d = pos end -ℤ pos before in
    elim (not (int_eq d (pos 0))) as (λ b. not (int_eq d (pos 0)) ≡ b → pos before +ℤ int_sum (cond b (d ∷ []) []) ≡ pos end) [
      | true ↦ λ e. omega (arith, ints)
      | false ↦ λ e. let none = no_amount d e in omega (arith, ints)
    ] refl
comes_to_end before (c ∷ cs) end =
    let d = pos c -ℤ pos before in
    let rest = filter (λ n. not (int_eq n (pos 0))) (differences c cs end) in
    let later = comes_to_end c cs end in
    elim (not (int_eq d (pos 0))) as (λ b. not (int_eq d (pos 0)) ≡ b → pos before +ℤ int_sum (cond b (d ∷ rest) rest) ≡ pos end) [
      | true ↦ λ e. omega (arith, ints)
      | false ↦ λ e. let none = no_amount d e in omega (arith, ints)
    ] refl

pub trace-never_negative : (search : Search) (all : List PlacedRow) (n : ℕ) → pos 0 ≤ℤ sum_before (trace search all) n
trace-never_negative search all n =
    let held = never_negative 0 (map (λ c. task_overhead + c) (built_costs search all)) (cost (shard_answer search all)) n in
    omega (arith, ints)

pub trace-total : (search : Search) (all : List PlacedRow) → int_sum (trace search all) ≡ pos (cost (shard_answer search all))
trace-total search all =
    let held = comes_to_end 0 (map (λ c. task_overhead + c) (built_costs search all)) (cost (shard_answer search all)) in
    omega (arith, ints)
