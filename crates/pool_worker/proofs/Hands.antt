-- A worker's hand while it takes the results of a batch one by one.
use Rattle.std.specs.Prelude.{◌≡◌, refl, ◌≤◌, ◌<◌, ℕ, ◌+◌, ◌*◌, ◌/◌, ◌==◌, Bool, true, false, List, [], ◌∷◌, map, IsTrue}
use Rattle.std.proofs.Common.{◌∙◌, ap, arith}
use Rattle.std.proofs.lemmas.Bool.{eq-eqb, eqb-true}
use Rattle.std.proofs.lemmas.List.Sums.{sum_by-cons}
use Rattle.std.proofs.lemmas.Nat.{div-mul-add}
use Rattle.arrival_moves.specs.Lists.{one_if, times}
use Rattle.pool_results.specs.Pools.{Pool, task_number}

-- a ticket's batch
pub ticket-batch : (b size j t : ℕ) → j < size → t ≡ b * size + j → t / size ≡ b
ticket-batch b size j t h e = ap (λ k. k / size) e ∙ div-mul-add b size j h

-- how often a shard stands is at most how often its task does
pub times-shard : (p : Pool) (q s : ℕ) (ss : List ℕ) → times s ss ≤ times (task_number p q s) (map (task_number p q) ss)
times-shard p q s [] = omega arith
times-shard p q s (r ∷ ss) =
    let rest = times-shard p q s ss in
    let a = sum_by-cons (λ x. one_if (x == s)) r ss in
    let b = sum_by-cons (λ x. one_if (x == task_number p q s)) (task_number p q r) (map (task_number p q) ss) in
    let one = same-one (r == s) refl in
    omega (arith, rest, a, b, one)
  where
    same-one : (c : Bool) → (r == s) ≡ c → one_if (r == s) ≤ one_if (task_number p q r == task_number p q s)
    same-one true e =
        let same : r ≡ s = eqb-true r s e in
        let two : one_if (task_number p q r == task_number p q s) ≡ 1 = ap one_if (eq-eqb (task_number p q r) (task_number p q s) (ap (task_number p q) same)) in
        let one : one_if (r == s) ≡ 1 = ap one_if e in omega (arith, one, two)
    same-one false e = let none : one_if (r == s) ≡ 0 = ap one_if e in omega (arith, none)
