-- The places of two tickets differ, lie within the results, and are all of these.
use Rattle.std.proofs.Common.{◌≡◌, ℕ, zero, suc, ◌+◌, ◌-◌, ◌<◌, ◌≤◌, eqb, ltb, get_or, refl, List, [], ◌∷◌, length, ap, arith}
use Rattle.std.specs.List.{sum_by}
use Rattle.std.proofs.lemmas.List.Sums.{sum_by-cons}
use mathlib.Core.Logic.{dite}
use native.Mathlib.Decide.{ℕ_discrete, dec_lt}
use Rattle.arrival_moves.specs.Lists.{one_if, times}
use Rattle.arrival_moves.specs.Plans.{IsPlan, task_count, tasks_of, first_of, place_of}
use Rattle.arrival_moves.specs.declared.plan.Plan.{Plan}
use Rattle.arrival_moves.proofs.Quiet.{lt_one, lt_none, eq_one, eq_none}

-- how many of the tasks are of searches before q
abbrev before : ℕ → List ℕ → ℕ
before q xs = sum_by (λ x. one_if (ltb x q)) xs

-- one task is before q or of q, and then before each later search
one_within : (x q : ℕ) → one_if (ltb x q) + one_if (eqb x q) ≤ 1
one_within x q = dite (ℕ_discrete x q) (λ y. let a = eq_one x q y in let b = lt_none x q (omega arith) in omega arith)
    (λ y. let a = eq_none x q y in dite (dec_lt x q) (λ z. let b = lt_one x q z in omega arith) (λ z. let b = lt_none x q (omega arith) in omega arith))

-- of one task
one_before : (x q r : ℕ) → q < r → one_if (ltb x q) + one_if (eqb x q) ≤ one_if (ltb x r)
one_before x q r h = let w = one_within x q in dite (dec_lt x r) (λ y. let a = lt_one x r y in omega arith)
    (λ y. let a = lt_none x r (omega arith) in let b = lt_none x q (omega arith) in let c = eq_none x q (λ e. omega arith) in omega arith)

-- of all tasks
all_within : (q : ℕ) (xs : List ℕ) → before q xs + times q xs ≤ length xs
all_within q [] = omega arith
all_within q (x ∷ xs) = let a = all_within q xs in let b = one_within x q in let c = sum_by-cons (λ y. one_if (ltb y q)) x xs in let d = sum_by-cons (λ y. one_if (eqb y q)) x xs in omega arith

-- the places of a search end before those of a later one begin
all_before : (q r : ℕ) (xs : List ℕ) → q < r → before q xs + times q xs ≤ before r xs
all_before q r [] h = omega arith
all_before q r (x ∷ xs) h = let a = all_before q r xs h in let b = one_before x q r h in let c = sum_by-cons (λ y. one_if (ltb y q)) x xs in let d = sum_by-cons (λ y. one_if (eqb y q)) x xs in let e = sum_by-cons (λ y. one_if (ltb y r)) x xs in omega arith

module _ (p : Plan) where
  -- a ticket's place is below the number of tasks
  pub place_within : (q t : ℕ) → t < tasks_of p q → place_of p q t < task_count p
  place_within q t h = let a = all_within q p.tasks in omega arith

  -- one place is that of one ticket
  pub places_apart : (q t r u : ℕ) → t < tasks_of p q → u < tasks_of p r → place_of p q t ≡ place_of p r u → (q ≡ r) × (t ≡ u)
  places_apart q t r u h k e = dite (dec_lt q r) (λ y. let a = all_before q r p.tasks y in absurd (omega arith))
      (λ y. dite (dec_lt r q) (λ z. let a = all_before r q p.tasks z in absurd (omega arith)) (λ z. let is : q ≡ r = omega arith in let f : first_of p q ≡ first_of p r = ap (first_of p) is in (is, omega arith)))

-- one search more
before_next : (x q : ℕ) → one_if (ltb x (suc q)) ≡ one_if (ltb x q) + one_if (eqb x q)
before_next x q = dite (ℕ_discrete x q) (λ y. let a = eq_one x q y in let b = lt_none x q (omega arith) in let c = lt_one x (suc q) (omega arith) in omega arith)
    (λ y. let a = eq_none x q y in dite (dec_lt x q) (λ z. let b = lt_one x q z in let c = lt_one x (suc q) (omega arith) in omega arith) (λ z. let b = lt_none x q (omega arith) in let c = lt_none x (suc q) (omega arith) in omega arith))

-- of all tasks
all_next : (q : ℕ) (xs : List ℕ) → before (suc q) xs ≡ before q xs + times q xs
all_next q [] = refl
all_next q (x ∷ xs) = let a = all_next q xs in let b = before_next x q in let c = sum_by-cons (λ y. one_if (ltb y q)) x xs in let d = sum_by-cons (λ y. one_if (eqb y q)) x xs in let e = sum_by-cons (λ y. one_if (ltb y (suc q))) x xs in omega arith

-- no search is before the first
pub none_before : (xs : List ℕ) → before 0 xs ≡ 0
none_before [] = refl
none_before (x ∷ xs) = let a = none_before xs in let c = sum_by-cons (λ y. one_if (ltb y 0)) x xs in let d = lt_none x 0 (omega arith) in omega arith

-- and all are before the number of searches
pub all_below : (n : ℕ) (xs : List ℕ) → ((k : ℕ) → k < length xs → get_or xs k 0 < n) → before n xs ≡ length xs
all_below n [] h = refl
all_below n (x ∷ xs) h = let a = all_below n xs (λ k l. h (suc k) (omega arith)) in let c = sum_by-cons (λ y. one_if (ltb y n)) x xs in let z : x < n = h 0 (omega arith) in let d = lt_one x n z in omega arith

-- each place below the number of tasks is that of one search's ticket
place_before : (p : Plan) (n r : ℕ) → r < first_of p n → (q : ℕ) × (t : ℕ) × (t < tasks_of p q) × (r ≡ place_of p q t)
place_before p zero r h = let a = none_before p.tasks in absurd (omega arith)
place_before p (suc n) r h = dite (dec_lt r (first_of p n)) (λ y. place_before p n r y) (λ y. let a = all_next n p.tasks in let t : ℕ = r - first_of p n in (n, t, omega arith, omega arith))

-- of every place
pub place_at : (p : Plan) → IsPlan p → (r : ℕ) → r < task_count p → (q : ℕ) × (t : ℕ) × (t < tasks_of p q) × (r ≡ place_of p q t)
place_at p good r h = let a = all_below p.searches p.tasks good.tasks in place_before p p.searches r (omega arith)
