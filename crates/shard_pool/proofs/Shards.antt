-- The shards of one search's results are all shards, each once.
use Rattle.std.specs.Prelude.{◌≡◌, refl, ℕ, ◌+◌, ◌*◌, ◌≤◌, ◌<◌, ◌==◌, true, false, cond, List, [], ◌∷◌, ◌++◌, flat_map, map, sum_by, IsPermutation}
use Rattle.std.specs.List.{AllByRecursion, range_with_len}
use Rattle.std.proofs.Common.{sym, ◌∙◌, ap, arith, ⊎_elim, suc, suc-mul, mul-le-mul_right}
use Rattle.std.proofs.lemmas.Bool.{eq-eqb, ne_eqb, eqb-true, cases_Bool, false≢true}
use Rattle.std.proofs.lemmas.List.Sums.{sum_by-cons}
use Rattle.std.proofs.lemmas.List.Sorted.{sum_by-IsPermutation}
use mathlib.Core.Logic.{dite}
use native.Mathlib.Decide.{ℕ_discrete, dec_lt}
use Rattle.arrival_moves.specs.Lists.{one_if, times}
use Rattle.arrival_moves.proofs.NumberLists.{times_cons, times_append}
use Rattle.shard_pool.specs.TaskResults.{HaveEachTask, of_search, shards_of}
use Rattle.shard_pool.proofs.Each.{each-append}
use Rattle.shard_pool.proofs.Rearranged.{each-once, times-above}

-- a row further, all numbers are greater
further : (n q r : ℕ) → q < r → q * n + n ≤ r * n
further n q r h = let a : suc q * n ≤ r * n = mul-le-mul_right n h in omega (arith, a, suc-mul q n)

-- the number of a task says which task it is
pub same-task : (n q r s t : ℕ) → s < n → t < n → r * n + t ≡ q * n + s → (r ≡ q) × (t ≡ s)
same-task n q r s t low lot e = dite (ℕ_discrete r q)
    (λ same. let a : r * n ≡ q * n = ap (λ z. z * n) same in (same, omega (arith, a, e)))
    (λ apart. dite (dec_lt r q)
    (λ h. let a = further n r q h in absurd (omega (arith, a, e, lot)))
    (λ h. let a = further n q r (omega (arith, apart, h)) in absurd (omega (arith, a, e, low))))

-- the task of the shard s of q is as often among the tasks of some shards of r as s is among these, where r is q
module _ (n q s : ℕ) (low : s < n) where
  times-own : (ts : List ℕ) → AllByRecursion (λ t. t < n) ts → times (q * n + s) (map (λ t. q * n + t) ts) ≡ times s ts
  times-own [] h = refl
  times-own (t ∷ ts) h =
      let rest = times-own ts h.1 in let a = times_cons (q * n + s) (q * n + t) (map (λ u. q * n + u) ts) in let b = times_cons s t ts in
      let same : one_if (q * n + t == q * n + s) ≡ one_if (t == s) = dite (ℕ_discrete t s)
      (λ e. ap one_if (eq-eqb (q * n + t) (q * n + s) (ap (λ z. q * n + z) e)) ∙ sym (ap one_if (eq-eqb t s e)))
      (λ e. ap one_if (ne_eqb (q * n + t) (q * n + s) (λ f. e (omega (arith, f)))) ∙ sym (ap one_if (ne_eqb t s e))) in
      omega (arith, rest, a, b, same)

  times-other : (r : ℕ) → (r ≡ q → ⊥) → (ts : List ℕ) → AllByRecursion (λ t. t < n) ts → times (q * n + s) (map (λ t. r * n + t) ts) ≡ 0
  times-other r apart [] h = refl
  times-other r apart (t ∷ ts) h =
      let rest = times-other r apart ts h.1 in let a = times_cons (q * n + s) (r * n + t) (map (λ u. r * n + u) ts) in
      let none : one_if (r * n + t == q * n + s) ≡ 0 = ap one_if (ne_eqb (r * n + t) (q * n + s) (λ e. apart (same-task n q r s t low h.0 e).0)) in
      omega (arith, rest, a, none)

module _ {X : Type 0} (search : X → ℕ) (shards : X → List ℕ) (n : ℕ) where
  abbrev Within : List X → Type 0
  Within xs = AllByRecursion (λ x. AllByRecursion (λ s. s < n) (shards x)) xs

  abbrev tasks : X → List ℕ
  tasks x = map (λ s. search x * n + s) (shards x)

  -- so a task is as often in all results as its shard is in those of its search
  times-shards : (q s : ℕ) → s < n → (xs : List X) → Within xs → sum_by (λ x. times (q * n + s) (tasks x)) xs ≡ times s (shards_of search shards q xs)
  times-shards q s low [] h = refl
  times-shards q s low (x ∷ xs) h =
      let rest = times-shards q s low xs h.1 in let all = sum_by-cons (λ x. times (q * n + s) (tasks x)) x xs in ⊎_elim
      (λ (e : (search x == q) ≡ true).
      let is : search x ≡ q = eqb-true (search x) q e in
      let one : times (q * n + s) (tasks x) ≡ times s (shards x) = ap (λ r. times (q * n + s) (map (λ t. r * n + t) (shards x))) is ∙ times-own n q s low (shards x) h.0 in
      let both = times_append s (shards x) (shards_of search shards q xs) in
      let this : times s (shards_of search shards q (x ∷ xs)) ≡ times s (shards x ++ shards_of search shards q xs) = ap (λ b. times s (flat_map shards (cond b (x ∷ of_search search shards q xs) (of_search search shards q xs)))) e in
      omega (arith, rest, all, one, both, this))
      (λ (e : (search x == q) ≡ false).
      let none : times (q * n + s) (tasks x) ≡ 0 = times-other n q s low (search x) (λ is. let no : (search x == q) ≡ true = eq-eqb (search x) q is in absurd (false_true (sym e ∙ no))) (shards x) h.0 in
      let this : times s (shards_of search shards q (x ∷ xs)) ≡ times s (shards_of search shards q xs) = ap (λ b. times s (flat_map shards (cond b (x ∷ of_search search shards q xs) (of_search search shards q xs)))) e in
      omega (arith, rest, all, none, this))
      (cases_Bool (search x == q))
    where
      false_true : false ≡ true → ⊥
      false_true e = false≢true e

  -- all of them are shards
  pub shards-within : (q : ℕ) (xs : List X) → Within xs → AllByRecursion (λ s. s < n) (shards_of search shards q xs)
  shards-within q [] h = tt
  shards-within q (x ∷ xs) h = elim (search x == q) as (λ b. AllByRecursion (λ s. s < n) (flat_map shards (cond b (x ∷ of_search search shards q xs) (of_search search shards q xs)))) [
    | true ↦ each-append (λ s. s < n) (shards x) (shards_of search shards q xs) h.0 (shards-within q xs h.1)
    | false ↦ shards-within q xs h.1
  ]

  module _ (m : ℕ) (xs : List X) (each : HaveEachTask search shards m n xs) (q : ℕ) (low : q < m) where
    -- each shard stands there once
    pub shard-once : (s : ℕ) → s < n → times s (shards_of search shards q xs) ≡ 1
    shard-once s h = sym (times-shards q s h xs each.within) ∙ each.once (q * n + s) (let a = further n q m low in omega (arith, a, h))

    -- and none at all twice
    pub shard-apart : (s : ℕ) → times s (shards_of search shards q xs) ≤ 1
    shard-apart s = dite (dec_lt s n) (λ h. let a = shard-once s h in omega (arith, a))
        (λ h. let a = times-above n s (shards_of search shards q xs) (omega (arith, h)) (shards-within q xs each.within) in omega (arith, a))

    -- so they are all shards, rearranged
    pub shards-rearranged : IsPermutation (shards_of search shards q xs) (range_with_len 0 n)
    shards-rearranged = each-once n (shards_of search shards q xs) (shards-within q xs each.within) shard-once

    -- and whatever is added up over them is so over all shards
    pub shards-sum : (f : ℕ → ℕ) → sum_by f (shards_of search shards q xs) ≡ sum_by f (range_with_len 0 n)
    shards-sum f = sym (sum_by-IsPermutation f (shards_of search shards q xs) (range_with_len 0 n) shards-rearranged)
