-- Which tickets a batch has.
use Rattle.std.proofs.Common.{◌≡◌, ◌≢◌, ℕ, ◌+◌, ◌-◌, ◌*◌, ◌/◌, ◌%◌, ◌<◌, ◌≤◌, min, ◌&&◌, eqb, ltb, ap, arith, mul-le-mul_right, suc-mul, suc, div-add-mod', mod-lt}
use Rattle.std.proofs.lemmas.Bool.{and_from, eq-eqb, ne_eqb, lt-ltb}
use mathlib.Core.Logic.{dite}
use native.Mathlib.Decide.{ℕ_discrete, dec_lt}
use Rattle.arrival_moves.specs.declared.plan.Plan.{Plan}
use Rattle.arrival_moves.specs.Lists.{one_if, times, numbers_from}
use Rattle.arrival_moves.specs.Plans.{tasks_of, batch_size, IsPlan}
use Rattle.arrival_moves.proofs.NumberLists.{numbers_in, numbers_else}

-- one batch more begins a whole batch later
pub further : (x y n : ℕ) → x < y → x * n + n ≤ y * n
further x y n h = let a : suc x * n ≤ y * n = mul-le-mul_right n h in omega (arith, suc-mul x n)

module _ (p : Plan) (good : IsPlan p) where
  -- a ticket of the batch lies in its range
  pub in_batch : (q b u : ℕ) → u < tasks_of p q → u / p.batch ≡ b → (b * p.batch ≤ u) × (u < b * p.batch + batch_size p q b)
  in_batch q b u h e = let big = good.batch in let n : ℕ = p.batch in let d : ℕ = u / n in let r : ℕ = u % n in let dn : ℕ = d * n in let whole : dn + r ≡ u = div-add-mod' u n in let lt : r < n = mod-lt u (omega arith) in let bn : ℕ = b * n in
      let f : dn ≡ bn = ap (λ z. z * n) e in let k : ℕ = tasks_of p q in let g : bn ≤ u = omega arith in let low : u < bn + min n (k - bn) = omega arith in (g, low)

  -- and no other
  pub not_in_batch : (q b u : ℕ) → u / p.batch ≢ b → b * p.batch ≤ u → u < b * p.batch + batch_size p q b → ⊥
  not_in_batch q b u apart low high = let big = good.batch in let n : ℕ = p.batch in let d : ℕ = u / n in let r : ℕ = u % n in let dn : ℕ = d * n in let whole : dn + r ≡ u = div-add-mod' u n in let lt : r < n = mod-lt u (omega arith) in let bn : ℕ = b * n in
      let k : ℕ = tasks_of p q in let low' : bn ≤ u = low in let high' : u < bn + min n (k - bn) = high in
      dite (dec_lt d b) (λ y. let f : dn + n ≤ bn = further d b n y in absurd (omega arith)) (λ y. let f : bn + n ≤ dn = further b d n (omega arith) in absurd (omega arith))

  -- a whole batch has each of its tickets once
  pub batch_times : (q b u : ℕ) → u < tasks_of p q → times u (numbers_from (b * p.batch) (batch_size p q b)) ≡ one_if (eqb (u / p.batch) b)
  batch_times q b u h = dite (ℕ_discrete (u / p.batch) b)
      (λ y. let a = in_batch q b u h y in let c = numbers_in u (b * p.batch) (batch_size p q b) a.0 a.1 in let d : one_if (eqb (u / p.batch) b) ≡ 1 = ap one_if (eq-eqb (u / p.batch) b y) in omega arith)
      (λ y. let c = numbers_else u (b * p.batch) (batch_size p q b) (not_in_batch q b u y) in let d : one_if (eqb (u / p.batch) b) ≡ 0 = ap one_if (ne_eqb (u / p.batch) b y) in omega arith)

  -- a whole batch has no ticket of another batch, and none past the search's last
  pub batch_within : (q b u : ℕ) → times u (numbers_from (b * p.batch) (batch_size p q b)) ≤ one_if (eqb (u / p.batch) b && ltb u (tasks_of p q))
  batch_within q b u = dite (dec_lt u (tasks_of p q))
      (λ y. dite (ℕ_discrete (u / p.batch) b)
      (λ z. let a = batch_times q b u y in let c : one_if (eqb (u / p.batch) b) ≡ 1 = ap one_if (eq-eqb (u / p.batch) b z) in let d : one_if (eqb (u / p.batch) b && ltb u (tasks_of p q)) ≡ 1 = ap one_if (and_from _ _ (eq-eqb (u / p.batch) b z) (lt-ltb u (tasks_of p q) y)) in omega arith)
      (λ z. let a = batch_times q b u y in let c : one_if (eqb (u / p.batch) b) ≡ 0 = ap one_if (ne_eqb (u / p.batch) b z) in omega arith))
      (λ y. let c = numbers_else u (b * p.batch) (batch_size p q b) (past q b u y) in omega arith)
    where
      past : (q b u : ℕ) → (u < tasks_of p q → ⊥) → b * p.batch ≤ u → u < b * p.batch + batch_size p q b → ⊥
      past q b u out low high = let n : ℕ = p.batch in let bn : ℕ = b * n in let k : ℕ = tasks_of p q in let low' : bn ≤ u = low in let high' : u < bn + min n (k - bn) = high in out (omega arith)

  -- a batch that the search has is not empty
  pub batch_some : (q b : ℕ) → b * p.batch < tasks_of p q → 1 ≤ batch_size p q b
  batch_some q b h = let big = good.batch in let n : ℕ = p.batch in let bn : ℕ = b * n in let k : ℕ = tasks_of p q in let h' : bn < k = h in let c : 1 ≤ min n (k - bn) = omega arith in c
