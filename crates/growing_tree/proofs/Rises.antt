-- Numbers that rise with a cost, place by place.
use Rattle.std.specs.Prelude.{◌≡◌, ◌≢◌, refl, ℕ, ◌+◌, ◌<◌, ◌≤◌, true, false, nat_eq, nat_le, List, length}
use Rattle.std.proofs.Common.{sym, ◌∙◌, subst, arith}
use Rattle.std.proofs.Math.ListN.{get_or, set}
use Rattle.std.proofs.lemmas.Bool.Decides.{nat_tests}
use Rattle.std.proofs.lemmas.List.{get_or-set_other, get_or-set_same, length-set}
use Rattle.growing_tree.specs.GatheredEach.{AreRises}

-- so many numbers rose, and the others are as they were
pub record IsRising (cost_at : ℕ → ℕ) (count : ℕ) (old now : List ℕ) : Type 0 where
  pub rises : AreRises cost_at count old now
  pub rest : (n : ℕ) → count ≤ n → get_or now n 0 ≡ get_or old n 0

pub rising-none : (cost_at : ℕ → ℕ) (xs : List ℕ) → IsRising cost_at 0 xs xs
rising-none cost_at xs = record {
  rises = record { many = refl; each = λ n below. absurd (omega arith) };
  rest = λ n above. refl;
}

-- one more number rises
pub rising-more : (cost_at : ℕ → ℕ) (count rose next : ℕ) (old now : List ℕ) → IsRising cost_at count old now → count < length now → cost_at (count + 1) ≡ cost_at count + rose → next ≡ get_or now count 0 + rose
    → IsRising cost_at (count + 1) old (set now count next)
rising-more cost_at count rose next old now h within up is = record {
  rises = record { many = length-set now count next ∙ h.rises.many; each = each };
  rest = λ n above. get_or-set_other now count n next 0 (λ (same : n ≡ count). omega arith) ∙ h.rest n (omega arith);
}
  where
    here : get_or (set now count next) count 0 + cost_at count ≡ get_or old count 0 + cost_at (count + 1)
    here = let put = get_or-set_same now count next 0 within in let was = h.rest count (omega arith) in omega arith

    each : (n : ℕ) → n < count + 1 → get_or (set now count next) n 0 + cost_at n ≡ get_or old n 0 + cost_at (n + 1)
    each n below =
        elim (nat_eq n count) as (λ e. nat_eq n count ≡ e → get_or (set now count next) n 0 + cost_at n ≡ get_or old n 0 + cost_at (n + 1)) [
          | true ↦ λ e.
              let same : n ≡ count = grind (arith, nat_tests) in
              subst (λ m. get_or (set now count next) m 0 + cost_at m ≡ get_or old m 0 + cost_at (m + 1)) (sym same) here
          | false ↦ λ e.
              let other : n ≢ count = grind (arith, nat_tests) in
              let kept = get_or-set_other now count n next 0 other in
              let rose = h.rises.each n (omega arith) in
              omega arith
        ] refl

-- all of them rose
pub all-rose : (cost_at : ℕ → ℕ) (count many : ℕ) (old now : List ℕ) → IsRising cost_at count old now → many ≤ count → AreRises cost_at many old now
all-rose cost_at count many old now h few = record { many = h.rises.many; each = λ n below. h.rises.each n (omega arith) }

-- they rise with any other cost that is above it by as much everywhere
pub rises-above : (c d : ℕ → ℕ) (more count : ℕ) (old new : List ℕ) → ((n : ℕ) → d n ≡ more + c n) → AreRises c count old new → AreRises d count old new
rises-above c d more count old new e h = record {
  many = h.many;
  each = λ n below. let here = e n in let next = e (n + 1) in let rose = h.each n below in omega arith;
}

-- and stand where the cost stays
pub rises-level : (cost_at : ℕ → ℕ) (cost count : ℕ) (xs : List ℕ) → ((n : ℕ) → n ≤ count → cost_at n ≡ cost) → AreRises cost_at count xs xs
rises-level cost_at cost count xs e = record {
  many = refl;
  each = λ n below. let here = e n (omega arith) in let next = e (n + 1) (omega arith) in omega arith;
}

-- the cost stays at one more place
pub level-more : (cost_at : ℕ → ℕ) (cost i : ℕ) → ((n : ℕ) → n ≤ i → cost_at n ≡ cost) → cost_at (i + 1) ≡ cost → (n : ℕ) → n ≤ i + 1 → cost_at n ≡ cost
level-more cost_at cost i e here n few =
    elim (nat_le n i) as (λ b. nat_le n i ≡ b → cost_at n ≡ cost) [
      | true ↦ λ h. e n (let low : n ≤ i = grind (arith, nat_tests) in low)
      | false ↦ λ h. let same : n ≡ i + 1 = grind (arith, nat_tests) in subst (λ m. cost_at m ≡ cost) (sym same) here
    ] refl
