-- Numbers that change with a cost, place by place: what is added to it, and what is taken from it.
use Rattle.std.specs.Prelude.{◌≡◌, ◌≢◌, refl, ℕ, ◌+◌, ◌<◌, ◌≤◌, true, false, nat_eq, List, length}
use Rattle.std.proofs.Common.{sym, ◌∙◌, subst, arith}
use Rattle.std.proofs.Math.ListN.{get_or, set}
use Rattle.std.proofs.lemmas.Bool.Decides.{nat_tests}
use Rattle.std.proofs.lemmas.List.{get_or-set_other, get_or-set_same, length-set}
use Rattle.growing_tree.specs.GatheredEach.{AreRises}
use Rattle.collect_tree.specs.Blocks.{AreChanges}

-- what only rises
pub rises-changes : (cost_at : ℕ → ℕ) (count : ℕ) (old new removed : List ℕ) → AreRises cost_at count old new → AreChanges cost_at count old removed new removed
rises-changes cost_at count old new removed h = record {
  many_added = h.many;
  many_removed = refl;
  each = λ n below. let rose = h.each n below in omega arith;
}

-- nothing changes where the cost stays
pub changes-none : (cost_at : ℕ → ℕ) (cost count : ℕ) (added removed : List ℕ) → ((n : ℕ) → n ≤ count → cost_at n ≡ cost) → AreChanges cost_at count added removed added removed
changes-none cost_at cost count added removed e = record {
  many_added = refl;
  many_removed = refl;
  each = λ n below. let here = e n (omega arith) in let next = e (n + 1) (omega arith) in omega arith;
}

-- changes after changes are those of both costs together
pub changes-add : (c d : ℕ → ℕ) (count : ℕ) (a r b s e t : List ℕ) → AreChanges c count a r b s → AreChanges d count b s e t → AreChanges (λ n. c n + d n) count a r e t
changes-add c d count a r b s e t g h = record {
  many_added = h.many_added ∙ g.many_added;
  many_removed = h.many_removed ∙ g.many_removed;
  each = λ n below. let first = g.each n below in let second = h.each n below in omega arith;
}

-- and those of any cost that is the same
pub changes-same : (c d : ℕ → ℕ) (count : ℕ) (a r b s : List ℕ) → ((n : ℕ) → n ≤ count → d n ≡ c n) → AreChanges c count a r b s → AreChanges d count a r b s
changes-same c d count a r b s e h = record {
  many_added = h.many_added;
  many_removed = h.many_removed;
  each = λ n below. let here = e n (omega arith) in let next = e (n + 1) (omega arith) in let change = h.each n below in omega arith;
}

-- so many numbers changed, and the others are as they were
pub record IsChanging (cost_at : ℕ → ℕ) (count : ℕ) (added removed more_added more_removed : List ℕ) : Type 0 where
  pub changes : AreChanges cost_at count added removed more_added more_removed
  pub rest_added : (n : ℕ) → count ≤ n → get_or more_added n 0 ≡ get_or added n 0
  pub rest_removed : (n : ℕ) → count ≤ n → get_or more_removed n 0 ≡ get_or removed n 0

pub changing-none : (cost_at : ℕ → ℕ) (added removed : List ℕ) → IsChanging cost_at 0 added removed added removed
changing-none cost_at added removed = record {
  changes = record { many_added = refl; many_removed = refl; each = λ n below. absurd (omega arith) };
  rest_added = λ n above. refl;
  rest_removed = λ n above. refl;
}

-- one more place
pub changing-more : (cost_at : ℕ → ℕ) (count plus minus next_added next_removed : ℕ) (added removed more_added more_removed : List ℕ) → IsChanging cost_at count added removed more_added more_removed
    → count < length more_added → count < length more_removed → cost_at (count + 1) + minus ≡ cost_at count + plus
    → next_added ≡ get_or more_added count 0 + plus → next_removed ≡ get_or more_removed count 0 + minus
    → IsChanging cost_at (count + 1) added removed (set more_added count next_added) (set more_removed count next_removed)
changing-more cost_at count plus minus next_added next_removed added removed more_added more_removed h in_added in_removed step a_is r_is = record {
  changes = record {
    many_added = length-set more_added count next_added ∙ h.changes.many_added;
    many_removed = length-set more_removed count next_removed ∙ h.changes.many_removed;
    each = each;
  };
  rest_added = λ n above. get_or-set_other more_added count n next_added 0 (λ (same : n ≡ count). omega arith) ∙ h.rest_added n (omega arith);
  rest_removed = λ n above. get_or-set_other more_removed count n next_removed 0 (λ (same : n ≡ count). omega arith) ∙ h.rest_removed n (omega arith);
}
  where
    here : get_or (set more_added count next_added) count 0 + get_or removed count 0 + cost_at count ≡ get_or added count 0 + get_or (set more_removed count next_removed) count 0 + cost_at (count + 1)
    here =
        let put = get_or-set_same more_added count next_added 0 in_added in
        let taken = get_or-set_same more_removed count next_removed 0 in_removed in
        let was_added = h.rest_added count (omega arith) in
        let was_removed = h.rest_removed count (omega arith) in
        omega arith

    each : (n : ℕ) → n < count + 1
        → get_or (set more_added count next_added) n 0 + get_or removed n 0 + cost_at n ≡ get_or added n 0 + get_or (set more_removed count next_removed) n 0 + cost_at (n + 1)
    each n below =
        elim (nat_eq n count) as (λ e. nat_eq n count ≡ e
        → get_or (set more_added count next_added) n 0 + get_or removed n 0 + cost_at n ≡ get_or added n 0 + get_or (set more_removed count next_removed) n 0 + cost_at (n + 1)) [
          | true ↦ λ e.
              let same : n ≡ count = grind (arith, nat_tests) in
              subst (λ m. get_or (set more_added count next_added) m 0 + get_or removed m 0 + cost_at m ≡ get_or added m 0 + get_or (set more_removed count next_removed) m 0 + cost_at (m + 1)) (sym same) here
          | false ↦ λ e.
              let other : n ≢ count = grind (arith, nat_tests) in
              let kept_added = get_or-set_other more_added count n next_added 0 other in
              let kept_removed = get_or-set_other more_removed count n next_removed 0 other in
              let change = h.changes.each n (omega arith) in
              omega arith
        ] refl

-- all of them changed
pub all-changed : (cost_at : ℕ → ℕ) (count many : ℕ) (added removed more_added more_removed : List ℕ) → IsChanging cost_at count added removed more_added more_removed → many ≤ count
    → AreChanges cost_at many added removed more_added more_removed
all-changed cost_at count many added removed more_added more_removed h few = record {
  many_added = h.changes.many_added;
  many_removed = h.changes.many_removed;
  each = λ n below. h.changes.each n (omega arith);
}

-- one more item is what it has to be
pub set-more : (f : ℕ → ℕ) (xs : List ℕ) (i x : ℕ) → i < length xs → x ≡ f i → ((n : ℕ) → n < i → get_or xs n 0 ≡ f n) → (n : ℕ) → n < i + 1 → get_or (set xs i x) n 0 ≡ f n
set-more f xs i x within is before n below =
    elim (nat_eq n i) as (λ e. nat_eq n i ≡ e → get_or (set xs i x) n 0 ≡ f n) [
      | true ↦ λ e. let same : n ≡ i = grind (arith, nat_tests) in subst (λ m. get_or (set xs i x) m 0 ≡ f m) (sym same) (get_or-set_same xs i x 0 within ∙ is)
      | false ↦ λ e. let other : n ≢ i = grind (arith, nat_tests) in get_or-set_other xs i n x 0 other ∙ before n (omega arith)
    ] refl
