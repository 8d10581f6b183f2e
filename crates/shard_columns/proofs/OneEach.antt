-- Rows that have one value each.
use Rattle.std.specs.Prelude.{◌≡◌, refl, ℕ, zero, suc, ◌+◌, ◌-◌, ◌≤◌, ◌≢◌, nat_lt, true, false, cond, max, min, length, List, [], ◌∷◌, ◌++◌, map, find, Option}
use Rattle.std.specs.Option.{option_map_or}
use Rattle.std.proofs.Common.{sym, ◌∙◌, ap, arith, eqb, inl, inr}
use Rattle.std.proofs.lemmas.Bool.Decides.{nat_tests}
use Rattle.list_laws.proofs.Lists.{map-append}
use Rattle.agg_evaluation.specs.Ceiling.{greatest_of}
use Rattle.shard_columns.specs.Ones.{one_at, one_span, one_each, one_each_from}
use Rattle.shard_columns.specs.Values.{held_count, no_span, span_in}
use Rattle.shard_columns.specs.declared.values.Held.{Held}
use Rattle.shard_columns.specs.declared.values.Span.{Span}
use Rattle.shard_columns.proofs.Counting.{more}
use Rattle.shard_columns.proofs.Drafting.{same-or-other}
use Rattle.shard_columns.proofs.Searching.{find-not, find-one}

greatest-append : (ns ms : List ℕ) → greatest_of (ns ++ ms) ≡ more (greatest_of ns) (greatest_of ms)
greatest-append [] ms = alone (greatest_of ms)
  where
    alone : (m : ℕ) → m ≡ more 0 m
    alone m = grind (arith, nat_tests)
greatest-append (n ∷ ns) ms = ap (more n) (greatest-append ns ms) ∙ regroup n (greatest_of ns) (greatest_of ms)
  where
    regroup : (a b c : ℕ) → more a (more b c) ≡ more (more a b) c
    regroup a b c = grind (arith, nat_tests)

-- one more of them
pub one-each-more : (n : ℕ) → one_each n ++ one_at n ∷ [] ≡ one_each (n + 1)
one-each-more n = let here : 0 + n ≡ n = omega arith in let all : suc n ≡ n + 1 = omega arith in ap (λ k. one_each n ++ one_at k ∷ []) (sym here) ∙ next 0 n ∙ ap one_each all
  where
    next : (p n : ℕ) → one_each_from p n ++ one_at (p + n) ∷ [] ≡ one_each_from p (suc n)
    next p zero = let here : p + 0 ≡ p = omega arith in ap (λ k. one_at k ∷ []) here
    next p (suc n) = let here : p + suc n ≡ (p + 1) + n = omega arith in ap (λ hs. one_at p ∷ hs) (ap (λ k. one_each_from (p + 1) n ++ one_at k ∷ []) here ∙ next (p + 1) n)

-- where the value of a row is
pub span-one-each : (n row : ℕ) → span_in (one_each n) row ≡ cond (nat_lt row n) (one_span row) no_span
span-one-each n row = let here : 0 + n ≡ n = omega arith in from 0 n row (omega arith) ∙ ap (λ k. cond (nat_lt row k) (one_span row) no_span) here
  where
    behind : (p row : ℕ) → p ≤ row → nat_lt row (p + 0) ≡ false
    behind p row l = grind (arith, nat_tests)

    within : (p n : ℕ) → nat_lt p (p + suc n) ≡ true
    within p n = grind (arith, nat_tests)

    span-is : Option Held → Span
    span-is o = option_map_or (λ h. h.span) o no_span

    from : (p n row : ℕ) → p ≤ row → span_in (one_each_from p n) row ≡ cond (nat_lt row (p + n)) (one_span row) no_span
    from p zero row l = sym (ap (λ t. cond t (one_span row) no_span) (behind p row l))
    from p (suc n) row l = elim (same-or-other row p) [
      | inl same ↦
          ap (λ (o : Option Held). option_map_or (λ (h : Held). h.span) o no_span) (find-one row (one_at p) (find (λ (h : Held). eqb h.row row) (one_each_from (p + 1) n)) (eqb p row) refl (sym same))
          ∙ ap one_span (sym same) ∙ sym (ap (λ t. cond t (one_span row) no_span) (ap (λ k. nat_lt k (p + suc n)) same ∙ within p n))
      | inr other ↦
          let next : p + 1 ≤ row = behind-next p row l other in
          let all : (p + 1) + n ≡ p + suc n = omega arith in
          ap (λ (o : Option Held). option_map_or (λ (h : Held). h.span) o no_span) (find-not row (one_at p) (find (λ (h : Held). eqb h.row row) (one_each_from (p + 1) n)) (eqb p row) refl (λ e. other (sym e)))
          ∙ from (p + 1) n row next ∙ ap (λ k. cond (nat_lt row k) (one_span row) no_span) all
    ]
      where
        behind-next : (p row : ℕ) → p ≤ row → row ≢ p → p + 1 ≤ row
        behind-next p row l other = grind arith

-- the greatest number of values
pub most-one-each : (n : ℕ) → greatest_of (map held_count (one_each (suc n))) ≡ 1
most-one-each n = only 0 n
  where
    one-more : (p : ℕ) → (p + 1) - p ≡ 1
    one-more p = omega arith

    both : (a b : ℕ) → a ≡ 1 → b ≤ 1 → cond (nat_lt a b) b a ≡ 1
    both a b e l = grind (arith, nat_tests)

    few : (p n : ℕ) → greatest_of (map held_count (one_each_from p n)) ≤ 1
    few p zero = omega arith
    few p (suc n) = let all = both ((p + 1) - p) (greatest_of (map held_count (one_each_from (p + 1) n))) (one-more p) (few (p + 1) n) in omega (arith, all)

    only : (p n : ℕ) → greatest_of (map held_count (one_each_from p (suc n))) ≡ 1
    only p n = both ((p + 1) - p) (greatest_of (map held_count (one_each_from (p + 1) n))) (one-more p) (few (p + 1) n)

-- the same with others behind them
pub most-all : (n : ℕ) (hs : List Held) → greatest_of (map held_count (one_each n ++ hs)) ≡ max (greatest_of (map held_count hs)) (min n 1)
most-all zero hs = omega arith
most-all (suc n) hs =
    ap greatest_of (map-append held_count (one_each (suc n)) hs) ∙ greatest-append (map held_count (one_each (suc n))) (map held_count hs) ∙ ap (λ k. more k (greatest_of (map held_count hs))) (most-one-each n) ∙ at_least n (greatest_of (map held_count hs))
  where
    at_least : (n g : ℕ) → more 1 g ≡ max g (min (suc n) 1)
    at_least n g = grind (arith, nat_tests)

pub no-items : {X : Type 0} (xs : List X) → length xs ≤ 0 → xs ≡ []
no-items [] l = refl
no-items (x ∷ xs) l = absurd (omega (arith, l))
