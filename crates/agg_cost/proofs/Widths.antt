-- How many paths an aggregation makes of each that reaches a row, at most.
use Rattle.std.proofs.Common.{◌≡◌, ℕ, zero, suc, ◌*◌, ◌<◌, ◌≤◌, true, List, [], ◌∷◌, length, append-nil, ◌∙◌, ap, arith, mul_assoc}
use Rattle.std.specs.Prelude.{sum_by}
use Rattle.std.proofs.Math.Nat.{mul-le-mul_left}
use Rattle.std.proofs.lemmas.List.Sums.{sum_by-cons}
use Rattle.list_laws.proofs.Sums.{sum_by-filter}
use Rattle.agg_model.specs.declared.aggregation.Kind.{Kind}
use Rattle.agg_model.specs.declared.aggregation.Kind.TheVariants as kind
use Rattle.agg_model.specs.declared.mapping.FieldKind.{FieldKind}
use Rattle.agg_evaluation.specs.Groups.{under}
use Rattle.agg_evaluation.specs.Keys.{keys}
use Rattle.agg_evaluation.specs.Rows.{PlacedRow, row_of, beneath}
use Rattle.agg_cost.specs.Staying.{stays}
use Rattle.agg_cost.specs.Widths.{HasKeysAtMost, HandsOnAtMost}
use Rattle.agg_cost.proofs.Handing.{carried, stays-there}
use Rattle.agg_cost.proofs.Splitting.{over_handed}

pub sum-each : (f g : PlacedRow → ℕ) (most : ℕ) (xs : List PlacedRow) → ((i : ℕ) → i < length xs → g (row_of xs i) ≤ most * f (row_of xs i)) → sum_by g xs ≤ most * sum_by f xs
sum-each f g most [] low = omega arith
sum-each f g most (x ∷ xs) low =
    let here : g x ≤ most * f x = low zero (omega arith) in
    let rest = sum-each f g most xs (λ i below. low (suc i) (omega (arith, below))) in
    let sum_f = ap (λ (n : ℕ). most * n) (sum_by-cons f x xs) in
    let sum_g = sum_by-cons g x xs in
    omega (arith, here, rest, sum_f, sum_g)

pub sum-most : (g : PlacedRow → ℕ) (most : ℕ) (xs : List PlacedRow) → ((x : PlacedRow) → g x ≤ most) → sum_by g xs ≤ length xs * most
sum-most g most [] low = omega arith
sum-most g most (x ∷ xs) low =
    let here = low x in
    let rest = sum-most g most xs low in
    let sum_g = sum_by-cons g x xs in
    omega (arith, here, rest, sum_g)

module _ (kinds : List FieldKind) (all : List PlacedRow) (k : Kind) where
  -- from what one path carries on, over all rows
  hands-on : (most : ℕ) → ((f : PlacedRow → ℕ) → sum_by (carried all k f) all ≤ most * sum_by f all) → HandsOnAtMost most kinds all k
  hands-on most low each reached within f =
      let here = within (carried all k f) in
      let over = over_handed kinds all k f reached in
      let more = mul-le-mul_left each (low f) in
      let product = mul_assoc each most (sum_by f all) in
      omega (arith, here, over, more, product)

  pub hands-on-keys : stays k ≡ true → (most : ℕ) → HasKeysAtMost most k all → HandsOnAtMost most kinds all k
  hands-on-keys h most few = hands-on most (λ f. sum-each f (carried all k f) most all (λ i below.
      let row = row_of all i in
      let one : carried all k f row ≡ length (keys all k row) * f row = ap (sum_by (λ inner. length (keys all k inner) * f inner)) (stays-there all k h row) ∙ (sum_by-cons (λ inner. length (keys all k inner) * f inner) row [] ∙ omega arith) in
      let fewer = few i below in
      let product : length (keys all k row) * f row ≤ most * f row = grind (arith, fewer) in
      omega (arith, one, product)))

one_key : (n : ℕ) → 1 * n ≡ n
one_key n = omega arith

pub hands-on-nested : (kinds : List FieldKind) (all : List PlacedRow) (context : ℕ) → HandsOnAtMost (length all) kinds all (kind.Nested context)
hands-on-nested kinds all context = hands-on kinds all (kind.Nested context) (length all) (λ f. sum-most (carried all (kind.Nested context) f) (sum_by f all) all (λ r.
    let ones : carried all (kind.Nested context) f r ≡ sum_by f (under all (r ∷ []) (kind.Nested context) (r ∷ [])) = (λ i. sum_by (λ (inner : PlacedRow). one_key (f inner) i) (under all (r ∷ []) (kind.Nested context) (r ∷ []))) in
    let none : under all (r ∷ []) (kind.Nested context) (r ∷ []) ≡ beneath all context r = append-nil (beneath all context r) in
    let same = ones ∙ ap (sum_by f) none in
    let low : sum_by f (beneath all context r) ≤ sum_by f all = sum_by-filter f _ all in
    omega (arith, same, low)))

pub hands-on-reverse : (kinds : List FieldKind) (all : List PlacedRow) (context : ℕ) → HandsOnAtMost (length all) kinds all (kind.ReverseNested context)
hands-on-reverse kinds all context = hands-on kinds all (kind.ReverseNested context) (length all) (λ f. sum-most (carried all (kind.ReverseNested context) f) (sum_by f all) all (λ r.
    let ones : carried all (kind.ReverseNested context) f r ≡ sum_by f (under all (r ∷ []) (kind.ReverseNested context) (r ∷ [])) = (λ i. sum_by (λ (inner : PlacedRow). one_key (f inner) i) (under all (r ∷ []) (kind.ReverseNested context) (r ∷ []))) in
    let low : sum_by f (under all (r ∷ []) (kind.ReverseNested context) (r ∷ [])) ≤ sum_by f all = sum_by-filter f _ all in
    omega (arith, ones, low)))
