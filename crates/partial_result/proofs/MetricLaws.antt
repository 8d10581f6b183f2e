-- Metrics of values together.
use Rattle.std.specs.Prelude.{◌≡◌, refl, ℕ, ℤ, pos, negsuc, ◌+◌, ◌-◌, ◌^◌, ◌+ℤ◌, true, ◌&&◌, [], ◌∷◌, ◌++◌, Option, Some, None}
use Rattle.std.specs.List.{reduce, cons_option}
use Rattle.std.specs.Int.{w128, int_min, int_max, saturate_signed}
use Rattle.std.proofs.Common.{sym, ◌∙◌, ap, arith, zero-add}
use Rattle.std.proofs.lemmas.Bool.Decides.{nat_tests}
use Rattle.std.proofs.Math.IntN.{+ℤ_assoc, +ℤ_comm, +ℤ_idl, +ℤ_idr}
use Rattle.agg_model.specs.declared.partial.Metric.{Metric}
use Rattle.agg_evaluation.specs.Whole.{metric_sum}
use Rattle.agg_evaluation.specs.Trees.{fits_u64, fits_i128}
use Rattle.partial_result.specs.Merged.{merged_metric, either_or, sum_u64}

abbrev count_of : Metric → ℕ
count_of m = m.count

abbrev sum_of : Metric → ℤ
sum_of m = m.sum

reduce-one : (f : ℤ → ℤ → ℤ) (o : Option ℤ) → reduce f (cons_option o []) ≡ o
reduce-one f None = refl
reduce-one f (Some x) = refl

reduce-two : (f : ℤ → ℤ → ℤ) (o p : Option ℤ) → either_or f o p ≡ reduce f (cons_option o (cons_option p []))
reduce-two f None None = refl
reduce-two f None (Some y) = refl
reduce-two f (Some x) None = refl
reduce-two f (Some x) (Some y) = refl

pub metric_sum-one : (m : Metric) → metric_sum (m ∷ []) ≡ m
metric_sum-one m = λ i. record { count = zero-add m.count i; sum = +ℤ_idr m.sum i; least = reduce-one int_min m.least i; greatest = reduce-one int_max m.greatest i }

-- a sum in the range is not capped
fitting : (z : ℤ) → fits_i128 z ≡ true → saturate_signed w128 z ≡ z
fitting (pos n) h = ap pos (grind (arith, nat_tests))
fitting (negsuc n) h = ap negsuc (grind (arith, nat_tests))

-- a sum of 64 bits that fits is the sum
pub two_sum : (m n : ℕ) → fits_u64 (0 + m + n) ≡ true → sum_u64 m n ≡ 0 + m + n
two_sum m n h = grind (arith, nat_tests)

pub metric_sum-two : (m n : Metric) → fits_u64 (metric_sum (m ∷ n ∷ [])).count ≡ true → fits_i128 (metric_sum (m ∷ n ∷ [])).sum ≡ true → merged_metric n m ≡ metric_sum (m ∷ n ∷ [])
metric_sum-two m n h g = λ i. record {
  count = two_sum m.count n.count h i;
  sum = (fitting (m.sum +ℤ n.sum) (ap (λ z. fits_i128 (m.sum +ℤ z)) (sym (+ℤ_idr n.sum)) ∙ g) ∙ ap (λ z. m.sum +ℤ z) (sym (+ℤ_idr n.sum))) i;
  least = reduce-two int_min m.least n.least i;
  greatest = reduce-two int_max m.greatest n.greatest i;
}
