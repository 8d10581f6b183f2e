-- Bounds of keys as bounds of codes.
use Rattle.std.specs.Prelude.{◌≡◌, ℤ, pos, ◌+ℤ◌, ◌≤ℤ◌, ◌<ℤ◌, int_le, true, false}
use Rattle.std.proofs.Common.{sym, ◌∙◌, arith}
use Rattle.std.proofs.lemmas.Int.{ints, by_lt_z}
use Rattle.date_spec.specs.declared.period.Period.{Period}
use Rattle.date_spec.specs.Periods.{IsInstant, IsPeriod, IsZone}
use Rattle.date_periods.specs.Reach.{IsCode}
use Rattle.agg_model.specs.declared.aggregation.Spacing.TheVariants.{Dates}
use Rattle.agg_evaluation.specs.Spacings.{number_at, start_at}
use Rattle.date_agg.proofs.Instants.{ahead, apart, begun, coded, not-lower}

pub at_most : (a b : ℤ) → a ≤ℤ b → int_le a b ≡ true
at_most a b h = grind (arith, ints, h)

above : (a b : ℤ) → b <ℤ a → int_le a b ≡ false
above a b h = grind (arith, ints, h)

module _ (p : Period) (zone : ℤ) (h : IsPeriod p) (z : IsZone zone) (bound : ℤ) (is : IsInstant bound) (c : ℤ) (code : IsCode p zone c) where
  abbrev n : ℤ
  n = number_at (Dates p zone) bound

  abbrev start : ℤ → ℤ
  start = start_at (Dates p zone)

  -- where the period of the bound begins before it, the next one is the first that does not
  pub first-behind : start n <ℤ bound → int_le (n +ℤ pos 1) c ≡ int_le bound (start c)
  first-behind before =
      by_lt_z n c
      (λ less. let later = ahead p zone h z bound c is less in at_most (n +ℤ pos 1) c (let more : (n +ℤ pos 1) ≤ℤ c = omega (arith, ints) in more) ∙ sym (at_most bound (start c) (let below : bound ≤ℤ start c = omega (arith, ints) in below)))
      (λ most. let earlier = not-lower p zone h z c n code most in above (n +ℤ pos 1) c (let less : c <ℤ (n +ℤ pos 1) = omega (arith, ints) in less) ∙ sym (above bound (start c) (let lower : start c <ℤ bound = omega (arith, ints) in lower)))

  pub first-at : bound ≤ℤ start n → int_le n c ≡ int_le bound (start c)
  first-at begins =
      by_lt_z c n
      (λ less.
      let earlier = apart p zone h z c n code less in
      let begun = begun p zone h z bound is in
      above n c less ∙ sym (above bound (start c) (let lower : start c <ℤ bound = omega (arith, ints) in lower)))
      (λ most.
      let later = not-lower p zone h z n c (coded p zone h z bound is) most in
      at_most n c most ∙ sym (at_most bound (start c) (let below : bound ≤ℤ start c = omega (arith, ints) in below)))

  pub last-at : int_le c n ≡ int_le (start c) bound
  last-at =
      by_lt_z n c
      (λ less. let later = ahead p zone h z bound c is less in above c n less ∙ sym (above (start c) bound later))
      (λ most.
      let earlier = not-lower p zone h z c n code most in
      let begun = begun p zone h z bound is in
      at_most c n most ∙ sym (at_most (start c) bound (let below : start c ≤ℤ bound = omega (arith, ints) in below)))
