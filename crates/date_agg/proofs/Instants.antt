-- The numbers of periods, which codes are, and where they begin.
use Rattle.std.specs.Prelude.{ℤ, pos, ◌+ℤ◌, ◌-ℤ◌, ◌≤ℤ◌, ◌<ℤ◌}
use Rattle.std.proofs.Common.{arith}
use Rattle.std.proofs.lemmas.Int.{ints}
use Rattle.date_spec.specs.declared.period.Period.{Period}
use Rattle.date_spec.specs.Periods.{IsInstant, IsPeriod, IsZone}
use Rattle.date_spec.proofs.KeyLemmas.{zoned-most}
use Rattle.date_spec.proofs.PeriodLemmas.{begins, ends, number-more, number-rising, start-most}
use Rattle.date_periods.specs.Reach.{IsCode}
use Rattle.date_periods.proofs.ReachLemmas.{code-number, code-rising, instant-code, instant-local, local-place}
use Rattle.agg_model.specs.declared.aggregation.Spacing.{Spacing}
use Rattle.agg_model.specs.declared.aggregation.Spacing.TheVariants.{Dates}
use Rattle.agg_evaluation.specs.Spacings.{number_at, start_at}

unzoned : (start local zone : ℤ) → start ≤ℤ (local +ℤ zone) → (start -ℤ zone) ≤ℤ local
unzoned start local zone h = omega (arith, ints)

unzoned-later : (start local zone : ℤ) → (local +ℤ zone) <ℤ start → local <ℤ (start -ℤ zone)
unzoned-later start local zone h = omega (arith, ints)

unzoned-both : (a b zone : ℤ) → a ≤ℤ b → (a -ℤ zone) ≤ℤ (b -ℤ zone)
unzoned-both a b zone h = omega (arith, ints)

next : (a : ℤ) → a ≤ℤ (a +ℤ pos 1)
next a = omega (arith, ints)

module _ (p : Period) (zone : ℤ) (h : IsPeriod p) (z : IsZone zone) where
  abbrev spacing : Spacing
  spacing = Dates p zone

  pub coded : (instant : ℤ) → IsInstant instant → IsCode p zone (number_at spacing instant)
  coded instant is = instant-code p zone h z instant is

  pub rising : (earlier later : ℤ) → IsInstant earlier → earlier ≤ℤ later → number_at spacing earlier ≤ℤ number_at spacing later
  rising earlier later is most =
      number-rising p h (earlier +ℤ zone) (later +ℤ zone) (local-place p (earlier +ℤ zone) (instant-local p zone h z earlier is)) (zoned-most earlier later zone most)

  pub apart : (c d : ℤ) → IsCode p zone c → c <ℤ d → start_at spacing c <ℤ start_at spacing d
  apart c d is less = code-rising p zone h z c d is less

  pub not-lower : (c d : ℤ) → IsCode p zone c → c ≤ℤ d → start_at spacing c ≤ℤ start_at spacing d
  not-lower c d is most = unzoned-both _ _ zone (start-most p h c d (code-number p zone h z c is) most)

  -- a period begins at each instant that it holds, or before it
  pub begun : (instant : ℤ) → IsInstant instant → start_at spacing (number_at spacing instant) ≤ℤ instant
  begun instant is = unzoned _ instant zone (begins p h (instant +ℤ zone) (local-place p (instant +ℤ zone) (instant-local p zone h z instant is)))

  -- and all later ones behind it
  pub ahead : (instant c : ℤ) → IsInstant instant → number_at spacing instant <ℤ c → instant <ℤ start_at spacing c
  ahead instant c is less =
      let n = number_at spacing instant in
      let number = code-number p zone h z n (coded instant is) in
      let first = unzoned-later _ instant zone (ends p h (instant +ℤ zone) (local-place p (instant +ℤ zone) (instant-local p zone h z instant is))) in
      let later = unzoned-both _ _ zone (start-most p h (n +ℤ pos 1) c (number-more p n (n +ℤ pos 1) number (next n)) (let more : (n +ℤ pos 1) ≤ℤ c = omega (arith, ints) in more)) in
      omega (arith, ints, first, later)
