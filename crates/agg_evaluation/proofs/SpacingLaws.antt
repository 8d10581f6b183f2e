-- What the tests of periods, zones and bounds say ('Date histogram aggregation').
use Rattle.std.specs.Prelude.{◌≡◌, ℤ, pos, neg_ℤ, ◌≤ℤ◌, int_le, nat_le, true}
use Rattle.std.proofs.Common.{arith}
use Rattle.std.proofs.lemmas.Int.{ints}
use Rattle.std.proofs.lemmas.Bool.{and_parts}
use Rattle.std.proofs.lemmas.Bool.Decides.{nat_tests}
use Rattle.date_spec.specs.declared.period.Period.{Period}
use Rattle.date_spec.specs.declared.period.Period.TheVariants.{Fixed, Week, Month, Quarter, Year}
use Rattle.date_spec.specs.declared.period.TheConstants.{GREATEST_INTERVAL}
use Rattle.date_spec.specs.declared.range.TheConstants.{GREATEST_INSTANT, LEAST_INSTANT}
use Rattle.date_spec.specs.Instants.{is_in_range}
use Rattle.date_spec.specs.Periods.{IsInstant, IsPeriod, IsZone}
use Rattle.agg_evaluation.specs.Spacings.{is_period, is_zone}

most : (a b : ℤ) → int_le a b ≡ true → a ≤ℤ b
most a b h = omega (arith, ints)

pub period-is : (p : Period) → is_period p ≡ true → IsPeriod p
period-is (Fixed millis) h =
    let parts = and_parts (nat_le 1 millis) (nat_le millis GREATEST_INTERVAL) h in
    (let low = parts.0 in grind (arith, nat_tests, low), let high = parts.1 in grind (arith, nat_tests, high))
period-is Week h = tt
period-is Month h = tt
period-is Quarter h = tt
period-is Year h = tt

pub zone-is : (zone : ℤ) → is_zone zone ≡ true → IsZone zone
zone-is zone h =
    let parts = and_parts (int_le (neg_ℤ (pos 64_800_000)) zone) (int_le zone (pos 64_800_000)) h in
    (most (neg_ℤ (pos 64_800_000)) zone parts.0, most zone (pos 64_800_000) parts.1)

pub instant-is : (instant : ℤ) → is_in_range instant ≡ true → IsInstant instant
instant-is instant h =
    let parts = and_parts (int_le LEAST_INSTANT instant) (int_le instant GREATEST_INSTANT) h in
    (most LEAST_INSTANT instant parts.0, most instant GREATEST_INSTANT parts.1)
