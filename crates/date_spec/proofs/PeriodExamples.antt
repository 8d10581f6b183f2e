-- The keys of instants, computed by the definitions and compared with values from outside.
use Rattle.std.specs.Prelude.{◌≡◌, refl, pos, neg_ℤ, [], ◌∷◌, map}
use Rattle.date_spec.specs.declared.period.Period.TheVariants.{Fixed, Week, Month, Quarter, Year}
use Rattle.date_spec.specs.Periods.{month_of_day, first_day, period_key, key_after, period_keys, steps_between}
use Rattle.date_spec.proofs.Computing.{computing}

-- 2024-01-31T23:30 and 2024-03-01T00:00 in UTC, an hour ahead of it and five hours behind it
months : map (period_key Month (pos 0)) (pos 1706743800000 ∷ pos 1709251200000 ∷ []) ≡ pos 1704067200000 ∷ pos 1709251200000 ∷ []
unfolding computing month_of_day first_day
months = refl

months_ahead : map (period_key Month (pos 3600000)) (pos 1706743800000 ∷ pos 1709251200000 ∷ []) ≡ pos 1706742000000 ∷ pos 1709247600000 ∷ []
unfolding computing month_of_day first_day
months_ahead = refl

months_behind : map (period_key Month (neg_ℤ (pos 18000000))) (pos 1709269199999 ∷ pos 1709269200000 ∷ []) ≡ pos 1706763600000 ∷ pos 1709269200000 ∷ []
unfolding computing month_of_day first_day
months_behind = refl

-- the month between January and March
a_month_without_instants : key_after Month (pos 0) (pos 1704067200000) 1 ≡ pos 1706745600000
unfolding computing month_of_day first_day
a_month_without_instants = refl

months_from_january_to_march : period_keys Month (pos 0) (pos 1704067200000) (pos 1709251200000) ≡ pos 1704067200000 ∷ pos 1706745600000 ∷ pos 1709251200000 ∷ []
unfolding computing month_of_day first_day
months_from_january_to_march = refl

months_to_march : steps_between Month (pos 0) (pos 1704067200000) (pos 1709251200000) ≡ 2
unfolding computing month_of_day first_day
months_to_march = refl

-- 2024-02-29T23:59:59.999, 1900-02-28T23:59:59.999, 1900-03-01 and 2000-02-29
ends_of_february :
    map (period_key Month (pos 0)) (pos 1709251199999 ∷ neg_ℤ (pos 2203891200001) ∷ neg_ℤ (pos 2203891200000) ∷ pos 951782400000 ∷ [])
    ≡ pos 1706745600000 ∷ neg_ℤ (pos 2206310400000) ∷ neg_ℤ (pos 2203891200000) ∷ pos 949363200000 ∷ []
unfolding computing month_of_day first_day
ends_of_february = refl

-- 2024-03-31T23:59:59.999, 2024-04-01, 2023-12-31 and 1969-12-31T23:59:59.999
quarters :
    map (period_key Quarter (pos 0)) (pos 1711929599999 ∷ pos 1711929600000 ∷ pos 1703980800000 ∷ neg_ℤ (pos 1) ∷ [])
    ≡ pos 1704067200000 ∷ pos 1711929600000 ∷ pos 1696118400000 ∷ neg_ℤ (pos 7948800000) ∷ []
unfolding computing month_of_day first_day
quarters = refl

-- 2024-12-31T23:59:59.999, 2023-01-01 and 1969-12-31T23:59:59.999
years : map (period_key Year (pos 0)) (pos 1735689599999 ∷ pos 1672531200000 ∷ neg_ℤ (pos 1) ∷ []) ≡ pos 1704067200000 ∷ pos 1672531200000 ∷ neg_ℤ (pos 31536000000) ∷ []
unfolding computing month_of_day first_day
years = refl

-- 2024-03-01, 2020-12-31, 2021-01-03T23:59:59.999, 2021-01-04, 1970-01-01 and 1969-12-28
weeks :
    map (period_key Week (pos 0)) (pos 1709251200000 ∷ pos 1609372800000 ∷ pos 1609718399999 ∷ pos 1609718400000 ∷ pos 0 ∷ neg_ℤ (pos 345600000) ∷ [])
    ≡ pos 1708905600000 ∷ pos 1609113600000 ∷ pos 1609113600000 ∷ pos 1609718400000 ∷ neg_ℤ (pos 259200000) ∷ neg_ℤ (pos 864000000) ∷ []
weeks = refl

-- 2021-01-03, a Sunday, at 05:59:59.999 and 06:00, 18 hours ahead of UTC
weeks_ahead : map (period_key Week (pos 64800000)) (pos 1609653599999 ∷ pos 1609653600000 ∷ []) ≡ pos 1609048800000 ∷ pos 1609653600000 ∷ []
weeks_ahead = refl

-- days about 1970-01-01, and two hours in a zone that is half an hour ahead
days : map (period_key (Fixed 86400000) (pos 0)) (neg_ℤ (pos 1) ∷ pos 0 ∷ neg_ℤ (pos 86400000) ∷ neg_ℤ (pos 86400001) ∷ []) ≡ neg_ℤ (pos 86400000) ∷ pos 0 ∷ neg_ℤ (pos 86400000) ∷ neg_ℤ (pos 172800000) ∷ []
days = refl

two_hours : map (period_key (Fixed 7200000) (pos 1800000)) (pos 0 ∷ pos 1709256540000 ∷ []) ≡ neg_ℤ (pos 1800000) ∷ pos 1709249400000 ∷ []
two_hours = refl

-- the first and the last instant, 18 hours behind UTC and 18 hours ahead of it: the first lies in the year -1 or in the year 0
months_at_the_ends :
    map (period_key Month (neg_ℤ (pos 64800000))) (neg_ℤ (pos 62167219200000) ∷ pos 253402214399999 ∷ []) ≡ neg_ℤ (pos 62169832800000) ∷ pos 253399687200000 ∷ []
unfolding computing month_of_day first_day
months_at_the_ends = refl

quarters_at_the_ends :
    map (period_key Quarter (neg_ℤ (pos 64800000))) (neg_ℤ (pos 62167219200000) ∷ pos 253402214399999 ∷ []) ≡ neg_ℤ (pos 62175103200000) ∷ pos 253394416800000 ∷ []
unfolding computing month_of_day first_day
quarters_at_the_ends = refl

years_at_the_ends :
    map (period_key Year (neg_ℤ (pos 64800000))) (neg_ℤ (pos 62167219200000) ∷ pos 253402214399999 ∷ []) ≡ neg_ℤ (pos 62198690400000) ∷ pos 253370829600000 ∷ []
unfolding computing month_of_day first_day
years_at_the_ends = refl

years_at_the_ends_ahead :
    map (period_key Year (pos 64800000)) (neg_ℤ (pos 62167219200000) ∷ pos 253402214399999 ∷ []) ≡ neg_ℤ (pos 62167284000000) ∷ pos 253370700000000 ∷ []
unfolding computing month_of_day first_day
years_at_the_ends_ahead = refl

weeks_at_the_ends :
    map (period_key Week (neg_ℤ (pos 64800000))) (neg_ℤ (pos 62167219200000) ∷ pos 253402214399999 ∷ []) ≡ neg_ℤ (pos 62167586400000) ∷ pos 253401933600000 ∷ []
weeks_at_the_ends = refl

the_longest_interval : map (period_key (Fixed 185542587100800000) (pos 0)) (neg_ℤ (pos 62167219200000) ∷ pos 253402214399999 ∷ []) ≡ neg_ℤ (pos 185542587100800000) ∷ pos 0 ∷ []
the_longest_interval = refl
