-- The local times and the periods that are computed with: those of a date field and of what lies between its keys, and more.
use Rattle.std.specs.Prelude.{ℤ, pos, neg_ℤ, ◌+ℤ◌, ◌≤ℤ◌, ◌^◌}
use Rattle.date_spec.specs.declared.range.TheConstants.{GREATEST_INSTANT, LEAST_INSTANT}
use Rattle.date_spec.specs.declared.period.Period.{Period}
use Rattle.date_spec.specs.declared.period.Period.TheVariants.{Fixed, Week, Month, Quarter, Year}
use Rattle.date_spec.specs.Periods.{number_of}

-- the earliest local time: months, quarters and years are told from the year -400 on
abbrev pub earliest : Period → ℤ
earliest (Fixed millis) = neg_ℤ (pos (2 ^ 62))
earliest Week = neg_ℤ (pos (2 ^ 62))
earliest Month = neg_ℤ (pos 74_790_000_000_000)
earliest Quarter = neg_ℤ (pos 74_790_000_000_000)
earliest Year = neg_ℤ (pos 74_790_000_000_000)

-- from there to the end of the year 9999
abbrev pub IsLocal : Period → ℤ → Type 0
IsLocal period local = (earliest period ≤ℤ local) × (local ≤ℤ pos 253_402_300_799_999)

-- the number of a period that begins in this time
abbrev pub IsNumber : Period → ℤ → Type 0
IsNumber (Fixed millis) number = Unit {0}
IsNumber Week number = Unit {0}
IsNumber Month number = neg_ℤ (pos 4800) ≤ℤ number
IsNumber Quarter number = neg_ℤ (pos 1600) ≤ℤ number
IsNumber Year number = neg_ℤ (pos 400) ≤ℤ number

-- the number of a period of a zone from the one of the first instant of a date field to that of the last
abbrev pub IsCode : Period → ℤ → ℤ → Type 0
IsCode period zone code = (number_of period (LEAST_INSTANT +ℤ zone) ≤ℤ code) × (code ≤ℤ number_of period (GREATEST_INSTANT +ℤ zone))
