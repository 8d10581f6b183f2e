-- The text of an average ('Avg aggregation'): six decimals, cut toward zero.
use Rattle.std.specs.Prelude.{ℕ, ℤ, pos, ◌-◌, ◌*◌, ◌/◌, ◌%◌, ◌==◌, ◌&&◌, ◌++◌, nat_lt, int_lt, if◌then◌else◌, List, [], length, replicate, unsigned_abs, decimal, codes}
use Rattle.serde_json.specs.Data.{Data, null, string}

-- the digits, with zeros in front of them, six or more in all
abbrev pub six_digits : ℕ → List ℕ
six_digits n = replicate (6 - length (decimal n)) 48 ++ decimal n

-- so many millionths, behind a minus sign where the number is below 0
abbrev pub millionths_text : ℤ → ℕ → List ℕ
millionths_text sum millionths =
    (if int_lt sum (pos 0) && nat_lt 0 millionths then codes "-" else []) ++ (decimal (millionths / 1000000) ++ (codes "." ++ six_digits (millionths % 1000000)))

-- the sum divided by the count; of no values it is null
abbrev pub average : ℤ → ℕ → Data
average sum count = if count == 0 then null else string (millionths_text sum (unsigned_abs sum * 1000000 / count))
