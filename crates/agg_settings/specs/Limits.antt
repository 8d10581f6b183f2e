-- Limits of circuit breakers (Elasticsearch Reference 8, 'Circuit breaker settings').
use Rattle.std.specs.Prelude.{◌≤◌, ℕ, ◌*◌, ◌/◌, List, Option, Some, option_map, if◌then◌else◌, codes}
use Rattle.std.specs.Str.{bytes_eq}
use Rattle.agg_model.specs.declared.limits.TheConstants.{MAX_BYTE_SIZE}
use Rattle.agg_settings.specs.Numbers.{number_in}
use Rattle.agg_settings.specs.Sizes.{front_digits, unit_in, size_from}
use Rattle.agg_settings.specs.declared.amount.Amount.{Amount}
use Rattle.agg_settings.specs.declared.amount.Amount.TheVariants.{Bytes, Percent}

-- what the text of a limit says: `0`, a whole percentage from 0 to 100, or a size up to 1pb
unfoldable pub amount_of : List ℕ → Option Amount
amount_of s =
    if bytes_eq s (codes "0") then Some (Bytes 0) else (
    if bytes_eq (unit_in s) (codes "%") then option_map Percent (number_in 0 100 (front_digits s)) else
    option_map Bytes (size_from 0 s))

-- the bytes of a limit, a percentage of the heap rounded down
abbrev pub bytes_in : ℕ → Amount → ℕ
bytes_in heap (Bytes n) = n
bytes_in heap (Percent p) = heap * p / 100

-- the bytes that a limit's text says
abbrev pub limit_of : ℕ → List ℕ → Option ℕ
limit_of heap s = option_map (bytes_in heap) (amount_of s)

-- at most 1pb, or 100 per cent
abbrev pub IsBounded : Amount → Type 0
IsBounded (Bytes n) = n ≤ MAX_BYTE_SIZE
IsBounded (Percent p) = p ≤ 100
