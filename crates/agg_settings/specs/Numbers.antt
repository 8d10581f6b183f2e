-- Numbers on the command line (Elasticsearch Reference 8, 'Configuring Elasticsearch': settings).
use Rattle.std.specs.Prelude.{ℕ, List, length, Option, Some, None, Bool, ◌&&◌, nat_lt, nat_le, if◌then◌else◌}
use Rattle.std.specs.Str.{all_ascii_digits}
use Rattle.std.specs.Str.Parse.{digits_value}

-- 1 to 20 decimal digits and nothing else, so no sign; a zero may stand first
abbrev pub is_number : List ℕ → Bool
is_number s = nat_lt 0 (length s) && nat_le (length s) 20 && all_ascii_digits s

-- the number that the digits write
unfoldable pub number_of : List ℕ → Option ℕ
number_of s = if is_number s then Some (digits_value 10 s) else None

abbrev pub between : ℕ → ℕ → Option ℕ → Option ℕ
between least most None = None
between least most (Some n) = if nat_le least n && nat_le n most then Some n else None

-- a number from least to most
unfoldable pub number_in : ℕ → ℕ → List ℕ → Option ℕ
number_in least most s = between least most (number_of s)
