-- Sizes in bytes (Elasticsearch Reference 8, 'API conventions': byte size units), up to one petabyte.
use Rattle.std.specs.Prelude.{ℕ, ◌*◌, ◌^◌, List, drop, Option, Some, None, if◌then◌else◌, codes}
use Rattle.std.specs.Char.{is_ascii_digit}
use Rattle.std.specs.List.{prefix_len, take_while}
use Rattle.std.specs.Str.{str_eq_ignore_ascii_case}
use Rattle.agg_model.specs.declared.limits.TheConstants.{MAX_BYTE_SIZE}
use Rattle.agg_settings.specs.Numbers.{number_of, between}

-- the digits that a text begins with
abbrev pub front_digits : List ℕ → List ℕ
front_digits s = take_while is_ascii_digit s

-- what follows them
abbrev pub unit_in : List ℕ → List ℕ
unit_in s = drop (prefix_len is_ascii_digit s) s

-- the bytes of a unit, a power of 1,024; its letters may be of either case
unfoldable pub bytes_of_unit : List ℕ → Option ℕ
bytes_of_unit unit =
    if str_eq_ignore_ascii_case unit (codes "b") then Some 1 else (
    if str_eq_ignore_ascii_case unit (codes "kb") then Some (2 ^ 10) else (
    if str_eq_ignore_ascii_case unit (codes "mb") then Some (2 ^ 20) else (
    if str_eq_ignore_ascii_case unit (codes "gb") then Some (2 ^ 30) else (
    if str_eq_ignore_ascii_case unit (codes "tb") then Some (2 ^ 40) else (
    if str_eq_ignore_ascii_case unit (codes "pb") then Some (2 ^ 50) else None)))))

abbrev pub product : Option ℕ → Option ℕ → Option ℕ
product (Some n) (Some unit) = Some (n * unit)
product (Some n) None = None
product None unit = None

-- a size: digits and a unit, from least bytes to 1pb
unfoldable pub size_from : ℕ → List ℕ → Option ℕ
size_from least s = between least MAX_BYTE_SIZE (product (number_of (front_digits s)) (bytes_of_unit (unit_in s)))
