-- Texts of one shape, and the numbers in them (ISO 8601-1:2019, 'Expressions'). A text is its bytes.
use Rattle.std.specs.Prelude.{ℕ, ◌-◌, ◌==◌, Bool, true, false, ◌&&◌, if◌then◌else◌, List, [], ◌∷◌, ◌++◌, length, replicate, take, drop, decimal}
use Rattle.std.specs.Char.{is_ascii_digit}
use Rattle.std.specs.Str.Parse.{digits_value}

-- a character at a place of a shape: `0` stands for any digit, every other character for itself
abbrev pub stands_for : ℕ → ℕ → Bool
stands_for place c = if place == 48 then is_ascii_digit c else (c == place)

-- a text has a shape
unfoldable pub has_shape : List ℕ → List ℕ → Bool
has_shape [] [] = true
has_shape [] (c ∷ cs) = false
has_shape (place ∷ places) [] = false
has_shape (place ∷ places) (c ∷ cs) = stands_for place c && has_shape places cs

-- the number that n digits write, behind so many characters
abbrev pub number_at : ℕ → ℕ → List ℕ → ℕ
number_at before n text = digits_value 10 (take n (drop before text))

-- the digits of a number, with zeros in front of them, k or more in all
abbrev pub padded : ℕ → ℕ → List ℕ
padded k n = replicate (k - length (decimal n)) 48 ++ decimal n
