-- Members of one plain value: numbers, booleans, words of a set (RFC 8259).
-- WRONG_TYPE is a value of another JSON type; OUT_OF_RANGE one outside its range or set, a number that is not whole too.
use Rattle.std.specs.Prelude.{ℕ, ℤ, List, Option, Some, None, Ok, Bool, ◌&&◌, if◌then◌else◌, nat_le}
use Rattle.serde_json.specs.Data.{Data, Num}
use Rattle.serde_json.specs.Find.{as_number, as_u64, as_i64, as_bool}
use Rattle.agg_model.specs.declared.body_refusal.TheConstants.{OUT_OF_RANGE, WRONG_TYPE}
use Rattle.agg_reading.specs.Reading.{Reading, ◌>>=◌, refuse, or_refuse}
use Rattle.agg_reading.specs.Json.{text_at, is_among}

unfoldable pub number_at : List ℕ → Data → Reading Num
number_at at d = or_refuse WRONG_TYPE at (as_number d)

abbrev pub in_range : ℕ → ℕ → List ℕ → Option ℕ → Reading ℕ
in_range least most at None = refuse OUT_OF_RANGE at
in_range least most at (Some n) = if nat_le least n && nat_le n most then Ok n else refuse OUT_OF_RANGE at

-- a whole number from least to most
unfoldable pub whole_at : ℕ → ℕ → List ℕ → Data → Reading ℕ
whole_at least most at d = number_at at d >>= λ n. in_range least most at (as_u64 n)

-- a whole number of signed 64 bits
unfoldable pub signed_at : List ℕ → Data → Reading ℤ
signed_at at d = number_at at d >>= λ n. or_refuse OUT_OF_RANGE at (as_i64 n)

unfoldable pub truth_at : List ℕ → Data → Reading Bool
truth_at at d = or_refuse WRONG_TYPE at (as_bool d)

-- a text of this set
unfoldable pub choice_at : List (List ℕ) → List ℕ → Data → Reading (List ℕ)
choice_at words at d = text_at WRONG_TYPE at d >>= λ s. if is_among words s then Ok s else refuse OUT_OF_RANGE at
