-- Bytes that are no JSON.
use Rattle.std.proofs.Common.{◌≡◌, ℕ, List, Bool, true, false, cond, Option, None, refl}
use Rattle.std.specs.Str.{IsUtf8, is_utf8}
use Rattle.std.proofs.lemmas.Str.{IsUtf8-from_is_utf8}
use Rattle.serde_json.specs.Data.{Data}
use Rattle.serde_json.specs.Read.{read}
use Rattle.agg_reading.specs.Json.{reading}

by_test : (b : Bool) (r : Option Data) → (b ≡ true → r ≡ None) → cond b r None ≡ None
by_test true r h = h refl
by_test false r h = refl

pub no_reading : (bs : List ℕ) → (IsUtf8 bs → read bs ≡ None) → reading bs ≡ None
unfolding reading
no_reading bs h = by_test (is_utf8 bs) (read bs) (λ e. h (IsUtf8-from_is_utf8 bs e))
