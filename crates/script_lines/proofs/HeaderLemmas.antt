-- What a header line is, by the value that its bytes are.
use Rattle.std.proofs.Common.{◌≡◌, ◌∙◌, ℕ, true, false, List, [], Option, Some, None, Ok, Err, refl, sym, ap}
use Rattle.std.specs.Prelude.{is_some, option_map, if◌then◌else◌}
use Rattle.serde_json.specs.Data.{Data, null, boolean, number, string, array, object, Members}
use Rattle.serde_json.specs.Find.{as_object}
use Rattle.agg_model.specs.declared.script_refusal.TheConstants.{BAD_HEADER}
use Rattle.agg_reading.specs.Json.{reading, object_at}
use Rattle.agg_reading.specs.Reading.{◌>>=◌, or_refuse}
use Rattle.agg_reading.specs.Lines.{Script}
use Rattle.agg_reading.specs.Script.{at_line}
use Rattle.agg_reading.specs.Entries.{header_members}
use Rattle.agg_reading.specs.SettingsLines.{is_settings_line}
use Rattle.script_lines.specs.Headers.{header_at, change_at}

abbrev bad_header : ℕ → Script (Option Data)
bad_header line = Err (record { number = BAD_HEADER; line = line; path = [] })

abbrev object_in : ℕ → Option Members → Script (Option Data)
object_in line o = at_line line (or_refuse BAD_HEADER [] o) >>= λ ms. Ok (change_at ms)

by_value : (line : ℕ) (text : List ℕ) (d : Data) → reading text ≡ Some d → header_at line text ≡ object_in line (as_object d)
unfolding header_at header_members object_at
by_value line text d e = ap (λ (o : Option Data). at_line line (or_refuse BAD_HEADER [] o >>= object_at BAD_HEADER []) >>= λ ms. Ok (change_at ms)) e

-- bytes that are no JSON
pub no_value : (line : ℕ) (text : List ℕ) → reading text ≡ None → header_at line text ≡ bad_header line
unfolding header_at header_members
no_value line text e = ap (λ (o : Option Data). at_line line (or_refuse BAD_HEADER [] o >>= object_at BAD_HEADER []) >>= λ ms. Ok (change_at ms)) e

-- a value that is no object
pub no_object : {X : Type 0} (line : ℕ) (text : List ℕ) (d : Data) (o : Option X) (members : X → Members) → Some d ≡ reading text → option_map members o ≡ as_object d → is_some o ≡ false → header_at line text ≡ bad_header line
no_object line text d None members e is none = by_value line text d (sym e) ∙ ap (object_in line) (sym is)
no_object line text d (Some x) members e is none = absurd cc

an_object : (line : ℕ) (d : Data) (ms : Members) → Some ms ≡ as_object d → object_in line (as_object d) ≡ Ok (if is_settings_line d then Some d else None)
an_object line (object ms) other is = refl
an_object line null other is = absurd cc
an_object line (boolean b) other is = absurd cc
an_object line (number n) other is = absurd cc
an_object line (string s) other is = absurd cc
an_object line (array items) other is = absurd cc

-- an object
pub is_header : {X : Type 0} (line : ℕ) (text : List ℕ) (d : Data) (o : Option X) (members : X → Members) → Some d ≡ reading text → option_map members o ≡ as_object d → is_some o ≡ true →
    header_at line text ≡ Ok (if is_settings_line d then Some d else None)
is_header line text d None members e is some = absurd cc
is_header line text d (Some x) members e is some = by_value line text d (sym e) ∙ an_object line d (members x) is
