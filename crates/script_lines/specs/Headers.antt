-- What a line is where a header is due (Elasticsearch Reference 8, 'Multi search API', 'Cluster update settings API').
use Rattle.std.specs.Prelude.{ℕ, List, Option, Some, None, Ok, if◌then◌else◌}
use Rattle.serde_json.specs.Data.{Data, object, Members}
use Rattle.serde_json.specs.View.{view}
use Rattle.agg_reading.specs.Reading.{◌>>=◌}
use Rattle.agg_reading.specs.Lines.{Script}
use Rattle.agg_reading.specs.Entries.{header_members}
use Rattle.agg_reading.specs.SettingsLines.{is_settings_line}
use Rattle.script_lines.specs.declared.header.Header.{Header}
use Rattle.script_lines.specs.declared.header.Header.TheVariants.{Search, Settings}

-- the value of a settings line, and none of the header of a search
abbrev pub change_at : Members → Option Data
change_at ms = if is_settings_line (object ms) then Some (object ms) else None

unfoldable pub header_at : ℕ → List ℕ → Script (Option Data)
header_at line text = header_members line text >>= λ ms. Ok (change_at ms)

abbrev pub change_in : Header → Option Data
change_in Search = None
change_in (Settings value) = Some (view value)
