-- How many lines an output has ('Multi search API': a response for each request).
use Rattle.std.specs.Prelude.{◌≡◌, ℕ, ◌+◌, List, option_to_list, length, sum_by, Ok}
use Rattle.serde_json.specs.Data.{Data}
use Rattle.agg_model.specs.declared.settings.Settings.{Settings}
use Rattle.agg_spec.specs.Answers.{Change}
use Rattle.agg_spec.specs.Requests.{Segment}

-- a settings line changes neither the width of waves nor whether pages are asked for
abbrev pub KeepsWaves : Change → Settings → Type 0
KeepsWaves change words =
    (now after : Settings) (line : Data) → change now words line ≡ Ok after → (after.width ≡ now.width) × (after.scan ≡ now.scan)

-- the searches and the settings lines of some segments
abbrev pub entry_count : List Segment → ℕ
entry_count = sum_by (λ s. length s.requests + length (option_to_list s.change))
