-- Whether a run reads what its source has left.
use Rattle.std.specs.Prelude.{Result, Ok, Err, IsSome, ⊤}
use Rattle.agg_model.specs.declared.settings.Settings.{Settings}
use Rattle.agg_model.specs.declared.settings.Usage.{Usage}

-- words that ask for no input: those that ask for a generated script in its place, and those that are outside the grammar
abbrev pub AskForNoInput : Result Settings Usage → Type 0
AskForNoInput (Ok settings) = IsSome settings.generate
AskForNoInput (Err usage) = ⊤
