-- Lines that are written one after another, up to a fault of the sink or want of memory.
use Rattle.std.specs.Prelude.{◌≡◌, List, ◌∷◌, ◌++◌, Result, Ok, Err}
use Rattle.agg_spec.specs.Written.{Line}
use Rattle.script_answers.specs.Outputs.{Output}
use Rattle.script_answers.specs.Steps.{WroteLines, WroteFront}
use Rattle.script_answers.specs.declared.stop.Stop.{Stop}
use Rattle.script_answers.specs.declared.stop.Stop.TheVariants.{Write, Memory}

-- of these lines the first ones were written, and a front of the next one that is not all of it
pub record Breaks (before after : Output) (lines : List Line) : Type 0 where
  pub done : List Line
  pub next : Line
  pub others : List Line
  pub are : lines ≡ done ++ next ∷ others
  pub wrote : WroteFront before after done next

-- of these lines the first ones were written, and not all
pub record Wants (before after : Output) (lines : List Line) : Type 0 where
  pub done : List Line
  pub next : Line
  pub others : List Line
  pub are : lines ≡ done ++ next ∷ others
  pub wrote : WroteLines before after done

abbrev pub Stops : Output → Output → List Line → Stop → Type 0
Stops before after lines Write = Breaks before after lines
Stops before after lines Memory = Wants before after lines

-- what was written of these lines
abbrev pub Puts : {X : Type 0} → Output → Output → List Line → Result X Stop → Type 0
Puts before after lines (Ok x) = WroteLines before after lines
Puts before after lines (Err stop) = Stops before after lines stop
