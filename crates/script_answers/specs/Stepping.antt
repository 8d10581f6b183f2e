-- An output in the middle: entries were read, some of them answered, and the searches behind them wait for their wave to be full.
use Rattle.std.specs.Prelude.{◌≡◌, ◌≤◌, ◌<◌, ℕ, List, [], ◌∷◌, ◌++◌, map, length}
use Rattle.agg_model.specs.declared.settings.Settings.{Settings}
use Rattle.agg_reading.specs.Entries.{Entry, Entries, body}
use Rattle.agg_settings.specs.Changes.{changed}
use Rattle.agg_spec.specs.Index.{Index}
use Rattle.agg_spec.specs.Answers.{Recent}
use Rattle.agg_spec.specs.Written.{Line}
use Rattle.script_answers.specs.Outputs.{Output}
use Rattle.script_answers.specs.Rest.{IsCut, EndsWell}
use Rattle.script_answers.specs.Steps.{Leads, WroteLines, WroteFront}
use Rattle.script_answers.specs.declared.stop.Stop.{Stop}
use Rattle.script_answers.specs.declared.stop.Stop.TheVariants.{Write, Memory}

-- the searches of these bodies
abbrev pub bodies_of : List (List ℕ) → List Entry
bodies_of wave = map body wave

-- the wave is not full, and its width is that of the words
pub record IsReady (words : Settings) (recent : Recent) (wave : List (List ℕ)) : Type 0 where
  pub some : 1 ≤ words.width
  pub wide : recent.settings.width ≡ words.width
  pub short : length wave < words.width

module _ (words : Settings) (index : Index) (columns : ℕ) where
  -- one more entry was read: the answered ones lead on to those that wait
  pub record TakesEntry (recent : Recent) (wave : List (List ℕ)) (e : Entry) (before after : Output) (now : Recent) (still : List (List ℕ)) : Type 0 where
    pub answered : List Entry
    pub written : List Line
    pub entries : bodies_of wave ++ e ∷ [] ≡ answered ++ bodies_of still
    pub leads : Leads changed words index columns recent answered written now
    pub wrote : WroteLines before after written

  -- what was written where a step stops, with these entries from its place on
  abbrev pub StopsAt : Recent → Entries → Output → Output → Stop → Type 0
  StopsAt recent left before after Write = (written : List Line) × (next : Line) × WroteFront before after written next × IsCut changed words index columns recent left written next
  StopsAt recent left before after Memory = (written : List Line) × (next : Line) × WroteLines before after written × IsCut changed words index columns recent left written next

  -- all is written, with the statistics
  abbrev pub Finishes : Recent → Entries → Output → Output → Type 0
  Finishes recent left before after = (written : List Line) × WroteLines before after written × EndsWell changed words index columns recent left written
