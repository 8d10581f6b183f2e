-- Where memory and limits are enough, a run answers each search as the whole reduction does ('Circuit breaker settings').
use Rattle.std.specs.Prelude.{◌≡◌, ◌≤◌, ℕ, true, false, List, [], map, None}
use Rattle.std.specs.List.{AllByRecursion}
use Rattle.agg_model.specs.declared.settings.Settings.{Settings}
use Rattle.agg_model.specs.Lines.{lines}
use Rattle.agg_reading.specs.Script.{loaded}
use Rattle.agg_spec.specs.Index.{Index}
use Rattle.agg_spec.specs.Charges.{no_amounts}
use Rattle.agg_spec.specs.Rounds.{Round, plain_answer, body_bytes}
use Rattle.agg_spec.specs.Solo.{idle, solo_run}
use Rattle.agg_spec.specs.Wave.{wave_ceiling}
use Rattle.agg_spec.specs.Statistics.{is_solo}
use Rattle.agg_spec.specs.Answers.{Change, AreAnswered}
use Rattle.agg_spec.specs.Output.{Script, refused, too_heavy, answered, script_from, text_read}

module _ (index : Index) (columns : ℕ) where
  -- each search is answered by the whole reduction, with no shard left out
  abbrev pub IsPlain : Round → Type 0
  IsPlain round = round.answers ≡ map (plain_answer index round.settings) round.requests

  -- the limits hold all that the wave can charge
  pub record WaveFits (round : Round) : Type 0 where
    pub at_request : wave_ceiling round.settings index columns round.requests round.answers ≤ round.settings.limits.request
    pub at_parent : wave_ceiling round.settings index columns round.requests round.answers ≤ round.settings.limits.parent
    pub bodies : body_bytes round.requests ≤ round.settings.limits.inflight

  -- with one worker that runs one search at a time it is enough that no charge is refused
  abbrev pub NoneTrips : Round → Type 0
  NoneTrips round = AllByRecursion (λ r. (solo_run round.settings index (idle columns) r).run.trips ≡ no_amounts) round.requests

  abbrev pub HasRoom : Round → Type 0
  HasRoom round = elim (is_solo round.settings) [ true ↦ NoneTrips round | false ↦ WaveFits round ]

abbrev pub ScriptFits : Change → Settings → Script → Type 0
ScriptFits change words (refused r) = ⊥
ScriptFits change words (too_heavy t) = ⊥
ScriptFits change words (answered s) =
    (s.refused ≡ None) × ((rounds : List (List Round)) →
    AreAnswered change words s.index s.columns (IsPlain s.index s.columns) (record { settings = words; rounds = [] }) s.segments rounds →
    AllByRecursion (AllByRecursion (HasRoom s.index s.columns)) rounds)

-- The script is in the grammar, the columns are within their limits, and so is each round that is answered by the whole reduction.
-- Then, where neither source nor sink fails, the run ends with all answers plain, or for want of memory.
abbrev pub HasRoomFor : Change → Settings → List ℕ → Type 0
HasRoomFor change words input = ScriptFits change words (script_from words (loaded (lines (text_read words input))))
