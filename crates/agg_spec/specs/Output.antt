-- The output of a run: the lines that stand whole in it, and the piece of a line behind them, by the status with which it ends.
use Rattle.std.specs.Prelude.{◌≡◌, ◌≢◌, ◌⊎◌, IsTrue, ℕ, ◌++◌, nat_lt, List, [], ◌∷◌, filter, length, take, Option, Some, None, is_some, Result, Ok, Err, codes}
use Rattle.std.specs.Option.{option_map_or}
use Rattle.agg_model.specs.declared.breaker.Tripped.{Tripped}
use Rattle.agg_model.specs.declared.breaker.Totals.{Totals}
use Rattle.agg_model.specs.declared.settings.Settings.{Settings}
use Rattle.agg_model.specs.declared.settings.Usage.{Usage}
use Rattle.agg_model.specs.Lines.{lines}
use Rattle.agg_model.specs.Lines.{Line as InputLine}
use Rattle.agg_reading.specs.Lines.{ScriptRefusal}
use Rattle.agg_reading.specs.Script.{Loaded, loaded}
use Rattle.agg_spec.specs.Generator.{generated}
use Rattle.agg_spec.specs.BulkLine.{bulk_line}
use Rattle.agg_spec.specs.ErrorLines.{exception_line}
use Rattle.agg_spec.specs.EndLines.{usage_line, script_line}
use Rattle.agg_spec.specs.Columns.{columns_refusal}
use Rattle.agg_spec.specs.Statistics.{AreTotals}
use Rattle.agg_spec.specs.Requests.{LoadedScript, Segment, loaded_script, cut_short}
use Rattle.agg_spec.specs.Rounds.{Round}
use Rattle.agg_spec.specs.Answers.{Change, Recent, IsAllowed, AreAnswered, latest}
use Rattle.agg_spec.specs.Written.{Line, bulk, error, statistics, line_text, ended_line, is_printed, all_printed, answer_lines}

-- a script as far as it is read: refused before its bulk lines were loaded, with columns beyond a limit, or loaded
pub data Script : Type 0 where
  refused : ScriptRefusal → Script
  too_heavy : Tripped → Script
  answered : LoadedScript → Script

abbrev pub if_light : LoadedScript → Option Tripped → Script
if_light s None = answered s
if_light s (Some t) = too_heavy t

abbrev pub script_from : Settings → Result Loaded ScriptRefusal → Script
script_from words (Err r) = refused r
script_from words (Ok l) = if_light (loaded_script l) (columns_refusal words.limits (loaded_script l).columns)

-- the input, or the generated script in its place
abbrev pub text_read : Settings → List ℕ → List ℕ
text_read words input = option_map_or generated words.generate input

-- the lines whose newline was read
abbrev pub whole_lines : List ℕ → List InputLine
whole_lines bytes = filter (λ l. nat_lt (length l.text) l.size) (lines bytes)

abbrev pub refusal_line : ScriptRefusal → Line
refusal_line r = error (script_line r.number r.line r.path)

module _ (change : Change) (words : Settings) where
  -- the bulk line, and the lines of these segments
  pub record HasAnswers (s : LoadedScript) (segments : List Segment) (written : List Line) (at_end : Recent) : Type 0 where
    pub rounds : List (List Round)
    pub allowed : AreAnswered change words s.index s.columns (IsAllowed s.index s.columns) (record { settings = words; rounds = [] }) segments rounds
    pub lines : written
        ≡ bulk (bulk_line s.index.name s.items (is_some words.generate))
        ∷ answer_lines change words s.index s.columns (record { settings = words; rounds = [] }) segments rounds
    pub recent : at_end ≡ latest change words s.index s.columns (record { settings = words; rounds = [] }) segments rounds

  -- all is answered, and the statistics follow
  pub record EndsWell (s : LoadedScript) (written : List Line) : Type 0 where
    pub answers : List Line
    pub at_end : Recent
    pub totals : Totals
    pub whole : s.refused ≡ None
    pub answered : HasAnswers s s.segments answers at_end
    pub total : AreTotals at_end.settings s.index s.columns at_end.rounds totals
    pub lines : written ≡ answers ++ statistics totals ∷ []

  -- all but a short last wave is answered, and these lines follow
  pub record EndsEarly (s : LoadedScript) (last written : List Line) : Type 0 where
    pub answers : List Line
    pub at_end : Recent
    pub answered : HasAnswers s (cut_short words.width s.segments) answers at_end
    pub lines : written ≡ answers ++ last

  -- status 0: the input was read to its end
  abbrev pub At0 : Script → List Line → Type 0
  At0 (refused r) written = ⊥
  At0 (too_heavy t) written = ⊥
  At0 (answered s) written = EndsWell s written

  -- status 3: the source failed behind the lines of this script
  abbrev pub At3 : Script → List Line → Type 0
  At3 (refused r) written = written ≡ []
  At3 (too_heavy t) written = written ≡ []
  At3 (answered s) written = EndsEarly s [] written

  abbrev pub EndsRefused : LoadedScript → Option ScriptRefusal → List Line → Type 0
  EndsRefused s None written = ⊥
  EndsRefused s (Some r) written = EndsEarly s (refusal_line r ∷ []) written

  -- status 5: the script is refused
  abbrev pub At5 : Script → List Line → Type 0
  At5 (refused r) written = written ≡ refusal_line r ∷ []
  At5 (too_heavy t) written = ⊥
  At5 (answered s) written = EndsRefused s s.refused written

  -- status 6: the columns are beyond a limit
  abbrev pub At6 : Script → List Line → Type 0
  At6 (refused r) written = ⊥
  At6 (too_heavy t) written = written ≡ error (exception_line t (codes "columns") 6 []) ∷ []
  At6 (answered s) written = ⊥

-- status 2: words outside the grammar end the run before anything is read
abbrev pub At2 : Usage → List Line → Type 0
At2 usage written = written ≡ error (usage_line usage) ∷ []

abbrev pub IsWholeOf : Change → Settings → Script → ℕ → List Line → Type 0
IsWholeOf change words script status written =
    ((status ≡ 0) × At0 change words script written)
    ⊎ (((status ≡ 5) × At5 change words script written) ⊎ ((status ≡ 6) × At6 change words script written))

-- the lines of an output that ends neither by a fault nor by want of memory
abbrev pub IsWhole : Change → Result Settings Usage → List ℕ → ℕ → List Line → Type 0
IsWhole change (Err usage) input status written = (status ≡ 2) × At2 usage written
IsWhole change (Ok words) input status written = IsWholeOf change words (script_from words (loaded (lines (text_read words input)))) status written

-- such an output ends behind these lines, within or before the next one
pub record IsCut (change : Change) (words : Result Settings Usage) (input : List ℕ) (written : List Line) (next : Line) : Type 0 where
  pub later : List Line
  pub status : ℕ
  pub whole : IsWhole change words input status (written ++ next ∷ later)

-- status 4: the sink failed, and of the next line a front was written that is not all of it
pub record At4 (change : Change) (words : Result Settings Usage) (input : List ℕ) (written : List Line) (piece : List ℕ) : Type 0 where
  pub next : Line
  pub cut : IsCut change words input written next
  pub printed : IsTrue (is_printed next)
  pub left : List ℕ
  pub some_left : left ≢ []
  pub front : ended_line (line_text next) ≡ piece ++ left

-- status 7: memory ran out, in place of the next line
pub record At7 (change : Change) (words : Result Settings Usage) (input : List ℕ) (written : List Line) : Type 0 where
  pub next : Line
  pub cut : IsCut change words input written next

-- of the input `read` bytes were read before the source failed
abbrev pub IsStopped : Change → Result Settings Usage → List ℕ → ℕ → List Line → Type 0
IsStopped change (Err usage) input read written = ⊥
IsStopped change (Ok words) input read written =
    (words.generate ≡ None) × At3 change words (script_from words (loaded (whole_lines (take read input)))) written

-- These lines, and behind them this piece of a line, are an output of a run.
pub record IsOutput (change : Change) (words : Result Settings Usage) (input : List ℕ) (read status : ℕ) (written : List Line)
    (piece : List ℕ) : Type 0 where
  pub printed : IsTrue (all_printed written)
  pub by_status : (IsWhole change words input status written × (piece ≡ []))
      ⊎ (((status ≡ 3) × IsStopped change words input read written × (piece ≡ []))
      ⊎ (((status ≡ 4) × At4 change words input written piece) ⊎ ((status ≡ 7) × At7 change words input written × (piece ≡ []))))
