-- The rounds of a script that have room, and runs that answer all by the whole reduction ('Multi search API'; 'Circuit breaker
-- settings').
--
-- An input has room however its searches are answered (`HasRoomHowever`) where it has room when all are answered by the whole reduction
-- (`HasRoomFor`), and one worker runs one search at a time or no search allows partial results. Of several workers and a search that
-- allows them this does not follow: the ceiling of a wave has the responses with the failures that they tell of, which are longer than
-- those without, so that a wave that has room without failures may be answered with some and then has none. There the first is asked.
use Rattle.std.specs.Prelude.{◌≡◌, ◌⊎◌, ℕ, Bool, true, false, IsTrue, List, [], None, Ok}
use Rattle.std.specs.List.{AllByRecursion, list_all}
use Rattle.serde_json.specs.Data.{Data}
use Rattle.agg_model.specs.declared.outcome.Answered.{Answered}
use Rattle.agg_model.specs.declared.settings.Settings.{Settings}
use Rattle.agg_model.specs.Lines.{lines}
use Rattle.agg_reading.specs.Script.{loaded}
use Rattle.agg_spec.specs.Answers.{AreAnswered, AreRounds, Change, IsAllowed}
use Rattle.agg_spec.specs.Complete.{HasRoom, IsPlain}
use Rattle.agg_spec.specs.Index.{Index}
use Rattle.agg_spec.specs.Outcome.{Request}
use Rattle.agg_spec.specs.Output.{EndsWell, Script, answered, script_from, text_read}
use Rattle.agg_spec.specs.Requests.{LoadedScript}
use Rattle.agg_spec.specs.Rounds.{Round, is_quiet}
use Rattle.agg_spec.specs.Statistics.{is_solo}
use Rattle.agg_spec.specs.Wave.{allows_partial}
use Rattle.agg_spec.specs.Written.{Line, answer}

-- each has room
abbrev pub HaveRoom : LoadedScript → List (List Round) → Type 0
HaveRoom script = AllByRecursion (AllByRecursion (HasRoom script.index script.columns))

-- each search of each is answered by the whole reduction, with no shard left out
abbrev pub ArePlain : LoadedScript → List (List Round) → Type 0
ArePlain script = AllByRecursion (AllByRecursion (IsPlain script.index script.columns))

-- an answer that tells of no refusal by a breaker, or a line that is no answer
abbrev pub is_quiet_line : Line → Bool
is_quiet_line (answer a) = is_quiet a.outcome a.failures
is_quiet_line (Line.bulk text) = true
is_quiet_line (Line.settings changed) = true
is_quiet_line (Line.error text) = true
is_quiet_line (Line.statistics totals) = true

-- no answer among these lines is a breaker exception, and none tells of a failed shard
abbrev pub AreQuiet : List Line → Type 0
AreQuiet written = IsTrue (list_all is_quiet_line written)

-- one worker that runs one search at a time, and asks for no pages
abbrev pub IsAlone : Settings → Type 0
IsAlone settings = IsTrue (is_solo settings) × (settings.scan ≡ false)

-- settings lines leave it so
abbrev pub KeepsAlone : Change → Settings → Type 0
KeepsAlone change words = (now after : Settings) (line : Data) → change now words line ≡ Ok after → IsAlone now → IsAlone after

-- settings lines leave it so that one worker runs one search at a time, or that it does not
abbrev pub KeepsWorkers : Change → Settings → Type 0
KeepsWorkers change words = (now after : Settings) (line : Data) → change now words line ≡ Ok after → is_solo after ≡ is_solo now

-- no search among these allows partial results
abbrev pub AskForAll : List Request → Type 0
AskForAll = AllByRecursion (λ r. allows_partial r.search ≡ false)

-- one worker runs one search at a time, or no search of these allows partial results
abbrev pub TellRoom : Settings → List Request → Type 0
TellRoom settings requests = (is_solo settings ≡ true) ⊎ AskForAll requests

-- so it is of the searches of a script
abbrev pub TellsRoom : Settings → Script → Type 0
TellsRoom words (answered s) = (is_solo words ≡ true) ⊎ AllByRecursion (λ segment. AskForAll segment.requests) s.segments
TellsRoom words _ = ⊥

-- a round has room with whatever answers its searches may have
abbrev pub RoundHasRoom : Index → ℕ → Round → Type 0
RoundHasRoom index columns round =
    (answers : List Answered) → IsAllowed index columns (record round { answers = answers }) → HasRoom index columns (record round { answers = answers })

-- The script is in the grammar, the columns are within their limits, and each round of its searches and of the pages that the whole
-- reduction comes to has room however it is answered.
abbrev pub ScriptHasRoom : Change → Settings → Script → Type 0
ScriptHasRoom change words (answered s) =
    (s.refused ≡ None) × ((rounds : List (List Round)) →
    AreAnswered change words s.index s.columns (IsPlain s.index s.columns) (record { settings = words; rounds = [] }) s.segments rounds →
    AllByRecursion (AllByRecursion (RoundHasRoom s.index s.columns)) rounds)
ScriptHasRoom change words _ = ⊥

-- the script of these words and this input
abbrev pub script_of : Settings → List ℕ → Script
script_of words input = script_from words (loaded (lines (text_read words input)))

abbrev pub HasRoomHowever : Change → Settings → List ℕ → Type 0
HasRoomHowever change words input = ScriptHasRoom change words (script_of words input)

-- All searches of the script are answered by the whole reduction, with no shard left out and no exception, and the statistics follow.
pub record IsAnsweredInFull (change : Change) (words : Settings) (input : List ℕ) (written : List Line) : Type 0 where
  pub script : LoadedScript
  pub is : script_of words input ≡ answered script
  pub ends : EndsWell change words script written
  pub plain : ArePlain script ends.answered.rounds
  pub quiet : AreQuiet written

-- A run ends with status 0, and answers all so, or it ran out of memory.
abbrev pub IsInFullUnlessMemory : Change → Settings → List ℕ → ℕ → List Line → List ℕ → Type 0
IsInFullUnlessMemory change words input status written piece =
    ((status ≡ 0) × IsAnsweredInFull change words input written × (piece ≡ [])) ⊎ (status ≡ 7)

-- A run ends with status 0, and answers in full all whose rounds have room, or it ran out of memory.
abbrev pub IsPlainWithRoom : Change → Settings → LoadedScript → ℕ → List Line → List ℕ → Type 0
IsPlainWithRoom change words script status written piece =
    ((status ≡ 0) × ((ends : EndsWell change words script written)
    × (HaveRoom script ends.answered.rounds → ArePlain script ends.answered.rounds × AreQuiet written)) × (piece ≡ []))
    ⊎ (status ≡ 7)

-- rounds of these searches that are answered by the whole reduction
pub record HasPlainRounds (index : Index) (columns : ℕ) (settings : Settings) (requests : List Request) : Type 0 where
  pub rounds : List Round
  pub are : AreRounds index columns (IsPlain index columns) settings requests rounds

-- and such rounds of a script
pub record HasPlainAnswers (change : Change) (words : Settings) (script : LoadedScript) : Type 0 where
  pub rounds : List (List Round)
  pub are : AreAnswered change words script.index script.columns (IsPlain script.index script.columns)
      (record { settings = words; rounds = [] }) script.segments rounds
