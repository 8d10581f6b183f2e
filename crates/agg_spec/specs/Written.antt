-- The lines of an output, each with what it is, and their text (newline-delimited JSON).
use Rattle.std.specs.Prelude.{ℕ, ◌+◌, Bool, true, false, List, [], ◌∷◌, ◌++◌, map, flat_map, length, Option, Some, None, codes}
use Rattle.std.specs.List.{list_all}
use Rattle.serde_json.specs.Data.{Data}
use Rattle.serde_json.specs.Data.{boolean}
use Rattle.serde_json.specs.Written.{compact_text}
use Rattle.agg_model.specs.declared.breaker.Totals.{Totals}
use Rattle.agg_model.specs.declared.settings.Settings.{Settings}
use Rattle.agg_model.specs.declared.outcome.Answered.{Answered}
use Rattle.agg_model.specs.declared.outcome.Outcome.{Outcome}
use Rattle.agg_model.specs.declared.outcome.Outcome.TheVariants as ended
use Rattle.agg_model.specs.declared.outcome.Failure.{Failure}
use Rattle.agg_spec.specs.Index.{Index}
use Rattle.agg_spec.specs.Json.{object_of}
use Rattle.agg_spec.specs.ErrorLines.{error_line, text_member, exception_line, refusal_line}
use Rattle.agg_spec.specs.StatisticsLine.{statistics_line}
use Rattle.agg_spec.specs.Requests.{Segment}
use Rattle.agg_spec.specs.Rounds.{Round}
use Rattle.agg_spec.specs.Answers.{Change, Changed, accepted, refused, too_heavy, Recent, changed_by, after_line, with_rounds}

pub data Line : Type 0 where
  bulk : List ℕ → Line
  answer : Answered → Line
  settings : Changed → Line
  error : List ℕ → Line
  statistics : Totals → Line

-- the line of an answer; want of memory has none
abbrev pub answer_text : Outcome → List Failure → List ℕ
answer_text (ended.Response line) failures = line
answer_text (ended.Refused r) failures = refusal_line r failures
answer_text (ended.Tripped t) failures = exception_line t (codes "search") 429 failures
answer_text ended.Memory failures = []

-- a settings line is acknowledged, or refused by the first name that it may not set
abbrev pub settings_line : Option (List ℕ) → List ℕ
settings_line None = compact_text (object_of ((codes "acknowledged", boolean true) ∷ []))
settings_line (Some name) = error_line (text_member (codes "key") name ∷ text_member (codes "type") (codes "settings_exception") ∷ []) 400

abbrev pub settings_text : Changed → List ℕ
settings_text (accepted now) = settings_line None
settings_text (refused name) = settings_line (Some name)
settings_text (too_heavy t) = exception_line t (codes "columns") 429 []

abbrev pub line_text : Line → List ℕ
line_text (bulk text) = text
line_text (answer a) = answer_text a.outcome a.failures
line_text (settings c) = settings_text c
line_text (error text) = text
line_text (statistics t) = statistics_line t

-- a line with its newline
abbrev pub ended_line : List ℕ → List ℕ
ended_line text = text ++ codes "\n"

abbrev pub text_of : List Line → List ℕ
text_of = flat_map (λ l. ended_line (line_text l))

abbrev pub has_memory : Outcome → Bool
has_memory (ended.Response line) = true
has_memory (ended.Refused r) = true
has_memory (ended.Tripped t) = true
has_memory ended.Memory = false

abbrev pub is_printed : Line → Bool
is_printed (bulk text) = true
is_printed (answer a) = has_memory a.outcome
is_printed (settings c) = true
is_printed (error text) = true
is_printed (statistics t) = true

-- no search among them wanted memory
abbrev pub all_printed : List Line → Bool
all_printed = list_all is_printed

abbrev pub round_lines : List Round → List Line
round_lines = flat_map (λ round. map answer round.answers)

module _ (change : Change) (words : Settings) (index : Index) (columns : ℕ) where
  abbrev pub change_lines : Recent → Option Data → List Line
  change_lines recent None = []
  change_lines recent (Some line) = settings (changed_by change words index columns recent line) ∷ []

  -- the lines of the searches and settings lines in their order
  abbrev pub answer_lines : Recent → List Segment → List (List Round) → List Line
  answer_lines recent (s ∷ rest) (rounds ∷ later) =
      let now = with_rounds rounds recent in
      round_lines rounds ++ (change_lines now s.change ++ answer_lines (after_line change words index columns s.change now) rest later)
  answer_lines recent _ _ = []

-- what listeners are told of an answer: the number of its line from 1, its status, and its bytes without the newline
pub record Told : Type 0 where
  pub line : ℕ
  pub status : ℕ
  pub bytes : ℕ

abbrev pub status_of : Outcome → ℕ
status_of (ended.Response line) = 200
status_of (ended.Refused r) = 400
status_of (ended.Tripped t) = 429
status_of ended.Memory = 429

abbrev pub told_at : ℕ → Line → List Told
told_at n (bulk text) = []
told_at n (answer a) = record { line = n; status = status_of a.outcome; bytes = length (answer_text a.outcome a.failures) } ∷ []
told_at n (settings c) = []
told_at n (error text) = []
told_at n (statistics t) = []

abbrev pub told_from : ℕ → List Line → List Told
told_from n [] = []
told_from n (l ∷ rest) = told_at n l ++ told_from (n + 1) rest

-- Listeners are told of the answers to searches alone.
abbrev pub told : List Line → List Told
told = told_from 1
