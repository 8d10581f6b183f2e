-- An output has a line for the bulk actions, each search and each settings line.
use Rattle.std.specs.Prelude.{◌≡◌, refl, ◌≤◌, ℕ, ◌+◌, false, List, [], ◌∷◌, ◌++◌, length, option_to_list, Option, Some, None, Result, Ok, Err}
use Rattle.std.proofs.Common.{◌∙◌, ap, arith}
use Rattle.std.proofs.lemmas.List.{length-append}
use Rattle.std.proofs.lemmas.List.Sums.{sum_by-cons}
use Rattle.serde_json.specs.Data.{Data}
use Rattle.agg_model.specs.declared.breaker.Tripped.{Tripped}
use Rattle.agg_model.specs.declared.settings.Settings.{Settings}
use Rattle.agg_spec.specs.Index.{Index}
use Rattle.agg_spec.specs.Columns.{columns_refusal}
use Rattle.agg_spec.specs.Requests.{LoadedScript, Segment}
use Rattle.agg_spec.specs.Rounds.{Round}
use Rattle.agg_spec.specs.Answers.{Change, Recent, IsAllowed, AreAnswered, if_light, changed_to, after_change, after_line, with_rounds}
use Rattle.agg_spec.specs.Written.{Line, round_lines, change_lines, answer_lines}
use Rattle.agg_spec.specs.Output.{HasAnswers}
use Rattle.answer_laws.specs.LineCounts.{KeepsWaves, entry_count}
use Rattle.answer_laws.proofs.AnswerCounts.{waves-length}
use Rattle.answer_laws.proofs.WaveCounts.{batches-length}

-- searches run in waves
abbrev InWaves : Settings → Type 0
InWaves settings = (settings.scan ≡ false) × (1 ≤ settings.width)

module _ (change : Change) (words : Settings) (index : Index) (columns : ℕ) (keeps : KeepsWaves change words) where
  light-waves : (o : Option Tripped) (after : Settings) (recent : Recent) → InWaves recent.settings → InWaves after → InWaves (after_change (if_light after o) recent).settings
  light-waves None after recent now later = later
  light-waves (Some t) after recent now later = now

  changed-waves : (r : Result Settings (List ℕ)) (line : Data) (recent : Recent) → change recent.settings words line ≡ r → InWaves recent.settings
      → InWaves (after_change (changed_to columns r) recent).settings
  changed-waves (Err name) line recent same now = now
  changed-waves (Ok after) line recent same (no_scan, wide) =
      let kept = keeps recent.settings after line same in
      let width = kept.0 in
      light-waves (columns_refusal after.limits columns) after recent (no_scan, wide) (kept.1 ∙ no_scan, omega (arith, width, wide))

  line-waves : (c : Option Data) (recent : Recent) → InWaves recent.settings → InWaves (after_line change words index columns c recent).settings
  line-waves None recent now = now
  line-waves (Some line) recent now = changed-waves (change recent.settings words line) line recent refl now

  change-length : (c : Option Data) (recent : Recent) → length (change_lines change words index columns recent c) ≡ length (option_to_list c)
  change-length None recent = refl
  change-length (Some line) recent = refl

  lines-length : (segments : List Segment) (rounds : List (List Round)) (recent : Recent) → InWaves recent.settings
      → AreAnswered change words index columns (IsAllowed index columns) recent segments rounds
      → length (answer_lines change words index columns recent segments rounds) ≡ entry_count segments
  lines-length [] [] recent waves answered = refl
  lines-length [] (rounds ∷ later) recent waves answered = absurd answered
  lines-length (s ∷ rest) [] recent waves answered = absurd answered
  lines-length (s ∷ rest) (rounds ∷ later) recent waves (are, more) =
      let now = with_rounds rounds recent in
      let next = after_line change words index columns s.change now in
      let changes = change_lines change words index columns now s.change in
      let later_lines = answer_lines change words index columns next rest later in
      let first = length-append (round_lines rounds) (changes ++ later_lines) in
      let second = length-append changes later_lines in
      let searches = waves-length index columns recent.settings s.requests rounds waves.0 are ∙ batches-length recent.settings.width s.requests waves.1 in
      let line = change-length s.change now in
      let others = lines-length rest later next (line-waves s.change now waves) more in
      let sum = sum_by-cons (λ (t : Segment). length t.requests + length (option_to_list t.change)) s rest in
      omega (arith, first, second, searches, line, others, sum)

pub written-length : (change : Change) (words : Settings) (s : LoadedScript) (segments : List Segment) (written : List Line) (at_end : Recent) → KeepsWaves change words
    → words.scan ≡ false → 1 ≤ words.width → HasAnswers change words s segments written at_end → length written ≡ 1 + entry_count segments
written-length change words s segments written at_end keeps no_scan wide has =
    let rest = lines-length change words s.index s.columns keeps segments has.rounds (record { settings = words; rounds = [] }) (no_scan, wide) has.allowed in
    let all = ap length has.lines in
    omega (arith, all, rest)
