-- A script whose rounds have room is answered by the whole reduction, and where it is not refused its whole output ends with status 0.
use Rattle.std.specs.Prelude.{◌≡◌, refl, ℕ, Bool, true, false, IsTrue, List, [], ◌∷◌, ◌++◌, map, Option, Some, None, is_some}
use Rattle.std.specs.List.{AllByRecursion, list_all}
use Rattle.std.proofs.Common.{◌∙◌, ap, sym, subst, inl, inr}
use Rattle.std.proofs.lemmas.Bool.{and_parts, and_from}
use Rattle.std.proofs.lemmas.List.Folds.{list_all-append, list_all-map}
use Rattle.serde_json.specs.Data.{Data}
use Rattle.agg_model.specs.declared.settings.Settings.{Settings}
use Rattle.agg_model.specs.declared.outcome.Answered.{Answered}
use Rattle.agg_spec.specs.Index.{Index}
use Rattle.agg_spec.specs.BulkLine.{bulk_line}
use Rattle.agg_spec.specs.Complete.{IsPlain, HasRoom, WaveFits, NoneTrips}
use Rattle.agg_spec.specs.Requests.{LoadedScript, Segment}
use Rattle.agg_spec.specs.Rounds.{Round}
use Rattle.agg_spec.specs.Statistics.{is_solo}
use Rattle.agg_spec.specs.Answers.{Change, Recent, IsAllowed, AreAnswered, after_line, with_rounds}
use Rattle.agg_spec.specs.Written.{Line, answer, bulk, statistics, is_printed, all_printed, has_memory, round_lines, change_lines, answer_lines}
use Rattle.agg_spec.specs.Output.{answered, HasAnswers, EndsWell, EndsRefused, IsWholeOf}
use Rattle.answer_laws.specs.Completing.{HaveRoom, ArePlain, AreQuiet, is_quiet_line}
use Rattle.answer_laws.proofs.AnswerCounts.{AllowedBy}
use Rattle.answer_laws.proofs.PlainAnswers.{plain-quiet}
use Rattle.answer_laws.proofs.PlainRounds.{answers-alike}
use Rattle.answer_laws.proofs.Untripped.{solo-plain}
use Rattle.answer_laws.proofs.WavesWithRoom.{wave-plain}

-- a test of each line holds of both parts
pub both-parts : (p : Line → Bool) (front back : List Line) → list_all p (front ++ back) ≡ true → (list_all p front ≡ true) × (list_all p back ≡ true)
both-parts p front back all = and_parts (list_all p front) (list_all p back) (sym (list_all-append p front back) ∙ all)

from-parts : (p : Line → Bool) (front back : List Line) → list_all p front ≡ true → list_all p back ≡ true → list_all p (front ++ back) ≡ true
from-parts p front back first second = list_all-append p front back ∙ and_from (list_all p front) (list_all p back) first second

module _ (index : Index) (columns : ℕ) where
  abbrev pub RoomBy : Round → Bool → Type 0
  RoomBy round b = elim b [ true ↦ NoneTrips index columns round | false ↦ WaveFits index columns round ]

  pub round-plain : (round : Round) → HasRoom index columns round → IsAllowed index columns round
      → list_all (λ (a : Answered). has_memory a.outcome) round.answers ≡ true → IsPlain index columns round
  round-plain round room may printed = by_settings (is_solo round.settings) refl
    where
      by_settings : (b : Bool) → is_solo round.settings ≡ b → IsPlain index columns round
      by_settings true solo = solo-plain index columns round (subst (RoomBy round) solo room) (subst (AllowedBy index columns round) solo may) printed
      by_settings false several = wave-plain index columns round (subst (RoomBy round) several room) (subst (AllowedBy index columns round) several may) printed

  abbrev AllPlain : List Round → Type 0
  AllPlain = AllByRecursion (IsPlain index columns)

  rounds-plain : (now : Settings) (rounds : List Round) → AllByRecursion (λ round. (round.settings ≡ now) × IsAllowed index columns round) rounds
      → AllByRecursion (HasRoom index columns) rounds → all_printed (round_lines rounds) ≡ true → AllPlain rounds
  rounds-plain now [] may room printed = tt
  rounds-plain now (round ∷ rounds) (first, rest) (here, later) printed =
      let parts = both-parts is_printed (map answer round.answers) (round_lines rounds) printed in
      (round-plain round here first.1 (sym (list_all-map is_printed answer round.answers) ∙ parts.0), rounds-plain now rounds rest later parts.1)

  rounds-quiet : (rounds : List Round) → AllPlain rounds → list_all is_quiet_line (round_lines rounds) ≡ true
  rounds-quiet [] plain = refl
  rounds-quiet (round ∷ rounds) (first, rest) =
      from-parts is_quiet_line (map answer round.answers) (round_lines rounds) (list_all-map is_quiet_line answer round.answers ∙ plain-quiet index columns round first) (rounds-quiet rounds rest)

module _ (change : Change) (words : Settings) (index : Index) (columns : ℕ) where
  segments-plain : (recent : Recent) (segments : List Segment) (rounds : List (List Round)) → AreAnswered change words index columns (IsAllowed index columns) recent segments rounds
      → AllByRecursion (AllByRecursion (HasRoom index columns)) rounds → all_printed (answer_lines change words index columns recent segments rounds) ≡ true
      → AllByRecursion (AllPlain index columns) rounds
  segments-plain recent [] [] may room printed = tt
  segments-plain recent [] (rounds ∷ later) may room printed = absurd may
  segments-plain recent (s ∷ rest) [] may room printed = absurd may
  segments-plain recent (s ∷ rest) (rounds ∷ later) (are, more) (here, behind) printed =
      let now = with_rounds rounds recent in
      let next = after_line change words index columns s.change now in
      let changes = change_lines change words index columns now s.change in
      let others = answer_lines change words index columns next rest later in
      let parts = both-parts is_printed (round_lines rounds) (changes ++ others) printed in
      (rounds-plain index columns recent.settings rounds are.each here parts.0, segments-plain next rest later more behind (both-parts is_printed changes others parts.1).1)

  change-quiet : (recent : Recent) (line : Option Data) → list_all is_quiet_line (change_lines change words index columns recent line) ≡ true
  change-quiet recent None = refl
  change-quiet recent (Some line) = refl

  segments-quiet : (recent : Recent) (segments : List Segment) (rounds : List (List Round)) → AllByRecursion (AllPlain index columns) rounds
      → list_all is_quiet_line (answer_lines change words index columns recent segments rounds) ≡ true
  segments-quiet recent [] rounds plain = refl
  segments-quiet recent (s ∷ rest) [] plain = refl
  segments-quiet recent (s ∷ rest) (rounds ∷ later) (here, behind) =
      let now = with_rounds rounds recent in
      let next = after_line change words index columns s.change now in
      let changes = change_lines change words index columns now s.change in
      let others = answer_lines change words index columns next rest later in
      from-parts is_quiet_line (round_lines rounds) (changes ++ others) (rounds-quiet index columns rounds here)
      (from-parts is_quiet_line changes others (change-quiet now s.change) (segments-quiet next rest later behind))

module _ (change : Change) (words : Settings) (s : LoadedScript) where
  abbrev start : Recent
  start = record { settings = words; rounds = [] }

  pub answers-plain : (segments : List Segment) (written : List Line) (at_end : Recent) (h : HasAnswers change words s segments written at_end) → IsTrue (all_printed written)
      → HaveRoom s h.rounds → ArePlain s h.rounds
  answers-plain segments written at_end h printed room =
      segments-plain change words s.index s.columns start segments h.rounds h.allowed room (sym (ap all_printed h.lines) ∙ printed)

  pub lines-alike : (segments : List Segment) (one other : List Line) (one_end other_end : Recent) (h : HasAnswers change words s segments one one_end)
      (g : HasAnswers change words s segments other other_end) → IsTrue (all_printed one) → IsTrue (all_printed other) → HaveRoom s h.rounds → HaveRoom s g.rounds → one ≡ other
  lines-alike segments one other one_end other_end h g printed as_printed room as_room =
      let same = answers-alike change words s.index s.columns start segments h.rounds g.rounds h.allowed g.allowed
      (answers-plain segments one one_end h printed room) (answers-plain segments other other_end g as_printed as_room) in
      h.lines
      ∙ ap (λ rounds. bulk (bulk_line s.index.name s.items (is_some words.generate)) ∷ answer_lines change words s.index s.columns start segments rounds) same
      ∙ sym g.lines

  pub answers-quiet : (segments : List Segment) (written : List Line) (at_end : Recent) (h : HasAnswers change words s segments written at_end) → IsTrue (all_printed written)
      → HaveRoom s h.rounds → AreQuiet written
  answers-quiet segments written at_end h printed room =
      ap (list_all is_quiet_line) h.lines ∙ segments-quiet change words s.index s.columns start segments h.rounds (answers-plain segments written at_end h printed room)

  pub ended-printed : (written : List Line) (ends : EndsWell change words s written) → IsTrue (all_printed written) → IsTrue (all_printed ends.answers)
  ended-printed written ends printed = (both-parts is_printed ends.answers (statistics ends.totals ∷ []) (sym (ap all_printed ends.lines) ∙ printed)).0

  pub whole-plain : (written : List Line) (ends : EndsWell change words s written) → IsTrue (all_printed written) → HaveRoom s ends.answered.rounds → ArePlain s ends.answered.rounds
  whole-plain written ends printed room = answers-plain s.segments ends.answers ends.at_end ends.answered (ended-printed written ends printed) room

  pub whole-quiet : (written : List Line) (ends : EndsWell change words s written) → IsTrue (all_printed written) → HaveRoom s ends.answered.rounds → AreQuiet written
  whole-quiet written ends printed room =
      ap (list_all is_quiet_line) ends.lines
      ∙ from-parts is_quiet_line ends.answers (statistics ends.totals ∷ []) (answers-quiet s.segments ends.answers ends.at_end ends.answered (ended-printed written ends printed) room) refl

  -- statuses 5 and 6 are those of refused scripts, and of columns beyond a limit
  pub only-status_0 : (status : ℕ) (written : List Line) → s.refused ≡ None → IsWholeOf change words (answered s) status written → (status ≡ 0) × EndsWell change words s written
  only-status_0 status written none (inl well) = well
  only-status_0 status written none (inr (inl (is, early))) = absurd (subst (λ o. EndsRefused change words s o written) none early)
  only-status_0 status written none (inr (inr (is, heavy))) = absurd heavy
