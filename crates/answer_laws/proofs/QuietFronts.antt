-- Where an input has room however it is answered, no line is a breaker exception or tells of a failed shard up to the first search that
-- wants memory.
use Rattle.std.specs.Prelude.{◌≡◌, refl, ⊤, ◌≤◌, ℕ, ◌+◌, ◌*◌, Bool, true, false, List, [], ◌∷◌, ◌++◌, map, option_to_list, sum, None, Some, Option}
use Rattle.std.specs.List.{AllByRecursion, list_all}
use Rattle.std.proofs.Common.{◌∙◌, ap, sym, subst, inl, inr, arith}
use Rattle.std.proofs.lemmas.Bool.{and_parts, and_from, true≢false}
use Rattle.std.proofs.lemmas.List.Sums.{sum_by-cons, sum_by-le-sum_by}
use Rattle.serde_json.specs.Data.{Data}
use Rattle.agg_model.specs.declared.outcome.Answered.{Answered}
use Rattle.agg_model.specs.declared.settings.Settings.{Settings}
use Rattle.agg_spec.specs.Answers.{Change, Recent, IsAllowed, IsSolo, ArePages, AreRounds, AreAnswered, page_after, after_line, with_rounds}
use Rattle.agg_spec.specs.Charges.{no_amounts}
use Rattle.agg_spec.specs.Complete.{IsPlain, HasRoom, WaveFits}
use Rattle.agg_spec.specs.Index.{Index, shard_numbers}
use Rattle.agg_spec.specs.Outcome.{Request}
use Rattle.agg_spec.specs.Output.{EndsWell}
use Rattle.agg_spec.specs.Reduction.{batches}
use Rattle.agg_spec.specs.Requests.{LoadedScript, Segment}
use Rattle.agg_spec.specs.Rounds.{Round, body_bytes, plain_answer}
use Rattle.agg_spec.specs.Solo.{idle, solo_run}
use Rattle.agg_spec.specs.Statistics.{is_solo}
use Rattle.agg_spec.specs.Wave.{MayAnswer, MayAnswerEach, MayAnswerWave, body_charge, body_refusals, search_in, task_peaks, wave_ceiling}
use Rattle.agg_spec.specs.Written.{Line, answer, statistics, has_memory, is_printed, all_printed, round_lines, change_lines, answer_lines}
use Rattle.answer_laws.specs.Completing.{RoundHasRoom, is_quiet_line}
use Rattle.answer_laws.proofs.AnswerCounts.{AllowedBy, Formed}
use Rattle.answer_laws.proofs.Completing.{RoomBy}
use Rattle.answer_laws.proofs.PlainAnswers.{quiet-request}
use Rattle.answer_laws.proofs.RoomHowever.{heads, tails}
use Rattle.answer_laws.proofs.SameRounds.{Meant, round-has, round-same, rounds-same}
use Rattle.answer_laws.proofs.Untripped.{untripped-plain}
use Rattle.answer_laws.proofs.WavesWithRoom.{answer-plain, body-granted}

-- as long as the lines are printed they are quiet
abbrev pub QuietUntil : List Line → Type 0
QuietUntil [] = ⊤
QuietUntil (l ∷ rest) = is_printed l ≡ true → (is_quiet_line l ≡ true) × QuietUntil rest

pub until-front : (front back : List Line) → QuietUntil (front ++ back) → all_printed front ≡ true → list_all is_quiet_line front ≡ true
until-front [] back h printed = refl
until-front (l ∷ front) back h printed =
    let parts = and_parts (is_printed l) (all_printed front) printed in
    let here = h parts.0 in
    and_from (is_quiet_line l) (list_all is_quiet_line front) here.0 (until-front front back here.1 parts.1)

pub until-append : (front back : List Line) → QuietUntil front → (all_printed front ≡ true → QuietUntil back) → QuietUntil (front ++ back)
until-append [] back h k = k refl
until-append (l ∷ front) back h k = λ p. ((h p).0, until-append front back (h p).1 (λ q. k (and_from (is_printed l) (all_printed front) p q)))

module _ (index : Index) (columns : ℕ) where
  plain-line : (settings : Settings) (r : Request) (a : Answered) → a ≡ plain_answer index settings r → is_quiet_line (answer a) ≡ true
  plain-line settings r a is = ap (λ b. is_quiet_line (answer b)) is ∙ quiet-request index settings.max_buckets r.search

  module _ (settings : Settings) (ceiling : ℕ) (at_request : ceiling ≤ settings.limits.request) (at_parent : ceiling ≤ settings.limits.parent) where
    each-until : (before : ℕ) (requests : List Request) (answers : List Answered) → before + body_bytes requests ≤ settings.limits.inflight
        → columns + before + body_bytes requests ≤ settings.limits.parent
        → MayAnswerEach settings index columns ceiling requests (body_refusals settings index columns before requests) answers → QuietUntil (map answer answers)
    each-until before [] [] bodies whole may = tt
    each-until before [] (a ∷ answers) bodies whole may = absurd may
    each-until before (r ∷ requests) [] bodies whole may = absurd may
    each-until before (r ∷ requests) (a ∷ answers) bodies whole (first, later) =
        let sum = sum_by-cons (λ (q : Request). 2 * q.bytes) r requests in
        let granted = body-granted settings index columns before r (omega (arith, bodies, sum)) (omega (arith, whole, sum)) in
        let here = subst (λ t. MayAnswer settings index columns ceiling r t a) granted first in
        let behind = subst (λ t. MayAnswerEach settings index columns ceiling requests (body_refusals settings index columns (before + body_charge settings index columns t r) requests) answers) granted later in
        λ printed. (
          plain-line settings r a (answer-plain settings index columns ceiling at_request at_parent r a printed here),
          each-until (before + 2 * r.bytes) requests answers (omega (arith, bodies, sum)) (omega (arith, whole, sum)) behind,
        )

  wave-until : (round : Round) → WaveFits index columns round → MayAnswerWave round.settings index columns round.requests round.answers → QuietUntil (map answer round.answers)
  wave-until round fits may =
      let settings = round.settings in
      let lifted = λ (r : Request). 2 * r.bytes + 2 * sum (task_peaks index (search_in settings index columns r) (shard_numbers index)) in
      let below = sum_by-le-sum_by (λ (r : Request). 2 * r.bytes) lifted round.requests (λ r. omega arith) in
      each-until settings (wave_ceiling settings index columns round.requests round.answers) fits.at_request fits.at_parent 0 round.requests round.answers
      (omega (arith, fits.bodies)) (omega (arith, below, fits.at_parent)) may

  solo-until : (settings : Settings) (requests : List Request) (answers : List Answered) → IsSolo index columns settings requests answers
      → AllByRecursion (λ r. (solo_run settings index (idle columns) r).run.trips ≡ no_amounts) requests → QuietUntil (map answer answers)
  solo-until settings [] answers may room = absurd may
  solo-until settings (r ∷ []) [] may room = absurd may
  solo-until settings (r ∷ []) (a ∷ []) (inl is) (room, rest) = λ printed. (plain-line settings r a (is ∙ untripped-plain settings index (idle columns) r (λ e. refl) room), tt)
  solo-until settings (r ∷ []) (a ∷ []) (inr memory) room = λ printed. absurd (true≢false (sym printed ∙ ap has_memory memory))
  solo-until settings (r ∷ []) (a ∷ b ∷ answers) may room = absurd may
  solo-until settings (r ∷ q ∷ requests) answers may room = absurd may

  round-until : (round : Round) → HasRoom index columns round → IsAllowed index columns round → QuietUntil (map answer round.answers)
  round-until round room may = by_settings (is_solo round.settings) refl
    where
      by_settings : (b : Bool) → is_solo round.settings ≡ b → QuietUntil (map answer round.answers)
      by_settings true solo = solo-until round.settings round.requests round.answers (subst (AllowedBy index columns round) solo may) (subst (RoomBy index columns round) solo room)
      by_settings false several = wave-until round (subst (RoomBy index columns round) several room) (subst (AllowedBy index columns round) several may)

  abbrev Rooms : List Round → Type 0
  Rooms = AllByRecursion (RoundHasRoom index columns)

  pages-until : (now : Settings) (requests : List Request) (ones others : List Round) → AllByRecursion (Meant index columns (IsAllowed index columns) now) ones
      → AllByRecursion (Meant index columns (IsPlain index columns) now) others → ArePages index columns requests ones → ArePages index columns requests others → Rooms others → QuietUntil (round_lines ones)
  pages-until now [] [] others may plain asks too room = tt
  pages-until now [] (one ∷ ones) others may plain asks too room = absurd asks
  pages-until now (r ∷ rest) [] others may plain asks too room = absurd asks
  pages-until now (r ∷ rest) (one ∷ ones) [] may plain asks too room = absurd too
  pages-until now (r ∷ rest) (one ∷ ones) (other ∷ others) may plain asks too room =
      until-append (map answer one.answers) (round_lines ones) (round-until one (round-has index columns now (r ∷ []) one other may.0 plain.0.0 asks.0 too.0 room.0) may.0.1)
      (λ printed.
      let same = round-same index columns now (r ∷ []) one other may.0 plain.0 asks.0 too.0 room.0 printed in
      let behind = subst (λ (round : Round). ArePages index columns (option_to_list (page_after index columns r round.answers) ++ rest) others) (sym same) too.1 in
      pages-until now (option_to_list (page_after index columns r one.answers) ++ rest) ones others may.1 plain.1 asks.1 behind room.1)

  waves-until : (now : Settings) (waves : List (List Request)) (ones others : List Round) → AllByRecursion (Meant index columns (IsAllowed index columns) now) ones
      → AllByRecursion (Meant index columns (IsPlain index columns) now) others → map (λ (r : Round). r.requests) ones ≡ waves → map (λ (r : Round). r.requests) others ≡ waves → Rooms others
      → QuietUntil (round_lines ones)
  waves-until now waves [] others may plain asks too room = tt
  waves-until now [] (one ∷ ones) others may plain asks too room = absurd (let no : ⊥ = cc in no)
  waves-until now (wave ∷ waves) (one ∷ ones) [] may plain asks too room = absurd (let no : ⊥ = cc in no)
  waves-until now (wave ∷ waves) (one ∷ ones) (other ∷ others) may plain asks too room =
      until-append (map answer one.answers) (round_lines ones) (round-until one (round-has index columns now wave one other may.0 plain.0.0 (ap heads asks) (ap heads too) room.0) may.0.1)
      (λ printed. waves-until now waves ones others may.1 plain.1 (ap tails asks) (ap tails too) room.1)

  rounds-until : (now : Settings) (requests : List Request) (ones others : List Round) → AreRounds index columns (IsAllowed index columns) now requests ones
      → AreRounds index columns (IsPlain index columns) now requests others → Rooms others → QuietUntil (round_lines ones)
  rounds-until now requests ones others are also room = by now.scan refl
    where
      by : (b : Bool) → now.scan ≡ b → QuietUntil (round_lines ones)
      by true scan =
          pages-until now requests ones others are.each also.each (subst (Formed index columns now requests ones) scan are.form) (subst (Formed index columns now requests others) scan also.form) room
      by false waves =
          waves-until now (batches now.width requests) ones others are.each also.each (subst (Formed index columns now requests ones) waves are.form)
          (subst (Formed index columns now requests others) waves also.form) room

module _ (change : Change) (words : Settings) (index : Index) (columns : ℕ) where
  change-until : (recent : Recent) (line : Option Data) → QuietUntil (change_lines change words index columns recent line)
  change-until recent None = tt
  change-until recent (Some line) = λ printed. (refl, tt)

  pub segments-until : (recent : Recent) (segments : List Segment) (ones others : List (List Round)) → AreAnswered change words index columns (IsAllowed index columns) recent segments ones
      → AreAnswered change words index columns (IsPlain index columns) recent segments others → AllByRecursion (AllByRecursion (RoundHasRoom index columns)) others
      → QuietUntil (answer_lines change words index columns recent segments ones)
  segments-until recent [] ones others are also room = tt
  segments-until recent (s ∷ rest) [] others are also room = absurd are
  segments-until recent (s ∷ rest) (one ∷ ones) [] are also room = absurd also
  segments-until recent (s ∷ rest) (one ∷ ones) (other ∷ others) are also room =
      let now = with_rounds one recent in
      let next = after_line change words index columns s.change now in
      let changes = change_lines change words index columns now s.change in
      until-append (round_lines one) (changes ++ answer_lines change words index columns next rest ones) (rounds-until index columns recent.settings s.requests one other are.0 also.0 room.0)
      (λ printed.
      let same = rounds-same index columns recent.settings s.requests one other are.0 also.0 room.0 printed in
      let behind = subst (λ rounds. AreAnswered change words index columns (IsPlain index columns) (after_line change words index columns s.change (with_rounds rounds recent)) rest others) (sym same) also.1 in
      until-append changes (answer_lines change words index columns next rest ones) (change-until now s.change) (λ whole. segments-until next rest ones others are.1 behind room.1))

-- the lines of a whole output
pub whole-until : (change : Change) (words : Settings) (s : LoadedScript) (written : List Line) (ends : EndsWell change words s written) (rounds : List (List Round))
    → AreAnswered change words s.index s.columns (IsPlain s.index s.columns) (record { settings = words; rounds = [] }) s.segments rounds
    → AllByRecursion (AllByRecursion (RoundHasRoom s.index s.columns)) rounds → QuietUntil written
whole-until change words s written ends rounds plain room =
    let start : Recent = record { settings = words; rounds = [] } in
    let answers : QuietUntil ends.answers =
    subst QuietUntil (sym ends.answered.lines) (λ printed. (refl, segments-until change words s.index s.columns start s.segments ends.answered.rounds rounds ends.answered.allowed plain room)) in
    subst QuietUntil (sym ends.lines) (until-append ends.answers (statistics ends.totals ∷ []) answers (λ whole. λ printed. (refl, tt)))
