-- Where the rounds that are answered by the whole reduction have room however they are answered, those of a run are these, unless a
-- search wants memory.
use Rattle.std.specs.Prelude.{◌≡◌, refl, ℕ, Bool, true, false, List, [], ◌∷◌, ◌++◌, map, option_to_list}
use Rattle.std.specs.List.{AllByRecursion}
use Rattle.std.proofs.Common.{◌∙◌, ap, sym, subst}
use Rattle.std.proofs.lemmas.List.Folds.{list_all-map}
use Rattle.agg_model.specs.declared.settings.Settings.{Settings}
use Rattle.agg_spec.specs.Answers.{Change, Recent, IsAllowed, ArePages, AreRounds, AreAnswered, page_after, after_line, with_rounds}
use Rattle.agg_spec.specs.Complete.{IsPlain, HasRoom}
use Rattle.agg_spec.specs.Index.{Index}
use Rattle.agg_spec.specs.Outcome.{Request}
use Rattle.agg_spec.specs.Reduction.{batches}
use Rattle.agg_spec.specs.Requests.{Segment}
use Rattle.agg_spec.specs.Rounds.{Round, plain_answer}
use Rattle.agg_spec.specs.Written.{answer, is_printed, all_printed, round_lines, change_lines, answer_lines}
use Rattle.answer_laws.specs.Completing.{RoundHasRoom}
use Rattle.answer_laws.proofs.AnswerCounts.{Formed}
use Rattle.answer_laws.proofs.Completing.{both-parts, round-plain}
use Rattle.answer_laws.proofs.PlainRounds.{plain_round, round_of}
use Rattle.answer_laws.proofs.RoomHowever.{heads, tails}

module _ (index : Index) (columns : ℕ) where
  abbrev pub Meant : (Round → Type 0) → Settings → Round → Type 0
  Meant P now round = (round.settings ≡ now) × P round

  abbrev Rooms : List Round → Type 0
  Rooms = AllByRecursion (RoundHasRoom index columns)

  -- a round of the same searches as one that has room however it is answered
  pub round-has : (now : Settings) (requests : List Request) (one other : Round) → Meant (IsAllowed index columns) now one → other.settings ≡ now → one.requests ≡ requests → other.requests ≡ requests
      → RoundHasRoom index columns other → HasRoom index columns one
  round-has now requests one other (is, may) also asks too room =
      subst (HasRoom index columns) same (room one.answers (subst (IsAllowed index columns) (sym same) may))
    where
      same : round_of index columns other.settings other.requests one.answers ≡ one
      same = λ i. round_of index columns ((also ∙ sym is) i) ((too ∙ sym asks) i) one.answers

  -- a round of the same searches as a plain one that has room is that one
  pub round-same : (now : Settings) (requests : List Request) (one other : Round) → Meant (IsAllowed index columns) now one → Meant (IsPlain index columns) now other → one.requests ≡ requests → other.requests ≡ requests
      → RoundHasRoom index columns other → all_printed (map answer one.answers) ≡ true → one ≡ other
  round-same now requests one other (is, may) (also, plain) asks too room printed =
      one_is ∙ ap (round_of index columns now requests) answers ∙ sym other_is
    where
      one_is : one ≡ round_of index columns now requests one.answers
      one_is = λ i. round_of index columns (is i) (asks i) one.answers

      other_is : other ≡ plain_round index columns now requests
      other_is = (λ i. round_of index columns other.settings other.requests (plain i)) ∙ (λ i. round_of index columns (also i) (too i) (map (plain_answer index (also i)) (too i)))

      allowed : IsAllowed index columns (round_of index columns now requests one.answers)
      allowed = subst (IsAllowed index columns) one_is may

      answers : one.answers ≡ map (plain_answer index now) requests
      answers =
          round-plain index columns (round_of index columns now requests one.answers)
          (subst (HasRoom index columns) one_is (round-has now requests one other (is, may) also asks too room)) allowed
          (sym (list_all-map is_printed answer one.answers) ∙ printed)

  pages-same : (now : Settings) (requests : List Request) (ones others : List Round) → AllByRecursion (Meant (IsAllowed index columns) now) ones → AllByRecursion (Meant (IsPlain index columns) now) others
      → ArePages index columns requests ones → ArePages index columns requests others → Rooms others → all_printed (round_lines ones) ≡ true → ones ≡ others
  pages-same now [] [] [] may plain asks too room printed = refl
  pages-same now [] [] (other ∷ others) may plain asks too room printed = absurd too
  pages-same now [] (one ∷ ones) others may plain asks too room printed = absurd asks
  pages-same now (r ∷ rest) [] others may plain asks too room printed = absurd asks
  pages-same now (r ∷ rest) (one ∷ ones) [] may plain asks too room printed = absurd too
  pages-same now (r ∷ rest) (one ∷ ones) (other ∷ others) may plain asks too room printed =
      let parts = both-parts is_printed (map answer one.answers) (round_lines ones) printed in
      let same = round-same now (r ∷ []) one other may.0 plain.0 asks.0 too.0 room.0 parts.0 in
      let behind = subst (λ (round : Round). ArePages index columns (option_to_list (page_after index columns r round.answers) ++ rest) others) (sym same) too.1 in
      ap (λ q. q ∷ ones) same
      ∙ ap (λ rs. other ∷ rs) (pages-same now (option_to_list (page_after index columns r one.answers) ++ rest) ones others may.1 plain.1 asks.1 behind room.1 parts.1)

  waves-same : (now : Settings) (waves : List (List Request)) (ones others : List Round) → AllByRecursion (Meant (IsAllowed index columns) now) ones → AllByRecursion (Meant (IsPlain index columns) now) others
      → map (λ (r : Round). r.requests) ones ≡ waves → map (λ (r : Round). r.requests) others ≡ waves → Rooms others → all_printed (round_lines ones) ≡ true → ones ≡ others
  waves-same now [] [] [] may plain asks too room printed = refl
  waves-same now [] (one ∷ ones) others may plain asks too room printed = absurd (let no : ⊥ = cc in no)
  waves-same now [] [] (other ∷ others) may plain asks too room printed = absurd (let no : ⊥ = cc in no)
  waves-same now (wave ∷ waves) [] others may plain asks too room printed = absurd (let no : ⊥ = cc in no)
  waves-same now (wave ∷ waves) (one ∷ ones) [] may plain asks too room printed = absurd (let no : ⊥ = cc in no)
  waves-same now (wave ∷ waves) (one ∷ ones) (other ∷ others) may plain asks too room printed =
      let parts = both-parts is_printed (map answer one.answers) (round_lines ones) printed in
      ap (λ q. q ∷ ones) (round-same now wave one other may.0 plain.0 (ap heads asks) (ap heads too) room.0 parts.0)
      ∙ ap (λ rs. other ∷ rs) (waves-same now waves ones others may.1 plain.1 (ap tails asks) (ap tails too) room.1 parts.1)

  pub rounds-same : (now : Settings) (requests : List Request) (ones others : List Round) → AreRounds index columns (IsAllowed index columns) now requests ones → AreRounds index columns (IsPlain index columns) now requests others
      → Rooms others → all_printed (round_lines ones) ≡ true → ones ≡ others
  rounds-same now requests ones others are also room printed = by now.scan refl
    where
      by : (b : Bool) → now.scan ≡ b → ones ≡ others
      by true scan =
          pages-same now requests ones others are.each also.each (subst (Formed index columns now requests ones) scan are.form) (subst (Formed index columns now requests others) scan also.form) room printed
      by false waves =
          waves-same now (batches now.width requests) ones others are.each also.each (subst (Formed index columns now requests ones) waves are.form) (subst (Formed index columns now requests others) waves also.form)
          room printed

  -- what has room however it is answered has it as it was
  rounds-room : (now : Settings) (rounds : List Round) → AllByRecursion (Meant (IsAllowed index columns) now) rounds → Rooms rounds → AllByRecursion (HasRoom index columns) rounds
  rounds-room now [] may room = tt
  rounds-room now (round ∷ rounds) (first, rest) (here, later) = (here round.answers first.1, rounds-room now rounds rest later)

module _ (change : Change) (words : Settings) (index : Index) (columns : ℕ) where
  pub segments-room : (recent : Recent) (segments : List Segment) (rounds : List (List Round)) → AreAnswered change words index columns (IsAllowed index columns) recent segments rounds
      → AllByRecursion (AllByRecursion (RoundHasRoom index columns)) rounds → AllByRecursion (AllByRecursion (HasRoom index columns)) rounds
  segments-room recent segments [] are room = tt
  segments-room recent [] (rounds ∷ later) are room = absurd are
  segments-room recent (s ∷ rest) (rounds ∷ later) (are, more) (here, behind) =
      (rounds-room index columns recent.settings rounds are.each here, segments-room (after_line change words index columns s.change (with_rounds rounds recent)) rest later more behind)

  pub segments-same : (recent : Recent) (segments : List Segment) (ones others : List (List Round)) → AreAnswered change words index columns (IsAllowed index columns) recent segments ones
      → AreAnswered change words index columns (IsPlain index columns) recent segments others → AllByRecursion (AllByRecursion (RoundHasRoom index columns)) others
      → all_printed (answer_lines change words index columns recent segments ones) ≡ true → ones ≡ others
  segments-same recent [] [] [] are also room printed = refl
  segments-same recent [] [] (other ∷ others) are also room printed = absurd also
  segments-same recent [] (one ∷ ones) others are also room printed = absurd are
  segments-same recent (s ∷ rest) [] others are also room printed = absurd are
  segments-same recent (s ∷ rest) (one ∷ ones) [] are also room printed = absurd also
  segments-same recent (s ∷ rest) (one ∷ ones) (other ∷ others) are also room printed =
      let now = with_rounds one recent in
      let next = after_line change words index columns s.change now in
      let changes = change_lines change words index columns now s.change in
      let lines = answer_lines change words index columns next rest ones in
      let parts = both-parts is_printed (round_lines one) (changes ++ lines) printed in
      let same = rounds-same index columns recent.settings s.requests one other are.0 also.0 room.0 parts.0 in
      let behind = subst (λ rounds. AreAnswered change words index columns (IsPlain index columns) (after_line change words index columns s.change (with_rounds rounds recent)) rest others) (sym same) also.1 in
      ap (λ rs. rs ∷ ones) same
      ∙ ap (λ rs. other ∷ rs) (segments-same next rest ones others are.1 behind room.1 (both-parts is_printed changes lines parts.1).1)
