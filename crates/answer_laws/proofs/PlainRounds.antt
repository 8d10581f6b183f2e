-- The rounds of a script that are answered by the whole reduction are the only ones of this kind.
use Rattle.std.specs.Prelude.{◌≡◌, refl, ℕ, Bool, true, false, List, [], ◌∷◌, ◌++◌, map, option_to_list}
use Rattle.std.specs.List.{AllByRecursion}
use Rattle.std.proofs.Common.{◌∙◌, ap, sym, subst}
use Rattle.agg_model.specs.declared.settings.Settings.{Settings}
use Rattle.agg_model.specs.declared.outcome.Answered.{Answered}
use Rattle.agg_spec.specs.Index.{Index}
use Rattle.agg_spec.specs.Complete.{IsPlain}
use Rattle.agg_spec.specs.Outcome.{Request}
use Rattle.agg_spec.specs.Requests.{Segment}
use Rattle.agg_spec.specs.Rounds.{Round, plain_answer}
use Rattle.agg_spec.specs.Answers.{Change, Recent, IsAllowed, ArePages, AreRounds, AreAnswered, page_after, after_line, with_rounds}
use Rattle.answer_laws.proofs.AnswerCounts.{Formed}

module _ (index : Index) (columns : ℕ) where
  abbrev pub plain_round : Settings → List Request → Round
  plain_round now requests = record { settings = now; requests = requests; answers = map (plain_answer index now) requests }

  abbrev IsMeant : Settings → Round → Type 0
  IsMeant now round = (round.settings ≡ now) × IsAllowed index columns round

  abbrev pub round_of : Settings → List Request → List Answered → Round
  round_of now requests answers = record { settings = now; requests = requests; answers = answers }

  -- by its settings and its requests a plain round is known
  round-is : (now : Settings) (round : Round) → round.settings ≡ now → IsPlain index columns round → round ≡ round_of now round.requests (map (plain_answer index now) round.requests)
  round-is now round is plain =
      ap (round_of round.settings round.requests) plain
      ∙ ap (λ s. round_of s round.requests (map (plain_answer index s) round.requests)) is

  rounds-alike : (now : Settings) (one other : Round) → one.settings ≡ now → other.settings ≡ now → IsPlain index columns one → IsPlain index columns other
      → one.requests ≡ other.requests → one ≡ other
  rounds-alike now one other is also plain as_plain same =
      round-is now one is plain
      ∙ ap (λ requests. round_of now requests (map (plain_answer index now) requests)) same
      ∙ sym (round-is now other also as_plain)

  abbrev heads : List (List Request) → List Request
  heads [] = []
  heads (r ∷ rs) = r

  abbrev tails : List (List Request) → List (List Request)
  tails [] = []
  tails (r ∷ rs) = rs

  waves-alike : (now : Settings) (ones others : List Round) → AllByRecursion (IsMeant now) ones → AllByRecursion (IsMeant now) others
      → AllByRecursion (IsPlain index columns) ones → AllByRecursion (IsPlain index columns) others
      → map (λ (r : Round). r.requests) ones ≡ map (λ (r : Round). r.requests) others → ones ≡ others
  waves-alike now [] [] meant also plain as_plain same = refl
  waves-alike now [] (other ∷ others) meant also plain as_plain same = absurd (let no : ⊥ = cc in no)
  waves-alike now (one ∷ ones) [] meant also plain as_plain same = absurd (let no : ⊥ = cc in no)
  waves-alike now (one ∷ ones) (other ∷ others) meant also plain as_plain same =
      ap (λ r. r ∷ ones) (rounds-alike now one other meant.0.0 also.0.0 plain.0 as_plain.0 (ap heads same))
      ∙ ap (λ rs. other ∷ rs) (waves-alike now ones others meant.1 also.1 plain.1 as_plain.1 (ap tails same))

  pages-alike : (now : Settings) (requests : List Request) (ones others : List Round) → AllByRecursion (IsMeant now) ones → AllByRecursion (IsMeant now) others
      → AllByRecursion (IsPlain index columns) ones → AllByRecursion (IsPlain index columns) others
      → ArePages index columns requests ones → ArePages index columns requests others → ones ≡ others
  pages-alike now [] [] [] meant also plain as_plain pages as_pages = refl
  pages-alike now [] [] (other ∷ others) meant also plain as_plain pages as_pages = absurd as_pages
  pages-alike now [] (one ∷ ones) others meant also plain as_plain pages as_pages = absurd pages
  pages-alike now (r ∷ rest) [] others meant also plain as_plain pages as_pages = absurd pages
  pages-alike now (r ∷ rest) (one ∷ ones) [] meant also plain as_plain pages as_pages = absurd as_pages
  pages-alike now (r ∷ rest) (one ∷ ones) (other ∷ others) meant also plain as_plain pages as_pages =
      let same = rounds-alike now one other meant.0.0 also.0.0 plain.0 as_plain.0 (pages.0 ∙ sym as_pages.0) in
      let behind = subst (λ (round : Round). ArePages index columns (option_to_list (page_after index columns r round.answers) ++ rest) others) (sym same) as_pages.1 in
      ap (λ q. q ∷ ones) same
      ∙ ap (λ rs. other ∷ rs) (pages-alike now (option_to_list (page_after index columns r one.answers) ++ rest) ones others meant.1 also.1 plain.1 as_plain.1 pages.1 behind)

  segment-alike : (now : Settings) (requests : List Request) (ones others : List Round) → AreRounds index columns (IsAllowed index columns) now requests ones
      → AreRounds index columns (IsAllowed index columns) now requests others → AllByRecursion (IsPlain index columns) ones → AllByRecursion (IsPlain index columns) others → ones ≡ others
  segment-alike now requests ones others are also plain as_plain = by_scan now.scan refl
    where
      by_scan : (b : Bool) → now.scan ≡ b → ones ≡ others
      by_scan true scan =
          pages-alike now requests ones others are.each also.each plain as_plain (subst (Formed index columns now requests ones) scan are.form) (subst (Formed index columns now requests others) scan also.form)
      by_scan false waves =
          waves-alike now ones others are.each also.each plain as_plain
          (subst (Formed index columns now requests ones) waves are.form ∙ sym (subst (Formed index columns now requests others) waves also.form))

module _ (change : Change) (words : Settings) (index : Index) (columns : ℕ) where
  pub answers-alike : (recent : Recent) (segments : List Segment) (ones others : List (List Round)) → AreAnswered change words index columns (IsAllowed index columns) recent segments ones
      → AreAnswered change words index columns (IsAllowed index columns) recent segments others → AllByRecursion (AllByRecursion (IsPlain index columns)) ones
      → AllByRecursion (AllByRecursion (IsPlain index columns)) others → ones ≡ others
  answers-alike recent [] [] [] are also plain as_plain = refl
  answers-alike recent [] [] (other ∷ others) are also plain as_plain = absurd also
  answers-alike recent [] (one ∷ ones) others are also plain as_plain = absurd are
  answers-alike recent (s ∷ rest) [] others are also plain as_plain = absurd are
  answers-alike recent (s ∷ rest) (one ∷ ones) [] are also plain as_plain = absurd also
  answers-alike recent (s ∷ rest) (one ∷ ones) (other ∷ others) are also plain as_plain =
      let same = segment-alike index columns recent.settings s.requests one other are.0 also.0 plain.0 as_plain.0 in
      let next = after_line change words index columns s.change (with_rounds one recent) in
      let behind = subst (λ rounds. AreAnswered change words index columns (IsAllowed index columns) (after_line change words index columns s.change (with_rounds rounds recent)) rest others) (sym same) also.1 in
      ap (λ rs. rs ∷ ones) same ∙ ap (λ rs. other ∷ rs) (answers-alike next rest ones others are.1 behind plain.1 as_plain.1)
