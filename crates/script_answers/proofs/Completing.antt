-- From each place on a script has an output: one in which each search that is left wants memory.
use Rattle.std.specs.Prelude.{◌≡◌, ◌≤◌, ℕ, ◌+◌, ◌==◌, ◌&&◌, Bool, true, false, IsTrue, List, [], ◌∷◌, ◌++◌, map, length, Option, Some, None}
use Rattle.std.specs.List.{AllByRecursion}
use Rattle.std.proofs.Common.{inl, inr, ◌∙◌, refl, sym, ap, subst, arith}
use Rattle.std.proofs.lemmas.Bool.{eqb-true}
use Rattle.agg_model.specs.declared.breaker.Totals.{Totals}
use Rattle.agg_model.specs.declared.breaker.Tripped.{Tripped}
use Rattle.agg_model.specs.declared.settings.Settings.{Settings}
use Rattle.agg_model.specs.declared.outcome.Answered.{Answered}
use Rattle.agg_model.specs.declared.outcome.Failure.{Failure}
use Rattle.agg_model.specs.declared.outcome.Outcome.{Outcome}
use Rattle.agg_model.specs.declared.outcome.Outcome.TheVariants as ended
use Rattle.agg_reading.specs.Entries.{Entries}
use Rattle.agg_reading.specs.Lines.{ScriptRefusal}
use Rattle.agg_spec.specs.Index.{Index}
use Rattle.agg_spec.specs.Outcome.{Request}
use Rattle.agg_spec.specs.Charges.{Amounts, no_amounts, one_at, amounts_sum}
use Rattle.agg_spec.specs.Reduction.{batches}
use Rattle.agg_spec.specs.Requests.{Segment, segments, cut_short}
use Rattle.agg_spec.specs.Rises.{Rises, RoseBy, all_rises, told_trips, exception_trips, sum_of_amounts}
use Rattle.agg_spec.specs.Failures.{unfailed}
use Rattle.agg_spec.specs.Rounds.{Round, is_quiet, all_quiet}
use Rattle.agg_spec.specs.Statistics.{is_solo, AreTotals, AreTotalsBy, totals_after, solo_totals}
use Rattle.agg_spec.specs.Wave.{MayAnswer, MayAnswerEach, MayAnswerWave, body_refusals, wave_ceiling}
use Rattle.agg_spec.specs.Answers.{Change, Recent, IsAllowed, IsSolo, ArePages, AreRounds, AreAnswered, after_line, with_rounds, latest}
use Rattle.agg_spec.specs.Written.{Line, answer, statistics, answer_lines, round_lines}
use Rattle.agg_spec.specs.Output.{refusal_line}
use Rattle.script_answers.specs.Rest.{Answers, EndsRefused, IsRest, IsCut}
use Rattle.script_answers.proofs.Batches.{none-batched, one-batched, first-batched}
use Rattle.script_answers.proofs.Forming.{Formed}

-- ---- rounds in which each search wants memory

abbrev wanting : Answered
wanting = record { outcome = ended.Memory; failures = [] }

abbrev wanting_round : Settings → List Request → Round
wanting_round settings requests = record { settings = settings; requests = requests; answers = map (λ (r : Request). wanting) requests }

both : (a b : Bool) → IsTrue (a && b) → IsTrue a × IsTrue b
both true b h = (refl, h)
both false b h = absurd (let no : ⊥ = cc in no)

module _ (index : Index) (columns : ℕ) where
  may-want : (settings : Settings) (ceiling : ℕ) (r : Request) (t : Option Tripped) → MayAnswer settings index columns ceiling r t wanting
  may-want settings ceiling r None = (tt, tt)
  may-want settings ceiling r (Some t) = (tt, inr refl)

  each-may-want : (settings : Settings) (ceiling : ℕ) (requests : List Request) (before : ℕ)
      → MayAnswerEach settings index columns ceiling requests (body_refusals settings index columns before requests) (map (λ (r : Request). wanting) requests)
  each-may-want settings ceiling [] before = tt
  each-may-want settings ceiling (r ∷ rest) before = (may-want settings ceiling r _, each-may-want settings ceiling rest _)

  single-may-want : (settings : Settings) (requests : List Request) → length requests ≡ 1 → IsSolo index columns settings requests (map (λ (r : Request). wanting) requests)
  single-may-want settings [] one = let no : ⊥ = omega (arith, one) in absurd no
  single-may-want settings (r ∷ []) one = inr refl
  single-may-want settings (r ∷ s ∷ rest) one = let no : ⊥ = omega (arith, one) in absurd no

  abbrev AllowedIf : Bool → Round → Type 0
  AllowedIf b round = elim b [
    | true ↦ IsSolo index columns round.settings round.requests round.answers
    | false ↦ MayAnswerWave round.settings index columns round.requests round.answers
  ]

  allowed-if : (b : Bool) (settings : Settings) (requests : List Request) → (b ≡ true → length requests ≡ 1) → AllowedIf b (wanting_round settings requests)
  allowed-if true settings requests single = single-may-want settings requests (single refl)
  allowed-if false settings requests single = each-may-want settings (wave_ceiling settings index columns requests (map (λ (r : Request). wanting) requests)) requests 0

  solo-width : (settings : Settings) → is_solo settings ≡ true → settings.width ≡ 1
  solo-width settings solo = eqb-true settings.width 1 (both (settings.workers == 1) (settings.width == 1) solo).1

  -- searches that want memory may be answered so, where one worker runs one search at a time each by itself
  want-allowed : (settings : Settings) (requests : List Request) → (settings.width ≡ 1 → length requests ≡ 1) → IsAllowed index columns (wanting_round settings requests)
  want-allowed settings requests single = allowed-if (is_solo settings) settings requests (λ solo. single (solo-width settings solo))

  abbrev IsMeant : Settings → Round → Type 0
  IsMeant settings round = (round.settings ≡ settings) × IsAllowed index columns round

  -- as pages
  pages-want : (settings : Settings) (requests : List Request) → ArePages index columns requests (map (λ r. wanting_round settings (r ∷ [])) requests)
  pages-want settings [] = tt
  pages-want settings (r ∷ rest) = (refl, pages-want settings rest)

  pages-allowed : (settings : Settings) (requests : List Request) → AllByRecursion (IsMeant settings) (map (λ r. wanting_round settings (r ∷ [])) requests)
  pages-allowed settings [] = tt
  pages-allowed settings (r ∷ rest) = ((refl, want-allowed settings (r ∷ []) (λ one. refl)), pages-allowed settings rest)

  -- as waves
  waves-want : (settings : Settings) (waves : List (List Request)) → map (λ (round : Round). round.requests) (map (wanting_round settings) waves) ≡ waves
  waves-want settings [] = refl
  waves-want settings (w ∷ waves) = ap (λ ws. w ∷ ws) (waves-want settings waves)

  waves-allowed : (settings : Settings) (waves : List (List Request)) → (settings.width ≡ 1 → AllByRecursion (λ (w : List Request). length w ≡ 1) waves)
      → AllByRecursion (IsMeant settings) (map (wanting_round settings) waves)
  waves-allowed settings [] single = tt
  waves-allowed settings (w ∷ waves) single = ((refl, want-allowed settings w (λ one. (single one).0)), waves-allowed settings waves (λ one. (single one).1))

  singles : (requests : List Request) → AllByRecursion (λ (w : List Request). length w ≡ 1) (batches 1 requests)
  singles [] = subst (AllByRecursion (λ (w : List Request). length w ≡ 1)) (sym (none-batched {A = Request} 1 (omega arith))) tt
  singles (r ∷ rest) = subst (AllByRecursion (λ (w : List Request). length w ≡ 1)) (sym (first-batched 1 (r ∷ []) rest (omega arith) refl)) (refl, singles rest)

  width-singles : (width : ℕ) (requests : List Request) → width ≡ 1 → AllByRecursion (λ (w : List Request). length w ≡ 1) (batches width requests)
  width-singles width requests one = subst (λ n. AllByRecursion (λ (w : List Request). length w ≡ 1) (batches n requests)) (sym one) (singles requests)

  rounds-want : (b : Bool) (settings : Settings) (requests : List Request) → (rounds : List Round) × Formed index columns settings b requests rounds × AllByRecursion (IsMeant settings) rounds
  rounds-want true settings requests = (map (λ r. wanting_round settings (r ∷ [])) requests, pages-want settings requests, pages-allowed settings requests)
  rounds-want false settings requests = (
    map (wanting_round settings) (batches settings.width requests),
    waves-want settings (batches settings.width requests),
    waves-allowed settings (batches settings.width requests) (width-singles settings.width requests),
  )

  pub some-rounds : (settings : Settings) (requests : List Request) → (rounds : List Round) × AreRounds index columns (IsAllowed index columns) settings requests rounds
  some-rounds settings requests =
      let found = rounds-want settings.scan settings requests in
      (found.0, record { form = found.1; each = found.2 })

  first-wants : (b : Bool) (settings : Settings) (r : Request) (rest : List Request) → length (r ∷ rest) ≤ settings.width
      → (rounds : List Round) × (others : List Line) × Formed index columns settings b (r ∷ rest) rounds × AllByRecursion (IsMeant settings) rounds × (round_lines rounds ≡ answer wanting ∷ others)
  first-wants true settings r rest few = (
    map (λ q. wanting_round settings (q ∷ [])) (r ∷ rest),
    round_lines (map (λ q. wanting_round settings (q ∷ [])) rest),
    pages-want settings (r ∷ rest),
    pages-allowed settings (r ∷ rest),
    refl,
  )
  first-wants false settings r rest few = (
    wanting_round settings (r ∷ rest) ∷ [],
    map answer (map (λ (q : Request). wanting) rest) ++ [],
    sym (one-batched settings.width (r ∷ rest) (omega arith) few),
    ((refl, want-allowed settings (r ∷ rest) (λ one. omega (arith, one, few))), tt),
    refl,
  )

  -- rounds of some searches, of which the first one wants memory
  pub record FirstWants (settings : Settings) (requests : List Request) : Type 0 where
    pub rounds : List Round
    pub others : List Line
    pub next : Line
    pub are : AreRounds index columns (IsAllowed index columns) settings requests rounds
    pub lines : round_lines rounds ≡ next ∷ others

  pub wants-first : (settings : Settings) (requests : List Request) → 1 ≤ length requests → length requests ≤ settings.width → FirstWants settings requests
  wants-first settings [] some few = let no : ⊥ = omega (arith, some) in absurd no
  wants-first settings (r ∷ rest) some few =
      let found = first-wants settings.scan settings r rest few in
      record { rounds = found.0; others = found.1; next = answer wanting; are = record { form = found.2; each = found.3 }; lines = found.4 }

-- ---- the totals of any rounds

-- an amount that answers tell of, where none tells of a refusal
quiet-exception : (shards : List ℕ) (o : Outcome) (failures : List Failure) → IsTrue (is_quiet o failures) → exception_trips shards o ≡ no_amounts
quiet-exception [] o failures quiet = refl
quiet-exception (s ∷ ss) (ended.Response line) failures quiet = refl
quiet-exception (s ∷ ss) (ended.Refused r) failures quiet = refl
quiet-exception (s ∷ ss) (ended.Tripped t) failures quiet = absurd (let no : ⊥ = cc in no)
quiet-exception (s ∷ ss) ended.Memory failures quiet = refl

quiet-failures : (o : Outcome) (failures : List Failure) → IsTrue (is_quiet o failures) → failures ≡ []
quiet-failures o [] quiet = refl
quiet-failures (ended.Response line) (f ∷ fs) quiet = absurd (let no : ⊥ = cc in no)
quiet-failures (ended.Refused r) (f ∷ fs) quiet = absurd (let no : ⊥ = cc in no)
quiet-failures (ended.Tripped t) (f ∷ fs) quiet = absurd (let no : ⊥ = cc in no)
quiet-failures ended.Memory (f ∷ fs) quiet = absurd (let no : ⊥ = cc in no)

nothing-added : (a b : Amounts) → a ≡ no_amounts → b ≡ no_amounts → amounts_sum a b ≡ no_amounts
nothing-added a b first second = ap (λ x. amounts_sum x b) first ∙ ap (amounts_sum no_amounts) second

module _ (index : Index) (columns : ℕ) where
  quiet-told : (o : Outcome) (failures : List Failure) → IsTrue (is_quiet o failures) → told_trips index (record { outcome = o; failures = failures }) ≡ no_amounts
  quiet-told o failures quiet =
      nothing-added _ _ (quiet-exception (unfailed index failures) o failures quiet) (ap (λ (fs : List Failure). sum_of_amounts (map (λ (f : Failure). one_at f.tripped.which) fs)) (quiet-failures o failures quiet))

  -- answers that tell of no refusal tell of no trips
  pub quiet-answers : (answers : List Answered) → IsTrue (all_quiet answers) → sum_of_amounts (map (told_trips index) answers) ≡ no_amounts
  quiet-answers [] quiet = refl
  quiet-answers (a ∷ rest) quiet =
      let parts = both (is_quiet a.outcome a.failures) (all_quiet rest) quiet in
      nothing-added _ _ (quiet-told a.outcome a.failures parts.0) (quiet-answers rest parts.1)

  quiet-rounds : (rounds : List Round) → IsTrue (all_rises index columns rounds).quiet → (all_rises index columns rounds).trips ≡ no_amounts
  quiet-rounds [] quiet = refl
  quiet-rounds (round ∷ rest) quiet =
      let parts = both (all_quiet round.answers) (all_rises index columns rest).quiet quiet in
      nothing-added _ _ (quiet-answers round.answers parts.0) (quiet-rounds rest parts.1)

  granted_least : Rises → Amounts
  granted_least r = record { request = r.searches; fielddata = 0; inflight = r.bodies; parent = r.searches + r.bodies }

  trips_told : Amounts → Amounts
  trips_told trips = record { request = trips.request; fielddata = 0; inflight = trips.inflight; parent = trips.parent }

  rise-so : (r : Rises) → (IsTrue r.quiet → r.trips ≡ no_amounts) → RoseBy r (granted_least r) (trips_told r.trips)
  unfolding granted_least trips_told
  rise-so r quiet = record {
    fielddata = (refl, refl);
    inflight = (refl, refl);
    searches = omega arith;
    exactly = λ exact. refl;
    parent = refl;
    request_trips = omega arith;
    parent_trips = omega arith;
    no_trips = λ is. ap trips_told (quiet is);
  }

  totals-by : (b : Bool) (settings : Settings) (rounds : List Round) → (t : Totals) × AreTotalsBy settings index columns b rounds t
  totals-by true settings rounds = (solo_totals settings index columns rounds, refl)
  totals-by false settings rounds =
      let r = all_rises index columns rounds in (
        totals_after settings index columns (granted_least r) (trips_told r.trips),
        record { granted = granted_least r; trips = trips_told r.trips; rose = rise-so r (quiet-rounds rounds); totals = refl },
      )

  pub some-totals : (settings : Settings) (rounds : List Round) → (t : Totals) × AreTotals settings index columns rounds t
  some-totals settings rounds = totals-by (is_solo settings) settings rounds

-- ---- a whole rest

module _ (change : Change) (words : Settings) (index : Index) (columns : ℕ) where
  some-answered : (recent : Recent) (parts : List Segment) → (rounds : List (List Round)) × AreAnswered change words index columns (IsAllowed index columns) recent parts rounds
  some-answered recent [] = ([], tt)
  some-answered recent (s ∷ rest) =
      let first = some-rounds index columns recent.settings s.requests in
      let later = some-answered (after_line change words index columns s.change (with_rounds first.0 recent)) rest in
      (first.0 ∷ later.0, (first.1, later.1))

  some-answers : (recent : Recent) (parts : List Segment) → (written : List Line) × (at_end : Recent) × Answers change words index columns recent parts written at_end
  some-answers recent parts =
      let found = some-answered recent parts in (
        answer_lines change words index columns recent parts found.0,
        latest change words index columns recent parts found.0,
        record { rounds = found.0; allowed = found.1; lines = refl; ended = refl },
      )

  pub record HasRest (recent : Recent) (left : Entries) : Type 0 where
    pub next : Line
    pub cut : IsCut change words index columns recent left [] next

  first-of : (recent : Recent) (left : Entries) (status : ℕ) (lines : List Line) (last : Line) → IsRest change words index columns recent left status (lines ++ last ∷ []) → HasRest recent left
  first-of recent left status [] last rest = record { next = last; cut = record { later = []; status = status; rest = rest } }
  first-of recent left status (l ∷ ls) last rest = record { next = l; cut = record { later = ls ++ last ∷ []; status = status; rest = rest } }

  rest-by : (recent : Recent) (left : Entries) (refused : Option ScriptRefusal) → left.refused ≡ refused → HasRest recent left
  rest-by recent left None is =
      let found = some-answers recent (segments index left.entries) in
      let totals = some-totals index columns found.1.settings found.1.rounds in
      first-of recent left 0 found.0 (statistics totals.0) (inl (refl, record { answers = found.0; at_end = found.1; totals = totals.0; whole = is; answered = found.2; total = totals.1; lines = refl }))
  rest-by recent left (Some r) is =
      let found = some-answers recent (cut_short words.width (segments index left.entries)) in
      first-of recent left 5 found.0 (refusal_line r)
      (inr (
        refl,
        subst (λ o. EndsRefused change words index columns recent left o (found.0 ++ refusal_line r ∷ [])) (sym is)
            (record { answers = found.0; at_end = found.1; answered = found.2; lines = refl }),
      ))

  pub some-rest : (recent : Recent) (left : Entries) → HasRest recent left
  some-rest recent left = rest-by recent left left.refused refl
