-- Where the source fails, what was loaded is loaded of the whole lines that were read: no other entries can be told apart by
-- what was written.
use Rattle.std.specs.Prelude.{◌≡◌, ◌≤◌, ℕ, ◌*◌, ◌/◌, Bool, true, false, List, [], ◌∷◌, ◌++◌, map, length, take, codes, Some, None}
use Rattle.std.proofs.Common.{inl, inr, refl, ◌∙◌, sym, ap, subst, append-nil, arith}
use Rattle.std.proofs.Math.Seq.{take-nil}
use Rattle.std.proofs.lemmas.List.{length-append}
use Rattle.serde_json.specs.Data.{Data, null}
use Rattle.agg_listen.specs.Hearing.{Hearing}
use Rattle.agg_model.specs.Lines.{Line as InputLine}
use Rattle.agg_model.specs.declared.settings.Settings.{Settings}
use Rattle.agg_reading.specs.Entries.{Entries, change, no_more}
use Rattle.agg_reading.specs.Lines.{Place}
use Rattle.agg_settings.specs.Changes.{changed}
use Rattle.agg_spec.specs.Index.{Index}
use Rattle.agg_spec.specs.Outcome.{Request}
use Rattle.agg_spec.specs.Requests.{Segment}
use Rattle.agg_spec.specs.Rounds.{Round}
use Rattle.agg_spec.specs.Answers.{Recent, IsAllowed, AreRounds, ArePages, AreFormed, AreAnswered}
use Rattle.agg_spec.specs.Written.{Line, line_text, ended_line, text_of, round_lines, answer_lines}
use Rattle.script_answers.specs.Outputs.{Output, so_far}
use Rattle.script_answers.specs.Rest.{EndsEarly}
use Rattle.script_answers.specs.Steps.{WroteLines}
use Rattle.script_answers.proofs.Batches.{none-batched}
use Rattle.script_answers.proofs.Forming.{Formed}
use Rattle.list_laws.proofs.Lists.{flat_map-append}
use Rattle.script_run.proofs.Fronts.{strip, Tells, strip-tells, behind_front, behind-none}

-- ---- no search has no line

no-pages : (index : Index) (columns : ℕ) (rounds : List Round) → ArePages index columns [] rounds → rounds ≡ []
no-pages index columns [] are = refl
no-pages index columns (r ∷ rs) are = absurd are

no-maps : (rounds : List Round) → map (λ (r : Round). r.requests) rounds ≡ [] → rounds ≡ []
no-maps [] is = refl
no-maps (r ∷ rs) is = absurd (let no : ⊥ = cc in no)

no-rounds-by : (index : Index) (columns : ℕ) (scan : Bool) (settings : Settings) (rounds : List Round) → 1 ≤ settings.width → Formed index columns settings scan [] rounds → rounds ≡ []
no-rounds-by index columns true settings rounds some formed = no-pages index columns rounds formed
no-rounds-by index columns false settings rounds some formed = no-maps rounds (formed ∙ none-batched {A = Request} settings.width some)

-- a segment of no search and no settings line
abbrev nothing_of : ℕ → Segment
nothing_of n = record { requests = take n []; change = None }

module _ (words : Settings) (index : Index) (columns : ℕ) where
  abbrev AreFor : Recent → List Segment → List (List Round) → Type 0
  AreFor = AreAnswered changed words index columns (IsAllowed index columns)

  abbrev lines_for : Recent → List Segment → List (List Round) → List Line
  lines_for = answer_lines changed words index columns

  no-rounds : (n : ℕ) (settings : Settings) (rounds : List Round) → 1 ≤ settings.width → AreRounds index columns (IsAllowed index columns) settings (take n []) rounds → rounds ≡ []
  no-rounds n settings rounds some are =
      no-rounds-by index columns settings.scan settings rounds some
      (subst (λ (rs : List Request). AreFormed index columns settings rs rounds) (take-nil n) are.form)

  -- no search and no settings line has no line
  no-lines : (n : ℕ) (recent : Recent) (rounds : List (List Round)) → 1 ≤ recent.settings.width → AreFor recent (nothing_of n ∷ []) rounds → lines_for recent (nothing_of n ∷ []) rounds ≡ []
  no-lines n recent [] some are = absurd are
  no-lines n recent (r ∷ []) some (first, rest) = ap (λ (rs : List Round). round_lines rs ++ []) (no-rounds n recent.settings r some first)
  no-lines n recent (r ∷ q ∷ rs) some (first, rest) = absurd rest

  abbrev nothing_left : ℕ
  nothing_left = 0 / words.width * words.width

  nothing-written : (recent : Recent) (written : List Line) → 1 ≤ recent.settings.width → EndsEarly changed words index columns recent no_more [] written → written ≡ []
  nothing-written recent written some early =
      early.lines ∙ append-nil early.answers ∙ early.answered.lines ∙ no-lines nothing_left recent early.answered.rounds some early.answered.allowed

  -- a settings line has a line
  pub record HasLine (written : List Line) : Type 0 where
    pub before : List Line
    pub line : Line
    pub behind : List Line
    pub is : written ≡ before ++ line ∷ behind

  one-line : (n : ℕ) (d : Data) (recent : Recent) (rounds : List (List Round))
      → AreFor recent (record { requests = []; change = Some d } ∷ nothing_of n ∷ []) rounds
      → HasLine (lines_for recent (record { requests = []; change = Some d } ∷ nothing_of n ∷ []) rounds)
  one-line n d recent [] are = absurd are
  one-line n d recent (r ∷ rs) are = record { before = round_lines r; line = _; behind = _; is = refl }

  abbrev a_change : Entries
  a_change = record { entries = change null ∷ []; refused = None }

  line-written : (recent : Recent) (written : List Line) → EndsEarly changed words index columns recent a_change [] written → HasLine written
  line-written recent written early =
      let found = one-line nothing_left null recent early.answered.rounds early.answered.allowed in
      record { before = found.before; line = found.line; behind = found.behind; is = early.lines ∙ append-nil early.answers ∙ early.answered.lines ∙ found.is }

text-append : (xs ys : List Line) → text_of (xs ++ ys) ≡ text_of xs ++ text_of ys
text-append xs ys = flat_map-append (λ (l : Line). ended_line (line_text l)) xs ys

-- a line has its newline at least
some-text : (before behind : List Line) (line : Line) → 1 ≤ length (text_of (before ++ line ∷ behind))
some-text before behind line =
    let whole = ap length (text-append before (line ∷ behind)) in
    let parts = length-append (text_of before) (text_of (line ∷ behind)) in
    let later = length-append (ended_line (line_text line)) (text_of behind) in
    let own = length-append (line_text line) (codes "\n") in
    omega (arith, whole, parts, later, own)

-- what was written by no line is not what a line was written by
pub told-apart : (known : List ℕ) (heard : Hearing) (after : Output) (none some : List Line) → WroteLines (so_far (Some known) heard) after none → WroteLines (so_far (Some known) heard) after some
    → none ≡ [] → (before behind : List Line) (line : Line) → some ≡ before ++ line ∷ behind → ⊥
told-apart known heard after none some first second is before behind line has =
    let same : Some (known ++ text_of none) ≡ Some (known ++ text_of some) = sym first.text ∙ second.text in
    let texts : known ++ text_of none ≡ known ++ text_of some = cc in
    let l = ap length texts in
    let a = length-append known (text_of none) in
    let b = length-append known (text_of some) in
    let e : length (text_of none) ≡ 0 = ap (λ (ls : List Line). length (text_of ls)) is in
    let s : 1 ≤ length (text_of some) = subst (λ (ls : List Line). 1 ≤ length (text_of ls)) (sym has) (some-text before behind line) in
    omega (arith, l, a, b, e, s)

module _ (words : Settings) (index : Index) (columns : ℕ) (recent : Recent) (known : List ℕ) (heard : Hearing) (after : Output) (front seen : List InputLine) (place : Place) where
  abbrev EndsBy : (List InputLine → Entries) → Type 0
  EndsBy whole = (written : List Line) × WroteLines (so_far (Some known) heard) after written × EndsEarly changed words index columns recent (whole seen) [] written

  not-none : 1 ≤ recent.settings.width → ((others : Entries) → EndsBy (behind_front front place others)) → strip front seen ≡ None → ⊥
  not-none some ends none =
      let first = ends no_more in
      let second = ends (a_change words index columns) in
      let early = subst (λ (e : Entries). EndsEarly changed words index columns recent e [] first.0) (behind-none front seen place no_more none) first.2 in
      let late = subst (λ (e : Entries). EndsEarly changed words index columns recent e [] second.0) (behind-none front seen place (a_change words index columns) none) second.2 in
      let has = line-written words index columns recent second.0 late in
      told-apart known heard after first.0 second.0 first.1 second.1 (nothing-written words index columns recent first.0 some early) has.before has.behind has.line has.is

  by-tells : (strip front seen ≡ None → ⊥) → Tells front seen → (later : List InputLine) × (seen ≡ front ++ later)
  by-tells not (inl found) = found
  by-tells not (inr none) = absurd (not none)

  -- what ends early by each reading of the lines behind the front is behind the front
  pub seen-behind : 1 ≤ recent.settings.width → ((others : Entries) → EndsBy (behind_front front place others)) → (later : List InputLine) × (seen ≡ front ++ later)
  seen-behind some ends = by-tells (not-none some ends) (strip-tells front seen)
