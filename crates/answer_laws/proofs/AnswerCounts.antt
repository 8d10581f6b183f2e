-- How many lines an output has: one for each search of its rounds, and none that tells of want of memory.
use Rattle.std.specs.Prelude.{◌≡◌, refl, ℕ, suc, ◌+◌, Bool, true, false, List, [], ◌∷◌, ◌++◌, map, length, sum_by, Option, None, IsTrue, is_some}
use Rattle.std.specs.List.{AllByRecursion}
use Rattle.std.proofs.Common.{◌∙◌, ap, sym, subst, arith}
use Rattle.std.proofs.lemmas.List.{length-append, length-map}
use Rattle.std.proofs.lemmas.List.Sums.{sum_by-cons}
use Rattle.std.proofs.lemmas.Bool.{and_parts}
use Rattle.agg_model.specs.declared.breaker.Tripped.{Tripped}
use Rattle.agg_model.specs.declared.settings.Settings.{Settings}
use Rattle.agg_model.specs.declared.outcome.Answered.{Answered}
use Rattle.agg_model.specs.declared.outcome.Failure.{Failure}
use Rattle.agg_model.specs.declared.outcome.Outcome.TheVariants as ended
use Rattle.agg_spec.specs.Index.{Index}
use Rattle.agg_spec.specs.BulkLine.{bulk_line}
use Rattle.agg_spec.specs.Outcome.{Request}
use Rattle.agg_spec.specs.Reduction.{batches}
use Rattle.agg_spec.specs.Requests.{LoadedScript}
use Rattle.agg_spec.specs.Rounds.{Round}
use Rattle.agg_spec.specs.Wave.{MayAnswerEach, MayAnswerWave}
use Rattle.agg_spec.specs.Statistics.{is_solo}
use Rattle.agg_spec.specs.Answers.{Change, Recent, AreAnswered, IsSolo, IsAllowed, ArePages, AreWaves, AreRounds}
use Rattle.agg_spec.specs.Written.{Line, answer, bulk, answer_lines, round_lines, is_printed, all_printed}
use Rattle.agg_spec.specs.Output.{HasAnswers}

module _ (index : Index) (columns : ℕ) where
  abbrev pub Formed : Settings → List Request → List Round → Bool → Type 0
  Formed settings requests rounds b = elim b [ true ↦ ArePages index columns requests rounds | false ↦ AreWaves index columns settings.width requests rounds ]

  each-length : (settings : Settings) (ceiling : ℕ) (requests : List Request) (refusals : List (Option Tripped)) (answers : List Answered)
      → MayAnswerEach settings index columns ceiling requests refusals answers → length answers ≡ length requests
  each-length settings ceiling [] refusals [] may = refl
  each-length settings ceiling [] refusals (a ∷ answers) may = absurd may
  each-length settings ceiling (r ∷ requests) [] answers may = absurd may
  each-length settings ceiling (r ∷ requests) (t ∷ refusals) [] may = absurd may
  each-length settings ceiling (r ∷ requests) (t ∷ refusals) (a ∷ answers) (first, later) = ap suc (each-length settings ceiling requests refusals answers later)

  solo-length : (settings : Settings) (requests : List Request) (answers : List Answered) → IsSolo index columns settings requests answers → length answers ≡ length requests
  solo-length settings [] answers may = absurd may
  solo-length settings (r ∷ []) [] may = absurd may
  solo-length settings (r ∷ []) (a ∷ []) may = refl
  solo-length settings (r ∷ []) (a ∷ b ∷ answers) may = absurd may
  solo-length settings (r ∷ q ∷ requests) answers may = absurd may

  abbrev pub AllowedBy : Round → Bool → Type 0
  AllowedBy round b =
      elim b [
        | true ↦ IsSolo index columns round.settings round.requests round.answers
        | false ↦ MayAnswerWave round.settings index columns round.requests round.answers
      ]

  pub allowed-length : (round : Round) → IsAllowed index columns round → length round.answers ≡ length round.requests
  allowed-length round may = by_settings (is_solo round.settings) refl
    where
      by_settings : (b : Bool) → is_solo round.settings ≡ b → length round.answers ≡ length round.requests
      by_settings true solo = solo-length round.settings round.requests round.answers (subst (AllowedBy round) solo may)
      by_settings false several = each-length round.settings _ round.requests _ round.answers (subst (AllowedBy round) several may)

  -- so are the lines of some rounds
  pub rounds-length : (P : Round → Type 0) (rounds : List Round) → AllByRecursion (λ round. P round × IsAllowed index columns round) rounds
      → length (round_lines rounds) ≡ sum_by length (map (λ (round : Round). round.requests) rounds)
  rounds-length P [] each = refl
  rounds-length P (round ∷ rounds) (first, rest) =
      length-append (map answer round.answers) (round_lines rounds)
      ∙ (ap (λ n. n + length (round_lines rounds)) (length-map round.answers answer ∙ allowed-length round first.1)
      ∙ (ap (λ n. length round.requests + n) (rounds-length P rounds rest)
      ∙ sym (sum_by-cons length round.requests (map (λ (r : Round). r.requests) rounds))))

-- a segment that is not a scan has a line for each search of its waves
pub waves-length : (index : Index) (columns : ℕ) (settings : Settings) (requests : List Request) (rounds : List Round) → settings.scan ≡ false
    → AreRounds index columns (IsAllowed index columns) settings requests rounds → length (round_lines rounds) ≡ sum_by length (batches settings.width requests)
waves-length index columns settings requests rounds no_scan are =
    rounds-length index columns (λ round. round.settings ≡ settings) rounds are.each ∙ ap (λ (waves : List (List Request)). sum_by length waves) (subst (Formed index columns settings requests rounds) no_scan are.form)

plus_nothing : (n : ℕ) → n + 0 ≡ n
plus_nothing n = omega arith

-- want of memory has no line
pub printed-none : (before after : List Line) (failures : List Failure) → IsTrue (all_printed (before ++ answer (record { outcome = ended.Memory; failures = failures }) ∷ after)) → ⊥
printed-none [] after failures printed = let no : ⊥ = cc in no
printed-none (l ∷ before) after failures printed = printed-none before after failures (and_parts (is_printed l) _ printed).1

-- the bulk line and a line for each search of the waves
pub answers-length : (change : Change) (words : Settings) (s : LoadedScript) (requests : List Request) (written : List Line) (at_end : Recent) → words.scan ≡ false
    → HasAnswers change words s (record { requests = requests; change = None } ∷ []) written at_end → length written ≡ suc (sum_by length (batches words.width requests))
answers-length change words s requests written at_end no_scan has = by_rounds has.rounds has.allowed has.lines
  where
    by_rounds : (rounds : List (List Round))
        → AreAnswered change words s.index s.columns (IsAllowed s.index s.columns) (record { settings = words; rounds = [] }) (record { requests = requests; change = None } ∷ []) rounds
        → written ≡ bulk (bulk_line s.index.name s.items (is_some words.generate)) ∷ answer_lines change words s.index s.columns (record { settings = words; rounds = [] }) (record { requests = requests; change = None } ∷ []) rounds
        → length written ≡ suc (sum_by length (batches words.width requests))
    by_rounds [] allowed lines = absurd allowed
    by_rounds (rounds ∷ []) (are, rest) lines =
        ap length lines ∙ ap suc (length-append (round_lines rounds) [] ∙ (plus_nothing (length (round_lines rounds)) ∙ waves-length s.index s.columns words requests rounds no_scan are))
    by_rounds (rounds ∷ more ∷ later) (are, rest) lines = absurd rest
