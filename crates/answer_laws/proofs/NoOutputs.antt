-- Outputs that no run writes: too few or too many lines where the source fails, and a short wave that is answered although the
-- script is refused.
use Rattle.std.specs.Prelude.{◌≡◌, refl, ℕ, suc, ◌+◌, false, List, [], ◌∷◌, length, take, sum_by, Some, None, Ok}
use Rattle.std.proofs.Common.{◌∙◌, ap, subst, inl, inr, arith}
use Rattle.std.proofs.lemmas.List.{length-append}
use Rattle.agg_model.specs.declared.settings.Settings.{Settings}
use Rattle.agg_reading.specs.Lines.{ScriptRefusal}
use Rattle.agg_reading.specs.Script.{loaded}
use Rattle.agg_spec.specs.Answers.{Change}
use Rattle.agg_spec.specs.Outcome.{Request}
use Rattle.agg_spec.specs.Reduction.{batches}
use Rattle.agg_spec.specs.Requests.{LoadedScript, Segment, cut_short}
use Rattle.agg_spec.specs.Written.{Line}
use Rattle.agg_spec.specs.Output.{IsOutput, At3, At5, EndsEarly, EndsRefused, HasAnswers, answered, script_from, text_read, whole_lines, refusal_line}
use Rattle.answer_laws.proofs.AnswerCounts.{answers-length}
use Rattle.answer_laws.proofs.Runs.{Reads, no_change}
use Rattle.answer_laws.proofs.SettingsLineExamples.{terms}
use Rattle.answer_laws.proofs.WaveRuns.{side_by_side, three_searches, three_terms, stopped_is_read, bad_header_input, bad_header, refused_terms, bad_header_is_read}
use Rattle.agg_spec.proofs.Computing.{computing}

abbrev plain : List Request → List Segment
plain requests = record { requests = requests; change = None } ∷ []

module _ (change : Change) (words : Settings) (input : List ℕ) (read : ℕ) (s : LoadedScript) (requests : List Request) where
  early-length : (last written : List Line) → words.scan ≡ false → cut_short words.width s.segments ≡ plain requests
      → EndsEarly change words s last written → length written ≡ suc (sum_by length (batches words.width requests)) + length last
  early-length last written no_scan full ends =
      ap length ends.lines
      ∙ (length-append ends.answers last
      ∙ ap (λ n. n + length last) (answers-length change words s requests ends.answers ends.at_end no_scan (subst (λ segments. HasAnswers change words s segments ends.answers ends.at_end) full ends.answered)))

  -- where the source fails there is the bulk line, and a line for each search of the full waves
  stopped-length : (written : List Line) (piece : List ℕ) → words.scan ≡ false → cut_short words.width s.segments ≡ plain requests
      → script_from words (loaded (whole_lines (take read input))) ≡ answered s → IsOutput change (Ok words) input read 3 written piece
      → length written ≡ suc (sum_by length (batches words.width requests)) + 0
  stopped-length written piece no_scan full is output = elim output.by_status [
    | inl (inl (wrong, _), _) ↦ absurd (let e : ⊥ = cc in e)
    | inl (inr (inl (wrong, _)), _) ↦ absurd (let e : ⊥ = cc in e)
    | inl (inr (inr (wrong, _)), _) ↦ absurd (let e : ⊥ = cc in e)
    | inr (inl (_, (_, ends), _)) ↦ early-length [] written no_scan full (subst (λ found. At3 change words found written) is ends)
    | inr (inr (inl (wrong, _))) ↦ absurd (let e : ⊥ = cc in e)
    | inr (inr (inr (wrong, _, _))) ↦ absurd (let e : ⊥ = cc in e)
  ]

  -- where the script is refused there is the line of the refusal besides
  refused-length : (r : ScriptRefusal) (written : List Line) (piece : List ℕ) → words.scan ≡ false → cut_short words.width s.segments ≡ plain requests
      → Reads words (text_read words input) s → s.refused ≡ Some r → IsOutput change (Ok words) input read 5 written piece
      → length written ≡ suc (sum_by length (batches words.width requests)) + 1
  refused-length r written piece no_scan full is found output = elim output.by_status [
    | inl (inl (wrong, _), _) ↦ absurd (let e : ⊥ = cc in e)
    | inl (inr (inl (_, ends)), _) ↦
        early-length (refusal_line r ∷ []) written no_scan full
        (subst (λ o. EndsRefused change words s o written) found (subst (λ found. At5 change words found written) is ends))
    | inl (inr (inr (wrong, _)), _) ↦ absurd (let e : ⊥ = cc in e)
    | inr (inl (wrong, _, _)) ↦ absurd (let e : ⊥ = cc in e)
    | inr (inr (inl (wrong, _))) ↦ absurd (let e : ⊥ = cc in e)
    | inr (inr (inr (wrong, _, _))) ↦ absurd (let e : ⊥ = cc in e)
  ]

-- status 3 behind the third search, two side by side: the bulk line and the lines of one full wave
lines_before_a_fault : (written : List Line) (piece : List ℕ) → IsOutput no_change (Ok (side_by_side 2)) three_searches (length three_searches) 3 written piece → length written ≡ 3
unfolding computing
lines_before_a_fault written piece output = stopped-length no_change (side_by_side 2) three_searches (length three_searches) three_terms (terms ∷ terms ∷ []) written piece refl refl stopped_is_read output

too_few_lines_before_a_fault : (a b : Line) (piece : List ℕ) → IsOutput no_change (Ok (side_by_side 2)) three_searches (length three_searches) 3 (a ∷ b ∷ []) piece → ⊥
too_few_lines_before_a_fault a b piece output = let lines : 2 ≡ 3 = lines_before_a_fault (a ∷ b ∷ []) piece output in omega (arith, lines)

too_many_lines_before_a_fault : (a b c d : Line) (piece : List ℕ) → IsOutput no_change (Ok (side_by_side 2)) three_searches (length three_searches) 3 (a ∷ b ∷ c ∷ d ∷ []) piece → ⊥
too_many_lines_before_a_fault a b c d piece output = let lines : 4 ≡ 3 = lines_before_a_fault (a ∷ b ∷ c ∷ d ∷ []) piece output in omega (arith, lines)

-- status 5: the bulk line, the lines of one full wave, and the refusal
lines_before_a_bad_header : (written : List Line) (piece : List ℕ) → IsOutput no_change (Ok (side_by_side 2)) bad_header_input (length bad_header_input) 5 written piece → length written ≡ 4
unfolding computing
lines_before_a_bad_header written piece output =
    refused-length no_change (side_by_side 2) bad_header_input (length bad_header_input) refused_terms (terms ∷ terms ∷ []) bad_header written piece refl refl bad_header_is_read refl output

a_short_wave_answered_before_a_bad_header : (a b c d e : Line) (piece : List ℕ) → IsOutput no_change (Ok (side_by_side 2)) bad_header_input (length bad_header_input) 5 (a ∷ b ∷ c ∷ d ∷ e ∷ []) piece → ⊥
a_short_wave_answered_before_a_bad_header a b c d e piece output = let lines : 5 ≡ 4 = lines_before_a_bad_header (a ∷ b ∷ c ∷ d ∷ e ∷ []) piece output in omega (arith, lines)
