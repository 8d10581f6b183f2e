-- The lines of a wave.
use Rattle.std.specs.Prelude.{◌≡◌, ◌≤◌, ◌↔◌, ℕ, Bool, false, IsTrue, List, [], ◌∷◌, ◌++◌, length, map, flat_map, Result, Ok, Err, OnOk, ⊤}
use Rattle.std.proofs.Common.{◌∙◌, refl, sym, ap, subst, append-nil, arith}
use Rattle.list_laws.proofs.Lists.{map-append}
use Rattle.agg_model.specs.declared.outcome.Answered.{Answered}
use Rattle.agg_spec.specs.Index.{Index}
use Rattle.agg_spec.specs.Outcome.{Request}
use Rattle.agg_spec.specs.Rounds.{Round}
use Rattle.agg_spec.specs.Answers.{Recent, IsAllowed, with_rounds}
use Rattle.agg_spec.specs.Written.{answer, round_lines}
use Rattle.agg_model.specs.declared.settings.Settings.{Settings}
use Rattle.script_answers.specs.Answering.{AnswersRound, MayBe}
use Rattle.script_answers.specs.Outputs.{Output}
use Rattle.script_answers.specs.Puts.{Puts}
use Rattle.script_answers.specs.Waves.{PutsWave}
use Rattle.script_answers.specs.declared.stop.Stop.{Stop}
use Rattle.script_answers.specs.declared.stop.Stop.TheVariants.{Memory}
use Rattle.script_answers.proofs.Completing.{wants-first}
use Rattle.script_answers.proofs.Forming.{no-rounds}
use Rattle.script_answers.proofs.Putting.{wrote-nothing}

-- the lines of rounds are those of their answers
answers-lines : (rounds : List Round) → map answer (flat_map (λ (round : Round). round.answers) rounds) ≡ round_lines rounds
answers-lines [] = refl
answers-lines (round ∷ rest) =
    map-append answer round.answers (flat_map (λ (r : Round). r.answers) rest) ∙ ap (λ ls. map answer round.answers ++ ls) (answers-lines rest)

-- a list that is not empty has an item
pub some-items : {A : Type 0} (b : Bool) (xs : List A) → (IsTrue b ↔ (xs ≡ [])) → b ≡ false → 1 ≤ length xs
some-items b [] iff is = absurd (let both = sym (iff.1 refl) ∙ is in let never : ⊥ = cc in never)
some-items b (x ∷ xs) iff is = omega arith

ok-holds : {X : Type 0} {P : Type 0} (result : Result X Stop) → P → OnOk result P
ok-holds (Ok x) p = p
ok-holds (Err e) p = tt

module _ (index : Index) (columns : ℕ) (recent : Recent) where
  -- no search came
  pub wave-none : (before : Output) → 1 ≤ recent.settings.width → PutsWave {X = ⊤} index columns recent [] before before recent (Ok tt)
  wave-none before some = record {
    rounds = [];
    are = no-rounds index columns (IsAllowed index columns) recent.settings some;
    puts = wrote-nothing before;
    recent_is = ap (λ (rs : List Round). record { settings = recent.settings; rounds = rs }) (sym (append-nil recent.rounds));
  }

  -- the answers were written, as far as they were
  pub wave-wrote : {X : Type 0} (requests : List Request) (answered : List Round → Type 0) (answers : List Answered) (before after : Output) (result : Result X Stop)
      (round : AnswersRound index columns recent requests answered answers) → Puts before after (map answer answers) result
      → PutsWave index columns recent requests before after (with_rounds round.rounds recent) result
  wave-wrote requests answered answers before after result round puts = record {
    rounds = round.rounds;
    are = round.are;
    puts = subst (λ ls. Puts before after ls result) (ap (map answer) round.answered ∙ answers-lines round.rounds) puts;
    recent_is = ok-holds result refl;
  }

  -- there was no memory for the answers
  pub wave-wants : {X : Type 0} (requests : List Request) (now : Recent) (before : Output) (result : Result X Stop) → 1 ≤ length requests → length requests ≤ recent.settings.width
      → result ≡ Err Memory → PutsWave {X = X} index columns recent requests before before now result
  wave-wants requests now before result some few is =
      let wants = wants-first index columns recent.settings requests some few in
      subst (PutsWave index columns recent requests before before now) (sym is)
      (record {
        rounds = wants.rounds;
        are = wants.are;
        puts = record { done = []; next = wants.next; others = wants.others; are = wants.lines; wrote = wrote-nothing before };
        recent_is = tt;
      })

  -- the same, with what may have been answered then
  pub wave-answered : {X : Type 0} (requests : List Request) (old new : Settings) (answered : List Round → Type 0) (answers : List Answered) (before after : Output) (result : Result X Stop)
      → AnswersRound index columns recent requests answered answers → Puts before after (map answer answers) result → new ≡ old → recent.settings ≡ old
      → (now : Recent) × PutsWave index columns recent requests before after now result × OnOk result (MayBe new answered now)
  wave-answered requests old new answered answers before after result round puts same here = (
    with_rounds round.rounds recent,
    wave-wrote requests answered answers before after result round puts,
    ok-holds {P = MayBe new answered (with_rounds round.rounds recent)} result (record { settings_are = here ∙ sym same; rounds_are = round.count }),
  )
