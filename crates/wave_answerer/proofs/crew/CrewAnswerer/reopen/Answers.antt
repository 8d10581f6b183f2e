use Rattle.std.specs.Prelude.{◌≡◌, ◌&&◌, ◌==◌, ℕ, false, None}
use Rattle.std.proofs.Common.{◌∙◌, ap, refl, subst, sym}
use Rattle.agg_model.specs.declared.breaker.Which.TheVariants as at
use Rattle.agg_model.specs.declared.settings.Settings.{Settings}
use Rattle.agg_spec.specs.Columns.{columns_charge, columns_refusal}
use Rattle.agg_spec.specs.Statistics.{is_solo}
use Rattle.breaker_tree.specs.Reopening.{HoldsColumns, refusal_of_columns}
use Rattle.breaker_words.specs.Views.{hold_of}
use Rattle.fitting_laws.specs.Indexes.{index_of}
use Rattle.solo_answerer.proofs.Idle.{opened-idle}
use Rattle.solo_answerer.proofs.Refusals.{few-columns, same-refusal}
use Rattle.wave_answerer.proofs.Opened.{nothing-answered}
use Rattle.wave_answerer.proofs.crew.CrewAnswerer.reopen.Goals as goal

-- settings that keep the number of workers and of searches are for several too
still-several : (old new : Settings) → is_solo old ≡ false → new.workers ≡ old.workers → new.width ≡ old.width → is_solo new ≡ false
still-several old new several workers width =
    ap (λ (n : ℕ). (n == 1) && (new.width == 1)) workers ∙ ap (λ (n : ℕ). (old.workers == 1) && (n == 1)) width ∙ several

pub invariant_of-result : goal.invariant_of-result
invariant_of-result c =
    let crew = c.args.self in
    let range = c.requires.in_range crew.in_range in
    record {
      idle = opened-idle c.args.settings crew.index c.in-Done.words c.in-Done.pass (hold_of crew.pass.view at.Fielddata) c.in-Done.ensures.1 range crew.idle.columns;
      several = still-several crew.settings c.args.settings crew.several c.requires.same_workers c.requires.same_width;
      in_range = range;
    }

pub returns-in-Done-clause-taken : goal.returns-in-Done-clause-taken
returns-in-Done-clause-taken c =
    let crew = c.args.self in
    let limits = c.args.settings.limits in
    let columns = columns_charge (index_of crew.index) in
    let range = c.requires.in_range crew.in_range in
    let light : columns_refusal limits columns ≡ None =
    sym (same-refusal limits columns) ∙ subst (λ (n : ℕ). refusal_of_columns limits n ≡ None) crew.idle.columns c.in-Done.ensures.0 in
    let holds : HoldsColumns limits columns c.in-Done.words c.in-Done.pass =
    subst (λ (n : ℕ). HoldsColumns limits n c.in-Done.words c.in-Done.pass) crew.idle.columns c.in-Done.ensures.1 in
    (light, refl, nothing-answered limits columns c.in-Done.words c.in-Done.pass (index_of crew.index) holds (few-columns limits columns light range.limits.fielddata))
