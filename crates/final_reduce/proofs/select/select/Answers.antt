use Rattle.std.proofs.Common.{◌≡◌, ◌∙◌, ap, sym, subst, map, arith, rules, List, true, []}
use Rattle.std.specs.Prelude.{◌&&◌, Bool, ℤ}
use Rattle.std.specs.List.{list_all}
use Rattle.std.proofs.lemmas.Result.{IfOk-weaker}
use Rattle.std.proofs.lemmas.Bool.{and_parts, ltb-true}
use Rattle.std.proofs.lemmas.Int.{to_z-of_z}
use mir.Syntax.{w64}
use mir.Val.{SFits}
use Rattle.agg_model.specs.declared.aggregation.Agg.{Agg, out-Agg}
use Rattle.agg_model.specs.declared.aggregation.Kind.{Kind}
use Rattle.agg_model.specs.declared.partial.Bucket.{Bucket}
use Rattle.agg_model.specs.declared.partial.Node.{Node}
use Rattle.agg_model.specs.declared.aggregation.Spacing.TheVariants.{Numbers, Dates}
use Rattle.agg_evaluation.specs.Orders.{bucket_key}
use Rattle.agg_evaluation.specs.Trees.{have_children, is_ascending}
use Rattle.agg_evaluation.specs.Whole.{Parts, parts}
use Rattle.agg_evaluation.specs.Finishable.{is_histogram_key}
use Rattle.agg_evaluation.specs.Conditions.{has_interval, is_spaced}
use Rattle.agg_spec.specs.Final.{metric_answer}
use Rattle.final_reduce.specs.Standing.{builder, built_at, form_of, is_standing, plain_answer, spaced_built, stands_at, terms_built}
use Rattle.final_reduce.proofs.FinishableLaws.{builder-level, intervals-at, metric_is, plain_is, standing-opened}
use Rattle.final_reduce.proofs.select.select.Goals as goal

abbrev tests_of : Agg → List (Node → Bool)
tests_of a = map is_standing (out-Agg a).children

pub select_terms-requires-clause-children : goal.select_terms-requires-clause-children
select_terms-requires-clause-children c = ap (have_children (tests_of c.args.agg.now)) c.into_parts-parts.ensures.buckets ∙ (standing-opened c.args.agg.now c.args.node c.requires.node).0

pub select_terms-requires-clause-error : goal.select_terms-requires-clause-error
select_terms-requires-clause-error c =
    let fit = ltb-true _ _ (sym (ap (λ k. stands_at (form_of k) (parts c.args.node)) c.in-Terms.is) ∙ (standing-opened c.args.agg.now c.args.node c.requires.node).1) in
    omega (arith, fit, c.into_parts-parts.ensures.error)

pub select_buckets-requires : goal.select_buckets-requires
select_buckets-requires c = record { children = ap (have_children (tests_of c.args.agg.now)) c.into_parts-parts.ensures.buckets ∙ (standing-opened c.args.agg.now c.args.node c.requires.node).0 }

pub returns-in-Composite-clause-answer : goal.returns-in-Composite-clause-answer
returns-in-Composite-clause-answer c =
    let a = out-Agg c.args.agg.now in
    let builders = map builder a.children in
    IfOk-weaker c.select_buckets.result _ _ (λ s is.
    is a.name ∙ ap (plain_answer a.name builders) c.into_parts-parts.ensures.buckets
    ∙ sym (plain_is a.name builders (parts c.args.node) a.kind c.in-Composite.is) ∙ sym (builder-level c.args.agg.now c.args.node)) c.select_buckets.ensures.answer

pub returns-in-Sum-clause-answer : goal.returns-in-Sum-clause-answer
returns-in-Sum-clause-answer c =
    let a = out-Agg c.args.agg.now in
    c.select_metric.ensures.answer a.name ∙ ap (metric_answer a.name) c.into_parts-parts.ensures.metric
    ∙ sym (metric_is a.name (map builder a.children) (parts c.args.node) a.kind c.in-Sum.is) ∙ sym (builder-level c.args.agg.now c.args.node)

pub returns-in-Terms-clause-answer : goal.returns-in-Terms-clause-answer
returns-in-Terms-clause-answer c =
    let a = out-Agg c.args.agg.now in
    let builders = map builder a.children in
    let p = parts c.args.node in
    let same : record { buckets = c.into_parts-parts.result.buckets; error = c.into_parts-parts.result.error; full = c.into_parts-parts.result.full; cut = c.into_parts-parts.result.cut; metrics = [] } ≡ (let q : Parts = record { buckets = p.buckets; error = p.error; full = p.full; cut = p.cut; metrics = [] } in q)
    = λ i. record { buckets = c.into_parts-parts.ensures.buckets i; error = c.into_parts-parts.ensures.error i; full = c.into_parts-parts.ensures.full i; cut = c.into_parts-parts.ensures.cut i; metrics = [] } in
    IfOk-weaker c.select_terms.result _ _ (λ s is.
    is a.name ∙ ap (λ (q : Parts). terms_built a.name builders c.in-Terms.order q) same
    ∙ sym (ap (λ (k : Kind). built_at a.name builders (form_of k) p) c.in-Terms.is) ∙ sym (builder-level c.args.agg.now c.args.node)) c.select_terms.ensures.answer

pub select_filled-requires : goal.select_filled-requires
select_filled-requires c =
    let h = c.in-Histogram in
    let p = parts c.args.node in
    let made = λ (b : Bucket). is_histogram_key (Numbers h.interval h.offset) h.hard (bucket_key b) in
    let opened = standing-opened c.args.agg.now c.args.node c.requires.node in
    let stand : (list_all made p.buckets && is_ascending (map bucket_key p.buckets)) ≡ true = sym (ap (λ k. stands_at (form_of k) p) h.is) ∙ opened.1 in
    let both = and_parts (list_all made p.buckets) (is_ascending (map bucket_key p.buckets)) stand in
    record {
      spaced = sym (ap has_interval h.is) ∙ (intervals-at c.args.agg.now c.requires.intervals).0;
      keys = ap (list_all made) c.into_parts-parts.ensures.buckets ∙ both.0;
      ascending = ap (λ bs. is_ascending (map bucket_key bs)) c.into_parts-parts.ensures.buckets ∙ both.1;
      children = ap (have_children (tests_of c.args.agg.now)) c.into_parts-parts.ensures.buckets ∙ opened.0;
    }

pub select_filled-requires-in-DateHistogram : goal.select_filled-requires-in-DateHistogram
select_filled-requires-in-DateHistogram c =
    let h = c.in-DateHistogram in
    let p = parts c.args.node in
    let made = λ (z : ℤ) (b : Bucket). is_histogram_key (Dates h.period z) h.hard (bucket_key b) in
    let opened = standing-opened c.args.agg.now c.args.node c.requires.node in
    let stand : (list_all (made h.zone) p.buckets && is_ascending (map bucket_key p.buckets)) ≡ true = sym (ap (λ k. stands_at (form_of k) p) h.is) ∙ opened.1 in
    let both = and_parts (list_all (made h.zone) p.buckets) (is_ascending (map bucket_key p.buckets)) stand in
    let fits : SFits w64 h.zone = search rules in
    let zone = sym (to_z-of_z w64 h.zone fits) in
    record {
      spaced = subst (λ (z : ℤ). is_spaced (Dates h.period z) h.extended h.hard ≡ true) zone (sym (ap has_interval h.is) ∙ (intervals-at c.args.agg.now c.requires.intervals).0);
      keys = subst (λ (z : ℤ). list_all (made z) c.into_parts-parts.result.buckets ≡ true) zone (ap (list_all (made h.zone)) c.into_parts-parts.ensures.buckets ∙ both.0);
      ascending = ap (λ bs. is_ascending (map bucket_key bs)) c.into_parts-parts.ensures.buckets ∙ both.1;
      children = ap (have_children (tests_of c.args.agg.now)) c.into_parts-parts.ensures.buckets ∙ opened.0;
    }

pub returns-in-Histogram-clause-answer : goal.returns-in-Histogram-clause-answer
returns-in-Histogram-clause-answer c =
    let a = out-Agg c.args.agg.now in
    let h = c.in-Histogram in
    let builders = map builder a.children in
    IfOk-weaker c.select_filled.result _ _ (λ s is.
    is a.name ∙ ap (spaced_built a.name builders (Numbers h.interval h.offset) h.min_doc_count h.extended h.hard h.order) c.into_parts-parts.ensures.buckets
    ∙ sym (ap (λ (k : Kind). built_at a.name builders (form_of k) (parts c.args.node)) h.is) ∙ sym (builder-level c.args.agg.now c.args.node)) c.select_filled.ensures.answer

pub returns-in-DateHistogram-clause-answer : goal.returns-in-DateHistogram-clause-answer
returns-in-DateHistogram-clause-answer c =
    let a = out-Agg c.args.agg.now in
    let h = c.in-DateHistogram in
    let builders = map builder a.children in
    let fits : SFits w64 h.zone = search rules in
    IfOk-weaker c.select_filled-in-DateHistogram.result _ _ (λ s is.
    is a.name ∙ ap (λ (z : ℤ). spaced_built a.name builders (Dates h.period z) h.min_doc_count h.extended h.hard h.order c.into_parts-parts.result.buckets) (to_z-of_z w64 h.zone fits)
    ∙ ap (spaced_built a.name builders (Dates h.period h.zone) h.min_doc_count h.extended h.hard h.order) c.into_parts-parts.ensures.buckets
    ∙ sym (ap (λ (k : Kind). built_at a.name builders (form_of k) (parts c.args.node)) h.is) ∙ sym (builder-level c.args.agg.now c.args.node)) c.select_filled-in-DateHistogram.ensures.answer
