use Rattle.std.proofs.Common.{rules, refl, ◌≡◌, ap, sym, subst, ◌∙◌, map, drop, [], ◌∷◌, ◌++◌}
use Rattle.std.specs.Prelude.{◌+◌}
use Rattle.agg_spec.specs.Remarks.{pipes_here}
use Rattle.pipeline_agg.specs.Entries.{top_entry, view_of}
use Rattle.pipeline_agg.specs.Placed.{pipe_of, pipes_of}
use Rattle.pipeline_agg.specs.Summaries.{AreOf}
use Rattle.pipeline_agg.proofs.EntryLaws.{here-less, here-more, no-places, push-step, top-is}
use Rattle.pipeline_agg.proofs.entries.top_entries.Goals.{then-is_empty+in_ok-said+in_ok-push, else-is_empty}
use Rattle.pipeline_agg.proofs.entries.top_entries.Goals as goal

pub loop-placed-preserved : goal.loop-placed-preserved
loop-placed-preserved c =
    let p = c.placed-item.result in
    let ps = c.args.pipes.now in
    let i = c.loop-placed.placed-index in
    let says = top_entry c.args.aggs.now c.args.nodes.now in
    elim c.if-is_empty.branch [
      | then-is_empty+in_ok-said+in_ok-push w ↦
          let more = here-more says ps i p c.loop-placed-test.true c.placed-item.is (no-places p.at.now ∙ sym w.if-is_empty.ensures) in
          let items = ap (λ es. es.items) w.entries-is ∙ w.in_ok-push.ensures.items in
          let told = w.in_ok-said.ensures.told c.args.aggs.now c.args.nodes.now c.loop-placed.invariant.1 in (
            push-step view_of c.loop-placed.entries.items c.if-is_empty.entries.items _ _ _ _ items
                (more ∙ ap (λ x. x ∷ map says (pipes_here (pipes_of (drop (i + 1) ps)))) (sym (top-is c.args.aggs.now c.args.nodes.now p w.in_ok-said.field-0 told)))
                c.loop-placed.invariant.0,
            subst (AreOf c.args.aggs.now c.args.nodes.now) (sym w.siblings-is) (w.said.ensures.of c.args.aggs.now c.args.nodes.now c.loop-placed.invariant.1),
          )
      | else-is_empty w ↦
          let less = here-less says ps i p c.loop-placed-test.true c.placed-item.is (no-places p.at.now ∙ sym w.if-is_empty.ensures) in (
            ap (λ es. map view_of es.items ++ map says (pipes_here (pipes_of (drop (i + 1) ps)))) w.entries-is ∙ ap (λ xs. map view_of c.loop-placed.entries.items ++ xs) (sym less)
                ∙ c.loop-placed.invariant.0,
            subst (AreOf c.args.aggs.now c.args.nodes.now) (sym w.siblings-is) c.loop-placed.invariant.1,
          )
    ]
