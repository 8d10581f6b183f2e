use Rattle.std.proofs.Common.{rules, refl, ◌≡◌, ap, sym, subst, ◌∙◌, map, drop, [], ◌∷◌, ◌++◌}
use Rattle.std.specs.Prelude.{◌+◌}
use Rattle.agg_spec.specs.Remarks.{pipes_here}
use Rattle.pipeline_agg.specs.Entries.{all_small, beginning, teller_of}
use Rattle.std.proofs.lemmas.List.Elements.{All-append}
use Rattle.pipeline_agg.specs.Parents.{IsSmall}
use Rattle.pipeline_agg.specs.Placed.{pipe_of, pipes_of}
use Rattle.pipeline_agg.specs.declared.entries.Teller.{Teller}
use Rattle.pipeline_agg.proofs.EntryLaws.{alone-small, beginning-is, here-less, here-more, no-places, push-step, start-small}
use Rattle.pipeline_agg.proofs.entries.tellers.Goals.{then-is_empty+in_ok-push, else-is_empty}
use Rattle.pipeline_agg.proofs.entries.tellers.Goals as goal

pub loop-placed-preserved : goal.loop-placed-preserved
loop-placed-preserved c =
    let p = c.placed-item.result in
    let ps = c.args.pipes.now in
    let i = c.loop-placed.placed-index in
    elim c.if-is_empty.branch [
      | then-is_empty+in_ok-push w ↦
          let more = here-more beginning ps i p c.loop-placed-test.true c.placed-item.is (no-places p.at.now ∙ sym w.if-is_empty.ensures) in
          let t : Teller = record { placed = p; running = w.start.result } in
          let items : c.if-is_empty.tellers.items ≡ c.loop-placed.tellers.items ++ t ∷ [] = ap (λ ts. ts.items) w.tellers-is ∙ w.in_ok-push.ensures.items in
          let fresh = start-small w.start.result w.start.ensures.sum w.start.ensures.before in
          let small : all_small c.if-is_empty.tellers.items = subst all_small (sym items) (All-append (λ (x : Teller). IsSmall x.running) c.loop-placed.tellers.items (t ∷ []) c.loop-placed.invariant.1 (alone-small t fresh)) in (
            push-step teller_of c.loop-placed.tellers.items c.if-is_empty.tellers.items t _ _ _ items
                (more ∙ ap (λ x. x ∷ map beginning (pipes_here (pipes_of (drop (i + 1) ps)))) (sym (beginning-is (pipe_of p) w.start.result w.start.ensures.sum w.start.ensures.before)))
                c.loop-placed.invariant.0,
            small,
          )
      | else-is_empty w ↦
          let less = here-less beginning ps i p c.loop-placed-test.true c.placed-item.is (no-places p.at.now ∙ sym w.if-is_empty.ensures) in (
            ap (λ ts. map teller_of ts.items ++ map beginning (pipes_here (pipes_of (drop (i + 1) ps)))) w.tellers-is ∙ ap (λ xs. map teller_of c.loop-placed.tellers.items ++ xs) (sym less)
                ∙ c.loop-placed.invariant.0,
            subst (λ ts. all_small ts.items) (sym w.tellers-is) c.loop-placed.invariant.1,
          )
    ]
