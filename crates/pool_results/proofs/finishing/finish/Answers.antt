use Rattle.std.proofs.Common.{◌≡◌, ◌≤◌, Bool, true, false, List, [], ◌∷◌, length, refl, sym, ◌∙◌, subst, arith}
use Rattle.std.specs.Prelude.{◌↔◌, IsTrue}
use Rattle.agg_model.specs.declared.partial.Partial.{Partial}
use Rattle.agg_evaluation.specs.Cost.{cost}
use Rattle.batch_reduce.specs.Ends.{IfDone, IfMemory, IfRefused}
use Rattle.batch_reduce.specs.Parts.{cost_of_parts}
use Rattle.batch_reduce.specs.Reduced.{IsMerged, IsRefused}
use Rattle.breaker_words.specs.Passes.{IsOf}
use Rattle.pool_results.specs.Carried.{IsCarried}
use Rattle.pool_results.specs.Pools.{search_at}
use Rattle.pool_results.specs.Gathered.{is_stopped}
use Rattle.pool_results.proofs.Merging.{all-parts, carried-none, has-room, reduced}
use Rattle.pool_results.proofs.finishing.finish.Goals as goal
use Rattle.pool_results.proofs.finishing.finish.Goals.{then-stopped-via-then-stopped, then-stopped-via-else-stopped+then-is_empty}

some-parts : (parts : List Partial) (b : Bool) → (IsTrue b ↔ (parts ≡ [])) → b ≡ false → 1 ≤ length parts
some-parts [] b tells e = absurd (let yes : b ≡ true = tells.1 refl in let no : ⊥ = cc in no)
some-parts (p ∷ ps) b tells e = omega arith

differ : (b : Bool) → b ≡ true → b ≡ false → ⊥
differ true e d = let no : ⊥ = cc in no
differ false e d = let no : ⊥ = cc in no

pub invariant_of-result : goal.invariant_of-result
invariant_of-result g c = record {
  carried = carried-none g.J.PoolCall.pool c.args.batch.taken c.args.batch.pass c.give_all_back.new.pass c.args.batch.gathered
      (λ going. elim c.then-stopped.branch [
        | then-stopped-via-then-stopped w ↦ absurd (differ (is_stopped c.args.batch.taken) (sym c.is_stopped-stopped.ensures ∙ w.if-stopped.true) going)
        | then-stopped-via-else-stopped+then-is_empty w ↦ w.is_empty.ensures.0 w.if-is_empty.true
      ])
      (subst (λ m. IsOf m c.give_all_back.new.pass) c.requires.words c.give_all_back.ensures.of) c.give_all_back.ensures.given;
}

pub reduce-end-requires-clause-parts : goal.reduce-end-requires-clause-parts
reduce-end-requires-clause-parts g c =
    let p = g.J.PoolCall.pool in let t = c.args.batch.taken in let going = sym c.is_stopped-stopped.ensures ∙ c.if-stopped.false in
    (search_at p t.search, all-parts p c.requires.pool t c.args.batch.pass c.args.batch.gathered going)

pub reduce-end-requires-clause-room : goal.reduce-end-requires-clause-room
reduce-end-requires-clause-room g c =
    let p = g.J.PoolCall.pool in let t = c.args.batch.taken in let going = sym c.is_stopped-stopped.ensures ∙ c.if-stopped.false in
    has-room p c.requires.pool t c.args.batch.pass c.args.batch.gathered going

pub invariant_of-result-2 : goal.invariant_of-result-2
invariant_of-result-2 g c =
    let p = g.J.PoolCall.pool in let t = c.args.batch.taken in let going = sym c.is_stopped-stopped.ensures ∙ c.if-stopped.false in let e = c.reduce-end.ensures in record {
      carried = subst (λ w. IsCarried p w c.reduce-end.new.pass) (sym c.work_by-work.ensures)
          (reduced p c.requires.pool t c.args.batch.pass c.args.batch.gathered going c.reduce-end.new.pass (subst (λ m. IsOf m c.reduce-end.new.pass) c.requires.words e.of) c.reduce-end.result
          (some-parts t.parts c.is_empty.result c.is_empty.ensures c.if-is_empty.false) e.whole e.one e.free (subst (λ m. 2 ≤ length t.parts → 1 ≤ cost_of_parts t.parts → IfDone c.reduce-end.result (λ x. IsMerged m.limits c.args.batch.pass.view (cost_of_parts t.parts) (cost x) c.reduce-end.new.pass.view)) c.requires.words e.done)
          (subst (λ m. 2 ≤ length t.parts → 1 ≤ cost_of_parts t.parts → IfMemory c.reduce-end.result (IsMerged m.limits c.args.batch.pass.view (cost_of_parts t.parts) 0 c.reduce-end.new.pass.view)) c.requires.words e.memory)
          (subst (λ m. IfRefused c.reduce-end.result (λ x. IsRefused m.limits c.args.batch.pass.view (cost_of_parts t.parts) x c.reduce-end.new.pass.view)) c.requires.words e.refused)
          (record { same = e.same; holds = e.holds; most = e.most; seen = e.seen; untouched = e.untouched }));
    }
