use Rattle.std.proofs.Common.{◌+◌, ◌-◌, ◌∙◌, arith, refl}
use Rattle.std.proofs.lemmas.Result.{err_from_is_err_and}
use Rattle.fitting_laws.specs.Indexes.{index_of}
use Rattle.agg_search.proofs.TaskRange.{none-yet, one-more, stopped}
use Rattle.agg_search.proofs.tasks.run_tasks.Goals as goal

pub returns-in_err-run_one-clause-stops : goal.returns-in_err-run_one-clause-stops
returns-in_err-run_one-clause-stops g c =
    let p = err_from_is_err_and c.from_residual.result c.from_residual.ensures.1 in
    let place = c.loop-place.place in
    let from = c.args.from in
    let entries = g.T.Tasks.entries in
    let stops = rw (c.loop-place.invariant.same_index, c.loop-place.invariant.same_capacity) at c.in_err-run_one.ensures.stops in
    rw (p.1, p.2)
    (stopped (g.T.Tasks.capacity c.args.tasks.now) c.args.words.now.limits (index_of (g.T.Tasks.index c.args.tasks.now)) c.args.search.now from
    c.args.pass.now.view c.loop-place.pass.view c.run_one.new.pass.view c.args.progress.now c.loop-place.progress c.run_one.new.progress
    (entries c.args.tasks.now) (entries c.loop-place.tasks) (entries c.run_one.new.tasks) place (place - from) (place + 1 - from) (omega arith) (omega arith)
    c.loop-place.invariant.follows c.in_err-run_one.field-0.0 (c.args.to - from) (omega arith) stops)

pub loop-place-init : goal.loop-place-init
loop-place-init g c = record {
  alone = c.requires.alone;
  same_index = refl;
  same_capacity = refl;
  fielddata = refl;
  inflight = refl;
  reached = c.requires.reached;
  held = c.requires.held;
  follows = none-yet (g.T.Tasks.capacity c.args.tasks.now) c.args.words.now.limits (index_of (g.T.Tasks.index c.args.tasks.now)) c.args.search.now c.args.from
      c.args.pass.now.view c.args.progress.now (g.T.Tasks.entries c.args.tasks.now) (c.args.from - c.args.from) (omega arith);
}

pub loop-place-preserved : goal.loop-place-preserved
loop-place-preserved g c =
    let place = c.loop-place.place in
    let from = c.args.from in
    let before = c.loop-place.invariant in
    let entries = g.T.Tasks.entries in
    let one = rw (before.same_index, before.same_capacity) at c.in_ok-run_one.ensures.follows in
    record {
      alone = c.run_one.ensures.alone;
      same_index = c.run_one.ensures.index ∙ before.same_index;
      same_capacity = c.run_one.ensures.capacity ∙ before.same_capacity;
      fielddata = c.run_one.ensures.fielddata ∙ before.fielddata;
      inflight = c.run_one.ensures.inflight ∙ before.inflight;
      reached = rw before.same_index at c.in_ok-run_one.ensures.reached;
      held = c.in_ok-run_one.ensures.held;
      follows = one-more (g.T.Tasks.capacity c.args.tasks.now) c.args.words.now.limits (index_of (g.T.Tasks.index c.args.tasks.now)) c.args.search.now from
          c.args.pass.now.view c.loop-place.pass.view c.run_one.new.pass.view c.args.progress.now c.loop-place.progress c.run_one.new.progress
          (entries c.args.tasks.now) (entries c.loop-place.tasks) (entries c.run_one.new.tasks) place (place - from) (place + 1 - from) (omega arith) (omega arith)
          before.follows one;
    }
