use Rattle.std.proofs.Common.{subst, sym}
use Rattle.agg_spec.specs.Failures.{unfailed}
use Rattle.agg_spec.specs.Reduction.{tasks_of}
use Rattle.batch_reduce.specs.Parts.{AreParts}
use Rattle.agg_spec.specs.Outcome.{whole_unless_none}
use Rattle.fitting_laws.specs.Indexes.{index_of}
use Rattle.agg_search.specs.Reducing.{Reduces, StopsReducing}
use Rattle.agg_search.proofs.Batching.{is-empty, last-parts, last-whole, reduces, reduces-if, stops-if, stops-last, whole-if}
use Rattle.agg_search.proofs.reducing.reduce_search.Goals as goal

pub merge-requires-clause-parts : goal.merge-requires-clause-parts
merge-requires-clause-parts g c = (
  c.args.search.now,
  subst (AreParts c.args.search.now) (sym c.replace-parts.ensures.value)
      (last-parts c.args.words.now.limits (g.T.Tasks.index c.args.tasks.now) c.args.search.now c.requires.search.made c.run_batches.new.progress c.in_ok-run_batches.ensures.reached c.in_ok-run_batches.ensures.merged),
)

pub returns-clause-whole : goal.returns-clause-whole
returns-clause-whole g c =
    let l = c.args.words.now.limits in
    let index = g.T.Tasks.index c.args.tasks.now in
    let capacity = g.T.Tasks.capacity c.args.tasks.now in
    let kept = g.T.Tasks.entries c.args.tasks.now in
    let keeps = g.T.Tasks.entries c.run_batches.new.tasks in
    let search = c.args.search.now in
    let p = c.run_batches.new.progress in
    let are = last-parts l index search c.requires.search.made p c.in_ok-run_batches.ensures.reached c.in_ok-run_batches.ensures.merged in
    whole-if l search c.run_batches.new.pass.view c.merge.new.pass.view c.replace-parts.result p.results c.replace-parts.ensures.value are c.merge.result
    (whole_unless_none (index_of index) search (unfailed (index_of index) p.failures))
    (last-whole l index search c.requires.search.made p c.in_ok-run_batches.ensures.reached c.in_ok-run_batches.ensures.merged)
    c.merge.ensures.merged

pub returns-clause-reduces : goal.returns-clause-reduces
returns-clause-reduces g c =
    let l = c.args.words.now.limits in
    let index = g.T.Tasks.index c.args.tasks.now in
    let capacity = g.T.Tasks.capacity c.args.tasks.now in
    let kept = g.T.Tasks.entries c.args.tasks.now in
    let keeps = g.T.Tasks.entries c.run_batches.new.tasks in
    let search = c.args.search.now in
    let p = c.run_batches.new.progress in
    let tasks = tasks_of (index_of index) search in
    let are = last-parts l index search c.requires.search.made p c.in_ok-run_batches.ensures.reached c.in_ok-run_batches.ensures.merged in
    let empty = is-empty c.args.progress.now c.requires.batch c.requires.results c.requires.failures in
    reduces-if l search c.run_batches.new.pass.view c.merge.new.pass.view c.replace-parts.result p.results c.replace-parts.ensures.value are c.merge.result
    (Reduces capacity l search c.args.size tasks c.args.pass.now.view kept c.merge.new.pass.view keeps p.failures)
    (reduces capacity l search c.args.size tasks c.args.pass.now.view c.run_batches.new.pass.view c.merge.new.pass.view c.args.progress.now p kept keeps empty c.in_ok-run_batches.ensures.follows)
    c.merge.ensures.stands

pub returns-clause-stops : goal.returns-clause-stops
returns-clause-stops g c =
    let l = c.args.words.now.limits in
    let index = g.T.Tasks.index c.args.tasks.now in
    let capacity = g.T.Tasks.capacity c.args.tasks.now in
    let kept = g.T.Tasks.entries c.args.tasks.now in
    let keeps = g.T.Tasks.entries c.run_batches.new.tasks in
    let search = c.args.search.now in
    let p = c.run_batches.new.progress in
    let tasks = tasks_of (index_of index) search in
    let are = last-parts l index search c.requires.search.made p c.in_ok-run_batches.ensures.reached c.in_ok-run_batches.ensures.merged in
    let empty = is-empty c.args.progress.now c.requires.batch c.requires.results c.requires.failures in
    stops-if l search c.run_batches.new.pass.view c.merge.new.pass.view c.replace-parts.result p.results c.replace-parts.ensures.value are c.merge.result
    (StopsReducing capacity l search c.args.size tasks c.args.pass.now.view kept c.merge.new.pass.view keeps p.failures)
    (stops-last capacity l search c.args.size tasks c.args.pass.now.view c.run_batches.new.pass.view c.merge.new.pass.view c.args.progress.now p kept keeps empty c.in_ok-run_batches.ensures.follows)
    c.merge.ensures.stops
