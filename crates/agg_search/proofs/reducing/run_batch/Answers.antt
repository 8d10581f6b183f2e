use Rattle.std.proofs.Common.{◌≡◌, ◌-◌, List, [], map, refl, ap, subst, sym, ◌∙◌}
use Rattle.std.specs.Prelude.{option_to_list}
use Rattle.std.specs.List.{range_with_len}
use Rattle.std.proofs.lemmas.Result.{err_from_is_err_and}
use Rattle.agg_model.specs.declared.partial.Partial.{Partial}
use Rattle.cache_spec.specs.Cache.{after_cached_tasks, on_going}
use Rattle.agg_spec.specs.Reduction.{after_batch, merged, task_of}
use Rattle.batch_reduce.specs.Parts.{AreParts}
use Rattle.fitting_laws.specs.Indexes.{index_of}
use Rattle.agg_search.specs.Progressing.{Follows}
use Rattle.agg_search.specs.Reached.{HasReached}
use Rattle.agg_search.proofs.Batching.{batch-follows, batch-stops-if, reached-merged, stands-at, stops-at, waiting-parts}
use Rattle.agg_search.proofs.Following.{follow-then}
use Rattle.agg_search.proofs.reducing.run_batch.Goals as goal

pub merge-requires-clause-parts : goal.merge-requires-clause-parts
merge-requires-clause-parts g c = (c.args.search.now, subst (AreParts c.args.search.now) (sym c.replace-parts.ensures.value) (waiting-parts (g.T.Tasks.index c.args.tasks.now) c.args.search.now c.requires.search.made c.args.to c.run_tasks.new.progress c.requires.places c.in_ok-run_tasks.ensures.reached))

pub returns-in_err-whole-clause-stops : goal.returns-in_err-whole-clause-stops
returns-in_err-whole-clause-stops g c =
    let p = err_from_is_err_and c.from_residual-in_err-whole.result c.from_residual-in_err-whole.ensures.1 in
    let l = c.args.words.now.limits in
    let index = index_of (g.T.Tasks.index c.args.tasks.now) in
    let search = c.args.search.now in
    let middle = c.run_tasks.new.progress in
    let entries = g.T.Tasks.entries in
    let between = entries c.run_tasks.new.tasks in
    let are = waiting-parts (g.T.Tasks.index c.args.tasks.now) search c.requires.search.made c.args.to middle c.requires.places c.in_ok-run_tasks.ensures.reached in
    let parts = c.replace-parts.ensures.value in
    rw (p.1, p.2)
    (batch-stops-if l index search c.in_err-whole.field-0.0 c.args.pass.now.view c.run_tasks.new.pass.view c.merge.new.pass.view
    (λ d. after_cached_tasks (g.T.Tasks.capacity c.args.tasks.now) l search d (map (task_of index search) (range_with_len c.args.from (c.args.to - c.args.from))))
    c.args.progress.now middle (record { batch = c.replace-parts.new.dest; results = middle.results; failures = middle.failures }) (entries c.args.tasks.now) (entries c.run_tasks.new.tasks) refl c.in_ok-run_tasks.ensures.follows
    (stops-at l search c.run_tasks.new.pass.view c.merge.new.pass.view c.replace-parts.result middle.batch parts are c.in_err-whole.field-0.0 c.in_err-whole.ensures.stops))

pub returns-clause-reached : goal.returns-clause-reached
returns-clause-reached g c =
    let l = c.args.words.now.limits in
    let index = index_of (g.T.Tasks.index c.args.tasks.now) in
    let search = c.args.search.now in
    let middle = c.run_tasks.new.progress in
    let entries = g.T.Tasks.entries in
    let between = entries c.run_tasks.new.tasks in
    let are = waiting-parts (g.T.Tasks.index c.args.tasks.now) search c.requires.search.made c.args.to middle c.requires.places c.in_ok-run_tasks.ensures.reached in
    let parts = c.replace-parts.ensures.value in
    let is : option_to_list c.in_ok-whole.whole ≡ merged l search middle.batch =
    c.in_ok-whole.ensures.merged search (subst (AreParts search) (sym parts) are) ∙ ap (merged l search) parts in
    subst (λ (b : List Partial). HasReached index search c.args.to (record { batch = b; results = c.keep_whole.new.results; failures = middle.failures })) (sym (c.replace-parts.ensures.after ∙ c.new.ensures))
    (subst (λ (rs : List Partial). HasReached index search c.args.to (record { batch = []; results = rs; failures = middle.failures })) (sym c.in_ok-keep_whole.ensures)
    (reached-merged l index search c.args.to middle c.in_ok-whole.whole c.in_ok-run_tasks.ensures.reached is))

pub returns-clause-follows : goal.returns-clause-follows
returns-clause-follows g c =
    let l = c.args.words.now.limits in
    let index = index_of (g.T.Tasks.index c.args.tasks.now) in
    let search = c.args.search.now in
    let middle = c.run_tasks.new.progress in
    let entries = g.T.Tasks.entries in
    let between = entries c.run_tasks.new.tasks in
    let u = c.merge.new.pass.view in
    let are = waiting-parts (g.T.Tasks.index c.args.tasks.now) search c.requires.search.made c.args.to middle c.requires.places c.in_ok-run_tasks.ensures.reached in
    let parts = c.replace-parts.ensures.value in
    let is : option_to_list c.in_ok-whole.whole ≡ merged l search middle.batch =
    c.in_ok-whole.ensures.merged search (subst (AreParts search) (sym parts) are) ∙ ap (merged l search) parts in
    let batch = subst (λ (b : List Partial). Follows (on_going (after_batch l search)) c.run_tasks.new.pass.view middle between u (record { batch = b; results = c.keep_whole.new.results; failures = middle.failures }) between) (sym (c.replace-parts.ensures.after ∙ c.new.ensures))
    (subst (λ (rs : List Partial). Follows (on_going (after_batch l search)) c.run_tasks.new.pass.view middle between u (record { batch = []; results = rs; failures = middle.failures }) between) (sym c.in_ok-keep_whole.ensures)
    (batch-follows l index search c.run_tasks.new.pass.view u middle between c.in_ok-whole.whole is
    (stands-at l search c.run_tasks.new.pass.view u c.replace-parts.result middle.batch parts are (c.in_ok-whole.ensures.stands search)))) in
    follow-then (λ d. after_cached_tasks (g.T.Tasks.capacity c.args.tasks.now) l search d (map (task_of index search) (range_with_len c.args.from (c.args.to - c.args.from)))) (on_going (after_batch l search))
    c.args.pass.now.view c.run_tasks.new.pass.view u c.args.progress.now middle (record { batch = c.replace-parts.new.dest; results = c.keep_whole.new.results; failures = middle.failures })
    (entries c.args.tasks.now) between between c.in_ok-run_tasks.ensures.follows batch
