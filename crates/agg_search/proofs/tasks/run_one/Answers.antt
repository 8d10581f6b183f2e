use Rattle.std.proofs.Common.{◌≡◌, ap, refl, ◌∙◌}
use Rattle.agg_cost.proofs.Summing.{one-shard, search-made}
use Rattle.agg_model.specs.declared.breaker.Which.TheVariants as which
use Rattle.cache_spec.specs.Cache.{entry_of, is_kept}
use Rattle.breaker_tree.specs.Charge.{IsAtRestAgain}
use Rattle.fitting_laws.specs.Indexes.{index_of}
use Rattle.agg_search.proofs.OneTask.{after-task, follows-after, held-after, reached-after, stops-after}
use Rattle.agg_search.proofs.ShardLists.{has-room}
use Rattle.agg_search.proofs.tasks.run_one.Goals as goal

pub answer-end-requires-clause-made : goal.answer-end-requires-clause-made
answer-end-requires-clause-made g c =
    let index = g.T.Tasks.index c.args.tasks.now in
    λ s at. search-made index.mapping s c.args.search.now c.requires.search.made (one-shard index.mapping index.shards c.args.place s at index.built)

pub answer-end-requires-clause-room : goal.answer-end-requires-clause-room
answer-end-requires-clause-room g c =
    let index = g.T.Tasks.index c.args.tasks.now in
    λ s at. has-room index c.args.search.now c.args.place s c.make_room.new.pass.view c.requires.search at c.make_room.ensures.held (ap (λ p. p.view.cap) c.make_room.ensures.pass)

pub returns-clause-fielddata : goal.returns-clause-fielddata
returns-clause-fielddata g c =
    let index = index_of (g.T.Tasks.index c.args.tasks.now) in
    let w = c.make_room.new.pass.view in
    let rest : IsAtRestAgain w w = record { limits = refl; cap = refl; total = refl; rest = c.make_room.ensures.alone.rest } in
    let after = after-task c.args.words.now.limits index c.args.search.now c.args.place w c.answer-end.new.pass.view _ c.answer-end.result rest
    c.answer-end.ensures.done c.answer-end.ensures.refused c.answer-end.ensures.memory in
    after.others which.Fielddata (λ e. cc) (λ e. cc) ∙ c.make_room.ensures.same which.Fielddata

pub returns-clause-inflight : goal.returns-clause-inflight
returns-clause-inflight g c =
    let index = index_of (g.T.Tasks.index c.args.tasks.now) in
    let w = c.make_room.new.pass.view in
    let rest : IsAtRestAgain w w = record { limits = refl; cap = refl; total = refl; rest = c.make_room.ensures.alone.rest } in
    let after = after-task c.args.words.now.limits index c.args.search.now c.args.place w c.answer-end.new.pass.view _ c.answer-end.result rest
    c.answer-end.ensures.done c.answer-end.ensures.refused c.answer-end.ensures.memory in
    after.others which.Inflight (λ e. cc) (λ e. cc) ∙ c.make_room.ensures.same which.Inflight

pub returns-clause-reached : goal.returns-clause-reached
returns-clause-reached g c =
    reached-after c.args.words.now.limits (index_of (g.T.Tasks.index c.args.tasks.now)) c.args.search.now c.args.place c.make_room.new.pass.view c.answer-end.new.pass.view
    c.answer-end.result c.args.search.now.partial c.args.progress.now c.keep.new.progress c.keep.result c.requires.reached c.answer-end.ensures.answer c.keep.ensures

pub returns-clause-held : goal.returns-clause-held
returns-clause-held g c =
    held-after c.args.words.now.limits (index_of (g.T.Tasks.index c.args.tasks.now)) c.args.search.now c.args.place c.make_room.new.pass.view c.answer-end.new.pass.view
    c.args.pass.now.view _ c.answer-end.result c.args.search.now.partial c.args.progress.now c.keep.new.progress c.keep.result c.make_room.ensures.same c.requires.held
    c.answer-end.ensures.answer c.answer-end.ensures.done c.answer-end.ensures.refused c.keep.ensures

pub returns-clause-follows : goal.returns-clause-follows
returns-clause-follows g c =
    let search = c.args.search.now in
    let capacity = g.T.Tasks.capacity c.args.tasks.now in
    let entries = g.T.Tasks.entries c.args.tasks.now in
    follows-after c.args.words.now.limits (index_of (g.T.Tasks.index c.args.tasks.now)) search c.args.place c.make_room.new.pass.view c.answer-end.new.pass.view capacity entries
    c.args.pass.now.view c.make_room.ensures.stands c.make_room.ensures.alone.whole (is_kept (entry_of search c.args.place) entries) refl
    (g.T.Tasks.entries c.answer-end.new.self) c.answer-end.result search.partial c.args.progress.now c.keep.new.progress c.keep.result refl
    c.answer-end.ensures.answer c.answer-end.ensures.done c.answer-end.ensures.refused c.answer-end.ensures.kept c.answer-end.ensures.not_kept c.keep.ensures

pub returns-clause-stops : goal.returns-clause-stops
returns-clause-stops g c =
    let search = c.args.search.now in
    let capacity = g.T.Tasks.capacity c.args.tasks.now in
    let entries = g.T.Tasks.entries c.args.tasks.now in
    stops-after c.args.words.now.limits (index_of (g.T.Tasks.index c.args.tasks.now)) search c.args.place c.make_room.new.pass.view c.answer-end.new.pass.view capacity entries
    c.args.pass.now.view c.make_room.ensures.stands c.make_room.ensures.alone.whole (is_kept (entry_of search c.args.place) entries) refl
    (g.T.Tasks.entries c.answer-end.new.self) c.answer-end.result search.partial c.args.progress.now c.keep.new.progress c.keep.result refl
    c.answer-end.ensures.refused c.answer-end.ensures.not_kept c.keep.ensures
