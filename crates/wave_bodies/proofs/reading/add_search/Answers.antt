use Rattle.std.proofs.Common.{◌≡◌, ◌≤◌, ◌^◌, ◌++◌, ◌∷◌, [], List, ap, map, subst, sym, ◌∙◌}
use Rattle.std.specs.Prelude.{ℕ, IfSome, None, is_none, sum}
use Rattle.agg_cost.specs.Searches.{AreRoomsFor, kinds_of}
use Rattle.agg_evaluation.specs.Ceiling.{ceiling}
use Rattle.agg_model.specs.declared.aggregation.Search.{Search}
use Rattle.agg_search.proofs.AnswerParts.{shards-apart}
use Rattle.shard_columns.specs.Index.{rows_by_shard}
use Rattle.wave_bodies.specs.Read.{HasRead}
use Rattle.wave_bodies.specs.declared.asked.Asked.{Asked}
use Rattle.wave_bodies.specs.declared.asked.Asked.TheVariants as asks
use Rattle.wave_bodies.proofs.OneMore.{on-ok, on-ok-three, running-more, wide-more}
use Rattle.wave_bodies.proofs.reading.add_search.Goals as goal

pub rooms-requires-clause-apart : goal.rooms-requires-clause-apart
rooms-requires-clause-apart g c κs within = shards-apart c.args.index.now

pub returns-in_ok-push-in-Some : goal.returns-in_ok-push-in-Some
returns-in_ok-push-in-Some g c =
    let index = c.args.index.now in
    let p = c.args.progress.now in
    let search = c.args.search in
    let found = c.in-Some.found.items in
    let one : c.push.new.self ≡ search ∷ [] = c.in_ok-push-in-Some.ensures.ok ∙ ap (λ (xs : List Search). xs ++ search ∷ []) c.new-one.ensures in
    let are = subst (λ o. IfSome o (λ v. AreRoomsFor v.items (map (ceiling (kinds_of index.mapping) search) (rows_by_shard index.shards)))) c.in-Some.is c.in_ok-found.ensures.rooms in
    let few = subst (λ o. IfSome o (λ v. sum v.items ≤ 2 ^ 50)) c.in-Some.is c.in_ok-found.ensures.low in
    let narrow = sym (ap is_none c.in-Some.is) ∙ c.in_ok-found.ensures.wide in
    on-ok-three c.add_running.result _ _ _ _ c.add_running.ensures.asked c.add_running.ensures.searches c.add_running.ensures.rooms
    (λ asked searches rooms requests refusals request is read.
    subst (λ (xs : List Asked). HasRead index (requests ++ request ∷ []) (refusals ++ None ∷ []) xs c.add_running.new.self.searches.items c.add_running.new.self.rooms.items) (sym asked)
    (subst (λ (xs : List Search). HasRead index (requests ++ request ∷ []) (refusals ++ None ∷ []) (p.asked ++ asks.Runs ∷ []) xs c.add_running.new.self.rooms.items) (sym (searches ∙ ap (λ (xs : List Search). p.searches.items ++ xs) one))
    (subst (λ (xs : List ℕ). HasRead index (requests ++ request ∷ []) (refusals ++ None ∷ []) (p.asked ++ asks.Runs ∷ []) (p.searches.items ++ search ∷ []) xs) (sym rooms)
    (running-more index requests refusals p.asked p.searches.items p.rooms.items read request search c.requires.made is found are few narrow))))

pub returns-in-None : goal.returns-in-None
returns-in-None g c =
    let index = c.args.index.now in
    let p = c.args.progress.now in
    let search = c.args.search in
    let wide = sym (ap is_none c.in-None.is) ∙ c.in_ok-found.ensures.wide in
    on-ok c.push-in-None.result _ _ c.push-in-None.ensures.ok
    (λ asked requests refusals request is read.
    subst (λ (xs : List Asked). HasRead index (requests ++ request ∷ []) (refusals ++ None ∷ []) xs p.searches.items p.rooms.items) (sym asked)
    (wide-more index requests refusals p.asked p.searches.items p.rooms.items read request search c.requires.made is wide))
