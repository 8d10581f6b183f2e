use Rattle.std.proofs.Common.{◌∙◌, ap, arith, ◌≡◌, ◌<◌, ◌∷◌, [], ℕ, rules, sum_by, w64}
use Rattle.std.proofs.lemmas.Int.{to_z-of_z}
use Rattle.agg_model.specs.declared.aggregation.Agg.{out-Agg}
use Rattle.agg_evaluation.specs.Rows.{row_of}
use Rattle.evaluation_laws.proofs.CostLaws.{bytes}
use Rattle.growth_laws.specs.Gathering.{put_rows}
use Rattle.growing_tree.specs.Gathered.{gatherers, key_at}
use Rattle.growing_tree.specs.Placements.{shown_with}
use Rattle.growing_tree.specs.declared.placing.Placement.{Placement}
use Rattle.growing_tree.proofs.Placed.{placement-taken}
use Rattle.growing_tree.proofs.placing.put_one_measured.Goals as goal

none-below : (count k : ℕ) (d : Placement) → k < 0 → d.place < count
none-below count k d l = absurd (omega (arith, l))

-- the row went where it was placed
taken : (c : goal.In_ok-take_measured)
    → shown_with c.args.shard.now c.args.agg.now c.args.ready.now (record { places = c.place_for.new.measured.places; counts = c.take_measured.new.counts; columns = c.take_measured.new.columns }) []
    ≡ shown_with c.args.shard.now c.args.agg.now c.args.ready.now c.place_for.new.measured (record { row = c.args.row; place = c.in_ok-spot.spot.place } ∷ [])
taken c =
    let took = c.in_ok-take_measured.ensures in
    placement-taken c.args.shard.now c.args.agg.now c.args.ready.now c.place_for.new.measured (record { row = c.args.row; place = c.in_ok-spot.spot.place })
    c.take_measured.new.counts.items c.take_measured.new.columns.items took.count took.here took.others

pub returns-clause-buckets : goal.returns-clause-buckets
returns-clause-buckets c =
    let shard = c.args.shard.now in
    let a = c.args.agg.now in
    let r = c.args.ready.now in
    taken c ∙ c.in_ok-spot.ensures.buckets [] c.args.row (none-below _)
    ∙ ap (λ k. put_rows (gatherers shard (out-Agg a).children) (row_of shard.rows c.args.row ∷ []) (key_at shard r k) (shown_with shard a r c.args.measured.now [])) (to_z-of_z w64 c.args.code (search rules))

pub returns-clause-cost : goal.returns-clause-cost
returns-clause-cost c = ap (sum_by bytes) (taken c) ∙ c.in_ok-spot.ensures.cost [] c.args.row (none-below _)
