use Rattle.std.proofs.Common.{sym, ◌∙◌, ap, rules, ◌≡◌, ◌∷◌, [], w64, to_z, of_z}
use Rattle.std.proofs.lemmas.Int.{to_z-of_z}
use Rattle.agg_model.specs.declared.aggregation.Agg.{out-Agg}
use Rattle.agg_evaluation.specs.Rows.{row_of}
use Rattle.growth_laws.specs.Gathering.{put_rows}
use Rattle.growing_tree.specs.Gathered.{gatherers, key_at, shown_counted, shown_level}
use Rattle.growing_tree.proofs.lone_rows.LevelTakesRowUnit.put.Goals as goal

pub returns-in_ok-more-in-Counts-clause-buckets : goal.returns-in_ok-more-in-Counts-clause-buckets
returns-in_ok-more-in-Counts-clause-buckets c =
    let shard = c.args.shard.now in
    let a = c.args.agg.now in
    let r = c.args.ready.now in
    let row = row_of shard.rows c.args.row in
    let same : to_z w64 (of_z w64 c.args.code) ≡ c.args.code = to_z-of_z w64 c.args.code (search rules) in
    c.in_ok-more-in-Counts.ensures.buckets row
    ∙ ap (λ k. put_rows (gatherers shard (out-Agg a).children) (row ∷ []) (key_at shard r k) (shown_counted shard r c.in-Counts.counts)) same
    ∙ ap (λ l. put_rows (gatherers shard (out-Agg a).children) (row ∷ []) (key_at shard r c.args.code) (shown_level shard r l)) (sym c.in-Counts.is)
