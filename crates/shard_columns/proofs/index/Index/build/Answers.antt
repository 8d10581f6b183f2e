use Rattle.std.proofs.Common.{◌≡◌, ◌<◌, List, length, map, sym, ◌∙◌, ap, subst, arith}
use Rattle.std.proofs.lemmas.List.{length-map}
use Rattle.agg_model.specs.declared.limits.TheConstants.{WEIGHT_LIMIT}
use Rattle.shard_columns.specs.Built.{columns_from}
use Rattle.shard_columns.specs.Columns.{Columns}
use Rattle.shard_columns.specs.Index.{AreShardsOf, rows_by_shard, shards_weight}
use Rattle.shard_columns.proofs.Indexing.{are-shards, weigh-same, rows-same}
use Rattle.shard_columns.proofs.index.Index.build.Goals as goal

pub invariant_of-result : goal.invariant_of-result
invariant_of-result c =
    let m = c.args.mapping in
    let lists = c.args.documents.now in
    let shards_are : c.in_ok-shards.shards ≡ map (columns_from m) lists = c.in_ok-shards.ensures ∙ ap (map (columns_from m)) c.as_slice.ensures in
    let size : length c.in_ok-shards.shards ≡ length lists = ap length shards_are ∙ length-map lists (columns_from m) in
    record {
      some_shards = omega (arith, size, c.requires.some);
      few_shards = omega (arith, size, c.requires.at_most);
      ordered = c.requires.ordered;
      paths = c.requires.paths;
      built = ∣ subst (AreShardsOf m) (sym shards_are) (are-shards m lists c.requires.ordered.few c.requires.paths c.requires.fit c.requires.light) ∣₁;
      light = subst (λ (shards : List Columns). shards_weight shards < WEIGHT_LIMIT) (sym shards_are) (omega (arith, weigh-same m lists, c.requires.light));
    }

pub returns-clause-rows : goal.returns-clause-rows
returns-clause-rows c =
    let m = c.args.mapping in
    let lists = c.args.documents.now in
    ap rows_by_shard (c.in_ok-shards.ensures ∙ ap (map (columns_from m)) c.as_slice.ensures) ∙ rows-same m lists
