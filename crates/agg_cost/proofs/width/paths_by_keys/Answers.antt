use Rattle.std.proofs.lemmas.Option.{IfSome_then}
use Rattle.agg_cost.proofs.Widths.{hands-on-keys}
use Rattle.agg_cost.proofs.width.paths_by_keys.Goals as goal

pub returns : goal.returns
returns c =
    let kinds = c.args.shard.now.kinds in
    let rows = c.args.shard.now.rows in
    let k = c.args.kind.now in
    IfSome_then c.most_keys.result c.most_keys.ensures (hands-on-keys kinds rows k c.requires)
