use Rattle.std.proofs.Common.{sym, subst}
use Rattle.std.proofs.lemmas.Bool.{leb-true}
use Rattle.agg_model.specs.declared.aggregation.Kind.{Kind}
use Rattle.agg_cost.specs.Widths.{HasKeysAtMost, IsNarrow}
use Rattle.agg_cost.proofs.Narrowness.{few-narrow}
use Rattle.agg_cost.proofs.width.is_narrow.Goals as goal

pub returns-in-Some : goal.returns-in-Some
returns-in-Some c =
    let rows = c.args.shard.now.rows in
    let k = c.in-Composite in
    let most = c.in-Some.most in
    λ low.
    subst (λ (kind : Kind). IsNarrow kind rows) (sym k.is)
    (few-narrow rows k.sources k.size k.after most (subst (λ (kind : Kind). HasKeysAtMost most kind rows) k.is c.in-Some.ensures) (leb-true most 65536 low))
