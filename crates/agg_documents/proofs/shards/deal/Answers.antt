use Rattle.std.proofs.Common.{ℕ, ◌<◌, List, sym, ◌∙◌, ap, subst}
use Rattle.agg_reading.specs.Routing.{shard_of}
use Rattle.agg_documents.proofs.Dealing.{shard-below}
use Rattle.agg_documents.proofs.shards.deal.Goals as goal

pub index_mut-requires : goal.index_mut-requires
index_mut-requires c =
    let is = c.shard_of-shard.ensures ∙ ap (λ (r : List ℕ). shard_of r c.args.shards) (c.as_bytes.ensures.value ∙ c.as_str.ensures) in
    subst (λ (k : ℕ). k < c.args.lists.now.len) (sym is) (subst (λ (n : ℕ). shard_of c.args.document.routing c.args.shards < n) (sym c.requires.sizes ∙ sym c.args.lists.now.ok.0) (shard-below c.args.document.routing c.args.shards c.requires.some))
