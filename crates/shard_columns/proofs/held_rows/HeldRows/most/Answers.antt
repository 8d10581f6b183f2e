use Rattle.std.proofs.Common.{◌∙◌, List, max, sym, ap, map}
use Rattle.agg_evaluation.specs.Ceiling.{greatest_of}
use Rattle.shard_columns.specs.Values.{held_count}
use Rattle.shard_columns.specs.declared.values.Held.{Held}
use Rattle.shard_columns.proofs.OneEach.{most-all}
use Rattle.shard_columns.proofs.held_rows.HeldRows.most.Goals as goal

pub returns : goal.returns
returns c =
    let others = c.self.inside.others.items in
    let most_is = c.most_of.ensures ∙ ap (λ (hs : List Held). greatest_of (map held_count hs)) c.as_slice.ensures.value in
    c.max.ensures ∙ (λ i. max (most_is i) (c.min.ensures i)) ∙ sym (most-all c.self.inside.ones others) ∙ ap (λ (hs : List Held). greatest_of (map held_count hs)) c.self.view_is
