use Rattle.std.proofs.Common.{length, sym, ◌∙◌, subst, ⊎_elim}
use Rattle.std.specs.Prelude.{ℕ}
use Rattle.agg_model.specs.declared.aggregation.Kind.{Kind}
use Rattle.agg_cost.specs.Widths.{HandsOnAtMost}
use Rattle.agg_cost.proofs.Widths.{hands-on-nested, hands-on-reverse}
use Rattle.agg_cost.proofs.width.most_paths.Goals as goal

pub returns-in-Nested : goal.returns-in-Nested
returns-in-Nested c =
    let kinds = c.args.shard.now.kinds in
    let rows = c.args.shard.now.rows in
    let most = sym (c.from.ensures ∙ c.len.ensures.rows) in
    subst (λ (n : ℕ). HandsOnAtMost n kinds rows c.args.kind.now) most
    (⊎_elim (λ h. subst (λ (k : Kind). HandsOnAtMost (length rows) kinds rows k) (sym h.1) (hands-on-nested kinds rows h.0)) (λ h. subst (λ (k : Kind). HandsOnAtMost (length rows) kinds rows k) (sym h.1) (hands-on-reverse kinds rows h.0)) c.in-Nested.is)
