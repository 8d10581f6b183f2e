use Rattle.std.proofs.Common.{◌∙◌, sym, ap, length, ◌^◌, ◌-◌}
use Rattle.std.specs.Prelude.{min}
use Rattle.agg_evaluation.specs.Ceiling.{combination_count}
use Rattle.agg_evaluation.specs.Keys.{keys}
use Rattle.agg_evaluation.specs.Rows.{row_of}
use Rattle.growth_laws.proofs.Combinations.{composite-count}
use Rattle.composite_agg.proofs.row_keys.key_count.Goals as goal

pub returns : goal.returns
returns c =
    let row = row_of c.args.shard.now.rows c.args.row in
    c.combination_count_of.ensures
    ∙ ap (λ ss. min (combination_count ss row) (2 ^ 64 - 1)) c.as_slice.ensures
    ∙ ap (λ n. min n (2 ^ 64 - 1)) (sym (composite-count c.in-Composite.sources row))
    ∙ sym (ap (λ k. min (length (keys c.args.shard.now.rows k row)) (2 ^ 64 - 1)) c.in-Composite.is)
