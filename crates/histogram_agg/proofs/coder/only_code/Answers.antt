use Rattle.std.proofs.Common.{◌≡◌, ◌∙◌, ℕ, ℤ, List, ap, arith, length}
use Rattle.agg_evaluation.specs.Rows.{row_of, values_of}
use Rattle.shard_columns.specs.Lent.{wholes_in}
use Rattle.histogram_agg.proofs.RowKeys.{few-wholes}
use Rattle.histogram_agg.proofs.coder.only_code.Goals as goal

pub returns-in_default-clause-none : goal.returns-in_default-clause-none
returns-in_default-clause-none g c =
    let row = row_of c.args.shard.now.rows c.args.row in
    let values = values_of (g.C.Coder.field_of c.args.coder.now) row in
    let lent : length c.numbers.result.now ≡ length (wholes_in values) = ap (λ (ns : List ℤ). length ns) c.numbers.ensures.exact ∙ ap (λ (f : ℕ). length (wholes_in (values_of f row))) c.field.ensures in
    omega (arith, few-wholes values, lent, c.in_default.len_at_least)
