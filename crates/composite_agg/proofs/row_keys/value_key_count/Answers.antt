use Rattle.std.proofs.Common.{◌≡◌, ◌<◌, ◌∙◌, None, length, rules}
use Rattle.agg_evaluation.specs.Rows.{values_of, row_of}
use Rattle.composite_agg.proofs.ValueParts.{few-parts}
use Rattle.composite_agg.proofs.row_keys.value_key_count.Goals as goal

pub returns-then-is_none : goal.returns-then-is_none
returns-then-is_none c =
    let s = c.args.source.now in
    let values = values_of s.field (row_of c.args.shard.now.rows c.args.row) in
    let none : s.interval ≡ None = search rules in
    let few : length values < 2 = search rules in
    c.from.ensures ∙ c.value_count-values.ensures ∙ few-parts s values none few
