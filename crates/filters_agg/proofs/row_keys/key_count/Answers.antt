use mir.Val.{bool_byte}
use Rattle.std.specs.Prelude.{◌==◌}
use Rattle.std.proofs.Common.{ℕ, Bool, length, map, sym, ◌∙◌, ap}
use Rattle.agg_model.specs.declared.query.Query.{Query}
use Rattle.agg_model.specs.declared.aggregation.Kind.{Kind}
use Rattle.agg_model.specs.declared.key.Key.TheVariants.{Fixed}
use Rattle.std.proofs.lemmas.List.{length-map}
use Rattle.agg_evaluation.specs.Keys.{keys}
use Rattle.agg_evaluation.specs.Matching.{matches}
use Rattle.agg_evaluation.specs.Rows.{row_of, values_of}
use Rattle.filters_agg.specs.Numbers.{numbers_where}
use Rattle.filters_agg.proofs.Numbers.{keys-are, count-missing}
use Rattle.filters_agg.proofs.row_keys.key_count.Goals as goal

pub returns-in-Filters : goal.returns-in-Filters
returns-in-Filters c =
    let rows = c.args.shard.now.rows in
    let holds = λ (q : Query). matches rows q (row_of rows c.args.row) in
    c.count_of_filters.ensures
    ∙ (ap (λ (b : Bool). length (numbers_where b (map holds c.in-Filters.filters))) c.is_some.ensures
    ∙ (sym (length-map _ Fixed) ∙ (sym (ap length (keys-are holds c.in-Filters.filters c.in-Filters.other))
    ∙ ap (λ (k : Kind). length (keys rows k (row_of rows c.args.row))) (sym c.in-Filters.is))))

pub returns-in-Missing : goal.returns-in-Missing
returns-in-Missing c =
    let rows = c.args.shard.now.rows in
    let values = values_of c.in-Missing.field (row_of rows c.args.row) in
    count-missing values c.from-in-Missing.result (c.from-in-Missing.ensures ∙ ap (λ (n : ℕ). bool_byte (n == 0)) c.value_count.ensures)
    ∙ ap (λ (k : Kind). length (keys rows k (row_of rows c.args.row))) (sym c.in-Missing.is)
