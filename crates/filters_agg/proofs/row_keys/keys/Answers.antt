use Rattle.std.proofs.Common.{◌≡◌, ℕ, Bool, List, IfOk, map, sym, ◌∙◌, ap, subst}
use Rattle.std.specs.Prelude.{◌==◌}
use Rattle.agg_model.specs.declared.key.Key.{Key}
use Rattle.agg_model.specs.declared.key.Key.TheVariants.{Fixed}
use Rattle.agg_model.specs.declared.query.Query.{Query}
use Rattle.agg_model.specs.declared.aggregation.Kind.{Kind}
use Rattle.agg_evaluation.specs.Keys.{keys, single_key}
use Rattle.agg_evaluation.specs.Matching.{matches}
use Rattle.agg_evaluation.specs.Rows.{row_of, values_of}
use Rattle.filters_agg.specs.Numbers.{numbers_where}
use Rattle.filters_agg.proofs.Numbers.{keys-are, single-missing}
use Rattle.filters_agg.proofs.row_keys.keys.Goals as goal

pub returns-in-Filters : goal.returns-in-Filters
returns-in-Filters c =
    let rows = c.args.shard.now.rows in
    let holds = λ (q : Query). matches rows q (row_of rows c.args.row) in
    let same =
    ap (λ (b : Bool). map Fixed (numbers_where b (map holds c.in-Filters.filters))) c.is_some.ensures
    ∙ (sym (keys-are holds c.in-Filters.filters c.in-Filters.other) ∙ ap (λ (k : Kind). keys rows k (row_of rows c.args.row)) (sym c.in-Filters.is)) in
    subst (λ (them : List Key). IfOk c.keys_of_filters.result (λ ks. ks ≡ them)) same c.keys_of_filters.ensures

pub returns-in-Missing : goal.returns-in-Missing
returns-in-Missing c =
    let rows = c.args.shard.now.rows in
    let values = values_of c.in-Missing.field (row_of rows c.args.row) in
    let same = ap (λ (n : ℕ). single_key (n == 0)) c.value_count.ensures ∙ (single-missing values ∙ ap (λ (k : Kind). keys rows k (row_of rows c.args.row)) (sym c.in-Missing.is)) in
    subst (λ (them : List Key). IfOk c.single_key-in-Missing.result (λ ks. ks ≡ them)) same c.single_key-in-Missing.ensures
