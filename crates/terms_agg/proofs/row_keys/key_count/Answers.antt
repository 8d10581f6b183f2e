use Rattle.std.proofs.Common.{refl, length, sym, ◌∙◌, ap}
use Rattle.agg_model.specs.declared.aggregation.Kind.{Kind}
use Rattle.agg_model.specs.Options.{TermsOptions}
use Rattle.agg_evaluation.specs.Keys.{keys}
use Rattle.agg_evaluation.specs.Rows.{values_of, row_of}
use Rattle.terms_agg.specs.Prepared.{keys_of_values}
use Rattle.terms_agg.proofs.Readiness.{some_values}
use Rattle.terms_agg.proofs.row_keys.key_count.Goals as goal

pub returns-then-value_count-gt0 : goal.returns-then-value_count-gt0
returns-then-value_count-gt0 c =
    let rows = c.args.shard.now.rows in
    let options : TermsOptions = record {
      field = c.in-Terms.field;
      size = c.in-Terms.size;
      shard_size = c.in-Terms.shard_size;
      min_doc_count = c.in-Terms.min_doc_count;
      order = c.in-Terms.order;
      include = c.in-Terms.include;
      exclude = c.in-Terms.exclude;
      missing = c.in-Terms.missing;
      show_error = c.in-Terms.show_error;
    } in
    let values = values_of c.in-Terms.field (row_of rows c.args.row) in
    c.count_of_values.ensures options refl refl
    ∙ ap length (ap (keys_of_values options) (sym (some_values c.in-Terms.missing values (rw (← c.value_count.ensures) c.if-value_count-gt0.true))) ∙ ap (λ (k : Kind). keys rows k (row_of rows c.args.row)) (sym c.in-Terms.is))
