-- The document is such as its mapping gives.
use Rattle.std.proofs.Common.{◌≡◌, refl, ◌<◌, ◌≤◌, ◌+◌, List, length, sym, ◌∙◌, subst, arith, true}
use Rattle.std.specs.Prelude.{IsTrue}
use Rattle.agg_model.specs.declared.limits.TheConstants.{MAX_PATHS, WEIGHT_LIMIT}
use Rattle.agg_model.specs.declared.mapping.Mapping.{Mapping}
use Rattle.agg_model.specs.declared.row.Document.{Document}
use Rattle.agg_model.specs.Contexts.{parents_before}
use Rattle.agg_evaluation.specs.Counted.{IsApart}
use Rattle.agg_evaluation.specs.DocumentFits.{all_fit}
use Rattle.agg_evaluation.specs.Rows.{rows_of_documents}
use Rattle.agg_evaluation.specs.RowsWeight.{rows_weight}
use Rattle.agg_evaluation.proofs.Computing.{computing}
use Rattle.fitting_laws.proofs.Aparts.{documents_apart}
use Rattle.shard_columns.specs.Built.{columns_from}
use Rattle.shard_columns.specs.Columns.{Columns}
use Rattle.shard_tests.specs.Months.{dated_mapping, dated_documents}
use Rattle.shard_tests.proofs.months.dated_shard.Goals as goal

documents-fit : all_fit dated_mapping dated_documents ≡ true
unfolding computing
documents-fit = refl

-- one row and two values
weight-is : rows_weight (rows_of_documents dated_documents) ≡ 3
unfolding computing
weight-is = refl

pub returns-clause-built : goal.returns-clause-built
returns-clause-built c =
    ∣ (
      dated_documents,
      record {
        few = omega arith;
        paths = refl;
        fit = documents-fit;
        light = omega (arith, weight-is);
        columns_are = c.in_ok-shard.ensures ∙ (λ i. columns_from (c.in_ok-mapping.ensures i) (c.in_ok-documents.ensures i));
      },
    ) ∣₁

pub build-requires-clause-few : goal.build-requires-clause-few
build-requires-clause-few c = subst (λ (m : Mapping). length m.fields + length m.nested ≤ MAX_PATHS) (sym c.in_ok-mapping.ensures) (omega arith)

pub build-requires-clause-paths : goal.build-requires-clause-paths
build-requires-clause-paths c = subst (λ (m : Mapping). IsTrue (parents_before m)) (sym c.in_ok-mapping.ensures) refl

pub build-requires-clause-fit : goal.build-requires-clause-fit
build-requires-clause-fit c =
    (λ i. all_fit (c.in_ok-mapping.ensures i) (c.in_ok-documents.ensures i)) ∙ documents-fit

pub build-requires-clause-light : goal.build-requires-clause-light
build-requires-clause-light c = subst (λ (ds : List Document). rows_weight (rows_of_documents ds) < WEIGHT_LIMIT) (sym c.in_ok-documents.ensures) (omega (arith, weight-is))

pub returns-clause-apart : goal.returns-clause-apart
returns-clause-apart c =
    subst (λ (s : Columns). IsApart s.rows) (sym (c.in_ok-shard.ensures ∙ (λ i. columns_from (c.in_ok-mapping.ensures i) (c.in_ok-documents.ensures i)))) (documents_apart dated_mapping dated_documents refl documents-fit)
