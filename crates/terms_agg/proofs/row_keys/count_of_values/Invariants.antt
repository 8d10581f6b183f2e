use Rattle.std.proofs.Common.{◌≡◌, ◌≤◌, length, take}
use Rattle.agg_model.specs.Options.{TermsOptions}
use Rattle.agg_evaluation.specs.Rows.{values_of, row_of}
use Rattle.terms_agg.specs.Prepared.{keys_of_values}
use Rattle.terms_agg.proofs.row_keys.count_of_values.Given as goal

abbrev pub invariant-loop-place : goal.invariant-loop-place
invariant-loop-place l = record {
  keys : (t : TermsOptions) → t.include ≡ l.include → t.exclude ≡ l.exclude → l.count ≡ length (keys_of_values t (take l.place (values_of l.field (row_of l.shard.rows l.row))));
  few : l.count ≤ l.place;
}
