use Rattle.std.proofs.Common.{◌≡◌, ◌≤◌, length, take}
use Rattle.agg_model.specs.Options.{TermsOptions}
use Rattle.agg_evaluation.specs.Rows.{values_of, row_of}
use Rattle.terms_agg.specs.Prepared.{IsReadyFor, keys_of_values}
use Rattle.terms_agg.proofs.row_codes.count.Given as goal

abbrev pub invariant-loop-place : goal.invariant-loop-place
invariant-loop-place l = record {
  keys : (t : TermsOptions) → IsReadyFor l.shard t l.prepared → l.count ≡ length (keys_of_values t (take l.place (values_of l.prepared.field (row_of l.shard.rows l.row))));
  few : l.count ≤ l.place;
}
