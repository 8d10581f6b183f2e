use Rattle.std.proofs.Common.{◌≡◌, true, map, take}
use Rattle.std.specs.List.{list_all}
use Rattle.agg_model.specs.Options.{TermsOptions}
use Rattle.agg_evaluation.specs.Rows.{values_of, row_of}
use Rattle.terms_agg.specs.Codes.{is_code, key_of}
use Rattle.terms_agg.specs.Prepared.{IsReadyFor, keys_of_values}
use Rattle.terms_agg.proofs.row_codes.codes.Given as goal

abbrev pub invariant-loop-place : goal.invariant-loop-place
invariant-loop-place l = record {
  keys : (t : TermsOptions) → IsReadyFor l.shard t l.prepared → map (key_of l.shard l.prepared) l.codes.items ≡ keys_of_values t (take l.place (values_of l.prepared.field (row_of l.shard.rows l.row)));
  codes : list_all (is_code l.shard l.prepared) l.codes.items ≡ true;
}
