-- What a key of several parts costs.
use Rattle.std.specs.Prelude.{◌≡◌, List, sum_by}
use Rattle.std.proofs.Common.{◌∙◌}
use Rattle.std.proofs.lemmas.List.Sums.{sum-map}
use Rattle.agg_model.specs.declared.key.Key.{Key}
use Rattle.agg_model.specs.declared.key.Key.TheVariants as key
use Rattle.agg_evaluation.specs.Cost.{key_bytes, key_bytes_at}
use Rattle.agg_evaluation.proofs.FoldLaws.{fold_key-Many}

pub key_bytes-Many : (ks : List Key) → key_bytes (key.Many ks) ≡ sum_by key_bytes ks
key_bytes-Many ks = fold_key-Many key_bytes_at ks ∙ sum-map key_bytes ks
