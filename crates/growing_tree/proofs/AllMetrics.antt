-- Aggregations all of which are metrics.
use Rattle.std.specs.Prelude.{◌≡◌, ℕ, zero, suc, List, [], ◌∷◌, slice_get, Some, IsTrue}
use Rattle.std.specs.List.{list_all}
use Rattle.std.proofs.Common.{subst}
use Rattle.list_laws.proofs.Booleans.{and_left, and_right, holds, true_is}
use Rattle.list_laws.proofs.Options.{none_some, some_same}
use Rattle.agg_model.specs.declared.aggregation.Agg.{Agg, out-Agg}
use Rattle.growing_tree.specs.Readiness.{is_metric}

-- the one at a place is one
pub metric-at : (aggs : List Agg) (i : ℕ) (a : Agg) → IsTrue (list_all (λ a. is_metric (out-Agg a).kind) aggs) → slice_get aggs i ≡ Some a → IsTrue (is_metric (out-Agg a).kind)
metric-at [] zero a h e = none_some a e
metric-at [] (suc i) a h e = none_some a e
metric-at (b ∷ aggs) zero a h e = subst (λ x. IsTrue (is_metric (out-Agg x).kind)) (some_same b a e) (true_is _ (and_left _ _ (holds _ h)))
metric-at (b ∷ aggs) (suc i) a h e = metric-at aggs i a (true_is _ (and_right _ _ (holds _ h))) e
