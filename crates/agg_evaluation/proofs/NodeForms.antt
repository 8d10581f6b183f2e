-- A node that was made of its parts has these parts.
use Rattle.std.specs.Prelude.{◌≡◌, refl, ℕ, List}
use Rattle.std.proofs.Common.{sym, ◌∙◌, ap}
use Rattle.agg_model.specs.declared.partial.Bucket.{Bucket}
use Rattle.agg_model.specs.declared.partial.Metric.{Metric}
use Rattle.agg_model.specs.declared.partial.Node.{Node, out-Node, roll-Node, out-roll-Node, roll-out-Node}
use Rattle.agg_model.specs.declared.partial.Node.TheOpen.{Node-F}
use Rattle.agg_model.specs.declared.partial.Node.TheVariants.{Keyed, Fixed, Number}
use Rattle.agg_evaluation.proofs.Computing.{computing}

pub out-Keyed : (buckets : List Bucket) (error full cut : ℕ) → out-Node (Keyed buckets error full cut) ≡ Node-F.Keyed buckets error full cut
unfolding computing
out-Keyed buckets error full cut = out-roll-Node (Node-F.Keyed buckets error full cut)

pub out-Fixed : (buckets : List Bucket) → out-Node (Fixed buckets) ≡ Node-F.Fixed buckets
unfolding computing
out-Fixed buckets = out-roll-Node (Node-F.Fixed buckets)

pub out-Number : (m : Metric) → out-Node (Number m) ≡ Node-F.Number m
unfolding computing
out-Number m = refl

pub made-Keyed : (x : Node) (buckets : List Bucket) (error full cut : ℕ) → out-Node x ≡ Node-F.Keyed buckets error full cut → Keyed buckets error full cut ≡ x
unfolding computing
made-Keyed x buckets error full cut e = ap roll-Node (sym e) ∙ roll-out-Node x

pub made-Fixed : (x : Node) (buckets : List Bucket) → out-Node x ≡ Node-F.Fixed buckets → Fixed buckets ≡ x
unfolding computing
made-Fixed x buckets e = ap roll-Node (sym e) ∙ roll-out-Node x

pub made-Number : (x : Node) (m : Metric) → out-Node x ≡ Node-F.Number m → Number m ≡ x
unfolding computing
made-Number x m e = ap roll-Node (sym e) ∙ roll-out-Node x
