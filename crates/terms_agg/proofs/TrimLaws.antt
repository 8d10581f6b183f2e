-- The shard's cut of a node of terms.
use Rattle.std.specs.Prelude.{◌≡◌, ℕ, List, Option, Bool, sum_by}
use Rattle.std.proofs.Common.{◌∙◌, ap}
use Rattle.agg_model.specs.declared.partial.Bucket.{Bucket}
use Rattle.agg_model.specs.declared.partial.Node.{Node, out-Node}
use Rattle.agg_model.specs.declared.partial.Node.TheVariants.{Keyed, outs-Keyed}
use Rattle.agg_model.specs.declared.row.Scalar.{Scalar}
use Rattle.agg_model.specs.declared.query.Probe.{Probe}
use Rattle.agg_model.specs.declared.aggregation.Order.{Order}
use Rattle.agg_model.specs.declared.aggregation.Kind.TheVariants as kind
use Rattle.agg_model.specs.declared.aggregation.Agg.{Agg, out-Agg}
use Rattle.agg_evaluation.specs.Orders.{bucket_count}
use Rattle.agg_evaluation.specs.Shard.{trimmed_node}
use Rattle.bucket_order.specs.Kinds.{child_kinds}
use Rattle.terms_agg.specs.Trim.{trimmed, trimmed_at}

pub trimmed-Terms : (agg : Agg) (n : Node) (field size shard_size min_doc_count : ℕ) (order : List Order) (include : Option (List Probe)) (exclude : List Probe) (missing : Option Scalar) (show_error : Bool)
    (buckets : List Bucket) (error full cut : ℕ) → (out-Agg agg).kind ≡ kind.Terms field size shard_size min_doc_count order include exclude missing show_error → n ≡ Keyed buckets error full cut
    → trimmed agg n ≡ trimmed_node (child_kinds (out-Agg agg).children) shard_size order (sum_by bucket_count buckets) buckets
trimmed-Terms agg n field size shard_size min_doc_count order include exclude missing show_error buckets error full cut is_terms is_keyed =
    let kinds = child_kinds (out-Agg agg).children in
    let terms = kind.Terms field size shard_size min_doc_count order include exclude missing show_error in
    ap (λ k. trimmed_at kinds k (out-Node n) n) is_terms ∙ ap (λ m. trimmed_at kinds terms (out-Node m) m) is_keyed
    ∙ ap (λ d. trimmed_at kinds terms d (Keyed buckets error full cut)) (outs-Keyed buckets error full cut)
