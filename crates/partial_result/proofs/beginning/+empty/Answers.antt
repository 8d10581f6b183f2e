use Rattle.std.proofs.Common.{◌≡◌, ◌∙◌, ◌++◌, ◌∷◌, [], sym, ap, map, ⊎_elim}
use Rattle.std.specs.List.{range_with_len}
use Rattle.agg_model.specs.declared.key.Key.TheVariants as key
use Rattle.agg_model.specs.declared.partial.Node.TheVariants.{Fixed, Keyed}
use Rattle.agg_model.specs.declared.aggregation.Agg.{out-Agg}
use Rattle.agg_evaluation.specs.Shard.{fixed_keys}
use Rattle.agg_evaluation.specs.Whole.{by_key, from_start, a_number, shape_of, empty_node}
use Rattle.partial_result.proofs.EmptyLevels.{empty_at, empty-from_start, buckets-push}
use Rattle.partial_result.proofs.beginning.+empty.Goals as goal

pub empty_node_of-returns-in_ok-empty_buckets-in-Filters : goal.empty_node_of-returns-in_ok-empty_buckets-in-Filters
empty_node_of-returns-in_ok-empty_buckets-in-Filters t c =
    ap Fixed c.in_ok-empty_buckets-in-Filters.ensures
    ∙ empty-from_start c.args.agg.now (range_with_len 0 c.in_ok-number_of_filters-in-Filters.field-0) (ap shape_of c.in-Filters.is)
    (ap fixed_keys c.in-Filters.is ∙ ap (λ n. map key.Fixed (range_with_len 0 n)) (sym c.in_ok-number_of_filters-in-Filters.ensures))

pub empty_node_of-returns-in-Sum : goal.empty_node_of-returns-in-Sum
empty_node_of-returns-in-Sum t c =
    let shape : shape_of (out-Agg c.args.agg.now).kind ≡ a_number =
    ⊎_elim (λ h. ap shape_of h.2) (⊎_elim (λ h. ap shape_of h.2) (⊎_elim (λ h. ap shape_of h.2) (⊎_elim (λ h. ap shape_of h.2) (λ h. ap shape_of h.2)))) c.in-Sum.is in
    sym (empty_at c.args.agg.now a_number shape)

pub empty_node_of-returns-in_ok-empty_buckets-in-Filter : goal.empty_node_of-returns-in_ok-empty_buckets-in-Filter
empty_node_of-returns-in_ok-empty_buckets-in-Filter t c =
    let shape : shape_of (out-Agg c.args.agg.now).kind ≡ from_start =
    ⊎_elim (λ h. ap shape_of h.1) (⊎_elim (λ h. ap shape_of h.1) (⊎_elim (λ h. ap shape_of h) (⊎_elim (λ h. ap shape_of h.1) (λ h. ap shape_of h.1)))) c.in-Filter.is in
    let keys : fixed_keys (out-Agg c.args.agg.now).kind ≡ key.Fixed 0 ∷ [] =
    ⊎_elim (λ h. ap fixed_keys h.1) (⊎_elim (λ h. ap fixed_keys h.1) (⊎_elim (λ h. ap fixed_keys h) (⊎_elim (λ h. ap fixed_keys h.1) (λ h. ap fixed_keys h.1)))) c.in-Filter.is in
    ap Fixed c.in_ok-empty_buckets-in-Filter.ensures ∙ empty-from_start c.args.agg.now (0 ∷ []) shape keys

pub empty_node_of-returns-in-Terms : goal.empty_node_of-returns-in-Terms
empty_node_of-returns-in-Terms t c =
    let shape : shape_of (out-Agg c.args.agg.now).kind ≡ by_key =
    ⊎_elim (λ h. ap shape_of h.9) (⊎_elim (λ h. ap shape_of h.9) (⊎_elim (λ h. ap shape_of h.9) (λ h. ap shape_of h.3))) c.in-Terms.is in
    ap (λ buckets. Keyed buckets 0 0 0) c.new.ensures ∙ sym (empty_at c.args.agg.now by_key shape)

pub empty_buckets-loop-place-preserved : goal.empty_buckets-loop-place-preserved
empty_buckets-loop-place-preserved t c =
    c.in_ok-push.ensures.ok
    ∙ (λ i. c.loop-place.invariant i ++ record { key = key.Fixed c.loop-place.place; count = 0; covered = 0; children = c.in_ok-empty_nodes.ensures i } ∷ [])
    ∙ sym (buckets-push (map empty_node c.args.children.now) c.loop-place.place)
