-- Counters of words come to the node of the rows that were counted.
use Rattle.std.proofs.Common.{◌≡◌, refl, ℕ, false, List, [], ◌∷◌, length, map, filter, flat_map, None, sym, ◌∙◌, ap}
use Rattle.agg_model.specs.Options.{TermsOptions, terms_kind}
use Rattle.agg_model.specs.declared.aggregation.Agg.{Agg, out-Agg}
use Rattle.agg_model.specs.declared.aggregation.Kind.{Kind}
use Rattle.agg_model.specs.declared.key.Key.{Key}
use Rattle.agg_model.specs.declared.partial.Node.TheVariants.{Keyed}
use Rattle.agg_model.specs.declared.row.Scalar.{Scalar}
use Rattle.agg_model.specs.ValueKeys.{scalar_key}
use Rattle.agg_evaluation.specs.Counters.{raised_by}
use Rattle.agg_evaluation.specs.Folds.{fold_agg}
use Rattle.agg_evaluation.specs.Groups.{group, all_keys, under}
use Rattle.agg_evaluation.specs.Keys.{keys, distinct_keys, is_included, or_missing}
use Rattle.agg_evaluation.specs.Rows.{PlacedRow, values_of}
use Rattle.agg_evaluation.specs.Shard.{Collector, collector_of, node_of, collected_node}
use Rattle.agg_evaluation.proofs.AggFolds.{fold_agg-level}
use Rattle.agg_evaluation.proofs.CounterLaws.{counters-groups}
use Rattle.list_laws.proofs.Lists.{map-map}
use Rattle.terms_agg.specs.Counts.{IsPlainTerms, counted_bucket, counted_node, keys_in_row}

-- without children there is nothing to collect beneath
no-children : (all roots : List PlacedRow) (a : Agg) → (out-Agg a).children ≡ [] → (rows : List PlacedRow)
    → collected_node false all roots a rows ≡ node_of false all roots [] (out-Agg a).kind (under all roots (out-Agg a).kind rows)
no-children all roots a none rows =
    let k = (out-Agg a).kind in
    ap (λ (c : Collector). c.collect rows) (fold_agg-level (collector_of false all roots) a)
    ∙ ap (λ (aggs : List Agg). node_of false all roots (map (fold_agg (collector_of false all roots)) aggs) k (under all roots k rows)) none

-- all values are included where nothing is asked
all-pass : (ks : List Key) → filter (is_included None []) ks ≡ ks
all-pass [] = refl
all-pass (k ∷ ks) = ap (λ (js : List Key). k ∷ js) (all-pass ks)

no-missing : (vs : List Scalar) → or_missing None vs ≡ vs
no-missing [] = refl
no-missing (v ∷ vs) = refl

-- the keys of a row, by plain terms
plain-keys : (all : List PlacedRow) (t : TermsOptions) (field : ℕ) → t.field ≡ field → t.include ≡ None → t.exclude ≡ [] → t.missing ≡ None → (row : PlacedRow) → keys all (terms_kind t) row ≡ keys_in_row field row
plain-keys all t field field_is included excluded missing row =
    (λ i. filter (is_included (included i) (excluded i)) (distinct_keys (map scalar_key (or_missing (missing i) (values_of (field_is i) row)))))
    ∙ (all-pass (distinct_keys (map scalar_key (or_missing None (values_of field row)))) ∙ ap (λ (vs : List Scalar). distinct_keys (map scalar_key vs)) (no-missing (values_of field row)))

module _ (all roots : List PlacedRow) (field : ℕ) (a : Agg) (plain : IsPlainTerms field a) where
  abbrev kind : Kind
  kind = terms_kind plain.options

  pub one-keys : (row : PlacedRow) → keys all kind row ≡ keys_in_row field row
  one-keys = plain-keys all plain.options field plain.field_is plain.all_included plain.none_excluded plain.none_for_missing

  -- a bucket for each group
  pub node-is : (rows : List PlacedRow) → collected_node false all roots a rows ≡ counted_node (map (λ k. (k, length (group all kind rows k))) (all_keys all kind rows))
  node-is rows =
      no-children all roots a plain.no_children rows
      ∙ (ap (λ (k : Kind). node_of false all roots [] k (under all roots k rows)) plain.kind_is
      ∙ ap (λ bs. Keyed bs 0 0 0) (sym (map-map counted_bucket (λ (k : Key). (k, length (group all kind rows k))) (all_keys all kind rows))))

  -- counters that were raised for the keys of each row give the node of the rows
  pub of-raised : (rows : List PlacedRow) (counters : List (Key × ℕ)) → counters ≡ raised_by (flat_map (keys_in_row field) rows) [] → counted_node counters ≡ collected_node false all roots a rows
  of-raised rows counters is =
      ap counted_node (is ∙ (sym (λ i. raised_by (flat_map (λ row. one-keys row i) rows) []) ∙ counters-groups all kind rows)) ∙ sym (node-is rows)
