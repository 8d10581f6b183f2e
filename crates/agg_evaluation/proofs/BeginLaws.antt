-- Before the first row a task has the empty result.
use Rattle.std.specs.Prelude.{◌≡◌, refl, ℕ, zero, suc, ◌-◌, true, false, cond, ◌&&◌, ◌==◌, List, [], ◌∷◌, map, filter, take, length, Option}
use Rattle.std.proofs.Common.{◌∙◌, ap, arith}
use Rattle.agg_model.specs.declared.key.Key.{Key}
use Rattle.agg_model.specs.declared.key.Key.TheVariants as key
use Rattle.agg_model.specs.declared.partial.Node.{Node}
use Rattle.agg_model.specs.declared.partial.Node.TheVariants.{Keyed, Fixed}
use Rattle.agg_model.specs.declared.aggregation.Agg.{Agg, Agg', Row_of-Agg, end_of-Agg, more_of-Agg}
use Rattle.agg_model.specs.declared.aggregation.CompositeSource.{CompositeSource}
use Rattle.agg_model.specs.declared.aggregation.Kind.{Kind}
use Rattle.agg_model.specs.declared.aggregation.Kind.TheVariants as kind
use Rattle.agg_model.specs.declared.aggregation.Search.{Search}
use Rattle.agg_evaluation.specs.Folds.{fold_aggs}
use Rattle.agg_evaluation.specs.Rows.{PlacedRow}
use Rattle.agg_evaluation.specs.Groups.{under}
use Rattle.agg_evaluation.specs.Shard.{Collector, fixed_keys, page, bucket_of, node_of, collector_of, collected_node}
use Rattle.agg_evaluation.specs.Trace.{built, global_roots, matched}
use Rattle.agg_evaluation.specs.Whole.{empty_by, empty_node, empty_result, shape_of}

module _ (all : List PlacedRow) where
  -- each collector with the tree that it makes of no row
  abbrev Begins : List Collector → List Node → Type 0
  Begins [] [] = Unit {0}
  Begins (c ∷ cs) (e ∷ es) = (c.collect [] ≡ e) × Begins cs es
  Begins _ _ = ⊥

  children-begin : (cs : List Collector) (es : List Node) → Begins cs es → map (λ c. c.collect []) cs ≡ es
  children-begin [] [] h = refl
  children-begin [] (e ∷ es) h = absurd h
  children-begin (c ∷ cs) [] h = absurd h
  children-begin (c ∷ cs) (e ∷ es) h = λ i. h.0 i ∷ children-begin cs es h.1 i

  started : (cs : List Collector) (es : List Node) → Begins cs es → (k : Kind) (ks : List Key) → Fixed (map (bucket_of false all [] k cs []) ks) ≡ Fixed (map (λ q. record { key = q; count = 0; covered = 0; children = es }) ks)
  started cs es h k ks = λ i. Fixed (map (λ q. record { key = q; count = 0; covered = 0; children = children-begin cs es h i }) ks)

  no_page : (sources : List CompositeSource) (size : ℕ) (after : Option Key) → page sources size after [] ≡ []
  no_page sources zero after = refl
  no_page sources (suc size) after = refl

  node-begins : (cs : List Collector) (es : List Node) → Begins cs es → (k : Kind) → node_of false all [] cs k (under all [] k []) ≡ empty_by es (fixed_keys k) (shape_of k)
  node-begins cs es h (kind.Terms field size shard_size min_doc_count order include exclude missing show_error) = refl
  node-begins cs es h (kind.Histogram field interval offset min_doc_count extended hard keyed order missing) = refl
  node-begins cs es h (kind.DateHistogram field period zone min_doc_count extended hard keyed order missing) = refl
  node-begins cs es h (kind.Composite sources size after) = ap (λ ks. Keyed (map (bucket_of false all [] (kind.Composite sources size after) cs []) ks) 0 0 0) (no_page sources size after)
  node-begins cs es h (kind.Filters names filters other) = started cs es h (kind.Filters names filters other) (fixed_keys (kind.Filters names filters other))
  node-begins cs es h (kind.Filter query) = started cs es h (kind.Filter query) (key.Fixed 0 ∷ [])
  node-begins cs es h (kind.Missing field) = started cs es h (kind.Missing field) (key.Fixed 0 ∷ [])
  node-begins cs es h kind.Global = started cs es h kind.Global (key.Fixed 0 ∷ [])
  node-begins cs es h (kind.Nested context) = started cs es h (kind.Nested context) (key.Fixed 0 ∷ [])
  node-begins cs es h (kind.ReverseNested context) = ap (node_of false all [] cs (kind.ReverseNested context)) (none_enclose context) ∙ started cs es h (kind.ReverseNested context) (key.Fixed 0 ∷ [])
    where
      none_in : (context : ℕ) (rows : List PlacedRow) → filter (λ r. (r.context == context) && false) rows ≡ []
      none_in context [] = refl
      none_in context (r ∷ rows) = elim (r.context == context) as (λ b. cond (b && false) (r ∷ filter (λ r. (r.context == context) && false) rows) (filter (λ r. (r.context == context) && false) rows) ≡ []) [ true ↦ none_in context rows | false ↦ none_in context rows ]

      none_enclose : (context : ℕ) → under all [] (kind.ReverseNested context) [] ≡ []
      none_enclose context = none_in context all
  node-begins cs es h (kind.Sum field missing) = refl
  node-begins cs es h (kind.Min field missing) = refl
  node-begins cs es h (kind.Max field missing) = refl
  node-begins cs es h (kind.Avg field missing) = refl
  node-begins cs es h (kind.ValueCount field missing) = refl

  mutual
    pub collected-begins : (a : Agg) → collected_node false all [] a [] ≡ empty_node a
    collected-begins (Agg' name k n children) = node-begins _ _ (each-begins children) k

    each-begins : {n : _} (children : Row_of-Agg n) → Begins (fold_aggs (collector_of false all []) children) (fold_aggs (λ a. empty_by a.children (fixed_keys a.kind) (shape_of a.kind)) children)
    each-begins end_of-Agg = tt
    each-begins (more_of-Agg a rest) = (collected-begins a, each-begins rest)

pub built-begins : (search : Search) (all : List PlacedRow) → (built search all 0).nodes ≡ (empty_result search).nodes
built-begins search all =
    ap (λ n. map (λ a. collected_node false all (take n (global_roots search all)) a []) search.aggs) (let none : 0 - length (matched search all) ≡ 0 = omega arith in none)
    ∙ each search.aggs
  where
    each : (aggs : List Agg) → map (λ a. collected_node false all [] a []) aggs ≡ map empty_node aggs
    each [] = refl
    each (a ∷ aggs) = λ i. collected-begins all a i ∷ each aggs i
