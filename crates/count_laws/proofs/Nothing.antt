-- Below the top an aggregation of no rows answers as the whole of no shard does: it counts nothing, since a global aggregation,
-- which counts the roots whatever it is handed, stands at the top alone.
use Rattle.std.specs.Prelude.{◌≡◌, refl, ℕ, zero, suc, ◌+◌, ◌==◌, ◌&&◌, not, ◌||◌, nat_le, Bool, true, false, cond, if◌then◌else◌, T, List, [], ◌∷◌, map}
use Rattle.std.specs.List.{list_all, enumerate_from}
use Rattle.std.specs.Option.{option_map_or}
use Rattle.std.proofs.Common.{sym, ◌∙◌, ap, subst, arith}
use Rattle.agg_model.specs.declared.mapping.Mapping.{Mapping}
use Rattle.agg_model.specs.declared.key.Key.{Key}
use Rattle.agg_model.specs.declared.partial.Node.TheVariants.{Keyed, Fixed}
use Rattle.agg_model.specs.declared.aggregation.Agg.{Agg, Agg', Row_of-Agg, end_of-Agg, more_of-Agg}
use Rattle.agg_model.specs.declared.aggregation.Order.{Order}
use Rattle.agg_model.specs.declared.aggregation.Kind.{Kind}
use Rattle.agg_model.specs.declared.aggregation.Kind.TheVariants as kind
use Rattle.agg_evaluation.specs.Folds.{fold_aggs}
use Rattle.agg_evaluation.specs.Rows.{PlacedRow, roots, enclosing}
use Rattle.agg_evaluation.specs.Groups.{under}
use Rattle.agg_evaluation.specs.QueryFits.{field_is, are_probes}
use Rattle.agg_evaluation.specs.SearchFits.{Made, made_at, kind_fits, is_made, is_metric, is_missing, no_children, handed, agg_fits, orders_fit}
use Rattle.agg_evaluation.specs.Shard.{Collector, collector_of, fixed_keys, node_of, trimmed_node, shard_node}
use Rattle.agg_evaluation.specs.Whole.{children_at, whole_by, whole_node, shape_of}
use Rattle.agg_evaluation.proofs.WholeLaws.{Union}
use Rattle.std.proofs.Math.Facts.{eqb_yes}
use Rattle.std.proofs.lemmas.Bool.Decides.{nat_tests}
use Rattle.list_laws.proofs.Booleans.{and_left, and_right, holds, true_is}

-- no row lies around one of none
enclosing-none : (all : List PlacedRow) (context : ℕ) → enclosing all context [] ≡ []
enclosing-none [] context = refl
enclosing-none (r ∷ all) context = elim (r.context == context) as (λ b. cond (b && false) (r ∷ enclosing all context []) (enclosing all context []) ≡ []) [ true ↦ enclosing-none all context | false ↦ enclosing-none all context ]

-- each collector with the union of its trees: over no rows it gives what the union gives of no tree
abbrev pub CountNothing : List Collector → List Union → Type 0
CountNothing [] [] = Unit {0}
CountNothing (c ∷ cs) (w ∷ ws) = (c.collect [] ≡ w []) × CountNothing cs ws
CountNothing _ _ = ⊥

children-none : (m : ℕ) (cs : List Collector) (ws : List Union) → CountNothing cs ws → map (λ c. c.collect []) cs ≡ map (λ c. c.1 (children_at [] c.0)) (enumerate_from m ws)
children-none m [] [] h = refl
children-none m [] (w ∷ ws) h = absurd h
children-none m (c ∷ cs) [] h = absurd h
children-none m (c ∷ cs) (w ∷ ws) h = λ i. h.0 i ∷ children-none (m + 1) cs ws h.1 i

-- the sizes of terms that are made for a mapping
pub positive : (m : Mapping) (top : Bool) (context : ℕ) (kinds : List Kind) (field size shard_size min_doc_count : ℕ) (order : List Order) (include : _) (exclude : _) (missing : _) (show_error : Bool)
    → T (kind_fits m top context kinds (kind.Terms field size shard_size min_doc_count order include exclude missing show_error)) → T (nat_le 1 shard_size)
positive m top context kinds field size shard_size min_doc_count order include exclude missing show_error h =
    let sizes = and_right (field_is m (λ k. option_map_or (are_probes k) include true && (are_probes k exclude && is_missing k missing)) field) (nat_le 1 size && (nat_le size shard_size && (nat_le 1 min_doc_count && orders_fit kinds order))) h in
    let least = and_left (nat_le 1 size) (nat_le size shard_size && (nat_le 1 min_doc_count && orders_fit kinds order)) sizes in
    let most = and_left (nat_le size shard_size) (nat_le 1 min_doc_count && orders_fit kinds order) (and_right (nat_le 1 size) (nat_le size shard_size && (nat_le 1 min_doc_count && orders_fit kinds order)) sizes) in
    let one : nat_le 1 size ≡ true = true_is _ least in
    let more : nat_le size shard_size ≡ true = true_is _ most in
    let there : nat_le 1 shard_size ≡ true = grind (arith, nat_tests, one, more) in
    holds _ there

trimmed-none : (kinds : List Kind) (shard_size : ℕ) (order : List Order) → T (nat_le 1 shard_size) → trimmed_node kinds shard_size order 0 [] ≡ Keyed [] 0 0 0
trimmed-none kinds zero order h = absurd h
trimmed-none kinds (suc n) order h =
    elim (0 == suc n) as (λ c. (0 == suc n) ≡ c → Keyed [] (if c then 0 else 0) (if c then 1 else 0) 0 ≡ Keyed [] 0 0 0) [
      | true ↦ λ e. let no : 0 ≡ suc n = eqb_yes (holds _ e) in let f : ⊥ = omega arith in absurd f
      | false ↦ λ e. refl
    ] refl

module _ (m : Mapping) (all : List PlacedRow) where
  module _ (cs : List Collector) (ws : List Union) (none : CountNothing cs ws) where
    kids : map (λ c. c.collect []) cs ≡ map (λ c. c.1 (children_at [] c.0)) (enumerate_from 0 ws)
    kids = children-none 0 cs ws none

    fixed-none : (ks : List Key) → Fixed (map (λ key. record { key = key; count = 0; covered = 0; children = map (λ c. c.collect []) cs }) ks) ≡ Fixed (map (λ key. record { key = key; count = 0; covered = 0; children = map (λ c. c.1 (children_at [] c.0)) (enumerate_from 0 ws) }) ks)
    fixed-none ks = λ i. Fixed (map (λ key. record { key = key; count = 0; covered = 0; children = kids i }) ks)

    node-none : (k : Kind) (context : ℕ) → T (kind_fits m false context (map (λ c. c.kind) cs) k) → node_of true all (roots all) cs k (under all (roots all) k []) ≡ whole_by ws k (shape_of k) []
    node-none (kind.Terms field size shard_size min_doc_count order include exclude missing show_error) context h =
        trimmed-none (map (λ c. c.kind) cs) shard_size order (positive m false context (map (λ c. c.kind) cs) field size shard_size min_doc_count order include exclude missing show_error h)
    node-none (kind.Histogram field interval offset min_doc_count extended hard keyed order missing) context h = refl
    node-none (kind.DateHistogram field period zone min_doc_count extended hard keyed order missing) context h = refl
    node-none (kind.Composite sources size after) context h = absurd h
    node-none kind.Global context h = absurd h
    node-none (kind.Filters names filters other) context h = fixed-none (fixed_keys (kind.Filters names filters other))
    node-none (kind.Filter query) context h = fixed-none (fixed_keys (kind.Filter query))
    node-none (kind.Missing field) context h = fixed-none (fixed_keys (kind.Missing field))
    node-none (kind.Nested inner) context h = fixed-none (fixed_keys (kind.Nested inner))
    node-none (kind.ReverseNested outer) context h =
        ap (node_of true all (roots all) cs (kind.ReverseNested outer)) (enclosing-none all outer) ∙ fixed-none (fixed_keys (kind.ReverseNested outer))
    node-none (kind.Sum field missing) context h = refl
    node-none (kind.Min field missing) context h = refl
    node-none (kind.Max field missing) context h = refl
    node-none (kind.Avg field missing) context h = refl
    node-none (kind.ValueCount field missing) context h = refl

  kinds-same : {n : _} (children : Row_of-Agg n) → map (λ (c : Collector). c.kind) (fold_aggs (collector_of true all (roots all)) children) ≡ map (λ (c : Made). c.kind) (fold_aggs (made_at m) children)
  kinds-same end_of-Agg = refl
  kinds-same (more_of-Agg (Agg' name k n children) rest) = ap (λ ks. k ∷ ks) (kinds-same rest)

  -- what a kind that is made for a mapping says of itself and of its children
  pub made-kind : (k : Kind) (children : List Made) (top : Bool) (context : ℕ) → T (is_made m k children top context) → T (kind_fits m top context (map (λ c. c.kind) children) k)
  made-kind k children top context h = and_left (kind_fits m top context (map (λ c. c.kind) children) k) ((not (is_metric k) || no_children children) && list_all (λ c. c.fits false (handed context k)) children) h

  pub made-children : (k : Kind) (children : List Made) (top : Bool) (context : ℕ) → T (is_made m k children top context) → T (list_all (λ (c : Made). c.fits false (handed context k)) children)
  made-children k children top context h =
      and_right (not (is_metric k) || no_children children) (list_all (λ (c : Made). c.fits false (handed context k)) children)
      (and_right (kind_fits m top context (map (λ c. c.kind) children) k) ((not (is_metric k) || no_children children) && list_all (λ (c : Made). c.fits false (handed context k)) children) h)

  mutual
    pub nothing : (a : Agg) (context : ℕ) → T (agg_fits m false context a) → shard_node all a [] ≡ whole_node a []
    nothing (Agg' name k n children) context h =
        node-none (fold_aggs (collector_of true all (roots all)) children) (fold_aggs (λ a. whole_by a.children a.kind (shape_of a.kind)) children)
        (each-nothing children (handed context k) (made-children k (fold_aggs (made_at m) children) false context h)) k context
        (subst (λ ks. T (kind_fits m false context ks k)) (sym (kinds-same children)) (made-kind k (fold_aggs (made_at m) children) false context h))

    pub each-nothing : {n : _} (children : Row_of-Agg n) (context : ℕ) → T (list_all (λ (c : Made). c.fits false context) (fold_aggs (made_at m) children))
        → CountNothing (fold_aggs (collector_of true all (roots all)) children) (fold_aggs (λ a. whole_by a.children a.kind (shape_of a.kind)) children)
    each-nothing end_of-Agg context h = tt
    each-nothing (more_of-Agg a rest) context h = (nothing a context (and_left _ _ h), each-nothing rest context (and_right _ _ h))
