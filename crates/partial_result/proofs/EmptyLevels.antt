-- The empty tree of an aggregation by its kind and its children.
use Rattle.std.specs.Prelude.{◌≡◌, refl, ℕ, zero, suc, ◌+◌, List, [], ◌∷◌, ◌++◌, map}
use Rattle.std.specs.List.{range_with_len}
use Rattle.std.proofs.Common.{sym, ◌∙◌, ap, arith, add-one, add-zero, zero-add}
use Rattle.agg_model.specs.declared.key.Key.TheVariants as key
use Rattle.agg_model.specs.declared.partial.Node.{Node}
use Rattle.agg_model.specs.declared.partial.Node.TheVariants.{Fixed}
use Rattle.agg_model.specs.declared.aggregation.Agg.{Agg, Agg', out-Agg, Row_of-Agg, end_of-Agg, more_of-Agg, items-the_row-Agg, items_shown-the_row-Agg-0}
use Rattle.agg_model.specs.declared.aggregation.Agg.TheOpen.{Agg-F}
use Rattle.agg_evaluation.specs.Folds.{fold_aggs}
use Rattle.agg_evaluation.specs.Shard.{fixed_keys}
use Rattle.agg_evaluation.specs.Whole.{Shape, from_start, shape_of, empty_by, empty_node}
use Rattle.agg_evaluation.proofs.Computing.{computing}
use Rattle.partial_result.specs.Beginning.{empty_buckets_of}

abbrev step : Agg-F Node → Node
step a = empty_by a.children (fixed_keys a.kind) (shape_of a.kind)

items_are : {n : _} (row : Row_of-Agg n) → fold_aggs step row ≡ map empty_node (items-the_row-Agg n row)
items_are end_of-Agg = refl
items_are (more_of-Agg a rest) = ap (λ ns. empty_node a ∷ ns) (items_are rest)

pub empty_level : (a : Agg) → empty_node a ≡ empty_by (map empty_node (out-Agg a).children) (fixed_keys (out-Agg a).kind) (shape_of (out-Agg a).kind)
unfolding computing
empty_level (Agg' name kind n row) = ap (λ ns. empty_by ns (fixed_keys kind) (shape_of kind)) (items_are row ∙ ap (map empty_node) (sym (items_shown-the_row-Agg-0 n row)))

-- where the shape and the keys are known
pub empty_at : (a : Agg) (s : Shape) → shape_of (out-Agg a).kind ≡ s → empty_node a ≡ empty_by (map empty_node (out-Agg a).children) (fixed_keys (out-Agg a).kind) s
empty_at a s is = empty_level a ∙ ap (empty_by (map empty_node (out-Agg a).children) (fixed_keys (out-Agg a).kind)) is

buckets_at : (children : List Node) (places : List ℕ) → empty_buckets_of children places ≡ map (λ k. record { key = k; count = 0; covered = 0; children = children }) (map key.Fixed places)
buckets_at children [] = refl
buckets_at children (p ∷ ps) = ap (λ bs. record { key = key.Fixed p; count = 0; covered = 0; children = children } ∷ bs) (buckets_at children ps)

pub empty-from_start : (a : Agg) (places : List ℕ) → shape_of (out-Agg a).kind ≡ from_start → fixed_keys (out-Agg a).kind ≡ map key.Fixed places
    → Fixed (empty_buckets_of (map empty_node (out-Agg a).children) places) ≡ empty_node a
empty-from_start a places is keys =
    ap Fixed (buckets_at (map empty_node (out-Agg a).children) places)
    ∙ ap (λ ks. empty_by (map empty_node (out-Agg a).children) ks from_start) (sym keys) ∙ sym (empty_at a from_start is)

pub range-push : (a n : ℕ) → range_with_len a (n + 1) ≡ range_with_len a n ++ (a + n) ∷ []
range-push a n = ap (range_with_len a) (add-one n) ∙ next a n
  where
    next : (a n : ℕ) → range_with_len a (suc n) ≡ range_with_len a n ++ (a + n) ∷ []
    next a zero = ap (λ m. m ∷ []) (sym (add-zero a))
    next a (suc n) = ap (λ xs. a ∷ xs) (next (a + 1) n ∙ ap (λ m. range_with_len (a + 1) n ++ m ∷ []) (omega arith))

-- one more place
pub buckets-push : (children : List Node) (n : ℕ) → empty_buckets_of children (range_with_len 0 (n + 1)) ≡ empty_buckets_of children (range_with_len 0 n) ++ record { key = key.Fixed n; count = 0; covered = 0; children = children } ∷ []
buckets-push children n = ap (empty_buckets_of children) (range-push 0 n ∙ ap (λ m. range_with_len 0 n ++ m ∷ []) (zero-add n)) ∙ append (range_with_len 0 n)
  where
    append : (places : List ℕ) → empty_buckets_of children (places ++ n ∷ []) ≡ empty_buckets_of children places ++ record { key = key.Fixed n; count = 0; covered = 0; children = children } ∷ []
    append [] = refl
    append (p ∷ ps) = ap (λ bs. record { key = key.Fixed p; count = 0; covered = 0; children = children } ∷ bs) (append ps)
