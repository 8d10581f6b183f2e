-- The whole at one node keeps the laws, where the wholes of the children do.
use Rattle.std.specs.Prelude.{◌≡◌, refl, ℕ, ◌+◌, ◌-◌, ◌^◌, nat_lt, Bool, true, false, ◌&&◌, ◌||◌, List, [], ◌∷◌, ◌++◌, map, flat_map, sum_by}
use Rattle.std.specs.List.{list_all}
use Rattle.std.proofs.Common.{sym, ◌∙◌, ap, arith, zero-add, append-nil}
use Rattle.std.proofs.lemmas.Bool.Decides.{nat_tests}
use Rattle.agg_model.specs.declared.partial.Bucket.{Bucket}
use Rattle.agg_model.specs.declared.partial.Node.{Node, out-Node, roll-Node, roll-out-Node}
use Rattle.agg_model.specs.declared.partial.Node.TheOpen.{Node-F}
use Rattle.agg_model.specs.declared.partial.Node.TheVariants.{Keyed, Fixed, Number, rolls-Keyed, outs-Keyed}
use Rattle.agg_model.specs.declared.aggregation.Kind.{Kind}
use Rattle.agg_evaluation.specs.KeyOrder.{has_key}
use Rattle.agg_evaluation.specs.Orders.{bucket_key}
use Rattle.agg_evaluation.specs.Keys.{distinct_keys}
use Rattle.agg_evaluation.specs.Shard.{fixed_keys}
use Rattle.agg_evaluation.specs.Whole.{by_key, parts, parts_at, whole_by}
use Rattle.agg_evaluation.specs.Trees.{is_ascending, have_children, is_tree_at, fits_u64, node_fits, node_fits_at, bucket_fits}
use Rattle.partial_result.specs.Merged.{merged, sum_u32}
use Rattle.agg_evaluation.proofs.NodeFolds.{fold_node-Keyed}
use Rattle.partial_result.proofs.MergeLevels.{merged-Keyed}
use Rattle.partial_result.proofs.KeyLists.{ascending-distinct, distinct-ascending}
use Rattle.list_laws.proofs.Booleans.{and_first, and_second, and_both}
use Rattle.agg_evaluation.proofs.KeyLists.{has_key-distinct_keys}
use Rattle.agg_evaluation.proofs.UnionLaws.{has_key-append}
use Rattle.partial_result.proofs.ColumnLaws.{IsWhole, EachWhole, false_true}
use Rattle.partial_result.proofs.Found.{sorted-entries}
use Rattle.partial_result.proofs.Tables.{table, keys-table, table-pass, table-one}
use Rattle.partial_result.proofs.TableLaws.{bucket_passes, table-two}
use Rattle.partial_result.proofs.MetricLaws.{two_sum}

-- a node by its level
abbrev pub Level : Type 0
Level = Node-F Node Bucket

pub parts_of : (n : Node) (d : Level) → out-Node n ≡ d → parts n ≡ parts_at d
parts_of n d is = ap parts_at is

pub node_of : (n : Node) (d : Level) → out-Node n ≡ d → n ≡ roll-Node d
node_of n d is = sym (roll-out-Node n) ∙ ap roll-Node is

abbrev pub buckets_in : List Node → List Bucket
buckets_in trees = flat_map (λ t. (parts t).buckets) trees

pub all-map : (bs : List Bucket) → list_all (λ fits. fits) (map bucket_passes bs) ≡ list_all bucket_passes bs
all-map [] = refl
all-map (b ∷ bs) = ap (λ r. bucket_passes b && r) (all-map bs)

pub or_itself : (b : Bool) → b ≡ (b || b)
or_itself true = refl
or_itself false = refl

sum_u32-fitting : (m n : ℕ) → nat_lt (0 + m + n) (2 ^ 32) ≡ true → sum_u32 m n ≡ 0 + m + n
sum_u32-fitting m n h = grind (arith, nat_tests)

abbrev error_of : Node → ℕ
error_of t = (parts t).error

abbrev full_of : Node → ℕ
full_of t = (parts t).full

abbrev cut_of : Node → ℕ
cut_of t = (parts t).cut

module _ (ws : List (List Node → Node)) (tests : List (Node → Bool)) (each : EachWhole ws tests) (k : Kind) where
  abbrev keyed_table : List Bucket → List Bucket
  keyed_table bs = table ws tests each (distinct_keys (map bucket_key bs)) bs

  abbrev keyed : List Node → Node
  keyed = whole_by ws k by_key

  abbrev keyed_test : Node → Bool
  keyed_test n = is_tree_at tests (fixed_keys k) by_key (out-Node n)

  keyed-tree : (xs : List Node) → keyed_test (keyed xs) ≡ true
  keyed-tree xs =
      let bs = buckets_in xs in
      ap (is_tree_at tests (fixed_keys k) by_key) (outs-Keyed (keyed_table bs) (sum_by error_of xs) (sum_by full_of xs) (sum_by cut_of xs))
      ∙ and_both _ _ (ap is_ascending (keys-table ws tests each (distinct_keys (map bucket_key bs)) bs) ∙ ascending-distinct (map bucket_key bs)) (table-pass ws tests each (distinct_keys (map bucket_key bs)) bs)

  keyed_table-one : (bs : List Bucket) → is_ascending (map bucket_key bs) ≡ true → have_children tests bs ≡ true → keyed_table bs ≡ bs
  keyed_table-one bs up pass = ap (λ ks. table ws tests each ks bs) (distinct-ascending (map bucket_key bs) up) ∙ table-one ws tests each bs up pass

  keyed-one : (n : Node) (d : Level) → out-Node n ≡ d → is_tree_at tests (fixed_keys k) by_key d ≡ true → keyed (n ∷ []) ≡ n
  keyed-one n (Node-F.Keyed bs e f c) is pass =
      let p = parts_of n (Node-F.Keyed bs e f c) is in
      (λ i. Keyed (keyed_table (append-nil (p i).buckets i)) (zero-add (p i).error i) (zero-add (p i).full i) (zero-add (p i).cut i))
      ∙ ap (λ xs. Keyed xs e f c) (keyed_table-one bs (and_first _ _ pass) (and_second _ _ pass))
      ∙ sym (node_of n (Node-F.Keyed bs e f c) is ∙ rolls-Keyed bs e f c)
  keyed-one n (Node-F.Fixed bs) is pass = false_true pass
  keyed-one n (Node-F.Number m) is pass = false_true pass

  keyed-two : (m n : Node) (d g : Level) → out-Node m ≡ d → out-Node n ≡ g → is_tree_at tests (fixed_keys k) by_key d ≡ true → is_tree_at tests (fixed_keys k) by_key g ≡ true
      → node_fits (keyed (m ∷ n ∷ [])) ≡ true → merged n m ≡ keyed (m ∷ n ∷ [])
  keyed-two m n (Node-F.Keyed bs e f c) (Node-F.Keyed cs e' f' c') is is' pass pass' fits =
      let p = parts_of m (Node-F.Keyed bs e f c) is in
      let q = parts_of n (Node-F.Keyed cs e' f' c') is' in
      let whole_is : keyed (m ∷ n ∷ []) ≡ Keyed (keyed_table (bs ++ cs)) (0 + e + e') (0 + f + f') (0 + c + c') =
      λ i. Keyed (keyed_table ((p i).buckets ++ append-nil (q i).buckets i)) (0 + (p i).error + (q i).error) (0 + (p i).full + (q i).full) (0 + (p i).cut + (q i).cut) in
      let up = and_first _ _ pass in
      let up' = and_first _ _ pass' in
      let errors = fits_u64 (0 + e + e') in
      let fulls = nat_lt (0 + f + f') (2 ^ 32) in
      let cuts = fits_u64 (0 + c + c') in
      let below = list_all (λ fits. fits) (map bucket_passes (keyed_table (bs ++ cs))) in
      let level : (((errors && fulls) && cuts) && below) ≡ true =
      sym (fold_node-Keyed node_fits_at bucket_fits (keyed_table (bs ++ cs)) (0 + e + e') (0 + f + f') (0 + c + c')) ∙ ap node_fits (sym whole_is) ∙ fits in
      let numbers : ((errors && fulls) && cuts) ≡ true = and_first ((errors && fulls) && cuts) below level in
      let firsts : (errors && fulls) ≡ true = and_first (errors && fulls) cuts numbers in
      let buckets = table-two ws tests each (distinct_keys (map bucket_key (bs ++ cs))) bs cs (ascending-distinct (map bucket_key (bs ++ cs)))
      (λ key. has_key-distinct_keys key (map bucket_key (bs ++ cs)) ∙ ap (has_key key) (map-append bs cs) ∙ has_key-append key (map bucket_key bs) (map bucket_key cs))
      (sorted-entries bs ∙ up) (sorted-entries cs ∙ up') (and_second _ _ pass) (and_second _ _ pass')
      (sym (all-map (keyed_table (bs ++ cs))) ∙ and_second ((errors && fulls) && cuts) below level) in
      (λ i. merged ((node_of n (Node-F.Keyed cs e' f' c') is' ∙ rolls-Keyed cs e' f' c') i) ((node_of m (Node-F.Keyed bs e f c) is ∙ rolls-Keyed bs e f c) i))
      ∙ merged-Keyed cs bs e' f' c' e f c
      ∙ (λ i. Keyed (buckets i) (two_sum e e' (and_first errors fulls firsts) i) (sum_u32-fitting f f' (and_second errors fulls firsts) i) (two_sum c c' (and_second (errors && fulls) cuts numbers) i))
      ∙ sym whole_is
    where
      map-append : (bs cs : List Bucket) → map bucket_key (bs ++ cs) ≡ map bucket_key bs ++ map bucket_key cs
      map-append [] cs = refl
      map-append (b ∷ bs) cs = ap (λ xs. b.key ∷ xs) (map-append bs cs)
  keyed-two m n (Node-F.Keyed bs e f c) (Node-F.Fixed cs) is is' pass pass' fits = false_true pass'
  keyed-two m n (Node-F.Keyed bs e f c) (Node-F.Number o) is is' pass pass' fits = false_true pass'
  keyed-two m n (Node-F.Fixed bs) g is is' pass pass' fits = false_true pass
  keyed-two m n (Node-F.Number o) g is is' pass pass' fits = false_true pass

  pub keyed_is : IsWhole keyed keyed_test
  keyed_is = record {
    tree = keyed-tree;
    one = λ n pass. keyed-one n (out-Node n) refl pass;
    two = λ m n pass pass' fits. keyed-two m n (out-Node m) (out-Node n) refl refl pass pass' fits;
  }
