-- What a shard without roots answers: its empty trees.
use Rattle.std.specs.Prelude.{◌≡◌, refl, ℕ, zero, suc, pos, ◌+◌, ◌≤◌, ◌-ℤ◌, ◌==◌, ◌&&◌, Bool, true, false, if◌then◌else◌, List, [], ◌∷◌, filter, length, map, nat_le, slice_get, sum_by, take, Some, None}
use Rattle.std.specs.List.{list_all, list_any}
use Rattle.std.specs.Option.{option_map_or}
use Rattle.std.proofs.Common.{sym, ◌∙◌, ap, arith}
use Rattle.std.proofs.Math.Logic.{∥∥₁_elim}
use Rattle.std.proofs.lemmas.Bool.{and_parts, leb-true}
use Rattle.std.proofs.lemmas.Bool.Decides.{nat_tests}
use Rattle.agg_model.specs.declared.key.Key.{Key}
use Rattle.agg_model.specs.declared.partial.Bucket.{Bucket}
use Rattle.agg_model.specs.declared.partial.Node.{Node, out-Node}
use Rattle.agg_model.specs.declared.partial.Node.TheVariants.{Keyed, Fixed}
use Rattle.agg_model.specs.declared.aggregation.Agg.{Agg, Agg', Row_of-Agg, end_of-Agg, more_of-Agg, out-Agg}
use Rattle.agg_model.specs.declared.aggregation.Agg.TheOpen.{Agg-F}
use Rattle.agg_model.specs.declared.aggregation.Kind.{Kind}
use Rattle.agg_model.specs.declared.aggregation.Kind.TheVariants as kind
use Rattle.agg_model.specs.declared.aggregation.Order.{Order}
use Rattle.agg_model.specs.declared.aggregation.Search.{Search}
use Rattle.agg_model.specs.declared.mapping.Mapping.{Mapping}
use Rattle.agg_evaluation.proofs.BeginLaws.{built-begins}
use Rattle.agg_evaluation.proofs.MadeSearches.{made_parts}
use Rattle.agg_evaluation.proofs.NodeForms.{out-Keyed, out-Fixed, out-Number}
use Rattle.agg_evaluation.specs.Cost.{cost, node_cost}
use Rattle.agg_evaluation.specs.Folds.{fold_aggs}
use Rattle.agg_evaluation.specs.Matching.{matches}
use Rattle.agg_evaluation.specs.QueryFits.{are_probes, field_is, query_fits}
use Rattle.agg_evaluation.specs.Rows.{PlacedRow, roots}
use Rattle.agg_evaluation.specs.SearchFits.{agg_fits, handed, is_missing, kind_fits, made_at}
use Rattle.agg_evaluation.specs.Shard.{fixed_keys, shard_answer, shard_node, trimmed_node}
use Rattle.agg_evaluation.specs.Trace.{built, global_roots, is_global, matched}
use Rattle.agg_evaluation.specs.Whole.{Shape, by_key, from_start, a_number, empty_by, empty_node, empty_result, shape_of}
use Rattle.growth_laws.specs.Amounts.{amounts, row_count}
use Rattle.growth_laws.specs.Cutting.{Cutter, cut_at, cut_bucket, cut_children, cut_keyed, cut_tree, cutter_at}
use Rattle.growth_laws.specs.Steps.{tree_after}
use Rattle.shard_columns.specs.Columns.{Columns}
use Rattle.shard_columns.specs.Made.{IsSearchFor}
use Rattle.collect_tree.proofs.Amounting.{all-amounts, last-amount}
use Rattle.collect_tree.proofs.Made.{at-place, one-tree}
use Rattle.collect_tree.proofs.Trees.{first-tree, last-tree}

abbrev begun_at : Agg-F Node → Node
begun_at a = empty_by a.children (fixed_keys a.kind) (shape_of a.kind)

abbrev none_at : List Node → Key → Bucket
none_at children k = record { key = k; count = 0; covered = 0; children = children }

-- a cut of no bucket, which keeps one at least
trimmed-none : (kinds : List Kind) (order : List Order) (shard_size : ℕ) → 1 ≤ shard_size → trimmed_node kinds shard_size order 0 [] ≡ Keyed [] 0 0 0
trimmed-none kinds order zero some = absurd (omega arith)
trimmed-none kinds order (suc n) some =
    let differs : (0 == suc n) ≡ false = grind (arith, nat_tests) in
    ap (λ full. Keyed [] (if full then 0 else 0) (if full then 1 else 0) 0) differs

buckets-cut : (cs : List Cutter) (es : List Node) → cut_children cs es ≡ es → (ks : List Key) → map (cut_bucket cs) (map (none_at es) ks) ≡ map (none_at es) ks
buckets-cut cs es same [] = refl
buckets-cut cs es same (k ∷ ks) = λ i. record { key = k; count = 0; covered = 0; children = same i } ∷ buckets-cut cs es same ks i

shape-cut : (k : Kind) (cs : List Cutter) (es : List Node) (ks : List Key) (s : Shape) → cut_keyed cs k 0 [] ≡ Keyed [] 0 0 0 → cut_children cs es ≡ es → cut_at cs k (out-Node (empty_by es ks s)) ≡ empty_by es ks s
shape-cut k cs es ks by_key none same = ap (cut_at cs k) (out-Keyed [] 0 0 0) ∙ none
shape-cut k cs es ks from_start none same = ap (cut_at cs k) (out-Fixed (map (none_at es) ks)) ∙ ap Fixed (buckets-cut cs es same ks)
shape-cut k cs es ks a_number none same = ap (cut_at cs k) (out-Number (record { count = 0; sum = pos 0; least = None; greatest = None }))

module _ (m : Mapping) where
  -- terms that are made for the mapping keep one bucket at least
  none-cut : (top : Bool) (context : ℕ) (kinds : List Kind) (k : Kind) (cs : List Cutter) → kind_fits m top context kinds k ≡ true → cut_keyed cs k 0 [] ≡ Keyed [] 0 0 0
  none-cut top context kinds (kind.Terms field size shard_size min_doc_count order include exclude missing show_error) cs fits =
      let first = and_parts (field_is m (λ k. option_map_or (are_probes k) include true && (are_probes k exclude && is_missing k missing)) field) _ fits in
      let second = and_parts (nat_le 1 size) _ first.1 in
      let third = and_parts (nat_le size shard_size) _ second.1 in
      let low = leb-true 1 size second.0 in
      let high = leb-true size shard_size third.0 in
      trimmed-none (map (λ c. c.kind) cs) order shard_size (omega (arith, low, high))
  none-cut top context kinds _ cs fits = refl

  mutual
    -- the empty tree has nothing to cut
    empty-cut : (top : Bool) (context : ℕ) (a : Agg) → agg_fits m top context a ≡ true → cut_tree a (empty_node a) ≡ empty_node a
    empty-cut top context (Agg' name k n children) fits =
        let parts = made_parts m k (fold_aggs (made_at m) children) top context fits in
        shape-cut k (fold_aggs cutter_at children) (fold_aggs begun_at children) (fixed_keys k) (shape_of k)
        (none-cut top context (map (λ c. c.kind) (fold_aggs (made_at m) children)) k (fold_aggs cutter_at children) parts.0) (each-cut (handed context k) children parts.1)

    each-cut : {n : _} (context : ℕ) (cs : Row_of-Agg n) → list_all (λ c. c.fits false context) (fold_aggs (made_at m) cs) ≡ true → cut_children (fold_aggs cutter_at cs) (fold_aggs begun_at cs) ≡ fold_aggs begun_at cs
    each-cut context end_of-Agg fits = refl
    each-cut context (more_of-Agg a rest) fits =
        let parts = and_parts (agg_fits m false context a) (list_all (λ c. c.fits false context) (fold_aggs (made_at m) rest)) fits in
        λ i. empty-cut false context a parts.0 i ∷ each-cut context rest parts.1 i

no-items : {A : Type 0} (xs : List A) → length xs ≡ 0 → xs ≡ []
no-items [] e = refl
no-items (x ∷ xs) e = absurd (omega arith)

-- what is the same at each place
same-map : {A B : Type 0} (f g : A → B) (xs : List A) → ((n : ℕ) (x : A) → slice_get xs n ≡ Some x → f x ≡ g x) → map f xs ≡ map g xs
same-map f g [] same = refl
same-map f g (x ∷ xs) same = λ i. same 0 x refl i ∷ same-map f g xs (λ n y at. same (suc n) y at) i

module _ (shard : Columns) (search : Search) (made : IsSearchFor shard search) (none : length (roots shard.rows) ≡ 0) where
  abbrev all : List PlacedRow
  all = shard.rows

  no-roots : roots all ≡ []
  no-roots = no-items (roots all) none

  no-matched : matched search all ≡ []
  no-matched = ap (filter (matches all search.query)) no-roots

  no-globals : length (global_roots search all) ≡ 0
  no-globals = elim (list_any (λ a. is_global (out-Agg a).kind) search.aggs) as (λ b. length (if b then roots all else []) ≡ 0) [ true ↦ none | false ↦ refl ]

  no-rows : row_count search all ≡ 0
  no-rows = let hits = ap (λ (rs : List PlacedRow). length rs) no-matched in let rest = no-globals in omega (arith, hits, rest)

  first-cut : (i : ℕ) (a : Agg) → slice_get search.aggs i ≡ Some a → cut_tree a (empty_node a) ≡ empty_node a
  first-cut i a there = ∥∥₁_elim made (one-tree _ _) (λ m.
      empty-cut m.0 true 0 a (at-place (agg_fits m.0 true 0) search.aggs i a (and_parts (query_fits m.0 0 search.query) (list_all (agg_fits m.0 true 0) search.aggs) m.1.1).1 there))

  rootless-node : (i : ℕ) (a : Agg) → slice_get search.aggs i ≡ Some a → empty_node a ≡ shard_node all a (matched search all)
  rootless-node i a there =
      sym (first-cut i a there) ∙ ap (cut_tree a) (sym (first-tree shard search made a)) ∙ ap (λ n. cut_tree a (tree_after search all a n)) (sym no-rows) ∙ last-tree shard search made i a there

  pub rootless-answer : empty_result search ≡ shard_answer search all
  rootless-answer =
      let hits : 0 ≡ length (matched search all) = sym (ap (λ (rs : List PlacedRow). length rs) no-matched) in
      let nodes = same-map empty_node (λ a. shard_node all a (matched search all)) search.aggs rootless-node in
      λ i. record { hits = hits i; nodes = nodes i }

  rootless-cost : cost (shard_answer search all) ≡ cost (built search all 0)
  rootless-cost = ap cost (sym rootless-answer) ∙ sym (ap (sum_by node_cost) (built-begins search all))

  -- what leads from the empty trees to the answer is the last amount
  pub rootless-amount : (bytes : ℕ) → bytes ≡ cost (built search all 0) → slice_get (amounts search all) 1 ≡ Some (pos bytes -ℤ pos (4096 + bytes))
  rootless-amount bytes is =
      let wanted : cost (shard_answer search all) ≡ bytes = rootless-cost ∙ sym is in
      let held : cost (built search all (row_count search all)) ≡ bytes = ap (λ n. cost (built search all n)) no-rows ∙ sym is in
      ap (λ n. slice_get (amounts search all) (n + 1)) (sym no-rows) ∙ last-amount search all ∙ (λ i. Some (pos (wanted i) -ℤ pos (4096 + held i)))

  pub rootless-amounts : take 2 (amounts search all) ≡ amounts search all
  rootless-amounts = ap (λ n. take (n + 1 + 1) (amounts search all)) (sym no-rows) ∙ all-amounts search all
