-- Where an answer leaves out no term along a path of returned buckets, no shard cut one there.
use Rattle.std.specs.Prelude.{◌≡◌, refl, ℕ, zero, suc, ◌+◌, ◌==◌, ◌&&◌, Bool, true, false, T, List, [], ◌∷◌, map, drop, find, sum_by, Option, Some, None, slice_get}
use Rattle.std.specs.List.{list_all}
use Rattle.std.specs.Option.{option_map_or}
use Rattle.std.proofs.Common.{sym, ◌∙◌, ap, subst, arith}
use Rattle.std.proofs.Math.Facts.{eqb_yes}
use Rattle.std.proofs.lemmas.List.Sums.{sum_by-cons}
use Rattle.agg_model.specs.declared.mapping.Mapping.{Mapping}
use Rattle.agg_model.specs.declared.partial.Node.{Node}
use Rattle.agg_model.specs.declared.answer.BucketAnswer.{BucketAnswer, out-BucketAnswer}
use Rattle.agg_model.specs.declared.answer.BucketAnswer.TheOpen.{NodeAnswer-F}
use Rattle.agg_model.specs.declared.answer.NodeAnswer.{NodeAnswer, out-NodeAnswer, out-roll-NodeAnswer}
use Rattle.agg_model.specs.declared.aggregation.Agg.{Agg, Agg', Row_of-Agg}
use Rattle.agg_model.specs.declared.aggregation.Kind.{Kind}
use Rattle.agg_model.specs.declared.aggregation.Kind.TheVariants as kind
use Rattle.agg_model.specs.declared.aggregation.Order.{Order}
use Rattle.agg_model.specs.declared.aggregation.Search.{Search}
use Rattle.agg_evaluation.specs.Folds.{fold_aggs}
use Rattle.agg_evaluation.specs.Groups.{all_keys, under}
use Rattle.agg_evaluation.specs.KeyOrder.{key_eq}
use Rattle.agg_evaluation.specs.Keys.{distinct_keys}
use Rattle.agg_evaluation.specs.Matching.{matched_roots}
use Rattle.agg_evaluation.specs.Orders.{bucket_cmp, bucket_count, bucket_key}
use Rattle.agg_evaluation.specs.QueryFits.{query_fits}
use Rattle.agg_evaluation.specs.Rows.{PlacedRow, roots}
use Rattle.agg_evaluation.specs.SearchFits.{agg_fits, handed, search_fits}
use Rattle.agg_evaluation.specs.Shard.{Collector, bucket_of, collector_of, node_of, page}
use Rattle.agg_evaluation.specs.TrueCounts.{BucketPath, children_of, group_in}
use Rattle.agg_evaluation.specs.Whole.{Parts, by_key, parts, parts_at, shape_of, whole_bucket, whole_by}
use Rattle.agg_evaluation.proofs.Computing.{computing}
use Rattle.agg_evaluation.proofs.NodeForms.{out-Keyed, out-Fixed, out-Number}
use Rattle.agg_evaluation.proofs.WholeLaws.{Union, tree_buckets}
use Rattle.list_laws.specs.Sorting.{sorted}
use Rattle.list_laws.proofs.Booleans.{and_left, and_right, both, true_is}
use Rattle.list_laws.proofs.Lists.{sum_by-map}
use Rattle.list_laws.proofs.Options.{none_some}
use Rattle.agg_spec.specs.Filling.{frequent}
use Rattle.agg_spec.specs.Final.{Finisher, finish_at, finish_each, finisher, finisher_of, terms_answer}
use Rattle.count_laws.specs.Paths.{answer_of_shards, returns, whole_of_shards}
use Rattle.count_laws.specs.ReturnedPaths.{answers_below, bucket_behind, is_returned, is_returned_at, shows_all}
use Rattle.count_laws.specs.TermsSums.{answer_of_rows, whole_of_rows}
use Rattle.count_laws.proofs.Descent.{answer-at-top, behind-whole, fit-at, fit-children, kind_at}
use Rattle.count_laws.proofs.Finished.{finished-at}
use Rattle.count_laws.proofs.Reached.{below-returned, returned-from}
use Rattle.count_laws.proofs.Steps.{Answer, Handed}

sum-none : {A : Type 0} (f : A → ℕ) → ((x : A) → f x ≡ 0) → (xs : List A) → sum_by f xs ≡ 0
sum-none f h [] = refl
sum-none f h (x ∷ xs) = omega (arith, h x, sum-none f h xs, sum_by-cons f x xs)

-- what the shards cut is part of what is left out
cut-left_out : (name : List ℕ) (fs : List Finisher) (size min_doc_count : ℕ) (order : List Order) (p : Parts) → (out-NodeAnswer (terms_answer name fs size min_doc_count order p)).other ≡ 0 → p.cut ≡ 0
cut-left_out name fs size min_doc_count order p e =
    let other : (out-NodeAnswer (terms_answer name fs size min_doc_count order p)).other
    ≡ p.cut + sum_by bucket_count (drop size (sorted (bucket_cmp (map (λ (c : Finisher). c.kind) fs) order) (frequent min_doc_count p.buckets))) =
    ap (λ (l : NodeAnswer-F BucketAnswer NodeAnswer). l.other) (out-roll-NodeAnswer _) in
    omega (arith, e, other)

module _ (name : List ℕ) {n : _} (children : Row_of-Agg n) (ss : List Handed) where
  abbrev cs : Handed → List Collector
  cs s = fold_aggs (collector_of true s.0 (roots s.0)) children

  abbrev unions : List Union
  unions = fold_aggs (λ a. whole_by a.children a.kind (shape_of a.kind)) children

  abbrev tree : Kind → Handed → Node
  tree k s = node_of true s.0 (roots s.0) (cs s) k (under s.0 (roots s.0) k s.1)

  -- shards that cut nothing
  keyed-none : (k : Kind) → ((s : Handed) → (parts (tree k s)).cut ≡ 0) → (parts (whole_by unions k by_key (map (tree k) ss))).cut ≡ 0
  keyed-none k h =
      ap (λ l. (parts_at l).cut) (out-Keyed (map (whole_bucket unions (tree_buckets (map (tree k) ss))) (distinct_keys (map bucket_key (tree_buckets (map (tree k) ss))))) _ _ _)
      ∙ sum_by-map (λ t. (parts t).cut) (tree k) ss ∙ sum-none (λ s. (parts (tree k s)).cut) h ss

  left_out-kind : (k : Kind) → (out-NodeAnswer (finish_at name (fold_aggs finisher_of children) k (parts (whole_by unions k (shape_of k) (map (tree k) ss))))).other ≡ 0
      → (parts (whole_by unions k (shape_of k) (map (tree k) ss))).cut ≡ 0
  left_out-kind (kind.Terms field size shard_size min_doc_count order include exclude missing show_error) e =
      let k = kind.Terms field size shard_size min_doc_count order include exclude missing show_error in
      cut-left_out name (fold_aggs finisher_of children) size min_doc_count order (parts (whole_by unions k by_key (map (tree k) ss))) e
  left_out-kind (kind.Histogram field interval offset min_doc_count extended hard keyed order missing) e =
      let k = kind.Histogram field interval offset min_doc_count extended hard keyed order missing in
      keyed-none k (λ s. ap (λ l. (parts_at l).cut) (out-Keyed (map (bucket_of true s.0 (roots s.0) k (cs s) s.1) (all_keys s.0 k s.1)) 0 0 0))
  left_out-kind (kind.DateHistogram field period zone min_doc_count extended hard keyed order missing) e =
      let k = kind.DateHistogram field period zone min_doc_count extended hard keyed order missing in
      keyed-none k (λ s. ap (λ l. (parts_at l).cut) (out-Keyed (map (bucket_of true s.0 (roots s.0) k (cs s) s.1) (all_keys s.0 k s.1)) 0 0 0))
  left_out-kind (kind.Composite sources size after) e =
      let k = kind.Composite sources size after in
      keyed-none k (λ s. ap (λ l. (parts_at l).cut) (out-Keyed (map (bucket_of true s.0 (roots s.0) k (cs s) s.1) (page sources size after (all_keys s.0 k s.1))) 0 0 0))
  left_out-kind (kind.Filters names filters other) e = ap (λ l. (parts_at l).cut) (out-Fixed _)
  left_out-kind (kind.Filter query) e = ap (λ l. (parts_at l).cut) (out-Fixed _)
  left_out-kind (kind.Missing field) e = ap (λ l. (parts_at l).cut) (out-Fixed _)
  left_out-kind kind.Global e = ap (λ l. (parts_at l).cut) (out-Fixed _)
  left_out-kind (kind.Nested inner) e = ap (λ l. (parts_at l).cut) (out-Fixed _)
  left_out-kind (kind.ReverseNested outer) e = ap (λ l. (parts_at l).cut) (out-Fixed _)
  left_out-kind (kind.Sum field missing) e = ap (λ l. (parts_at l).cut) (out-Number _)
  left_out-kind (kind.Min field missing) e = ap (λ l. (parts_at l).cut) (out-Number _)
  left_out-kind (kind.Max field missing) e = ap (λ l. (parts_at l).cut) (out-Number _)
  left_out-kind (kind.Avg field missing) e = ap (λ l. (parts_at l).cut) (out-Number _)
  left_out-kind (kind.ValueCount field missing) e = ap (λ l. (parts_at l).cut) (out-Number _)

none-left_out : (a : Agg) (ss : List Handed) → (out-NodeAnswer (answer_of_rows a ss)).other ≡ 0 → (parts (whole_of_rows a ss)).cut ≡ 0
unfolding computing
none-left_out (Agg' name k n children) ss e = left_out-kind name children ss k e

finished-none : (aggs : List Agg) (ns : List Node) (j : ℕ) → slice_get aggs j ≡ None → slice_get (finish_each (map finisher aggs) ns) j ≡ None
finished-none [] ns j e = refl
finished-none (b ∷ bs) [] j e = refl
finished-none (b ∷ bs) (n ∷ ns) zero e = none_some b (sym e)
finished-none (b ∷ bs) (n ∷ ns) (suc j) e = finished-none bs ns j e

module _ (m : Mapping) where
  abbrev Fit : Bool → ℕ → List Agg → Type 0
  Fit top context aggs = T (list_all (agg_fits m top context) aggs)

  shown : (path : BucketPath) (top : Bool) (context : ℕ) (aggs : List Agg) (nodes : List Node) (ss : List Handed) → Fit top context aggs → Answer aggs nodes ss
      → T (shows_all (finish_each (map finisher aggs) nodes) path) → T (is_returned aggs nodes path)
  shown [] top context aggs nodes ss fit answers h = tt
  shown (step ∷ path) top context aggs nodes ss fit answers h = by (shown path false) (slice_get aggs step.0) refl
    where
      printed : List NodeAnswer
      printed = finish_each (map finisher aggs) nodes

      shows : Option NodeAnswer → Bool
      shows o = option_map_or (λ n. ((out-NodeAnswer n).other == 0) && returns step.1 n) o false

      first : T (shows (slice_get printed step.0))
      first = and_left (shows (slice_get printed step.0)) (shows_all (answers_below printed step) path) h

      rest : T (shows_all (answers_below printed step) path)
      rest = and_right (shows (slice_get printed step.0)) (shows_all (answers_below printed step) path) h

      by : ((context : ℕ) (aggs : List Agg) (nodes : List Node) (ss : List Handed) → Fit false context aggs → Answer aggs nodes ss
          → T (shows_all (finish_each (map finisher aggs) nodes) path) → T (is_returned aggs nodes path))
          → (o : Option Agg) → slice_get aggs step.0 ≡ o
          → T (option_map_or (λ a. option_map_or (λ n. is_returned_at a n step.1 && is_returned (children_of a) (bucket_behind a n step.1).children path) (slice_get nodes step.0) false) o false)
      by later None e = absurd (subst (λ o. T (shows o)) (finished-none aggs nodes step.0 e) first)
      by later (Some b) e =
          let node = answers step.0 b e in
          let w = whole_of_rows b ss in
          let answer = answer_of_rows b ss in
          let behind = (bucket_behind b w step.1).children in
          let at : slice_get printed step.0 ≡ Some answer = finished-at aggs nodes step.0 b w e node in
          let tests = subst (λ o. T (shows o)) at first in
          let none = none-left_out b ss (eqb_yes (and_left ((out-NodeAnswer answer).other == 0) (returns step.1 answer) tests)) in
          let there = true_is _ (and_right ((out-NodeAnswer answer).other == 0) (returns step.1 answer) tests) in
          let here = returned-from b step.1 ss none there in
          let made = fit-at m top context aggs step.0 b fit e in
          let below_are : answers_below printed step ≡ finish_each (map finisher (children_of b)) behind =
          ap (λ o. option_map_or (λ n. option_map_or (λ b. (out-BucketAnswer b).children) (find (λ b. key_eq step.1 (out-BucketAnswer b).key) (out-NodeAnswer n).buckets) []) o []) at
          ∙ below-returned b step.1 ss there in
          let later_steps = later (handed context (kind_at b)) (children_of b) behind (map (λ s. (s.0, group_in s.0 b s.1 step.1)) ss) (fit-children m top context b made) (behind-whole m top context b step.1 ss made here)
          (subst (λ ns. T (shows_all ns path)) below_are rest) in
          subst (λ o. T (option_map_or (λ n. is_returned_at b n step.1 && is_returned (children_of b) (bucket_behind b n step.1).children path) o false)) (sym node)
          (both (is_returned_at b w step.1) (is_returned (children_of b) behind path) here later_steps)

  pub answer-shows : (search : Search) (shards : List (List PlacedRow)) (path : BucketPath) → T (search_fits m search) → T (shows_all (answer_of_shards search shards).nodes path)
      → T (is_returned search.aggs (whole_of_shards search shards).nodes path)
  answer-shows search shards path fit shows =
      shown path true 0 search.aggs (whole_of_shards search shards).nodes (map (λ all. (all, matched_roots all search.query)) shards)
      (and_right (query_fits m 0 search.query) (list_all (agg_fits m true 0) search.aggs) fit) (answer-at-top search shards) shows
