-- Along a path of returned buckets on which no terms were cut, an answer has at each level the answers to the rows there, also
-- below a bucket that fills a gap. Where no term is cut at its end, the buckets there have their true counts.
use Rattle.std.specs.Prelude.{◌≡◌, refl, ℕ, ◌==◌, ◌&&◌, Bool, true, false, T, List, [], ◌∷◌, ◌++◌, map, find, length, sum_by, Option, Some, None, slice_get, unwrap_or}
use Rattle.std.specs.List.{AllByRecursion, list_all}
use Rattle.std.specs.Option.{option_map_or}
use Rattle.std.proofs.Common.{sym, ◌∙◌, ap, subst}
use Rattle.agg_model.specs.declared.mapping.Mapping.{Mapping}
use Rattle.agg_model.specs.declared.key.Key.{Key}
use Rattle.agg_model.specs.declared.partial.Node.{Node}
use Rattle.agg_model.specs.declared.answer.BucketAnswer.{out-BucketAnswer}
use Rattle.agg_model.specs.declared.answer.NodeAnswer.{NodeAnswer, out-NodeAnswer}
use Rattle.agg_model.specs.declared.aggregation.Agg.{Agg, Agg'}
use Rattle.agg_model.specs.declared.aggregation.Kind.{Kind}
use Rattle.agg_model.specs.declared.aggregation.Search.{Search}
use Rattle.agg_evaluation.specs.Folds.{fold_aggs}
use Rattle.agg_evaluation.specs.KeyOrder.{key_eq, has_key}
use Rattle.agg_evaluation.specs.Matching.{matched_roots}
use Rattle.agg_evaluation.specs.Orders.{bucket_count}
use Rattle.agg_evaluation.specs.QueryFits.{query_fits}
use Rattle.agg_evaluation.specs.Rows.{PlacedRow}
use Rattle.agg_evaluation.specs.SearchFits.{agg_fits, handed, search_fits}
use Rattle.agg_evaluation.specs.Shard.{shard_node}
use Rattle.agg_evaluation.specs.TrueCounts.{BucketPath, aggs_at, answered_rows, children_of, group_in, rows_at, true_count}
use Rattle.agg_evaluation.specs.Whole.{Shape, parts, shape_of, whole_bucket, whole_by}
use Rattle.agg_evaluation.proofs.Computing.{computing}
use Rattle.agg_evaluation.proofs.WholeLaws.{Union, tree_buckets}
use Rattle.list_laws.proofs.Booleans.{and_left, and_right, both, holds, true_is}
use Rattle.list_laws.proofs.Each.{each-mapped}
use Rattle.list_laws.proofs.Lists.{map-map, sum_by-map}
use Rattle.list_laws.proofs.Options.{none_some}
use Rattle.agg_spec.specs.Filling.{bucket_at}
use Rattle.agg_spec.specs.Final.{Finisher, empty_bucket, finish_each, finisher, finisher_of}
use Rattle.count_laws.specs.Paths.{answer_of_shards, answered_by_shard, returns, whole_of_shards}
use Rattle.count_laws.specs.ReturnedPaths.{answers_at, answers_below, bucket_behind, is_returned, is_returned_at}
use Rattle.count_laws.specs.TermsSums.{answer_of_rows, whole_of_rows}
use Rattle.count_laws.proofs.AtPaths.{rows-one_more}
use Rattle.count_laws.proofs.Chosen.{IsMade, chosen-below, chosen-counts, each-both, each-returned, each-there}
use Rattle.count_laws.proofs.Descent.{answer-at-top, behind-counts, behind-whole, finishers-listed, fit-at, fit-children, keys_at, kind_at, same-handed, whole-are}
use Rattle.count_laws.proofs.Finished.{finished-at}
use Rattle.count_laws.proofs.Steps.{Answer, Handed, find-whole}

-- each bucket of a whole is the one of its key
whole-own : (fs : List Finisher) (ws : List Union) (k : Kind) (shape : Shape) (ts : List Node)
    → AllByRecursion (IsMade fs (parts (whole_by ws k shape ts)).buckets) (parts (whole_by ws k shape ts)).buckets
whole-own fs ws k shape ts =
    let bs = tree_buckets ts in
    let ks = keys_at shape k bs in
    subst (λ all. AllByRecursion (IsMade fs all) all) (sym (whole-are ws k shape ts))
    (each-mapped (λ j. has_key j ks ≡ true) (IsMade fs (map (whole_bucket ws bs) ks)) (whole_bucket ws bs)
    (λ j there. sym (ap (λ o. unwrap_or o (empty_bucket fs j)) (find-whole ws bs j ks there))) ks (each-there ks))

-- what an answer has below a returned bucket is finished of what stands behind it
pub below-returned : (a : Agg) (q : Key) (ss : List Handed) → returns q (answer_of_rows a ss) ≡ true
    → option_map_or (λ b. (out-BucketAnswer b).children) (find (λ b. key_eq q (out-BucketAnswer b).key) (out-NodeAnswer (answer_of_rows a ss)).buckets) []
    ≡ finish_each (map finisher (children_of a)) (bucket_behind a (whole_of_rows a ss) q).children
unfolding computing
below-returned (Agg' name k n children) q ss there =
    let a = Agg' name k n children in
    let fs = fold_aggs finisher_of children in
    let ws = fold_aggs (λ a. whole_by a.children a.kind (shape_of a.kind)) children in
    let p = parts (whole_of_rows a ss) in
    chosen-below name fs p (whole-own fs ws k (shape_of k) (map (λ s. shard_node s.0 a s.1) ss)) k q there
    ∙ ap (λ fs. finish_each fs (bucket_at (empty_bucket fs) p.buckets q).children) (sym (finishers-listed children))

-- and so its counts
counts-behind : (a : Agg) (ss : List Handed)
    → AllByRecursion (λ b. (out-BucketAnswer b).count ≡ bucket_count (bucket_behind a (whole_of_rows a ss) (out-BucketAnswer b).key)) (out-NodeAnswer (answer_of_rows a ss)).buckets
unfolding computing
counts-behind (Agg' name k n children) ss =
    let a = Agg' name k n children in
    let fs = fold_aggs finisher_of children in
    let ws = fold_aggs (λ a. whole_by a.children a.kind (shape_of a.kind)) children in
    let p = parts (whole_of_rows a ss) in
    subst (λ fs. AllByRecursion (λ b. (out-BucketAnswer b).count ≡ bucket_count (bucket_at (empty_bucket fs) p.buckets (out-BucketAnswer b).key)) (out-NodeAnswer (answer_of_rows a ss)).buckets) (sym (finishers-listed children))
    (chosen-counts name (fold_aggs finisher_of children) p (whole-own fs ws k (shape_of k) (map (λ s. shard_node s.0 a s.1) ss)) k)

returned-and : (a : Agg) (q : Key) (ss : List Handed) → T (is_returned_at a (whole_of_rows a ss) q) → returns q (answer_of_rows a ss) ≡ true
returned-and a q ss h = true_is _ (and_right ((parts (whole_of_rows a ss)).cut == 0) (returns q (answer_of_rows a ss)) h)

pub returned-from : (a : Agg) (q : Key) (ss : List Handed) → (parts (whole_of_rows a ss)).cut ≡ 0 → returns q (answer_of_rows a ss) ≡ true → T (is_returned_at a (whole_of_rows a ss) q)
returned-from a q ss uncut there = both ((parts (whole_of_rows a ss)).cut == 0) (returns q (answer_of_rows a ss)) (subst (λ n. T (n == 0)) (sym uncut) tt) (holds _ there)

-- where no term is cut each returned bucket counts all rows of its key
node-counts : (m : Mapping) (top : Bool) (context : ℕ) (a : Agg) (ss : List Handed) → T (agg_fits m top context a) → (parts (whole_of_rows a ss)).cut ≡ 0
    → AllByRecursion (λ b. (out-BucketAnswer b).count ≡ sum_by (λ s. length (group_in s.0 a s.1 (out-BucketAnswer b).key)) ss) (out-NodeAnswer (answer_of_rows a ss)).buckets
node-counts m top context a ss fit uncut =
    each-both (λ b. (out-BucketAnswer b).count ≡ bucket_count (bucket_behind a (whole_of_rows a ss) (out-BucketAnswer b).key)) (λ b. returns (out-BucketAnswer b).key (answer_of_rows a ss) ≡ true)
    (λ b. (out-BucketAnswer b).count ≡ sum_by (λ s. length (group_in s.0 a s.1 (out-BucketAnswer b).key)) ss)
    (λ b counted there. counted ∙ behind-counts m top context a (out-BucketAnswer b).key ss fit (returned-from a (out-BucketAnswer b).key ss uncut there))
    (out-NodeAnswer (answer_of_rows a ss)).buckets (counts-behind a ss) (each-returned (answer_of_rows a ss))

module _ (m : Mapping) where
  abbrev Fit : Bool → ℕ → List Agg → Type 0
  Fit top context aggs = T (list_all (agg_fits m top context) aggs)

  abbrev reached : List Agg → List Node → BucketPath → ℕ → Option NodeAnswer
  reached aggs nodes path place = slice_get (answers_at (finish_each (map finisher aggs) nodes) path) place

  along : (path : BucketPath) (top : Bool) (context : ℕ) (aggs : List Agg) (nodes : List Node) (ss : List Handed) → Fit top context aggs → Answer aggs nodes ss → T (is_returned aggs nodes path)
      → (place : ℕ) (a : Agg) → slice_get (aggs_at aggs path) place ≡ Some a → reached aggs nodes path place ≡ Some (answer_of_rows a (map (λ s. (s.0, rows_at s.0 aggs s.1 path)) ss))
  along [] top context aggs nodes ss fit answers h = λ place a at.
      finished-at aggs nodes place a (whole_of_rows a ss) at (answers place a at) ∙ ap (λ rows. Some (answer_of_rows a rows)) (sym (same-handed ss))
  along (step ∷ path) top context aggs nodes ss fit answers h = by (along path false) (slice_get aggs step.0) refl h
    where
      by : ((context : ℕ) (aggs : List Agg) (nodes : List Node) (ss : List Handed) → Fit false context aggs → Answer aggs nodes ss → T (is_returned aggs nodes path)
          → (place : ℕ) (a : Agg) → slice_get (aggs_at aggs path) place ≡ Some a → reached aggs nodes path place ≡ Some (answer_of_rows a (map (λ s. (s.0, rows_at s.0 aggs s.1 path)) ss)))
          → (o : Option Agg) → slice_get aggs step.0 ≡ o
          → T (option_map_or (λ a. option_map_or (λ n. is_returned_at a n step.1 && is_returned (children_of a) (bucket_behind a n step.1).children path) (slice_get nodes step.0) false) o false)
          → (place : ℕ) (a : Agg) → slice_get (option_map_or (λ a. aggs_at (children_of a) path) o []) place ≡ Some a
          → reached aggs nodes (step ∷ path) place ≡ Some (answer_of_rows a (map (λ s. (s.0, option_map_or (λ a. rows_at s.0 (children_of a) (group_in s.0 a s.1 step.1) path) o [])) ss))
      by later None e h place a at = absurd h
      by later (Some b) e h place a at =
          let node = answers step.0 b e in
          let w = whole_of_rows b ss in
          let behind = (bucket_behind b w step.1).children in
          let steps = subst (λ o. T (option_map_or (λ n. is_returned_at b n step.1 && is_returned (children_of b) (bucket_behind b n step.1).children path) o false)) node h in
          let here = and_left (is_returned_at b w step.1) (is_returned (children_of b) behind path) steps in
          let rest = and_right (is_returned_at b w step.1) (is_returned (children_of b) behind path) steps in
          let made = fit-at m top context aggs step.0 b fit e in
          let below_are : answers_below (finish_each (map finisher aggs) nodes) step ≡ finish_each (map finisher (children_of b)) behind =
          ap (λ o. option_map_or (λ n. option_map_or (λ b. (out-BucketAnswer b).children) (find (λ b. key_eq step.1 (out-BucketAnswer b).key) (out-NodeAnswer n).buckets) []) o []) (finished-at aggs nodes step.0 b w e node)
          ∙ below-returned b step.1 ss (returned-and b step.1 ss here) in
          ap (λ ns. slice_get (answers_at ns path) place) below_are
          ∙ later (handed context (kind_at b)) (children_of b) behind (map (λ s. (s.0, group_in s.0 b s.1 step.1)) ss) (fit-children m top context b made) (behind-whole m top context b step.1 ss made here) rest place a at
          ∙ ap (λ rows. Some (answer_of_rows a rows)) (map-map (λ s. (s.0, rows_at s.0 (children_of b) s.1 path)) (λ s. (s.0, group_in s.0 b s.1 step.1)) ss)

  -- an aggregation at the end of a path is made for the mapping
  pub record IsMadeAt (a : Agg) : Type 0 where
    pub top : Bool
    pub context : ℕ
    pub fit : T (agg_fits m top context a)

  made-at : (path : BucketPath) (top : Bool) (context : ℕ) (aggs : List Agg) → Fit top context aggs → (place : ℕ) (a : Agg) → slice_get (aggs_at aggs path) place ≡ Some a → IsMadeAt a
  made-at [] top context aggs fit place a at = record { top = top; context = context; fit = fit-at m top context aggs place a fit at }
  made-at (step ∷ path) top context aggs fit place a at = by (made-at path false) (slice_get aggs step.0) refl at
    where
      by : ((context : ℕ) (aggs : List Agg) → Fit false context aggs → (place : ℕ) (a : Agg) → slice_get (aggs_at aggs path) place ≡ Some a → IsMadeAt a)
          → (o : Option Agg) → slice_get aggs step.0 ≡ o → slice_get (option_map_or (λ a. aggs_at (children_of a) path) o []) place ≡ Some a → IsMadeAt a
      by later None e at = none_some a at
      by later (Some b) e at = later (handed context (kind_at b)) (children_of b) (fit-children m top context b (fit-at m top context aggs step.0 b fit e)) place a at

module _ (m : Mapping) (search : Search) (shards : List (List PlacedRow)) (fit : T (search_fits m search)) where
  abbrev top-fit : T (list_all (agg_fits m true 0) search.aggs)
  top-fit = and_right (query_fits m 0 search.query) (list_all (agg_fits m true 0) search.aggs) fit

  abbrev all_handed : List Handed
  all_handed = map (λ all. (all, matched_roots all search.query)) shards

  -- what an answer has at the end of a path
  pub answer-reached : (path : BucketPath) (place : ℕ) (a : Agg) → T (is_returned search.aggs (whole_of_shards search shards).nodes path) → slice_get (aggs_at search.aggs path) place ≡ Some a
      → slice_get (answers_at (answer_of_shards search shards).nodes path) place ≡ Some (answer_of_rows a (answered_by_shard search path shards))
  answer-reached path place a returned at =
      along m path true 0 search.aggs (whole_of_shards search shards).nodes all_handed top-fit (answer-at-top search shards) returned place a at
      ∙ ap (λ ss. Some (answer_of_rows a ss)) (map-map (λ s. (s.0, rows_at s.0 search.aggs s.1 path)) (λ all. (all, matched_roots all search.query)) shards)

  -- the counts there, where no term is cut there either
  pub counts-reached : (path : BucketPath) (place : ℕ) (a : Agg) → slice_get (aggs_at search.aggs path) place ≡ Some a → (parts (whole_of_rows a (answered_by_shard search path shards))).cut ≡ 0
      → AllByRecursion (λ b. (out-BucketAnswer b).count ≡ true_count shards search (path ++ (place, (out-BucketAnswer b).key) ∷ [])) (out-NodeAnswer (answer_of_rows a (answered_by_shard search path shards))).buckets
  counts-reached path place a at uncut =
      let made = made-at m path true 0 search.aggs top-fit place a at in
      let here = answered_by_shard search path shards in
      subst (λ (f : Key → ℕ). AllByRecursion (λ b. (out-BucketAnswer b).count ≡ f (out-BucketAnswer b).key) (out-NodeAnswer (answer_of_rows a here)).buckets)
      (λ i key. (sum_by-map (λ (s : Handed). length (group_in s.0 a s.1 key)) (λ all. (all, answered_rows search path all)) shards
      ∙ (λ j. sum_by (λ all. length (sym (rows-one_more all path search.aggs (matched_roots all search.query) place key a at) j)) shards)) i)
      (node-counts m made.top made.context a here made.fit uncut)
