-- The whole of wholes is the whole of all their trees.
use Rattle.std.specs.Prelude.{◌≡◌, refl, ℕ, zero, suc, ◌+◌, true, false, cond, T, List, [], ◌∷◌, map, filter, flat_map, sum_by, Some, slice_get}
use Rattle.std.specs.List.{cons_option}
use Rattle.std.proofs.Common.{sym, ◌∙◌, ap, subst, arith}
use Rattle.list_laws.proofs.Options.{none_some, some_same}
use Rattle.agg_model.specs.declared.key.Key.{Key}
use Rattle.agg_model.specs.declared.partial.Bucket.{Bucket}
use Rattle.agg_model.specs.declared.partial.Node.{Node}
use Rattle.agg_evaluation.specs.KeyOrder.{key_eq, has_key}
use Rattle.agg_evaluation.specs.Orders.{bucket_key, bucket_count}
use Rattle.agg_evaluation.specs.Trees.{is_ascending}
use Rattle.agg_evaluation.specs.Whole.{parts, children_at, whole_bucket}
use Rattle.agg_evaluation.proofs.KeyLists.{filter-ascending}
use Rattle.list_laws.proofs.Lists.{joined, append-nil, flat_map-flat_map, map-flat_map, filter-flat_map, filter-map, filter_map-flat_map, sum_by-flat_map, enumerated, slice_get-enumerated}

-- what gives the whole of trees
abbrev pub Union : Type 0
Union = List Node → Node

-- the union of unions is the union of all
abbrev pub Unites : Union → Type 0
Unites w = (xss : List (List Node)) → w (map w xss) ≡ w (joined xss)

abbrev pub EachUnites : List Union → Type 0
EachUnites [] = Unit {0}
EachUnites (w ∷ ws) = Unites w × EachUnites ws

unites-at : (ws : List Union) → EachUnites ws → (j : ℕ) (w : Union) → slice_get ws j ≡ Some w → Unites w
unites-at [] laws j w e = none_some w e
unites-at (v ∷ ws) laws zero w e = subst Unites (some_same v w e) laws.0
unites-at (v ∷ ws) laws (suc j) w e = unites-at ws laws.1 j w e

-- all buckets of some trees
abbrev pub tree_buckets : List Node → List Bucket
tree_buckets ts = flat_map (λ t. (parts t).buckets) ts

abbrev pub with_key : Key → List Bucket → List Bucket
with_key q bs = filter (λ b. key_eq q (bucket_key b)) bs

-- Groups of trees, each united to the buckets of some keys.
module _ (cs : List Union) (laws : EachUnites cs) (keys_of : List Node → List Key) (up : (xs : List Node) → T (is_ascending (keys_of xs))) where
  abbrev united : List Node → List Bucket
  united xs = map (whole_bucket cs (tree_buckets xs)) (keys_of xs)

  -- A key that a group has not stands in none of its buckets.
  module _ (q : Key) (missed : (xs : List Node) → has_key q (keys_of xs) ≡ false → with_key q (tree_buckets xs) ≡ []) where
    abbrev one : List Node → List Bucket
    one xs = cond (has_key q (keys_of xs)) (whole_bucket cs (tree_buckets xs) q ∷ []) []

    with_key-united : (xs : List Node) → with_key q (united xs) ≡ one xs
    with_key-united xs =
        filter-map (λ b. key_eq q (bucket_key b)) (whole_bucket cs (tree_buckets xs)) (keys_of xs)
        ∙ ap (map (whole_bucket cs (tree_buckets xs))) (filter-ascending q (keys_of xs) (up xs))
        ∙ elim (has_key q (keys_of xs)) as (λ b. map (whole_bucket cs (tree_buckets xs)) (cond b (q ∷ []) []) ≡ cond b (whole_bucket cs (tree_buckets xs) q ∷ []) []) [ true ↦ refl | false ↦ refl ]

    with_key-groups : (xss : List (List Node)) → with_key q (flat_map united xss) ≡ flat_map one xss
    with_key-groups xss = filter-flat_map (λ b. key_eq q (bucket_key b)) united xss ∙ (λ i. flat_map (λ xs. with_key-united xs i) xss)

    -- a number of a bucket that the whole adds up
    module _ (number : Bucket → ℕ) (adds : (xs : List Node) → number (whole_bucket cs (tree_buckets xs) q) ≡ sum_by number (with_key q (tree_buckets xs))) where
      sum-one : (xs : List Node) → sum_by number (one xs) ≡ sum_by number (with_key q (tree_buckets xs))
      sum-one xs =
          elim (has_key q (keys_of xs)) as (λ b. has_key q (keys_of xs) ≡ b → sum_by number (cond b (whole_bucket cs (tree_buckets xs) q ∷ []) []) ≡ sum_by number (with_key q (tree_buckets xs))) [
            | true ↦ λ e. let whole = adds xs in omega arith
            | false ↦ λ e. ap (sum_by number) (sym (missed xs e))
          ] refl

      sum-groups : (xss : List (List Node)) → sum_by number (with_key q (flat_map united xss)) ≡ sum_by number (with_key q (flat_map tree_buckets xss))
      sum-groups xss =
          ap (sum_by number) (with_key-groups xss) ∙ sum_by-flat_map number one xss ∙ (λ i. sum_by (λ xs. sum-one xs i) xss)
          ∙ sym (ap (sum_by number) (filter-flat_map (λ b. key_eq q (bucket_key b)) tree_buckets xss) ∙ sum_by-flat_map number (λ xs. with_key q (tree_buckets xs)) xss)

    -- the children of one place
    module _ (n : ℕ) (w : Union) (at : slice_get cs n ≡ Some w) where
      abbrev child_trees : List Node → List Node
      child_trees xs = children_at (with_key q (tree_buckets xs)) n

      abbrev child_groups : List Node → List (List Node)
      child_groups xs = cond (has_key q (keys_of xs)) (child_trees xs ∷ []) []

      child-whole : (xs : List Node) → slice_get (whole_bucket cs (tree_buckets xs) q).children n ≡ Some (w (child_trees xs))
      child-whole xs =
          slice_get-enumerated 0 cs (λ c. c.1 (children_at (with_key q (tree_buckets xs)) c.0)) n w at
          ∙ ap (λ m. Some (w (children_at (with_key q (tree_buckets xs)) m))) (let e : 0 + n ≡ n = omega arith in e)

      children-one : (xs : List Node) → children_at (one xs) n ≡ map w (child_groups xs)
      children-one xs =
          elim (has_key q (keys_of xs)) as (λ b. children_at (cond b (whole_bucket cs (tree_buckets xs) q ∷ []) []) n ≡ map w (cond b (child_trees xs ∷ []) [])) [
            | true ↦ ap (λ o. cons_option o []) (child-whole xs)
            | false ↦ refl
          ]

      joined-one : (xs : List Node) → joined (child_groups xs) ≡ child_trees xs
      joined-one xs =
          elim (has_key q (keys_of xs)) as (λ b. has_key q (keys_of xs) ≡ b → joined (cond b (child_trees xs ∷ []) []) ≡ child_trees xs) [
            | true ↦ λ e. append-nil (child_trees xs)
            | false ↦ λ e. ap (λ bs. children_at bs n) (sym (missed xs e))
          ] refl

      children-groups : (xss : List (List Node)) → w (children_at (with_key q (flat_map united xss)) n) ≡ w (children_at (with_key q (flat_map tree_buckets xss)) n)
      children-groups xss =
          ap w (ap (λ bs. children_at bs n) (with_key-groups xss) ∙ filter_map-flat_map (λ b. slice_get b.children n) one xss ∙ (λ i. flat_map (λ xs. children-one xs i) xss) ∙ sym (map-flat_map w child_groups xss))
          ∙ unites-at cs laws n w at (flat_map child_groups xss)
          ∙ ap w (flat_map-flat_map child_groups (λ xs. xs) xss ∙ (λ i. flat_map (λ xs. joined-one xs i) xss)
          ∙ sym (ap (λ bs. children_at bs n) (filter-flat_map (λ b. key_eq q (bucket_key b)) tree_buckets xss) ∙ filter_map-flat_map (λ b. slice_get b.children n) (λ xs. with_key q (tree_buckets xs)) xss))

    -- the bucket of the key is the same over the groups and over all trees
    pub bucket-groups : (xss : List (List Node)) → whole_bucket cs (flat_map united xss) q ≡ whole_bucket cs (flat_map tree_buckets xss) q
    bucket-groups xss =
        let counts = sum-groups bucket_count (λ xs. refl) xss in
        let covers = sum-groups (λ b. b.covered) (λ xs. refl) xss in
        let children = enumerated 0 cs (λ c. c.1 (children_at (with_key q (flat_map united xss)) c.0)) (λ c. c.1 (children_at (with_key q (flat_map tree_buckets xss)) c.0))
        (λ j w at. subst (λ n. w (children_at (with_key q (flat_map united xss)) n) ≡ w (children_at (with_key q (flat_map tree_buckets xss)) n))
        (let e : j ≡ 0 + j = omega arith in e) (children-groups j w at xss)) in
        λ i. (record { key = q; count = counts i; covered = covers i; children = children i })
