-- Keys may be put in any order: what is found of each key decides sorted buckets.
use Rattle.std.specs.Prelude.{◌≡◌, refl, ◌||◌, true, false, cond, T, List, [], ◌∷◌, map, Option, Some}
use Rattle.std.specs.FinMap.Entries.{find, is_sorted, is_sorted-put, find-put, same_entries}
use Rattle.std.proofs.Common.{sym, ◌∙◌, ap, subst}
use Rattle.list_laws.proofs.Booleans.{holds}
use Rattle.agg_model.specs.declared.key.Key.{Key}
use Rattle.agg_model.specs.declared.partial.Bucket.{Bucket}
use Rattle.agg_evaluation.specs.KeyOrder.{key_cmp, key_eq, has_key}
use Rattle.agg_evaluation.specs.Orders.{bucket_key}
use Rattle.agg_evaluation.specs.Rows.{PlacedRow}
use Rattle.agg_evaluation.specs.Trees.{is_ascending}
use Rattle.agg_evaluation.proofs.KeyCompare.{key_cmp_total}
use Rattle.agg_evaluation.proofs.KeyExact.{exact_keys}
use Rattle.agg_evaluation.proofs.KeyLists.{key_eq-exact}
use Rattle.growth_laws.specs.Gathering.{Gatherer, put_rows}
use Rattle.growing_tree.specs.Grouped.{AreApart}
use Rattle.growing_tree.specs.Shown.{put_all}
use Rattle.growing_tree.proofs.Arriving.{entries, next, put_rows-put, sorted-entries, buckets-entries}

module _ (rows_of : Key → List PlacedRow) (gs : List Gatherer) where
  abbrev after : Key → Option Bucket → Option Bucket
  after q o = Some (next gs (rows_of q) q o)

  sorted-put : (k : Key) (bs : List Bucket) → T (is_sorted key_cmp (entries bs)) → T (is_sorted key_cmp (entries (put_rows gs (rows_of k) k bs)))
  sorted-put k bs up = subst (λ es. T (is_sorted key_cmp es)) (sym (put_rows-put gs (rows_of k) k bs up)) (is_sorted-put key_cmp key_cmp_total k _ _ up)

  pub sorted-all : (ks : List Key) (bs : List Bucket) → T (is_sorted key_cmp (entries bs)) → T (is_sorted key_cmp (entries (put_all rows_of gs ks bs)))
  sorted-all [] bs up = up
  sorted-all (k ∷ ks) bs up = sorted-all ks (put_rows gs (rows_of k) k bs) (sorted-put k bs up)

  found-put : (k q : Key) (bs : List Bucket) → T (is_sorted key_cmp (entries bs)) → find key_cmp q (entries (put_rows gs (rows_of k) k bs)) ≡ cond (key_eq q k) (after k (find key_cmp k (entries bs))) (find key_cmp q (entries bs))
  found-put k q bs up = ap (find key_cmp q) (put_rows-put gs (rows_of k) k bs up) ∙ find-put key_cmp key_cmp_total q k _ _

  -- what is found of a key once the keys are put
  pub found-all : (ks : List Key) (q : Key) (bs : List Bucket) → AreApart ks → T (is_sorted key_cmp (entries bs))
      → find key_cmp q (entries (put_all rows_of gs ks bs)) ≡ cond (has_key q ks) (after q (find key_cmp q (entries bs))) (find key_cmp q (entries bs))
  found-all [] q bs apart up = refl
  found-all (k ∷ ks) q bs apart up =
      found-all ks q (put_rows gs (rows_of k) k bs) apart.1 (sorted-put k bs up)
      ∙ (λ i. cond (has_key q ks) (after q (found-put k q bs up i)) (found-put k q bs up i))
      ∙ elim (key_eq q k) as (λ b. key_eq q k ≡ b
      → cond (has_key q ks) (after q (cond b (after k (find key_cmp k (entries bs))) (find key_cmp q (entries bs)))) (cond b (after k (find key_cmp k (entries bs))) (find key_cmp q (entries bs)))
      ≡ cond (b || has_key q ks) (after q (find key_cmp q (entries bs))) (find key_cmp q (entries bs))) [
        | true ↦ λ e.
            let same : k ≡ q = sym (key_eq-exact q k (holds _ e)) in
            let none : has_key q ks ≡ false = ap (λ j. has_key j ks) (sym same) ∙ apart.0 in
            ap (λ b. cond b (after q (after k (find key_cmp k (entries bs)))) (after k (find key_cmp k (entries bs)))) none
            ∙ ap (λ j. after j (find key_cmp j (entries bs))) same
        | false ↦ λ e. refl
      ] refl

  -- keys in another order
  pub any-order : (ks js : List Key) (bs : List Bucket) → AreApart ks → AreApart js → ((q : Key) → has_key q ks ≡ has_key q js) → T (is_ascending (map bucket_key bs)) → put_all rows_of gs ks bs ≡ put_all rows_of gs js bs
  any-order ks js bs apart apart' same ascends =
      let up = sorted-entries bs ascends in
      let entries_are = same_entries key_cmp key_cmp_total exact_keys (entries (put_all rows_of gs ks bs)) (entries (put_all rows_of gs js bs)) (sorted-all ks bs up) (sorted-all js bs up) (λ q.
      found-all ks q bs apart up ∙ ap (λ b. cond b (after q (find key_cmp q (entries bs))) (find key_cmp q (entries bs))) (same q) ∙ sym (found-all js q bs apart' up)) in
      sym (buckets-entries (put_all rows_of gs ks bs)) ∙ ap (map (λ e. e.1)) entries_are ∙ buckets-entries (put_all rows_of gs js bs)
