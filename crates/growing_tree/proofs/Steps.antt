-- What each step of gathering comes to.
use Rattle.std.specs.Prelude.{◌≡◌, refl, ℕ, zero, suc, ℤ, false, ◌+◌, ◌<◌, List, [], ◌∷◌, ◌++◌, map, length, take, slice_get, Some, option_map, sum_by}
use Rattle.std.specs.List.{IsDistinct, AllByRecursion, list_any}
use Rattle.std.specs.Ordering.{int_eq}
use Rattle.std.proofs.Common.{sym, ◌∙◌, ap, subst, arith, add-one}
use Rattle.std.proofs.Math.ListN.{set, get_or}
use Rattle.std.proofs.lemmas.Option.{slice_get-get_or, slice_get-map}
use Rattle.list_laws.proofs.Options.{none_some, some_same}
use Rattle.agg_model.specs.declared.partial.Bucket.{Bucket}
use Rattle.agg_model.specs.declared.key.Key.{Key}
use Rattle.agg_model.specs.declared.partial.Node.{Node}
use Rattle.agg_evaluation.specs.Cost.{key_bytes, node_cost}
use Rattle.agg_evaluation.specs.KeyOrder.{key_cmp}
use Rattle.agg_evaluation.specs.Orders.{bucket_key}
use Rattle.agg_evaluation.specs.Rows.{PlacedRow}
use Rattle.agg_evaluation.specs.Shard.{sorted_by_key}
use Rattle.list_laws.proofs.Sums.{sum_by-sorted}
use Rattle.evaluation_laws.proofs.CostLaws.{bytes}
use Rattle.bucket_places.specs.Places.{IsPlaceOf, IsFoundAt, IsAddedAt}
use Rattle.bucket_places.specs.declared.places.Place.{Place}
use Rattle.bucket_places.specs.declared.places.Place.TheVariants.{Found, Added}
use Rattle.growth_laws.specs.Gathering.{Gatherer, put_rows}
use Rattle.growing_tree.specs.Decoded.{decoded_children}
use Rattle.growing_tree.specs.Shown.{put_all}
use Rattle.growing_tree.proofs.Putting.{Gathers, put-found, put-added, found-bytes, added-bytes, shown}

-- an item that is read
pub item-at : {A : Type 0} (xs : List A) (i : ℕ) (x : A) → i < length xs → x ≡ get_or xs i x → slice_get xs i ≡ Some x
item-at xs i x l e = slice_get-get_or xs i x l ∙ ap Some (sym e)

-- the first of distinct codes are distinct
first-part : (cs : List ℤ) (x : ℤ) → IsDistinct int_eq (cs ++ x ∷ []) → IsDistinct int_eq cs
unfolding IsDistinct
first-part [] x h = tt
first-part (c ∷ cs) x h = (before cs h.0, first-part cs x h.1)
  where
    before : (ds : List ℤ) → AllByRecursion (λ y. int_eq c y ≡ false) (ds ++ x ∷ []) → AllByRecursion (λ y. int_eq c y ≡ false) ds
    before [] g = tt
    before (d ∷ ds) g = (g.0, before ds g.1)

module _ {G : Type 0} (count_of : G → ℕ) (children_of : G → List Node) (gs : List Gatherer) (rows : List PlacedRow) (ds : List (Node → Node)) (key_of : ℤ → Key) (code x : ℤ) (same : x ≡ code) (cs more : List ℤ) (bs : List G) (p : Place) (at : IsPlaceOf x cs more p) (distinct : IsDistinct int_eq more) where
  -- the buckets of codes, ascending by key
  abbrev pub coded : List ℤ → List G → List Bucket
  coded codes buckets = sorted_by_key (shown count_of children_of gs rows ds key_of codes buckets)

  was-found : (place : ℕ) → p ≡ Found place → IsFoundAt x cs more place
  was-found place e = subst (IsPlaceOf x cs more) e at

  was-added : (place : ℕ) → p ≡ Added place → IsAddedAt x cs more place
  was-added place e = subst (IsPlaceOf x cs more) e at

  sorted-bytes : (ks : List ℤ) (gs : List G) → sum_by bytes (coded ks gs) ≡ sum_by bytes (shown count_of children_of [] [] ds key_of ks gs)
  sorted-bytes ks bs = sum_by-sorted bytes (λ a b. key_cmp (bucket_key a) (bucket_key b)) (shown count_of children_of [] [] ds key_of ks bs)

  pub found-buckets : ((c d : ℤ) → key_of c ≡ key_of d → c ≡ d) → (place : ℕ) (old new : G) → p ≡ Found place → place < length bs → old ≡ get_or bs place old → Gathers count_of children_of gs rows ds key_of old new
      → coded more (set bs place new) ≡ put_rows gs rows (key_of code) (coded cs bs)
  found-buckets own place old new e l f h =
      let found = was-found place e in
      ap (λ ks. coded ks (set bs place new)) found.same
      ∙ put-found count_of children_of gs rows ds key_of own code cs bs place old new (subst (IsDistinct int_eq) found.same distinct) (found.here ∙ ap Some same) (item-at bs place old l f) h

  pub found-cost : (place : ℕ) (old new : G) (added : ℕ) → p ≡ Found place → place < length bs → old ≡ get_or bs place old
      → sum_by node_cost (decoded_children ds (children_of new)) ≡ sum_by node_cost (decoded_children ds (children_of old)) + added
      → sum_by bytes (coded more (set bs place new)) ≡ sum_by bytes (coded cs bs) + added
  found-cost place old new added e l f h =
      let found = was-found place e in
      let is = ap (λ ks. sum_by bytes (coded ks (set bs place new))) found.same in
      let after = sorted-bytes cs (set bs place new) in
      let before = sorted-bytes cs bs in
      let rose = found-bytes count_of children_of gs rows ds key_of code cs bs place old new added (found.here ∙ ap Some same) (item-at bs place old l f) h in
      omega arith

  pub added-buckets : ((c d : ℤ) → key_of c ≡ key_of d → c ≡ d) → (place : ℕ) (old new : G) → p ≡ Added place → place ≡ length bs → count_of old ≡ 0 → decoded_children ds (children_of old) ≡ map (λ g. g.empty) gs → Gathers count_of children_of gs rows ds key_of old new
      → coded more (bs ++ new ∷ []) ≡ put_rows gs rows (key_of code) (coded cs bs)
  added-buckets own place old new e l none empties h =
      let at_end = was-added place e in
      let absent : list_any (int_eq code) cs ≡ false = ap (λ k. list_any (int_eq k) cs) (sym same) ∙ at_end.absent in
      ap (λ ks. coded ks (bs ++ new ∷ [])) (at_end.more ∙ ap (λ k. cs ++ k ∷ []) same)
      ∙ put-added count_of children_of gs rows ds key_of own code cs bs old new (first-part cs code (subst (IsDistinct int_eq) (at_end.more ∙ ap (λ k. cs ++ k ∷ []) same) distinct)) absent (sym l ∙ at_end.last) none empties h

  pub added-cost : (place begun child_bytes rose : ℕ) (old new : G) → p ≡ Added place → place ≡ length bs → begun ≡ 128 + key_bytes (key_of code) + child_bytes → child_bytes ≡ sum_by node_cost (decoded_children ds (children_of old))
      → sum_by node_cost (decoded_children ds (children_of new)) ≡ sum_by node_cost (decoded_children ds (children_of old)) + rose
      → sum_by bytes (coded more (bs ++ new ∷ [])) ≡ sum_by bytes (coded cs bs) + (begun + rose)
  added-cost place begun child_bytes rose old new e l f g h =
      let at_end = was-added place e in
      let is = ap (λ ks. sum_by bytes (coded ks (bs ++ new ∷ []))) (at_end.more ∙ ap (λ k. cs ++ k ∷ []) same) in
      let after = sorted-bytes (cs ++ code ∷ []) (bs ++ new ∷ []) in
      let before = sorted-bytes cs bs in
      let all = added-bytes count_of children_of gs rows ds key_of code cs bs new (sym l ∙ at_end.last) in
      omega arith

-- one more key
pub put_all-more : (rows_of : Key → List PlacedRow) (gs : List Gatherer) (ks : List Key) (k : Key) (bs : List Bucket) → put_all rows_of gs (ks ++ k ∷ []) bs ≡ put_rows gs (rows_of k) k (put_all rows_of gs ks bs)
put_all-more rows_of gs [] k bs = refl
put_all-more rows_of gs (j ∷ ks) k bs = put_all-more rows_of gs ks k (put_rows gs (rows_of j) j bs)

-- the items up to the next one
pub take-more : {A : Type 0} (xs : List A) (i : ℕ) (x : A) → slice_get xs i ≡ Some x → take (i + 1) xs ≡ take i xs ++ x ∷ []
take-more {A = A} xs i x e = ap (λ n. take n xs) (add-one i) ∙ next xs i e
  where
    next : (xs : List A) (i : ℕ) → slice_get xs i ≡ Some x → take (suc i) xs ≡ take i xs ++ x ∷ []
    next [] zero e = none_some x e
    next [] (suc i) e = none_some x e
    next (y ∷ xs) zero e = ap (λ z. z ∷ []) (some_same y x e)
    next (y ∷ xs) (suc i) e = ap (λ zs. y ∷ zs) (next xs i e)

-- an item that is read, of changed items
pub mapped-at : {A B : Type 0} (f : A → B) (xs : List A) (i : ℕ) (x : A) → i < length xs → x ≡ get_or xs i x → slice_get (map f xs) i ≡ Some (f x)
mapped-at f xs i x l e = slice_get-map f xs i ∙ ap (option_map f) (item-at xs i x l e)

-- rows at one more of the codes
pub one-more-code : (rows : List PlacedRow) (gs : List Gatherer) (key_of : ℤ → Key) (codes : List ℤ) (i : ℕ) (code x : ℤ) (old before after : List Bucket) → x ≡ code → slice_get codes i ≡ Some code
    → before ≡ put_all (λ k. rows) gs (take i (map key_of codes)) old → after ≡ put_rows gs rows (key_of x) before → after ≡ put_all (λ k. rows) gs (take (i + 1) (map key_of codes)) old
one-more-code rows gs key_of codes i code x old before after same there is put =
    put ∙ (λ j. put_rows gs rows (key_of (same j)) (is j))
    ∙ sym (ap (λ ks. put_all (λ k. rows) gs ks old) (take-more (map key_of codes) i (key_of code) (slice_get-map key_of codes i ∙ ap (option_map key_of) there))
    ∙ put_all-more (λ k. rows) gs (take i (map key_of codes)) (key_of code) old)
