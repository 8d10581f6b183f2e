-- What a page becomes: nothing, a bucket with more rows, or one more bucket and maybe one less.
use Rattle.std.specs.Prelude.{◌≡◌, refl, ℕ, zero, suc, ◌+◌, ◌≤◌, ◌<◌, Bool, true, false, not, ◌&&◌, ◌||◌, nat_le, T, List, [], ◌∷◌, ◌++◌, length, map, take, drop, Option, Some, None, option_to_list, is_some, slice_get, sum_by}
use Rattle.std.specs.List.{list_all, AllByRecursion}
use Rattle.std.specs.Option.{option_map_or}
use Rattle.std.specs.Ordering.{is_lt}
use Rattle.std.proofs.Common.{get_or, sym, ◌∙◌, ap, subst, arith}
use Rattle.std.proofs.Math.ListN.{set}
use Rattle.std.proofs.lemmas.Bool.{or_parts, true≢false}
use Rattle.std.proofs.lemmas.Bool.Decides.{nat_tests}
use Rattle.std.proofs.lemmas.List.Sums.{sum_by-append, sum_by-cons}
use Rattle.agg_model.specs.declared.aggregation.CompositeSource.{CompositeSource}
use Rattle.agg_model.specs.declared.aggregation.Kind.{Kind}
use Rattle.agg_model.specs.declared.key.Key.{Key}
use Rattle.agg_model.specs.declared.partial.Bucket.{Bucket}
use Rattle.agg_model.specs.declared.partial.Node.{Node}
use Rattle.agg_evaluation.specs.CompositeKeys.{is_composite_of}
use Rattle.agg_evaluation.specs.KeyOrder.{has_key, key_eq}
use Rattle.agg_evaluation.specs.Orders.{bucket_key}
use Rattle.agg_evaluation.specs.Rows.{PlacedRow}
use Rattle.agg_evaluation.specs.Shard.{sorted_by_key}
use Rattle.composite_agg.specs.FirstPages.{empty_page, is_composite, page_cmp}
use Rattle.composite_page.specs.Pages.{is_beyond_any}
use Rattle.composite_agg.specs.InOrder.{IsInOrder, all_before, all_behind}
use Rattle.composite_agg.proofs.PageSteps.{differs}
use Rattle.composite_agg.proofs.Steps.{take-whole}
use Rattle.growth_laws.specs.BucketBytes.{bucket_bytes}
use Rattle.growth_laws.specs.Gathering.{Gatherer, gathered_bucket, kept_buckets, put_rows}
use Rattle.list_laws.proofs.Booleans.{and_first, and_left, and_right, and_second, both, holds}
use Rattle.list_laws.proofs.Lists.{append-nil, sum_by-map}
use Rattle.list_laws.proofs.Options.{none_some, some_same}
use Rattle.growing_page.specs.GrowingPages.{AreKept, IsCosted, IsFilled, held_key, is_refused, shown, shown_all, sources_of}
use Rattle.growing_page.specs.declared.page.Held.{Held}
use Rattle.composite_agg.proofs.InOrder.{absent, all-insert, all-map, all-take, order-insert, order-map, order-take}
use Rattle.growing_page.proofs.Putting.{AreSorted, fresh, put-before, put-entered, put-held, put-last, take-front}

-- ---- lists

pub length-mapped : {A B : Type 0} (f : A → B) (xs : List A) → length (map f xs) ≡ length xs
length-mapped f [] = refl
length-mapped f (x ∷ xs) = ap suc (length-mapped f xs)

map-set : {A B : Type 0} (f : A → B) (xs : List A) (i : ℕ) (x : A) → map f (set xs i x) ≡ set (map f xs) i (f x)
map-set f [] i x = refl
map-set f (y ∷ ys) zero x = refl
map-set f (y ∷ ys) (suc i) x = ap (λ zs. f y ∷ zs) (map-set f ys i x)

pub length-changed : {A : Type 0} (xs : List A) (i : ℕ) (x : A) → length (set xs i x) ≡ length xs
length-changed [] i x = refl
length-changed (y ∷ ys) zero x = refl
length-changed (y ∷ ys) (suc i) x = ap suc (length-changed ys i x)

got-mapped : {A B : Type 0} (f : A → B) (xs : List A) (i : ℕ) (x : A) → slice_get xs i ≡ Some x → slice_get (map f xs) i ≡ Some (f x)
got-mapped f [] zero x e = none_some x e
got-mapped f [] (suc i) x e = none_some x e
got-mapped f (y ∷ ys) zero x e = ap (λ z. Some (f z)) (some_same y x e)
got-mapped f (y ∷ ys) (suc i) x e = got-mapped f ys i x e

map-insert : {A B : Type 0} (f : A → B) (xs : List A) (i : ℕ) (x : A) → map f (take i xs ++ x ∷ drop i xs) ≡ take i (map f xs) ++ f x ∷ drop i (map f xs)
map-insert f [] zero x = refl
map-insert f [] (suc i) x = refl
map-insert f (y ∷ ys) zero x = refl
map-insert f (y ∷ ys) (suc i) x = ap (λ zs. f y ∷ zs) (map-insert f ys i x)

map-take : {A B : Type 0} (f : A → B) (n : ℕ) (xs : List A) → map f (take n xs) ≡ take n (map f xs)
map-take f zero xs = refl
map-take f (suc n) [] = refl
map-take f (suc n) (x ∷ xs) = ap (λ ys. f x ∷ ys) (map-take f n xs)

length-inserted : {A : Type 0} (x : A) (xs : List A) (n : ℕ) → length (take n xs ++ x ∷ drop n xs) ≡ suc (length xs)
length-inserted x [] zero = refl
length-inserted x [] (suc n) = refl
length-inserted x (y ∷ ys) zero = refl
length-inserted x (y ∷ ys) (suc n) = ap suc (length-inserted x ys n)

length-snoc : {A : Type 0} (xs : List A) (x : A) → length (xs ++ x ∷ []) ≡ suc (length xs)
length-snoc [] x = refl
length-snoc (y ∷ ys) x = ap suc (length-snoc ys x)

length-taken : {A : Type 0} (xs : List A) (n : ℕ) → length (take n xs) ≤ n
length-taken [] zero = omega arith
length-taken [] (suc n) = omega arith
length-taken (x ∷ xs) zero = omega arith
length-taken (x ∷ xs) (suc n) = let le = length-taken xs n in omega (arith, le)

sum-inserted : {A : Type 0} (f : A → ℕ) (x : A) (xs : List A) (n : ℕ) → sum_by f (take n xs ++ x ∷ drop n xs) ≡ sum_by f xs + f x
sum-inserted f x [] zero = let one = sum_by-cons f x [] in omega arith
sum-inserted f x [] (suc n) = let one = sum_by-cons f x [] in omega arith
sum-inserted f x (y ∷ ys) zero = let one = sum_by-cons f x (y ∷ ys) in omega arith
sum-inserted f x (y ∷ ys) (suc n) =
    let rest = sum-inserted f x ys n in
    let before = sum_by-cons f y ys in
    let after = sum_by-cons f y (take n ys ++ x ∷ drop n ys) in
    omega arith

sum-changed : {A : Type 0} (f : A → ℕ) (xs : List A) (i : ℕ) (x y : A) (added : ℕ) → slice_get xs i ≡ Some x → f y ≡ f x + added → sum_by f (set xs i y) ≡ sum_by f xs + added
sum-changed f [] zero x y added e more = none_some x e
sum-changed f [] (suc i) x y added e more = none_some x e
sum-changed f (z ∷ zs) zero x y added e more =
    let before = sum_by-cons f z zs in
    let after = sum_by-cons f y zs in
    let same = ap f (some_same z x e) in
    omega arith
sum-changed f (z ∷ zs) (suc i) x y added e more =
    let before = sum_by-cons f z zs in
    let after = sum_by-cons f z (set zs i y) in
    let rest = sum-changed f zs i x y added e more in
    omega arith

pub got-at : {A : Type 0} (xs : List A) (i : ℕ) (x : A) → i < length xs → x ≡ get_or xs i x → slice_get xs i ≡ Some x
got-at [] i x below is = absurd (omega (arith, below))
got-at (y ∷ ys) zero x below is = ap Some (sym is)
got-at (y ∷ ys) (suc i) x below is = got-at ys i x (omega (arith, below)) is

module _ {A : Type 0} (P : A → Type 0) where
  each-changed : (xs : List A) (i : ℕ) (x : A) → P x → AllByRecursion P xs → AllByRecursion P (set xs i x)
  each-changed [] i x here all = tt
  each-changed (y ∷ ys) zero x here all = (here, all.1)
  each-changed (y ∷ ys) (suc i) x here all = (all.0, each-changed ys i x here all.1)

  each-inserted : (xs : List A) (i : ℕ) (x : A) → P x → AllByRecursion P xs → AllByRecursion P (take i xs ++ x ∷ drop i xs)
  each-inserted [] zero x here all = (here, tt)
  each-inserted [] (suc i) x here all = (here, tt)
  each-inserted (y ∷ ys) zero x here all = (here, all)
  each-inserted (y ∷ ys) (suc i) x here all = (all.0, each-inserted ys i x here all.1)

  each-front : (xs ys : List A) → AllByRecursion P (xs ++ ys) → AllByRecursion P xs
  each-front [] ys all = tt
  each-front (x ∷ xs) ys all = (all.0, each-front xs ys all.1)

  each-last : (xs : List A) (x : A) → AllByRecursion P (xs ++ x ∷ []) → P x
  each-last [] x all = all.0
  each-last (y ∷ ys) x all = each-last ys x all.1

  pub each-got : (xs : List A) (i : ℕ) (x : A) → slice_get xs i ≡ Some x → AllByRecursion P xs → P x
  each-got [] zero x e all = none_some x e
  each-got [] (suc i) x e all = none_some x e
  each-got (y ∷ ys) zero x e all = subst P (some_same y x e) all.0
  each-got (y ∷ ys) (suc i) x e all = each-got ys i x e all.1

-- ---- an item in the place of one with the same key

module _ {A : Type 0} (key : A → Key) where
  all-changed : (p : Key → Bool) (xs : List A) (i : ℕ) (x y : A) → slice_get xs i ≡ Some x → key y ≡ key x → T (list_all (λ z. p (key z)) xs) → T (list_all (λ z. p (key z)) (set xs i y))
  all-changed p [] i x y e same all = tt
  all-changed p (z ∷ zs) zero x y e same all = both _ _ (subst (λ k. T (p k)) (ap key (some_same z x e) ∙ sym same) (and_left _ _ all)) (and_right _ _ all)
  all-changed p (z ∷ zs) (suc i) x y e same all = both _ _ (and_left _ _ all) (all-changed p zs i x y e same (and_right _ _ all))

  module _ (sources : List CompositeSource) where
    order-changed : (xs : List A) (i : ℕ) (x y : A) → slice_get xs i ≡ Some x → key y ≡ key x → IsInOrder key sources xs → IsInOrder key sources (set xs i y)
    order-changed [] i x y e same order = tt
    order-changed (z ∷ zs) zero x y e same order = (subst (λ k. T (all_behind key sources k zs)) (ap key (some_same z x e) ∙ sym same) order.0, order.1)
    order-changed (z ∷ zs) (suc i) x y e same order = (all-changed (λ k. is_lt (page_cmp sources (key z) k)) zs i x y e same order.0, order-changed zs i x y e same order.1)

    all-got : (p : Key → Bool) (xs : List A) (i : ℕ) (x : A) → slice_get xs i ≡ Some x → T (list_all (λ z. p (key z)) xs) → T (p (key x))
    all-got p [] zero x e all = none_some x e
    all-got p [] (suc i) x e all = none_some x e
    all-got p (y ∷ ys) zero x e all = subst (λ z. T (p (key z))) (some_same y x e) (and_left _ _ all)
    all-got p (y ∷ ys) (suc i) x e all = all-got p ys i x e (and_right _ _ all)

    -- those before an item do not have its key
    first-got : (q : Key) (xs : List A) (i : ℕ) (x : A) → IsInOrder key sources xs → slice_get xs i ≡ Some x → key x ≡ q → has_key q (map key (take i xs)) ≡ false
    first-got q [] zero x order e is = refl
    first-got q [] (suc i) x order e is = refl
    first-got q (y ∷ ys) zero x order e is = refl
    first-got q (y ∷ ys) (suc i) x order e is =
        ap (λ c. c || has_key q (map key (take i ys))) (differs sources (key y) q (subst (λ k. T (is_lt (page_cmp sources (key y) k))) is (all-got (λ k. is_lt (page_cmp sources (key y) k)) ys i x e order.0)))
        ∙ first-got q ys i x order.1 e is

-- ---- pages

module _ (k : Kind) (composite : is_composite k ≡ true) (ds : List (Node → Node)) (gs : List Gatherer) (rows : List PlacedRow) (q : Key) (hs : List Held) (page : AreKept k ds hs) (parts : is_composite_of (length (sources_of k)) q ≡ true) where
  abbrev has_parts : Held → Bool
  has_parts h = is_composite_of (length (sources_of k)) (held_key h)

  abbrev is_after : Held → Bool
  is_after h = is_beyond_any (sources_of k) (empty_page k).after (held_key h)

  abbrev bs : List Bucket
  bs = shown_all ds hs

  sorts-of : (xs : List Held) → IsInOrder held_key (sources_of k) xs → T (list_all has_parts xs) → AreSorted (empty_page k) (shown_all ds xs)
  sorts-of xs order all = record {
    order = order-map (shown ds) bucket_key (sources_of k) xs order;
    parts = all-map (shown ds) (λ b. is_composite_of (length (sources_of k)) (bucket_key b)) xs all;
  }

  after-of : (xs : List Held) → T (list_all is_after xs) → T (list_all (λ b. is_beyond_any (sources_of k) (empty_page k).after (bucket_key b)) (shown_all ds xs))
  after-of xs all = all-map (shown ds) (λ b. is_beyond_any (sources_of k) (empty_page k).after (bucket_key b)) xs all

  sorts : AreSorted (empty_page k) bs
  sorts = sorts-of hs page.filled.order page.filled.parts

  within : length bs ≤ (empty_page k).size
  within = let n = length-mapped (shown ds) hs in let le = page.filled.within in omega (arith, n, le)

  -- a key that is refused changes nothing
  pub refused : is_refused (empty_page k) hs q ≡ true → sorted_by_key bs ≡ kept_buckets k (put_rows gs rows q (sorted_by_key bs))
  refused e =
      elim (is_beyond_any (sources_of k) (empty_page k).after q) as (λ c. is_beyond_any (sources_of k) (empty_page k).after q ≡ c → (not c || (nat_le (empty_page k).size (length hs) && all_before held_key (sources_of k) q hs)) ≡ true
      → sorted_by_key bs ≡ kept_buckets k (put_rows gs rows q (sorted_by_key bs))) [
        | true ↦ λ f there.
            let t : nat_le (empty_page k).size (length hs) ≡ true = and_first (nat_le (empty_page k).size (length hs)) (all_before held_key (sources_of k) q hs) there in
            let le : (empty_page k).size ≤ length hs = grind (arith, nat_tests, t) in
            sym (put-last k composite page.filled.cursor gs rows q bs sorts within (after-of hs page.filled.beyond) parts
            (all-map (shown ds) (λ b. is_lt (page_cmp (sources_of k) (bucket_key b) q)) hs (holds _ (and_second (nat_le (empty_page k).size (length hs)) (all_before held_key (sources_of k) q hs) there)))
            (let n = length-mapped (shown ds) hs in let few = page.filled.within in omega (arith, n, few, le)))
        | false ↦ λ f there. sym (put-before k composite page.filled.cursor gs rows q bs sorts within (after-of hs page.filled.beyond) parts f)
      ] refl e

  -- a bucket with more rows
  module _ (i : ℕ) (h more : Held) (here : slice_get hs i ≡ Some h) (key_is : held_key h ≡ q) (grown : shown ds more ≡ gathered_bucket gs rows (shown ds h)) where
    same_key : held_key more ≡ held_key h
    same_key = ap bucket_key grown

    changed_is : shown_all ds (set hs i more) ≡ set bs i (gathered_bucket gs rows (shown ds h))
    changed_is = map-set (shown ds) hs i more ∙ ap (set bs i) grown

    filled-changed : IsFilled held_key (empty_page k) (set hs i more)
    filled-changed = record {
      order = order-changed held_key (sources_of k) hs i h more here same_key page.filled.order;
      parts = all-changed held_key (is_composite_of (length (sources_of k))) hs i h more here same_key page.filled.parts;
      within = let n = length-changed hs i more in let le = page.filled.within in omega (arith, n, le);
      beyond = all-changed held_key (is_beyond_any (sources_of k) (empty_page k).after) hs i h more here same_key page.filled.beyond;
      cursor = page.filled.cursor;
    }

    pub kept-changed : IsCosted ds more → AreKept k ds (set hs i more)
    kept-changed costed = record { filled = filled-changed; costs = each-changed (IsCosted ds) hs i more costed page.costs }

    pub buckets-changed : sorted_by_key (shown_all ds (set hs i more)) ≡ kept_buckets k (put_rows gs rows q (sorted_by_key bs))
    buckets-changed =
        ap sorted_by_key changed_is
        ∙ sym (put-held k composite page.filled.cursor gs rows q bs sorts within (after-of hs page.filled.beyond) i (shown ds h)
        (record { here = got-mapped (shown ds) hs i h here; key_is = key_is; first = first-got bucket_key (sources_of k) q bs i (shown ds h) sorts.order (got-mapped (shown ds) hs i h here) key_is })
        (subst (AreSorted (empty_page k)) changed_is (sorts-of (set hs i more) filled-changed.order filled-changed.parts))
        (subst (λ xs. T (list_all (λ b. is_beyond_any (sources_of k) (empty_page k).after (bucket_key b)) xs)) changed_is (after-of (set hs i more) filled-changed.beyond))
        (subst (λ xs. length xs ≤ (empty_page k).size) changed_is (let n = length-mapped (shown ds) (set hs i more) in let le = filled-changed.within in omega (arith, n, le))))

    pub cost-changed : (added : ℕ) → IsCosted ds more → more.bytes ≡ h.bytes + added → sum_by bucket_bytes (shown_all ds (set hs i more)) ≡ sum_by bucket_bytes bs + added
    cost-changed added costed e =
        let before = each-got (IsCosted ds) hs i h here page.costs in
        let rise : bucket_bytes (shown ds more) ≡ bucket_bytes (shown ds h) + added = omega (arith, before, costed, e) in
        sum_by-map bucket_bytes (shown ds) (set hs i more) ∙ sum-changed (λ x. bucket_bytes (shown ds x)) hs i h more added here rise
        ∙ ap (λ n. n + added) (sym (sum_by-map bucket_bytes (shown ds) hs))

  -- one more bucket
  module _ (inside : is_refused (empty_page k) hs q ≡ false) (i : ℕ) (h : Held) (new_is : shown ds h ≡ fresh gs rows q) (costed : IsCosted ds h)
      (front : T (all_before held_key (sources_of k) q (take i hs))) (behind : T (all_behind held_key (sources_of k) q (drop i hs))) where
    key_is : held_key h ≡ q
    key_is = ap bucket_key new_is

    abbrev inserted : List Held
    inserted = take i hs ++ h ∷ drop i hs

    comes_after : is_beyond_any (sources_of k) (empty_page k).after q ≡ true
    comes_after = undone (is_beyond_any (sources_of k) (empty_page k).after q) (or_parts _ _ inside).0
      where
        undone : (c : Bool) → not c ≡ false → c ≡ true
        undone true e = refl
        undone false e = absurd (true≢false e)

    inserted-order : IsInOrder held_key (sources_of k) inserted
    inserted-order = order-insert held_key (sources_of k) h hs i page.filled.order
        (subst (λ j. T (all_before held_key (sources_of k) j (take i hs))) (sym key_is) front) (subst (λ j. T (all_behind held_key (sources_of k) j (drop i hs))) (sym key_is) behind)

    inserted-parts : T (list_all has_parts inserted)
    inserted-parts = all-insert has_parts h hs i (holds _ (ap (is_composite_of (length (sources_of k))) key_is ∙ parts)) page.filled.parts

    inserted-after : T (list_all is_after inserted)
    inserted-after = all-insert is_after h hs i (holds _ (ap (is_beyond_any (sources_of k) (empty_page k).after) key_is ∙ comes_after)) page.filled.beyond

    inserted_is : shown_all ds inserted ≡ take i bs ++ fresh gs rows q ∷ drop i bs
    inserted_is = map-insert (shown ds) hs i h ∙ ap (λ b. take i bs ++ b ∷ drop i bs) new_is

    entered : sorted_by_key (shown_all ds (take (empty_page k).size inserted)) ≡ kept_buckets k (put_rows gs rows q (sorted_by_key bs))
    entered =
        ap sorted_by_key (map-take (shown ds) (empty_page k).size inserted ∙ ap (take (empty_page k).size) inserted_is)
        ∙ sym (put-entered k composite page.filled.cursor gs rows q bs sorts within (after-of hs page.filled.beyond) i
        (sym (map-keys hs) ∙ absent held_key (sources_of k) q hs i front behind)
        (subst (AreSorted (empty_page k)) inserted_is (sorts-of inserted inserted-order inserted-parts))
        (subst (λ xs. T (list_all (λ b. is_beyond_any (sources_of k) (empty_page k).after (bucket_key b)) xs)) inserted_is (after-of inserted inserted-after)))
      where
        map-keys : (xs : List Held) → has_key q (map held_key xs) ≡ has_key q (map bucket_key (shown_all ds xs))
        map-keys [] = refl
        map-keys (x ∷ xs) = ap (λ c. key_eq q (held_key x) || c) (map-keys xs)

    -- what stays, and what leaves
    module _ (stays : List Held) (left : Option Held) (moved : inserted ≡ stays ++ option_to_list left) (full : is_some left ≡ nat_le (empty_page k).size (length hs)) where
      stays_are : take (empty_page k).size inserted ≡ stays
      stays_are = by left moved full
        where
          by : (o : Option Held) → inserted ≡ stays ++ option_to_list o → is_some o ≡ nat_le (empty_page k).size (length hs) → take (empty_page k).size inserted ≡ stays
          by None e f =
              let n = length-inserted h hs i in
              let few : length hs < (empty_page k).size = let t = sym f in grind (arith, nat_tests, t) in
              take-whole inserted (empty_page k).size (omega (arith, n, few)) ∙ e ∙ append-nil stays
          by (Some x) e f =
              let n = length-inserted h hs i in
              let m = ap length e ∙ length-snoc stays x in
              let many : (empty_page k).size ≤ length hs = let t = sym f in grind (arith, nat_tests, t) in
              let le = page.filled.within in
              ap (take (empty_page k).size) e ∙ take-front stays (x ∷ []) (empty_page k).size (omega (arith, n, m, many, le))

      pub buckets-entered : sorted_by_key (shown_all ds stays) ≡ kept_buckets k (put_rows gs rows q (sorted_by_key bs))
      buckets-entered = ap (λ xs. sorted_by_key (shown_all ds xs)) (sym stays_are) ∙ entered

      costs-moved : AllByRecursion (IsCosted ds) (stays ++ option_to_list left)
      costs-moved = subst (AllByRecursion (IsCosted ds)) moved (each-inserted (IsCosted ds) hs i h costed page.costs)

      pub kept-entered : AreKept k ds stays
      kept-entered = record {
        filled = subst (IsFilled held_key (empty_page k)) stays_are (record {
          order = order-take held_key (sources_of k) inserted (empty_page k).size inserted-order;
          parts = all-take has_parts inserted (empty_page k).size inserted-parts;
          within = length-taken inserted (empty_page k).size;
          beyond = all-take is_after inserted (empty_page k).size inserted-after;
          cursor = page.filled.cursor;
        });
        costs = each-front (IsCosted ds) stays (option_to_list left) costs-moved;
      }

      abbrev bytes_of : List Held → ℕ
      bytes_of xs = sum_by (λ x. bucket_bytes (shown ds x)) xs

      cost-moved : bytes_of stays + bytes_of (option_to_list left) ≡ bytes_of hs + h.bytes
      cost-moved =
          sym (sum_by-append (λ x. bucket_bytes (shown ds x)) stays (option_to_list left)) ∙ ap bytes_of (sym moved)
          ∙ sum-inserted (λ x. bucket_bytes (shown ds x)) h hs i ∙ ap (λ n. bytes_of hs + n) (sym costed)

      cost-stays : left ≡ None → sum_by bucket_bytes (shown_all ds stays) + 0 ≡ sum_by bucket_bytes bs + h.bytes
      cost-stays none =
          let nothing = ap (λ o. bytes_of (option_to_list o)) none in
          let before = sum_by-map bucket_bytes (shown ds) hs in
          let after = sum_by-map bucket_bytes (shown ds) stays in
          let all = cost-moved in
          omega (arith, nothing, before, after, all)

      cost-leaves : (x : Held) → left ≡ Some x → sum_by bucket_bytes (shown_all ds stays) + x.bytes ≡ sum_by bucket_bytes bs + h.bytes
      cost-leaves x some =
          let costs = each-last (IsCosted ds) stays x (subst (λ o. AllByRecursion (IsCosted ds) (stays ++ option_to_list o)) some costs-moved) in
          let one = ap (λ o. bytes_of (option_to_list o)) some ∙ sum_by-cons (λ x. bucket_bytes (shown ds x)) x [] in
          let before = sum_by-map bucket_bytes (shown ds) hs in
          let after = sum_by-map bucket_bytes (shown ds) stays in
          let all = cost-moved in
          omega (arith, one, costs, before, after, all)

      pub cost-entered : sum_by bucket_bytes (shown_all ds stays) + option_map_or (λ x. x.bytes) left 0 ≡ sum_by bucket_bytes bs + h.bytes
      cost-entered = elim left as (λ o. left ≡ o → sum_by bucket_bytes (shown_all ds stays) + option_map_or (λ x. x.bytes) o 0 ≡ sum_by bucket_bytes bs + h.bytes) [
        | None ↦ cost-stays
        | Some x ↦ cost-leaves x
      ] refl
