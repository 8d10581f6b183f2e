-- What becomes of a page when a key is offered.
use Rattle.std.proofs.Common.{◌≡◌, refl, ℕ, zero, suc, ◌+◌, ◌<◌, ◌≤◌, Bool, true, false, cond, List, [], ◌∷◌, ◌++◌, length, take, drop, map, Option, Some, None, sym, ◌∙◌, ap, subst, arith, ⊎_elim}
use Rattle.std.specs.Prelude.{T, not, ◌&&◌, ◌||◌, if◌then◌else◌, is_some, option_to_list}
use Rattle.std.specs.List.{list_all, last_or, AllByRecursion}
use Rattle.std.specs.Ordering.{is_lt}
use Rattle.std.proofs.lemmas.Bool.{false≢true, cases_lt}
use Rattle.std.proofs.lemmas.Bool.Decides.{nat_tests}
use Rattle.agg_model.specs.declared.aggregation.CompositeSource.{CompositeSource}
use Rattle.agg_model.specs.declared.key.Key.{Key}
use Rattle.agg_model.specs.declared.partial.Bucket.{Bucket}
use Rattle.agg_model.specs.declared.partial.Node.{Node}
use Rattle.agg_evaluation.specs.CompositeKeys.{is_composite_of}
use Rattle.agg_evaluation.specs.KeyOrder.{key_eq}
use Rattle.agg_evaluation.specs.Orders.{bucket_key}
use Rattle.list_laws.proofs.Lists.{append-nil}
use Rattle.list_laws.proofs.Booleans.{and_left, and_right, both, holds, true_is}
use Rattle.composite_page.specs.Pages.{is_beyond_any}
use Rattle.composite_agg.specs.FirstPages.{FirstPage, AreInOrder, IsPage, answer_of, counted, evicted_of, is_full, is_held, is_last, is_outside, new_bucket, page_cmp, page_with, with_bucket, with_buckets}
use Rattle.composite_agg.specs.declared.offered.Offered.TheVariants.{Counted, Entered, Outside}
use Rattle.composite_agg.proofs.PageSteps.{insert-at, not_itself}
use Rattle.composite_agg.proofs.InOrder.{absent, order-insert, order-take}
use Rattle.composite_agg.proofs.PlaceOrder.{before_trans}

key-counted : (k : Key) (b : Bucket) → bucket_key (counted k b) ≡ bucket_key b
key-counted k b = elim (key_eq k (bucket_key b)) as (λ t. bucket_key (cond t (record b { count = b.count + 1 }) b) ≡ bucket_key b) [ true ↦ refl | false ↦ refl ]

-- a page whose buckets have the keys that they had is one
module _ (f : Bucket → Bucket) (key-same : (b : Bucket) → bucket_key (f b) ≡ bucket_key b) where
  all-same : (p : Key → Bool) (bs : List Bucket) → T (list_all (λ b. p (bucket_key b)) bs) → T (list_all (λ b. p (bucket_key b)) (map f bs))
  all-same p [] all = tt
  all-same p (b ∷ bs) all = both _ _ (subst (λ j. T (p j)) (sym (key-same b)) (and_left _ _ all)) (all-same p bs (and_right _ _ all))

  length-same : (bs : List Bucket) → length (map f bs) ≡ length bs
  length-same [] = refl
  length-same (b ∷ bs) = ap suc (length-same bs)

  order-same : (sources : List CompositeSource) (bs : List Bucket) → AreInOrder sources bs → AreInOrder sources (map f bs)
  order-same sources [] order = tt
  order-same sources (b ∷ bs) order =
      (subst (λ j. T (list_all (λ later. is_lt (page_cmp sources j (bucket_key later))) (map f bs))) (sym (key-same b)) (all-same (λ q. is_lt (page_cmp sources (bucket_key b) q)) bs order.0), order-same sources bs order.1)

pub page-same_keys : (p : FirstPage) (f : Bucket → Bucket) → ((b : Bucket) → bucket_key (f b) ≡ bucket_key b) → IsPage p → IsPage (with_buckets p (map f p.buckets))
page-same_keys p f key-same page = record {
  order = order-same f key-same p.sources p.buckets page.order;
  parts = true_is _ (all-same f key-same (is_composite_of (length p.sources)) p.buckets (holds _ page.parts));
  within = let n = length-same f key-same p.buckets in omega (arith, n, page.within);
}

module _ (p : FirstPage) (k : Key) (children : List Node) where
  pub page-counted : IsPage p → IsPage (with_buckets p (map (counted k) p.buckets))
  page-counted page = page-same_keys p (counted k) (key-counted k) page

  pub counted-answer : is_outside p k ≡ false → is_held p k ≡ true → answer_of p k ≡ Counted
  counted-answer inside held = ap (λ t. if t then Outside else (if is_held p k then Counted else Entered (evicted_of p))) inside ∙ ap (λ t. if t then Counted else Entered (evicted_of p)) held

  pub counted-page : is_outside p k ≡ false → is_held p k ≡ true → (page_with p k children).buckets ≡ map (counted k) p.buckets
  counted-page inside held =
      ap (λ t. (if t then p else with_buckets p (if is_held p k then map (counted k) p.buckets else with_bucket p (new_bucket k children))).buckets) inside
      ∙ ap (λ t. if t then map (counted k) p.buckets else with_bucket p (new_bucket k children)) held

  pub entered-answer : is_outside p k ≡ false → is_held p k ≡ false → answer_of p k ≡ Entered (evicted_of p)
  entered-answer inside held = ap (λ t. if t then Outside else (if is_held p k then Counted else Entered (evicted_of p))) inside ∙ ap (λ t. if t then Counted else Entered (evicted_of p)) held

  entered-page : is_outside p k ≡ false → is_held p k ≡ false → (page_with p k children).buckets ≡ with_bucket p (new_bucket k children)
  entered-page inside held =
      ap (λ t. (if t then p else with_buckets p (if is_held p k then map (counted k) p.buckets else with_bucket p (new_bucket k children))).buckets) inside
      ∙ ap (λ t. if t then map (counted k) p.buckets else with_bucket p (new_bucket k children)) held

  module _ (page : IsPage p) (parts : is_composite_of (length p.sources) k ≡ true) (inside : is_outside p k ≡ false) (i : ℕ)
      (front : T (list_all (λ b. is_lt (page_cmp p.sources (bucket_key b) k)) (take i p.buckets))) (behind : T (list_all (λ b. is_lt (page_cmp p.sources k (bucket_key b))) (drop i p.buckets))) where
    abbrev pub inserted : List Bucket
    inserted = take i p.buckets ++ new_bucket k children ∷ drop i p.buckets

    pub held : is_held p k ≡ false
    held = absent bucket_key p.sources k p.buckets i front behind

    not_before : (bs : List Bucket) → T (list_all (λ b. is_lt (page_cmp p.sources k (bucket_key b))) bs) → AllByRecursion (λ b. is_lt (page_cmp p.sources (bucket_key b) k) ≡ false) bs
    not_before [] all = tt
    not_before (b ∷ bs) all = (later (is_lt (page_cmp p.sources (bucket_key b) k)) refl, not_before bs (and_right _ _ all))
      where
        later : (t : Bool) → is_lt (page_cmp p.sources (bucket_key b) k) ≡ t → t ≡ false
        later true e = absurd (not_itself p.sources k (before_trans p.sources k (bucket_key b) k (and_left _ _ all) (holds _ e)))
        later false e = refl

    pub page-is : (page_with p k children).buckets ≡ take p.size inserted
    page-is = entered-page inside held ∙ ap (take p.size) (insert-at p.sources (new_bucket k children) p.buckets i front (not_before (drop i p.buckets) behind))

    all-inserted : (q : Bucket → Bool) (bs : List Bucket) (n : ℕ) → T (q (new_bucket k children)) → T (list_all q bs) → T (list_all q (take n bs ++ new_bucket k children ∷ drop n bs))
    all-inserted q [] zero one all = both _ _ one tt
    all-inserted q [] (suc n) one all = both _ _ one tt
    all-inserted q (b ∷ bs) zero one all = both _ _ one all
    all-inserted q (b ∷ bs) (suc n) one all = both _ _ (and_left _ _ all) (all-inserted q bs n one (and_right _ _ all))

    all-taken : (q : Bucket → Bool) (bs : List Bucket) (n : ℕ) → T (list_all q bs) → T (list_all q (take n bs))
    all-taken q [] zero all = tt
    all-taken q [] (suc n) all = tt
    all-taken q (b ∷ bs) zero all = tt
    all-taken q (b ∷ bs) (suc n) all = both _ _ (and_left _ _ all) (all-taken q bs n (and_right _ _ all))

    length-taken : {A : Type 0} (xs : List A) (n : ℕ) → length (take n xs) ≤ n
    length-taken [] zero = omega arith
    length-taken [] (suc n) = omega arith
    length-taken (x ∷ xs) zero = omega arith
    length-taken (x ∷ xs) (suc n) = let le = length-taken xs n in omega (arith, le)

    pub page-entered : IsPage (with_buckets p (take p.size inserted))
    page-entered = record {
      order = order-take bucket_key p.sources inserted p.size (order-insert bucket_key p.sources (new_bucket k children) p.buckets i page.order front behind);
      parts = true_is _ (all-taken (λ b. is_composite_of (length p.sources) (bucket_key b)) inserted p.size (all-inserted (λ b. is_composite_of (length p.sources) (bucket_key b)) p.buckets i (holds _ parts) (holds _ page.parts)));
      within = length-taken inserted p.size;
    }

    length-inserted : {A : Type 0} (x : A) (xs : List A) (n : ℕ) → length (take n xs ++ x ∷ drop n xs) ≡ suc (length xs)
    length-inserted x [] zero = refl
    length-inserted x [] (suc n) = refl
    length-inserted x (y ∷ ys) zero = refl
    length-inserted x (y ∷ ys) (suc n) = ap suc (length-inserted x ys n)

    take-all : {A : Type 0} (xs : List A) (n : ℕ) → length xs ≤ n → take n xs ≡ xs
    take-all [] zero le = refl
    take-all [] (suc n) le = refl
    take-all (x ∷ xs) zero le = absurd (omega (arith, le))
    take-all (x ∷ xs) (suc n) le = ap (λ ys. x ∷ ys) (take-all xs n (omega (arith, le)))

    -- there is room
    pub room : is_full p ≡ false → take p.size inserted ≡ inserted
    room vacant = let n = length-inserted (new_bucket k children) p.buckets i in take-all inserted p.size (let few : length p.buckets < p.size = grind (arith, nat_tests) in omega (arith, n, few))

    take-front : {A : Type 0} (xs : List A) (x : A) (n : ℕ) → length xs ≡ n → take n (xs ++ x ∷ []) ≡ xs
    take-front [] x zero e = refl
    take-front [] x (suc n) e = absurd (omega (arith, e))
    take-front (y ∷ ys) x zero e = absurd (omega (arith, e))
    take-front (y ∷ ys) x (suc n) e = ap (λ zs. y ∷ zs) (take-front ys x n (omega (arith, e)))

    last-snoc : {A : Type 0} (o : Option A) (xs : List A) (x : A) → last_or o (xs ++ x ∷ []) ≡ Some x
    last-snoc o [] x = refl
    last-snoc o (y ∷ ys) x = last-snoc (Some y) ys x

    last-inserted : {A : Type 0} (o : Option A) (x : A) (xs : List A) (n : ℕ) → n < length xs → last_or o (take n xs ++ x ∷ drop n xs) ≡ last_or o xs
    last-inserted o x [] n below = absurd (omega (arith, below))
    last-inserted o x (y ∷ ys) zero below = refl
    last-inserted o x (y ∷ ys) (suc n) below = last-inserted (Some y) x ys n (omega (arith, below))

    all-front : (bs : List Bucket) (n : ℕ) → length bs ≤ n → T (list_all (λ b. is_lt (page_cmp p.sources (bucket_key b) k)) (take n bs)) → T (list_all (λ b. is_lt (page_cmp p.sources (bucket_key b) k)) bs)
    all-front bs n le all = subst (λ cs. T (list_all (λ b. is_lt (page_cmp p.sources (bucket_key b) k)) cs)) (take-all bs n le) all

    length-snoc : {A : Type 0} (xs : List A) (x : A) → length (xs ++ x ∷ []) ≡ suc (length xs)
    length-snoc [] x = refl
    length-snoc (y ∷ ys) x = ap suc (length-snoc ys x)

    below_end : is_full p ≡ true → i < length p.buckets
    below_end full = ⊎_elim (λ (below : i < length p.buckets). below) (λ (le : length p.buckets ≤ i).
        absurd (false≢true (sym inside ∙ ap (λ t. not (is_beyond_any p.sources p.after k) || (t && is_last p k)) full
        ∙ ap (λ t. not (is_beyond_any p.sources p.after k) || t) (true_is _ (all-front p.buckets i le front)) ∙ or_yes (not (is_beyond_any p.sources p.after k))))) (cases_lt i (length p.buckets))
      where
        or_yes : (t : Bool) → (t || true) ≡ true
        or_yes true = refl
        or_yes false = refl

    -- the last bucket leaves a full page
    pub left : is_full p ≡ true → (rest : List Bucket) (x : Bucket) → inserted ≡ rest ++ x ∷ [] → (take p.size inserted ≡ rest) × (evicted_of p ≡ Some x)
    left full rest x e =
        let n = length-inserted (new_bucket k children) p.buckets i in
        let m = ap length e ∙ length-snoc rest x in
        let most : p.size ≤ length p.buckets = grind (arith, nat_tests) in
        let all : length rest ≡ p.size = omega (arith, n, m, most, page.within) in (
          ap (take p.size) e ∙ take-front rest x p.size all,
          ap (λ t. if t then last_or None p.buckets else None) full ∙ sym (last-inserted None (new_bucket k children) p.buckets i (below_end full)) ∙ ap (last_or None) e ∙ last-snoc None rest x,
        )

    -- what leaves, and what stays
    pub after_entering : (rest : List Bucket) (o : Option Bucket) → inserted ≡ rest ++ option_to_list o → is_some o ≡ is_full p → (take p.size inserted ≡ rest) × (evicted_of p ≡ o)
    after_entering rest None e none = (room (sym none) ∙ e ∙ append-nil rest, ap (λ t. if t then last_or None p.buckets else None) (sym none))
    after_entering rest (Some x) e some = left (sym some) rest x e

    pub answer-is : (o : Option Bucket) → evicted_of p ≡ o → Entered o ≡ answer_of p k
    answer-is o e = ap (λ t. Entered t) (sym e) ∙ sym (entered-answer inside held)
