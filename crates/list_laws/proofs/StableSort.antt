-- A stable sort has one answer, which is insertion sort's, in every total order.
use Rattle.std.specs.Prelude.{◌≡◌, refl, ℕ, ◌<◌, ◌≤◌, Bool, true, false, not, ◌&&◌, List, [], ◌∷◌, ◌++◌, filter, length, map, slice_index_or, ⊤}
use Rattle.std.specs.declared.cmp.Ordering.{Ordering}
use Rattle.std.specs.declared.cmp.Ordering.TheVariants.{Less, Equal, Greater}
use Rattle.std.specs.Ordering.{is_lt, is_le, ordering_reverse}
use Rattle.std.specs.Cmp.{IsTotalOrder, IsStrictWeakOrder}
use Rattle.std.specs.Fn.{Called, ComparesAs}
use Rattle.std.specs.List.Sorted.{IsSortedBy, IsStableBy, ties, IsSortedByClosure, IsStableByClosure}
use Rattle.std.proofs.Common.{sym, ◌∙◌, ap, subst, arith, suc, cond, ⊎_elim, zero, add-one}
use Rattle.std.proofs.lemmas.Bool.{cases_Bool, true≢false, false≢true, and_parts, not-true}
use Rattle.std.proofs.lemmas.List.Sorted.{sorted_far, ranks_by}
use Rattle.std.proofs.lemmas.Fn.{always_returns_same}
use Rattle.list_laws.specs.Sorting.{sorted, insert_sorted, insert_behind}
use denote.Param.Members.{Mut}
use denote.Ref.{Bor}

-- whether a list is empty, its first item, and the items after it
abbrev is_nil : {A : Type 0} → List A → Bool
is_nil [] = true
is_nil (x ∷ xs) = false

abbrev first_or : {A : Type 0} → A → List A → A
first_or d [] = d
first_or d (x ∷ xs) = x

abbrev rest_of : {A : Type 0} → List A → List A
rest_of [] = []
rest_of (x ∷ xs) = xs

-- an empty list has no first item
nil_not_cons : {A G : Type 0} (x : A) (xs : List A) → [] ≡ x ∷ xs → G
nil_not_cons x xs e = absurd (true≢false (ap is_nil e))

module _ {A : Type 0} (lt : A → A → Bool) where
  -- none of the items is below x
  abbrev pub AtLeast : A → List A → Type 0
  AtLeast x [] = ⊤
  AtLeast x (y ∷ ys) = (lt y x ≡ false) × AtLeast x ys

  -- none is below one before it
  abbrev pub Ascends : List A → Type 0
  Ascends [] = ⊤
  Ascends (x ∷ xs) = AtLeast x xs × Ascends xs

  -- of two neighbours in ascending items the later is not below the earlier
  neighbours : (xs : List A) → Ascends xs → (k : ℕ) (d : A) → suc k < length xs → lt (slice_index_or xs (suc k) d) (slice_index_or xs k d) ≡ false
  neighbours [] up k d within = absurd (omega (arith, within))
  neighbours (x ∷ []) up k d within = absurd (omega (arith, within))
  neighbours (x ∷ y ∷ ys) up zero d within = up.0.0
  neighbours (x ∷ y ∷ ys) up (suc k) d within = neighbours (y ∷ ys) up.1 k d (omega arith)

  -- items that ascend are sorted, in std's word
  pub sort_from_ascends : (xs : List A) → Ascends xs → IsSortedBy lt xs
  sort_from_ascends xs up k d from within = rw add-one (neighbours xs up k d (omega arith))

module _ {A : Type 0} (lt : A → A → Bool) (order : IsStrictWeakOrder lt) where
  -- what no item falls below, told by the places
  at_least_by_index : (x : A) (ys : List A) → ((k : ℕ) (d : A) → k < length ys → lt (slice_index_or ys k d) x ≡ false) → AtLeast lt x ys
  at_least_by_index x [] h = tt
  at_least_by_index x (y ∷ ys) h = (h 0 x (omega arith), at_least_by_index x ys (λ k d below. h (suc k) d (omega arith)))

  -- items ascend where no later one is below an earlier one
  ascends_by_index : (xs : List A) → ((i j : ℕ) (d : A) → i ≤ j → j < length xs → lt (slice_index_or xs j d) (slice_index_or xs i d) ≡ false) → Ascends lt xs
  ascends_by_index [] far = tt
  ascends_by_index (x ∷ xs) far = (at_least_by_index x xs (λ k d below. far 0 (suc k) d (omega arith) (omega arith)), ascends_by_index xs (λ i j d le below. far (suc i) (suc j) d (omega arith) (omega arith)))

  -- items that are sorted, in std's word, ascend
  pub ascends_from_sort : (xs : List A) → IsSortedBy lt xs → Ascends lt xs
  ascends_from_sort xs up = ascends_by_index xs (λ i j d le below. sorted_far lt order xs up i j d le below)

  -- nothing is below itself
  irreflexive : (x : A) → lt x x ≡ false
  irreflexive x = ⊎_elim (λ e. order.one_way x x e) (λ e. e) (cases_Bool (lt x x))

  -- each item ties with itself
  tied_itself : (x : A) → ties lt x x ≡ true
  tied_itself x = ap (λ b. not b && not b) (irreflexive x)

  -- what is above y is tied with nothing from there on
  no_ties : (y z : A) (zs : List A) → lt y z ≡ true → AtLeast lt z zs → filter (ties lt y) zs ≡ []
  no_ties y z [] below all = refl
  no_ties y z (w ∷ ws) below all =
      let above : lt y w ≡ true = ⊎_elim (λ e. e) (λ e. absurd (true≢false (sym below ∙ order.chain y w z e all.0))) (cases_Bool (lt y w)) in
      let apart : ties lt y w ≡ false = ap (λ b. not b && not (lt w y)) above in
      ap (λ b. cond b (w ∷ filter (ties lt y) ws) (filter (ties lt y) ws)) apart ∙ no_ties y z ws below all.1

  -- what ties with an item begins with it
  keeps_first : (y : A) (ys : List A) → filter (ties lt y) (y ∷ ys) ≡ y ∷ filter (ties lt y) ys
  keeps_first y ys = ap (λ b. cond b (y ∷ filter (ties lt y) ys) (filter (ties lt y) ys)) (tied_itself y)

  -- what is below the first of ascending items ties with none of them
  none_from : (y z : A) (zs : List A) → lt y z ≡ true → AtLeast lt z zs → filter (ties lt y) (z ∷ zs) ≡ []
  none_from y z zs below all = no_ties y z (z ∷ zs) below (irreflexive z, all)

  -- two lists that grow alike by one item were one before
  same_rest : {A : Type 0} (b : Bool) (y : A) (us vs : List A) → cond b (y ∷ us) us ≡ cond b (y ∷ vs) vs → us ≡ vs
  same_rest true y us vs e = ap rest_of e
  same_rest false y us vs e = e

  -- lists in order are equal where the same items tie with each
  pub one_order : (ys zs : List A) → Ascends lt ys → Ascends lt zs → ((x : A) → filter (ties lt x) ys ≡ filter (ties lt x) zs) → ys ≡ zs
  one_order [] [] up up' same = refl
  one_order [] (z ∷ zs) up up' same = nil_not_cons z (filter (ties lt z) zs) (same z ∙ keeps_first z zs)
  one_order (y ∷ ys) [] up up' same = nil_not_cons y (filter (ties lt y) ys) (sym (same y) ∙ keeps_first y ys)
  one_order (y ∷ ys) (z ∷ zs) up up' same =
      ⊎_elim (λ below. nil_not_cons y (filter (ties lt y) ys) (sym (none_from y z zs below up'.0) ∙ sym (same y) ∙ keeps_first y ys))
      (λ not_below. ⊎_elim (λ above. nil_not_cons z (filter (ties lt z) zs) (sym (none_from z y ys above up.0) ∙ same z ∙ keeps_first z zs))
      (λ not_above.
      let tied : ties lt y z ≡ true = ap (λ b. not b && not (lt z y)) not_below ∙ ap (λ b. not false && not b) not_above in
      let heads : y ∷ filter (ties lt y) ys ≡ z ∷ filter (ties lt y) zs = sym (keeps_first y ys) ∙ same y ∙ ap (λ b. cond b (z ∷ filter (ties lt y) zs) (filter (ties lt y) zs)) tied in
      let head : y ≡ z = ap (first_or y) heads in
      let rests : ys ≡ zs = one_order ys zs up.1 up'.1 (λ x. same_rest (ties lt x y) y _ _ (same x ∙ ap (λ w. cond (ties lt x w) (w ∷ filter (ties lt x) zs) (filter (ties lt x) zs)) (sym head))) in
      λ i. head i ∷ rests i)
      (cases_Bool (lt z y)))
      (cases_Bool (lt y z))

module _ {A : Type 0} (cmp : A → A → Ordering) (total : IsTotalOrder cmp) where
  -- strictly less in the order
  abbrev pub below : A → A → Bool
  below x y = is_lt (cmp x y)

  -- a total order ranks its items
  pub weak : IsStrictWeakOrder below
  weak = ranks_by total (λ x. x)

  -- at most, read from the other side
  reverse_le : (o : Ordering) → is_le o ≡ true → is_lt (ordering_reverse o) ≡ false
  reverse_le Less e = refl
  reverse_le Equal e = refl
  reverse_le Greater e = absurd (false≢true e)

  -- greater, read from the other side
  reverse_gt : (o : Ordering) → is_le o ≡ false → is_lt (ordering_reverse o) ≡ true
  reverse_gt Less e = absurd (true≢false e)
  reverse_gt Equal e = absurd (true≢false e)
  reverse_gt Greater e = refl

  -- what is at most another has it not below
  pub at_most : (x y : A) → is_le (cmp x y) ≡ true → below y x ≡ false
  at_most x y e = ap is_lt (total.antisymm y x) ∙ reverse_le (cmp x y) e

  -- what is not at most another has it below
  pub above : (x y : A) → is_le (cmp x y) ≡ false → below y x ≡ true
  above x y e = ap is_lt (total.antisymm y x) ∙ reverse_gt (cmp x y) e

  -- x before y, or behind it
  abbrev put : Bool → A → A → List A → List A
  put b x y ys = cond b (x ∷ y ∷ ys) (y ∷ insert_sorted cmp x ys)

  -- an insertion keeps what no item falls below
  at_least_insert : (x y : A) (ys : List A) → below y x ≡ false → AtLeast below x ys → AtLeast below x (insert_sorted cmp y ys)
  at_least_insert x y [] least all = (least, tt)
  at_least_insert x y (w ∷ ws) least all =
      ⊎_elim (λ e. subst (λ b. AtLeast below x (put b y w ws)) (sym e) (least, all))
      (λ e. subst (λ b. AtLeast below x (put b y w ws)) (sym e) (all.0, at_least_insert x y ws least all.1))
      (cases_Bool (is_le (cmp y w)))

  -- what is at most a lower bound is a lower bound
  at_least_less : (x y : A) (ys : List A) → below y x ≡ false → AtLeast below y ys → AtLeast below x ys
  at_least_less x y [] least all = tt
  at_least_less x y (w ∷ ws) least all = ((weak).chain w y x all.0 least, at_least_less x y ws least all.1)

  -- an insertion keeps ascending items ascending
  ascends_insert : (x : A) (ys : List A) → Ascends below ys → Ascends below (insert_sorted cmp x ys)
  ascends_insert x [] up = (tt, tt)
  ascends_insert x (y ∷ ys) up =
      ⊎_elim (λ e. subst (λ b. Ascends below (put b x y ys)) (sym e) ((at_most x y e, at_least_less x y ys (at_most x y e) up.0), up))
      (λ e. subst (λ b. Ascends below (put b x y ys)) (sym e) (at_least_insert y x ys ((weak).one_way y x (above x y e)) up.0, ascends_insert x ys up.1))
      (cases_Bool (is_le (cmp x y)))

  -- a sorted list ascends
  pub ascends_sorted : (xs : List A) → Ascends below (sorted cmp xs)
  ascends_sorted [] = tt
  ascends_sorted (x ∷ xs) = ascends_insert x (sorted cmp xs) (ascends_sorted xs)

  -- two that tie with x are not in order
  both_tied : (x y z : A) → ties below x y ≡ true → ties below x z ≡ true → below y z ≡ false
  both_tied x y z e f = (weak).chain y x z (not-true _ (and_parts _ _ e).1) (not-true _ (and_parts _ _ f).0)

  -- what passes, where y stands before z or z before y, and one of them does not pass
  swapped : (p q : Bool) (y z : A) (us : List A) → (p ≡ true → q ≡ true → ⊥) → cond p (y ∷ cond q (z ∷ us) us) (cond q (z ∷ us) us) ≡ cond q (z ∷ cond p (y ∷ us) us) (cond p (y ∷ us) us)
  swapped true true y z us h = absurd (h refl refl)
  swapped true false y z us h = refl
  swapped false true y z us h = refl
  swapped false false y z us h = refl

  -- an insertion puts an item in front of those that tie with it
  stable_insert : (x z : A) (ys : List A) → filter (ties below x) (insert_sorted cmp z ys) ≡ filter (ties below x) (z ∷ ys)
  stable_insert x z [] = refl
  stable_insert x z (y ∷ ys) =
      ⊎_elim (λ e. ap (λ b. filter (ties below x) (put b z y ys)) e)
      (λ e.
      ap (λ b. filter (ties below x) (put b z y ys)) e ∙ ap (λ us. cond (ties below x y) (y ∷ us) us) (stable_insert x z ys)
      ∙ swapped (ties below x y) (ties below x z) y z (filter (ties below x) ys) (λ p q. true≢false (sym (above z y e) ∙ both_tied x y z p q)))
      (cases_Bool (is_le (cmp z y)))

  -- a sorted list has its ties as they were
  pub stable_sorted : (x : A) (xs : List A) → filter (ties below x) (sorted cmp xs) ≡ filter (ties below x) xs
  stable_sorted x [] = refl
  stable_sorted x (y ∷ ys) = stable_insert x y (sorted cmp ys) ∙ ap (λ us. cond (ties below x y) (y ∷ us) us) (stable_sorted x ys)

  -- what is in order, and has ties as they were, is the sorted list
  pub sorted_from_sort : (xs ys : List A) → IsSortedBy below ys → IsStableBy below xs ys → ys ≡ sorted cmp xs
  sorted_from_sort xs ys up stable =
      one_order below weak ys (sorted cmp xs) (ascends_from_sort below weak ys up) (ascends_sorted xs) (λ x. stable x ∙ sym (stable_sorted x xs))

  -- what `sort_by` ensures, of a closure that compares by cmp
  pub sorted_from_sort_by : {F : Type 0} {g : Mut F (Bor A × (Bor A × Unit {0})) Ordering} {f : F} (xs ys : List A) → IsSortedByClosure g f ys → IsStableByClosure g f xs ys
      → ((a : Bor A × (Bor A × Unit {0})) (r : Ordering) (f' : F) → Called g f a r f' → (r ≡ cmp a.0.now a.1.0.now) × (f' ≡ f)) → ys ≡ sorted cmp xs
  sorted_from_sort_by {g = g} {f = f} xs ys up stable calls =
      let compares : ComparesAs g below f = always_returns_same g (λ a r. is_lt r ≡ below a.0.now a.1.0.now) f (λ a r f' k. (ap is_lt (calls a r f' k).0, (calls a r f' k).1)) in
      sorted_from_sort xs ys (up below weak compares) (stable below weak compares)

  -- a sorted list is sorted, in std's word
  pub IsSortedBy-sorted : (xs : List A) → IsSortedBy below (sorted cmp xs)
  IsSortedBy-sorted xs = sort_from_ascends below (sorted cmp xs) (ascends_sorted xs)

  -- what is below another is not at most by it
  not_most : (x y : A) → below y x ≡ true → is_le (cmp x y) ≡ false
  not_most x y e = ⊎_elim (λ most. absurd (true≢false (sym e ∙ at_most x y most))) (λ f. f) (cases_Bool (is_le (cmp x y)))

  -- less is transitive
  chain_less : (x y z : A) → below x y ≡ true → below y z ≡ true → below x z ≡ true
  chain_less x y z e f = ⊎_elim (λ g. g) (λ g. absurd (true≢false (sym e ∙ weak.chain x z y g (weak.one_way y z f)))) (cases_Bool (below x z))

  -- an item that is at most the next comes first in both
  turns : (x y : A) (p q : Bool) → is_le (cmp y x) ≡ p → below x y ≡ q → (us vs : List A) → cond p (y ∷ us) (x ∷ vs) ≡ cond q (x ∷ vs) (y ∷ us)
  turns x y true true e f us vs = absurd (true≢false (sym f ∙ at_most y x e))
  turns x y true false e f us vs = refl
  turns x y false true e f us vs = refl
  turns x y false false e f us vs = absurd (true≢false (sym (above y x e) ∙ f))

  -- the two insertions may take turns
  insert_both : (y x : A) (zs : List A) → insert_sorted cmp y (insert_behind cmp x zs) ≡ insert_behind cmp x (insert_sorted cmp y zs)
  insert_both y x [] = turns x y (is_le (cmp y x)) (below x y) refl refl (x ∷ []) (y ∷ [])
  insert_both y x (z ∷ zs) =
      elim (below x z) as (λ c. below x z ≡ c → insert_sorted cmp y (cond c (x ∷ z ∷ zs) (z ∷ insert_behind cmp x zs)) ≡ insert_behind cmp x (insert_sorted cmp y (z ∷ zs))) [
        | true ↦ λ f. elim (is_le (cmp y z)) as (λ d. is_le (cmp y z) ≡ d → cond (is_le (cmp y x)) (y ∷ x ∷ z ∷ zs) (x ∷ cond d (y ∷ z ∷ zs) (z ∷ insert_sorted cmp y zs)) ≡ insert_behind cmp x (cond d (y ∷ z ∷ zs) (z ∷ insert_sorted cmp y zs))) [
          | true ↦ λ e. turns x y (is_le (cmp y x)) (below x y) refl refl (x ∷ z ∷ zs) (y ∷ z ∷ zs) ∙ ap (λ c. cond (below x y) (x ∷ y ∷ z ∷ zs) (y ∷ cond c (x ∷ z ∷ zs) (z ∷ insert_behind cmp x zs))) (sym f)
          | false ↦ λ e. ap (λ p. cond p (y ∷ x ∷ z ∷ zs) (x ∷ z ∷ insert_sorted cmp y zs)) (not_most y x (chain_less x z y f (above y z e)))
              ∙ ap (λ c. cond c (x ∷ z ∷ insert_sorted cmp y zs) (z ∷ insert_behind cmp x (insert_sorted cmp y zs))) (sym f)
        ] refl
        | false ↦ λ f. elim (is_le (cmp y z)) as (λ d. is_le (cmp y z) ≡ d → cond d (y ∷ z ∷ insert_behind cmp x zs) (z ∷ insert_sorted cmp y (insert_behind cmp x zs)) ≡ insert_behind cmp x (cond d (y ∷ z ∷ zs) (z ∷ insert_sorted cmp y zs))) [
          | true ↦ λ e. ap (λ c. y ∷ cond c (x ∷ z ∷ zs) (z ∷ insert_behind cmp x zs)) (sym f)
              ∙ ap (λ q. cond q (x ∷ y ∷ z ∷ zs) (y ∷ insert_behind cmp x (z ∷ zs))) (sym (weak.chain x z y f (at_most y z e)))
          | false ↦ λ e. ap (λ us. z ∷ us) (insert_both y x zs) ∙ ap (λ c. cond c (x ∷ z ∷ insert_sorted cmp y zs) (z ∷ insert_behind cmp x (insert_sorted cmp y zs))) (sym f)
        ] refl
      ] refl

  -- one more item at the end is one more put behind those that compare alike
  pub sorted-snoc : (xs : List A) (x : A) → sorted cmp (xs ++ x ∷ []) ≡ insert_behind cmp x (sorted cmp xs)
  sorted-snoc [] x = refl
  sorted-snoc (y ∷ ys) x = ap (insert_sorted cmp y) (sorted-snoc ys x) ∙ insert_both y x (sorted cmp ys)

module _ {A : Type 0} (cmp : A → A → Ordering) where
  -- an insertion makes a list one longer
  length-insert_sorted : (x : A) (ys : List A) → length (insert_sorted cmp x ys) ≡ suc (length ys)
  length-insert_sorted x [] = refl
  length-insert_sorted x (y ∷ ys) =
      elim (is_le (cmp x y)) as (λ b. length (cond b (x ∷ y ∷ ys) (y ∷ insert_sorted cmp x ys)) ≡ suc (suc (length ys))) [ true ↦ refl | false ↦ ap suc (length-insert_sorted x ys) ]

  pub length-insert_behind : (x : A) (ys : List A) → length (insert_behind cmp x ys) ≡ suc (length ys)
  length-insert_behind x [] = refl
  length-insert_behind x (y ∷ ys) =
      elim (is_lt (cmp x y)) as (λ b. length (cond b (x ∷ y ∷ ys) (y ∷ insert_behind cmp x ys)) ≡ suc (suc (length ys))) [ true ↦ refl | false ↦ ap suc (length-insert_behind x ys) ]

  -- a sorted list is as long as the list
  pub length-sorted : (xs : List A) → length (sorted cmp xs) ≡ length xs
  length-sorted [] = refl
  length-sorted (x ∷ xs) = length-insert_sorted x (sorted cmp xs) ∙ ap suc (length-sorted xs)

-- what keeps an order keeps what is sorted in it
module _ {A B : Type 0} (f : A → B) (lt : A → A → Bool) (new_lt : B → B → Bool) (same : (x y : A) → new_lt (f x) (f y) ≡ lt x y) where
  -- a lower bound of the items is one of what is made of them
  at_least_map : (x : A) (ys : List A) → AtLeast lt x ys → AtLeast new_lt (f x) (map f ys)
  at_least_map x [] all = tt
  at_least_map x (y ∷ ys) all = (same y x ∙ all.0, at_least_map x ys all.1)

  -- what is made of ascending items ascends
  pub ascends_map : (xs : List A) → Ascends lt xs → Ascends new_lt (map f xs)
  ascends_map [] up = tt
  ascends_map (x ∷ xs) up = (at_least_map x xs up.0, ascends_map xs up.1)

  -- what is made of sorted items is sorted, in std's word
  pub IsSortedBy-map : IsStrictWeakOrder lt → (xs : List A) → IsSortedBy lt xs → IsSortedBy new_lt (map f xs)
  IsSortedBy-map order xs up = sort_from_ascends new_lt (map f xs) (ascends_map xs (ascends_from_sort lt order xs up))
