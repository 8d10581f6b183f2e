-- The first item with a path, by binary search.
use Rattle.std.proofs.Common.{◌≡◌, refl, ℕ, ◌+◌, ◌<◌, ◌≤◌, zero, suc, true, false, List, [], ◌∷◌, Option, Some, None, cond, length, get_or, option_map, sym, ◌∙◌, ap, arith, ⊎_elim, add-zero}
use Rattle.std.specs.Prelude.{◌||◌, slice_get, is_some}
use Rattle.std.specs.declared.cmp.Ordering.{Ordering}
use Rattle.std.specs.declared.cmp.Ordering.TheVariants.{Less, Equal, Greater}
use Rattle.std.specs.Ordering.{nat_cmp, is_lt, is_eq, ordering_reverse}
use Rattle.std.specs.Cmp.Lexicographic.{slice_cmp, texts_ties, nat_list_eq_equiv}
use Rattle.std.specs.List.{list_any}
use Rattle.std.specs.List.Sorted.{IsPartitionedBy, IsPartitionPoint}
use Rattle.std.specs.Str.{bytes_eq}
use Rattle.std.proofs.lemmas.Bool.{cases_Bool, true≢false, false≢true}
use Rattle.std.proofs.lemmas.Cmp.{nat_list_cmp_total}
use Rattle.std.proofs.lemmas.List.Sorted.{sorted_far, ranks_by}
use Rattle.std.proofs.lemmas.Map.Lookups.{exact_bytes}
use Rattle.std.proofs.lemmas.Map.Views.{tells_apart}
use Rattle.list_laws.proofs.StableSort.{AtLeast, Ascends, ascends_from_sort}
use Rattle.agg_model.specs.declared.mapping.Field.{Field}
use Rattle.agg_model.specs.declared.mapping.NestedPath.{NestedPath}
use Rattle.agg_reading.specs.declared.parts.FoundPath.{FoundPath}
use Rattle.agg_reading.specs.Fields.{field_from, nested_from}
use Rattle.agg_reading.specs.Json.{is_among}
use Rattle.agg_reading.specs.Mapping.{found_from}
use Rattle.agg_reading.specs.Properties.{is_before}
use Rattle.agg_model.specs.MappingOrder.{AscendsBy}
use Rattle.agg_mapping.specs.Paths.{first_from}
use Rattle.agg_reading.proofs.PathOrder.{below, weak}

not_eq : (o : Ordering) → is_lt o ≡ true → is_eq o ≡ false
not_eq Less e = refl
not_eq Equal e = absurd (false≢true e)
not_eq Greater e = refl

turned : (o : Ordering) → is_lt o ≡ false → is_eq o ≡ false → is_lt (ordering_reverse o) ≡ true
turned Less e f = absurd (true≢false e)
turned Equal e f = absurd (true≢false f)
turned Greater e f = refl

same_path : (p q : List ℕ) → bytes_eq p q ≡ true → p ≡ q
same_path p q e = tells_apart exact_bytes p q (sym (texts_ties p q) ∙ e)

differs : (p q : List ℕ) → is_before p q ≡ true → bytes_eq p q ≡ false
differs p q e = texts_ties p q ∙ not_eq (slice_cmp nat_cmp p q) e

-- of two paths that differ one is before the other
comes_after : (p q : List ℕ) → is_before p q ≡ false → bytes_eq p q ≡ false → is_before q p ≡ true
comes_after p q e f = ap is_lt (nat_list_cmp_total.antisymm q p) ∙ turned (slice_cmp nat_cmp p q) e (sym (texts_ties p q) ∙ f)

pub none_past : {A : Type 0} (xs : List A) (i : ℕ) → length xs ≤ i → slice_get xs i ≡ None
none_past [] i h = refl
none_past (x ∷ xs) zero h = absurd (omega (arith, h))
none_past (x ∷ xs) (suc i) h = none_past xs i (omega arith)

pub some_at : {A : Type 0} (xs : List A) (i : ℕ) (x : A) → i < length xs → x ≡ get_or xs i x → slice_get xs i ≡ Some x
some_at [] i x h e = absurd (omega (arith, h))
some_at (y ∷ ys) zero x h e = ap Some (sym e)
some_at (y ∷ ys) (suc i) x h e = some_at ys i x (omega arith) e

module _ {A : Type 0} (path_of : A → List ℕ) where
  -- what is before a path stands in front of what is not
  pub parts_at : (xs : List A) (path : List ℕ) → AscendsBy path_of xs → IsPartitionedBy (λ x. is_before (path_of x) path) xs
  parts_at xs path up i j d le within e =
      let paths = ranks_by nat_list_cmp_total (λ (p : List ℕ). p) in
      ⊎_elim (λ f. f) (λ f. absurd (true≢false (sym e ∙ paths.chain (path_of (get_or xs j d)) (path_of (get_or xs i d)) path (sorted_far (below path_of) (weak path_of) xs up i j d le within) f)))
      (cases_Bool (is_before (path_of (get_or xs i d)) path))

  none_after : (n : ℕ) (path : List ℕ) (x : A) (ys : List A) → AtLeast (below path_of) x ys → is_before path (path_of x) ≡ true → first_from path_of n ys path ≡ None
  unfolding first_from
  none_after n path x [] all e = refl
  none_after n path x (y ∷ ys) all e =
      ⊎_elim (λ same. absurd (true≢false (sym e ∙ ap (λ q. is_before q (path_of x)) (sym (same_path (path_of y) path same)) ∙ all.0)))
      (λ other. ap (λ b. cond b (Some (n, y)) (first_from path_of (n + 1) ys path)) other ∙ none_after (n + 1) path x ys all.1 e)
      (cases_Bool (bytes_eq (path_of y) path))

  -- the item at a place, where it has the path
  abbrev pub taken : ℕ → Option A → List ℕ → Option (ℕ × A)
  taken at None path = None
  taken at (Some x) path = cond (bytes_eq (path_of x) path) (Some (at, x)) None

  found_at : (n i : ℕ) (xs : List A) (path : List ℕ) → Ascends (below path_of) xs → ((k : ℕ) (d : A) → k < i → k < length xs → is_before (path_of (get_or xs k d)) path ≡ true) → ((k : ℕ) (d : A) → i ≤ k → k < length xs → is_before (path_of (get_or xs k d)) path ≡ false) → first_from path_of n xs path ≡ taken (n + i) (slice_get xs i) path
  unfolding first_from
  found_at n i [] path up front back = refl
  found_at n zero (x ∷ xs) path up front back =
      ⊎_elim (λ same. ap (λ b. cond b (Some (n, x)) (first_from path_of (n + 1) xs path)) same ∙ ap (λ (m : ℕ). Some (m, x)) (sym (add-zero n)) ∙ ap (λ b. cond b (Some (n + 0, x)) None) (sym same))
      (λ other. ap (λ b. cond b (Some (n, x)) (first_from path_of (n + 1) xs path)) other ∙ none_after (n + 1) path x xs up.0 (comes_after (path_of x) path (back 0 x (omega arith) (omega arith)) other) ∙ ap (λ b. cond b (Some (n + 0, x)) None) (sym other))
      (cases_Bool (bytes_eq (path_of x) path))
  found_at n (suc i) (x ∷ xs) path up front back =
      let other : bytes_eq (path_of x) path ≡ false = differs (path_of x) path (front 0 x (omega arith) (omega arith)) in
      let places : n + 1 + i ≡ n + suc i = omega arith in
      ap (λ b. cond b (Some (n, x)) (first_from path_of (n + 1) xs path)) other
      ∙ found_at (n + 1) i xs path up.1 (λ k d a b. front (suc k) d (omega arith) (omega arith)) (λ k d a b. back (suc k) d (omega arith) (omega arith))
      ∙ ap (λ (m : ℕ). taken m (slice_get xs i) path) places

  -- what a binary search finds
  pub search_gives : (xs : List A) (path : List ℕ) (i : ℕ) → AscendsBy path_of xs → IsPartitionPoint (λ y. is_before (path_of y) path ≡ true) (λ y. is_before (path_of y) path ≡ false) xs i → first_from path_of 0 xs path ≡ taken i (slice_get xs i) path
  search_gives xs path i up point =
      let start : 0 + i ≡ i = omega arith in
      found_at 0 i xs path (ascends_from_sort (below path_of) (weak path_of) xs up) (λ k d a b. point.0 k d (omega arith) a) (λ k d a b. point.1 k d a b)
      ∙ ap (λ (m : ℕ). taken m (slice_get xs i) path) start

pub field_is : (n : ℕ) (fs : List Field) (path : List ℕ) → first_from (λ f. f.path) n fs path ≡ field_from n fs path
unfolding first_from field_from
field_is n [] path = refl
field_is n (f ∷ fs) path = ap (λ r. cond (bytes_eq f.path path) (Some (n, f)) r) (field_is (n + 1) fs path)

pub nested_is : (n : ℕ) (ps : List NestedPath) (path : List ℕ) → first_from (λ p. p.path) n ps path ≡ nested_from n ps path
unfolding first_from nested_from
nested_is n [] path = refl
nested_is n (p ∷ ps) path = ap (λ r. cond (bytes_eq p.path path) (Some (n, p)) r) (nested_is (n + 1) ps path)

pub found_is : (n : ℕ) (ps : List FoundPath) (path : List ℕ) → option_map (λ p. p.0) (first_from (λ p. p.path) n ps path) ≡ found_from n ps path
unfolding first_from found_from
found_is n [] path = refl
found_is n (p ∷ ps) path =
    elim (bytes_eq p.path path) as (λ b. option_map (λ q. q.0) (cond b (Some (n, p)) (first_from (λ p. p.path) (n + 1) ps path)) ≡ cond b (Some n) (found_from (n + 1) ps path)) [ true ↦ refl | false ↦ found_is (n + 1) ps path ]

pub among_is : (n : ℕ) (ps : List (List ℕ)) (path : List ℕ) → is_some (first_from (λ p. p) n ps path) ≡ is_among ps path
unfolding first_from
among_is n [] path = refl
among_is n (p ∷ ps) path =
    ap (λ b. is_some (cond b (Some (n, p)) (first_from (λ p. p) (n + 1) ps path))) (nat_list_eq_equiv.symm p path)
    ∙ elim (bytes_eq path p) as (λ b. is_some (cond b (Some (n, p)) (first_from (λ p. p) (n + 1) ps path)) ≡ (b || list_any (bytes_eq path) ps)) [ true ↦ refl | false ↦ among_is (n + 1) ps path ]
