-- Lists whose places ascend: one more item at their end, and how they go into a map from their end.
use Rattle.std.specs.Prelude.{◌≡◌, refl, ℕ, ◌+◌, ◌<◌, ◌≤◌, List, [], ◌∷◌, ◌++◌, length, Some, None, cond}
use Rattle.std.specs.declared.cmp.Ordering.TheVariants.{Less, Equal, Greater}
use Rattle.std.specs.Ordering.{nat_cmp, is_eq, match_ordering}
use Rattle.std.specs.Map.{lookup}
use Rattle.std.specs.BTreeMap.{is_at, insert_entry}
use Rattle.std.proofs.Common.{sym, ◌∙◌, ap, subst, append_assoc, arith}
use Rattle.std.specs.Cmp.{nat_cmp_is}
use Rattle.document_rows.specs.Drafts.{with_item, Ascends, all_lists}

module _ {A : Type 0} where
  -- each place is from the least one on
  least_place : (least : ℕ) (es : List (ℕ × List A)) (place : ℕ) (xs : List A) (later : List (ℕ × List A)) → Ascends least (es ++ (place, xs) ∷ later) → least ≤ place
  least_place least [] place xs later up = up.0
  least_place least (e ∷ es) place xs later up = omega (arith, up.0, least_place (e.0 + 1) es place xs later up.1)

  pub up_to_last : (least : ℕ) (es : List (ℕ × List A)) (e : ℕ × List A) → Ascends least (es ++ e ∷ []) → Ascends least es
  up_to_last least [] e up = tt
  up_to_last least (f ∷ fs) e up = (up.0, up_to_last (f.0 + 1) fs e up.1)

  pub last_replaced : (least : ℕ) (es : List (ℕ × List A)) (place : ℕ) (xs ys : List A) → Ascends least (es ++ (place, xs) ∷ []) → Ascends least (es ++ (place, ys) ∷ [])
  last_replaced least [] place xs ys up = (up.0, tt)
  last_replaced least (e ∷ es) place xs ys up = (up.0, last_replaced (e.0 + 1) es place xs ys up.1)

  pub one_behind : (least : ℕ) (es : List (ℕ × List A)) (last place : ℕ) (xs ys : List A) → last < place → Ascends least (es ++ (last, xs) ∷ []) → Ascends least ((es ++ (last, xs) ∷ []) ++ (place, ys) ∷ [])
  one_behind least [] last place xs ys below up = (up.0, (omega (arith, below), tt))
  one_behind least (e ∷ es) last place xs ys below up = (up.0, one_behind (e.0 + 1) es last place xs ys below up.1)

  -- ---- an item at the last place

  pub with_last : (least : ℕ) (es : List (ℕ × List A)) (place : ℕ) (x : A) (xs : List A) → Ascends least (es ++ (place, xs) ∷ []) → with_item place x (es ++ (place, xs) ∷ []) ≡ es ++ (place, xs ++ x ∷ []) ∷ []
  with_last least [] place x xs up =
      ap (λ o. match_ordering o ((place, x ∷ []) ∷ (place, xs) ∷ []) ((place, xs ++ x ∷ []) ∷ []) ((place, xs) ∷ with_item place x [])) (sym (nat_cmp_is place place Equal refl))
  with_last least (e ∷ es) place x xs up =
      ap (λ o. match_ordering o ((place, x ∷ []) ∷ e ∷ es ++ (place, xs) ∷ []) ((place, e.1 ++ x ∷ []) ∷ es ++ (place, xs) ∷ []) (e ∷ with_item place x (es ++ (place, xs) ∷ [])))
      (sym (nat_cmp_is place e.0 Greater (omega (arith, least_place (e.0 + 1) es place xs [] up.1))))
      ∙ ap (λ rest. e ∷ rest) (with_last (e.0 + 1) es place x xs up.1)

  pub found_last : (least : ℕ) (es : List (ℕ × List A)) (place : ℕ) (xs : List A) → Ascends least (es ++ (place, xs) ∷ []) → lookup (is_at (nat_cmp place)) (es ++ (place, xs) ∷ []) ≡ Some xs
  found_last least [] place xs up = ap (λ o. cond (is_eq o) (Some xs) None) (sym (nat_cmp_is place place Equal refl))
  found_last least (e ∷ es) place xs up =
      ap (λ o. cond (is_eq o) (Some e.1) (lookup (is_at (nat_cmp place)) (es ++ (place, xs) ∷ []))) (sym (nat_cmp_is place e.0 Greater (omega (arith, least_place (e.0 + 1) es place xs [] up.1))))
      ∙ found_last (e.0 + 1) es place xs up.1

  -- ---- an item behind the last place

  pub with_behind : (least : ℕ) (es : List (ℕ × List A)) (last place : ℕ) (x : A) (xs : List A) → last < place → Ascends least (es ++ (last, xs) ∷ [])
      → with_item place x (es ++ (last, xs) ∷ []) ≡ (es ++ (last, xs) ∷ []) ++ (place, x ∷ []) ∷ []
  with_behind least [] last place x xs below up =
      ap (λ o. match_ordering o ((place, x ∷ []) ∷ (last, xs) ∷ []) ((place, xs ++ x ∷ []) ∷ []) ((last, xs) ∷ with_item place x [])) (sym (nat_cmp_is place last Greater below))
  with_behind least (e ∷ es) last place x xs below up =
      ap (λ o. match_ordering o ((place, x ∷ []) ∷ e ∷ es ++ (last, xs) ∷ []) ((place, e.1 ++ x ∷ []) ∷ es ++ (last, xs) ∷ []) (e ∷ with_item place x (es ++ (last, xs) ∷ [])))
      (sym (nat_cmp_is place e.0 Greater (omega (arith, below, least_place (e.0 + 1) es last xs [] up.1))))
      ∙ ap (λ rest. e ∷ rest) (with_behind (e.0 + 1) es last place x xs below up.1)

  pub none_behind : (least : ℕ) (es : List (ℕ × List A)) (last place : ℕ) (xs : List A) → last < place → Ascends least (es ++ (last, xs) ∷ [])
      → lookup (is_at (nat_cmp place)) (es ++ (last, xs) ∷ []) ≡ None
  none_behind least [] last place xs below up = ap (λ o. cond (is_eq o) (Some xs) None) (sym (nat_cmp_is place last Greater below))
  none_behind least (e ∷ es) last place xs below up =
      ap (λ o. cond (is_eq o) (Some e.1) (lookup (is_at (nat_cmp place)) (es ++ (last, xs) ∷ []))) (sym (nat_cmp_is place e.0 Greater (omega (arith, below, least_place (e.0 + 1) es last xs [] up.1))))
      ∙ none_behind (e.0 + 1) es last place xs below up.1

  -- ---- a map that takes the entries from the last one on

  pub put_in_front : (least : ℕ) (es : List (ℕ × List A)) (place : ℕ) (xs : List A) (later : List (ℕ × List A)) → Ascends least (es ++ (place, xs) ∷ later) → insert_entry nat_cmp later place xs ≡ (place, xs) ∷ later
  put_in_front least [] place xs [] up = refl
  put_in_front least [] place xs (l ∷ ls) up =
      ap (λ o. match_ordering o ((place, xs) ∷ l ∷ ls) ((l.0, xs) ∷ ls) (l ∷ insert_entry nat_cmp ls place xs)) (sym (nat_cmp_is place l.0 Less (omega (arith, up.1.0))))
  put_in_front least (e ∷ es) place xs later up = put_in_front (e.0 + 1) es place xs later up.1

  -- ---- the lists of a map that has one

  pub lists_of_map : (ascending es : List (ℕ × List A)) → 0 < length es → all_lists ascending es ≡ es
  lists_of_map ascending [] some = let no : ⊥ = omega (arith, some) in absurd no
  lists_of_map ascending (e ∷ es) some = refl

  pub lists_with : (ascending : List (ℕ × List A)) (place : ℕ) (x : A) (es : List (ℕ × List A)) → all_lists ascending (with_item place x es) ≡ with_item place x es
  lists_with ascending place x [] = refl
  lists_with ascending place x (e ∷ es) =
      elim (nat_cmp place e.0) as (λ o.
      let found = match_ordering o ((place, x ∷ []) ∷ e ∷ es) ((place, e.1 ++ x ∷ []) ∷ es) (e ∷ with_item place x es) in all_lists ascending found ≡ found) [ Less ↦ refl | Equal ↦ refl | Greater ↦ refl ]

  pub lists_in_order : (ascending es : List (ℕ × List A)) → length es ≡ 0 → all_lists ascending es ≡ ascending
  lists_in_order ascending [] none = refl
  lists_in_order ascending (e ∷ es) none = let no : ⊥ = omega (arith, none) in absurd no

  -- ---- the last list was taken off a vector, and no list is in the map

  module _ (ascending front others : List (ℕ × List A)) (last place : ℕ) (xs : List A) (none : length others ≡ 0) (popped : ascending ≡ front ++ (last, xs) ∷ []) (up : Ascends 0 ascending) where
    pub front_ascends : Ascends 0 front
    front_ascends = up_to_last 0 front (last, xs) (subst (Ascends 0) popped up)

    module _ (same : last ≡ place) where
      here : ascending ≡ front ++ (place, xs) ∷ []
      here = popped ∙ ap (λ n. front ++ (n, xs) ∷ []) same

      pub found_here : lookup (is_at (nat_cmp place)) (all_lists ascending others) ≡ Some xs
      found_here = ap (lookup (is_at (nat_cmp place))) (lists_in_order ascending others none ∙ here) ∙ found_last 0 front place xs (subst (Ascends 0) here up)

      pub raised : (x : A) (new : List (ℕ × List A)) → new ≡ front ++ (last, xs ++ x ∷ []) ∷ [] → all_lists new others ≡ with_item place x (all_lists ascending others)
      raised x new is =
          lists_in_order new others none ∙ is ∙ ap (λ n. front ++ (n, xs ++ x ∷ []) ∷ []) same
          ∙ sym (ap (with_item place x) (lists_in_order ascending others none ∙ here) ∙ with_last 0 front place x xs (subst (Ascends 0) here up))

      pub raised_ascends : (x : A) (new : List (ℕ × List A)) → new ≡ front ++ (last, xs ++ x ∷ []) ∷ [] → Ascends 0 new
      raised_ascends x new is = subst (Ascends 0) (sym is) (last_replaced 0 front last xs (xs ++ x ∷ []) (subst (Ascends 0) popped up))

    module _ (below : last < place) where
      pub none_here : lookup (is_at (nat_cmp place)) (all_lists ascending others) ≡ None
      none_here = ap (lookup (is_at (nat_cmp place))) (lists_in_order ascending others none ∙ popped) ∙ none_behind 0 front last place xs below (subst (Ascends 0) popped up)

      pub put_behind : (x : A) (new : List (ℕ × List A)) → new ≡ (front ++ (last, xs) ∷ []) ++ (place, x ∷ []) ∷ [] → all_lists new others ≡ with_item place x (all_lists ascending others)
      put_behind x new is =
          lists_in_order new others none ∙ is
          ∙ sym (ap (with_item place x) (lists_in_order ascending others none ∙ popped) ∙ with_behind 0 front last place x xs below (subst (Ascends 0) popped up))

      pub behind_ascends : (x : A) (new : List (ℕ × List A)) → new ≡ (front ++ (last, xs) ∷ []) ++ (place, x ∷ []) ∷ [] → Ascends 0 new
      behind_ascends x new is = subst (Ascends 0) (sym is) (one_behind 0 front last place xs (x ∷ []) below (subst (Ascends 0) popped up))

  -- ---- the last list of what is left goes into the map, which has those behind it

  pub moved_over : (front before left later after : List (ℕ × List A)) (place : ℕ) (xs : List A) → left ++ before ≡ later → Ascends 0 later → left ≡ front ++ (place, xs) ∷ [] → after ≡ insert_entry nat_cmp before place xs
      → front ++ after ≡ later
  moved_over front before left later after place xs whole up popped is =
      let parts : front ++ (place, xs) ∷ before ≡ later = sym (append_assoc front ((place, xs) ∷ []) before) ∙ ap (λ es. es ++ before) (sym popped) ∙ whole in
      ap (λ es. front ++ es) (is ∙ put_in_front 0 front place xs before (subst (Ascends 0) (sym parts) up)) ∙ parts
