-- The distinct keys of a list that rises, one key after another.
use Rattle.std.specs.Prelude.{◌≡◌, refl, true, List, [], ◌∷◌, ◌++◌, Option, Some, None}
use Rattle.std.specs.List.{last_or, AllByRecursion}
use Rattle.std.specs.Ordering.{match_ordering, is_le}
use Rattle.std.specs.declared.cmp.Ordering.{Ordering}
use Rattle.std.specs.declared.cmp.Ordering.TheVariants.{Less, Equal, Greater}
use Rattle.std.specs.Cmp.{tied_itself}
use Rattle.std.proofs.Common.{sym, ◌∙◌, ap}
use Rattle.agg_model.specs.declared.key.Key.{Key}
use Rattle.agg_evaluation.specs.KeyOrder.{key_cmp}
use Rattle.agg_evaluation.specs.Keys.{distinct_keys}
use Rattle.agg_evaluation.proofs.KeyCompare.{key_cmp_total}
use Rattle.agg_evaluation.proofs.KeyExact.{exact_keys}
use Rattle.list_laws.specs.Sorting.{insert_once}
use Rattle.list_laws.proofs.Options.{some_same}

by_order : (r : Ordering) (j x k : Key) (ks into into_more : List Key) → into_more ≡ into ++ k ∷ []
    → match_ordering r (j ∷ x ∷ (ks ++ k ∷ [])) (x ∷ (ks ++ k ∷ [])) (x ∷ into_more) ≡ match_ordering r (j ∷ x ∷ ks) (x ∷ ks) (x ∷ into) ++ k ∷ []
by_order Less j x k ks into into_more e = refl
by_order Equal j x k ks into into_more e = refl
by_order Greater j x k ks into into_more e = ap (λ (ls : List Key). x ∷ ls) e

insert-last : (j : Key) (ks : List Key) (k : Key) → key_cmp j k ≡ Less → insert_once key_cmp j (ks ++ k ∷ []) ≡ insert_once key_cmp j ks ++ k ∷ []
insert-last j [] k less = ap (λ (r : Ordering). match_ordering r (j ∷ k ∷ []) (k ∷ []) (k ∷ j ∷ [])) less
insert-last j (x ∷ ks) k less = by_order (key_cmp j x) j x k ks (insert_once key_cmp j ks) (insert_once key_cmp j (ks ++ k ∷ [])) (insert-last j ks k less)

distinct-new : (js : List Key) (k : Key) → AllByRecursion (λ j. key_cmp j k ≡ Less) js → distinct_keys (js ++ k ∷ []) ≡ distinct_keys js ++ k ∷ []
distinct-new [] k all = refl
distinct-new (j ∷ js) k all = ap (insert_once key_cmp j) (distinct-new js k all.1) ∙ insert-last j (distinct_keys js) k all.0

distinct-same : (j : Key) (js : List Key) (k : Key) → last_or (Some j) js ≡ Some k → distinct_keys ((j ∷ js) ++ k ∷ []) ≡ distinct_keys (j ∷ js)
distinct-same j [] k e =
    let same : j ≡ k = some_same j k e in
    ap (λ (r : Ordering). match_ordering r (j ∷ k ∷ []) (k ∷ []) (k ∷ j ∷ [])) (ap (key_cmp j) (sym same) ∙ tied_itself key_cmp_total j) ∙ ap (λ (n : Key). n ∷ []) (sym same)
distinct-same j (i ∷ js) k e = ap (insert_once key_cmp j) (distinct-same i js k e)

-- each key is at most the next
abbrev pub RisesFrom : Key → List Key → Type 0
RisesFrom j [] = Unit {0}
RisesFrom j (k ∷ ks) = (is_le (key_cmp j k) ≡ true) × RisesFrom k ks

abbrev pub Rises : List Key → Type 0
Rises [] = Unit {0}
Rises (j ∷ js) = RisesFrom j js

less_of_both : (r : Ordering) → is_le r ≡ true → (r ≡ Equal → ⊥) → r ≡ Less
less_of_both Less le differ = refl
less_of_both Equal le differ = absurd (differ refl)
less_of_both Greater le differ = absurd (cc le)

below_next : (i j k : Key) (r : Ordering) → key_cmp i j ≡ r → is_le r ≡ true → key_cmp j k ≡ Less → key_cmp i k ≡ Less
below_next i j k Less is le less = key_cmp_total.trans i j k is less
below_next i j k Equal is le less = ap (λ (h : Key). key_cmp h k) (exact_keys i j is) ∙ less
below_next i j k Greater is le less = absurd (cc le)

below_last : (j : Key) (js : List Key) (k : Key) → RisesFrom j (js ++ k ∷ []) → (last_or (Some j) js ≡ Some k → ⊥) → AllByRecursion (λ i. key_cmp i k ≡ Less) (j ∷ js)
below_last j [] k rises differs = (less_of_both (key_cmp j k) rises.0 (λ e. differs (ap Some (exact_keys j k e))), tt)
below_last j (i ∷ js) k rises differs = let rest = below_last i js k rises.1 differs in (below_next j i k (key_cmp j i) refl rises.0 rest.0, rest)

-- a key that equals the last one is no new one
pub repeated : (js : List Key) (k : Key) → last_or None js ≡ Some k → distinct_keys (js ++ k ∷ []) ≡ distinct_keys js
repeated [] k e = absurd (cc e)
repeated (j ∷ js) k e = distinct-same j js k e

-- another one is
pub another : (js : List Key) (k : Key) → Rises (js ++ k ∷ []) → (last_or None js ≡ Some k → ⊥) → distinct_keys (js ++ k ∷ []) ≡ distinct_keys js ++ k ∷ []
another [] k rises differs = refl
another (j ∷ js) k rises differs = distinct-new (j ∷ js) k (below_last j js k rises differs)

pub last-of : (o : Option Key) (js : List Key) (k : Key) → last_or o (js ++ k ∷ []) ≡ Some k
last-of o [] k = refl
last-of o (j ∷ js) k = last-of (Some j) js k
