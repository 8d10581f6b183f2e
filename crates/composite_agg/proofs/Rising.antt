-- The distinct keys of a list that does not fall, one key after another.
use Rattle.std.specs.Prelude.{◌≡◌, refl, T, List, [], ◌∷◌, ◌++◌, Option, Some, None}
use Rattle.std.specs.List.{last_or, AllByRecursion}
use Rattle.std.specs.Cmp.{tied_itself}
use Rattle.std.specs.Ordering.{match_ordering, is_le}
use Rattle.std.specs.declared.cmp.Ordering.{Ordering}
use Rattle.std.specs.declared.cmp.Ordering.TheVariants.{Less, Equal, Greater}
use Rattle.std.proofs.Common.{sym, ◌∙◌, ap}
use Rattle.agg_model.specs.declared.key.Key.{Key}
use Rattle.agg_evaluation.specs.KeyOrder.{key_cmp}
use Rattle.agg_evaluation.specs.Keys.{distinct_keys}
use Rattle.agg_evaluation.proofs.KeyCompare.{key_cmp_total}
use Rattle.agg_evaluation.proofs.KeyExact.{exact_keys}
use Rattle.list_laws.specs.Sorting.{insert_once}
use Rattle.list_laws.proofs.Options.{some_same}

-- each key is at most the next
abbrev pub RisesFrom : Key → List Key → Type 0
RisesFrom j [] = Unit {0}
RisesFrom j (k ∷ ks) = T (is_le (key_cmp j k)) × RisesFrom k ks

abbrev pub Rises : List Key → Type 0
Rises [] = Unit {0}
Rises (k ∷ ks) = RisesFrom k ks

strictly : (j k : Key) → T (is_le (key_cmp j k)) → (j ≡ k → ⊥) → key_cmp j k ≡ Less
strictly j k le differs = elim (key_cmp j k) as (λ o. key_cmp j k ≡ o → T (is_le o) → o ≡ Less) [
  | Less ↦ λ e h. refl
  | Equal ↦ λ e h. absurd (differs (exact_keys j k e))
  | Greater ↦ λ e h. absurd h
] refl le

at_most_less : (j i k : Key) → T (is_le (key_cmp j i)) → key_cmp i k ≡ Less → key_cmp j k ≡ Less
at_most_less j i k le less = elim (key_cmp j i) as (λ o. key_cmp j i ≡ o → T (is_le o) → key_cmp j k ≡ Less) [
  | Less ↦ λ e h. key_cmp_total.trans j i k e less
  | Equal ↦ λ e h. key_cmp_total.congr j i k e ∙ less
  | Greater ↦ λ e h. absurd h
] refl le

below_last : (j : Key) (js : List Key) (k : Key) → RisesFrom j (js ++ k ∷ []) → (last_or (Some j) js ≡ Some k → ⊥) → AllByRecursion (λ i. key_cmp i k ≡ Less) (j ∷ js)
below_last j [] k rises differs = (strictly j k rises.0 (λ e. differs (ap Some e)), tt)
below_last j (i ∷ js) k rises differs = let rest = below_last i js k rises.1 differs in (at_most_less j i k rises.0 rest.0, rest)

by_order : (r : Ordering) (j x k : Key) (ks into into_more : List Key) → into_more ≡ into ++ k ∷ []
    → match_ordering r (j ∷ x ∷ (ks ++ k ∷ [])) (x ∷ (ks ++ k ∷ [])) (x ∷ into_more) ≡ match_ordering r (j ∷ x ∷ ks) (x ∷ ks) (x ∷ into) ++ k ∷ []
by_order Less j x k ks into into_more e = refl
by_order Equal j x k ks into into_more e = refl
by_order Greater j x k ks into into_more e = ap (λ (ls : List Key). x ∷ ls) e

insert-last : (j : Key) (ks : List Key) (k : Key) → key_cmp j k ≡ Less → insert_once key_cmp j (ks ++ k ∷ []) ≡ insert_once key_cmp j ks ++ k ∷ []
insert-last j [] k less = ap (λ (r : Ordering). match_ordering r (j ∷ k ∷ []) (k ∷ []) (k ∷ j ∷ [])) less
insert-last j (x ∷ ks) k less = by_order (key_cmp j x) j x k ks (insert_once key_cmp j ks) (insert_once key_cmp j (ks ++ k ∷ [])) (insert-last j ks k less)

above_all : (js : List Key) (k : Key) → AllByRecursion (λ j. key_cmp j k ≡ Less) js → distinct_keys (js ++ k ∷ []) ≡ distinct_keys js ++ k ∷ []
above_all [] k all = refl
above_all (j ∷ js) k all = ap (insert_once key_cmp j) (above_all js k all.1) ∙ insert-last j (distinct_keys js) k all.0

same_last : (j : Key) (js : List Key) (k : Key) → last_or (Some j) js ≡ Some k → distinct_keys ((j ∷ js) ++ k ∷ []) ≡ distinct_keys (j ∷ js)
same_last j [] k e =
    let same : j ≡ k = some_same j k e in
    ap (λ (r : Ordering). match_ordering r (j ∷ k ∷ []) (k ∷ []) (k ∷ j ∷ [])) (ap (key_cmp j) (sym same) ∙ tied_itself key_cmp_total j) ∙ ap (λ (i : Key). i ∷ []) (sym same)
same_last j (i ∷ js) k e = ap (insert_once key_cmp j) (same_last i js k e)

-- a key that equals the last one is not another
pub repeated : (js : List Key) (k : Key) → last_or None js ≡ Some k → distinct_keys (js ++ k ∷ []) ≡ distinct_keys js
repeated [] k e = absurd (cc e)
repeated (j ∷ js) k e = same_last j js k e

-- one that differs from it is
pub another : (js : List Key) (k : Key) → Rises (js ++ k ∷ []) → (last_or None js ≡ Some k → ⊥) → distinct_keys (js ++ k ∷ []) ≡ distinct_keys js ++ k ∷ []
another [] k rises differs = refl
another (j ∷ js) k rises differs = above_all (j ∷ js) k (below_last j js k rises differs)

pub last-of : (o : Option Key) (js : List Key) (k : Key) → last_or o (js ++ k ∷ []) ≡ Some k
last-of o [] k = refl
last-of o (j ∷ js) k = last-of (Some j) js k
