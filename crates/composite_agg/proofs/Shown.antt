-- The order of parts and those that wheels show, one source after another.
use Rattle.std.proofs.Common.{◌≡◌, refl, ℕ, zero, suc, ◌+◌, ◌<◌, List, [], ◌∷◌, length, get_or, drop, sym, ◌∙◌, ap, arith, add-one}
use Rattle.std.specs.Prelude.{◌≤◌, Option, Some, None, option_copied, option_map}
use Rattle.std.specs.Borrow.{Bor}
use Rattle.std.specs.List.{slice_get}
use Rattle.std.specs.Slice.{IsItemAt}
use Rattle.std.specs.Ordering.{is_gt, is_lt, ordering_reverse, ordering_then}
use Rattle.std.specs.declared.cmp.Ordering.{Ordering}
use Rattle.std.specs.declared.cmp.Ordering.TheVariants.{Less, Equal, Greater}
use Rattle.agg_model.specs.declared.aggregation.CompositeSource.{CompositeSource}
use Rattle.agg_model.specs.declared.key.Key.{Key}
use Rattle.agg_model.specs.declared.key.Key.TheVariants.{Many}
use Rattle.agg_evaluation.proofs.FoldLaws.{out-Many}
use Rattle.agg_evaluation.specs.CompositeKeys.{key_parts_at}
use Rattle.bucket_order.specs.Composites.{any_parts_cmp, first_of, key_parts, part_cmp, rest_of}
use Rattle.composite_agg.specs.InOrder.{page_cmp}
use Rattle.composite_agg.specs.Odometer.{shown_key, shown_parts}
use Rattle.composite_agg.specs.declared.odometer.Wheel.{Wheel}
use Rattle.composite_agg.proofs.PageSteps.{back}
use Rattle.composite_agg.proofs.Steps.{drop-at}

past : {A : Type 0} (xs : List A) (i : ℕ) → length xs ≤ i → slice_get xs i ≡ None
past [] zero le = refl
past [] (suc i) le = refl
past (x ∷ xs) zero le = absurd (omega (arith, le))
past (x ∷ xs) (suc i) le = past xs i (omega (arith, le))

here : {A : Type 0} (xs : List A) (i : ℕ) (x : A) → i < length xs → x ≡ get_or xs i x → slice_get xs i ≡ Some x
here [] i x below is = absurd (omega (arith, below))
here (y ∷ xs) zero x below is = ap (λ z. Some z) (sym is)
here (y ∷ xs) (suc i) x below is = here xs i x (omega (arith, below)) is

-- what is lent of a list
pub got-item : {A : Type 0} (xs : List A) (i : ℕ) (r : Option (Bor A)) → IsItemAt xs i r → option_copied r ≡ slice_get xs i
got-item xs i None item = sym (past xs i item.3)
got-item xs i (Some x) item = sym (here xs i x.now item.3.0 item.1)

first-at : (ks : List Key) (i : ℕ) → first_of (drop i ks) ≡ slice_get ks i
first-at [] zero = refl
first-at [] (suc i) = refl
first-at (k ∷ ks) zero = refl
first-at (k ∷ ks) (suc i) = first-at ks i

rest-next : (ks : List Key) (i : ℕ) → rest_of (drop i ks) ≡ drop (suc i) ks
rest-next [] zero = refl
rest-next [] (suc i) = refl
rest-next (k ∷ []) zero = refl
rest-next (k ∷ j ∷ ks) zero = refl
rest-next (k ∷ ks) (suc i) = rest-next ks i

rest-at : (ks : List Key) (i : ℕ) → rest_of (drop i ks) ≡ drop (i + 1) ks
rest-at ks i = rest-next ks i ∙ ap (λ (n : ℕ). drop n ks) (sym (add-one i))

shown-at : (ws : List Wheel) (i : ℕ) → slice_get (shown_parts ws) i ≡ option_map shown_key (slice_get ws i)
shown-at [] zero = refl
shown-at [] (suc i) = refl
shown-at (w ∷ ws) zero = refl
shown-at (w ∷ ws) (suc i) = shown-at ws i

-- the parts at a place, and those behind it
pub parts-from : (ss : List CompositeSource) (js : List Key) (ws : List Wheel) (i : ℕ) (s : CompositeSource) → i < length ss → s ≡ get_or ss i s
    → any_parts_cmp (drop i ss) (drop i js) (drop i (shown_parts ws))
    ≡ ordering_then (part_cmp s.descending (slice_get js i) (option_map shown_key (slice_get ws i))) (any_parts_cmp (drop (i + 1) ss) (drop (i + 1) js) (drop (i + 1) (shown_parts ws)))
parts-from ss js ws i s below is =
    let ks = shown_parts ws in
    ap (λ (xs : List CompositeSource). any_parts_cmp xs (drop i js) (drop i ks)) (drop-at ss i s below is)
    ∙ (λ n. ordering_then (part_cmp s.descending (first-at js i n) ((first-at ks i ∙ shown-at ws i) n)) (any_parts_cmp (drop (i + 1) ss) (rest-at js i n) (rest-at ks i n)))

-- parts that tie leave it to those behind them, and others decide
pub tie-then : (o p : Ordering) → o ≡ Equal → ordering_then o p ≡ p
tie-then o p e = ap (λ (r : Ordering). ordering_then r p) e

pub other-then : (o p : Ordering) → (o ≡ Equal → ⊥) → ordering_then o p ≡ o
other-then Less p other = refl
other-then Equal p other = absurd (other refl)
other-then Greater p other = refl

-- a key of parts
pub of-many : (ss : List CompositeSource) (j : Key) (ks : List Key) → any_parts_cmp ss (key_parts j) ks ≡ page_cmp ss j (Many ks)
of-many ss j ks = ap (any_parts_cmp ss (key_parts j)) (sym (ap key_parts_at (out-Many ks)))

flipped : (o : Ordering) → is_lt o ≡ is_gt (ordering_reverse o)
flipped Less = refl
flipped Equal = refl
flipped Greater = refl

-- one comes after another where that comes before it
pub beyond-back : (ss : List CompositeSource) (a k : Key) → is_lt (page_cmp ss a k) ≡ is_gt (page_cmp ss k a)
beyond-back ss a k = flipped (page_cmp ss a k) ∙ ap is_gt (sym (back ss k a))
