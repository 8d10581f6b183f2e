-- A slot that is taken is out once more, and one that is given back once less; and the views of all desks.
use Rattle.std.proofs.Common.{◌≡◌, ◌≢◌, ℕ, zero, suc, ◌+◌, ◌≤◌, ⊎_elim, eqb, List, [], ◌∷◌, ◌++◌, map, set, sym, refl, ap, ◌∙◌, arith}
use mathlib.Core.Option.{Option, none, some, some-injective, some-ne-none}
use lib.ListN.{get_elem?}
use Rattle.std.proofs.lemmas.List.Sums.{sum_by-cons, sum_by-append}
use Rattle.arrival_table.specs.declared.known.Known.{Known}
use Rattle.arrival_moves.specs.Lists.{one_if, times}
use Rattle.arrival_table.specs.Outs.{outs, is_away, OutOnce}
use Rattle.list_laws.proofs.Places.{at_set}
use Rattle.arrival_moves.proofs.Quiet.{eq_one, eq_none}
use Rattle.list_laws.proofs.PlaceSums.{sum_by_set}

-- the views of desks, one of which changed
pub views_set : (ds : List Known) (i : ℕ) (d : Known) → map (λ (e : Known). e.view) (set ds i d) ≡ set (map (λ (e : Known). e.view) ds) i d.view
views_set [] i d = refl
views_set (x ∷ xs) zero d = refl
views_set (x ∷ xs) (suc i) d = ap (λ vs. x.view ∷ vs) (views_set xs i d)

pub views_get : (ds : List Known) (i : ℕ) (d : Known) → get_elem? ds i ≡ some d → get_elem? (map (λ (e : Known). e.view) ds) i ≡ some d.view
views_get [] i d e = absurd (some-ne-none d (sym e))
views_get (x ∷ xs) zero d e = ap (λ (y : Known). some y.view) (some-injective x d e)
views_get (x ∷ xs) (suc i) d e = views_get xs i d e

pub views_more : (ds : List Known) (d : Known) → map (λ (e : Known). e.view) (ds ++ d ∷ []) ≡ map (λ (e : Known). e.view) ds ++ d.view ∷ []
views_more [] d = refl
views_more (x ∷ xs) d = ap (λ vs. x.view ∷ vs) (views_more xs d)

once_more : (i j : ℕ) (o : List ℕ) → times i (j ∷ o) ≡ one_if (eqb j i) + times i o
once_more i j o = sum_by-cons (λ x. one_if (eqb x i)) j o

module _ {S : Type 0} where
  at_most : (h : Option S) → is_away h ≤ 1
  at_most none = omega arith
  at_most (some y) = omega arith

  -- no slot moves
  pub out_stays : (hs : List (Option S)) (ds : List Known) (id : ℕ) (d w : Known) → OutOnce hs ds → get_elem? ds id ≡ some d → w.out ≡ d.out → OutOnce hs (set ds id w)
  out_stays hs ds id d w f e same j h at = let a = f j h at in let b = sum_by_set (λ (x : Known). times j x.out) ds id d w e in let c : times j w.out ≡ times j d.out = ap (times j) same in omega arith

  -- the slot j, which was at home, is taken
  pub out_taken : (hs : List (Option S)) (ds : List Known) (id j : ℕ) (y : S) (d w : Known) → OutOnce hs ds → get_elem? ds id ≡ some d → get_elem? hs j ≡ some (some y) → w.out ≡ j ∷ d.out → OutOnce (set hs j none) (set ds id w)
  out_taken hs ds id j y d w f e here more i h at = let b = sum_by_set (λ (x : Known). times i x.out) ds id d w e in let c : times i w.out ≡ times i (j ∷ d.out) = ap (times i) more in let k = once_more i j d.out in
      ⊎_elim (λ (u : (i ≡ j) × (none ≡ h)). let one = eq_one j i (sym u.0) in let away : is_away h ≡ 1 = ap is_away (sym u.1) in let old = f i (some y) (ap (get_elem? hs) u.0 ∙ here) in omega arith)
      (λ (u : (i ≢ j) × (get_elem? hs i ≡ some h)). let one = eq_none j i (λ z. u.0 (sym z)) in let old = f i h u.1 in omega arith) (at_set hs j i none h at)

  there : (hs : List (Option S)) (j : ℕ) (z h : Option S) → get_elem? (set hs j z) j ≡ some h → (g : Option S) × (get_elem? hs j ≡ some g)
  there [] j z h e = absurd (some-ne-none h (sym e))
  there (x ∷ xs) zero z h e = (x, refl)
  there (x ∷ xs) (suc j) z h e = there xs j z h e

  -- the slot j, which was out with this desk, is given back
  pub out_given : (hs : List (Option S)) (ds : List Known) (id j : ℕ) (y : S) (d w : Known) (o : List ℕ) → OutOnce hs ds → get_elem? ds id ≡ some d → d.out ≡ j ∷ o → w.out ≡ o → OutOnce (set hs j (some y)) (set ds id w)
  out_given hs ds id j y d w o f e had less i h at = let b = sum_by_set (λ (x : Known). times i x.out) ds id d w e in let c : times i d.out ≡ times i (j ∷ o) = ap (times i) had in let k = once_more i j o in let l : times i w.out ≡ times i o = ap (times i) less in
      ⊎_elim (λ (u : (i ≡ j) × (some y ≡ h)). let one = eq_one j i (sym u.0) in let away : is_away h ≡ 0 = ap is_away (sym u.1) in let was = there hs j (some y) h (ap (get_elem? (set hs j (some y))) (sym u.0) ∙ at) in
      let old = f i was.0 (ap (get_elem? hs) u.0 ∙ was.1) in let top = at_most was.0 in omega arith)
      (λ (u : (i ≢ j) × (get_elem? hs i ≡ some h)). let one = eq_none j i (λ z. u.0 (sym z)) in let old = f i h u.1 in omega arith) (at_set hs j i (some y) h at)

  -- a slot that is out with a desk is not at home
  pub out_away : (hs : List (Option S)) (ds : List Known) (id j : ℕ) (d : Known) (o : List ℕ) (h : Option S) → OutOnce hs ds → get_elem? ds id ≡ some d → d.out ≡ j ∷ o → get_elem? hs j ≡ some h → is_away h ≡ 1
  out_away hs ds id j d o h f e had at = let old = f j h at in let a = sum_by_has_out ds id d e in let c : times j d.out ≡ times j (j ∷ o) = ap (times j) had in let k = once_more j j o in let one = eq_one j j refl in let top = at_most h in omega arith
    where
      sum_by_has_out : (xs : List Known) (i : ℕ) (v : Known) → get_elem? xs i ≡ some v → times j v.out ≤ outs j xs
      sum_by_has_out [] i v e = absurd (some-ne-none v (sym e))
      sum_by_has_out (x ∷ xs) zero v e = let cf = sum_by-cons (λ (x : Known). times j x.out) x xs in let is : times j x.out ≡ times j v.out = ap (λ (y : Known). times j y.out) (some-injective x v e) in omega arith
      sum_by_has_out (x ∷ xs) (suc i) v e = let cf = sum_by-cons (λ (x : Known). times j x.out) x xs in let r = sum_by_has_out xs i v e in omega arith

  -- a new desk has none
  pub out_more : (hs : List (Option S)) (ds : List Known) (w : Known) → OutOnce hs ds → w.out ≡ [] → OutOnce hs (ds ++ w ∷ [])
  out_more hs ds w f none_out j h at = let a = sum_by-append (λ (x : Known). times j x.out) ds (w ∷ []) in let k = sum_by-cons (λ (x : Known). times j x.out) w [] in let z : times j w.out ≡ times j [] = ap (times j) none_out in let old = f j h at in omega arith
