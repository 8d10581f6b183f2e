-- The children of a bucket, one after another.
use Rattle.std.specs.Prelude.{◌≡◌, refl, ℕ, zero, suc, ◌+◌, ◌≤◌, List, [], ◌∷◌, ◌++◌, length, take, slice_get, Some, sum_by}
use Rattle.std.proofs.Common.{sym, ◌∙◌, ap, arith, add-one}
use Rattle.std.proofs.Math.ListN.{set}
use Rattle.std.proofs.lemmas.List.Sums.{sum_by-cons}
use Rattle.list_laws.proofs.Options.{none_some, some_same}
use Rattle.agg_model.specs.declared.partial.Node.{Node}
use Rattle.agg_evaluation.specs.Cost.{node_cost}
use Rattle.agg_evaluation.specs.Rows.{PlacedRow}
use Rattle.growth_laws.specs.Gathering.{Gatherer, gathered_children}
use Rattle.growing_tree.specs.Decoded.{decoded_children}

-- one of them is another
pub decoded-set : (ds : List (Node → Node)) (ns : List Node) (i : ℕ) (d : Node → Node) (n : Node) → slice_get ds i ≡ Some d → decoded_children ds (set ns i n) ≡ set (decoded_children ds ns) i (d n)
decoded-set [] ns zero d n e = none_some d e
decoded-set [] ns (suc i) d n e = none_some d e
decoded-set (c ∷ ds) [] zero d n e = refl
decoded-set (c ∷ ds) [] (suc i) d n e = refl
decoded-set (c ∷ ds) (m ∷ ns) zero d n e = ap (λ (f : Node → Node). f n ∷ decoded_children ds ns) (some_same c d e)
decoded-set (c ∷ ds) (m ∷ ns) (suc i) d n e = ap (λ xs. c m ∷ xs) (decoded-set ds ns i d n e)

pub decoded-get : (ds : List (Node → Node)) (ns : List Node) (i : ℕ) (d : Node → Node) (n : Node) → slice_get ds i ≡ Some d → slice_get ns i ≡ Some n → slice_get (decoded_children ds ns) i ≡ Some (d n)
decoded-get [] ns zero d n e f = none_some d e
decoded-get [] ns (suc i) d n e f = none_some d e
decoded-get (c ∷ ds) [] zero d n e f = none_some n f
decoded-get (c ∷ ds) [] (suc i) d n e f = none_some n f
decoded-get (c ∷ ds) (m ∷ ns) zero d n e f = λ i. Some (some_same c d e i (some_same m n f i))
decoded-get (c ∷ ds) (m ∷ ns) (suc i) d n e f = decoded-get ds ns i d n e f

-- the next one grows
next-child : (gs : List Gatherer) (rows : List PlacedRow) (ns : List Node) (i : ℕ) (g : Gatherer) (n : Node) → slice_get gs i ≡ Some g → slice_get (gathered_children (take i gs) rows ns) i ≡ Some n
    → gathered_children (take (suc i) gs) rows ns ≡ set (gathered_children (take i gs) rows ns) i (g.gather rows n)
next-child [] rows ns zero g n e f = none_some g e
next-child [] rows ns (suc i) g n e f = none_some g e
next-child (h ∷ gs) rows [] zero g n e f = none_some n f
next-child (h ∷ gs) rows [] (suc i) g n e f = none_some n f
next-child (h ∷ gs) rows (m ∷ ns) zero g n e f = λ i. (some_same h g e i).gather rows (some_same m n f i) ∷ ns
next-child (h ∷ gs) rows (m ∷ ns) (suc i) g n e f = ap (λ xs. h.gather rows m ∷ xs) (next-child gs rows ns i g n e f)

module _ (ds : List (Node → Node)) (gs : List Gatherer) (rows : List PlacedRow) (before ns : List Node) (i : ℕ) (d : Node → Node) (g : Gatherer) (old new : Node) (d_is : slice_get ds i ≡ Some d) (g_is : slice_get gs i ≡ Some g) (old_is : slice_get ns i ≡ Some old) where
  pub child-more : decoded_children ds ns ≡ gathered_children (take i gs) rows before → d new ≡ g.gather rows (d old) → decoded_children ds (set ns i new) ≡ gathered_children (take (i + 1) gs) rows before
  child-more so_far e =
      decoded-set ds ns i d new d_is ∙ (λ j. set (so_far j) i (e j))
      ∙ sym (next-child gs rows before i g (d old) g_is (ap (λ xs. slice_get xs i) (sym so_far) ∙ decoded-get ds ns i d old d_is old_is))
      ∙ ap (λ k. gathered_children (take k gs) rows before) (sym (add-one i))

pub child-cost : (ds : List (Node → Node)) (ns : List Node) (i : ℕ) (d : Node → Node) (old new : Node) (added : ℕ) → slice_get ds i ≡ Some d → slice_get ns i ≡ Some old → node_cost (d new) ≡ node_cost (d old) + added
    → sum_by node_cost (decoded_children ds (set ns i new)) ≡ sum_by node_cost (decoded_children ds ns) + added
child-cost [] ns zero d old new added e f g = none_some d e
child-cost [] ns (suc i) d old new added e f g = none_some d e
child-cost (c ∷ ds) [] zero d old new added e f g = none_some old f
child-cost (c ∷ ds) [] (suc i) d old new added e f g = none_some old f
child-cost (c ∷ ds) (m ∷ ns) zero d old new added e f g =
    let before = sum_by-cons node_cost (c m) (decoded_children ds ns) in
    let after = sum_by-cons node_cost (c new) (decoded_children ds ns) in
    let old_is : node_cost (c m) ≡ node_cost (d old) = λ i. node_cost (some_same c d e i (some_same m old f i)) in
    let new_is : node_cost (c new) ≡ node_cost (d new) = λ i. node_cost (some_same c d e i new) in
    omega arith
child-cost (c ∷ ds) (m ∷ ns) (suc i) d old new added e f g =
    let before = sum_by-cons node_cost (c m) (decoded_children ds ns) in
    let after = sum_by-cons node_cost (c m) (decoded_children ds (set ns i new)) in
    let rest = child-cost ds ns i d old new added e f g in
    omega arith

pub take-full : {A : Type 0} (xs : List A) (n : ℕ) → length xs ≤ n → take n xs ≡ xs
take-full [] zero l = refl
take-full [] (suc n) l = refl
take-full (x ∷ xs) zero l = absurd (omega arith)
take-full (x ∷ xs) (suc n) l = ap (λ ys. x ∷ ys) (take-full xs n (omega arith))

pub decoded-nil : (ds : List (Node → Node)) → decoded_children ds [] ≡ []
decoded-nil [] = refl
decoded-nil (d ∷ ds) = refl

-- one more without rows
pub child-begun : (ds : List (Node → Node)) (ns : List Node) (n : Node) (d : Node → Node) → slice_get ds (length ns) ≡ Some d → decoded_children ds (ns ++ n ∷ []) ≡ decoded_children ds ns ++ d n ∷ []
child-begun [] [] n d e = none_some d e
child-begun [] (m ∷ ns) n d e = none_some d e
child-begun (c ∷ ds) [] n d e = (λ i. some_same c d e i n ∷ decoded-nil ds i)
child-begun (c ∷ ds) (m ∷ ns) n d e = ap (λ xs. c m ∷ xs) (child-begun ds ns n d e)
