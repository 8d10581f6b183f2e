-- Rows in steps and at once: one tree, trees side by side, and what they cost.
use Rattle.std.specs.Prelude.{◌≡◌, ◌≢◌, refl, ℕ, zero, suc, ◌+◌, ◌<◌, ◌≤◌, true, false, nat_eq, List, [], ◌∷◌, ◌++◌, flat_map, length, map, option_map, replicate, take, slice_get, Some, sum_by, IsTrue}
use Rattle.std.proofs.Common.{sym, ◌∙◌, ap, append_assoc, arith, length-append, subst}
use Rattle.std.proofs.Math.ListN.{get_or, set}
use Rattle.std.proofs.lemmas.Bool.Decides.{nat_tests}
use Rattle.std.proofs.lemmas.List.Sums.{sum_by-cons}
use Rattle.std.proofs.lemmas.Option.{slice_get-get_or, slice_get-map}
use Rattle.list_laws.proofs.Lists.{append-nil, flat_map-append}
use Rattle.list_laws.proofs.Options.{none_some, some_same}
use Rattle.agg_model.specs.declared.aggregation.Agg.{Agg}
use Rattle.agg_model.specs.declared.partial.Node.{Node}
use Rattle.agg_evaluation.specs.Cost.{node_cost}
use Rattle.agg_evaluation.specs.Rows.{PlacedRow}
use Rattle.growth_laws.specs.Gathering.{Gatherer, gathered_children}
use Rattle.growing_tree.specs.GatheredEach.{AreRises, after_each}
use Rattle.growing_tree.specs.SideBySide.{side_by_side}
use Rattle.growing_tree.specs.Steady.{AreSimple, AreSteady, IsSteady, is_simple}
use Rattle.growing_tree.specs.declared.ready.Ready.{Ready}
use Rattle.growing_tree.proofs.Steps.{take-more}

module _ {A : Type 0} (f : List PlacedRow → A → A) where
  -- it stays so with more rows
  pub still-steady : (x : A) → IsSteady f x → (rows : List PlacedRow) → IsSteady f (f rows x)
  still-steady x h rows = record {
    none = sym (h.more rows []) ∙ ap (λ rs. f rs x) (append-nil rows);
    more = λ some more. sym (h.more rows (some ++ more)) ∙ ap (λ rs. f rs x) (sym (append_assoc rows some more)) ∙ h.more (rows ++ some) more ∙ ap (f more) (h.more rows some);
  }

  -- row by row
  pub steady-each : (x : A) → IsSteady f x → (rows : List PlacedRow) → f rows x ≡ after_each (λ row y. f (row ∷ []) y) rows x
  steady-each x h [] = h.none
  steady-each x h (row ∷ rows) = h.more (row ∷ []) rows ∙ steady-each (f (row ∷ []) x) (still-steady x h (row ∷ [])) rows

-- trees side by side
pub children-none : (gs : List Gatherer) (ns : List Node) → AreSteady gs ns → gathered_children gs [] ns ≡ ns
children-none [] ns h = refl
children-none (g ∷ gs) [] h = refl
children-none (g ∷ gs) (n ∷ ns) h = λ i. h.0.none i ∷ children-none gs ns h.1 i

children-more : (gs : List Gatherer) (ns : List Node) → AreSteady gs ns → (rows more : List PlacedRow) → gathered_children gs (rows ++ more) ns ≡ gathered_children gs more (gathered_children gs rows ns)
children-more [] ns h rows more = refl
children-more (g ∷ gs) [] h rows more = refl
children-more (g ∷ gs) (n ∷ ns) h rows more = λ i. h.0.more rows more i ∷ children-more gs ns h.1 rows more i

pub children-steady : (gs : List Gatherer) (ns : List Node) → AreSteady gs ns → IsSteady (gathered_children gs) ns
children-steady gs ns h = record { none = children-none gs ns h; more = children-more gs ns h }

-- so is one more of them
pub one-more-steady : (gs : List Gatherer) (ns : List Node) (i : ℕ) (g : Gatherer) (n : Node) → slice_get gs i ≡ Some g → slice_get ns i ≡ Some n
    → AreSteady (take i gs) ns → IsSteady g.gather n → AreSteady (take (suc i) gs) ns
one-more-steady [] ns zero g n e f h k = tt
one-more-steady [] ns (suc i) g n e f h k = tt
one-more-steady (x ∷ gs) [] zero g n e f h k = tt
one-more-steady (x ∷ gs) [] (suc i) g n e f h k = tt
one-more-steady (x ∷ gs) (m ∷ ns) zero g n e f h k = (subst (λ m. IsSteady x.gather m) (sym (some_same m n f)) (subst (λ (y : Gatherer). IsSteady y.gather n) (sym (some_same x g e)) k), tt)
one-more-steady (x ∷ gs) (m ∷ ns) (suc i) g n e f h k = (h.0, one-more-steady gs ns i g n e f h.1 k)

pub side-none : (rows : List PlacedRow) (ns : List Node) → after_each (side_by_side []) rows ns ≡ ns
side-none [] ns = refl
side-none (row ∷ rows) ns = side-none rows ns

side-first : (g : Gatherer) (gs : List Gatherer) (rows : List PlacedRow) (n : Node) (ns : List Node)
    → after_each (side_by_side (g ∷ gs)) rows (n ∷ ns) ≡ after_each (λ row m. g.gather (row ∷ []) m) rows n ∷ after_each (side_by_side gs) rows ns
side-first g gs [] n ns = refl
side-first g gs (row ∷ rows) n ns = side-first g gs rows (g.gather (row ∷ []) n) (gathered_children gs (row ∷ []) ns)

-- the trees behind those that have their rows are as they were
pub side-kept : (gs : List Gatherer) (rows : List PlacedRow) (ns : List Node) (i : ℕ) → slice_get (after_each (side_by_side (take i gs)) rows ns) i ≡ slice_get ns i
side-kept [] rows ns zero = ap (λ ms. slice_get ms zero) (side-none rows ns)
side-kept [] rows ns (suc i) = ap (λ ms. slice_get ms (suc i)) (side-none rows ns)
side-kept (g ∷ gs) rows ns zero = ap (λ ms. slice_get ms zero) (side-none rows ns)
side-kept (g ∷ gs) rows [] (suc i) = ap (λ ms. slice_get ms (suc i)) (side-empty (take (suc i) (g ∷ gs)) rows)
  where
    side-empty : (gs : List Gatherer) (rows : List PlacedRow) → after_each (side_by_side gs) rows [] ≡ []
    side-empty [] rows = side-none rows []
    side-empty (g ∷ gs) [] = refl
    side-empty (g ∷ gs) (row ∷ rows) = side-empty (g ∷ gs) rows
side-kept (g ∷ gs) rows (n ∷ ns) (suc i) = ap (λ ms. slice_get ms (suc i)) (side-first g (take i gs) rows n ns) ∙ side-kept gs rows ns i

-- one more of them
pub side-more : (gs : List Gatherer) (rows : List PlacedRow) (ns : List Node) (i : ℕ) (g : Gatherer) (n : Node) → slice_get gs i ≡ Some g → slice_get ns i ≡ Some n
    → after_each (side_by_side (take (suc i) gs)) rows ns ≡ set (after_each (side_by_side (take i gs)) rows ns) i (after_each (λ row m. g.gather (row ∷ []) m) rows n)
side-more [] rows ns zero g n e f = none_some g e
side-more [] rows ns (suc i) g n e f = none_some g e
side-more (x ∷ gs) rows [] zero g n e f = none_some n f
side-more (x ∷ gs) rows [] (suc i) g n e f = none_some n f
side-more (x ∷ gs) rows (m ∷ ns) zero g n e f =
    side-first x [] rows m ns
    ∙ (λ j. after_each (λ row k. (some_same x g e j).gather (row ∷ []) k) rows (some_same m n f j) ∷ side-none rows ns j)
    ∙ sym (ap (λ ms. set ms zero (after_each (λ row k. g.gather (row ∷ []) k) rows n)) (side-none rows (m ∷ ns)))
side-more (x ∷ gs) rows (m ∷ ns) (suc i) g n e f =
    side-first x (take (suc i) gs) rows m ns
    ∙ ap (λ ms. after_each (λ row k. x.gather (row ∷ []) k) rows m ∷ ms) (side-more gs rows ns i g n e f)
    ∙ sym (ap (λ ms. set ms (suc i) (after_each (λ row k. g.gather (row ∷ []) k) rows n)) (side-first x (take i gs) rows m ns))

-- and what they cost with it
pub side-cost : (gs : List Gatherer) (rows : List PlacedRow) (ns : List Node) (i : ℕ) (g : Gatherer) (n : Node) → slice_get gs i ≡ Some g → slice_get ns i ≡ Some n
    → sum_by node_cost (after_each (side_by_side (take (suc i) gs)) rows ns) + node_cost n
    ≡ sum_by node_cost (after_each (side_by_side (take i gs)) rows ns) + node_cost (after_each (λ row m. g.gather (row ∷ []) m) rows n)
side-cost [] rows ns zero g n e f = none_some g e
side-cost [] rows ns (suc i) g n e f = none_some g e
side-cost (x ∷ gs) rows [] zero g n e f = none_some n f
side-cost (x ∷ gs) rows [] (suc i) g n e f = none_some n f
side-cost (x ∷ gs) rows (m ∷ ns) zero g n e f =
    let new = after_each (λ row k. g.gather (row ∷ []) k) rows n in
    let after = ap (sum_by node_cost) (side-more (x ∷ gs) rows (m ∷ ns) zero g n e f ∙ ap (λ ms. set ms zero new) (side-none rows (m ∷ ns))) in
    let before = ap (sum_by node_cost) (side-none rows (m ∷ ns)) in
    let more = sum_by-cons node_cost new ns in
    let less = sum_by-cons node_cost m ns in
    let same = ap node_cost (some_same m n f) in
    omega arith
side-cost (x ∷ gs) rows (m ∷ ns) (suc i) g n e f =
    let rest = side-cost gs rows ns i g n e f in
    let first = after_each (λ row k. x.gather (row ∷ []) k) rows m in
    let after = ap (sum_by node_cost) (side-first x (take (suc i) gs) rows m ns) ∙ sum_by-cons node_cost first (after_each (side_by_side (take (suc i) gs)) rows ns) in
    let before = ap (sum_by node_cost) (side-first x (take i gs) rows m ns) ∙ sum_by-cons node_cost first (after_each (side_by_side (take i gs)) rows ns) in
    omega arith

-- an item that is there lies within the list
within : {A : Type 0} (xs : List A) (n : ℕ) (x : A) → slice_get xs n ≡ Some x → n < length xs
within [] zero x e = none_some x e
within [] (suc n) x e = none_some x e
within (y ∷ xs) zero x e = omega arith
within (y ∷ xs) (suc n) x e = let rest = within xs n x e in omega arith

-- aggregations of which so many were looked at
abbrev pub SimpleBelow : List Agg → List Ready → ℕ → Type 0
SimpleBelow aggs rs i = (n : ℕ) (a : Agg) (r : Ready) → n < i → slice_get aggs n ≡ Some a → slice_get rs n ≡ Some r → IsTrue (is_simple a r)

pub simple-more : (aggs : List Agg) (rs : List Ready) (i : ℕ) (a : Agg) (r : Ready) → slice_get aggs i ≡ Some a → slice_get rs i ≡ Some r → IsTrue (is_simple a r) → SimpleBelow aggs rs i → SimpleBelow aggs rs (i + 1)
simple-more aggs rs i a r here there h so_far n b s below e f =
    elim (nat_eq n i) as (λ t. nat_eq n i ≡ t → IsTrue (is_simple b s)) [
      | true ↦ λ t.
          let same : n ≡ i = grind (arith, nat_tests) in
          let a_is : a ≡ b = some_same a b (sym here ∙ ap (λ m. slice_get aggs m) (sym same) ∙ e) in
          let r_is : r ≡ s = some_same r s (sym there ∙ ap (λ m. slice_get rs m) (sym same) ∙ f) in
          subst (λ x. IsTrue (is_simple x s)) a_is (subst (λ y. IsTrue (is_simple a y)) r_is h)
      | false ↦ λ t.
          let other : n ≢ i = grind (arith, nat_tests) in
          so_far n b s (omega arith) e f
    ] refl

pub simple-all : (aggs : List Agg) (rs : List Ready) (i : ℕ) → length aggs ≤ i → SimpleBelow aggs rs i → AreSimple aggs rs
simple-all aggs rs i all h n a r e f = let there = within aggs n a e in h n a r (omega arith) e f

-- what rises with one cost, and then with another
pub both-rise : (c d both : ℕ → ℕ) (least count : ℕ) (old now new : List ℕ) → ((n : ℕ) → both n + least ≡ c n + d n) → AreRises c count old now → AreRises d count now new → AreRises both count old new
both-rise c d both least count old now new e first then = record {
  many = then.many ∙ first.many;
  each = λ n below.
      let here = e n in
      let next = e (n + 1) in
      let one = first.each n below in
      let two = then.each n below in
      omega arith;
}

pub zero-at : (count n : ℕ) → ◌≡◌ {A = ℕ} (get_or (replicate count 0) n 0) 0
zero-at zero n = refl
zero-at (suc count) zero = refl
zero-at (suc count) (suc n) = zero-at count n

-- the rows beneath one more
pub beneath-more : (f : PlacedRow → List PlacedRow) (g : ℕ → PlacedRow) (rows : List ℕ) (i : ℕ) → i < length rows
    → length (flat_map f (take (i + 1) (map g rows))) ≡ length (flat_map f (take i (map g rows))) + length (f (g (get_or rows i 0)))
beneath-more f g rows i l =
    let row = g (get_or rows i 0) in
    ap (λ rs. length (flat_map f rs)) (take-more (map g rows) i row (slice_get-map g rows i ∙ ap (option_map g) (slice_get-get_or rows i 0 l)))
    ∙ ap length (flat_map-append f (take i (map g rows)) (row ∷ []) ∙ ap (λ rs. flat_map f (take i (map g rows)) ++ rs) (append-nil (f row)))
    ∙ length-append (flat_map f (take i (map g rows))) (f row)
