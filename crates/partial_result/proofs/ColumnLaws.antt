-- What the wholes of all children are, where each child's whole keeps the laws.
use Rattle.std.specs.Prelude.{◌≡◌, refl, ℕ, Bool, true, false, ◌&&◌, T, ⊤, List, [], ◌∷◌, ◌++◌, map, slice_get}
use Rattle.std.specs.List.{list_all, cons_option}
use Rattle.std.proofs.Common.{sym, ◌∙◌, ap, subst}
use Rattle.agg_model.specs.declared.partial.Node.{Node}
use Rattle.agg_evaluation.specs.Trees.{pass_each, node_fits}
use Rattle.partial_result.specs.Merged.{merged, merged_children, other_node}
use Rattle.list_laws.proofs.Booleans.{and_first, and_second, and_both}
use Rattle.partial_result.proofs.Columns.{tail, heads, columns}

-- what the whole of an aggregation keeps, whose trees pass the test
pub record IsWhole (w : List Node → Node) (test : Node → Bool) : Type 0 where
  pub tree : (xs : List Node) → test (w xs) ≡ true
  pub one : (n : Node) → test n ≡ true → w (n ∷ []) ≡ n
  pub two : (m n : Node) → test m ≡ true → test n ≡ true → node_fits (w (m ∷ n ∷ [])) ≡ true → merged n m ≡ w (m ∷ n ∷ [])

-- as many wholes as tests, each of its own
abbrev pub EachWhole : List (List Node → Node) → List (Node → Bool) → Type 0
EachWhole [] [] = ⊤
EachWhole (w ∷ ws) (test ∷ tests) = IsWhole w test × EachWhole ws tests
EachWhole _ _ = ⊥

pub false_true : {A : Type 0} → false ≡ true → A
false_true h = absurd (subst T (sym h) tt)

module _ {X : Type 0} where
  pub columns-pass : (get : X → List Node) (ws : List (List Node → Node)) (tests : List (Node → Bool)) (xs : List X) → EachWhole ws tests → pass_each tests (columns get ws xs) ≡ true
  columns-pass get [] [] xs each = refl
  columns-pass get [] (test ∷ tests) xs each = absurd each
  columns-pass get (w ∷ ws) [] xs each = absurd each
  columns-pass get (w ∷ ws) (test ∷ tests) xs each = and_both _ _ (each.0.tree (heads get xs)) (columns-pass (λ x. tail (get x)) ws tests xs each.1)

  pub columns-one : (get : X → List Node) (ws : List (List Node → Node)) (tests : List (Node → Bool)) (x : X) (ns : List Node) → EachWhole ws tests → get x ≡ ns → pass_each tests ns ≡ true → columns get ws (x ∷ []) ≡ ns
  columns-one get [] [] x [] each is pass = refl
  columns-one get [] [] x (n ∷ ns) each is pass = false_true pass
  columns-one get [] (test ∷ tests) x ns each is pass = absurd each
  columns-one get (w ∷ ws) [] x ns each is pass = absurd each
  columns-one get (w ∷ ws) (test ∷ tests) x [] each is pass = false_true pass
  columns-one get (w ∷ ws) (test ∷ tests) x (n ∷ ns) each is pass = λ i.
      (ap (λ (row : List Node). w (cons_option (slice_get row 0) [])) is ∙ each.0.one n (and_first _ _ pass)) i
      ∷ columns-one (λ x. tail (get x)) ws tests x ns each.1 (ap tail is) (and_second _ _ pass) i

  pub columns-two : (get : X → List Node) (ws : List (List Node → Node)) (tests : List (Node → Bool)) (x y : X) (ms ns : List Node) → EachWhole ws tests → get x ≡ ms → get y ≡ ns
      → pass_each tests ms ≡ true → pass_each tests ns ≡ true → list_all node_fits (columns get ws (x ∷ y ∷ [])) ≡ true → merged_children (map other_node ns) ms ≡ columns get ws (x ∷ y ∷ [])
  columns-two get [] [] x y [] [] each p q h g fits = refl
  columns-two get [] [] x y (m ∷ ms) ns each p q h g fits = false_true h
  columns-two get [] [] x y [] (n ∷ ns) each p q h g fits = false_true g
  columns-two get [] (test ∷ tests) x y ms ns each p q h g fits = absurd each
  columns-two get (w ∷ ws) [] x y ms ns each p q h g fits = absurd each
  columns-two get (w ∷ ws) (test ∷ tests) x y [] ns each p q h g fits = false_true h
  columns-two get (w ∷ ws) (test ∷ tests) x y (m ∷ ms) [] each p q h g fits = false_true g
  columns-two get (w ∷ ws) (test ∷ tests) x y (m ∷ ms) (n ∷ ns) each p q h g fits =
      let first : w (heads get (x ∷ y ∷ [])) ≡ w (m ∷ n ∷ []) = λ i. w (cons_option (slice_get (p i) 0) (cons_option (slice_get (q i) 0) [])) in
      let here = each.0.two m n (and_first _ _ h) (and_first _ _ g) (ap node_fits (sym first) ∙ and_first _ _ fits) ∙ sym first in
      let rest = columns-two (λ x. tail (get x)) ws tests x y ms ns each.1 (ap tail p) (ap tail q) (and_second _ _ h) (and_second _ _ g) (and_second _ _ fits) in
      λ i. here i ∷ rest i
