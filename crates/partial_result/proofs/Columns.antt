-- The wholes of children, place by place.
use Rattle.std.specs.Prelude.{◌≡◌, refl, ℕ, zero, suc, ◌+◌, List, [], ◌∷◌, ◌++◌, map, drop, filter_map, slice_get}
use Rattle.std.specs.List.{enumerate_from}
use Rattle.std.proofs.Common.{sym, ◌∙◌, ap, add-one}
use Rattle.agg_model.specs.declared.partial.Node.{Node}

abbrev pub tail : List Node → List Node
tail [] = []
tail (n ∷ ns) = ns

-- the first nodes of the rows that have one
abbrev pub heads : {X : Type 0} → (X → List Node) → List X → List Node
heads get xs = filter_map (λ x. slice_get (get x) 0) xs

-- as the whole has it: the n-th child of each row that has so many
abbrev pub wholes : {X : Type 0} → (X → List Node) → List (List Node → Node) → List X → List Node
wholes get ws xs = map (λ c. c.1 (filter_map (λ x. slice_get (get x) c.0) xs)) (enumerate_from 0 ws)

-- the same, column by column
abbrev pub columns : {X : Type 0} → (X → List Node) → List (List Node → Node) → List X → List Node
columns get [] xs = []
columns get (w ∷ ws) xs = w (heads get xs) ∷ columns (λ x. tail (get x)) ws xs

get-drop : (ns : List Node) (k : ℕ) → slice_get ns k ≡ slice_get (drop k ns) 0
get-drop [] zero = refl
get-drop [] (suc k) = refl
get-drop (n ∷ ns) zero = refl
get-drop (n ∷ ns) (suc k) = get-drop ns k

tail-drop : (ns : List Node) (k : ℕ) → tail (drop k ns) ≡ drop (suc k) ns
tail-drop [] zero = refl
tail-drop [] (suc k) = refl
tail-drop (n ∷ ns) zero = refl
tail-drop (n ∷ ns) (suc k) = tail-drop ns k

module _ {X : Type 0} where
  from_place : (get : X → List Node) (ws : List (List Node → Node)) (xs : List X) (k : ℕ)
      → map (λ c. c.1 (filter_map (λ x. slice_get (get x) c.0) xs)) (enumerate_from k ws) ≡ columns (λ x. drop k (get x)) ws xs
  from_place get [] xs k = refl
  from_place get (w ∷ ws) xs k = λ i.
      w (filter_map (λ x. get-drop (get x) k i) xs)
      ∷ (ap (λ n. map (λ c. c.1 (filter_map (λ x. slice_get (get x) c.0) xs)) (enumerate_from n ws)) (add-one k)
      ∙ from_place get ws xs (suc k) ∙ (λ j. columns (λ x. sym (tail-drop (get x) k) j) ws xs)) i

  pub wholes_are : (get : X → List Node) (ws : List (List Node → Node)) (xs : List X) → wholes get ws xs ≡ columns get ws xs
  wholes_are get ws xs = from_place get ws xs 0
