-- Byte strings behind one another in one list of bytes.
use Rattle.std.proofs.Common.{◌≡◌, refl, zero, suc, ℕ, ◌+◌, ◌-◌, ◌<◌, ◌≤◌, List, [], ◌∷◌, ◌++◌, length, get_or, take, drop, Option, Some, sym, ◌∙◌, ap, subst, arith, length-append}
use Rattle.std.specs.List.{slice_get, slice_range, sum_by}
use Rattle.std.specs.Option.{option_map}
use Rattle.std.proofs.Math.Seq.{length-slice}
use Rattle.std.proofs.lemmas.List.{drop_at, length-take-le, take-append-drop, take-append-le}
use Rattle.std.proofs.lemmas.List.Sums.{sum_by-cons, sum_by-take-le}
use Rattle.std.proofs.lemmas.Slice.{between_is, between_to_end}
use Rattle.packed_texts.specs.Pieces.{AreCut, pieces_from}

-- a part of a list stays when the list grows
range-stays : {X : Type 0} (xs ys : List X) (a b : ℕ) → b ≤ length xs → slice_range (xs ++ ys) a b ≡ slice_range xs a b
range-stays xs ys a b within = between_is (xs ++ ys) a b ∙ (ap (λ zs. drop a zs) (take-append-le b xs ys within) ∙ sym (between_is xs a b))

-- what was put behind a list is its last part
range-seam : {X : Type 0} (xs ys : List X) (n : ℕ) → n ≡ length (xs ++ ys) → slice_range (xs ++ ys) (length xs) n ≡ ys
range-seam xs ys n is = between_to_end (xs ++ ys) (length xs) n (omega (arith, is)) ∙ drop_at xs ys (length xs) refl

length-range : (bytes : List ℕ) (a b : ℕ) → b ≤ length bytes → length (slice_range bytes a b) ≡ b - a
length-range bytes a b low = ap (λ (xs : List ℕ). length xs) (between_is bytes a b) ∙ length-slice a b bytes low

sum-first : (piece : List ℕ) (pieces : List (List ℕ)) → sum_by length (piece ∷ pieces) ≡ length piece + sum_by length pieces
sum-first piece pieces = sum_by-cons (λ (xs : List ℕ). length xs) piece pieces

within : (start : ℕ) (ends : List ℕ) (size : ℕ) → AreCut start ends size → start ≤ size
unfolding AreCut
within start [] size cut = omega (arith, cut)
within start (end ∷ more) size cut = omega (arith, cut.0, within end more size cut.1)

length-from : (start : ℕ) (bytes ends : List ℕ) → length (pieces_from start bytes ends) ≡ length ends
unfolding pieces_from
length-from start bytes [] = refl
length-from start bytes (end ∷ more) = ap suc (length-from end bytes more)

total-from : (start : ℕ) (bytes ends : List ℕ) → AreCut start ends (length bytes) → start + sum_by length (pieces_from start bytes ends) ≡ length bytes
unfolding pieces_from AreCut
total-from start bytes [] cut = omega (arith, cut)
total-from start bytes (end ∷ more) cut =
    let size = length-range bytes start end (within end more (length bytes) cut.1) in
    let sum = sum-first (slice_range bytes start end) (pieces_from end bytes more) in
    let whole : sum_by length (pieces_from start bytes (end ∷ more)) ≡ length (slice_range bytes start end) + sum_by length (pieces_from end bytes more) = sum in
    omega (arith, cut.0, whole, size, total-from end bytes more cut.1)

-- one more behind the others
push-from : (start : ℕ) (bytes added ends : List ℕ) → AreCut start ends (length bytes) →
    (pieces_from start (bytes ++ added) (ends ++ length (bytes ++ added) ∷ []) ≡ pieces_from start bytes ends ++ added ∷ []) × AreCut start (ends ++ length (bytes ++ added) ∷ []) (length (bytes ++ added))
unfolding pieces_from AreCut
push-from start bytes added [] cut = (
  ap (λ (piece : List ℕ). piece ∷ []) (ap (λ (k : ℕ). slice_range (bytes ++ added) k (length (bytes ++ added))) cut ∙ range-seam bytes added (length (bytes ++ added)) refl),
  (omega (arith, cut, length-append bytes added), refl),
)
push-from start bytes added (end ∷ more) cut =
    let rest = push-from end bytes added more cut.1 in
    let here = range-stays bytes added start end (within end more (length bytes) cut.1) in
    ((λ i. here i ∷ rest.0 i), (cut.0, rest.1))

-- the piece at a place lies behind those before it
pub record IsAt (bytes : List ℕ) (pieces : List (List ℕ)) (n end : ℕ) : Type 0 where
  pub in_order : sum_by length (take n pieces) ≤ end
  pub inside : end ≤ length bytes
  pub piece : slice_get pieces n ≡ Some (slice_range bytes (sum_by length (take n pieces)) end)
  pub behind : sum_by length (take (suc n) pieces) ≡ end

-- the piece at a place begins behind those before it
pub record IsPieceAt (start : ℕ) (bytes ends : List ℕ) (n : ℕ) (end : ℕ) : Type 0 where
  pub in_order : start + sum_by length (take n (pieces_from start bytes ends)) ≤ end
  pub inside : end ≤ length bytes
  pub piece : slice_get (pieces_from start bytes ends) n ≡ Some (slice_range bytes (start + sum_by length (take n (pieces_from start bytes ends))) end)
  pub behind : start + sum_by length (take (suc n) (pieces_from start bytes ends)) ≡ end

from-at : (start : ℕ) (bytes ends : List ℕ) (n : ℕ) (default : ℕ) → AreCut start ends (length bytes) → n < length ends → IsPieceAt start bytes ends n (get_or ends n default)
unfolding pieces_from AreCut
from-at start bytes [] n default cut low = absurd (omega (arith, low))
from-at start bytes (end ∷ more) zero default cut low =
    let first = slice_range bytes start end in
    let here : start ≡ start + 0 = omega arith in
    let size = length-range bytes start end (within end more (length bytes) cut.1) in
    let one : sum_by length (first ∷ []) ≡ length first + 0 = sum-first first [] in
    record {
      in_order = omega (arith, cut.0);
      inside = within end more (length bytes) cut.1;
      piece = ap (λ (k : ℕ). Some (slice_range bytes k end)) here;
      behind = let is : start + sum_by length (first ∷ []) ≡ end = omega (arith, one, size, cut.0) in is;
    }
from-at start bytes (end ∷ more) (suc n) default cut low =
    let rest = from-at end bytes more n default cut.1 (omega (arith, low)) in
    let first = slice_range bytes start end in
    let size = length-range bytes start end (within end more (length bytes) cut.1) in
    let at = sum-first first (take n (pieces_from end bytes more)) in
    let next = sum-first first (take (suc n) (pieces_from end bytes more)) in
    let same : end + sum_by length (take n (pieces_from end bytes more)) ≡ start + sum_by length (first ∷ take n (pieces_from end bytes more)) = omega (arith, at, size, cut.0) in
    let in_order = rest.in_order in
    let behind = rest.behind in
    record {
      in_order = let ordered : start + sum_by length (first ∷ take n (pieces_from end bytes more)) ≤ get_or more n default = omega (arith, same, in_order) in ordered;
      inside = rest.inside;
      piece = rest.piece ∙ ap (λ (k : ℕ). Some (slice_range bytes k (get_or more n default))) same;
      behind = let is : start + sum_by length (first ∷ take (suc n) (pieces_from end bytes more)) ≡ get_or more n default = omega (arith, next, size, cut.0, behind) in is;
    }

-- ---- all of them, as the view of their fields shows them

module _ (bytes ends : List ℕ) (pieces : List (List ℕ)) (view : pieces_from 0 bytes ends ≡ pieces) where
  pub length-is : length ends ≡ length pieces
  length-is = omega (arith, length-from 0 bytes ends, ap (λ (ps : List (List ℕ)). length ps) view)

  module _ (cut : AreCut 0 ends (length bytes)) where
    pub total-is : length bytes ≡ sum_by length pieces
    total-is =
        let sum : sum_by length (pieces_from 0 bytes ends) ≡ length bytes = omega (arith, total-from 0 bytes ends cut) in
        sym sum ∙ ap (λ (ps : List (List ℕ)). sum_by length ps) view

    pub piece-at : (n end : ℕ) → n < length pieces → end ≡ get_or ends n end → IsAt bytes pieces n end
    piece-at n end low at =
        let here = from-at 0 bytes ends n end cut (omega (arith, low, length-is)) in
        let plain : (k : ℕ) → 0 + k ≡ k = λ k. omega arith in
        let last = get_or ends n end in
        let is : IsAt bytes (pieces_from 0 bytes ends) n last = record {
          in_order = subst (λ (k : ℕ). k ≤ last) (plain _) here.in_order;
          inside = here.inside;
          piece = here.piece ∙ ap (λ (k : ℕ). Some (slice_range bytes k last)) (plain _);
          behind = sym (plain _) ∙ here.behind;
        } in
        subst (λ (k : ℕ). IsAt bytes pieces n k) (sym at) (subst (λ (ps : List (List ℕ)). IsAt bytes ps n last) view is)

    -- how many bytes it has
    pub size-at : (n end : ℕ) → IsAt bytes pieces n end → option_map length (slice_get pieces n) ≡ Some (end - sum_by length (take n pieces))
    size-at n end here = ap (λ (piece : Option (List ℕ)). option_map length piece) here.piece ∙ ap Some (length-range bytes (sum_by length (take n pieces)) end here.inside)

pub no-pieces : (bytes ends : List ℕ) → bytes ≡ [] → ends ≡ [] → (pieces_from 0 bytes ends ≡ []) × AreCut 0 ends (length bytes)
unfolding pieces_from AreCut
no-pieces bytes ends none no_ends =
    subst (λ (es : List ℕ). (pieces_from 0 bytes es ≡ []) × AreCut 0 es (length bytes)) (sym no_ends)
    (subst (λ (bs : List ℕ). (pieces_from 0 bs [] ≡ []) × AreCut 0 [] (length bs)) (sym none) (refl, refl))

-- one more behind the others
pub one-more : (bytes more added ends next : List ℕ) → more ≡ bytes ++ added → next ≡ ends ++ length more ∷ [] → AreCut 0 ends (length bytes) →
    (pieces_from 0 more next ≡ pieces_from 0 bytes ends ++ added ∷ []) × AreCut 0 next (length more)
one-more bytes more added ends next more_is next_is cut =
    subst (λ (es : List ℕ). (pieces_from 0 more es ≡ pieces_from 0 bytes ends ++ added ∷ []) × AreCut 0 es (length more)) (sym next_is)
    (subst (λ (bs : List ℕ). (pieces_from 0 bs (ends ++ length bs ∷ []) ≡ pieces_from 0 bytes ends ++ added ∷ []) × AreCut 0 (ends ++ length bs ∷ []) (length bs)) (sym more_is) (push-from 0 bytes added ends cut))

-- ---- the first of them

-- no later bytes are looked at
stays : (start : ℕ) (bytes later ends : List ℕ) → AreCut start ends (length bytes) → pieces_from start (bytes ++ later) ends ≡ pieces_from start bytes ends
unfolding pieces_from AreCut
stays start bytes later [] cut = refl
stays start bytes later (end ∷ more) cut =
    let here = range-stays bytes later start end (within end more (length bytes) cut.1) in
    let rest = stays end bytes later more cut.1 in
    λ i. here i ∷ rest i

take-from : (start : ℕ) (bytes ends : List ℕ) (n : ℕ) → pieces_from start bytes (take n ends) ≡ take n (pieces_from start bytes ends)
unfolding pieces_from
take-from start bytes ends zero = refl
take-from start bytes [] (suc n) = refl
take-from start bytes (end ∷ more) (suc n) = ap (λ (ps : List (List ℕ)). slice_range bytes start end ∷ ps) (take-from end bytes more n)

-- they end where the next begins
cut-take : (start : ℕ) (bytes ends : List ℕ) (n : ℕ) → AreCut start ends (length bytes) → n ≤ length ends → AreCut start (take n ends) (start + sum_by length (take n (pieces_from start bytes ends)))
unfolding pieces_from AreCut
cut-take start bytes ends zero cut low = omega arith
cut-take start bytes [] (suc n) cut low = omega arith
cut-take start bytes (end ∷ more) (suc n) cut low =
    let size = length-range bytes start end (within end more (length bytes) cut.1) in
    let sum = sum-first (slice_range bytes start end) (take n (pieces_from end bytes more)) in
    let same : end + sum_by length (take n (pieces_from end bytes more)) ≡ start + sum_by length (slice_range bytes start end ∷ take n (pieces_from end bytes more)) = omega (arith, sum, size, cut.0) in
    (cut.0, subst (λ (k : ℕ). AreCut end (take n more) k) same (cut-take end bytes more n cut.1 (omega (arith, low))))

pub first-of : (bytes ends : List ℕ) (pieces : List (List ℕ)) (view : pieces_from 0 bytes ends ≡ pieces) (cut : AreCut 0 ends (length bytes)) (n : ℕ) → n ≤ length pieces → (less fewer : List ℕ) →
    less ≡ take (sum_by length (take n pieces)) bytes → fewer ≡ take n ends → (pieces_from 0 less fewer ≡ take n pieces) × AreCut 0 fewer (length less)
first-of bytes ends pieces view cut n low less fewer less_is fewer_is =
    let size = sum_by length (take n pieces) in
    let of_view : 0 + sum_by length (take n (pieces_from 0 bytes ends)) ≡ size = omega (arith, ap (λ (ps : List (List ℕ)). sum_by length (take n ps)) view) in
    let inside : size ≤ length bytes = omega (arith, total-is bytes ends pieces view cut, sum_by-take-le (λ (xs : List ℕ). length xs) pieces n) in
    let is_cut = subst (λ (k : ℕ). AreCut 0 (take n ends) k) (of_view ∙ sym (length-take-le size bytes inside)) (cut-take 0 bytes ends n cut (omega (arith, low, length-is bytes ends pieces view))) in
    let whole = ap (λ (bs : List ℕ). pieces_from 0 bs (take n ends)) (take-append-drop size bytes) in
    subst (λ (es : List ℕ). (pieces_from 0 less es ≡ take n pieces) × AreCut 0 es (length less)) (sym fewer_is)
    (subst (λ (bs : List ℕ). (pieces_from 0 bs (take n ends) ≡ take n pieces) × AreCut 0 (take n ends) (length bs)) (sym less_is)
    (sym (stays 0 (take size bytes) (drop size bytes) (take n ends) is_cut) ∙ (whole ∙ (take-from 0 bytes ends n ∙ ap (λ (ps : List (List ℕ)). take n ps) view)), is_cut))
