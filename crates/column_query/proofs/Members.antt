-- Members of lists.
use Rattle.std.proofs.Common.{◌≡◌, refl, ℕ, ◌<◌, zero, suc, List, [], ◌∷◌, ◌++◌, ◌⊎◌, inl, inr, length, get_or, flat_map, Some, Contains, sym, ap, subst, arith}
use Rattle.std.specs.List.{slice_get}
use Rattle.std.specs.declared.cmp.Ordering.{Ordering}
use Rattle.std.specs.declared.cmp.Ordering.TheVariants.{Less, Equal, Greater}
use Rattle.std.specs.Ordering.{nat_cmp, match_ordering}
use Rattle.std.specs.Cmp.Lexicographic.{slice_cmp}
use Rattle.std.proofs.lemmas.Bool.{cases_lt}
use Rattle.std.proofs.lemmas.List.{get_or_past}
use Rattle.std.proofs.lemmas.Map.Lookups.{exact_bytes}
use Rattle.agg_model.specs.declared.row.Scalar.{Scalar}
use Rattle.agg_model.specs.declared.row.Scalar.TheVariants as scalar
use Rattle.agg_evaluation.specs.Rows.{PlacedRow, values_of, row_of, no_row}
use Rattle.list_laws.specs.Sorting.{insert_once, ascending}
use Rattle.shard_columns.specs.Dictionary.{words_of, all_words}
use Rattle.shard_columns.specs.Values.{Words, word_in}
use Rattle.column_query.specs.Numbers.{IsHeld}

abbrev pub In : {A : Type 0} → A → List A → Type 0
In x [] = ⊥
In x (y ∷ ys) = (x ≡ y) ⊎ In x ys

pub In-at : {A : Type 0} (xs : List A) (k : ℕ) (x : A) → k < length xs → get_or xs k x ≡ x → In x xs
In-at [] k x below is = absurd (omega arith)
In-at (y ∷ ys) zero x below is = inl (sym is)
In-at (y ∷ ys) (suc k) x below is = inr (In-at ys k x (omega arith) is)

pub In-contains : {A : Type 0} (xs : List A) (x : A) → Contains xs x → In x xs
In-contains xs x has = In-at xs has.0 x has.1 has.2

pub In-get : {A : Type 0} (xs : List A) (k : ℕ) (x : A) → slice_get xs k ≡ Some x → In x xs
In-get [] k x is = absurd (cc is)
In-get (y ∷ ys) zero x is = inl (let same : x ≡ y = cc is in same)
In-get (y ∷ ys) (suc k) x is = inr (In-get ys k x is)

pub place_of : {A : Type 0} (xs : List A) (x : A) → In x xs → (k : ℕ) × (slice_get xs k ≡ Some x)
place_of [] x is = absurd is
place_of (y ∷ ys) x is = elim is [
  | inl here ↦ (0, ap Some (sym here))
  | inr there ↦ (let rest = place_of ys x there in (suc rest.0, rest.1))
]

In-left : {A : Type 0} (xs ys : List A) (x : A) → In x xs → In x (xs ++ ys)
In-left [] ys x is = absurd is
In-left (z ∷ zs) ys x is = elim is [
  | inl here ↦ inl here
  | inr there ↦ inr (In-left zs ys x there)
]

In-right : {A : Type 0} (xs ys : List A) (x : A) → In x ys → In x (xs ++ ys)
In-right [] ys x is = is
In-right (z ∷ zs) ys x is = inr (In-right zs ys x is)

In-flat_map : {A B : Type 0} (f : A → List B) (xs : List A) (x : A) (y : B) → In x xs → In y (f x) → In y (flat_map f xs)
In-flat_map f [] x y is inside = absurd is
In-flat_map f (z ∷ zs) x y is inside = elim is [
  | inl here ↦ In-left (f z) (flat_map f zs) y (subst (λ (a : _). In y (f a)) here inside)
  | inr there ↦ In-right (f z) (flat_map f zs) y (In-flat_map f zs x y there inside)
]

abbrev put : List ℕ → Words → Words
put w ws = insert_once (slice_cmp nat_cmp) w ws

here_by : (o : Ordering) (w v : List ℕ) (vs rest : Words) → slice_cmp nat_cmp w v ≡ o → In w rest → In w (match_ordering o (w ∷ v ∷ vs) (v ∷ vs) (v ∷ rest))
here_by Less w v vs rest e is = inl refl
here_by Equal w v vs rest e is = inl (exact_bytes w v e)
here_by Greater w v vs rest e is = inr is

put-in : (w : List ℕ) (ws : Words) → In w (put w ws)
put-in w [] = inl refl
put-in w (v ∷ vs) = here_by (slice_cmp nat_cmp w v) w v vs (put w vs) refl (put-in w vs)

there_by : (o : Ordering) (u w v : List ℕ) (vs rest : Words) → In u (v ∷ vs) → (In u vs → In u rest) → In u (match_ordering o (w ∷ v ∷ vs) (v ∷ vs) (v ∷ rest))
there_by Less u w v vs rest is more = inr is
there_by Equal u w v vs rest is more = is
there_by Greater u w v vs rest is more = elim is [
  | inl here ↦ inl here
  | inr there ↦ inr (more there)
]

put-kept : (u w : List ℕ) (ws : Words) → In u ws → In u (put w ws)
put-kept u w [] is = absurd is
put-kept u w (v ∷ vs) is = there_by (slice_cmp nat_cmp w v) u w v vs (put w vs) is (λ rest. put-kept u w vs rest)

In-ascending : (w : List ℕ) (ws : Words) → In w ws → In w (ascending (slice_cmp nat_cmp) ws)
In-ascending w [] is = absurd is
In-ascending w (v ∷ vs) is = elim is [
  | inl here ↦ subst (λ (u : List ℕ). In w (put u (ascending (slice_cmp nat_cmp) vs))) here (put-in w (ascending (slice_cmp nat_cmp) vs))
  | inr there ↦ put-kept w v (ascending (slice_cmp nat_cmp) vs) (In-ascending w vs there)
]

In-values : (rows : List PlacedRow) (field n : ℕ) (v : Scalar) → In v (values_of field (row_of rows n)) → In v (flat_map (values_of field) rows)
In-values rows field n v is = elim (cases_lt n (length rows)) [
  | inl below ↦ In-flat_map (values_of field) rows (row_of rows n) v (In-at rows n (row_of rows n) below (same rows n below)) is
  | inr past ↦ absurd (subst (λ (r : PlacedRow). In v (values_of field r)) (get_or_past rows n no_row past) is)
]
  where
    same : (rs : List PlacedRow) (k : ℕ) → k < length rs → get_or rs k (row_of rs k) ≡ row_of rs k
    same [] k below = absurd (omega arith)
    same (r ∷ rs) zero below = refl
    same (r ∷ rs) (suc k) below = same rs k (omega arith)

-- each word that a row has of a field is in the field's dictionary
pub held-word : (rows : List PlacedRow) (field : ℕ) (w : List ℕ) → IsHeld rows field (scalar.Word w) → (k : ℕ) × (slice_get (words_of field rows) k ≡ Some w)
held-word rows field w held =
    let among = In-values rows field held.0 (scalar.Word w) (In-contains (values_of field (row_of rows held.0)) (scalar.Word w) held.1) in
    place_of (words_of field rows) w (In-ascending w (all_words field rows) (In-flat_map word_in (flat_map (values_of field) rows) (scalar.Word w) w among (inl refl)))
