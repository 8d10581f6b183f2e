-- The words of a dictionary: each stands at one place, and some row has it.
use Rattle.std.proofs.Common.{◌≡◌, refl, ℕ, zero, suc, List, [], ◌∷◌, ◌++◌, ◌⊎◌, inl, inr, flat_map, Some, Contains, sym, ◌∙◌, ap, subst, arith}
use Rattle.std.specs.List.{slice_get, AllByRecursion}
use Rattle.std.specs.declared.cmp.Ordering.{Ordering}
use Rattle.std.specs.declared.cmp.Ordering.TheVariants.{Less, Equal, Greater}
use Rattle.std.specs.Ordering.{nat_cmp, match_ordering}
use Rattle.std.specs.Cmp.Lexicographic.{slice_cmp}
use Rattle.std.specs.List.Sorted.{IsStrictlySortedBy}
use Rattle.std.proofs.lemmas.Cmp.{nat_list_cmp_total, tied_itself}
use Rattle.list_laws.specs.Sorting.{insert_once, ascending}
use Rattle.agg_model.specs.declared.row.Scalar.{Scalar}
use Rattle.agg_model.specs.declared.row.Scalar.TheVariants as scalar
use Rattle.agg_evaluation.specs.Rows.{PlacedRow, values_of, row_of}
use Rattle.shard_columns.specs.Dictionary.{words_of, all_words, NoRowHas}
use Rattle.shard_columns.specs.Values.{Words, word_in}
use Rattle.shard_columns.proofs.Dictionaries.{words_of-strict}

abbrev Strict : Words → Type 0
Strict = IsStrictlySortedBy (slice_cmp nat_cmp)

each_at : {A : Type 0} (P : A → Type 0) (xs : List A) (k : ℕ) (x : A) → AllByRecursion P xs → slice_get xs k ≡ Some x → P x
each_at P [] k x all is = absurd (cc is)
each_at P (y ∷ ys) zero x all is = subst P (let same : y ≡ x = cc is in same) all.0
each_at P (y ∷ ys) (suc k) x all is = each_at P ys k x all.1 is

never_before : (v w : List ℕ) → slice_cmp nat_cmp v w ≡ Less → v ≡ w → ⊥
never_before v w less same =
    let tie = tied_itself nat_list_cmp_total v in
    let both : Less ≡ Equal = sym less ∙ (ap (slice_cmp nat_cmp v) (sym same) ∙ tie) in
    absurd (cc both)

once : (ws : Words) → Strict ws → (k o : ℕ) (w : List ℕ) → slice_get ws k ≡ Some w → slice_get ws o ≡ Some w → k ≡ o
unfolding IsStrictlySortedBy
once [] strict k o w k_at o_at = absurd (cc k_at)
once (v ∷ vs) strict zero zero w k_at o_at = refl
once (v ∷ vs) strict zero (suc o) w k_at o_at =
    let same : v ≡ w = cc k_at in absurd (never_before v w (each_at (λ (u : List ℕ). slice_cmp nat_cmp v u ≡ Less) vs o w strict.0 o_at) same)
once (v ∷ vs) strict (suc k) zero w k_at o_at =
    let same : v ≡ w = cc o_at in absurd (never_before v w (each_at (λ (u : List ℕ). slice_cmp nat_cmp v u ≡ Less) vs k w strict.0 k_at) same)
once (v ∷ vs) strict (suc k) (suc o) w k_at o_at = ap suc (once vs strict.1 k o w k_at o_at)

-- a word stands at one place of a dictionary
pub one-place : (field : ℕ) (rows : List PlacedRow) (k o : ℕ) (w : List ℕ) → slice_get (words_of field rows) k ≡ Some w → slice_get (words_of field rows) o ≡ Some w → k ≡ o
one-place field rows k o w k_at o_at = once (words_of field rows) (words_of-strict field rows) k o w k_at o_at

abbrev pub In : {A : Type 0} → A → List A → Type 0
In x [] = ⊥
In x (y ∷ ys) = (x ≡ y) ⊎ In x ys

In-get : {A : Type 0} (xs : List A) (k : ℕ) (x : A) → slice_get xs k ≡ Some x → In x xs
In-get [] k x is = absurd (cc is)
In-get (y ∷ ys) zero x is = inl (let same : x ≡ y = cc is in same)
In-get (y ∷ ys) (suc k) x is = inr (In-get ys k x is)

pub contains-in : {A : Type 0} (xs : List A) (x : A) → In x xs → Contains xs x
contains-in [] x is = absurd is
contains-in (y ∷ ys) x is = elim is [
  | inl here ↦ (0, omega arith, sym here)
  | inr there ↦ (let rest = contains-in ys x there in (suc rest.0, omega (arith, rest.1), rest.2))
]

place_of : {A : Type 0} (xs : List A) (x : A) → In x xs → (k : ℕ) × (slice_get xs k ≡ Some x)
place_of [] x is = absurd is
place_of (y ∷ ys) x is = elim is [
  | inl here ↦ (0, ap Some (sym here))
  | inr there ↦ (let rest = place_of ys x there in (suc rest.0, rest.1))
]

In-append : {A : Type 0} (xs ys : List A) (x : A) → In x (xs ++ ys) → In x xs ⊎ In x ys
In-append [] ys x is = inr is
In-append (z ∷ zs) ys x is = elim is [
  | inl here ↦ inl (inl here)
  | inr there ↦ elim (In-append zs ys x there) [
    | inl before ↦ inl (inr before)
    | inr behind ↦ inr behind
  ]
]

In-flat_map : {A B : Type 0} (f : A → List B) (xs : List A) (y : B) → In y (flat_map f xs) → (x : A) × (In x xs × In y (f x))
In-flat_map f [] y is = absurd is
In-flat_map f (z ∷ zs) y is = elim (In-append (f z) (flat_map f zs) y is) [
  | inl here ↦ (z, (inl refl, here))
  | inr there ↦ (let rest = In-flat_map f zs y there in (rest.0, (inr rest.1.0, rest.1.1)))
]

put_by : (o : Ordering) (w x y : List ℕ) (ys rest : Words) → (In w rest → (w ≡ x) ⊎ In w ys) → In w (match_ordering o (x ∷ y ∷ ys) (y ∷ ys) (y ∷ rest)) → (w ≡ x) ⊎ In w (y ∷ ys)
put_by Less w x y ys rest more is = is
put_by Equal w x y ys rest more is = inr is
put_by Greater w x y ys rest more is = elim is [
  | inl here ↦ inr (inl here)
  | inr there ↦ elim (more there) [
    | inl same ↦ inl same
    | inr among ↦ inr (inr among)
  ]
]

In-put : (w x : List ℕ) (ws : Words) → In w (insert_once (slice_cmp nat_cmp) x ws) → (w ≡ x) ⊎ In w ws
In-put w x [] is = is
In-put w x (y ∷ ys) is = put_by (slice_cmp nat_cmp x y) w x y ys (insert_once (slice_cmp nat_cmp) x ys) (λ rest. In-put w x ys rest) is

In-ascending : (w : List ℕ) (ws : Words) → In w (ascending (slice_cmp nat_cmp) ws) → In w ws
In-ascending w [] is = is
In-ascending w (x ∷ xs) is = elim (In-put w x (ascending (slice_cmp nat_cmp) xs) is) [
  | inl same ↦ inl same
  | inr among ↦ inr (In-ascending w xs among)
]

In-word : (w : List ℕ) (v : Scalar) → In w (word_in v) → v ≡ scalar.Word w
In-word w (scalar.Whole n) is = absurd is
In-word w (scalar.Word u) is = elim is [
  | inl same ↦ ap scalar.Word (sym same)
  | inr none ↦ absurd none
]
In-word w (scalar.Flag b) is = absurd is

row-at : (rows : List PlacedRow) (k : ℕ) (r : PlacedRow) → slice_get rows k ≡ Some r → row_of rows k ≡ r
row-at [] k r is = absurd (cc is)
row-at (x ∷ xs) zero r is = let same : x ≡ r = cc is in same
row-at (x ∷ xs) (suc k) r is = row-at xs k r is

-- a word that no row has is not in the dictionary
pub no-place : (field : ℕ) (rows : List PlacedRow) (w : List ℕ) → NoRowHas field w rows → (k : ℕ) (v : List ℕ) → slice_get (words_of field rows) k ≡ Some v → v ≡ w → ⊥
no-place field rows w absent k v at same =
    let among = In-ascending v (all_words field rows) (In-get (words_of field rows) k v at) in
    let value = In-flat_map word_in (flat_map (values_of field) rows) v among in
    let row = In-flat_map (values_of field) rows value.0 value.1.0 in
    let place = place_of rows row.0 row.1.0 in
    let is : value.0 ≡ scalar.Word w = In-word v value.0 value.1.1 ∙ ap scalar.Word same in
    absent place.0 (subst (λ (r : PlacedRow). Contains (values_of field r) (scalar.Word w)) (sym (row-at rows place.0 row.0 place.1))
    (subst (λ (x : Scalar). Contains (values_of field row.0) x) is (contains-in (values_of field row.0) value.0 row.1.1)))
