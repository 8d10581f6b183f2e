-- A stable sort of values of one kind, with each word kept once, is what the definition makes of them.
use Rattle.std.specs.Prelude.{◌≡◌, refl, ℕ, suc, ◌<◌, ℤ, pos, Bool, true, false, ◌&&◌, List, [], ◌∷◌, cond, length, slice_index_or, ⊤}
use Rattle.std.specs.declared.cmp.Ordering.{Ordering}
use Rattle.std.specs.declared.cmp.Ordering.TheVariants.{Less, Equal, Greater}
use Rattle.std.specs.Ordering.{nat_cmp, int_cmp, bool_cmp, is_lt, is_le, is_eq, ordering_reverse, ordering_then, match_ordering}
use Rattle.std.specs.Cmp.{IsTotalOrder, bool_cmp_total}
use Rattle.std.specs.Cmp.Lexicographic.{slice_cmp, texts_ties, same_text}
use Rattle.std.specs.Fn.{Called}
use Rattle.std.specs.List.{list_all, dedup, dedup_from, AllAdjacentBelow}
use Rattle.std.specs.List.Sorted.{IsSortedByClosure, IsStableByClosure}
use Rattle.std.proofs.Common.{sym, ◌∙◌, ap, subst, arith, ⊎_elim, add-one}
use Rattle.std.proofs.lemmas.Bool.{cases_Bool, true≢false, false≢true, and_parts}
use Rattle.std.proofs.lemmas.Cmp.{on_total, then_total, nat_cmp_total, int_cmp_total, nat_list_cmp_total}
use Rattle.agg_model.specs.declared.mapping.FieldKind.{FieldKind}
use Rattle.agg_model.specs.declared.mapping.FieldKind.TheVariants.{Long, Integer, Short, Byte, Keyword, Boolean, Date}
use Rattle.agg_model.specs.declared.row.Scalar.{Scalar}
use Rattle.agg_model.specs.declared.row.Scalar.TheVariants.{Whole, Word, Flag}
use Rattle.list_laws.specs.Sorting.{sorted, insert_sorted}
use Rattle.list_laws.proofs.StableSort.{at_most, above, sorted_from_sort_by}
use Rattle.agg_reading.specs.Rows.{scalar_cmp, insert_value, finished_values}
use Rattle.agg_reading.proofs.ValueLaws.{beside, insert_value-none, insert_value-step}
use Rattle.document_rows.specs.Scalars.{rank, scalar_order, same_word, IsOneKind}
use Rattle.agg_model.specs.FieldKinds.{is_of_kind}
use denote.Param.Members.{Mut}
use denote.Ref.{Bor}
use Rattle.list_laws.proofs.Booleans.{and_false}

-- the order is total, since it goes by keys that are in order

abbrev number_of : Scalar → ℤ
number_of (Whole z) = z
number_of (Word w) = pos 0
number_of (Flag b) = pos 0

abbrev bytes_of : Scalar → List ℕ
bytes_of (Whole z) = []
bytes_of (Word w) = w
bytes_of (Flag b) = []

abbrev flag_of : Scalar → Bool
flag_of (Whole z) = false
flag_of (Word w) = false
flag_of (Flag b) = b

abbrev keyed : Scalar → Scalar → Ordering
keyed s t = ordering_then (nat_cmp (rank s) (rank t)) (ordering_then (int_cmp (number_of s) (number_of t)) (ordering_then (slice_cmp nat_cmp (bytes_of s) (bytes_of t)) (bool_cmp (flag_of s) (flag_of t))))

keyed_total : IsTotalOrder keyed
keyed_total = then_total (on_total rank nat_cmp_total) (then_total (on_total number_of int_cmp_total) (then_total (on_total bytes_of nat_list_cmp_total) (on_total flag_of bool_cmp_total)))

then-equal : (o : Ordering) → ordering_then o Equal ≡ o
then-equal Less = refl
then-equal Equal = refl
then-equal Greater = refl

keyed_is : (s t : Scalar) → keyed s t ≡ scalar_order s t
keyed_is (Whole m) (Whole n) = then-equal (int_cmp m n)
keyed_is (Whole m) (Word w) = refl
keyed_is (Whole m) (Flag b) = refl
keyed_is (Word v) (Whole n) = refl
keyed_is (Word v) (Word w) = then-equal (slice_cmp nat_cmp v w)
keyed_is (Word v) (Flag b) = refl
keyed_is (Flag a) (Whole n) = refl
keyed_is (Flag a) (Word w) = refl
keyed_is (Flag a) (Flag b) = refl

pub order_total : IsTotalOrder scalar_order
order_total = subst IsTotalOrder (λ i s t. keyed_is s t i) keyed_total

abbrev below : Scalar → Scalar → Bool
below s t = is_lt (scalar_order s t)

abbrev put : Bool → Scalar → Scalar → List Scalar → List Scalar
put b x y ys = cond b (x ∷ y ∷ ys) (y ∷ insert_sorted scalar_order x ys)

-- values of one kind

abbrev OfRank : ℕ → List Scalar → Type 0
OfRank r [] = ⊤
OfRank r (x ∷ xs) = (rank x ≡ r) × OfRank r xs

abbrev is_word : Scalar → Bool
is_word (Whole z) = false
is_word (Word w) = true
is_word (Flag b) = false

cmp_is : (s t : Scalar) → rank s ≡ rank t → scalar_cmp s t ≡ scalar_order s t
cmp_is (Whole m) (Whole n) e = refl
cmp_is (Whole m) (Word w) e = absurd (omega (arith, e))
cmp_is (Whole m) (Flag b) e = absurd (omega (arith, e))
cmp_is (Word v) (Whole n) e = absurd (omega (arith, e))
cmp_is (Word v) (Word w) e = refl
cmp_is (Word v) (Flag b) e = absurd (omega (arith, e))
cmp_is (Flag a) (Whole n) e = absurd (omega (arith, e))
cmp_is (Flag a) (Word w) e = absurd (omega (arith, e))
cmp_is (Flag a) (Flag b) e = refl

same_is : (s t : Scalar) → rank s ≡ rank t → same_word s t ≡ (is_word s && is_eq (scalar_order s t))
same_is (Whole m) t e = refl
same_is (Word v) (Whole n) e = absurd (omega (arith, e))
same_is (Word v) (Word w) e = texts_ties v w
same_is (Word v) (Flag b) e = absurd (omega (arith, e))
same_is (Flag a) t e = refl

same_equal : (s t : Scalar) → same_word s t ≡ true → s ≡ t
same_equal (Whole m) t e = absurd (false≢true e)
same_equal (Word v) (Whole n) e = absurd (false≢true e)
same_equal (Word v) (Word w) e = ap Word (same_text v w (sym e))
same_equal (Word v) (Flag b) e = absurd (false≢true e)
same_equal (Flag a) t e = absurd (false≢true e)

beside_is : (s : Scalar) (ss : List Scalar) → beside s ss ≡ cond (is_word s) ss (s ∷ ss)
beside_is (Whole m) ss = refl
beside_is (Word w) ss = refl
beside_is (Flag b) ss = refl

-- joining words that stand side by side

abbrev joined_from : Scalar → List Scalar → List Scalar
joined_from k xs = dedup_from same_word k xs

abbrev after : Scalar → List Scalar → List Scalar
after k [] = []
after k (x ∷ xs) = cond (same_word x k) (after k xs) (joined_from x xs)

first_stays : (k : Scalar) (xs : List Scalar) → joined_from k xs ≡ k ∷ after k xs
first_stays k [] = refl
first_stays k (x ∷ xs) =
    elim (same_word x k) as (λ b. cond b (joined_from k xs) (k ∷ joined_from x xs) ≡ k ∷ cond b (after k xs) (joined_from x xs)) [ true ↦ first_stays k xs | false ↦ refl ]

reversed : (s t : Scalar) → scalar_order t s ≡ ordering_reverse (scalar_order s t)
reversed s t = order_total.antisymm t s

is_greater : (z x : Scalar) → below z x ≡ true → scalar_order x z ≡ Greater
is_greater z x up = reversed z x ∙ turned (scalar_order z x) up
  where
    turned : (o : Ordering) → is_lt o ≡ true → ordering_reverse o ≡ Greater
    turned Less e = refl
    turned Equal e = absurd (false≢true e)
    turned Greater e = absurd (false≢true e)

-- a value that is above another is put behind it
behind : (x z : Scalar) (ts : List Scalar) → rank x ≡ rank z → below z x ≡ true → insert_value x (z ∷ ts) ≡ z ∷ insert_value x ts
behind x z ts same up = insert_value-step x z ts ∙ ap (λ o. match_ordering o (x ∷ z ∷ ts) (beside x (z ∷ ts)) (z ∷ insert_value x ts)) (cmp_is x z same ∙ is_greater z x up)

-- and is not the same word
above_differs : (x z : Scalar) → rank x ≡ rank z → below z x ≡ true → same_word x z ≡ false
above_differs x z same up = same_is x z same ∙ ap (λ o. is_word x && is_eq o) (is_greater z x up) ∙ and_false (is_word x)

-- a value that is not above another is put in front of it
module _ (x z : Scalar) (ys : List Scalar) (same : rank x ≡ rank z) where
  by_order : (o : Ordering) → scalar_order x z ≡ o → below z x ≡ false → joined_from x (z ∷ ys) ≡ match_ordering o (x ∷ joined_from z ys) (beside x (joined_from z ys)) (z ∷ insert_value x (after z ys))
  by_order Less e low =
      ap (λ b. cond b (joined_from x ys) (x ∷ joined_from z ys)) (same_is z x (sym same) ∙ ap (λ o. is_word z && is_eq o) (reversed x z ∙ ap ordering_reverse e) ∙ and_false (is_word z))
  by_order Equal e low =
      ⊎_elim
      (λ word.
      let join : same_word z x ≡ true = same_is z x (sym same) ∙ ap (λ o. is_word z && is_eq o) (reversed x z ∙ ap ordering_reverse e) ∙ ap (λ b. b && true) word in
      ap (λ b. cond b (joined_from x ys) (x ∷ joined_from z ys)) join
      ∙ ap (λ k. joined_from k ys) (sym (same_equal z x join))
      ∙ ap (λ b. cond b (joined_from z ys) (x ∷ joined_from z ys)) (sym (word_of_rank x z same word))
      ∙ sym (beside_is x (joined_from z ys)))
      (λ other.
      let apart : same_word z x ≡ false = same_is z x (sym same) ∙ ap (λ b. b && is_eq (scalar_order z x)) other in
      ap (λ b. cond b (joined_from x ys) (x ∷ joined_from z ys)) apart
      ∙ ap (λ b. cond b (joined_from z ys) (x ∷ joined_from z ys)) (sym (word_of_rank x z same other))
      ∙ sym (beside_is x (joined_from z ys)))
      (cases_Bool (is_word z))
    where
      word_of_rank : (s t : Scalar) → rank s ≡ rank t → {b : Bool} → is_word t ≡ b → is_word s ≡ b
      word_of_rank (Whole m) (Whole n) r e = e
      word_of_rank (Whole m) (Word w) r e = absurd (omega (arith, r))
      word_of_rank (Whole m) (Flag f) r e = e
      word_of_rank (Word v) (Whole n) r e = absurd (omega (arith, r))
      word_of_rank (Word v) (Word w) r e = e
      word_of_rank (Word v) (Flag f) r e = absurd (omega (arith, r))
      word_of_rank (Flag a) (Whole n) r e = e
      word_of_rank (Flag a) (Word w) r e = absurd (omega (arith, r))
      word_of_rank (Flag a) (Flag f) r e = e
  by_order Greater e low = absurd (true≢false (sym (ap is_lt (reversed x z ∙ ap ordering_reverse e)) ∙ low))

  in_front : below z x ≡ false → joined_from x (z ∷ ys) ≡ insert_value x (joined_from z ys)
  in_front low =
      by_order (scalar_order x z) refl low
      ∙ ap (λ o. match_ordering o (x ∷ joined_from z ys) (beside x (joined_from z ys)) (z ∷ insert_value x (after z ys))) (sym (cmp_is x z same))
      ∙ ap (λ ts. match_ordering (scalar_cmp x z) (x ∷ ts) (beside x ts) (z ∷ insert_value x (after z ys))) (first_stays z ys)
      ∙ sym (insert_value-step x z (after z ys))
      ∙ ap (insert_value x) (sym (first_stays z ys))

place_after : (r : ℕ) (x z : Scalar) (ys : List Scalar) → rank x ≡ r → rank z ≡ r → OfRank r ys → below z x ≡ true → joined_from z (insert_sorted scalar_order x ys) ≡ insert_value x (joined_from z ys)
place_after r x z [] rx rz rs up =
    ap (λ b. cond b (z ∷ []) (z ∷ x ∷ [])) (above_differs x z (rx ∙ sym rz) up) ∙ ap (λ ts. z ∷ ts) (sym (insert_value-none x)) ∙ sym (behind x z [] (rx ∙ sym rz) up)
place_after r x z (y ∷ ys) rx rz rs up =
    elim (is_le (scalar_order x y)) as (λ b. is_le (scalar_order x y) ≡ b → joined_from z (put b x y ys) ≡ insert_value x (cond (same_word y z) (joined_from z ys) (z ∷ joined_from y ys))) [
      | true ↦ λ e.
          let low : below y x ≡ false = at_most scalar_order order_total x y e in
          let apart : same_word y z ≡ false = ⊎_elim (λ s. absurd (true≢false (sym up ∙ ap (λ k. below k x) (sym (same_equal y z s)) ∙ low))) (λ s. s) (cases_Bool (same_word y z)) in
          ap (λ b. cond b (joined_from z (y ∷ ys)) (z ∷ joined_from x (y ∷ ys))) (above_differs x z (rx ∙ sym rz) up)
          ∙ ap (λ ts. z ∷ ts) (in_front x y ys (rx ∙ sym rs.0) low)
          ∙ sym (behind x z (joined_from y ys) (rx ∙ sym rz) up)
          ∙ ap (λ s. insert_value x (cond s (joined_from z ys) (z ∷ joined_from y ys))) (sym apart)
      | false ↦ λ e.
          elim (same_word y z) as (λ s. cond s (joined_from z (insert_sorted scalar_order x ys)) (z ∷ joined_from y (insert_sorted scalar_order x ys)) ≡ insert_value x (cond s (joined_from z ys) (z ∷ joined_from y ys))) [
            | true ↦ place_after r x z ys rx rz rs.1 up
            | false ↦ ap (λ ts. z ∷ ts) (place_after r x y ys rx rs.0 rs.1 (above scalar_order order_total x y e)) ∙ sym (behind x z (joined_from y ys) (rx ∙ sym rz) up)
          ]
    ] refl

joined_place : (r : ℕ) (x : Scalar) (zs : List Scalar) → rank x ≡ r → OfRank r zs → dedup same_word (insert_sorted scalar_order x zs) ≡ insert_value x (dedup same_word zs)
joined_place r x [] rx rs = sym (insert_value-none x)
joined_place r x (z ∷ zs) rx rs =
    elim (is_le (scalar_order x z)) as (λ b. is_le (scalar_order x z) ≡ b → dedup same_word (put b x z zs) ≡ insert_value x (joined_from z zs)) [
      | true ↦ λ e. in_front x z zs (rx ∙ sym rs.0) (at_most scalar_order order_total x z e)
      | false ↦ λ e. place_after r x z zs rx rs.0 rs.1 (above scalar_order order_total x z e)
    ] refl

rank_insert : (r : ℕ) (x : Scalar) (zs : List Scalar) → rank x ≡ r → OfRank r zs → OfRank r (insert_sorted scalar_order x zs)
rank_insert r x [] rx rs = (rx, tt)
rank_insert r x (z ∷ zs) rx rs =
    elim (is_le (scalar_order x z)) as (λ b. OfRank r (put b x z zs)) [ true ↦ (rx, rs) | false ↦ (rs.0, rank_insert r x zs rx rs.1) ]

rank_sorted : (r : ℕ) (xs : List Scalar) → OfRank r xs → OfRank r (sorted scalar_order xs)
rank_sorted r [] rs = tt
rank_sorted r (x ∷ xs) rs = rank_insert r x (sorted scalar_order xs) rs.0 (rank_sorted r xs rs.1)

-- a sorted list of values of one kind, with each word once, is what the definition makes
joined_is : (r : ℕ) (xs : List Scalar) → OfRank r xs → dedup same_word (sorted scalar_order xs) ≡ finished_values xs
unfolding finished_values
joined_is r [] rs = refl
joined_is r (x ∷ xs) rs = joined_place r x (sorted scalar_order xs) rs.0 (rank_sorted r xs rs.1) ∙ ap (insert_value x) (joined_is r xs rs.1)

abbrev rank_of : FieldKind → ℕ
rank_of Keyword = 1
rank_of Boolean = 2
rank_of Long = 0
rank_of Integer = 0
rank_of Short = 0
rank_of Byte = 0
rank_of Date = 0

has_rank : (kind : FieldKind) (s : Scalar) → is_of_kind kind s ≡ true → rank s ≡ rank_of kind
has_rank Keyword (Word w) e = refl
has_rank Keyword (Whole z) e = absurd (false≢true e)
has_rank Keyword (Flag b) e = absurd (false≢true e)
has_rank Boolean (Flag b) e = refl
has_rank Boolean (Whole z) e = absurd (false≢true e)
has_rank Boolean (Word w) e = absurd (false≢true e)
has_rank Long (Whole z) e = refl
has_rank Long (Word w) e = absurd (false≢true e)
has_rank Long (Flag b) e = absurd (false≢true e)
has_rank Integer (Whole z) e = refl
has_rank Integer (Word w) e = absurd (false≢true e)
has_rank Integer (Flag b) e = absurd (false≢true e)
has_rank Short (Whole z) e = refl
has_rank Short (Word w) e = absurd (false≢true e)
has_rank Short (Flag b) e = absurd (false≢true e)
has_rank Byte (Whole z) e = refl
has_rank Byte (Word w) e = absurd (false≢true e)
has_rank Byte (Flag b) e = absurd (false≢true e)
has_rank Date (Whole z) e = refl
has_rank Date (Word w) e = absurd (false≢true e)
has_rank Date (Flag b) e = absurd (false≢true e)

ranks : (kind : FieldKind) (xs : List Scalar) → list_all (is_of_kind kind) xs ≡ true → OfRank (rank_of kind) xs
ranks kind [] e = tt
ranks kind (x ∷ xs) e = let parts = and_parts (is_of_kind kind x) (list_all (is_of_kind kind) xs) e in (has_rank kind x parts.0, ranks kind xs parts.1)

-- what a stable sort and the joining of words leave
pub finished_from_sort : {F : Type 0} {g : Mut F (Bor Scalar × (Bor Scalar × Unit {0})) Ordering} {f : F} (xs ys : List Scalar) → IsOneKind xs → IsSortedByClosure g f ys → IsStableByClosure g f xs ys
    → ((a : Bor Scalar × (Bor Scalar × Unit {0})) (r : Ordering) (f' : F) → Called g f a r f' → (r ≡ scalar_order a.0.now a.1.0.now) × (f' ≡ f)) → dedup same_word ys ≡ finished_values xs
finished_from_sort xs ys one up stable calls = ap (dedup same_word) (sorted_from_sort_by scalar_order order_total xs ys up stable calls) ∙ joined_is (rank_of one.0) xs (ranks one.0 xs one.1)

-- ---- values that each stand below the next are left as they are

abbrev Rises : List Scalar → Type 0
Rises xs = (k : ℕ) (d : Scalar) → suc k < length xs → below (slice_index_or xs k d) (slice_index_or xs (suc k) d) ≡ true

below_most : (o : Ordering) → is_lt o ≡ true → is_le o ≡ true
below_most Less e = refl
below_most Equal e = refl
below_most Greater e = absurd (false≢true e)

sorted_stands : (xs : List Scalar) → Rises xs → sorted scalar_order xs ≡ xs
sorted_stands [] up = refl
sorted_stands (x ∷ []) up = refl
sorted_stands (x ∷ y ∷ ys) up =
    ap (insert_sorted scalar_order x) (sorted_stands (y ∷ ys) (λ k d within. up (suc k) d (omega (arith, within))))
    ∙ ap (λ b. put b x y ys) (below_most (scalar_order x y) (up 0 x (omega arith)))

joined_stands : (r : ℕ) (xs : List Scalar) → OfRank r xs → Rises xs → dedup same_word xs ≡ xs
joined_stands r [] rs up = refl
joined_stands r (x ∷ []) rs up = refl
joined_stands r (x ∷ y ∷ ys) rs up =
    ap (λ b. cond b (joined_from x ys) (x ∷ joined_from y ys)) (above_differs y x (rs.1.0 ∙ sym rs.0) (up 0 x (omega arith)))
    ∙ ap (λ zs. x ∷ zs) (joined_stands r (y ∷ ys) rs.1 (λ k d within. up (suc k) d (omega (arith, within))))

pub finished_from_rising : (xs : List Scalar) → IsOneKind xs → AllAdjacentBelow (λ x y. true ≡ below x y) xs (length xs) → xs ≡ finished_values xs
finished_from_rising xs one up =
    let rises : Rises xs = λ k d within. let here = up k d (omega (arith, within)) in sym (rw add-one at here) in
    sym (ap (dedup same_word) (sorted_stands xs rises) ∙ joined_stands (rank_of one.0) xs (ranks one.0 xs one.1) rises) ∙ joined_is (rank_of one.0) xs (ranks one.0 xs one.1)
