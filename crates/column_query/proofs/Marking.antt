-- Bits as marks on numbers.
use Rattle.std.proofs.Common.{◌≡◌, refl, ℕ, ◌+◌, ◌-◌, ◌*◌, ◌/◌, ◌%◌, ◌^◌, ◌<◌, ◌≤◌, Bool, true, false, List, [], ◌∷◌, length, get_or, set, take, replicate, inl, inr, sym, ◌∙◌, ap, subst, arith, eqb, ℤ, pos, negsuc, ◌-ℤ◌, ◌<ℤ◌, ◌≤ℤ◌, unsigned_abs, bit_and, bit_or}
use mir.Syntax.{w64}
use Rattle.std.specs.Prelude.{◌||◌}
use Rattle.std.specs.Int.{bit_at}
use Rattle.std.specs.List.Sorted.{IsStrictlySortedBy}
use Rattle.std.specs.declared.cmp.Ordering.{Ordering}
use Rattle.std.specs.declared.cmp.Ordering.TheVariants.{Less, Equal, Greater}
use Rattle.std.specs.Ordering.{is_eq, int_cmp}
use Rattle.std.proofs.lemmas.Bool.{cases_lt, cases_eq, eq-eqb, ne_eqb}
use Rattle.std.proofs.lemmas.Cmp.{int_cmp_total, int_ranked, tied_itself}
use Rattle.std.proofs.lemmas.Int.{ints}
use Rattle.std.proofs.lemmas.List.{get_or_past, get_or_default, get_or-replicate, length-replicate, get_or-set_same, get_or-set_other}
use Rattle.std.proofs.lemmas.Map.Keys.{Less-from_sorted}
use Rattle.std.proofs.lemmas.Map.Lookups.{exact_signed}
use Rattle.std.proofs.lemmas.Nat.Bits.{bit_at-zero, shr_and_one, bit_at_set_same, bit_at_set_other}
use Rattle.list_laws.proofs.Booleans.{or_comm}
use Rattle.column_query.specs.Numbers.{is_among}
use Rattle.column_query.specs.NumberSets.{has_bit, has_place, SetsBit, AreWithin}
use Rattle.column_query.proofs.Inserting.{any_step}

-- ---- bits

-- how code tests a bit
pub bit-tests : (words : List ℕ) (place : ℕ) → eqb (bit_and (get_or words (place / 64) 0 / 2 ^ (place % 64)) 1) 1 ≡ has_bit words place
bit-tests words place = ap (λ (n : ℕ). eqb n 1) (shr_and_one (get_or words (place / 64) 0) (place % 64))

no_bit : (words : List ℕ) (place : ℕ) → get_or words (place / 64) 0 ≡ 0 → has_bit words place ≡ false
no_bit words place none = ap (λ (w : ℕ). eqb (bit_at w (place % 64)) 1) none ∙ ap (λ (n : ℕ). eqb n 1) (bit_at-zero (place % 64))

pub bit-past : (words : List ℕ) (place : ℕ) → length words ≤ place / 64 → false ≡ has_bit words place
bit-past words place past = sym (no_bit words place (get_or_past words (place / 64) 0 past))

module _ (words : List ℕ) (o : ℕ) (low : o / 64 < length words) where
  abbrev word : ℕ
  word = bit_or (get_or words (o / 64) 0) (1 * 2 ^ (o % 64) % 2 ^ 64)

  abbrev with_bit : List ℕ
  with_bit = set words (o / 64) word

  within : o % 64 < 64
  within = omega arith

  set_here : has_bit with_bit o ≡ true
  set_here =
      ap (λ (w : ℕ). eqb (bit_at w (o % 64)) 1) (get_or-set_same words (o / 64) word 0 low)
      ∙ ap (λ (n : ℕ). eqb n 1) (bit_at_set_same w64 (get_or words (o / 64) 0) (o % 64) within)

  in_same_word : (n : ℕ) → n / 64 ≡ o / 64 → (n % 64 ≡ o % 64 → ⊥) → has_bit with_bit n ≡ has_bit words n
  in_same_word n same other =
      ap (λ (k : ℕ). eqb (bit_at (get_or with_bit k 0) (n % 64)) 1) same
      ∙ (ap (λ (w : ℕ). eqb (bit_at w (n % 64)) 1) (get_or-set_same words (o / 64) word 0 low)
      ∙ (ap (λ (b : ℕ). eqb b 1) (bit_at_set_other w64 (get_or words (o / 64) 0) (o % 64) within (n % 64) other)
      ∙ ap (λ (k : ℕ). eqb (bit_at (get_or words k 0) (n % 64)) 1) (sym same)))

  in_other_word : (n : ℕ) → (n / 64 ≡ o / 64 → ⊥) → has_bit with_bit n ≡ has_bit words n
  in_other_word n other = ap (λ (w : ℕ). eqb (bit_at w (n % 64)) 1) (get_or-set_other words (o / 64) (n / 64) word 0 other)

  elsewhere : (n : ℕ) → (n ≡ o → ⊥) → has_bit with_bit n ≡ has_bit words n → has_bit with_bit n ≡ (eqb n o || has_bit words n)
  elsewhere n differs same = same ∙ sym (ap (λ (b : Bool). b || has_bit words n) (ne_eqb n o differs))

  set_at : (n : ℕ) → has_bit with_bit n ≡ (eqb n o || has_bit words n)
  set_at n = elim (cases_eq (n / 64) (o / 64)) [
    | inl word_is ↦ elim (cases_eq (n % 64) (o % 64)) [
      | inl bit_is ↦ (let same : n ≡ o = omega (arith, word_is, bit_is) in
          ap (has_bit with_bit) same ∙ (set_here ∙ sym (ap (λ (b : Bool). b || has_bit words n) (eq-eqb n o same))))
      | inr other ↦ elsewhere n (λ same. other (ap (λ (k : ℕ). k % 64) same)) (in_same_word n word_is other)
    ]
    | inr other ↦ elsewhere n (λ same. other (ap (λ (k : ℕ). k / 64) same)) (in_other_word n other)
  ]

  pub sets-bit : SetsBit words o with_bit
  sets-bit = record { same = set_at }

-- ---- places of numbers

pub no-place : (count : ℕ) (z : ℤ) → has_place (replicate count 0) z ≡ false
no-place count (pos n) = elim (cases_lt (n / 64) count) [
  | inl low ↦ no_bit (replicate count 0) n (get_or-replicate count (n / 64) 0 0 low)
  | inr past ↦ no_bit (replicate count 0) n (get_or_past (replicate count 0) (n / 64) 0 (omega (arith, past, length-replicate {A = ℕ} count 0)))
]
no-place count (negsuc n) = refl

below_all : (words : List ℕ) (z : ℤ) → z <ℤ pos 0 → false ≡ has_place words z
below_all words (pos n) below = absurd (omega (arith, ints, below))
below_all words (negsuc n) below = refl

-- a number before the first one has no bit
pub place-before : (words : List ℕ) (x first : ℤ) → x <ℤ first → false ≡ has_place words (x -ℤ first)
place-before words x first before = below_all words (x -ℤ first) (omega (arith, ints, before))

not_below : (z : ℤ) → pos 0 ≤ℤ z → z ≡ pos (unsigned_abs z)
not_below (pos n) above = refl
not_below (negsuc n) above = absurd (omega (arith, ints, above))

-- any other has the one at its distance
pub place-from : (x first : ℤ) → first ≤ℤ x → x -ℤ first ≡ pos (unsigned_abs (x -ℤ first))
place-from x first from = not_below (x -ℤ first) (omega (arith, ints, from))

distances : (y z : ℤ) → pos 0 ≤ℤ y → y ≤ℤ z → unsigned_abs y ≤ unsigned_abs z
distances (pos m) (pos n) from upto = omega (arith, ints, upto)
distances (pos m) (negsuc n) from upto = absurd (omega (arith, ints, upto))
distances (negsuc m) z from upto = absurd (omega (arith, ints, from))

not_equal : (o : Ordering) → (o ≡ Equal → ⊥) → is_eq o ≡ false
not_equal Less differs = refl
not_equal Equal differs = absurd (differs refl)
not_equal Greater differs = refl

-- numbers at a distance from the first one are the same where the distances are
one_place : (x y first : ℤ) (n o : ℕ) → x -ℤ first ≡ pos n → y -ℤ first ≡ pos o → eqb n o ≡ is_eq (int_cmp x y)
one_place x y first n o x_is y_is = elim (cases_eq n o) [
  | inl same ↦ (let alike : x ≡ y = omega (arith, ints, x_is, y_is, same) in
      eq-eqb n o same ∙ sym (ap (λ (z : ℤ). is_eq (int_cmp x z)) (sym alike) ∙ ap is_eq (tied_itself int_cmp_total x)))
  | inr other ↦ ne_eqb n o other ∙ sym (not_equal (int_cmp x y) (λ tie.
      let places : pos n ≡ pos o = sym x_is ∙ (ap (λ (z : ℤ). z -ℤ first) (exact_signed x y tie) ∙ y_is) in
      let same : n ≡ o = cc places in other same))
]

-- a number before the first one is none from there on
none_before : (x y first : ℤ) (n o : ℕ) → x -ℤ first ≡ negsuc n → y -ℤ first ≡ pos o → is_eq (int_cmp x y) ≡ false
none_before x y first n o x_is y_is = not_equal (int_cmp x y) (λ tie.
    let places : negsuc n ≡ pos o = sym x_is ∙ (ap (λ (z : ℤ). z -ℤ first) (exact_signed x y tie) ∙ y_is) in absurd (cc places))

module _ (number first : ℤ) (o : ℕ) (old new : List ℕ) (number_is : number -ℤ first ≡ pos o) (sets : SetsBit old o new) where
  more_at : (x z : ℤ) → x -ℤ first ≡ z → has_place new z ≡ (is_eq (int_cmp x number) || has_place old z)
  more_at x (pos n) x_is = sets.same n ∙ ap (λ (b : Bool). b || has_bit old n) (one_place x number first n o x_is number_is)
  more_at x (negsuc n) x_is = sym (ap (λ (b : Bool). b || false) (none_before x number first n o x_is number_is))

  -- the number is marked besides the others
  place-more : (x : ℤ) → has_place new (x -ℤ first) ≡ (is_eq (int_cmp x number) || has_place old (x -ℤ first))
  place-more x = more_at x (x -ℤ first) refl

-- ---- lists of numbers

pub none-taken : (numbers : List ℤ) (x : ℤ) → is_among (take 0 numbers) x ≡ false
none-taken [] x = refl
none-taken (n ∷ ns) x = refl

module _ (numbers : List ℤ) (n : ℕ) (number first : ℤ) (words place : ℕ) (below : n < length numbers) (is : number ≡ get_or numbers n number) (are : AreWithin first words numbers) (place_is : place ≡ unsigned_abs (number -ℤ first)) where
  there : number -ℤ first ≡ pos place
  there =
      let at = are n number below in
      let number_at : number -ℤ first ≡ pos at.0 = ap (λ (x : ℤ). x -ℤ first) is ∙ at.1.0 in
      let same : place ≡ at.0 = place_is ∙ ap unsigned_abs number_at in
      number_at ∙ ap pos (sym same)

  pub place-low : place < 64 * words
  place-low =
      let at = are n number below in
      let number_at : number -ℤ first ≡ pos at.0 = ap (λ (x : ℤ). x -ℤ first) is ∙ at.1.0 in
      let same : place ≡ at.0 = place_is ∙ ap unsigned_abs number_at in
      omega (arith, same, at.1.1)

  pub marked-more : (old new : List ℕ) → SetsBit old place new → ((x : ℤ) → has_place old (x -ℤ first) ≡ is_among (take n numbers) x)
      → (x : ℤ) → has_place new (x -ℤ first) ≡ is_among (take (n + 1) numbers) x
  marked-more old new sets before x =
      place-more number first place old new there sets x
      ∙ (ap (λ (b : Bool). is_eq (int_cmp x number) || b) (before x)
      ∙ (or_comm (is_eq (int_cmp x number)) (is_among (take n numbers) x)
      ∙ sym (any_step (λ (k : ℤ). is_eq (int_cmp x k)) numbers n number below is)))

-- ascending numbers lie between the first and the last
module _ (numbers : List ℤ) (strict : IsStrictlySortedBy int_cmp numbers) where
  rises : (i j : ℕ) (d : ℤ) → i ≤ j → j < length numbers → get_or numbers i d ≤ℤ get_or numbers j d
  rises i j d upto low = elim (cases_lt i j) [
    | inl before ↦ (let less : get_or numbers i d <ℤ get_or numbers j d = int_ranked (get_or numbers i d) (get_or numbers j d) Less (sym (Less-from_sorted int_cmp numbers i j d strict before low)) in omega (arith, ints, less))
    | inr past ↦ (let same : i ≡ j = omega (arith, upto, past) in subst (λ (k : ℕ). get_or numbers i d ≤ℤ get_or numbers k d) same (omega (arith, ints)))
  ]

  pub within-ends : (first last : ℤ) (span words : ℕ) → 0 < length numbers → first ≡ get_or numbers 0 first → last ≡ get_or numbers (length numbers - 1) last
      → span ≡ unsigned_abs (last -ℤ first) → words ≡ span / 64 + 1 → AreWithin first words numbers
  within-ends first last span words some first_is last_is span_is words_is k d low =
      let x = get_or numbers k d in
      let at_first : first ≡ get_or numbers 0 d = first_is ∙ get_or_default numbers 0 first d some in
      let at_last : last ≡ get_or numbers (length numbers - 1) d = last_is ∙ get_or_default numbers (length numbers - 1) last d (omega (arith, some)) in
      let above : first ≤ℤ x = subst (λ (y : ℤ). y ≤ℤ x) (sym at_first) (rises 0 k d (omega arith) low) in
      let upto : x ≤ℤ last = subst (λ (y : ℤ). x ≤ℤ y) (sym at_last) (rises k (length numbers - 1) d (omega (arith, low)) (omega (arith, some))) in
      let few = distances (x -ℤ first) (last -ℤ first) (omega (arith, ints, above)) (omega (arith, ints, upto)) in
      (unsigned_abs (x -ℤ first), (place-from x first above, omega (arith, few, span_is, words_is)))
