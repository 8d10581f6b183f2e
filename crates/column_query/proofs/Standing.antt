-- Numbers that stand for what a query asks for.
use Rattle.std.proofs.Common.{◌≡◌, refl, ℕ, Bool, true, false, List, Some, None, Contains, sym, ◌∙◌, ap, subst, ℤ, pos}
use Rattle.std.specs.Prelude.{FitsSigned, IfSome, IfNone, option_map, Option}
use Rattle.std.specs.List.{slice_get}
use Rattle.std.specs.Int.{w64}
use Rattle.std.specs.declared.cmp.Ordering.{Ordering}
use Rattle.std.specs.declared.cmp.Ordering.TheVariants.{Less, Equal, Greater}
use Rattle.std.specs.Ordering.{is_eq, int_cmp, bool_cmp, nat_cmp}
use Rattle.std.specs.Cmp.Lexicographic.{slice_cmp}
use Rattle.std.proofs.lemmas.Map.Lookups.{exact_bytes, exact_signed}
use Rattle.agg_model.specs.declared.row.Scalar.{Scalar}
use Rattle.agg_model.specs.declared.row.Scalar.TheVariants as scalar
use Rattle.agg_model.specs.declared.query.Probe.{Probe}
use Rattle.agg_model.specs.declared.query.Probe.TheVariants as probe
use Rattle.agg_model.specs.declared.query.RangeOp.{RangeOp}
use Rattle.agg_model.specs.declared.query.RangeTest.{RangeTest}
use Rattle.agg_evaluation.specs.KeyOrder.{key_cmp}
use Rattle.agg_model.specs.ValueKeys.{scalar_key, probe_key}
use Rattle.agg_evaluation.specs.Matching.{allows}
use Rattle.agg_evaluation.specs.Rows.{PlacedRow, values_of, row_of}
use Rattle.shard_columns.specs.Dictionary.{words_of, NoRowHas}
use mir.Val.{bool_byte}
use Rattle.shard_columns.proofs.Dictionaries.{words_of-strict}
use Rattle.column_query.specs.declared.content.Content.{Content}
use Rattle.column_query.specs.declared.content.Content.TheVariants.{Wholes, Words, Flags}
use Rattle.column_query.specs.declared.bounds.Bound.TheVariants.{At, Always}
use Rattle.column_query.specs.Numbers.{is_content, place_among, number_of, flag_number, without_equal, IsHeld, Holds, StandsFor, BoundsAs}
use Rattle.column_query.proofs.Comparing.{value_cmp, value_cmp-is}
use Rattle.column_query.proofs.Members.{held-word}
use Rattle.column_query.proofs.Places.{place-at, places-order, place-bounds}

-- a probe of another kind than the field
abbrev pub differs : Content → Probe → Bool
differs Wholes (probe.Whole n) = false
differs Flags (probe.Flag b) = false
differs Words (probe.Word w) = false
differs _ _ = true

-- how values of a field compare with a probe of another kind
abbrev pub order_apart : Content → Probe → Ordering
order_apart Wholes _ = Less
order_apart Flags (probe.Whole n) = Greater
order_apart Flags _ = Less
order_apart Words _ = Greater

apart : (c : Content) (p : Probe) (v : Scalar) → differs c p ≡ true → is_content c v ≡ true → order_apart c p ≡ value_cmp v p
apart Wholes (probe.Whole n) (scalar.Whole m) d e = absurd (cc d)
apart Wholes (probe.Whole n) (scalar.Flag a) d e = absurd (cc e)
apart Wholes (probe.Whole n) (scalar.Word u) d e = absurd (cc e)
apart Wholes (probe.Flag b) (scalar.Whole m) d e = refl
apart Wholes (probe.Flag b) (scalar.Flag a) d e = absurd (cc e)
apart Wholes (probe.Flag b) (scalar.Word u) d e = absurd (cc e)
apart Wholes (probe.Word w) (scalar.Whole m) d e = refl
apart Wholes (probe.Word w) (scalar.Flag a) d e = absurd (cc e)
apart Wholes (probe.Word w) (scalar.Word u) d e = absurd (cc e)
apart Flags (probe.Whole n) (scalar.Whole m) d e = absurd (cc e)
apart Flags (probe.Whole n) (scalar.Flag a) d e = refl
apart Flags (probe.Whole n) (scalar.Word u) d e = absurd (cc e)
apart Flags (probe.Flag b) (scalar.Whole m) d e = absurd (cc e)
apart Flags (probe.Flag b) (scalar.Flag a) d e = absurd (cc d)
apart Flags (probe.Flag b) (scalar.Word u) d e = absurd (cc e)
apart Flags (probe.Word w) (scalar.Whole m) d e = absurd (cc e)
apart Flags (probe.Word w) (scalar.Flag a) d e = refl
apart Flags (probe.Word w) (scalar.Word u) d e = absurd (cc e)
apart Words (probe.Whole n) (scalar.Whole m) d e = absurd (cc e)
apart Words (probe.Whole n) (scalar.Flag a) d e = absurd (cc e)
apart Words (probe.Whole n) (scalar.Word u) d e = refl
apart Words (probe.Flag b) (scalar.Whole m) d e = absurd (cc e)
apart Words (probe.Flag b) (scalar.Flag a) d e = absurd (cc e)
apart Words (probe.Flag b) (scalar.Word u) d e = refl
apart Words (probe.Word w) (scalar.Whole m) d e = absurd (cc e)
apart Words (probe.Word w) (scalar.Flag a) d e = absurd (cc e)
apart Words (probe.Word w) (scalar.Word u) d e = absurd (cc d)

none_equal : (c : Content) (p : Probe) → differs c p ≡ true → is_eq (order_apart c p) ≡ false
none_equal Wholes (probe.Whole n) d = absurd (cc d)
none_equal Wholes (probe.Flag b) d = refl
none_equal Wholes (probe.Word w) d = refl
none_equal Flags (probe.Whole n) d = refl
none_equal Flags (probe.Flag b) d = absurd (cc d)
none_equal Flags (probe.Word w) d = refl
none_equal Words (probe.Whole n) d = refl
none_equal Words (probe.Flag b) d = refl
none_equal Words (probe.Word w) d = absurd (cc d)

flags_order : (a b : Bool) → int_cmp (flag_number a) (flag_number b) ≡ bool_cmp a b
flags_order false false = refl
flags_order false true = refl
flags_order true false = refl
flags_order true true = refl

pub flag-number : (b : Bool) → pos (bool_byte b) ≡ flag_number b
flag-number true = refl
flag-number false = refl

module _ (rows : List PlacedRow) (field : ℕ) where
  abbrev number : Scalar → ℤ
  number = number_of (words_of field rows)

  order : Scalar → Probe → Ordering
  order v p = key_cmp (scalar_key v) (probe_key p)

  pub none-stands : (c : Content) (p : Probe) → differs c p ≡ true → Holds rows field c → StandsFor rows field p None
  none-stands c p d holds = record { same = λ v held. sym (none_equal c p d) ∙ ap is_eq (apart c p v d (holds.only v held) ∙ value_cmp-is v p) }

  pub always-bounds : (c : Content) (test : RangeTest) → differs c test.value ≡ true → Holds rows field c → BoundsAs rows field test (Always (allows test.op (order_apart c test.value)))
  always-bounds c test d holds = record { same = λ v held. ap (allows test.op) (apart c test.value v d (holds.only v held) ∙ value_cmp-is v test.value) }

  -- the number of a probe compares with the numbers of the values as the probe with the values
  abbrev pub Ordered : Probe → ℤ → Type 0
  Ordered p n = (v : Scalar) → IsHeld rows field v → int_cmp (number v) n ≡ value_cmp v p

  whole_order : (n : ℤ) (v : Scalar) → is_content Wholes v ≡ true → int_cmp (number v) n ≡ value_cmp v (probe.Whole n)
  whole_order n (scalar.Whole m) e = refl
  whole_order n (scalar.Word w) e = absurd (cc e)
  whole_order n (scalar.Flag b) e = absurd (cc e)

  pub whole-ordered : (n : ℤ) → Holds rows field Wholes → Ordered (probe.Whole n) n
  whole-ordered n holds v held = whole_order n v (holds.only v held)

  flag_order : (b : Bool) (v : Scalar) → is_content Flags v ≡ true → int_cmp (number v) (flag_number b) ≡ value_cmp v (probe.Flag b)
  flag_order b (scalar.Whole m) e = absurd (cc e)
  flag_order b (scalar.Word w) e = absurd (cc e)
  flag_order b (scalar.Flag a) e = flags_order a b

  pub flag-ordered : (b : Bool) → Holds rows field Flags → Ordered (probe.Flag b) (flag_number b)
  flag-ordered b holds v held = flag_order b v (holds.only v held)

  word_order : (w : List ℕ) (o : ℕ) → slice_get (words_of field rows) o ≡ Some w → (v : Scalar) → IsHeld rows field v → is_content Words v ≡ true → int_cmp (number v) (pos o) ≡ value_cmp v (probe.Word w)
  word_order w o at (scalar.Whole m) held e = absurd (cc e)
  word_order w o at (scalar.Flag b) held e = absurd (cc e)
  word_order w o at (scalar.Word u) held e =
      let place = held-word rows field u held in
      ap (λ (k : ℕ). int_cmp (pos k) (pos o)) (place-at (words_of field rows) (words_of-strict field rows) place.0 u place.1)
      ∙ places-order (words_of field rows) (words_of-strict field rows) place.0 o u w place.1 at

  pub word-ordered : (w : List ℕ) (o : ℕ) → slice_get (words_of field rows) o ≡ Some w → Holds rows field Words → Ordered (probe.Word w) (pos o)
  word-ordered w o at holds v held = word_order w o at v held (holds.only v held)

  pub ordered-stands : (p : Probe) (n : ℤ) → Ordered p n → StandsFor rows field p (Some n)
  ordered-stands p n ordered = record { same = λ v held. ap is_eq (ordered v held ∙ value_cmp-is v p) }

  pub ordered-bounds : (test : RangeTest) (n : ℤ) → Ordered test.value n → BoundsAs rows field test (At test.op n)
  ordered-bounds test n ordered = record { same = λ v held. ap (allows test.op) (ordered v held ∙ value_cmp-is v test.value) }

  not_that : (o : Ordering) → (o ≡ Equal → ⊥) → false ≡ is_eq o
  not_that Less differ = refl
  not_that Equal differ = absurd (differ refl)
  not_that Greater differ = refl

  other_word : (w : List ℕ) → NoRowHas field w rows → (u : List ℕ) → IsHeld rows field (scalar.Word u) → u ≡ w → ⊥
  other_word w absent u held same = absent held.0 (subst (λ (x : List ℕ). Contains (values_of field (row_of rows held.0)) (scalar.Word x)) same held.1)

  absent_word : (w : List ℕ) → NoRowHas field w rows → (v : Scalar) → IsHeld rows field v → is_content Words v ≡ true → false ≡ is_eq (value_cmp v (probe.Word w))
  absent_word w absent (scalar.Whole m) held e = absurd (cc e)
  absent_word w absent (scalar.Flag b) held e = absurd (cc e)
  absent_word w absent (scalar.Word u) held e = not_that (slice_cmp nat_cmp u w) (λ tie. other_word w absent u held (exact_bytes u w tie))

  pub absent-stands : (w : List ℕ) → NoRowHas field w rows → Holds rows field Words → StandsFor rows field (probe.Word w) None
  absent-stands w absent holds = record { same = λ v held. absent_word w absent v held (holds.only v held) ∙ ap is_eq (value_cmp-is v (probe.Word w)) }

  -- a word stands by its place in the dictionary, if it is there
  pub word-stands : (w : List ℕ) (place : Option ℕ) → IfSome place (λ k. slice_get (words_of field rows) k ≡ Some w) → IfNone place (NoRowHas field w rows) → Holds rows field Words →
      StandsFor rows field (probe.Word w) (option_map pos place)
  word-stands w (Some k) found absent holds = ordered-stands (probe.Word w) (pos k) (word-ordered w k found holds)
  word-stands w None found absent holds = absent-stands w absent holds

  absent_whole : (n : ℤ) → (FitsSigned w64 n → ⊥) → ((z : ℤ) → IsHeld rows field (scalar.Whole z) → FitsSigned w64 z) → (v : Scalar) → IsHeld rows field v → is_content Wholes v ≡ true → false ≡ is_eq (value_cmp v (probe.Whole n))
  absent_whole n outside fit (scalar.Whole m) held e = not_that (int_cmp m n) (λ tie. outside (subst (FitsSigned w64) (exact_signed m n tie) (fit m held)))
  absent_whole n outside fit (scalar.Word w) held e = absurd (cc e)
  absent_whole n outside fit (scalar.Flag b) held e = absurd (cc e)

  -- and a whole number for itself, if it has no more bits than those of the rows
  pub whole-stands : (n : ℤ) (number : Option ℤ) → IfSome number (λ m. m ≡ n) → IfNone number (FitsSigned w64 n → ⊥) → ((z : ℤ) → IsHeld rows field (scalar.Whole z) → FitsSigned w64 z) → Holds rows field Wholes →
      StandsFor rows field (probe.Whole n) number
  whole-stands n (Some m) is outside fit holds = subst (λ (k : ℤ). StandsFor rows field (probe.Whole n) (Some k)) (sym is) (ordered-stands (probe.Whole n) n (whole-ordered n holds))
  whole-stands n None is outside fit holds = record { same = λ v held. absent_whole n outside fit v held (holds.only v held) ∙ ap is_eq (value_cmp-is v (probe.Whole n)) }

  absent_bound : (op : RangeOp) (w : List ℕ) → NoRowHas field w rows → (v : Scalar) → IsHeld rows field v → is_content Words v ≡ true →
      allows (without_equal op) (int_cmp (number v) (pos (place_among (words_of field rows) w))) ≡ allows op (value_cmp v (probe.Word w))
  absent_bound op w absent (scalar.Whole m) held e = absurd (cc e)
  absent_bound op w absent (scalar.Flag b) held e = absurd (cc e)
  absent_bound op w absent (scalar.Word u) held e =
      let place = held-word rows field u held in
      ap (λ (k : ℕ). allows (without_equal op) (int_cmp (pos k) (pos (place_among (words_of field rows) w)))) (place-at (words_of field rows) (words_of-strict field rows) place.0 u place.1)
      ∙ place-bounds (words_of field rows) (words_of-strict field rows) op place.0 u w place.1 (other_word w absent u held)

  pub absent-bounds : (op : RangeOp) (w : List ℕ) → NoRowHas field w rows → Holds rows field Words →
      BoundsAs rows field (record { op = op; value = probe.Word w }) (At (without_equal op) (pos (place_among (words_of field rows) w)))
  absent-bounds op w absent holds = record { same = λ v held. absent_bound op w absent v held (holds.only v held) ∙ ap (allows op) (value_cmp-is v (probe.Word w)) }

  pub number-bounds : (test : RangeTest) (p : Probe) (n m : ℤ) → test.value ≡ p → m ≡ n → Ordered p n → BoundsAs rows field test (At test.op m)
  number-bounds test p n m is same ordered = ordered-bounds test m (λ v held. ap (int_cmp (number v)) same ∙ (ordered v held ∙ ap (value_cmp v) (sym is)))

  pub answer-bounds : (c : Content) (test : RangeTest) (o : Ordering) (answer : Bool) → Holds rows field c → differs c test.value ≡ true → order_apart c test.value ≡ o → answer ≡ allows test.op o → BoundsAs rows field test (Always answer)
  answer-bounds c test o answer holds d is answer_is =
      subst (λ (b : Bool). BoundsAs rows field test (Always b)) (ap (allows test.op) is ∙ sym answer_is) (always-bounds c test d holds)

  pub place-bound : (op op' : RangeOp) (w : List ℕ) (m : ℤ) → NoRowHas field w rows → Holds rows field Words → op' ≡ without_equal op → m ≡ pos (place_among (words_of field rows) w) →
      BoundsAs rows field (record { op = op; value = probe.Word w }) (At op' m)
  place-bound op op' w m absent holds op_is m_is =
      subst (λ (o : RangeOp). BoundsAs rows field (record { op = op; value = probe.Word w }) (At o m)) (sym op_is)
      (subst (λ (n : ℤ). BoundsAs rows field (record { op = op; value = probe.Word w }) (At (without_equal op) n)) (sym m_is) (absent-bounds op w absent holds))
