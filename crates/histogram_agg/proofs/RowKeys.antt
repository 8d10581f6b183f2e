-- The keys of a row's values, by the codes that stand for them.
use Rattle.std.proofs.Common.{◌≡◌, ◌≤◌, refl, ℤ, Bool, true, List, [], ◌∷◌, length, map, Option, sym, ◌∙◌, ap, arith, subst}
use Rattle.std.specs.Prelude.{◌≤ℤ◌, ◌<ℤ◌, filter, flat_map, option_to_list}
use Rattle.std.specs.Cmp.{int_cmp_is}
use Rattle.std.specs.List.{AllByRecursion}
use Rattle.std.specs.Ordering.{int_cmp, is_le}
use Rattle.std.specs.declared.cmp.Ordering.TheVariants.{Less, Equal, Greater}
use Rattle.std.proofs.lemmas.Int.{by_lt_z}
use Rattle.std.proofs.lemmas.Bool.{false≢true, and_parts}
use Rattle.agg_model.specs.declared.aggregation.Spacing.{Spacing}
use Rattle.agg_model.specs.declared.aggregation.Spacing.TheVariants.{Numbers, Dates}
use Rattle.agg_model.specs.declared.key.Key.{Key}
use Rattle.agg_model.specs.declared.key.Key.TheVariants as key
use Rattle.agg_model.specs.declared.row.Scalar.{Scalar}
use Rattle.agg_model.specs.declared.row.Scalar.TheVariants.{Whole, Word, Flag}
use Rattle.agg_model.specs.Options.{HistogramOptions, histogram_kind}
use Rattle.agg_evaluation.specs.DocumentFits.{follows, ascend, ascend_from}
use Rattle.agg_evaluation.specs.KeyOrder.{key_cmp}
use Rattle.agg_evaluation.specs.Keys.{distinct_keys, histogram_keys, interval_key, keys, or_missing}
use Rattle.agg_evaluation.specs.Rows.{PlacedRow}
use Rattle.agg_evaluation.specs.Spacings.{number_at, start_at}
use Rattle.agg_evaluation.proofs.Computing.{computing}
use Rattle.shard_columns.specs.Lent.{wholes_in}
use Rattle.histogram_agg.specs.RowCodes.{kept_codes, row_codes}
use Rattle.histogram_agg.proofs.Once.{Rises, RisesFrom, kept-once}

whole_less : (j k : ℤ) → j <ℤ k → key_cmp (key.Whole j) (key.Whole k) ≡ Less
unfolding computing
whole_less j k h = sym (int_cmp_is j k Less h)

whole_equal : (j : ℤ) → key_cmp (key.Whole j) (key.Whole j) ≡ Equal
unfolding computing
whole_equal j = sym (int_cmp_is j j Equal refl)

at_most : (m n : ℤ) → is_le (int_cmp m n) ≡ true → m ≤ℤ n
at_most m n h = by_lt_z n m (λ less. absurd (false≢true (ap is_le (int_cmp_is m n Greater less) ∙ h))) (λ le. le)

pub few-wholes : (vs : List Scalar) → length (wholes_in vs) ≤ length vs
few-wholes [] = omega arith
few-wholes (Whole n ∷ vs) = omega (arith, few-wholes vs)
few-wholes (Word w ∷ vs) = omega (arith, few-wholes vs)
few-wholes (Flag b ∷ vs) = omega (arith, few-wholes vs)

-- behind a word or a flag there is no number
no-wholes : (v : Scalar) (vs : List Scalar) → ascend_from v vs ≡ true → wholes_in (v ∷ []) ≡ [] → wholes_in vs ≡ []
no-wholes v [] h none = refl
no-wholes (Whole m) (w ∷ vs) h none = absurd (cc none)
no-wholes (Word v) (Whole n ∷ vs) h none = absurd (false≢true h)
no-wholes (Word v) (Word w ∷ vs) h none = no-wholes (Word w) vs (and_parts (follows (Word v) (Word w)) (ascend_from (Word w) vs) h).1 refl
no-wholes (Word v) (Flag b ∷ vs) h none = absurd (false≢true h)
no-wholes (Flag a) (Whole n ∷ vs) h none = absurd (false≢true h)
no-wholes (Flag a) (Word w ∷ vs) h none = absurd (false≢true h)
no-wholes (Flag a) (Flag b ∷ vs) h none = no-wholes (Flag b) vs (and_parts (follows (Flag a) (Flag b)) (ascend_from (Flag b) vs) h).1 refl

module _ (s : Spacing) (IsValue IsCode : ℤ → Type 0) (coded : (n : ℤ) → IsValue n → IsCode (number_at s n)) (rising : (m n : ℤ) → IsValue m → m ≤ℤ n → number_at s m ≤ℤ number_at s n)
    (apart : (c d : ℤ) → IsCode c → IsCode d → c <ℤ d → start_at s c <ℤ start_at s d) where
  rises-from : (n : ℤ) (vs : List Scalar) → ascend_from (Whole n) vs ≡ true → IsValue n → AllByRecursion IsValue (wholes_in vs) → RisesFrom (number_at s n) (map (number_at s) (wholes_in vs))
  rises-from n [] h is are = tt
  rises-from n (Whole m ∷ vs) h is are =
      let parts = and_parts (is_le (int_cmp n m)) (ascend_from (Whole m) vs) h in
      (rising n m is (at_most n m parts.0), rises-from m vs parts.1 are.0 are.1)
  rises-from n (Word w ∷ vs) h is are = absurd (false≢true h)
  rises-from n (Flag b ∷ vs) h is are = absurd (false≢true h)

  rises : (vs : List Scalar) → ascend vs ≡ true → AllByRecursion IsValue (wholes_in vs) → Rises (map (number_at s) (wholes_in vs))
  rises [] h are = tt
  rises (Whole n ∷ vs) h are = rises-from n vs h are.0 are.1
  rises (Word w ∷ vs) h are = subst (λ (ns : List ℤ). Rises (map (number_at s) ns)) (sym (no-wholes (Word w) vs h refl)) tt
  rises (Flag b ∷ vs) h are = subst (λ (ns : List ℤ). Rises (map (number_at s) ns)) (sym (no-wholes (Flag b) vs h refl)) tt

  codes : (ns : List ℤ) → AllByRecursion IsValue ns → AllByRecursion IsCode (map (number_at s) ns)
  codes [] are = tt
  codes (n ∷ ns) are = (coded n are.0, codes ns are.1)

  abbrev start_key : ℤ → Key
  start_key code = key.Whole (start_at s code)

  keys-are : (vs : List Scalar) → flat_map (interval_key s) vs ≡ map start_key (map (number_at s) (wholes_in vs))
  keys-are [] = refl
  keys-are (Whole n ∷ vs) = ap (λ (ks : List Key). start_key (number_at s n) ∷ ks) (keys-are vs)
  keys-are (Word w ∷ vs) = keys-are vs
  keys-are (Flag b ∷ vs) = keys-are vs

  -- codes stand for keys: those that are kept for the keys that a test lets through
  module _ (p : Key → Bool) (is_kept : ℤ → Bool) (key_of : ℤ → Key) (same : (c : ℤ) → IsCode c → is_kept c ≡ p (start_key c)) (stands : (c : ℤ) → IsCode c → is_kept c ≡ true → key_of c ≡ start_key c) where
    pub value-keys : (vs : List Scalar) → ascend vs ≡ true → AllByRecursion IsValue (wholes_in vs) → map key_of (kept_codes (number_at s) is_kept (wholes_in vs)) ≡ filter p (distinct_keys (flat_map (interval_key s) vs))
    value-keys vs h are =
        kept-once key_cmp start_key IsCode (λ c d is-c is-d less. whole_less (start_at s c) (start_at s d) (apart c d is-c is-d less)) (λ c. whole_equal (start_at s c)) p is_kept key_of same stands
        (map (number_at s) (wholes_in vs)) (rises vs h are) (codes (wholes_in vs) are)
        ∙ ap (λ (ks : List Key). filter p (distinct_keys ks)) (sym (keys-are vs))

    pub row-keys : (missing : Option ℤ) (stands_in : Option Scalar) → map key_of (option_to_list missing) ≡ filter p (distinct_keys (flat_map (interval_key s) (option_to_list stands_in))) → (vs : List Scalar) → ascend vs ≡ true → AllByRecursion IsValue (wholes_in vs)
        → map key_of (row_codes missing (number_at s) is_kept vs) ≡ filter p (distinct_keys (flat_map (interval_key s) (or_missing stands_in vs)))
    row-keys missing stands_in is [] h are = is
    row-keys missing stands_in is (v ∷ vs) h are = value-keys (v ∷ vs) h are

-- the options with another spacing
abbrev pub with_spacing : HistogramOptions → Spacing → HistogramOptions
with_spacing h s = record {
  field = h.field;
  spacing = s;
  min_doc_count = h.min_doc_count;
  extended = h.extended;
  hard = h.hard;
  keyed = h.keyed;
  order = h.order;
  missing = h.missing;
}

-- the keys of a row at a histogram, whatever its spacing
pub keys-of : (all : List PlacedRow) (h : HistogramOptions) (row : PlacedRow) → keys all (histogram_kind h) row ≡ histogram_keys h.field h.spacing h.hard h.missing row
keys-of all h row = elim h.spacing as (λ s. keys all (histogram_kind (with_spacing h s)) row ≡ histogram_keys h.field s h.hard h.missing row) [
  | Numbers interval offset ↦ refl
  | Dates period zone ↦ refl
]
