-- Codes that stand for what a request names.
use Rattle.std.proofs.Common.{◌≡◌, refl, ℕ, ◌<◌, zero, suc, Bool, true, false, List, [], length, Option, Some, None, sym, ◌∙◌, ap, subst, arith, ℤ, pos, negsuc, T}
use mir.Val.{bool_byte}
use Rattle.std.specs.Prelude.{IfSome, IfNone, option_map}
use Rattle.std.specs.List.{slice_get}
use Rattle.std.specs.Ordering.{int_cmp, is_eq}
use Rattle.std.proofs.lemmas.Bool.{ltb-true}
use Rattle.std.proofs.lemmas.Option.{get_or_from_slice_get, slice_get-get_or}
use Rattle.agg_model.specs.declared.key.Key.{Key}
use Rattle.agg_model.specs.declared.key.Key.TheVariants as key
use Rattle.agg_model.specs.declared.query.Probe.{Probe}
use Rattle.agg_model.specs.declared.query.Probe.TheVariants as probe
use Rattle.agg_model.specs.ValueKeys.{probe_key}
use Rattle.agg_evaluation.specs.KeyOrder.{key_eq}
use Rattle.agg_evaluation.specs.Rows.{PlacedRow}
use Rattle.agg_evaluation.proofs.Computing.{computing}
use Rattle.agg_evaluation.proofs.KeyLists.{key_eq-self, key_eq-exact}
use Rattle.list_laws.proofs.Booleans.{same_truth, holds}
use Rattle.shard_columns.specs.Dictionary.{words_of, NoRowHas}
use Rattle.shard_columns.specs.Values.{Words}
use Rattle.terms_agg.specs.declared.content.Content.{Content}
use Rattle.terms_agg.specs.declared.content.Content.TheVariants.{Wholes, Flags}
use Rattle.terms_agg.specs.declared.content.Content.TheVariants as hold
use Rattle.terms_agg.specs.Codes.{word_at, flag_at, key_at, is_place, is_code_at}
use Rattle.terms_agg.specs.Lent.{flag_number}
use Rattle.terms_agg.specs.Prepared.{StandsFor}
use Rattle.terms_agg.proofs.Words.{one-place, no-place}

equal : (j k : Key) → j ≡ k → T (key_eq j k)
equal j k e = subst (λ (x : Key). T (key_eq j x)) e (holds _ (key_eq-self j))

alike : (j k l m : Key) → (j ≡ k → l ≡ m) → (l ≡ m → j ≡ k) → key_eq j k ≡ key_eq l m
alike j k l m to from = same_truth _ _ (λ h. equal l m (to (key_eq-exact j k h))) (λ h. equal j k (from (key_eq-exact l m h)))

pub apart : (j k : Key) → (j ≡ k → ⊥) → false ≡ key_eq j k
apart j k differs = same_truth false (key_eq j k) (λ h. absurd h) (λ h. absurd (differs (key_eq-exact j k h)))

numbers : (a b : ℤ) → is_eq (int_cmp a b) ≡ key_eq (key.Whole a) (key.Whole b)
unfolding computing
numbers a b = refl

module _ (content : Content) (words : Words) where
  pub stands : (p : Probe) (n : ℤ) → ((c : ℤ) → is_code_at content (length words) c ≡ true → c ≡ n → key_at content words c ≡ probe_key p)
      → ((c : ℤ) → is_code_at content (length words) c ≡ true → key_at content words c ≡ probe_key p → c ≡ n) → StandsFor content words p (Some n)
  stands p n to from = record {
    same = λ c code. numbers c n ∙ alike (key.Whole c) (key.Whole n) (key_at content words c) (probe_key p)
        (λ e. to c code (let same : c ≡ n = cc e in same)) (λ e. ap key.Whole (from c code e));
  }

  pub stands_not : (p : Probe) → ((c : ℤ) → is_code_at content (length words) c ≡ true → key_at content words c ≡ probe_key p → ⊥) → StandsFor content words p None
  stands_not p never = record { same = λ c code. apart (key_at content words c) (probe_key p) (never c code) }

pub standing : (content k : Content) (words : Words) (p q : Probe) (n m : Option ℤ) → content ≡ k → p ≡ q → n ≡ m → StandsFor k words q m → StandsFor content words p n
standing content k words p q n m content_is p_is n_is s =
    subst (λ (x : Content). StandsFor x words p n) (sym content_is) (subst (λ (x : Probe). StandsFor k words x n) (sym p_is) (subst (λ (x : Option ℤ). StandsFor k words q x) (sym n_is) s))

-- a probe of another kind than the field
abbrev pub differs : Content → Probe → Bool
differs Wholes (probe.Whole n) = false
differs Flags (probe.Flag b) = false
differs hold.Words (probe.Word w) = false
differs _ _ = true

other_kind : (content : Content) (words : Words) (p : Probe) (c : ℤ) → differs content p ≡ true → key_at content words c ≡ probe_key p → ⊥
other_kind Wholes words (probe.Whole n) c d e = absurd (cc d)
other_kind Wholes words (probe.Flag b) c d e = absurd (cc e)
other_kind Wholes words (probe.Word w) c d e = absurd (cc e)
other_kind Flags words (probe.Whole n) c d e = absurd (cc e)
other_kind Flags words (probe.Flag b) c d e = absurd (cc d)
other_kind Flags words (probe.Word w) c d e = absurd (cc e)
other_kind hold.Words words (probe.Whole n) c d e = absurd (cc e)
other_kind hold.Words words (probe.Flag b) c d e = absurd (cc e)
other_kind hold.Words words (probe.Word w) c d e = absurd (cc d)

pub stands-other : (content : Content) (words : Words) (p : Probe) → differs content p ≡ true → StandsFor content words p None
stands-other content words p d = stands_not content words p (λ c code. other_kind content words p c d)

pub stands-whole : (words : Words) (n : ℤ) → StandsFor Wholes words (probe.Whole n) (Some n)
stands-whole words n = stands Wholes words (probe.Whole n) n (λ c code e. ap key.Whole e) (λ c code e. let same : c ≡ n = cc e in same)

-- a place is a natural number
pub place-is : (n : ℕ) (c : ℤ) → is_place n c ≡ true → (k : ℕ) × ((c ≡ pos k) × (k < n))
place-is n (pos k) h = (k, (refl, ltb-true k n h))
place-is n (negsuc k) h = absurd (cc h)

pub flag-byte : (b : Bool) → pos (bool_byte b) ≡ flag_number b
flag-byte true = refl
flag-byte false = refl

pub flag-back : (b : Bool) → flag_at (flag_number b) ≡ b
flag-back true = refl
flag-back false = refl

flag_of : (k : ℕ) (b : Bool) → k < 2 → flag_at (pos k) ≡ b → pos k ≡ flag_number b
flag_of zero true h e = absurd (cc e)
flag_of zero false h e = refl
flag_of (suc k) true h e = let none : suc k ≡ 1 = omega arith in ap pos none
flag_of (suc k) false h e = absurd (cc e)

pub flag-code : (c : ℤ) (b : Bool) → is_place 2 c ≡ true → flag_at c ≡ b → c ≡ flag_number b
flag-code c b code e = let at = place-is 2 c code in at.1.0 ∙ flag_of at.0 b at.1.1 (ap flag_at (sym at.1.0) ∙ e)

pub stands-flag : (words : Words) (b : Bool) → StandsFor Flags words (probe.Flag b) (Some (flag_number b))
stands-flag words b = stands Flags words (probe.Flag b) (flag_number b)
    (λ c code e. ap key.Flag (ap flag_at e ∙ flag-back b)) (λ c code e. flag-code c b code (let same : flag_at c ≡ b = cc e in same))

module _ (field : ℕ) (rows : List PlacedRow) where
  abbrev words : Words
  words = words_of field rows

  -- the word at a code's place
  pub word-there : (c : ℤ) (w : List ℕ) → is_place (length words) c ≡ true → word_at words c ≡ w → (k : ℕ) × ((c ≡ pos k) × (slice_get words k ≡ Some w))
  word-there c w code e =
      let at = place-is (length words) c code in
      (at.0, (at.1.0, slice_get-get_or words at.0 [] at.1.1 ∙ ap Some (ap (word_at words) (sym at.1.0) ∙ e)))

  pub stands-word : (w : List ℕ) (o : ℕ) → slice_get words o ≡ Some w → StandsFor hold.Words words (probe.Word w) (Some (pos o))
  stands-word w o at = stands hold.Words words (probe.Word w) (pos o)
      (λ c code e. ap key.Word (ap (word_at words) e ∙ get_or_from_slice_get words o w [] at))
      (λ c code e. let there = word-there c w code (let same : word_at words c ≡ w = cc e in same) in there.1.0 ∙ ap pos (one-place field rows there.0 o w there.1.1 at))

  pub stands-absent : (w : List ℕ) → NoRowHas field w rows → StandsFor hold.Words words (probe.Word w) None
  stands-absent w absent = stands_not hold.Words words (probe.Word w)
      (λ c code e. let there = word-there c w code (let same : word_at words c ≡ w = cc e in same) in no-place field rows w absent there.0 w there.1.1 refl)

  -- a word by its place, if it has one
  pub stands-named : (w : List ℕ) (ordinal : Option ℕ) → IfSome ordinal (λ o. slice_get words o ≡ Some w) → IfNone ordinal (NoRowHas field w rows) → StandsFor hold.Words words (probe.Word w) (option_map pos ordinal)
  stands-named w (Some o) found absent = stands-word w o found
  stands-named w None found absent = stands-absent w absent
