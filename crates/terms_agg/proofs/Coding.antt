-- Codes of the values that rows have, and the keys that they stand for.
use Rattle.std.proofs.Common.{◌≡◌, refl, ℕ, ◌<◌, zero, suc, true, List, [], ◌∷◌, ◌++◌, ◌⊎◌, inl, inr, length, Option, Some, None, sym, ◌∙◌, ap, arith, ℤ, pos, length-append}
use Rattle.std.specs.Prelude.{option_to_list}
use Rattle.std.specs.List.{slice_get}
use Rattle.std.proofs.lemmas.Bool.{lt-ltb}
use Rattle.std.proofs.Math.Seq.{get_or-append_seam}
use Rattle.std.proofs.lemmas.List.{get_or_append_left}
use Rattle.std.proofs.lemmas.Option.{slice_get-get_or}
use Rattle.agg_model.specs.declared.key.Key.TheVariants as key
use Rattle.agg_model.specs.declared.row.Scalar.{Scalar}
use Rattle.agg_model.specs.declared.row.Scalar.TheVariants as scalar
use Rattle.agg_model.specs.ValueKeys.{scalar_key}
use Rattle.agg_evaluation.specs.Rows.{PlacedRow}
use Rattle.shard_columns.specs.Dictionary.{words_of, NoRowHas}
use Rattle.shard_columns.specs.Values.{Words}
use Rattle.terms_agg.specs.declared.content.Content.{Content}
use Rattle.terms_agg.specs.declared.content.Content.TheVariants.{Wholes, Flags}
use Rattle.terms_agg.specs.declared.content.Content.TheVariants as hold
use Rattle.terms_agg.specs.Codes.{word_at, flag_at, key_at, is_place, is_code_at, is_content}
use Rattle.terms_agg.specs.Prepared.{IsCodeOfValue}
use Rattle.terms_agg.proofs.Standing.{place-is, flag-code}
use Rattle.terms_agg.proofs.Words.{one-place, no-place}

in_place : (n k : ℕ) → k < n → is_place n (pos k) ≡ true
in_place n k below = lt-ltb k n below

pub word_content : (content : Content) (w : List ℕ) → is_content content (scalar.Word w) ≡ true → content ≡ hold.Words
word_content Wholes w h = absurd (cc h)
word_content Flags w h = absurd (cc h)
word_content hold.Words w h = refl

-- ---- more words behind those of the dictionary

more_places : (words more : Words) (c : ℤ) → is_place (length words) c ≡ true → is_place (length (words ++ more)) c ≡ true
more_places words more c h =
    let at = place-is (length words) c h in
    ap (is_place (length (words ++ more))) at.1.0 ∙ in_place (length (words ++ more)) at.0 (omega (arith, length-append words more, at.1.1))

same_word : (words more : Words) (c : ℤ) → is_place (length words) c ≡ true → word_at (words ++ more) c ≡ word_at words c
same_word words more c h =
    let at = place-is (length words) c h in
    ap (word_at (words ++ more)) at.1.0 ∙ (get_or_append_left words more [] at.0 at.1.1 ∙ ap (word_at words) (sym at.1.0))

pub code-kept : (content : Content) (words more : Words) (c : ℤ) → is_code_at content (length words) c ≡ true → is_code_at content (length (words ++ more)) c ≡ true
code-kept Wholes words more c h = refl
code-kept Flags words more c h = h
code-kept hold.Words words more c h = more_places words more c h

pub key-kept : (content : Content) (words more : Words) (c : ℤ) → is_code_at content (length words) c ≡ true → key_at content (words ++ more) c ≡ key_at content words c
key-kept Wholes words more c h = refl
key-kept Flags words more c h = refl
key-kept hold.Words words more c h = ap key.Word (same_word words more c h)

-- ---- codes of their own

in_either : (ws : Words) (other w : List ℕ) (i : ℕ) → slice_get (ws ++ other ∷ []) i ≡ Some w → (slice_get ws i ≡ Some w) ⊎ ((i ≡ length ws) × (other ≡ w))
in_either [] other w zero is = inr (refl, (let same : other ≡ w = cc is in same))
in_either [] other w (suc i) is = absurd (cc is)
in_either (v ∷ vs) other w zero is = inl is
in_either (v ∷ vs) other w (suc i) is = elim (in_either vs other w i is) [
  | inl there ↦ inl there
  | inr last ↦ inr (ap suc last.0, last.1)
]

in_first : (ws : Words) (w : List ℕ) (i : ℕ) → slice_get (ws ++ []) i ≡ Some w → slice_get ws i ≡ Some w
in_first [] w i is = is
in_first (v ∷ vs) w zero is = is
in_first (v ∷ vs) w (suc i) is = in_first vs w i is

one_in_all : (field : ℕ) (rows : List PlacedRow) (other : Option (List ℕ)) → ((n : ℕ) (w : List ℕ) → slice_get (words_of field rows) n ≡ Some w → other ≡ Some w → ⊥) → (i j : ℕ) (w : List ℕ)
    → slice_get (words_of field rows ++ option_to_list other) i ≡ Some w → slice_get (words_of field rows ++ option_to_list other) j ≡ Some w → i ≡ j
one_in_all field rows None absent i j w i_at j_at = one-place field rows i j w (in_first (words_of field rows) w i i_at) (in_first (words_of field rows) w j j_at)
one_in_all field rows (Some other) absent i j w i_at j_at = elim (in_either (words_of field rows) other w i i_at) [
  | inl first ↦ elim (in_either (words_of field rows) other w j j_at) [
    | inl second ↦ one-place field rows i j w first second
    | inr last ↦ absurd (absent i w first (ap Some last.1))
  ]
  | inr last ↦ elim (in_either (words_of field rows) other w j j_at) [
    | inl second ↦ absurd (absent j w second (ap Some last.1))
    | inr again ↦ last.0 ∙ sym again.0
  ]
]

there : (words : Words) (c : ℤ) → is_place (length words) c ≡ true → (k : ℕ) × ((c ≡ pos k) × (slice_get words k ≡ Some (word_at words c)))
there words c h =
    let at = place-is (length words) c h in
    (at.0, (at.1.0, slice_get-get_or words at.0 [] at.1.1 ∙ ap (λ (x : ℤ). Some (word_at words x)) (sym at.1.0)))

flags_apart : (c d : ℤ) → is_place 2 c ≡ true → is_place 2 d ≡ true → flag_at c ≡ flag_at d → c ≡ d
flags_apart c d c_code d_code e = flag-code c (flag_at d) c_code e ∙ sym (flag-code d (flag_at d) d_code refl)

-- different codes have different keys
pub codes-apart : (content : Content) (field : ℕ) (rows : List PlacedRow) (other : Option (List ℕ)) → ((n : ℕ) (w : List ℕ) → slice_get (words_of field rows) n ≡ Some w → other ≡ Some w → ⊥) → (c d : ℤ)
    → is_code_at content (length (words_of field rows ++ option_to_list other)) c ≡ true → is_code_at content (length (words_of field rows ++ option_to_list other)) d ≡ true
    → key_at content (words_of field rows ++ option_to_list other) c ≡ key_at content (words_of field rows ++ option_to_list other) d → c ≡ d
codes-apart Wholes field rows other absent c d c_code d_code e = let same : c ≡ d = cc e in same
codes-apart Flags field rows other absent c d c_code d_code e = flags_apart c d c_code d_code (let same : flag_at c ≡ flag_at d = cc e in same)
codes-apart hold.Words field rows other absent c d c_code d_code e =
    let words = words_of field rows ++ option_to_list other in
    let same : word_at words c ≡ word_at words d = cc e in
    let first = there words c c_code in
    let second = there words d d_code in
    first.1.0 ∙ (ap pos (one_in_all field rows other absent first.0 second.0 (word_at words d) (first.1.1 ∙ ap Some same) second.1.1) ∙ sym second.1.0)

-- codes of the dictionary alone
pub own-apart : (content : Content) (field : ℕ) (rows : List PlacedRow) (c d : ℤ) → is_code_at content (length (words_of field rows)) c ≡ true → is_code_at content (length (words_of field rows)) d ≡ true
    → key_at content (words_of field rows) c ≡ key_at content (words_of field rows) d → c ≡ d
own-apart content field rows c d c_code d_code e =
    let words = words_of field rows in
    codes-apart content field rows None (λ n w at none. cc none) c d (code-kept content words [] c c_code) (code-kept content words [] d d_code)
    (key-kept content words [] c c_code ∙ (e ∙ sym (key-kept content words [] d d_code)))

-- a word that no row has, behind the dictionary
pub other-coded : (content : Content) (field : ℕ) (rows : List PlacedRow) (value : Scalar) (w : List ℕ) (c : ℤ) (other : List ℕ) → is_content content value ≡ true → value ≡ scalar.Word w
    → c ≡ pos (length (words_of field rows)) → other ≡ w → NoRowHas field w rows → IsCodeOfValue content (words_of field rows) value c (Some other)
other-coded content field rows value w c other fits is at same absent =
    let words = words_of field rows in
    let content_is = word_content content w (ap (is_content content) (sym is) ∙ fits) in
    record {
      key_is = (λ i. key_at (content_is i) (words ++ other ∷ []) (at i)) ∙ (ap key.Word (get_or-append_seam words other [] [] ∙ same) ∙ ap scalar_key (sym is));
      is_code = (λ i. is_code_at (content_is i) (length (words ++ other ∷ [])) (at i)) ∙ in_place (length (words ++ other ∷ [])) (length words) (omega (arith, length-append words (other ∷ [])));
      absent = λ n v v_at e. no-place field rows w absent n v v_at (let two : other ≡ v = cc e in sym two ∙ same);
    }
