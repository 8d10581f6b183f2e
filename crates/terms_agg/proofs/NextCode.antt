-- What the code of one more value adds to the keys of a row.
use Rattle.std.proofs.Common.{◌≡◌, ℕ, ◌+◌, ◌-◌, ◌<◌, Bool, true, cond, List, [], ◌∷◌, ◌++◌, length, Some, sym, ◌∙◌, ap, ℤ, take}
use Rattle.std.specs.Prelude.{option_to_list}
use Rattle.agg_model.specs.declared.key.Key.{Key}
use Rattle.agg_model.specs.declared.row.Scalar.{Scalar}
use Rattle.agg_model.specs.Options.{TermsOptions}
use Rattle.agg_evaluation.specs.DocumentFits.{ascend}
use Rattle.agg_evaluation.specs.Keys.{is_included}
use Rattle.shard_columns.specs.Columns.{Columns}
use Rattle.shard_columns.specs.Dictionary.{words_of}
use Rattle.terms_agg.specs.declared.content.Content.{Content}
use Rattle.terms_agg.specs.declared.prepared.PreparedTerms.{PreparedTerms}
use Rattle.terms_agg.specs.Codes.{content_in, is_code_at, key_at, key_of, allows}
use Rattle.terms_agg.specs.Prepared.{IsReadyFor, keys_of_values}
use Rattle.terms_agg.proofs.Coding.{key-kept, own-apart}
use Rattle.terms_agg.proofs.Values.{key_there, step_same, step_first, step_other}

module _ (shard : Columns) (p : PreparedTerms) (vs : List Scalar) (ascends : ascend vs ≡ true) where
  abbrev content : Content
  content = content_in shard p.field

  abbrev words : List (List ℕ)
  words = words_of p.field shard.rows

  abbrev IsCode : ℤ → Type 0
  IsCode c = is_code_at content (length words) c ≡ true

  abbrev StandsAt : ℕ → ℤ → Type 0
  StandsAt n c = key_there vs n ≡ Some (key_at content words c)

  module _ (t : TermsOptions) (r : IsReadyFor shard t p) where
    kept : (k : ℤ) → IsCode k → key_of shard p k ≡ key_at content words k
    kept k code = key-kept content words (option_to_list p.other) k code

    included_is : (k : ℤ) (b : Bool) → IsCode k → b ≡ allows p k → is_included t.include t.exclude (key_at content words k) ≡ b
    included_is k b code is = ap (is_included t.include t.exclude) (sym (kept k code)) ∙ (sym (r.allowed k code) ∙ sym is)

    -- nothing, where it is the code of the value before
    pub same-code : (n : ℕ) (j k : ℤ) → 0 < n → StandsAt (n - 1) j → StandsAt n k → j ≡ k → keys_of_values t (take (n + 1) vs) ≡ keys_of_values t (take n vs) ++ []
    same-code n j k above before is same = step_same t vs ascends n (key_at content words j) (key_at content words k) above before is (ap (key_at content words) same)

    -- its key, where it is allowed, at the first value
    pub first-code : (n : ℕ) (k : ℤ) (b : Bool) → n ≡ 0 → StandsAt n k → IsCode k → b ≡ allows p k → keys_of_values t (take (n + 1) vs) ≡ keys_of_values t (take n vs) ++ cond b (key_of shard p k ∷ []) []
    first-code n k b first is code allowed =
        step_first t vs ascends n (key_at content words k) b first is (included_is k b code allowed) ∙ ap (λ (x : Key). keys_of_values t (take n vs) ++ cond b (x ∷ []) []) (sym (kept k code))

    -- and where the value before has another
    pub other-code : (n : ℕ) (j k : ℤ) (b : Bool) → 0 < n → StandsAt (n - 1) j → IsCode j → StandsAt n k → IsCode k → (j ≡ k → ⊥) → b ≡ allows p k
        → keys_of_values t (take (n + 1) vs) ≡ keys_of_values t (take n vs) ++ cond b (key_of shard p k ∷ []) []
    other-code n j k b above before before_code is code differs allowed =
        step_other t vs ascends n (key_at content words j) (key_at content words k) b above before is (λ e. differs (own-apart content p.field shard.rows j k before_code code e)) (included_is k b code allowed)
        ∙ ap (λ (x : Key). keys_of_values t (take n vs) ++ cond b (x ∷ []) []) (sym (kept k code))
