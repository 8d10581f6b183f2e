-- The entries of a least recently used cache as the list of their keys: which are there, and what a look-up and a put make of them.
use Rattle.std.specs.Prelude.{◌≡◌, refl, ℕ, zero, suc, ◌-◌, ◌<◌, ◌||◌, Bool, true, false, cond, not, if◌then◌else◌, List, [], ◌∷◌, filter, take, Contains, Option, Some, None, is_some}
use Rattle.std.specs.Cmp.{IsEquivalence}
use Rattle.std.specs.List.{AllByRecursion, IsDistinct, list_any, take-map}
use Rattle.std.specs.Map.{keys_of, lookup, lookup_entry, remove_entry}
use Rattle.std.specs.Option.{option_map_or}
use Rattle.std.proofs.Common.{◌∙◌, sym, ap, subst, arith}
use Rattle.lru.specs.LruCache.{LruCache, promoted, put_entries}
use Rattle.lru.proofs.CallerLemmas.{Contains-lookup_entry}

module _ {K V : Type 0} (test : K → Bool) where
  -- a look-up finds a value exactly where a key passes
  pub value-there : (es : List (K × V)) → is_some (lookup test es) ≡ list_any test (keys_of es)
  value-there [] = refl
  value-there (e ∷ es) = elim (test e.0) as (λ b. is_some (cond b (Some e.1) (lookup test es)) ≡ (b || list_any test (keys_of es))) [
    | true ↦ refl
    | false ↦ value-there es
  ]

  pub entry-there : (es : List (K × V)) → is_some (lookup_entry test es) ≡ list_any test (keys_of es)
  entry-there [] = refl
  entry-there (e ∷ es) = elim (test e.0) as (λ b. is_some (cond b (Some e) (lookup_entry test es)) ≡ (b || list_any test (keys_of es))) [
    | true ↦ refl
    | false ↦ entry-there es
  ]

module _ {K : Type 0} {eq : K → K → Bool} (laws : IsEquivalence eq) (k : K) where
  abbrev others : List K → List K
  others ks = filter (λ f. not (eq k f)) ks

  -- where one key equals k, no key that differs from it does
  others-all : (e : K) (ks : List K) → eq k e ≡ true → AllByRecursion (λ f. eq e f ≡ false) ks → others ks ≡ ks
  others-all e [] same apart = refl
  others-all e (f ∷ ks) same (first, rest) =
      let differs : eq k f ≡ false = laws.congr k e f same ∙ first in
      ap (λ b. cond (not b) (f ∷ others ks) (others ks)) differs ∙ ap (λ gs. f ∷ gs) (others-all e ks same rest)

  taken : (n : ℕ) (ks : List K) → 0 < n → k ∷ take (n - 1) ks ≡ take n (k ∷ ks)
  taken zero ks some = absurd (let no : ⊥ = omega (arith, some) in no)
  taken (suc n) ks some = let less : suc n - 1 ≡ n = omega arith in ap (λ m. k ∷ take m ks) less

module _ {K V : Type 0} {eq : K → K → Bool} (laws : IsEquivalence eq) (k : K) where
  pub keys-remove_entry : (es : List (K × V)) → IsDistinct eq (keys_of es) → keys_of (remove_entry (eq k) es) ≡ others laws k (keys_of es)
  unfolding IsDistinct
  keys-remove_entry [] distinct = refl
  keys-remove_entry (e ∷ es) (first, rest) = (elim (eq k e.0) as (λ b. eq k e.0 ≡ b
      → keys_of (cond b es (e ∷ remove_entry (eq k) es)) ≡ cond (not b) (e.0 ∷ others laws k (keys_of es)) (others laws k (keys_of es))) [
        | true ↦ λ same. sym (others-all laws k e.0 (keys_of es) same first)
        | false ↦ λ differs. ap (λ gs. e.0 ∷ gs) (keys-remove_entry es rest)
      ]) refl

  module _ (one : (a b : K) → eq a b ≡ true → a ≡ b) where
    found-first : (es : List (K × V)) (f : K × V) → IsDistinct eq (keys_of es) → lookup_entry (eq k) es ≡ Some f
        → f.0 ∷ keys_of (remove_entry (eq k) es) ≡ k ∷ others laws k (keys_of es)
    found-first es f distinct is =
        ap (λ j. j ∷ keys_of (remove_entry (eq k) es)) (sym (one k f.0 (Contains-lookup_entry (eq k) es f is).1)) ∙ ap (λ ks. k ∷ ks) (keys-remove_entry es distinct)

    -- an entry that is asked for comes to the front
    pub keys-promoted : (es : List (K × V)) → IsDistinct eq (keys_of es)
        → keys_of (promoted (eq k) es) ≡ (if list_any (eq k) (keys_of es) then k ∷ others laws k (keys_of es) else keys_of es)
    keys-promoted es distinct = by_entry (lookup_entry (eq k) es) refl
      where
        by_entry : (o : Option (K × V)) → lookup_entry (eq k) es ≡ o
            → keys_of (option_map_or (λ e. e ∷ remove_entry (eq k) es) o es) ≡ (if list_any (eq k) (keys_of es) then k ∷ others laws k (keys_of es) else keys_of es)
        by_entry None is =
            let absent : list_any (eq k) (keys_of es) ≡ false = sym (entry-there (eq k) es) ∙ ap is_some is in
            sym (ap (λ b. if b then k ∷ others laws k (keys_of es) else keys_of es) absent)
        by_entry (Some f) is =
            let there : list_any (eq k) (keys_of es) ≡ true = sym (entry-there (eq k) es) ∙ ap is_some is in
            found-first es f distinct is ∙ sym (ap (λ b. if b then k ∷ others laws k (keys_of es) else keys_of es) there)

    -- an entry that is put stands in front, and a new one pushes the last out of a full cache
    pub keys-put_entries : (c : LruCache K V) (v : V) → IsDistinct eq (keys_of c.entries) → 0 < c.cap
        → keys_of (put_entries eq c k v)
        ≡ (if list_any (eq k) (keys_of c.entries) then k ∷ others laws k (keys_of c.entries) else take c.cap (k ∷ keys_of c.entries))
    keys-put_entries c v distinct some = by_entry (lookup_entry (eq k) c.entries) refl
      where
        by_entry : (o : Option (K × V)) → lookup_entry (eq k) c.entries ≡ o
            → keys_of (option_map_or (λ e. (e.0, v) ∷ remove_entry (eq k) c.entries) o ((k, v) ∷ take (c.cap - 1) c.entries))
            ≡ (if list_any (eq k) (keys_of c.entries) then k ∷ others laws k (keys_of c.entries) else take c.cap (k ∷ keys_of c.entries))
        by_entry None is =
            let absent : list_any (eq k) (keys_of c.entries) ≡ false = sym (entry-there (eq k) c.entries) ∙ ap is_some is in
            ap (λ ks. k ∷ ks) (sym (take-map (λ (e : K × V). e.0) (c.cap - 1) c.entries)) ∙ taken laws k c.cap (keys_of c.entries) some
            ∙ sym (ap (λ b. if b then k ∷ others laws k (keys_of c.entries) else take c.cap (k ∷ keys_of c.entries)) absent)
        by_entry (Some f) is =
            let there : list_any (eq k) (keys_of c.entries) ≡ true = sym (entry-there (eq k) c.entries) ∙ ap is_some is in
            found-first c.entries f distinct is
            ∙ sym (ap (λ b. if b then k ∷ others laws k (keys_of c.entries) else take c.cap (k ∷ keys_of c.entries)) there)
