-- Rows by the keys that they have (Elasticsearch Reference 8, 'Bucket aggregations').
use Rattle.std.specs.Prelude.{◌≡◌, ℕ, ℤ, false, List, [], ◌∷◌, map, filter, flat_map}
use Rattle.agg_model.specs.declared.key.Key.{Key}
use Rattle.agg_evaluation.specs.KeyOrder.{key_eq, has_key}

-- the rows that stand with a key
abbrev pub rows_with : Key → List (Key × ℕ) → List ℕ
rows_with q pairs = map (λ p. p.1) (filter (λ p. key_eq q p.0) pairs)

-- the pairs of a row and each of its keys
abbrev pub pairs_of : (ℕ → List Key) → List ℕ → List (Key × ℕ)
pairs_of keys_of rows = flat_map (λ row. map (λ k. (k, row)) (keys_of row)) rows

-- different codes have different keys
abbrev pub HasOwnKeys : (ℤ → Key) → Type 0
HasOwnKeys key_of = (c d : ℤ) → key_of c ≡ key_of d → c ≡ d

-- none of the keys stands twice
abbrev pub AreApart : List Key → Type 0
AreApart [] = Unit {0}
AreApart (k ∷ ks) = (has_key k ks ≡ false) × AreApart ks

-- for each code the rows that stand with its key
pub record AreGroups (key_of : ℤ → Key) (pairs : List (Key × ℕ)) (codes : List ℤ) (groups : List (List ℕ)) : Type 0 where
  pub groups_are : groups ≡ map (λ c. rows_with (key_of c) pairs) codes
  pub there : (q : Key) → has_key q (map key_of codes) ≡ has_key q (map (λ p. p.0) pairs)
