-- What a look-up and a put make of a cache each of whose entries has the answer of its shard.
use Rattle.std.specs.Prelude.{◌≡◌, refl, ℕ, ◌<◌, ◌⊎◌, Bool, true, false, if◌then◌else◌, List, Contains, Option, Some, None, is_some, Result, Ok, Err, OnOk, OnErr}
use Rattle.std.specs.List.{IsDistinct, list_any}
use Rattle.std.specs.Map.{keys_of, lookup}
use Rattle.std.proofs.Math.Logic.{∥∥₁_elim, ∥∥₁_map}
use Rattle.std.specs.Coded.{Coded-set}
use Rattle.std.proofs.Common.{◌∙◌, sym, ap, subst, inl, inr}
use Rattle.lru.specs.LruCache.{LruCache, lru_cache, promoted, put_entries}
use Rattle.lru.proofs.CallerLemmas.{Contains-lookup, Contains-promoted, Contains-put_entries}
use Rattle.agg_model.specs.contracts.partial.Partial as partial
use Rattle.cache_spec.specs.declared.shard_search.ShardSearch.{ShardSearch}
use Rattle.agg_model.specs.declared.partial.Partial.{Partial}
use Rattle.cache_spec.specs.Cache.{added, entries_after, used}
use Rattle.agg_spec.specs.Index.{Index}
use Rattle.request_cache.specs.Entries.{HoldsAnswers, answer_in, entries_found, entries_in, entries_put, found_in, has_entry}
use Rattle.request_cache.proofs.EqualEntries.{entries-laws, entries-one, equal_entries}
use Rattle.request_cache.proofs.KeptEntries.{keys-promoted, keys-put_entries, value-there}

module _ (index : Index) (cache : LruCache ShardSearch Partial) (e : ShardSearch) where
  abbrev test : ShardSearch → Bool
  test = equal_entries e

  one-partial : (a b : Partial) → IsProp (a ≡ b)
  one-partial a b = Coded-set partial.the_row.coded a b

  -- what is found under a key is the answer of its shard
  pub kept-is : ∥ HoldsAnswers index cache ∥₁ → (p : Partial) → lookup test cache.entries ≡ Some p → p ≡ answer_in index e
  kept-is holds p is =
      let entry = Contains-lookup test cache.entries p is in
      ∥∥₁_elim holds (one-partial p (answer_in index e)) (λ h. h (entry.0, p) entry.1 ∙ ap (answer_in index) (sym (entries-one e entry.0 entry.2)))

  pub is-there : (p : Partial) → lookup test cache.entries ≡ Some p → has_entry cache e ≡ true
  is-there p is = sym (value-there test cache.entries) ∙ ap is_some is

  pub is-absent : lookup test cache.entries ≡ None → has_entry cache e ≡ false
  is-absent is = sym (value-there test cache.entries) ∙ ap is_some is

  pub found-some : ∥ HoldsAnswers index cache ∥₁ → (p : Partial) → lookup test cache.entries ≡ Some p → Some p ≡ found_in cache index e
  found-some holds p is = ap Some (kept-is holds p is) ∙ sym (ap (λ b. if b then Some (answer_in index e) else None) (is-there p is))

  pub found-nothing : lookup test cache.entries ≡ None → None ≡ found_in cache index e
  found-nothing is = sym (ap (λ b. if b then Some (answer_in index e) else None) (is-absent is))

  pub found-first : IsDistinct equal_entries (keys_of cache.entries) → entries_in (lru_cache (promoted test cache.entries) cache.cap) ≡ entries_found cache e
  found-first distinct = keys-promoted entries-laws e entries-one cache.entries distinct

  -- a look-up that finds nothing leaves the entries as they are
  pub found-none : lookup test cache.entries ≡ None → entries_in cache ≡ entries_found cache e
  found-none is = sym (ap (λ b. if b then used e (entries_in cache) else entries_in cache) (is-absent is))

  pub found-holds : ∥ HoldsAnswers index cache ∥₁ → ∥ HoldsAnswers index (lru_cache (promoted test cache.entries) cache.cap) ∥₁
  found-holds holds = ∥∥₁_map holds (λ h f among. h f (Contains-promoted test cache.entries f among))

  by_entry : (b : Bool) → (if b then used e (entries_in cache) else added cache.cap e (entries_in cache))
      ≡ entries_after cache.cap b None e (entries_in cache)
  by_entry true = refl
  by_entry false = refl

  module _ (p : Partial) where
    pub put-first : IsDistinct equal_entries (keys_of cache.entries) → 0 < cache.cap
        → entries_in (lru_cache (put_entries equal_entries cache e p) cache.cap) ≡ entries_put cache e
    put-first distinct some = keys-put_entries entries-laws e entries-one cache p distinct some ∙ by_entry (has_entry cache e)

    pub put-holds : ∥ HoldsAnswers index cache ∥₁ → p ≡ answer_in index e → ∥ HoldsAnswers index (lru_cache (put_entries equal_entries cache e p) cache.cap) ∥₁
    put-holds holds answer = ∥∥₁_map holds (λ h f among. elim (Contains-put_entries equal_entries cache e p f among) [
      | inl was ↦ h f was
      | inr (value, inl key) ↦ value ∙ answer ∙ ap (answer_in index) (sym key)
      | inr (value, inr (old, was, same)) ↦ value ∙ answer ∙ ap (answer_in index) (entries-one e f.0 same)
    ])

    -- whether the put took place or not
    pub put-either : {T E : Type 0} (r : Result T E) (now : LruCache ShardSearch Partial) → OnOk r (now ≡ lru_cache (put_entries equal_entries cache e p) cache.cap)
        → OnErr r (now ≡ cache) → ∥ HoldsAnswers index cache ∥₁ → p ≡ answer_in index e → ∥ HoldsAnswers index now ∥₁
    put-either (Ok v) now ok err holds answer = subst (λ (c : LruCache ShardSearch Partial). ∥ HoldsAnswers index c ∥₁) (sym ok) (put-holds holds answer)
    put-either (Err v) now ok err holds answer = subst (λ (c : LruCache ShardSearch Partial). ∥ HoldsAnswers index c ∥₁) (sym err) holds

-- what is there was found, and what is not there was not
pub found-then : (b : Bool) (a : Partial) (o : Option Partial) → o ≡ (if b then Some a else None) → (p : Partial) → o ≡ Some p → (b ≡ true) × (p ≡ a)
found-then true a o is p e = (refl, (let same : p ≡ a = cc in same))
found-then false a o is p e = absurd (let no : ⊥ = cc in no)

pub absent-then : (b : Bool) (a : Partial) (o : Option Partial) → o ≡ (if b then Some a else None) → o ≡ None → b ≡ false
absent-then true a o is e = absurd (let no : ⊥ = cc in no)
absent-then false a o is e = refl
