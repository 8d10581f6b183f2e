-- Entries pass the test of their type exactly where they are one and the same.
use Rattle.std.specs.Prelude.{◌≡◌, Bool, true}
use Rattle.std.specs.Cmp.{IsEquivalence, first_so, second_so, unsigned_Decides}
use Rattle.cache_spec.specs.contracts.shard_search.ShardSearchEq.TheImpl.Laws as entry_laws
use Rattle.cache_spec.specs.contracts.shard_search.ShardSearchPartialEq.TheImpl as entry_eq
use Rattle.cache_spec.specs.declared.shard_search.ShardSearch.{ShardSearch}
use Rattle.search_equality.proofs.EqualSearches.{search-one}

abbrev pub equal_entries : ShardSearch → ShardSearch → Bool
equal_entries = (entry_eq.ghosts).eq

pub entries-one : (a b : ShardSearch) → equal_entries a b ≡ true → a ≡ b
entries-one a b e =
    let shard = (unsigned_Decides a.shard b.shard).0 (first_so _ _ e) in
    let asked = search-one a.search b.search (second_so _ _ e) in
    λ i. record { shard = shard i; search = asked i }

pub entries-laws : IsEquivalence equal_entries
entries-laws = entry_laws.laws-law
