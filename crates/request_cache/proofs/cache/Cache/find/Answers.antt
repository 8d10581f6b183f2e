use Rattle.std.proofs.Common.{◌≡◌, subst}
use Rattle.std.specs.Prelude.{IfOk}
use Rattle.cache_spec.specs.Cache.{entry_of}
use Rattle.cache_spec.specs.declared.shard_search.ShardSearch.{ShardSearch}
use Rattle.fitting_laws.specs.Indexes.{index_of}
use Rattle.request_cache.specs.Entries.{found_in}
use Rattle.request_cache.proofs.cache.Cache.find.Goals as goal

pub returns-clause-found : goal.returns-clause-found
returns-clause-found c =
    let is : c.in_ok-entry.entry ≡ entry_of c.args.search.now c.args.shard = λ i. (record { shard = c.in_ok-entry.ensures.shard i; search = c.in_ok-entry.ensures.search i }) in
    subst (λ (e : ShardSearch). IfOk c.look.result (λ found. found ≡ found_in c.args.self.now.entries (index_of c.args.self.now.index.now) e)) is c.look.ensures.found
