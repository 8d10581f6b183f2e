use Rattle.std.proofs.Common.{◌≡◌, ◌∙◌, sym, ap, subst}
use Rattle.std.specs.Option.{option_copied}
use Rattle.std.specs.Prelude.{Some}
use Rattle.lru.specs.LruCache.{LruCache}
use Rattle.agg_model.specs.declared.partial.Partial.{Partial}
use Rattle.cache_spec.specs.declared.shard_search.ShardSearch.{ShardSearch}
use Rattle.fitting_laws.specs.Indexes.{index_of}
use Rattle.request_cache.specs.Entries.{HoldsAnswers, entries_in}
use Rattle.request_cache.proofs.AnswersKept.{found-first, found-holds, found-none, found-nothing, found-some}
use Rattle.request_cache.proofs.cache.Cache.look.Goals as goal

pub returns-in-None-clause-found : goal.returns-in-None-clause-found
returns-in-None-clause-found c =
    found-nothing (index_of c.args.self.now.index.now) c.args.self.now.entries c.args.entry.now (sym c.peek.ensures ∙ ap option_copied c.in-None.is)

pub returns-in-None-clause-entries : goal.returns-in-None-clause-entries
returns-in-None-clause-entries c =
    found-none (index_of c.args.self.now.index.now) c.args.self.now.entries c.args.entry.now (sym c.peek.ensures ∙ ap option_copied c.in-None.is)

pub invariant_of-self : goal.invariant_of-self
invariant_of-self c = record {
  kept = subst (λ (x : LruCache ShardSearch Partial). ∥ HoldsAnswers (index_of c.args.self.now.index.now) x ∥₁) (sym c.promote.ensures.entries)
      (found-holds (index_of c.args.self.now.index.now) c.args.self.now.entries c.args.entry.now c.args.self.now.kept);
}

pub returns-clause-found : goal.returns-clause-found
returns-clause-found c =
    ap Some c.in_ok-found-in-Some.ensures
    ∙ found-some (index_of c.args.self.now.index.now) c.args.self.now.entries c.args.entry.now c.args.self.now.kept c.in-Some.kept.now
    (sym c.peek.ensures ∙ ap option_copied c.in-Some.is)

pub returns-clause-entries : goal.returns-clause-entries
returns-clause-entries c =
    ap entries_in c.promote.ensures.entries
    ∙ found-first (index_of c.args.self.now.index.now) c.args.self.now.entries c.args.entry.now c.len-length.ensures.valid.0
