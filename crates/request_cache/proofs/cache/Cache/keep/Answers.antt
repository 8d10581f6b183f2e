use Rattle.std.proofs.Common.{◌≡◌, ◌∙◌, ap}
use Rattle.fitting_laws.specs.Indexes.{index_of}
use Rattle.request_cache.specs.Entries.{entries_in}
use Rattle.request_cache.proofs.AnswersKept.{put-either, put-first}
use Rattle.request_cache.proofs.cache.Cache.keep.Goals as goal

pub invariant_of-self : goal.invariant_of-self
invariant_of-self c = record {
  kept = put-either (index_of c.args.self.now.index.now) c.args.self.now.entries c.args.entry c.in_ok-copied.copied c.put.result c.put.new.self
      c.put.ensures.entries c.put.ensures.err c.args.self.now.kept (c.in_ok-copied.ensures ∙ c.requires);
}

pub returns-in-Ok-clause-entries : goal.returns-in-Ok-clause-entries
returns-in-Ok-clause-entries c =
    ap entries_in c.in-Ok.ensures.entries
    ∙ put-first (index_of c.args.self.now.index.now) c.args.self.now.entries c.args.entry c.in_ok-copied.copied c.len-length.ensures.valid.0 c.len-length.ensures.valid.2
