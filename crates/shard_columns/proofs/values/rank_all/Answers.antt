use Rattle.std.proofs.Common.{sym, subst}
use Rattle.shard_columns.specs.declared.values.Typed.{Typed}
use Rattle.shard_columns.specs.declared.values.Typed.TheVariants as typed
use Rattle.shard_columns.specs.Values.{AreRankedAll}
use Rattle.shard_columns.proofs.Ranking.{ranked-words}
use Rattle.shard_columns.proofs.values.rank_all.Goals as goal

pub returns-in-Words : goal.returns-in-Words
returns-in-Words c =
    subst (λ (t : Typed). AreRankedAll c.args.ranks.now t (typed.Words c.rank_words.new.words)) (sym c.in-Words.is) (ranked-words c.args.ranks.now c.in-Words.words c.rank_words.new.words c.rank_words.ensures)
