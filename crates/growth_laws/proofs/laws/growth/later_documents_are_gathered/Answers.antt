use Rattle.list_laws.proofs.Booleans.{holds}
use Rattle.growth_laws.proofs.Gathered.{collected-gathers, global-gathers}
use Rattle.growth_laws.proofs.ShardRows.{shard-cut}
use Rattle.growth_laws.proofs.laws.growth.later_documents_are_gathered.Goals as goal

pub returns-clause-cut : goal.returns-clause-cut
returns-clause-cut c = shard-cut

pub returns-clause-every_kind : goal.returns-clause-every_kind
returns-clause-every_kind c = λ n all cut a placed rows more f t.
    collected-gathers n all cut a (holds _ placed) rows more (holds _ f) (holds _ t)

pub returns-clause-global : goal.returns-clause-global
returns-clause-global c = λ n all cut a e placed globals more rows f t.
    global-gathers n all cut a e (holds _ placed) globals more rows (holds _ f) (holds _ t)
