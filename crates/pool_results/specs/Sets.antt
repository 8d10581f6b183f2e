-- Two results that are equal are so in one way, so that a fact on results may be kept beside them.
use Rattle.std.specs.Coded.{Coded-set}
use Rattle.agg_model.specs.contracts.partial.Partial as partial
use Rattle.agg_model.specs.declared.partial.Partial.{Partial}

pub Partial-set : IsSet Partial
Partial-set = Coded-set partial.the_row.coded
