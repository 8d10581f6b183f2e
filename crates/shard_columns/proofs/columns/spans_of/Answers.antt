use Rattle.std.proofs.Common.{sym, subst}
use Rattle.shard_columns.specs.Columnar.{StandFor}
use Rattle.shard_columns.specs.declared.homes.Homes.{Homes}
use Rattle.shard_columns.specs.declared.columns.Spans.TheVariants.{OneEach}
use Rattle.shard_columns.proofs.Starting.{roots-stand}
use Rattle.shard_columns.proofs.columns.spans_of.Goals as goal

pub returns-in-Some-OfRoots-clause-spans : goal.returns-in-Some-OfRoots-clause-spans
returns-in-Some-OfRoots-clause-spans c =
    subst (λ (homes : Homes). StandFor homes (OneEach 0 c.in-Some-OfRoots.count) c.args.held) (sym c.in-Some-OfRoots.is-1)
    (roots-stand c.in-Some-OfRoots.field-0-1 c.in-Some-OfRoots.count c.args.held c.in-Some-OfRoots.ensures)
