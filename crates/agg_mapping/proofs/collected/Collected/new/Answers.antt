use Rattle.agg_mapping.specs.Arranged.{arranged}
use Rattle.agg_mapping.proofs.collected.Collected.new.Goals as goal

pub returns : goal.returns
unfolding arranged
returns c = rw (c.new.ensures, c.new-2.ensures, c.new-3.ensures)
