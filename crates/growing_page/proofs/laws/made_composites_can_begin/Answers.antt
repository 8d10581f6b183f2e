use Rattle.growing_page.proofs.Cursors.{agg-cursor}
use Rattle.growing_page.proofs.laws.made_composites_can_begin.Goals as goal

pub returns : goal.returns
returns c = agg-cursor
