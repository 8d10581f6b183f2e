use Rattle.agg_mapping.proofs.CollectedLemmas.{full}
use Rattle.agg_mapping.proofs.collected.Collected.is_full.Goals as goal

pub returns : goal.returns
returns c = rw (c.len.ensures, c.len-2.ensures) (full c.args.self.now c.args.self.now.few)
