use Rattle.std.proofs.Common.{◌∙◌}
use Rattle.agg_base.proofs.SearchLemmas.{found}
use Rattle.agg_base.proofs.failing.is_among.Goals as goal

pub returns : goal.returns
returns c = c.is_ok.ensures.value ∙ found c.args.failing.now c.args.call c.binary_search.result c.requires c.binary_search.ensures.position
