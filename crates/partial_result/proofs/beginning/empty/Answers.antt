use Rattle.std.proofs.Common.{◌∙◌, sym}
use Rattle.agg_evaluation.proofs.SearchLaws.{whole-empty}
use Rattle.partial_result.proofs.beginning.empty.Goals as goal

pub returns : goal.returns
returns c = record { whole = (λ i. record { hits = 0; nodes = c.in_ok-empty_nodes.ensures i }) ∙ sym (whole-empty c.args.search.now) }
