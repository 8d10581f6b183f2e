use Rattle.std.proofs.Common.{◌∙◌, sym, ap, List}
use Rattle.agg_model.specs.declared.partial.Node.TheVariants.{Keyed}
use Rattle.agg_evaluation.specs.Shard.{sorted_by_key}
use Rattle.composite_agg.specs.Runs.{Run, in_runs}
use Rattle.growing_tree.proofs.Empties.{empty-level}
use Rattle.growing_page.specs.GrowingPages.{shown_all}
use Rattle.growing_page.specs.declared.page.Held.{Held}
use Rattle.growing_page.proofs.page.Page.begin.Goals as goal

pub returns-clause-node : goal.returns-clause-node
returns-clause-node c ds agg e =
    ap (λ (rs : List (Run Held)). Keyed (sorted_by_key (shown_all ds (in_runs rs))) 0 0 0) c.new.ensures.items
    ∙ sym (empty-level agg _ (e ∙ c.in-Composite.is))
