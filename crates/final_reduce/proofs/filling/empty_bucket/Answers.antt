use Rattle.std.proofs.Common.{◌∙◌, sym}
use Rattle.agg_model.specs.declared.key.Key.TheVariants.{Whole}
use Rattle.std.proofs.lemmas.Int.{to_z-of_z}
use mir.Syntax.{w128}
use Rattle.final_reduce.proofs.WholesOfNothing.{wholes_of_nothing}
use Rattle.final_reduce.proofs.filling.empty_bucket.Goals as goal

pub returns : goal.returns
returns c = λ i. record { key = Whole (to_z-of_z w128 c.args.key c.ranges.key i); count = 0; covered = 0; children = (c.in_ok-empty_nodes.ensures ∙ sym (wholes_of_nothing c.args.children.now)) i }
