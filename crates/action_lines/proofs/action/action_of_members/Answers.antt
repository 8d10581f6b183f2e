use Rattle.std.proofs.Common.{arith, subst}
use Rattle.agg_reading.specs.Reading.{Gives}
use Rattle.action_lines.proofs.Sole.{not_sole}
use Rattle.action_lines.proofs.action.action_of_members.Goals as goal

pub returns-then-members-ne1 : goal.returns-then-members-ne1
returns-then-members-ne1 c =
    subst (Gives (λ x. x) c.refuse.result) (not_sole c.args.index.now c.args.before c.args.members.now (λ one. grind arith)) c.refuse.ensures
