use Rattle.std.proofs.Common.{◌∙◌, ap, arith, ◌++◌, ◌∷◌, [], get_or}
use Rattle.std.proofs.Math.ListN.{get_or-eq_default}
use Rattle.growing_tree.specs.Measures.{no_values}
use Rattle.growing_tree.proofs.MeasuredBuckets.{read-behind}
use Rattle.growing_tree.proofs.measured.begin_in_column.Goals as goal

pub returns-clause-here : goal.returns-clause-here
returns-clause-here c = get_or-eq_default c.args.column.now.items no_values (omega (arith, c.if-len-place.false, c.len.ensures, c.args.column.now.ok))

pub returns-clause-same : goal.returns-clause-same
returns-clause-same c n = ap (λ xs. get_or xs n no_values) (c.in_ok-push.ensures.items ∙ ap (λ x. c.args.column.now.items ++ x ∷ []) c.new.ensures) ∙ read-behind c.args.column.now.items n no_values
