use Rattle.std.proofs.Common.{sym, ap, ◌∙◌, ◌++◌}
use Rattle.request_pipes.proofs.Fronts.{no_front, behind_front}
use Rattle.request_pipes.proofs.paths.behind.Goals as goal

pub returns-in_err-strip_prefix-clause-begins : goal.returns-in_err-strip_prefix-clause-begins
returns-in_err-strip_prefix-clause-begins c = rw c.from_residual.ensures (sym (no_front c.args.front.now c.args.path.now c.in_err-strip_prefix.ensures.cases))

pub returns-clause-begins : goal.returns-clause-begins
returns-clause-begins c =
    let first = c.in_ok-strip_prefix.ensures.cases in
    behind_front c.args.front.now c.args.path.now c.in_ok-strip_prefix.field-0.now c.strip_prefix-2.result
    (first.1.1 ∙ ap (λ t. c.args.front.now ++ t) (sym first.2)) c.strip_prefix-2.ensures.cases
