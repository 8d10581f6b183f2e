use Rattle.std.proofs.Common.{sym, ◌∙◌}
use Rattle.document_rows.specs.Roles.{is_deeper}
use Rattle.document_rows.proofs.Fronts.{leads_by_fronts, front_hit, front_end}
use Rattle.document_rows.proofs.roles.leads_deeper.Goals as goal

pub returns-then-is_deeper : goal.returns-then-is_deeper
returns-then-is_deeper c =
    let test = is_deeper c.args.mapping.now c.args.context in
    sym (front_hit test c.args.path.now c.loop-end.end c.loop-end-test.true c.if-byte-eq46.true (sym c.is_deeper.ensures ∙ c.if-is_deeper.true))
    ∙ c.loop-end.invariant ∙ sym (leads_by_fronts c.args.mapping.now c.args.context c.args.path.now)

pub returns : goal.returns
returns c =
    let test = is_deeper c.args.mapping.now c.args.context in
    c.is_deeper-2.ensures ∙ sym (front_end test c.args.path.now c.loop-end.end c.loop-end-test.false)
    ∙ c.loop-end.invariant ∙ sym (leads_by_fronts c.args.mapping.now c.args.context c.args.path.now)
