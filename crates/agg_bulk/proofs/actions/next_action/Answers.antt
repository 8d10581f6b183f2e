use Rattle.std.proofs.Common.{refl, subst}
use Rattle.std.proofs.lemmas.Result.{err_from_is_err_and}
use Rattle.agg_base.proofs.Gave.{gave_then}
use Rattle.agg_base.specs.Lines.{unread, position, has_ended}
use Rattle.agg_reading.specs.Script.{Loading, actions}
use Rattle.agg_bulk.specs.Loading.{GoesOnAt}
use Rattle.agg_bulk.proofs.SectionLemmas.{as_action}
use Rattle.script_lines.specs.Steps.{place_of}
use Rattle.agg_bulk.proofs.actions.next_action.Goals as goal

pub returns-in_err-heading-clause-script : goal.returns-in_err-heading-clause-script
returns-in_err-heading-clause-script g c bytes now named counted goes_on =
    let p = err_from_is_err_and c.from_residual.result c.from_residual.ensures.1 in
    rw (p.1, p.2) (c.in_err-heading.ensures.script bytes now named counted goes_on)

pub returns-in_err-source-clause-script : goal.returns-in_err-source-clause-script
returns-in_err-source-clause-script g c bytes now named counted goes_on =
    let read = rw c.in-Some.is at c.in_ok-heading.ensures.script bytes now named counted goes_on in
    let p = err_from_is_err_and c.from_residual-in_err-source.result c.from_residual-in_err-source.ensures.1 in
    rw (p.1, p.2) (c.in_err-source.ensures.script bytes now c.in-Some.heading refl read)

pub returns-clause-script : goal.returns-clause-script
returns-clause-script g c bytes now named counted goes_on =
    let read = rw c.in-Some.is at c.in_ok-heading.ensures.script bytes now named counted goes_on in
    subst (λ (l : Loading). GoesOnAt bytes (actions l (place_of c.source.new.lines)) (unread c.source.new.lines) (position c.source.new.lines) (has_ended c.source.new.lines))
    (as_action c.in-Some.heading c.in_ok-source.source now)
    (c.in_ok-source.ensures.script bytes now c.in-Some.heading refl read)

pub returns-in_err-source-clause-gave : goal.returns-in_err-source-clause-gave
returns-in_err-source-clause-gave g c = gave_then c.next_heading.ensures.gave c.source.ensures.gave

pub returns-clause-gave : goal.returns-clause-gave
returns-clause-gave g c = gave_then c.next_heading.ensures.gave c.source.ensures.gave
