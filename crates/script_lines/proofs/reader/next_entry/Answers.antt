use Rattle.std.proofs.lemmas.Result.{err_from_is_err_and}
use Rattle.agg_base.proofs.Gave.{gave_then}
use Rattle.script_lines.proofs.reader.next_entry.Goals as goal

pub returns-in_default-clause-script : goal.returns-in_default-clause-script
returns-in_default-clause-script g c bytes whole before read = (rw c.in_default.is at c.in_ok-header.ensures.script) bytes whole before read

pub returns-in_err-next_body-in-Search-clause-script : goal.returns-in_err-next_body-in-Search-clause-script
returns-in_err-next_body-in-Search-clause-script g c bytes whole before read =
    let p = err_from_is_err_and c.from_residual-in_err-next_body-in-Search.result c.from_residual-in_err-next_body-in-Search.ensures.1 in
    let headed = (rw (c.in-Some.is, c.in-Search.is) at c.in_ok-header.ensures.script) bytes whole before read in
    rw (p.1, p.2) (c.in_err-next_body-in-Search.ensures.script bytes whole before headed)

pub returns-in_err-next_body-in-Search-clause-gave : goal.returns-in_err-next_body-in-Search-clause-gave
returns-in_err-next_body-in-Search-clause-gave g c = gave_then c.next_header.ensures.gave c.next_body.ensures.gave

pub returns-in_ok-next_body-in-Search-clause-gave : goal.returns-in_ok-next_body-in-Search-clause-gave
returns-in_ok-next_body-in-Search-clause-gave g c = gave_then c.next_header.ensures.gave c.next_body.ensures.gave
