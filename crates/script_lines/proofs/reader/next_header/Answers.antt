use Rattle.std.proofs.Common.{◌≡◌, ◌∙◌, ℕ, List, Some, None, Ok, sym, ap, subst, arith}
use Rattle.std.proofs.lemmas.Result.{err_from_is_err_and}
use Rattle.agg_base.proofs.Gave.{gave_then}
use Rattle.agg_base.specs.Lines.{position}
use Rattle.agg_reading.specs.Lines.{is_empty_line}
use Rattle.script_lines.specs.Faults.{Fails}
use Rattle.script_lines.specs.Headers.{header_at, change_in}
use Rattle.script_lines.specs.Steps.{place_of}
use Rattle.script_lines.proofs.EntryLemmas.{header_ends, header_fails, header_taken, header_read, empty_read, no_header, formed_header}
use Rattle.script_lines.proofs.reader.next_header.Goals as goal

pub returns-in_err-line-clause-script : goal.returns-in_err-line-clause-script
returns-in_err-line-clause-script g c bytes whole before read =
    let p = err_from_is_err_and c.from_residual.result c.from_residual.ensures.1 in
    rw (p.1, p.2) (header_ends whole bytes before _ _ _ _ (c.loop-line.invariant.so_far bytes whole before read) _ _ _ _ c.in_err-line.ensures.line (c.in_err-line.ensures.front bytes))

pub returns-in_err-header-clause-script : goal.returns-in_err-header-clause-script
returns-in_err-header-clause-script g c bytes whole before read =
    let p = err_from_is_err_and c.from_residual-in_err-header.result c.from_residual-in_err-header.ensures.1 in
    let so_far = c.loop-line.invariant.so_far bytes whole before read in
    let taken = header_taken whole bytes before (place_of c.loop-line.lines) _ _ _ so_far _ _ _ _ _ _
    (rw c.in-Some.is at c.in_ok-line.ensures.line) ((rw c.in-Some.is at c.in_ok-line.ensures.front) bytes so_far.front so_far.handed) in
    let fails = subst (λ (n : ℕ). Fails c.in_err-header.field-0.0 (header_at n c.in-Some.line)) c.line_number.ensures
    (subst (λ (t : List ℕ). Fails c.in_err-header.field-0.0 (header_at c.line_number.result t)) c.as_slice-then-not-is_empty_line.ensures c.in_err-header.ensures.header) in
    rw (p.1, p.2)
    (header_fails whole bytes before _ _ _ _ _ _ taken (ap is_empty_line (sym c.as_slice.ensures) ∙ sym c.is_empty_line.ensures ∙ c.if-not-is_empty_line.true)
    c.in_err-header.field-0.0 _ fails c.in_err-header.ensures.reads_nothing)

pub returns-then-not-is_empty_line-clause-script : goal.returns-then-not-is_empty_line-clause-script
returns-then-not-is_empty_line-clause-script g c bytes whole before read =
    let so_far = c.loop-line.invariant.so_far bytes whole before read in
    let taken = header_taken whole bytes before (place_of c.loop-line.lines) _ _ _ so_far _ _ _ _ _ _
    (rw c.in-Some.is at c.in_ok-line.ensures.line) ((rw c.in-Some.is at c.in_ok-line.ensures.front) bytes so_far.front so_far.handed) in
    header_read whole bytes before _ _ _ _ _ _ taken (ap is_empty_line (sym c.as_slice.ensures) ∙ sym c.is_empty_line.ensures ∙ c.if-not-is_empty_line.true)
    (change_in c.in_ok-header.header)
    (ap (λ (n : ℕ). header_at n c.in-Some.line) (sym c.line_number.ensures) ∙ ap (header_at c.line_number.result) (sym c.as_slice-then-not-is_empty_line.ensures) ∙ c.in_ok-header.ensures.header)

pub returns-then-not-is_empty_line-clause-formed : goal.returns-then-not-is_empty_line-clause-formed
returns-then-not-is_empty_line-clause-formed g c = formed_header c.line_number.result c.as_slice-then-not-is_empty_line.result.now c.in_ok-header.header c.in_ok-header.ensures.header

pub loop-line-preserved : goal.loop-line-preserved
loop-line-preserved g c =
    let before_line = c.loop-line.invariant in
    let moved = rw c.in-Some.is at c.in_ok-line.ensures.moves in
    record {
      kept = c.in_ok-line.ensures.kept;
      never_falls = omega (arith, before_line.never_falls, c.in_ok-line.ensures.never_falls);
      same_source = c.in_ok-line.ensures.same_source ∙ before_line.same_source;
      gave = gave_then before_line.gave c.in_ok-line.ensures.gave;
      goes_on = omega (arith, before_line.goes_on, moved);
      within = c.in_ok-line.ensures.within;
      so_far = λ bytes whole before read.
          let so_far = before_line.so_far bytes whole before read in
          empty_read whole bytes before _ _ _ _ _ _
          (header_taken whole bytes before (place_of c.loop-line.lines) _ _ _ so_far _ _ _ _ _ _
          (rw c.in-Some.is at c.in_ok-line.ensures.line) ((rw c.in-Some.is at c.in_ok-line.ensures.front) bytes so_far.front so_far.handed))
          (ap is_empty_line (sym c.as_slice.ensures) ∙ sym c.is_empty_line.ensures ∙ c.if-not-is_empty_line.false);
    }

pub returns-clause-script : goal.returns-clause-script
returns-clause-script g c bytes whole before read =
    no_header whole bytes before _ _ _ _ (c.loop-line.invariant.so_far bytes whole before read) _ _ (rw c.in_default.is at c.in_ok-line.ensures.line)

pub returns-in_err-line-clause-gave : goal.returns-in_err-line-clause-gave
returns-in_err-line-clause-gave g c = gave_then c.loop-line.invariant.gave c.next_line.ensures.gave

pub returns-in_err-header-clause-gave : goal.returns-in_err-header-clause-gave
returns-in_err-header-clause-gave g c = gave_then c.loop-line.invariant.gave c.next_line.ensures.gave

pub returns-then-not-is_empty_line-clause-gave : goal.returns-then-not-is_empty_line-clause-gave
returns-then-not-is_empty_line-clause-gave g c = gave_then c.loop-line.invariant.gave c.next_line.ensures.gave

pub returns-clause-gave : goal.returns-clause-gave
returns-clause-gave g c = gave_then c.loop-line.invariant.gave c.next_line.ensures.gave
