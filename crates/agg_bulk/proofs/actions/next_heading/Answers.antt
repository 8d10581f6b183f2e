use Rattle.std.proofs.Common.{◌∙◌, ℕ, List, sym, ap, subst}
use Rattle.std.proofs.lemmas.Result.{err_from_is_err_and}
use Rattle.agg_reading.proofs.LineRefusals.{an_action}
use Rattle.agg_reading.specs.Action.{action_at}
use Rattle.agg_reading.specs.Lines.{is_empty_line}
use Rattle.agg_reading.specs.Reading.{Fails}
use Rattle.script_lines.specs.Steps.{place_of}
use Rattle.agg_bulk.proofs.StepLemmas.{took, ends}
use Rattle.agg_bulk.proofs.SectionLemmas.{action_section, actions_end, too_many, action_read, action_fault, action_ends, full_is, room_is}
use Rattle.agg_bulk.proofs.actions.next_heading.Goals as goal

pub returns-in_err-line-clause-script : goal.returns-in_err-line-clause-script
returns-in_err-line-clause-script g c bytes now named counted goes_on =
    let p = err_from_is_err_and c.from_residual.result c.from_residual.ensures.1 in
    rw (p.1, p.2) (ends bytes _ _ _ _ goes_on _ _ _ (action_section now (place_of c.args.lines.now)) _ _ _ _ c.in_err-line.ensures.line (c.in_err-line.ensures.front bytes))

pub returns-then-is_empty_line-clause-script : goal.returns-then-is_empty_line-clause-script
returns-then-is_empty_line-clause-script g c bytes now named counted goes_on =
    let taken = took bytes _ _ _ _ goes_on _ _ _ (action_section now (place_of c.args.lines.now)) _ _ _ _ _ _ c.in_ok-line.ensures.line (c.in_ok-line.ensures.front bytes goes_on.front goes_on.handed) in
    actions_end bytes _ _ _ _ _ _ _ taken (ap is_empty_line (sym c.as_slice.ensures) ∙ sym c.is_empty_line.ensures ∙ c.if-is_empty_line.true)

pub returns-then-taken-ge-MAX_ACTIONS-clause-script : goal.returns-then-taken-ge-MAX_ACTIONS-clause-script
returns-then-taken-ge-MAX_ACTIONS-clause-script g c bytes now named counted goes_on =
    let taken = took bytes _ _ _ _ goes_on _ _ _ (action_section now (place_of c.args.lines.now)) _ _ _ _ _ _ c.in_ok-line.ensures.line (c.in_ok-line.ensures.front bytes goes_on.front goes_on.handed) in
    rw c.refused_here.ensures
    (too_many bytes _ _ _ _ _ _ _ taken (ap is_empty_line (sym c.as_slice.ensures) ∙ sym c.is_empty_line.ensures ∙ c.if-is_empty_line.false) (full_is now.actions c.args.taken counted c.if-taken-ge-MAX_ACTIONS.true))

pub returns-in-Ok-clause-script : goal.returns-in-Ok-clause-script
returns-in-Ok-clause-script g c bytes now named counted goes_on =
    let taken = took bytes _ _ _ _ goes_on _ _ _ (action_section now (place_of c.args.lines.now)) _ _ _ _ _ _ c.in_ok-line.ensures.line (c.in_ok-line.ensures.front bytes goes_on.front goes_on.handed) in
    action_read bytes _ _ _ _ _ _ _ taken (ap is_empty_line (sym c.as_slice.ensures) ∙ sym c.is_empty_line.ensures ∙ c.if-is_empty_line.false) (room_is now.actions c.args.taken counted c.if-taken-ge-MAX_ACTIONS.false) _
    (ap (λ (n : List ℕ). action_at n now.actions c.in_ok-line.line) named ∙ ap (λ (k : ℕ). action_at c.args.index.now k c.in_ok-line.line) counted ∙ ap (action_at c.args.index.now c.args.taken) (sym c.as_slice-2.ensures) ∙ c.in-Ok.ensures.action)

pub refused_action-requires : goal.refused_action-requires
refused_action-requires g c = action_fault c.in-Err.fault (action_at c.args.index.now c.args.taken c.as_slice-2.result.now) (an_action c.args.index.now c.args.taken c.as_slice-2.result.now).refusal c.in-Err.ensures.action

pub returns-clause-script : goal.returns-clause-script
returns-clause-script g c bytes now named counted goes_on =
    let taken = took bytes _ _ _ _ goes_on _ _ _ (action_section now (place_of c.args.lines.now)) _ _ _ _ _ _ c.in_ok-line.ensures.line (c.in_ok-line.ensures.front bytes goes_on.front goes_on.handed) in
    rw c.refused_action.ensures
    (action_ends bytes _ _ _ _ _ _ _ taken (ap is_empty_line (sym c.as_slice.ensures) ∙ sym c.is_empty_line.ensures ∙ c.if-is_empty_line.false) (room_is now.actions c.args.taken counted c.if-taken-ge-MAX_ACTIONS.false) c.in-Err.fault _
    (subst (Fails c.in-Err.fault) (sym (ap (λ (n : List ℕ). action_at n now.actions c.in_ok-line.line) named ∙ ap (λ (k : ℕ). action_at c.args.index.now k c.in_ok-line.line) counted ∙ ap (action_at c.args.index.now c.args.taken) (sym c.as_slice-2.ensures))) c.in-Err.ensures.action))
