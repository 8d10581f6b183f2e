use Rattle.std.proofs.Common.{true, ◌≡◌, ◌∙◌, ℕ, List, sym, ap, subst}
use Rattle.std.proofs.lemmas.Result.{err_from_is_err_and}
use Rattle.std.specs.Prelude.{IfOk}
use Rattle.agg_model.specs.Contexts.{parents_before}
use Rattle.agg_reading.specs.Reading.{Reading}
use Rattle.agg_reading.specs.declared.parts.IndexLine.{IndexLine}
use Rattle.fitting_laws.proofs.MappingOrder.{mapping_lined}
use Rattle.agg_reading.specs.IndexLine.{index_line_at}
use Rattle.agg_mapping.specs.Faults.{refused_at, StandsAt}
use Rattle.agg_mapping.specs.declared.fault.MapFault.TheVariants as map_fault
use Rattle.script_lines.specs.Steps.{place_of}
use Rattle.agg_bulk.proofs.StepLemmas.{took, ends}
use Rattle.agg_bulk.proofs.SectionLemmas.{index_section, index_read, index_refused}
use Rattle.agg_bulk.proofs.sections.index_line.Goals as goal

pub returns-in_err-line-clause-script : goal.returns-in_err-line-clause-script
returns-in_err-line-clause-script g c bytes goes_on =
    let p = err_from_is_err_and c.from_residual.result c.from_residual.ensures.1 in
    rw (p.1, p.2) (ends bytes _ _ _ _ goes_on _ _ _ (index_section (place_of c.args.lines.now) c.requires.start) _ _ _ _ c.in_err-line.ensures.line (c.in_err-line.ensures.front bytes))

pub returns-in-Ok-clause-script : goal.returns-in-Ok-clause-script
returns-in-Ok-clause-script g c bytes goes_on =
    let taken = took bytes _ _ _ _ goes_on _ _ _ (index_section (place_of c.args.lines.now) c.requires.start) _ _ _ _ _ _ c.in_ok-line.ensures.line (c.in_ok-line.ensures.front bytes goes_on.front goes_on.handed) in
    index_read bytes _ _ _ _ _ _ taken _ (ap index_line_at (sym c.as_slice.ensures) ∙ c.in-Ok.ensures.line)

pub returns-in-Err-Refused-clause-script : goal.returns-in-Err-Refused-clause-script
returns-in-Err-Refused-clause-script g c bytes goes_on =
    let taken = took bytes _ _ _ _ goes_on _ _ _ (index_section (place_of c.args.lines.now) c.requires.start) _ _ _ _ _ _ c.in_ok-line.ensures.line (c.in_ok-line.ensures.front bytes goes_on.front goes_on.handed) in
    let refused = rw c.in-Err-Refused.field-0-is at c.in-Err-Refused.ensures.refused in
    rw c.line_number.ensures
    (index_refused bytes _ _ _ _ _ _ taken c.in-Err-Refused.path (subst (λ (t : List ℕ). StandsAt (refused_at (index_line_at t)) (map_fault.Refused c.in-Err-Refused.path)) c.as_slice.ensures refused))

pub returns-in-Ok-clause-paths : goal.returns-in-Ok-clause-paths
returns-in-Ok-clause-paths g c = subst (λ (r : Reading IndexLine). IfOk r (λ l. parents_before l.mapping ≡ true)) c.in-Ok.ensures.line (mapping_lined c.as_slice.result.now)
