use Rattle.std.proofs.lemmas.Result.{err_from_is_err_and}
use Rattle.agg_base.proofs.Gave.{gave_then}
use Rattle.agg_base.specs.Lines.{has_ended}
use Rattle.script_lines.specs.Steps.{place_of}
use Rattle.agg_bulk.proofs.FittingLemmas.{indexed}
use Rattle.agg_bulk.proofs.StepLemmas.{begins}
use Rattle.agg_bulk.proofs.sections.load_sections.Goals as goal

pub returns-in_err-index-clause-script : goal.returns-in_err-index-clause-script
returns-in_err-index-clause-script g c bytes is =
    let p = err_from_is_err_and c.from_residual.result c.from_residual.ensures.1 in
    rw (p.1, p.2) (c.in_err-index.ensures.script bytes (begins bytes _ (place_of c.args.lines.now) (has_ended c.args.lines.now) is c.requires.start))

pub returns-in_err-empty_line-clause-script : goal.returns-in_err-empty_line-clause-script
returns-in_err-empty_line-clause-script g c bytes is =
    let index = c.in_ok-index.ensures.script bytes (begins bytes _ (place_of c.args.lines.now) (has_ended c.args.lines.now) is c.requires.start) in
    let p = err_from_is_err_and c.from_residual-in_err-empty_line.result c.from_residual-in_err-empty_line.ensures.1 in
    rw (p.1, p.2) (c.in_err-empty_line.ensures.script bytes c.in_ok-index.index index)

pub returns-clause-script : goal.returns-clause-script
returns-clause-script g c bytes is =
    let index = c.in_ok-index.ensures.script bytes (begins bytes _ (place_of c.args.lines.now) (has_ended c.args.lines.now) is c.requires.start) in
    c.bulk_actions.ensures.script bytes (c.in_ok-empty_line.ensures.script bytes c.in_ok-index.index index)

pub returns-clause-indexed : goal.returns-clause-indexed
returns-clause-indexed g c = indexed c.in_ok-index.index c.bulk_actions.result c.in_ok-index.ensures.ordered c.in_ok-index.ensures.paths c.in_ok-index.ensures.shards c.bulk_actions.ensures.index c.bulk_actions.ensures.fitting

pub returns-in_err-empty_line-clause-gave : goal.returns-in_err-empty_line-clause-gave
returns-in_err-empty_line-clause-gave g c = gave_then c.index_line.ensures.gave c.empty_line.ensures.gave

pub returns-clause-gave : goal.returns-clause-gave
returns-clause-gave g c = gave_then c.index_line.ensures.gave (gave_then c.empty_line.ensures.gave c.bulk_actions.ensures.gave)
