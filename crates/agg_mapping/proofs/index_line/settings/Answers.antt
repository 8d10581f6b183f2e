use Rattle.std.proofs.Common.{rules}
use Rattle.std.proofs.lemmas.Result.{err_from_is_err_and}
use Rattle.agg_reading.specs.IndexLine.{settings_at}
use Rattle.agg_reading.proofs.Steps.{fails_bind}
use Rattle.agg_mapping.proofs.index_line.settings.Goals as goal

pub returns-in_err-plain : goal.returns-in_err-plain
unfolding settings_at
returns-in_err-plain c =
    let p = err_from_is_err_and c.from_residual-in_err-plain.result c.from_residual-in_err-plain.ensures.1 in
    rw (p.1, p.2, c.in_ok-members.ensures, c.in_ok-inner.ensures, c.in_ok-dotted.ensures) (fails_bind _ _ _ c.in_err-plain.ensures)

pub returns-in_err-shards : goal.returns-in_err-shards
unfolding settings_at
returns-in_err-shards c =
    let p = err_from_is_err_and c.from_residual-in_err-shards.result c.from_residual-in_err-shards.ensures.1 in
    rw (p.1, p.2, c.in_ok-members.ensures, c.in_ok-inner.ensures, c.in_ok-dotted.ensures, c.in_ok-plain.ensures) (fails_bind _ _ _ c.in_err-shards.ensures)

pub returns : goal.returns
unfolding settings_at
returns c =
    rw (c.in_ok-members.ensures, c.in_ok-inner.ensures, c.in_ok-dotted.ensures, c.in_ok-plain.ensures, c.in_ok-shards.ensures) (search rules)
