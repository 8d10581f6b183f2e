use Rattle.std.proofs.Common.{◌∙◌, arith}
use Rattle.agg_base.proofs.CutLemmas.{length-first_line, length-first_line-le}
use Rattle.agg_base.proofs.lines.before_newline.Goals as goal

pub returns-clause-place : goal.returns-clause-place
returns-clause-place c = c.unwrap_or.ensures ∙ length-first_line c.args.bytes.now c.memchr.result c.memchr.ensures

pub returns-clause-within : goal.returns-clause-within
returns-clause-within c =
    let place = c.unwrap_or.ensures ∙ length-first_line c.args.bytes.now c.memchr.result c.memchr.ensures in
    omega (arith, length-first_line-le c.args.bytes.now)
