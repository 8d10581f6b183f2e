use Rattle.std.proofs.Common.{sym}
use Rattle.agg_reading.specs.Mapping.{context_of}
use Rattle.agg_mapping.proofs.Finding.{found_is}
use Rattle.agg_mapping.proofs.numbering.context_of.Goals as goal

pub returns-in-Some : goal.returns-in-Some
unfolding context_of
returns-in-Some c =
    let found = rw (c.as_bytes.ensures.value, c.as_str.ensures) at c.in-Some.ensures.value in
    rw (sym (found_is 0 c.args.nested.now c.args.within.now), sym found)

pub returns-in-None : goal.returns-in-None
unfolding context_of
returns-in-None c =
    let found = rw (c.as_bytes.ensures.value, c.as_str.ensures) at c.in-None.ensures.value in
    rw (sym (found_is 0 c.args.nested.now c.args.within.now), sym found)
