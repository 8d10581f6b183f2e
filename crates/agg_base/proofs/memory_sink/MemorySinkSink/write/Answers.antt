use Rattle.std.proofs.Common.{◌∙◌, arith}
use Rattle.std.proofs.lemmas.Bool.{both_ways, eq-eqb}
use Rattle.agg_base.proofs.memory_sink.MemorySinkSink.write.Goals as goal
use Rattle.agg_base.proofs.memory_sink.MemorySinkSink.write.Goals.{then-self-eq0, else-self-eq0}

pub returns-clause-some : goal.returns-clause-some
returns-clause-some c =
    elim c.if-self-eq0.branch [
      | then-self-eq0 w ↦ let yes = w.is_failing-is ∙ eq-eqb _ _ w.if-self-eq0.true in let no = c.if-is_failing.false in absurd (both_ways _ no yes)
      | else-self-eq0 w ↦ let room = w.if-self-eq0.false in let piece = c.self.invariant.1 in omega (arith, c.min-taken.ensures, c.min.ensures, c.requires)
    ]
