use Rattle.std.proofs.Common.{◌≡◌, ◌∙◌, ◌+◌, Some, sym, ap, vec_len, arith}
use Rattle.std.proofs.lemmas.Result.{err_from_is_err_and}
use Rattle.agg_base.specs.Cut.{fault_of}
use Rattle.agg_base.specs.Lines.{unread, position, Gave, Took}
use Rattle.agg_base.specs.declared.lines.LineEnd.{LineEnd}
use Rattle.agg_base.specs.declared.lines.LineEnd.TheVariants.{Newline, Input}
use Rattle.agg_base.specs.declared.lines.Lines.{Lines}
use Rattle.agg_base.specs.declared.source.Source.{Ghosts}
use Rattle.agg_base.proofs.Gave.{gave_then}
use Rattle.agg_base.proofs.lines.Lines.gather.Goals as goal

-- the last piece of a line, behind others
took_behind : {S : Type 0} {g : Ghosts S} (old mid new : Lines S g) (end : LineEnd) → unread mid ≡ unread old → position mid ≡ position old → Gave old mid
    → Took mid new (Some end) → Took old new (Some end)
took_behind old mid new Newline same stands gave took =
    (sym same ∙ took.0, ap (λ n. fault_of n (vec_len new.line) (vec_len new.line + 1)) (sym stands) ∙ took.1, gave_then gave took.2)
took_behind old mid new Input same stands gave took = (took.0 ∙ same, took.1, took.2, took.3, gave_then gave took.4)

pub returns-in_err-end-clause-gave : goal.returns-in_err-end-clause-gave
returns-in_err-end-clause-gave g c =
    let p = err_from_is_err_and c.from_residual.result c.from_residual.ensures.1 in
    rw p.1 (gave_then c.loop-end.invariant.gave c.in_err-end.ensures.gave)

pub returns-in-Some-clause-took : goal.returns-in-Some-clause-took
returns-in-Some-clause-took g c =
    let before = c.loop-end.invariant in
    took_behind {g = g.S.Source} c.args.self.now c.loop-end.self c.step.new.self c.in-Some.end before.same before.counts.0 before.gave (rw c.in-Some.is at c.in_ok-end.ensures.took)

pub loop-end-preserved : goal.loop-end-preserved
loop-end-preserved g c =
    let before = c.loop-end.invariant in
    let took = rw c.in_default.is at c.in_ok-end.ensures.took in
    let counts = c.step.ensures.counts in
    record {
      same = took.0 ∙ before.same;
      gave = gave_then before.gave took.3;
      ended = took.2 ∙ before.ended;
      counts = (counts.0 ∙ before.counts.0, counts.1 ∙ before.counts.1, counts.2 ∙ before.counts.2, counts.3 ∙ before.counts.3);
      never_falls = omega (arith, before.never_falls, c.step.ensures.never_falls);
    }
