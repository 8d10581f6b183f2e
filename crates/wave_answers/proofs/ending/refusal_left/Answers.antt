use Rattle.std.specs.Prelude.{IfSome, Option, Some, None}
use Rattle.std.proofs.Common.{arith, subst, sym}
use Rattle.agg_model.specs.declared.breaker.Tripped.{Tripped}
use Rattle.agg_search.proofs.Batching.{rows-count}
use Rattle.agg_spec.specs.Failures.{AreFailures}
use Rattle.fitting_laws.specs.Indexes.{index_of}
use Rattle.wave_answers.proofs.Left.{none-left, some-left}
use Rattle.wave_answers.proofs.ending.refusal_left.Goals as goal

whatever : (o : Option Tripped) (P : Type 0) → P → IfSome o (λ t. P)
whatever None P p = tt
whatever (Some t) P p = p

pub returns-then-len-clause-left : goal.returns-then-len-clause-left
returns-then-len-clause-left c =
    let index = c.args.index.now in
    let count = rows-count index in
    whatever c.args.refused _
    (some-left (index_of index) c.args.failures.now (subst (λ n. AreFailures n c.args.failures.now) (sym count) c.requires.failures) (omega (arith, count)))

pub returns-else-len-clause-passed_over : goal.returns-else-len-clause-passed_over
returns-else-len-clause-passed_over c none some =
    let index = c.args.index.now in
    let count = rows-count index in
    none-left (index_of index) c.args.failures.now (subst (λ n. AreFailures n c.args.failures.now) (sym count) c.requires.failures) (omega (arith, count))
