use Rattle.std.specs.Prelude.{◌==◌, ◌&&◌, ℕ}
use Rattle.std.proofs.Common.{◌∙◌, ap}
use Rattle.agg_settings.proofs.ChangesKeep.{changed-keeps}
use Rattle.answer_laws.proofs.InputsWithRoom.{output-full, ended-plain}
use Rattle.answer_laws.proofs.laws.inputs_that_have_room_are_answered_in_full.Goals as goal

pub returns-clause-output : goal.returns-clause-output
returns-clause-output c = λ change words input status written keeps alone. output-full change words keeps alone input status written

pub returns-clause-rounds : goal.returns-clause-rounds
returns-clause-rounds c = λ change words script written keeps alone. ended-plain change words keeps alone script written

pub returns-clause-kept : goal.returns-clause-kept
returns-clause-kept c = λ words now after line is alone.
    let kept = changed-keeps words now after line is in
    (ap (λ (n : ℕ). (n == 1) && (after.width == 1)) kept.2 ∙ (ap (λ (n : ℕ). (now.workers == 1) && (n == 1)) kept.0 ∙ alone.0), kept.1 ∙ alone.1)
