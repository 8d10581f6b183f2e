use Rattle.std.specs.Prelude.{◌==◌, ◌&&◌, ℕ}
use Rattle.std.proofs.Common.{◌∙◌, ap, subst}
use Rattle.agg_settings.proofs.ChangesKeep.{changed-keeps}
use Rattle.agg_settings.specs.Changes.{changed}
use Rattle.agg_model.specs.declared.settings.Settings.{Settings}
use Rattle.agg_spec.specs.Output.{IsOutput}
use Rattle.answer_laws.specs.Completing.{KeepsWorkers}
use Rattle.answer_laws.proofs.FullRuns.{output-full, output-plain, output-quiet, room-however}
use Rattle.answer_laws.proofs.laws.runs_that_have_room_are_answered_in_full.Goals as goal

workers-kept : (words : Settings) → KeepsWorkers changed words
workers-kept words now after line is =
    let kept = changed-keeps words now after line is in
    ap (λ (n : ℕ). (n == 1) && (after.width == 1)) kept.2 ∙ ap (λ (n : ℕ). (now.workers == 1) && (n == 1)) kept.0

pub returns-clause-output : goal.returns-clause-output
returns-clause-output c = λ change words input read status written piece. output-full change words input read status written piece

pub returns-clause-quiet : goal.returns-clause-quiet
returns-clause-quiet c = λ change words input read status written piece. output-quiet change words input read status written piece

pub returns-clause-room : goal.returns-clause-room
returns-clause-room c = room-however

pub returns-clause-by_words : goal.returns-clause-by_words
returns-clause-by_words c = λ words settings input read status written piece is room tells output.
    output-full changed settings input read status written piece (room-however changed settings input (workers-kept settings) room tells) (subst (λ given. IsOutput changed given input read status written piece) is output)

pub returns-clause-as_answered : goal.returns-clause-as_answered
returns-clause-as_answered c = output-plain

pub returns-clause-kept : goal.returns-clause-kept
returns-clause-kept c = workers-kept
