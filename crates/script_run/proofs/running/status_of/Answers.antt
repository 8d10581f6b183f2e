use Rattle.std.specs.Prelude.{⊤, Result, Ok, Err}
use Rattle.std.proofs.Common.{inl, inr, refl}
use Rattle.script_answers.proofs.Putting.{same-bytes}
use Rattle.script_answers.specs.declared.stop.Stop.{Stop}
use Rattle.script_answers.specs.declared.stop.Stop.TheVariants as stop
use Rattle.script_run.specs.Ends.{ended_by}
use Rattle.script_run.proofs.WholeRuns.{usage-runs, nothing-runs}
use Rattle.script_run.specs.Statuses.{code_of, IsOfRefusedWords}
use Rattle.script_run.specs.declared.status.Status.TheVariants as status
use Rattle.script_run.proofs.running.status_of.Goals as goal

ended-usage : (written : Result ⊤ Stop) → IsOfRefusedWords (code_of (ended_by written status.Usage))
ended-usage (Ok _) = inl refl
ended-usage (Err stop.Write) = inr (inl refl)
ended-usage (Err stop.Memory) = inr (inr refl)

pub returns-in-Err-Usage-clause-output : goal.returns-in-Err-Usage-clause-output
returns-in-Err-Usage-clause-output g c = λ input before left known.
    let fails = rw c.in-Err-Usage.field-0-is at c.in-Err-Usage.ensures.usage in
    let puts = rw known at c.write_usage.ensures.puts in
    rw c.ended.ensures (usage-runs c.args.several c.args.words.now input _ _ _ 0 left c.in-Err-Usage.usage fails c.write_usage.result puts)

pub returns-in-Err-Memory-clause-output : goal.returns-in-Err-Memory-clause-output
returns-in-Err-Memory-clause-output g c = λ input before left known. nothing-runs c.args.several c.args.words.now input _ _ _ 0 left (same-bytes _ _ _ known)

pub returns-in-Err-Usage-clause-refused : goal.returns-in-Err-Usage-clause-refused
returns-in-Err-Usage-clause-refused g c = λ fails. rw c.ended.ensures (ended-usage c.write_usage.result)
