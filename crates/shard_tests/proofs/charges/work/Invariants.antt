use Rattle.std.proofs.Common.{◌≡◌, ◌+◌, ◌≤◌}
use Rattle.breaker_words.specs.Passes.{IsOf}
use Rattle.breaker_words.specs.declared.trial.Trial.TheVariants.{Rest}
use Rattle.shard_tests.proofs.charges.work.Given as goal

-- the pass is as it was, but for what it has counted
abbrev pub invariant-loop-done : goal.invariant-loop-done
invariant-loop-done l = IsOf l.words l.pass × (l.pass.view.trial ≡ Rest) × (l.pass.view.accounts.parent.hold + 10 ≤ l.pass.view.cap) × (l.pass.view.cap ≡ l.fn.pass.view.cap) × (l.granted ≤ l.done) × (l.refused ≤ l.done)
