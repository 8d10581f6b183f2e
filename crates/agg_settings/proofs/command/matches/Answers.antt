use Rattle.std.specs.Prelude.{Ok, Err}
use Rattle.agg_settings.proofs.Parsing.{failing, matched, not_taken, refuses, taken}
use Rattle.agg_settings.proofs.command.matches.Goals as goal

pub returns-in-Ok-clause-taken : goal.returns-in-Ok-clause-taken
returns-in-Ok-clause-taken c = taken _ (failing _ _ (Ok c.in-Ok.found) c.in_ok-command.ensures c.in-Ok.ensures.kinds)

pub returns-in-Ok-clause-rows : goal.returns-in-Ok-clause-rows
returns-in-Ok-clause-rows c = matched _ _ _ c.in_ok-command.ensures c.in-Ok.ensures.matches

pub returns-clause-refused : goal.returns-clause-refused
returns-clause-refused c =
    refuses _ _ (not_taken _ _ _ c.is_memory.ensures c.if-is_memory.false
    (failing _ _ (Err c.in-Err.error) c.in_ok-command.ensures c.in-Err.ensures.kinds)) c.refused.ensures
