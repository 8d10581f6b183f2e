use Rattle.std.proofs.Common.{sym, subst}
use Rattle.shard_columns.specs.Starts.{AreStarts}
use Rattle.shard_columns.proofs.Starting.{AreStarts-skip}
use Rattle.shard_columns.proofs.columns.skip_to.Goals as goal

pub loop-starts-preserved : goal.loop-starts-preserved
loop-starts-preserved c = λ homes context size held before.
    subst (AreStarts homes context size held c.args.end) (sym c.in_ok-push.ensures.items) (AreStarts-skip homes context size held c.args.end c.loop-starts.starts.items (c.loop-starts.invariant homes context size held before))
