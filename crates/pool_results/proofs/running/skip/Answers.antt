use Rattle.std.proofs.Common.{true, false, List, sym, subst}
use Rattle.std.specs.Prelude.{None}
use Rattle.pool_results.specs.Carried.{IsCarried}
use Rattle.pool_results.specs.declared.shard_run.ShardRun.{ShardRun}
use Rattle.pool_results.proofs.Ending.{carried-skipped}
use Rattle.pool_results.proofs.running.skip.Goals as goal

pub invariant_of-result : goal.invariant_of-result
invariant_of-result g c =
    let p = g.J.PoolCall.pool in let q = c.args.load.search in let s = c.args.load.shard in record {
      carried = subst (λ (rs : List ShardRun). IsCarried p (record { search = q; runs = rs; part = None; refused = None; memory = false; skipped = true }) c.args.load.pass) (sym c.args.load.room)
          (carried-skipped p q s c.args.load.task c.args.load.pass c.args.load.fresh (c.requires.pool.some q s c.args.load.task));
    }
