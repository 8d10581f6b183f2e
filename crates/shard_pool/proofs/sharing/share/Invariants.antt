use Rattle.std.proofs.Common.{◌≡◌, ◌+◌, ◌*◌, ◌≤◌, All, [], length, sum_by}
use Rattle.arrival_moves.specs.declared.limits.TheConstants.{ALL_CLAIMS}
use Rattle.arrival_table.specs.Models.{DeskModel, IsOf}
use Rattle.pool_worker.specs.Workers.{IsReady}
use Rattle.shard_pool.proofs.sharing.share.Given as goal

abbrev pub invariant-loop : goal.invariant-loop
invariant-loop g l = record {
  of : IsOf l.table l.first;
  drawn : l.first.view.drawn ≡ 0;
  empty : l.first.view.hand ≡ [];
  enough : ALL_CLAIMS + 65537 ≤ l.first.view.left + l.counter * 65537;
  number : length l.desks.items + 1 ≡ l.counter;
  room : l.workers ≤ l.desks.cap;
  ready : All (IsReady l.table) l.desks.items;
  claims : sum_by (λ (d : DeskModel). d.view.left + d.view.drawn) l.desks.items + l.first.view.left ≡ ALL_CLAIMS;
}
