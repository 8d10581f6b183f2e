use Rattle.std.proofs.Common.{◌≡◌, ◌≤◌, ◌++◌, All, length, map, sum, take}
use Rattle.std.specs.Vec.Iter.{into_iter_items}
use Rattle.breaker_words.specs.AfterStep.{after_split}
use Rattle.breaker_words.specs.Passes.{with_view}
use Rattle.shard_pool.proofs.lending.split_all.Given as goal
use Rattle.shard_pool.specs.Tasks.{place_of}

abbrev pub invariant-loop-one : goal.invariant-loop-one
invariant-loop-one g l = record {
  left : l.yielded ++ into_iter_items l.one-iterator ≡ l.fn.waiting.items;
  lent : l.pass ≡ with_view l.initial.pass (after_split l.initial.pass.view (sum (take (length l.yielded) l.ceilings)));
  number : l.tasks.len ≡ length l.yielded;
  room : length l.fn.waiting.items ≤ l.tasks.cap;
  places : map (λ t. (t.load.search, t.load.shard)) l.tasks.items ≡ map place_of l.yielded;
  searches : All (λ t. t.search ≡ t.load.search) l.tasks.items;
  caps : map (λ t. t.load.pass.view.cap) l.tasks.items ≡ take (length l.yielded) l.ceilings;
  totals : All (λ t. t.load.pass.view.total ≡ l.initial.pass.view.total) l.tasks.items;
}
