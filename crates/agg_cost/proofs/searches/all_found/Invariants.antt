use Rattle.std.proofs.Common.{◌≡◌, ◌++◌, map}
use Rattle.std.specs.Prelude.{Ok}
use Rattle.std.specs.Vec.Iter.{into_iter_items}
use Rattle.agg_cost.proofs.searches.all_found.Given as goal

abbrev pub invariant-loop-one : goal.invariant-loop-one
invariant-loop-one l = record {
  left : l.yielded ++ into_iter_items l.one-iterator ≡ l.fn.found.items;
  all : map (λ o. Ok o) l.all.items ≡ l.yielded;
}
