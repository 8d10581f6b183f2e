use Rattle.std.proofs.Common.{◌≡◌, ◌++◌, map}
use Rattle.std.specs.Vec.Iter.{into_iter_items}
use Rattle.pipeline_agg.specs.Entries.{view_of}
use Rattle.pipeline_agg.proofs.entries.with_own.Given as goal

-- those that stand there, and those that are left
abbrev pub invariant-loop-entry : goal.invariant-loop-entry
invariant-loop-entry l = map view_of l.all.items ++ map view_of (into_iter_items l.entry-iterator) ≡ map view_of l.fn.entries.items ++ map view_of l.fn.own.items
