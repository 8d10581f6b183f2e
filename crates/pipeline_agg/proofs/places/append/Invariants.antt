use Rattle.std.proofs.Common.{◌≡◌, ◌++◌}
use Rattle.std.specs.Vec.Iter.{into_iter_items}
use Rattle.pipeline_agg.proofs.places.append.Given as goal

-- those that stand there, and those that are left
abbrev pub invariant-loop-note : goal.invariant-loop-note
invariant-loop-note l = l.notes ++ into_iter_items l.note-iterator ≡ l.fn.notes ++ l.fn.more
