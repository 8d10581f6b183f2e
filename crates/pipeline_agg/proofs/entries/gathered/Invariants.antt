use Rattle.std.proofs.Common.{◌≡◌, ◌++◌, map}
use Rattle.std.specs.Prelude.{flat_map}
use Rattle.std.specs.Vec.Iter.{into_iter_items}
use Rattle.pipeline_agg.specs.Entries.{AreFit, first_said_wide, said_notes, view_of}
use Rattle.pipeline_agg.proofs.entries.gathered.Given as goal

-- the notes so far, and those that are left; what was looked at fits
abbrev pub invariant-loop-entry : goal.invariant-loop-entry
invariant-loop-entry l =
    (l.notes ++ flat_map (λ e. said_notes e.1) (map view_of (into_iter_items l.entry-iterator)) ≡ flat_map (λ e. said_notes e.1) (map view_of l.fn.entries.items))
    × (AreFit (map view_of (into_iter_items l.entry-iterator)) → AreFit (map view_of l.fn.entries.items))
    × (first_said_wide (map view_of (into_iter_items l.entry-iterator)) ≡ first_said_wide (map view_of l.fn.entries.items))
