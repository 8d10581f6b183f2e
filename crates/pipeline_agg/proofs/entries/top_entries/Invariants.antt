use Rattle.std.proofs.Common.{◌≡◌, ◌++◌, map, drop}
use Rattle.agg_spec.specs.Remarks.{pipes_here}
use Rattle.pipeline_agg.specs.Entries.{top_entry, view_of}
use Rattle.pipeline_agg.specs.Placed.{pipes_of}
use Rattle.pipeline_agg.specs.Summaries.{AreOf}
use Rattle.pipeline_agg.proofs.entries.top_entries.Given as goal

-- those so far, and those that are left; the siblings are those of the object
abbrev pub invariant-loop-placed : goal.invariant-loop-placed
invariant-loop-placed l =
    (map view_of l.entries.items ++ map (top_entry l.aggs l.nodes) (pipes_here (pipes_of (drop l.placed-index l.pipes)))
    ≡ map (top_entry l.aggs l.nodes) (pipes_here (pipes_of l.pipes)))
    × AreOf l.aggs l.nodes l.siblings
