use Rattle.std.proofs.Common.{◌≡◌, map, take, drop, length}
use Rattle.agg_model.specs.declared.answer.BucketAnswer.{out-BucketAnswer}
use Rattle.bucket_order.specs.Kinds.{child_kinds}
use Rattle.pipeline_agg.specs.Entries.{AreFit, all_small, entry_of_teller, moved_on, teller_of, view_of}
use Rattle.pipeline_agg.specs.Summaries.{AreOf}
use Rattle.pipeline_agg.proofs.entries.bucket_entries.Given as goal

-- the tellers so far are asked and moved on, the others are as they were
abbrev pub invariant-loop-teller : goal.invariant-loop-teller
invariant-loop-teller l =
    (map view_of l.entries.items ≡ map (entry_of_teller l.children l.bucket) (map teller_of (take l.teller-index l.fn.tellers.items)))
    × (map teller_of (take l.teller-index l.teller-items) ≡ map (moved_on (child_kinds l.children) l.bucket) (map teller_of (take l.teller-index l.fn.tellers.items)))
    × (drop l.teller-index l.teller-items ≡ drop l.teller-index l.fn.tellers.items)
    × (length l.teller-items ≡ length l.fn.tellers.items)
    × (AreFit (map view_of l.entries.items) → all_small (take l.teller-index l.teller-items))
    × AreOf l.children (out-BucketAnswer l.bucket).children l.siblings
