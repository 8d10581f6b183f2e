use Rattle.std.proofs.Common.{◌≡◌, map, take}
use Rattle.std.specs.Prelude.{sum}
use Rattle.agg_evaluation.specs.Ceiling.{part_bytes}
use Rattle.agg_cost.specs.Capped.{capped}
use Rattle.agg_cost.proofs.key_bytes.bytes_of_parts.Given as goal

abbrev pub invariant-loop-source : goal.invariant-loop-source
invariant-loop-source l = l.bytes ≡ capped (sum (map (part_bytes l.shard.kinds l.shard.rows) (take l.source-index l.source-items)))
