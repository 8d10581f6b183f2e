use Rattle.std.proofs.Common.{◌≡◌, drop}
use Rattle.std.specs.List.{list_all}
use Rattle.agg_spec.specs.RangeCheck.{key_in_range}
use Rattle.final_reduce.proofs.range.+parts.Given as goal

-- the parts so far are in range
abbrev pub invariant-parts_in_range-loop-part : goal.invariant-parts_in_range-loop-part
invariant-parts_in_range-loop-part l = list_all key_in_range (drop l.part-index l.part-items) ≡ list_all key_in_range l.parts
