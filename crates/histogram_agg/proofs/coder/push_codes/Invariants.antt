use Rattle.std.proofs.Common.{◌≡◌, ◌++◌, drop, map}
use Rattle.std.specs.Prelude.{filter}
use Rattle.histogram_agg.specs.RowCodes.{each_behind, kept_codes}
use Rattle.histogram_agg.proofs.coder.push_codes.Given as goal

-- the codes so far and those to come
abbrev pub invariant-loop-number : goal.invariant-loop-number
invariant-loop-number g l =
    let code_of = g.C.Coder.code_of l.coder in
    let is_kept = g.C.Coder.is_kept l.coder in
    l.codes.items ++ filter is_kept (each_behind l.last (map code_of (drop l.number-index l.numbers))) ≡ l.fn.codes.items ++ kept_codes code_of is_kept l.numbers
