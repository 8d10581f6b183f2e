use Rattle.std.proofs.Common.{◌≡◌, ◌≤◌, ◌*◌, ◌^◌, length, take}
use Rattle.std.specs.Prelude.{sum_by}
use Rattle.shard_columns.proofs.words.all_bytes.Given as goal

abbrev pub invariant-loop-list : goal.invariant-loop-list
invariant-loop-list l = record { bytes_are : l.bytes ≡ sum_by (λ ws. sum_by length ws) (take l.list-index l.words); light : l.bytes ≤ l.list-index * 2 ^ 32 }
