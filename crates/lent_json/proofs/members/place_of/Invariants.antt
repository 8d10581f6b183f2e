use Rattle.std.proofs.Common.{◌≡◌, ◌++◌, take, drop, List, ℕ}
use Rattle.std.specs.Borrow.{Bor}
use Rattle.std.specs.BTreeMap.{insert_entry}
use Rattle.lent_json.specs.declared.value.Lent.{Lent}
use Rattle.lent_json.proofs.Ordered.{by_name}
use Rattle.lent_json.proofs.members.place_of.Given as goal

-- the name is greater than those so far
abbrev pub invariant-loop-place : goal.invariant-loop-place
invariant-loop-place l = (name : Bor (List ℕ)) (value : Lent) → name.now ≡ l.name → insert_entry by_name l.members name value ≡ take l.place l.members ++ insert_entry by_name (drop l.place l.members) name value
