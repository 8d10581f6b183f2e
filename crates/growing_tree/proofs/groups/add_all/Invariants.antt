use Rattle.std.proofs.Common.{ℕ, ℤ, List, ◌++◌, map, take}
use Rattle.agg_model.specs.declared.key.Key.{Key}
use Rattle.growing_tree.specs.Grouped.{AreGroups, HasOwnKeys}
use Rattle.growing_tree.proofs.groups.add_all.Given as goal

abbrev pub invariant-loop-place : goal.invariant-loop-place
invariant-loop-place l = (key_of : ℤ → Key) → HasOwnKeys key_of → (pairs : List (Key × ℕ)) → AreGroups key_of pairs l.fn.places l.fn.groups.items
    → AreGroups key_of (pairs ++ map (λ k. (k, l.row)) (map key_of (take l.place l.codes))) l.places l.groups.items
