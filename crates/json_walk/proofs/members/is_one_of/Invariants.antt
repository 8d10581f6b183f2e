use Rattle.std.proofs.Common.{◌≡◌, ℕ, List, Bor, map, drop}
use Rattle.std.specs.List.{list_any}
use Rattle.std.specs.Str.{bytes_eq}
use Rattle.json_walk.proofs.members.is_one_of.Given as goal

abbrev pub invariant-loop-n : goal.invariant-loop-n
invariant-loop-n l =
    list_any (bytes_eq l.name) (map (λ (n : Bor (List ℕ)). n.now) (drop l.n-index l.names)) ≡ list_any (bytes_eq l.name) (map (λ (n : Bor (List ℕ)). n.now) l.names)
