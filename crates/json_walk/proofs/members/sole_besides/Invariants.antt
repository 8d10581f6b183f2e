use Rattle.std.proofs.Common.{◌≡◌, ℕ, List, Bor, option_map, map, None}
use Rattle.serde_json.specs.View.{view, members_view}
use Rattle.agg_reading.specs.Json.{sole_besides}
use Rattle.json_walk.proofs.members.sole_besides.Given as goal

abbrev pub invariant-loop-key : goal.invariant-loop-key
invariant-loop-key l =
    sole_besides (map (λ (n : Bor (List ℕ)). n.now) l.names) (option_map (λ m. (m.0.now, view m.1.now)) l.found) (members_view l.key-iterator) ≡ sole_besides (map (λ (n : Bor (List ℕ)). n.now) l.names) None (members_view l.members.entries)
