use Rattle.std.proofs.Common.{◌≡◌, ℕ, List, Bor, map}
use Rattle.serde_json.specs.View.{members_view}
use Rattle.json_walk.specs.Places.{pointer}
use Rattle.agg_reading.specs.Json.{known}
use Rattle.json_walk.proofs.members.check_names.Given as goal

abbrev pub invariant-loop-key : goal.invariant-loop-key
invariant-loop-key l =
    known l.code (map (λ (n : Bor (List ℕ)). n.now) l.names) (pointer l.at) (members_view l.key-iterator) ≡ known l.code (map (λ (n : Bor (List ℕ)). n.now) l.names) (pointer l.at) (members_view l.members.entries)
