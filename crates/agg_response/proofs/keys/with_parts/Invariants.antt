use Rattle.std.proofs.Common.{◌≡◌, true, map, drop}
use Rattle.std.specs.Prelude.{zip}
use Rattle.std.specs.List.{list_all}
use Rattle.serde_json.specs.View.{members_view}
use Rattle.agg_spec.specs.AnswerTree.{part_value}
use Rattle.agg_spec.specs.Json.{with_members}
use Rattle.agg_spec.specs.RangeCheck.{key_in_range}
use Rattle.agg_response.proofs.keys.with_parts.Given as goal

-- the keys that are left are in range, and the members so far and then their parts are all members
abbrev pub invariant-loop-place : goal.invariant-loop-place
invariant-loop-place l = record {
  in_range : list_all key_in_range (drop l.place l.keys) ≡ true;
  all : with_members (map (λ p. (p.0.name, part_value p.1)) (zip (drop l.place l.source-items) (drop l.place l.keys))) (members_view l.object.members.entries)
      ≡ with_members (map (λ p. (p.0.name, part_value p.1)) (zip l.source-items l.keys)) (members_view l.initial.object.members.entries);
}
