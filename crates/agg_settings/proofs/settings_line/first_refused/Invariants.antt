use Rattle.std.proofs.Common.{◌≡◌}
use Rattle.serde_json.specs.View.{members_view}
use Rattle.agg_settings.specs.Changes.{first_refused}
use Rattle.agg_settings.proofs.settings_line.first_refused.Given as goal

-- the members that are left have the same first refused name as all
abbrev pub invariant-loop-name : goal.invariant-loop-name
invariant-loop-name l = first_refused l.heap (members_view l.name-iterator) ≡ first_refused l.heap (members_view l.members.entries)
