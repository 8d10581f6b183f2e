use Rattle.std.proofs.Common.{◌≡◌, drop}
use Rattle.serde_json.specs.Find.{get_member}
use Rattle.lent_json.specs.View.{members_view}
use Rattle.lent_json.proofs.members.member.Given as goal

abbrev pub invariant-loop-key : goal.invariant-loop-key
invariant-loop-key l = get_member l.name (members_view (drop l.key-index l.members)) ≡ get_member l.name (members_view l.members)
