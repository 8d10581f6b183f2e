use Rattle.std.proofs.Common.{◌≡◌}
use Rattle.serde_json.specs.Data.{no_members}
use Rattle.lent_json.specs.Members.{put_all}
use Rattle.lent_json.specs.View.{members_view}
use Rattle.lent_json.proofs.members.placed.Given as goal

abbrev pub invariant-loop-name : goal.invariant-loop-name
invariant-loop-name l = put_all (members_view l.name-iterator.rest.items) (members_view l.ordered.items) ≡ put_all (members_view l.fn.members.items) no_members
