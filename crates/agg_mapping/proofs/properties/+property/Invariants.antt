use Rattle.std.proofs.Common.{◌≡◌, ◌+◌, ◌*◌}
use Rattle.serde_json.specs.View.{members_view}
use Rattle.json_walk.specs.Places.{pointer}
use Rattle.agg_reading.specs.Properties.{fields_from, property_at}
use Rattle.agg_mapping.specs.Arranged.{arranged}
use Rattle.agg_mapping.proofs.properties.+property.Given as goal

abbrev pub decreases-property : goal.decreases-property
decreases-property l = 5 * l.left

abbrev pub decreases-fields : goal.decreases-fields
decreases-fields l = 5 * l.left + 1

abbrev pub decreases-properties : goal.decreases-properties
decreases-properties l = 5 * l.left + 2

abbrev pub decreases-properties_in : goal.decreases-properties_in
decreases-properties_in l = 5 * l.left + 3

abbrev pub decreases-inner : goal.decreases-inner
decreases-inner l = 5 * l.left + 4

abbrev pub invariant-fields-loop-name : goal.invariant-fields-loop-name
invariant-fields-loop-name l =
    fields_from (property_at l.left) l.within l.front (pointer l.at) (arranged l.found) (members_view l.name-iterator) ≡ fields_from (property_at l.left) l.within l.front (pointer l.at) (arranged l.initial.found) (members_view l.members.entries)
