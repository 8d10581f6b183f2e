use Rattle.std.proofs.Common.{sym, rules}
use Rattle.agg_mapping.proofs.Finding.{field_is}
use Rattle.agg_mapping.proofs.ordered.OrderedMapping.find_field.Goals as goal

pub returns-in_err-place : goal.returns-in_err-place
returns-in_err-place c =
    let found = rw c.as_slice.ensures at c.in_err-place.ensures.value in
    rw (← c.self.view_is, sym (field_is 0 c.self.inside.mapping.now.fields c.args.path.now), sym found) (search rules)

pub returns : goal.returns
returns c =
    let found = rw c.as_slice.ensures at c.in_ok-place.ensures.value in
    rw (← c.self.view_is, sym (field_is 0 c.self.inside.mapping.now.fields c.args.path.now), sym found) (search rules)
