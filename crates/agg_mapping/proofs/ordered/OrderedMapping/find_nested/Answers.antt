use Rattle.std.proofs.Common.{sym, rules}
use Rattle.agg_mapping.proofs.Finding.{nested_is}
use Rattle.agg_mapping.proofs.ordered.OrderedMapping.find_nested.Goals as goal

pub returns-in_err-place-clause-value : goal.returns-in_err-place-clause-value
returns-in_err-place-clause-value c =
    let found = rw c.as_slice.ensures at c.in_err-place.ensures.value in
    rw (← c.self.view_is, sym (nested_is 0 c.self.inside.mapping.now.nested c.args.path.now), sym found) (search rules)

pub returns-clause-value : goal.returns-clause-value
returns-clause-value c =
    let found = rw c.as_slice.ensures at c.in_ok-place.ensures.value in
    rw (← c.self.view_is, sym (nested_is 0 c.self.inside.mapping.now.nested c.args.path.now), sym found) (search rules)
