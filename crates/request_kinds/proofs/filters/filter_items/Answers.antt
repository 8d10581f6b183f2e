use Rattle.std.proofs.Common.{◌≡◌, ◌<◌, length, rules, tests, refl}
use Rattle.std.proofs.lemmas.Result.{err_from_is_err_and}
use Rattle.json_walk.specs.Places.{pointer}
use Rattle.agg_reading.proofs.Steps.{fails_bind}
use Rattle.request_kinds.proofs.Lists.{no_listed, some_listed}
use Rattle.request_kinds.proofs.filters.filter_items.Goals as goal

pub returns-then-is_empty-clause-value : goal.returns-then-is_empty-clause-value
returns-then-is_empty-clause-value c =
    let none : length c.args.items.now.items ≡ 0 = search (tests, rules) in
    rw (no_listed c.args.mapping.now c.args.context c.args.before (pointer c.args.at.now) c.args.items.now.items none) c.refuse.ensures

pub returns-in_err-filters-clause-value : goal.returns-in_err-filters-clause-value
returns-in_err-filters-clause-value c =
    let some : 0 < length c.args.items.now.items = search (tests, rules) in
    let p = err_from_is_err_and c.from_residual.result c.from_residual.ensures.1 in
    rw (p.1, p.2, some_listed c.args.mapping.now c.args.context c.args.before (pointer c.args.at.now) c.args.items.now.items some) (fails_bind _ _ _ c.in_err-filters.ensures.value)

pub returns-clause-value : goal.returns-clause-value
returns-clause-value c =
    let some : 0 < length c.args.items.now.items = search (tests, rules) in
    rw (some_listed c.args.mapping.now c.args.context c.args.before (pointer c.args.at.now) c.args.items.now.items some, c.in_ok-filters.ensures.value) refl
