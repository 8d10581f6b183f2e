use Rattle.std.proofs.Common.{◌≡◌, ◌<◌, length, rules, tests, refl}
use Rattle.std.proofs.lemmas.Result.{err_from_is_err_and}
use Rattle.json_walk.specs.Places.{pointer}
use Rattle.agg_reading.proofs.Steps.{fails_bind}
use Rattle.request_kinds.proofs.Lists.{no_named, some_named}
use Rattle.request_kinds.proofs.filters.filter_members.Goals as goal

pub returns-then-is_empty-clause-value : goal.returns-then-is_empty-clause-value
returns-then-is_empty-clause-value c =
    let none : length c.args.members.now.entries ≡ 0 = search (tests, rules) in
    rw (no_named c.args.mapping.now c.args.context c.args.before (pointer c.args.at.now) c.args.members.now.entries none) c.refuse.ensures

pub returns-in_err-names-clause-value : goal.returns-in_err-names-clause-value
returns-in_err-names-clause-value c =
    let some : 0 < length c.args.members.now.entries = search (tests, rules) in
    let p = err_from_is_err_and c.from_residual.result c.from_residual.ensures.1 in
    rw (p.1, p.2, some_named c.args.mapping.now c.args.context c.args.before (pointer c.args.at.now) c.args.members.now.entries some) (fails_bind _ _ _ c.in_err-names.ensures.value)

pub returns-clause-value : goal.returns-clause-value
returns-clause-value c =
    let some : 0 < length c.args.members.now.entries = search (tests, rules) in
    rw (some_named c.args.mapping.now c.args.context c.args.before (pointer c.args.at.now) c.args.members.now.entries some, c.in_ok-names.ensures.value) refl
