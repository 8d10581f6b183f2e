use Rattle.std.proofs.Common.{◌<◌, length, rules, tests}
use Rattle.json_walk.specs.Places.{pointer}
use Rattle.request_kinds.proofs.Lists.{some_sourced}
use Rattle.request_kinds.proofs.sources.some_sources.Goals as goal

pub returns : goal.returns
returns c =
    let some : 0 < length c.args.items.now.items = search (tests, rules) in
    rw (some_sourced c.args.mapping.now (pointer c.args.at.now) c.args.items.now.items some) c.source_list.ensures
