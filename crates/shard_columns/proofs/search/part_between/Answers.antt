use Rattle.shard_columns.proofs.Searching.{spans-in-order, span-filter}
use Rattle.shard_columns.proofs.search.part_between.Goals as goal

pub returns-clause-within : goal.returns-clause-within
returns-clause-within c =
    (spans-in-order c.args.numbers.now c.args.from c.args.to c.count_below-start.result c.count_below-end.result c.requires.in_order c.count_below-start.ensures.within c.count_below-start.ensures.below c.count_below-end.ensures.below, c.count_below-end.ensures.within)

pub returns-clause-between : goal.returns-clause-between
returns-clause-between c =
    span-filter c.args.numbers.now c.args.from c.args.to c.count_below-start.result c.count_below-end.result c.requires.in_order c.count_below-start.ensures.within c.count_below-end.ensures.within c.count_below-start.ensures.below c.count_below-end.ensures.below
