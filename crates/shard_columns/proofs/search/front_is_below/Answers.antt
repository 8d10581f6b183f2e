use Rattle.std.proofs.Common.{◌-◌, get_or}
use Rattle.std.proofs.lemmas.Bool.{ltb-true}
use Rattle.shard_columns.proofs.Searching.{front-below-bound}
use Rattle.shard_columns.proofs.search.front_is_below.Goals as goal

pub returns : goal.returns
returns c = λ less k d up low.
    front-below-bound c.args.numbers.now c.args.bound c.args.count c.requires.ascend c.requires.within (ltb-true (get_or c.args.numbers.now (c.args.count - 1) 0) c.args.bound less) k d low
