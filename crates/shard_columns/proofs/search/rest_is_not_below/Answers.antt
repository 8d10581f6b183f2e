use Rattle.shard_columns.proofs.Searching.{rest-not-below}
use Rattle.shard_columns.proofs.search.rest_is_not_below.Goals as goal

pub returns : goal.returns
returns c = λ more k d up low. rest-not-below c.args.numbers.now c.args.bound c.args.count c.requires.ascend more k d up low
