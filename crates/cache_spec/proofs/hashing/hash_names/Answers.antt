use Rattle.std.proofs.Common.{rules, take_all}
use Rattle.std.proofs.hash.Loops.{each_more}
use Rattle.cache_spec.specs.Hashing.{name_input}
use Rattle.cache_spec.proofs.hashing.hash_names.Goals as goal

pub loop-i-preserved : goal.loop-i-preserved
loop-i-preserved g c =
    search (rules, each_more g.H.Hasher.write name_input c.args.state.now c.args.aggs.now c.loop-i.i c.index-aggs-i.result c.loop-i-test.true c.index-aggs-i.is)

pub returns : goal.returns
returns g c = search (rules, take_all)
