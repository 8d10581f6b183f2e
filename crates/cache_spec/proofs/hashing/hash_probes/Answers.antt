use Rattle.std.proofs.Common.{rules, take_all}
use Rattle.std.proofs.hash.Loops.{each_more}
use Rattle.cache_spec.specs.Hashing.{probe_input}
use Rattle.cache_spec.proofs.hashing.hash_probes.Goals as goal

pub loop-i-preserved : goal.loop-i-preserved
loop-i-preserved g c =
    search (rules, each_more g.H.Hasher.write probe_input c.args.state.now c.args.values.now c.loop-i.i c.index-values-i.result c.loop-i-test.true c.index-values-i.is)

pub returns : goal.returns
returns g c = search (rules, take_all)
