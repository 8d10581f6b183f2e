use Rattle.std.proofs.Common.{rules, take_all}
use Rattle.std.proofs.hash.Loops.{each_more}
use Rattle.cache_spec.specs.Hashing.{test_input}
use Rattle.cache_spec.proofs.hashing.hash_tests.Goals as goal

pub loop-i-preserved : goal.loop-i-preserved
loop-i-preserved g c =
    search (rules, each_more g.H.Hasher.write test_input c.args.state.now c.args.tests.now c.loop-i.i c.index-tests-i.result c.loop-i-test.true c.index-tests-i.is)

pub returns : goal.returns
returns g c = search (rules, take_all)
