use Rattle.std.proofs.Common.{rules, take_all}
use Rattle.std.proofs.hash.Loops.{each_more}
use Rattle.std.specs.Hash.{str}
use Rattle.cache_spec.proofs.hashing.hash_texts.Goals as goal

pub loop-i-preserved : goal.loop-i-preserved
loop-i-preserved g c =
    search (rules, each_more g.H.Hasher.write str c.args.state.now c.args.texts.now c.loop-i.i c.index-texts-i.result c.loop-i-test.true c.index-texts-i.is)

pub returns : goal.returns
returns g c = search (rules, take_all)
