use Rattle.std.proofs.Common.{List, ℤ, ◌∙◌, ap, map}
use Rattle.histogram_agg.specs.Codes.{key_of}
use Rattle.histogram_agg.proofs.Coding.{codes-stand}
use Rattle.histogram_agg.proofs.Given.{ok-gives}
use Rattle.histogram_agg.proofs.row_codes.codes.Goals as goal

pub returns : goal.returns
returns c = record {
  keys = ok-gives c.put_codes.result
      (λ is kind r. ap (λ (cs : List ℤ). map (key_of c.args.prepared.now) cs) is ∙ codes-stand c.args.shard.now c.requires.built kind c.args.prepared.now r c.args.row)
      c.put_codes.ensures;
}
