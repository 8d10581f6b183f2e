use Rattle.std.proofs.Common.{List, ℤ, ◌∙◌, ap, map}
use Rattle.histogram_agg.specs.Codes.{key_of}
use Rattle.histogram_agg.proofs.Coding.{codes-stand}
use Rattle.histogram_agg.proofs.Given.{some-gives}
use Rattle.histogram_agg.proofs.row_codes.lone_code.Goals as goal

pub returns-clause-keys : goal.returns-clause-keys
returns-clause-keys c =
    some-gives c.only_code.result _ _
    (λ code is kind r. ap (λ (cs : List ℤ). map (key_of c.args.prepared.now) cs) is ∙ codes-stand c.args.shard.now c.requires.built kind c.args.prepared.now r c.args.row)
    c.only_code.ensures.codes
