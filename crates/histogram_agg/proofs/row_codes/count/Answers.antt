use Rattle.std.proofs.Common.{List, ◌∙◌, ap, length, sym}
use Rattle.std.proofs.lemmas.List.{length-map}
use Rattle.agg_model.specs.declared.key.Key.{Key}
use Rattle.histogram_agg.specs.Codes.{key_of}
use Rattle.histogram_agg.proofs.Coding.{codes-stand}
use Rattle.histogram_agg.proofs.row_codes.count.Goals as goal

pub returns : goal.returns
returns c kind r =
    c.count_codes.ensures ∙ sym (length-map _ (key_of c.args.prepared.now))
    ∙ ap (λ (ks : List Key). length ks) (codes-stand c.args.shard.now c.requires.built kind c.args.prepared.now r c.args.row)
