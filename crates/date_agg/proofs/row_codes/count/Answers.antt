use Rattle.std.proofs.Common.{List, ◌∙◌, ap, length, sym}
use Rattle.std.proofs.lemmas.List.{length-map}
use Rattle.std.proofs.lemmas.List.Elements.{All-from_recursion}
use Rattle.date_spec.specs.Periods.{IsInstant}
use Rattle.agg_model.specs.declared.key.Key.{Key}
use Rattle.date_agg.specs.Codes.{key_of}
use Rattle.date_agg.proofs.Coding.{codes-stand}
use Rattle.date_agg.proofs.Fields.{row-instants}
use Rattle.date_agg.proofs.row_codes.count.Goals as goal

pub count_codes-requires-clause-can : goal.count_codes-requires-clause-can
count_codes-requires-clause-can c = All-from_recursion IsInstant _ (row-instants c.args.shard.now c.requires.built c.args.prepared.now.field c.requires.dates c.args.row)

pub returns : goal.returns
returns c kind r =
    c.count_codes.ensures ∙ sym (length-map _ (key_of c.args.prepared.now))
    ∙ ap (λ (ks : List Key). length ks) (codes-stand c.args.shard.now c.requires.built c.args.prepared.now c.requires.dates kind r c.args.row)
