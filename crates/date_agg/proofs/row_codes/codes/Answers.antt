use Rattle.std.proofs.Common.{List, ℤ, ◌∙◌, ap, map}
use Rattle.std.proofs.lemmas.List.Elements.{All-from_recursion}
use Rattle.date_spec.specs.Periods.{IsInstant}
use Rattle.histogram_agg.proofs.Given.{ok-gives}
use Rattle.date_agg.specs.Codes.{key_of}
use Rattle.date_agg.proofs.Coding.{codes-stand}
use Rattle.date_agg.proofs.Fields.{row-instants}
use Rattle.date_agg.proofs.row_codes.codes.Goals as goal

pub put_codes-requires-clause-can : goal.put_codes-requires-clause-can
put_codes-requires-clause-can c = All-from_recursion IsInstant _ (row-instants c.args.shard.now c.requires.built c.args.prepared.now.field c.requires.dates c.args.row)

pub returns : goal.returns
returns c = record {
  keys = ok-gives c.put_codes.result
      (λ is kind r.
      ap (λ (cs : List ℤ). map (key_of c.args.prepared.now) cs) is ∙ codes-stand c.args.shard.now c.requires.built c.args.prepared.now c.requires.dates kind r c.args.row)
      c.put_codes.ensures;
}
