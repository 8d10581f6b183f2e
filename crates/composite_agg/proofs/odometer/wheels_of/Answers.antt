use Rattle.std.proofs.Common.{◌∙◌, sym, ap, map, [], Option}
use Rattle.std.specs.Option.{option_map_or}
use Rattle.agg_evaluation.specs.Keys.{combinations, source_keys}
use Rattle.agg_evaluation.specs.Rows.{row_of}
use Rattle.composite_agg.specs.Odometer.{wheel_keys}
use Rattle.composite_agg.specs.declared.odometer.Wheel.{Wheel}
use Rattle.composite_agg.proofs.Steps.{take-whole}
use Rattle.composite_agg.proofs.Turning.{all-at-start, none-there}
use Rattle.composite_agg.proofs.odometer.wheels_of.Goals as goal

pub returns-in-None : goal.returns-in-None
returns-in-None c =
    none-there (row_of c.args.shard.now.rows c.args.row) c.args.sources.now c.loop-source.source-index c.source-item.result c.loop-source-test.true c.source-item.is
    (c.in_ok-wheel.ensures.keys ∙ ap (λ (o : Option Wheel). option_map_or wheel_keys o []) c.in-None.is)

pub returns : goal.returns
returns c =
    let keys_of = source_keys (row_of c.args.shard.now.rows c.args.row) in
    sym (all-at-start c.loop-source.wheels.items c.loop-source.invariant.start
    ∙ ap combinations (c.loop-source.invariant.keys ∙ ap (map keys_of) (take-whole c.args.sources.now c.loop-source.source-index c.loop-source-test.false)))
