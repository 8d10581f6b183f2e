use Rattle.std.proofs.Common.{◌∙◌, sym, ap, map, [], ◌∷◌, List, Option}
use Rattle.std.specs.Prelude.{Vec}
use Rattle.std.specs.Option.{option_map_or}
use Rattle.std.specs.declared.alloc.Global.{Global}
use Rattle.agg_model.specs.declared.key.Key.TheVariants.{Many}
use Rattle.agg_model.specs.declared.aggregation.CompositeSource.{CompositeSource}
use Rattle.agg_evaluation.specs.Keys.{combinations, keys, source_keys}
use Rattle.agg_evaluation.specs.Rows.{row_of}
use Rattle.growth_laws.proofs.Combinations.{composite-combinations}
use Rattle.composite_agg.specs.Odometer.{later_combinations, shown_parts}
use Rattle.composite_agg.specs.declared.odometer.Wheel.{Wheel}
use Rattle.composite_agg.proofs.odometer.Combinations.of_row.Goals as goal

pub returns-in-Some : goal.returns-in-Some
returns-in-Some c =
    let row = row_of c.args.shard.now.rows c.args.row in
    let sources = c.in-Composite.sources in
    let found = (λ (o : Option (Vec Wheel Global)). option_map_or (λ (ws : Vec Wheel Global). shown_parts ws.items ∷ later_combinations ws.items) o []) in
    ap (λ k. keys c.args.shard.now.rows k row) c.in-Composite.is ∙ composite-combinations sources row
    ∙ ap (map Many) (sym (ap (λ (ss : List CompositeSource). combinations (map (source_keys row) ss)) c.as_slice.ensures) ∙ c.in_ok-wheels-in-Composite.ensures ∙ ap found c.in-Some.is)
