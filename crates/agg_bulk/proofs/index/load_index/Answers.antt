use Rattle.std.proofs.Common.{refl}
use Rattle.script_lines.specs.Steps.{place_of}
use Rattle.agg_bulk.specs.Loading.{store_in}
use Rattle.agg_bulk.proofs.index.load_index.Goals as goal

pub returns-clause-script : goal.returns-clause-script
returns-clause-script g c bytes is =
    let script = c.in_ok-index.ensures.script bytes is in
    let sections = c.in_ok-index.field-0 in
    record {
      defined = record { index = sections.index; store = store_in sections; items = sections.items; place = place_of c.load_sections.new.lines; rest = script.0 };
      script = script.2;
      index = c.in_ok-index-2.ensures;
      items = refl;
      stands = refl;
      rest = script.1;
      goes_on = script.3;
    }
