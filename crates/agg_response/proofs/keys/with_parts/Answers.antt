-- Part after part is put, until there is no source or no key left.
use Rattle.std.proofs.Common.{◌+◌, ◌∙◌, sym, ap, drop}
use Rattle.std.specs.Prelude.{option_copied}
use Rattle.serde_json.specs.View.{view, members_view}
use Rattle.agg_model.specs.declared.key.Key.{Key}
use Rattle.agg_model.specs.declared.aggregation.CompositeSource.{CompositeSource}
use Rattle.agg_spec.specs.Json.{Member}
use Rattle.agg_spec.specs.AnswerTree.{part_value}
use Rattle.agg_spec.specs.RangeCheck.{key_in_range}
use Rattle.agg_response.proofs.Places.{drop_here, drop_found, drop_missing, holds_here, holds_later, pairs_put, pairs_put-here, pairs_put-end}
use Rattle.agg_response.proofs.keys.with_parts.Goals as goal

abbrev part : CompositeSource × Key → Member
part p = (p.0.name, part_value p.1)

pub part_value-requires : goal.part_value-requires
part_value-requires c =
    let found = drop_found c.args.keys.now c.loop-place.place c.in-Some.key.now (sym (ap option_copied c.in-Some.is) ∙ c.get.ensures) in
    holds_here key_in_range c.in-Some.key.now (drop c.loop-place.place c.args.keys.now)
    (drop (c.loop-place.place + 1) c.args.keys.now) found c.loop-place.invariant.in_range

pub loop-place-preserved : goal.loop-place-preserved
loop-place-preserved c =
    let found = drop_found c.args.keys.now c.loop-place.place c.in-Some.key.now (sym (ap option_copied c.in-Some.is) ∙ c.get.ensures) in
    let here = drop_here c.as_slice-source-items.result.now c.loop-place.place c.source-item.result c.loop-place-test.true c.source-item.is in
    record {
      in_range = holds_later key_in_range c.in-Some.key.now (drop c.loop-place.place c.args.keys.now)
          (drop (c.loop-place.place + 1) c.args.keys.now) found c.loop-place.invariant.in_range;
      all =
          pairs_put-here part c.as_slice-source-items.result.now c.args.keys.now c.loop-place.place c.source-item.result c.in-Some.key.now
          c.as_str.result.now (view c.in_ok-part_value.field-0.value) (members_view c.loop-place.object.members.entries)
          (members_view c.in_ok-object.object.members.entries)
          here found c.as_str.ensures c.in_ok-part_value.ensures c.in_ok-object.ensures
          ∙ c.loop-place.invariant.all;
    }

pub returns-in_default : goal.returns-in_default
returns-in_default c =
    let missing = drop_missing c.args.keys.now c.loop-place.place (sym (ap option_copied c.in_default.is) ∙ c.get.ensures) in
    let here = drop_here c.as_slice-source-items.result.now c.loop-place.place c.source-item.result c.loop-place-test.true c.source-item.is in
    sym (pairs_put-end part (c.source-item.result) (drop c.loop-place.place c.as_slice-source-items.result.now)
    (drop (c.loop-place.place + 1) c.as_slice-source-items.result.now)
    (drop c.loop-place.place c.args.keys.now) (members_view c.loop-place.object.members.entries) here missing)
    ∙ c.loop-place.invariant.all
    ∙ ap (λ xs. pairs_put part xs c.args.keys.now (members_view c.args.object.members.entries)) c.as_slice-source-items.ensures
