-- No item that is pushed is a float.
use Rattle.std.proofs.Common.{◌∙◌, ◌∷◌, [], ap, map}
use Rattle.std.proofs.lemmas.List.{map-append}
use Rattle.serde_json.specs.View.{view, items_of, items_view}
use Rattle.serde_json.specs.Written.{items_have_float}
use Rattle.agg_response.proofs.NoFloat.{items_have_float-append}
use Rattle.agg_response.proofs.values.Array.with.Goals as goal

pub invariant_of-result : goal.invariant_of-result
invariant_of-result c = record {
  no_float =
      ap (λ vs. items_have_float (items_view vs)) c.in_ok-push.ensures.items
      ∙ ap (λ ds. items_have_float (items_of ds)) (map-append view c.args.self.items.items (c.args.json.value ∷ []))
      ∙ items_have_float-append (map view c.args.self.items.items) (view c.args.json.value) c.args.self.no_float c.args.json.no_float;
}
