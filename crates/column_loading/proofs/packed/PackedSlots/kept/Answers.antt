use Rattle.std.proofs.Common.{◌≡◌, Some, sym, ◌∙◌, ap, arith}
use Rattle.std.specs.Option.{option_copied}
use Rattle.column_loading.specs.Packed.{routing_in}
use Rattle.column_loading.proofs.Packing.{length-is, live-at}
use Rattle.column_loading.proofs.packed.PackedSlots.kept.Goals as goal
use Rattle.column_loading.proofs.packed.PackedSlots.kept.Goals.{in-Some+in_ok-copy-in-Some, in-None}

pub get-requires-2 : goal.get-requires-2
get-requires-2 c =
    let inside = c.self.inside in
    omega (arith, c.requires, length-is (routing_in inside.routings) inside.ids inside.sources inside.weights.items c.self.invariant c.args.self.now c.self.view_is, c.self.invariant.has_sources)

pub index-requires : goal.index-requires
index-requires c =
    let inside = c.self.inside in
    omega (arith, c.requires, length-is (routing_in inside.routings) inside.ids inside.sources inside.weights.items c.self.invariant c.args.self.now c.self.view_is, inside.weights.ok.0)

pub returns : goal.returns
returns c =
    let inside = c.self.inside in
    let routing : c.match-get.routing ≡ routing_in inside.routings c.args.place = elim c.match-get.branch [
      | in-Some+in_ok-copy-in-Some w ↦ w.routing-is ∙ (ap Some w.in_ok-copy-in-Some.ensures ∙ (sym (ap option_copied w.in-Some.is) ∙ c.get.ensures.value))
      | in-None w ↦ w.routing-is ∙ (sym (ap option_copied w.in-None.is) ∙ c.get.ensures.value)
    ] in
    live-at (routing_in inside.routings) inside.ids inside.sources inside.weights.items c.self.invariant c.args.self.now c.self.view_is c.args.place c.requires _ c.get-2.result.now c.index.result.now c.get-2.ensures c.index.ensures
    ∙ sym (λ i. Some (record { routing = routing i; source = c.in_ok-of.ensures i; weight = c.index.result.now }))
