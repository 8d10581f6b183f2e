use Rattle.std.proofs.Common.{length, ◌<◌, sym, ap, subst, arith}
use Rattle.std.specs.Option.{option_map}
use Rattle.std.proofs.Common.{get_or, [], None, ◌∙◌}
use Rattle.agg_reading.specs.Store.{Store, weight, store_weight}
use Rattle.agg_documents.specs.Slots.{entries_of}
use Rattle.agg_documents.proofs.Entries.{weight-found}
use Rattle.agg_documents.proofs.store.Store.live_weight.Goals as goal

pub returns : goal.returns
returns c =
    weight-found c.self.inside.slots.items c.index.result.now c.in_ok-document.document.now c.args.place c.weight_of.result
    (subst (λ (es : Store). c.args.place < length es) (sym c.self.view_is) c.requires) c.index.ensures c.in_ok-document.ensures c.weight_of.ensures
    (omega (arith, c.self.invariant.weight, c.self.invariant.light))
    ∙ ap (λ (es : Store). option_map weight (get_or es c.args.place ([], None)).1) c.self.view_is
