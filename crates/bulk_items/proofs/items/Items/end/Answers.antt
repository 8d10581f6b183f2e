use Rattle.std.proofs.Common.{◌∙◌, ap, arith, sym}
use Rattle.std.specs.Option.{option_copied}
use Rattle.bulk_items.specs.Items.{refusal_in}
use Rattle.bulk_items.proofs.Keeping.{applied-at, length-is, not-lost, refused-at}
use Rattle.bulk_items.proofs.items.Items.end.Goals as goal

pub index-requires : goal.index-requires
index-requires c =
    let inside = c.self.inside in
    omega (arith, c.requires, length-is (refusal_in inside.refusals) inside.ids inside.marks.items c.self.invariant c.args.self.now c.self.view_is, inside.marks.ok.0)

pub unreachable-requires : goal.unreachable-requires
unreachable-requires c =
    let inside = c.self.inside in
    not-lost (refusal_in inside.refusals) inside.ids inside.marks.items c.self.invariant c.args.self.now c.self.view_is c.args.place c.requires c.index.result.now c.index.ensures c.in-None.is (sym c.get.ensures.value ∙ ap option_copied c.in-None-get.is)

pub returns-in-Some : goal.returns-in-Some
returns-in-Some c =
    let inside = c.self.inside in
    sym (applied-at (refusal_in inside.refusals) inside.ids inside.marks.items c.self.invariant c.args.self.now c.self.view_is c.args.place c.requires c.index.result.now c.index.ensures _ c.in-Some.applied c.in-Some.is)

pub returns-in-Some-get : goal.returns-in-Some-get
returns-in-Some-get c =
    let inside = c.self.inside in
    sym (refused-at (refusal_in inside.refusals) inside.ids inside.marks.items c.self.invariant c.args.self.now c.self.view_is c.args.place c.requires c.index.result.now c.index.ensures _ c.in-Some-get.refusal.now c.in-None.is (sym c.get.ensures.value ∙ ap option_copied c.in-Some-get.is))
