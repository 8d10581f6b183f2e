use Rattle.std.proofs.Common.{[], None, false, refl}
use Rattle.agg_model.specs.declared.bulk.Action.{Action}
use Rattle.agg_documents.proofs.Putting.{new-is, never_create, put-full, put-done}
use Rattle.column_loading.specs.Loadings.{store_of}
use Rattle.column_loading.specs.declared.loading.Loading.{Loading}
use Rattle.column_loading.specs.declared.slot.Kept.{Kept}
use Rattle.column_loading.proofs.Loaded.{refused-puts, can-grow, counted, exact, placed-last, loaded-last, absent}
use Rattle.column_loading.proofs.loading.Loading.put_new.Goals as goal

pub returns-then-weight-ge-WEIGHT_LIMIT : goal.returns-then-weight-ge-WEIGHT_LIMIT
returns-then-weight-ge-WEIGHT_LIMIT c = λ kind m held read.
    let d = c.args.document in
    let old = c.args.self.now in
    let es = store_of m old in
    let action : Action = record { kind = kind; id = d.id; routing = d.routing; source = c.args.source } in
    let new = absent m old d c.args.source held read c.requires.new in
    let full = counted m old d c.args.source held read c.requires.new c.weight_of-added.result c.saturating_add-weight.result c.weight_of-added.ensures c.saturating_add-weight.ensures in
    refused-puts m action d.root old old c.refused.result (record { number = 28; path = [] }) c.refused.ensures refl
    (put-full action d.root es false None c.saturating_add-weight.result (new-is d.id es new) (never_create kind) refl full c.if-weight-ge-WEIGHT_LIMIT.true)

pub grow-requires : goal.grow-requires
grow-requires c =
    let given = c.requires.loading in
    can-grow given.0 c.args.self.now c.args.document c.args.source given.1.0 given.1.1 c.requires.new c.weight_of-added.result c.saturating_add-weight.result c.weight_of-added.ensures c.saturating_add-weight.ensures c.if-weight-ge-WEIGHT_LIMIT.false

pub returns : goal.returns
returns c = λ kind m held read.
    let d = c.args.document in
    let old = c.args.self.now in
    let es = store_of m old in
    let added = c.weight_of-added.result in
    let w = c.saturating_add-weight.result in
    let action : Action = record { kind = kind; id = d.id; routing = d.routing; source = c.args.source } in
    let kept : Kept = record { routing = c.other_routing.result; source = c.args.source; weight = added } in
    let next : Loading = record { slots = c.push.new.self; weight = w; shards = old.shards; drafts = c.grow.new.drafts } in
    let new = absent m old d c.args.source held read c.requires.new in
    let total = exact m old d c.args.source held read c.requires.new added w c.weight_of-added.ensures c.saturating_add-weight.ensures c.if-weight-ge-WEIGHT_LIMIT.false in
    let placed = placed-last m old d c.args.source held read c.requires.new added w c.weight_of-added.ensures c.saturating_add-weight.ensures c.if-weight-ge-WEIGHT_LIMIT.false next _ kept refl c.other_routing.ensures refl refl c.in_ok-push.ensures refl refl c.in_ok-grow.ensures in
    record {
      put = put-done action d.root es false None w (store_of m next) (new-is d.id es new) (never_create kind) refl total c.if-weight-ge-WEIGHT_LIMIT.false placed;
      loading = loaded-last m old d c.args.source held read c.requires.new added w c.weight_of-added.ensures c.saturating_add-weight.ensures c.if-weight-ge-WEIGHT_LIMIT.false next _ kept refl c.other_routing.ensures refl refl c.in_ok-push.ensures refl refl c.in_ok-grow.ensures;
      shards = refl;
      as_before = tt;
    }
