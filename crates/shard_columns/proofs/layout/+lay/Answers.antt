use Rattle.std.proofs.Common.{◌++◌, ℕ, [], ◌∷◌, set, length, refl, ◌∙◌, ap, subst, arith}
use Rattle.std.proofs.lemmas.List.{length-set}
use Rattle.agg_model.specs.declared.row.Children.{out-Children}
use Rattle.shard_columns.specs.Layout.{AddsChildrenBehind}
use Rattle.shard_columns.proofs.Laying.{RowsBehind, ChildrenBehind, RowsBehind-none, RowsBehind-more, RowsBehind-room, ChildrenBehind-none, ChildrenBehind-more, ChildrenBehind-room, ChildrenBehind-whole, all-taken, AddsChildren-behind, AddsRow-behind, ends-laid, ends-patched}
use Rattle.shard_columns.proofs.Depths.{row_less, children_less}
use Rattle.shard_columns.proofs.layout.+lay.Goals as goal

pub lay_children-loop-number-init : goal.lay_children-loop-number-init
lay_children-loop-number-init t c = RowsBehind-none c.args.rows.now.items c.args.ends.now.items c.args.document c.args.parent _

pub lay_children-loop-number-preserved : goal.lay_children-loop-number-preserved
lay_children-loop-number-preserved t c =
    RowsBehind-more c.args.rows.now.items c.loop-number.rows.items c.lay_row.new.rows.items c.args.ends.now.items c.loop-number.ends.items c.lay_row.new.ends.items
    c.args.document c.args.parent _ c.as_slice-row-items.result.now c.loop-number.number c.row-item.result
    c.requires.below c.loop-number-test.true c.row-item.is c.loop-number.invariant c.in_ok-lay_row.ensures.rows c.in_ok-lay_row.ensures.ends c.in_ok-lay_row.ensures.aligned

pub lay_children-returns : goal.lay_children-returns
lay_children-returns t c =
    let done = subst (RowsBehind c.args.rows.now.items c.loop-number.rows.items c.args.ends.now.items c.loop-number.ends.items c.args.document c.args.parent (out-Children c.args.children.now).path)
    (all-taken c.as_slice-row-items.result.now c.loop-number.number c.loop-number-test.false ∙ c.as_slice-row-items.ensures) c.loop-number.invariant in
    record {
      rows = AddsChildren-behind c.args.rows.now.items c.loop-number.rows.items c.args.ends.now.items c.loop-number.ends.items c.args.document c.args.parent c.args.children.now done;
      ends = ends-laid c.args.rows.now.items c.loop-number.rows.items c.args.ends.now.items c.loop-number.ends.items c.args.document c.args.parent c.args.children.now done;
      aligned = done.aligned;
    }

pub lay_row-loop-children-init : goal.lay_row-loop-children-init
lay_row-loop-children-init t c =
    ChildrenBehind-none c.args.rows.now.items c.push.new.self.items c.args.ends.now.items c.push-2.new.self.items c.args.row.now c.args.entry _
    refl refl c.in_ok-push.ensures.items (c.in_ok-push-2.ensures.items ∙ ap (λ (k : ℕ). c.args.ends.now.items ++ k ∷ []) (c.len-place.ensures ∙ c.args.ends.now.ok.0))

pub lay_row-loop-children-preserved : goal.lay_row-loop-children-preserved
lay_row-loop-children-preserved t c =
    ChildrenBehind-more c.args.rows.now.items c.loop-children.rows.items c.lay_children.new.rows.items c.args.ends.now.items c.loop-children.ends.items c.lay_children.new.ends.items
    c.args.row.now c.args.entry c.as_slice-children-items.result.now c.loop-children.children-index c.children-item.result
    c.loop-children-test.true c.children-item.is c.loop-children.invariant
    (subst (AddsChildrenBehind (length c.loop-children.ends.items) c.loop-children.rows.items c.lay_children.new.rows.items c.children-item.result c.args.entry.document) (c.len-place.ensures ∙ c.args.ends.now.ok.0) c.in_ok-lay_children.ensures.rows)
    c.in_ok-lay_children.ensures.ends c.in_ok-lay_children.ensures.aligned

pub lay_row-returns : goal.lay_row-returns
lay_row-returns t c =
    let done = subst (ChildrenBehind c.args.rows.now.items c.loop-children.rows.items c.args.ends.now.items c.loop-children.ends.items c.args.row.now c.args.entry)
    (all-taken c.as_slice-children-items.result.now c.loop-children.children-index c.loop-children-test.false ∙ c.as_slice-children-items.ensures) c.loop-children.invariant in
    let patched = ap (λ (k : ℕ). set c.loop-children.ends.items k c.len.result) (c.len-place.ensures ∙ c.args.ends.now.ok.0)
    ∙ (ap (λ (n : ℕ). set c.loop-children.ends.items (length c.args.ends.now.items) n) (c.len.ensures ∙ c.loop-children.ends.ok.0)
    ∙ ends-patched c.args.rows.now.items c.loop-children.rows.items c.args.ends.now.items c.loop-children.ends.items c.args.row.now c.args.entry done) in
    record {
      rows = AddsRow-behind c.args.rows.now.items c.loop-children.rows.items c.args.ends.now.items c.loop-children.ends.items c.args.row.now c.args.entry done;
      ends = patched;
      aligned = (let same = done.aligned in omega (arith, same, length-set c.loop-children.ends.items c.len-place.result c.len.result));
    }

pub lay_children-overflow_cast-origin : goal.lay_children-overflow_cast-origin
lay_children-overflow_cast-origin t c =
    let room = RowsBehind-room c.args.rows.now.items c.loop-number.rows.items c.args.ends.now.items c.loop-number.ends.items c.args.document c.args.parent c.args.children.now
    c.as_slice-row-items.result.now c.loop-number.number c.row-item.result c.as_slice-row-items.ensures c.loop-number-test.true c.row-item.is c.loop-number.invariant in
    omega (arith, room.0, room.1, c.requires.few)

pub lay_children-lay_row-requires : goal.lay_children-lay_row-requires
lay_children-lay_row-requires t c =
    let room = RowsBehind-room c.args.rows.now.items c.loop-number.rows.items c.args.ends.now.items c.loop-number.ends.items c.args.document c.args.parent c.args.children.now
    c.as_slice-row-items.result.now c.loop-number.number c.row-item.result c.as_slice-row-items.ensures c.loop-number-test.true c.row-item.is c.loop-number.invariant in
    let less = row_less c.args.children.now c.as_slice-row-items.result.now c.loop-number.number c.row-item.result c.as_slice-row-items.ensures c.loop-number-test.true c.row-item.is in
    (omega (arith, c.decreases, less), omega (arith, room.1, c.requires.few))

pub lay_row-lay_children-requires : goal.lay_row-lay_children-requires
lay_row-lay_children-requires t c =
    let room = ChildrenBehind-room c.args.rows.now.items c.loop-children.rows.items c.args.ends.now.items c.loop-children.ends.items c.args.row.now c.args.entry
    c.as_slice-children-items.result.now c.loop-children.children-index c.children-item.result c.as_slice-children-items.ensures c.loop-children-test.true c.children-item.is c.loop-children.invariant in
    let less = children_less c.args.row.now c.as_slice-children-items.result.now c.loop-children.children-index c.children-item.result c.as_slice-children-items.ensures c.loop-children-test.true c.children-item.is in (
      omega (arith, c.decreases, less),
      (omega (arith, room.0, c.len-place.ensures, c.args.ends.now.ok.0), omega (arith, room.1, c.requires.few)),
    )

pub lay_row-overflow_cast-len : goal.lay_row-overflow_cast-len
lay_row-overflow_cast-len t c =
    let done = subst (ChildrenBehind c.args.rows.now.items c.loop-children.rows.items c.args.ends.now.items c.loop-children.ends.items c.args.row.now c.args.entry)
    (all-taken c.as_slice-children-items.result.now c.loop-children.children-index c.loop-children-test.false ∙ c.as_slice-children-items.ensures) c.loop-children.invariant in
    let whole = ChildrenBehind-whole c.args.rows.now.items c.loop-children.rows.items c.args.ends.now.items c.loop-children.ends.items c.args.row.now c.args.entry done in
    omega (arith, whole, c.requires.few, c.len.ensures, c.loop-children.ends.ok.0)
