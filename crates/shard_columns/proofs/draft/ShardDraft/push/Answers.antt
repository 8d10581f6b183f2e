use Rattle.std.proofs.Common.{◌≡◌, ◌++◌, ◌∷◌, ◌+◌, ℕ, refl, [], List, length, sym, ◌∙◌, ap, subst, arith}
use Rattle.std.proofs.lemmas.List.{length-map}
use Rattle.std.proofs.lemmas.Result.{on_ok_weaker}
use Rattle.agg_model.specs.declared.row.Document.{Document}
use Rattle.shard_columns.specs.declared.layout.Laid.{Laid}
use Rattle.shard_columns.specs.declared.layout.Origin.TheVariants.{Root}
use Rattle.shard_columns.specs.Layout.{AddsRowBehind}
use Rattle.shard_columns.proofs.Pushing.{room-for, can-hold, draft-push}
use Rattle.shard_columns.proofs.draft.ShardDraft.push.Goals as goal

pub overflow_cast-entry : goal.overflow_cast-entry
overflow_cast-entry c =
    let held = c.requires.1.1.0 in
    let room = room-for c.requires.0 c.requires.1.0 c.args.document.now c.args.self.now held c.requires.1.1.1 in
    let count : c.len.result ≡ length c.requires.1.0 = c.len.ensures ∙ (ap length held.ids ∙ length-map c.requires.1.0 (λ (d : Document). d.id)) in
    omega (arith, room.0, count)

pub lay_row-requires : goal.lay_row-requires
lay_row-requires c = record { few = (room-for c.requires.0 c.requires.1.0 c.args.document.now c.args.self.now c.requires.1.1.0 c.requires.1.1.1).1 }

pub push_values-requires : goal.push_values-requires
push_values-requires c =
    let documents = c.requires.1.0 in
    let held = c.requires.1.1.0 in
    let document = c.args.document.now in
    let old = c.args.self.now in
    let added = c.as_slice-rows.result.now in
    let count : c.len.result ≡ length documents = c.len.ensures ∙ (ap length held.ids ∙ length-map documents (λ (d : Document). d.id)) in
    let adds : AddsRowBehind (length old.ends.items) [] added document.root (record { document = c.len.result; origin = Root }) =
    subst (λ (ls : List Laid). AddsRowBehind (length old.ends.items) [] ls document.root (record { document = c.len.result; origin = Root })) (sym c.as_slice-rows.ensures.value)
    (subst (λ (ls : List Laid). AddsRowBehind (length old.ends.items) ls c.lay_row.new.rows.items document.root (record { document = c.len.result; origin = Root })) c.new-rows.ensures.items c.in_ok-lay_row.ensures.rows) in
    let grown : length added + length old.ends.items ≡ length {A = Laid} [] + length c.lay_row.new.ends.items =
    omega (arith, c.in_ok-lay_row.ensures.aligned, ap length c.as_slice-rows.ensures.value, ap length c.new-rows.ensures.items) in
    can-hold c.requires.0 documents document old added c.lay_row.new.ends.items c.len.result c.len-first.result held c.requires.1.1.1 count c.len-first.ensures adds c.in_ok-lay_row.ensures.ends grown

pub returns : goal.returns
returns c = on_ok_weaker c.push.result (λ pushed m documents held admits.
    let document = c.args.document.now in
    let old = c.args.self.now in
    let added = c.as_slice-rows.result.now in
    let count : c.len.result ≡ length documents = c.len.ensures ∙ (ap length held.ids ∙ length-map documents (λ (d : Document). d.id)) in
    let adds : AddsRowBehind (length old.ends.items) [] added document.root (record { document = c.len.result; origin = Root }) =
    subst (λ (ls : List Laid). AddsRowBehind (length old.ends.items) [] ls document.root (record { document = c.len.result; origin = Root })) (sym c.as_slice-rows.ensures.value)
    (subst (λ (ls : List Laid). AddsRowBehind (length old.ends.items) ls c.lay_row.new.rows.items document.root (record { document = c.len.result; origin = Root })) c.new-rows.ensures.items c.in_ok-lay_row.ensures.rows) in
    let grown : length added + length old.ends.items ≡ length {A = Laid} [] + length c.lay_row.new.ends.items =
    omega (arith, c.in_ok-lay_row.ensures.aligned, ap length c.as_slice-rows.ensures.value, ap length c.new-rows.ensures.items) in
    draft-push m documents document old added c.lay_row.new.ends.items c.len.result c.len-first.result held admits count c.len-first.ensures adds c.in_ok-lay_row.ensures.ends grown
    _ refl refl c.in_ok-push_entries.ensures (pushed ∙ ap (λ (id : List ℕ). old.ids ++ id ∷ []) c.as_str.ensures) c.in_ok-push_values.ensures) c.push.ensures.added
