use Rattle.std.proofs.Common.{◌≡◌, ◌+◌, ◌<◌, ◌++◌, ◌∷◌, ℕ, List, [], map, length, take, Some, sym, ◌∙◌, ap, subst, arith, refl}
use Rattle.std.specs.Prelude.{slice_get}
use Rattle.std.specs.List.Sorted.{IsStrictlyIncreasing}
use Rattle.std.proofs.lemmas.Option.{slice_get-get_or}
use Rattle.std.proofs.lemmas.List.Sums.{sum_by_more_le}
use Rattle.agg_model.specs.declared.row.FieldValues.{FieldValues}
use Rattle.shard_columns.specs.Values.{words_for, FieldsBelow, total_count, is_taken}
use Rattle.shard_columns.specs.Words.{Notes}
use Rattle.shard_columns.specs.Storing.{AddsRowValues}
use Rattle.shard_columns.proofs.Laying.{take-next, all-taken}
use Rattle.shard_columns.proofs.Noting.{Notes-none, Notes-fields, Notes-field}
use Rattle.shard_columns.proofs.Searching.{taken}
use Rattle.shard_columns.proofs.Storing.{FieldsBelow-at}
use Rattle.shard_columns.proofs.Drafting.{AddsRowValues-none, AddsRowValues-push, list_all-same, find-before}
use Rattle.shard_columns.proofs.values.Drafts.push_row.Goals as goal

pub loop-field-init : goal.loop-field-init
loop-field-init c = record { notes = Notes-none c.args.numbers.now c.requires.sound; adds = AddsRowValues-none c.args.numbers.now c.args.self.now c.args.row c.requires.shaped c.requires.bounded }

pub index_mut-requires : goal.index_mut-requires
index_mut-requires c =
    let below = FieldsBelow-at (length c.args.self.now.columns.items) c.as_slice-field-items.result.now c.loop-field.field-index c.field-item.result c.loop-field-test.true
    (subst (FieldsBelow (length c.args.self.now.columns.items)) (sym c.as_slice-field-items.ensures) c.requires.in_range) in
    omega (arith, below, ap (λ (f : FieldValues). f.field) c.field-item.is, c.loop-field.invariant.adds.sizes, c.loop-field.self.columns.ok.0)

pub push_field-requires-clause-in_range : goal.push_field-requires-clause-in_range
push_field-requires-clause-in_range c =
    let below = FieldsBelow-at (length c.args.self.now.columns.items) c.as_slice-field-items.result.now c.loop-field.field-index c.field-item.result c.loop-field-test.true
    (subst (FieldsBelow (length c.args.self.now.columns.items)) (sym c.as_slice-field-items.ensures) c.requires.in_range) in
    omega (arith, below, ap (λ (f : FieldValues). f.field) c.field-item.is, c.requires.sizes, c.loop-field.invariant.notes.sizes)

pub push_field-requires-clause-taken : goal.push_field-requires-clause-taken
push_field-requires-clause-taken c =
    let items = c.as_slice-field-items.result.now in
    let k = c.loop-field.field-index in
    let v = c.field-item.result in
    let d = c.index_mut.result.now in
    let adds = c.loop-field.invariant.adds in
    let below = FieldsBelow-at (length c.args.self.now.columns.items) items k v c.loop-field-test.true (subst (FieldsBelow (length c.args.self.now.columns.items)) (sym c.as_slice-field-items.ensures) c.requires.in_range) in
    let low : v.field < length c.args.self.now.columns.items = omega (arith, below, ap (λ (f : FieldValues). f.field) c.field-item.is) in
    let old = slice_get-get_or c.args.self.now.columns.items v.field d low in
    let now = taken c.loop-field.self.columns.items v.field d (omega (arith, low, adds.sizes)) c.index_mut.ensures.value in
    let at : slice_get c.args.fields.now k ≡ Some v = ap (λ (fs : List FieldValues). slice_get fs k) (sym c.as_slice-field-items.ensures) ∙ taken items k v c.loop-field-test.true c.field-item.is in
    list_all-same (is_taken d.typed) _ v.values (λ u. adds.taken v.field d _ now old u) ∙ c.requires.taken k v _ at old

pub push_field-requires-clause-few_values : goal.push_field-requires-clause-few_values
push_field-requires-clause-few_values c =
    let items = c.as_slice-field-items.result.now in
    let k = c.loop-field.field-index in
    let v = c.field-item.result in
    let d = c.index_mut.result.now in
    let adds = c.loop-field.invariant.adds in
    let below = FieldsBelow-at (length c.args.self.now.columns.items) items k v c.loop-field-test.true (subst (FieldsBelow (length c.args.self.now.columns.items)) (sym c.as_slice-field-items.ensures) c.requires.in_range) in
    let low : v.field < length c.args.self.now.columns.items = omega (arith, below, ap (λ (f : FieldValues). f.field) c.field-item.is) in
    let now = taken c.loop-field.self.columns.items v.field d (omega (arith, low, adds.sizes)) c.index_mut.ensures.value in
    let counted = adds.counted in
    omega (arith, adds.bounded.values v.field d now, counted, sum_by_more_le (λ (f : FieldValues). length f.values) items k v c.loop-field-test.true, ap (λ (f : FieldValues). length f.values) c.field-item.is, ap total_count c.as_slice-field-items.ensures, c.requires.few)

pub loop-field-preserved : goal.loop-field-preserved
loop-field-preserved c =
    let items = c.as_slice-field-items.result.now in
    let k = c.loop-field.field-index in
    let v = c.field-item.result in
    let d = c.index_mut.result.now in
    let so_far = c.loop-field.invariant.adds in
    let next : take (k + 1) items ≡ take k items ++ v ∷ [] = take-next items k v c.loop-field-test.true c.field-item.is in
    let before = c.loop-field.numbers in
    let after = c.push_field.new.numbers in
    let made = c.in_ok-push_field.ensures in
    let below = FieldsBelow-at (length c.args.self.now.columns.items) items k v c.loop-field-test.true (subst (FieldsBelow (length c.args.self.now.columns.items)) (sym c.as_slice-field-items.ensures) c.requires.in_range) in
    let low : v.field < length c.args.self.now.columns.items = omega (arith, below, ap (λ (f : FieldValues). f.field) c.field-item.is) in
    let now = taken c.loop-field.self.columns.items v.field d (omega (arith, low, so_far.sizes)) c.index_mut.ensures.value in
    let rise = subst (λ (fs : List FieldValues). IsStrictlyIncreasing (map (λ f. f.field) fs)) (sym c.as_slice-field-items.ensures) c.requires.rise in
    let noted = Notes-field before after v made.notes in
    record {
      notes = subst (λ (fs : List FieldValues). Notes c.args.numbers.now after (λ f. words_for f fs)) (sym next) (Notes-fields c.args.numbers.now before after (take k items) (v ∷ []) c.loop-field.invariant.notes noted);
      adds = subst (AddsRowValues after c.args.self.now _ c.args.row) (sym next)
          (AddsRowValues-push before after c.args.self.now c.loop-field.self _ c.args.row (take k items) v d c.push_field.new.draft noted.kept so_far now refl (ap (λ (n : ℕ). c.loop-field.self.count + n) c.len.ensures) made.adds (find-before items k v rise c.loop-field-test.true c.field-item.is) made.few);
    }

pub returns : goal.returns
returns c =
    let all = all-taken c.as_slice-field-items.result.now c.loop-field.field-index c.loop-field-test.false ∙ c.as_slice-field-items.ensures in
    record {
      notes = subst (λ (fs : List FieldValues). Notes c.args.numbers.now c.loop-field.numbers (λ f. words_for f fs)) all c.loop-field.invariant.notes;
      adds = subst (AddsRowValues c.loop-field.numbers c.args.self.now c.loop-field.self c.args.row) all c.loop-field.invariant.adds;
    }
