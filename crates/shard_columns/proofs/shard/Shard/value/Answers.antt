use Rattle.std.proofs.Common.{◌+◌, ℤ, List, [], length, get_or, sym, ◌∙◌, ap, arith, rules, w64}
use Rattle.std.specs.Prelude.{Some}
use Rattle.std.proofs.lemmas.Int.{to_z-of_z}
use Rattle.agg_model.specs.declared.row.Scalar.TheVariants.{Whole}
use Rattle.shard_columns.specs.Cell.{scalar_of}
use Rattle.shard_columns.specs.Values.{Words, shown, typed_len}
use Rattle.shard_columns.specs.declared.values.Span.{Span}
use Rattle.shard_columns.proofs.Reading.{column-sound, home-in, place-low, whole-at, flag-at, word-at, no-column}
use Rattle.shard_columns.proofs.shard.Shard.value.Goals as goal

pub unreachable-requires : goal.unreachable-requires
unreachable-requires c = omega (arith, c.requires.there, ap length (no-column c.self.inside c.args.self.now c.self.view_is c.self.invariant c.args.row c.args.field c.as_slice.result.now c.requires.in_range c.as_slice.ensures.value c.in-None.ensures.none))

pub span_at-span-requires : goal.span_at-span-requires
span_at-span-requires c = record {
  sound = column-sound c.self.inside c.args.self.now c.self.view_is c.self.invariant c.args.row c.args.field c.as_slice.result.now c.in-Some.column.now c.requires.in_range c.as_slice.ensures.value c.in-Some.ensures.some;
  in_range = home-in c.self.inside c.args.self.now c.self.view_is c.self.invariant c.args.row c.requires.in_range;
}

pub index-requires : goal.index-requires
index-requires c = omega (arith, place-low c.self.inside c.args.self.now c.self.view_is c.self.invariant c.args.row c.args.field c.as_slice.result.now c.in-Some.column.now c.requires.in_range c.as_slice.ensures.value c.in-Some.ensures.some c.args.place c.requires.there, ap typed_len c.in-Wholes.is, ap (λ (s : Span). s.start) c.span_at-span.ensures, c.in-Wholes.numbers.ok.0)

pub index-requires-in-Words : goal.index-requires-in-Words
index-requires-in-Words c = omega (arith, place-low c.self.inside c.args.self.now c.self.view_is c.self.invariant c.args.row c.args.field c.as_slice.result.now c.in-Some.column.now c.requires.in_range c.as_slice.ensures.value c.in-Some.ensures.some c.args.place c.requires.there, ap typed_len c.in-Words.is, ap (λ (s : Span). s.start) c.span_at-span.ensures, c.in-Words.places.ok.0)

pub index-requires-in-Flags : goal.index-requires-in-Flags
index-requires-in-Flags c = omega (arith, place-low c.self.inside c.args.self.now c.self.view_is c.self.invariant c.args.row c.args.field c.as_slice.result.now c.in-Some.column.now c.requires.in_range c.as_slice.ensures.value c.in-Some.ensures.some c.args.place c.requires.there, ap typed_len c.in-Flags.is, ap (λ (s : Span). s.start) c.span_at-span.ensures, c.in-Flags.flags.ok.0)

pub returns-in-Wholes : goal.returns-in-Wholes
returns-in-Wholes c =
    let x = c.index.result.now in
    whole-at c.self.inside c.args.self.now c.self.view_is c.self.invariant c.args.row c.args.field c.as_slice.result.now c.in-Some.column.now c.requires.in_range c.as_slice.ensures.value c.in-Some.ensures.some c.args.place c.in-Wholes.numbers x c.requires.there c.in-Wholes.is
    (c.index.ensures ∙ ap (λ (s : Span). get_or c.in-Wholes.numbers.items (s.start + c.args.place) x) c.span_at-span.ensures)
    ∙ ap (λ (z : ℤ). Some (Whole z)) (sym (to_z-of_z w64 x (search rules)))

pub returns-in-Words : goal.returns-in-Words
returns-in-Words c =
    let x = c.index-in-Words.result.now in
    word-at c.self.inside c.args.self.now c.self.view_is c.self.invariant c.args.row c.args.field c.as_slice.result.now c.in-Some.column.now c.requires.in_range c.as_slice.ensures.value c.in-Some.ensures.some c.args.place c.in-Words.places x (scalar_of c.word_cell.result) c.requires.there c.in-Words.is
    (c.index-in-Words.ensures ∙ ap (λ (s : Span). get_or c.in-Words.places.items (s.start + c.args.place) x) c.span_at-span.ensures)
    (c.word_cell.ensures ∙ ap (λ (xs : List Words). shown (get_or xs c.args.field []) x) c.as_slice-in-Words.ensures.value)

pub returns-in-Flags : goal.returns-in-Flags
returns-in-Flags c =
    let x = c.index-in-Flags.result.now in
    flag-at c.self.inside c.args.self.now c.self.view_is c.self.invariant c.args.row c.args.field c.as_slice.result.now c.in-Some.column.now c.requires.in_range c.as_slice.ensures.value c.in-Some.ensures.some c.args.place c.in-Flags.flags x c.requires.there c.in-Flags.is
    (c.index-in-Flags.ensures ∙ ap (λ (s : Span). get_or c.in-Flags.flags.items (s.start + c.args.place) x) c.span_at-span.ensures)
