use Rattle.std.proofs.Common.{◌-◌, length, sym, ◌∙◌, ap, arith}
use Rattle.shard_columns.specs.declared.values.Span.{Span}
use Rattle.shard_columns.proofs.Reading.{home-in, column-sound, count-is, no-column}
use Rattle.shard_columns.proofs.shard.Shard.value_count.Goals as goal

pub span_at-span-requires : goal.span_at-span-requires
span_at-span-requires c = record {
  sound = column-sound c.self.inside c.args.self.now c.self.view_is c.self.invariant c.args.row c.args.field c.as_slice.result.now c.in-Some.column.now c.requires c.as_slice.ensures.value c.in-Some.ensures.some;
  in_range = home-in c.self.inside c.args.self.now c.self.view_is c.self.invariant c.args.row c.requires;
}

pub overflow_sub-result : goal.overflow_sub-result
overflow_sub-result c =
    let part = (column-sound c.self.inside c.args.self.now c.self.view_is c.self.invariant c.args.row c.args.field c.as_slice.result.now c.in-Some.column.now c.requires c.as_slice.ensures.value c.in-Some.ensures.some).within c.args.row (home-in c.self.inside c.args.self.now c.self.view_is c.self.invariant c.args.row c.requires) in
    omega (arith, part.0, ap (λ (s : Span). s.start) c.span_at-span.ensures, ap (λ (s : Span). s.end) c.span_at-span.ensures)

pub returns-in-Some : goal.returns-in-Some
returns-in-Some c = ap (λ (s : Span). s.end - s.start) c.span_at-span.ensures ∙ sym (count-is c.self.inside c.args.self.now c.self.view_is c.self.invariant c.args.row c.args.field c.as_slice.result.now c.in-Some.column.now c.requires c.as_slice.ensures.value c.in-Some.ensures.some)

pub returns-in-None : goal.returns-in-None
returns-in-None c = sym (ap length (no-column c.self.inside c.args.self.now c.self.view_is c.self.invariant c.args.row c.args.field c.as_slice.result.now c.requires c.as_slice.ensures.value c.in-None.ensures.none))
