use Rattle.std.proofs.Common.{List, ℤ, sym, ◌∙◌, ap, inl, inr}
use Rattle.shard_columns.specs.declared.values.Typed.{Typed}
use Rattle.shard_columns.specs.Values.{cut, span_of}
use Rattle.shard_columns.specs.Columnar.{wholes_part}
use Rattle.shard_columns.proofs.columns.wholes_at.Goals as goal

pub returns-in-Wholes : goal.returns-in-Wholes
returns-in-Wholes c =
    ap (λ (xs : List ℤ). cut xs c.span_at-span.result) c.deref.ensures.value
    ∙ (ap (cut c.in-Wholes.numbers.items) c.span_at-span.ensures ∙ ap (λ (t : Typed). wholes_part t (span_of c.args.homes.now c.args.column.now.spans c.args.row)) (sym c.in-Wholes.is))

pub returns-in-Words : goal.returns-in-Words
returns-in-Words c = elim c.in-Words.is [
  | inl other ↦ ap (λ (t : Typed). wholes_part t (span_of c.args.homes.now c.args.column.now.spans c.args.row)) (sym other.1)
  | inr other ↦ ap (λ (t : Typed). wholes_part t (span_of c.args.homes.now c.args.column.now.spans c.args.row)) (sym other.1)
]
