use Rattle.std.proofs.Common.{List, ℕ, sym, ◌∙◌, ap, inl, inr}
use Rattle.shard_columns.specs.declared.values.Typed.{Typed}
use Rattle.shard_columns.specs.Values.{cut, span_of}
use Rattle.shard_columns.specs.Columnar.{ordinals_part}
use Rattle.shard_columns.proofs.columns.ordinals_at.Goals as goal

pub returns-in-Words : goal.returns-in-Words
returns-in-Words c =
    ap (λ (xs : List ℕ). cut xs c.span_at-span.result) c.deref.ensures.value
    ∙ (ap (cut c.in-Words.places.items) c.span_at-span.ensures ∙ ap (λ (t : Typed). ordinals_part t (span_of c.args.homes.now c.args.column.now.spans c.args.row)) (sym c.in-Words.is))

pub returns-in-Wholes : goal.returns-in-Wholes
returns-in-Wholes c = elim c.in-Wholes.is [
  | inl other ↦ ap (λ (t : Typed). ordinals_part t (span_of c.args.homes.now c.args.column.now.spans c.args.row)) (sym other.1)
  | inr other ↦ ap (λ (t : Typed). ordinals_part t (span_of c.args.homes.now c.args.column.now.spans c.args.row)) (sym other.1)
]
