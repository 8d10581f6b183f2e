use Rattle.std.proofs.Common.{List, Bool, sym, ◌∙◌, ap, inl, inr}
use Rattle.shard_columns.specs.declared.values.Typed.{Typed}
use Rattle.shard_columns.specs.Values.{cut, span_of}
use Rattle.shard_columns.specs.Columnar.{flags_part}
use Rattle.shard_columns.proofs.columns.flags_at.Goals as goal

pub returns-in-Flags : goal.returns-in-Flags
returns-in-Flags c =
    ap (λ (xs : List Bool). cut xs c.span_at-span.result) c.deref.ensures.value
    ∙ (ap (cut c.in-Flags.flags.items) c.span_at-span.ensures ∙ ap (λ (t : Typed). flags_part t (span_of c.args.homes.now c.args.column.now.spans c.args.row)) (sym c.in-Flags.is))

pub returns-in-Wholes : goal.returns-in-Wholes
returns-in-Wholes c = elim c.in-Wholes.is [
  | inl other ↦ ap (λ (t : Typed). flags_part t (span_of c.args.homes.now c.args.column.now.spans c.args.row)) (sym other.1)
  | inr other ↦ ap (λ (t : Typed). flags_part t (span_of c.args.homes.now c.args.column.now.spans c.args.row)) (sym other.1)
]
