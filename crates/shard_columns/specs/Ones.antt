-- Rows that have one value each of a field.
use Rattle.std.specs.Prelude.{ℕ, zero, suc, ◌+◌, List, [], ◌∷◌}
use Rattle.shard_columns.specs.declared.values.Held.{Held}
use Rattle.shard_columns.specs.declared.values.Span.{Span}

-- the span of one value at a place
abbrev pub one_span : ℕ → Span
one_span place = record { start = place; end = place + 1 }

-- the row at a place has one value, at the same place
abbrev pub one_at : ℕ → Held
one_at place = record { row = place; span = one_span place }

-- so many rows, from this one on, have one value each
abbrev pub one_each_from : ℕ → ℕ → List Held
one_each_from place zero = []
one_each_from place (suc n) = one_at place ∷ one_each_from (place + 1) n

abbrev pub one_each : ℕ → List Held
one_each n = one_each_from 0 n
