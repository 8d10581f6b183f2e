-- Rows that are the roots of the documents of their numbers.
use Rattle.std.specs.Prelude.{ℕ, zero, suc, ◌+◌, List, [], ◌∷◌}
use Rattle.shard_columns.specs.declared.layout.Entry.{Entry}
use Rattle.shard_columns.specs.declared.layout.Origin.TheVariants.{Root}

-- the row at a place is the root of the document of this number
abbrev pub root_at : ℕ → Entry
root_at place = record { document = place; origin = Root }

-- so many rows, from this one on, are the roots of the documents of their numbers
abbrev pub each_root_from : ℕ → ℕ → List Entry
each_root_from place zero = []
each_root_from place (suc n) = root_at place ∷ each_root_from (place + 1) n

abbrev pub each_root : ℕ → List Entry
each_root n = each_root_from 0 n
