-- Composite keys, which have a part for each source ('Composite aggregation').
use Rattle.std.specs.Prelude.{ℕ, ◌==◌, Bool, false, List, [], length}
use Rattle.agg_model.specs.declared.key.Key.{Key, out-Key}
use Rattle.agg_model.specs.declared.key.Key.TheOpen.{Key-F}

abbrev pub has_parts : ℕ → Key-F Key → Bool
has_parts n Key-F.Null = false
has_parts n (Key-F.Whole z) = false
has_parts n (Key-F.Flag b) = false
has_parts n (Key-F.Word w) = false
has_parts n (Key-F.Fixed place) = false
has_parts n (Key-F.Many parts) = length parts == n

-- the parts of a composite key; no other has any
abbrev pub key_parts_at : Key-F Key → List Key
key_parts_at Key-F.Null = []
key_parts_at (Key-F.Whole z) = []
key_parts_at (Key-F.Flag b) = []
key_parts_at (Key-F.Word w) = []
key_parts_at (Key-F.Fixed place) = []
key_parts_at (Key-F.Many parts) = parts

-- a composite key of so many parts
abbrev pub is_composite_of : ℕ → Key → Bool
is_composite_of n k = has_parts n (out-Key k)
