-- How much has been collected.
use Rattle.std.proofs.Common.{◌≡◌, ℕ, ◌+◌, ◌-◌, ◌<◌, ◌≤◌, false, [], length, arith}
use Rattle.std.specs.Prelude.{nat_le}
use Rattle.std.proofs.lemmas.Bool.Decides.{nat_tests}
use Rattle.list_laws.proofs.StableSort.{length-sorted}
use Rattle.agg_reading.specs.declared.parts.FoundField.{FoundField}
use Rattle.agg_reading.specs.declared.parts.FoundPath.{FoundPath}
use Rattle.agg_reading.specs.Properties.{by_path, is_full}
use Rattle.agg_mapping.specs.Arranged.{arranged}
use Rattle.agg_mapping.specs.declared.collected.Collected.{Collected}

-- so many fields and paths, counted from either side
full_of : (a b : ℕ) → a + b ≤ 1000 → nat_le (1000 - a) b ≡ nat_le 1000 (a + b)
full_of a b h = grind (arith, nat_tests)

-- the test of the code is the definition's
pub full : (c : Collected) → length c.fields + length c.nested ≤ 1000 → nat_le (1000 - length c.fields) (length c.nested) ≡ is_full (arranged c)
unfolding arranged
full c h =
    rw (length-sorted (by_path (λ (f : FoundField). f.path)) c.fields, length-sorted (by_path (λ (p : FoundPath). p.path)) c.nested) (full_of (length c.fields) (length c.nested) h)

-- what is not full has room
room_of : (a b : ℕ) → nat_le 1000 (a + b) ≡ false → a + b < 1000
room_of a b h = grind (arith, nat_tests)

-- where the definition is not full there is room
pub room : (c : Collected) → is_full (arranged c) ≡ false → length c.fields + length c.nested < 1000
unfolding arranged
room c e =
    room_of (length c.fields) (length c.nested) (rw (length-sorted (by_path (λ (f : FoundField). f.path)) c.fields, length-sorted (by_path (λ (p : FoundPath). p.path)) c.nested) at e)
