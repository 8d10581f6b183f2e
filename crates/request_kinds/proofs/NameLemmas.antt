-- Names among the members of an object, and names in two parts.
use Rattle.std.proofs.Common.{◌≡◌, ◌≤◌, ◌<◌, ℕ, List, [], ◌∷◌, ◌++◌, length, take, drop, Bool, false, Option, Some, Ordering, Less, Equal, Greater, is_eq, nat_cmp, bytes_eq, refl, sym, ap, ◌∙◌, arith}
use Rattle.std.specs.Prelude.{is_some, ◌&&◌, ◌||◌, nat_eq}
use Rattle.std.specs.Ordering.{match_ordering}
use Rattle.std.specs.Cmp.Lexicographic.{slice_cmp}
use Rattle.std.proofs.lemmas.Map.Text.{is_eq-slice_cmp}
use Rattle.serde_json.specs.Data.{Data, Members, no_members, member}
use Rattle.serde_json.specs.Find.{get_member}
use Rattle.agg_reading.specs.Json.{is_among}
use Rattle.agg_reading.specs.After.{names_of}
use Rattle.list_laws.proofs.Booleans.{and_assoc, and_false}

found_or : (o : Ordering) (d : Data) (rest : Option Data) (b : Bool) → b ≡ is_some rest → (is_eq o || b) ≡ is_some (match_ordering o rest (Some d) rest)
found_or Less d rest b h = h
found_or Equal d rest b h = refl
found_or Greater d rest b h = h

pub named : (name : List ℕ) (ms : Members) → is_among (names_of ms) name ≡ is_some (get_member name ms)
named name no_members = refl
named name (member k d ms) =
    ap (λ b. b || is_among (names_of ms) name) (sym (is_eq-slice_cmp name k)) ∙ found_or (slice_cmp nat_cmp name k) d (get_member name ms) _ (named name ms)

pub split : (name front ending : List ℕ) → length front ≤ length name → bytes_eq name (front ++ ending) ≡ (bytes_eq (take (length front) name) front && bytes_eq (drop (length front) name) ending)
split name [] ending h = refl
split [] (c ∷ front) ending h = absurd (omega arith)
split (b ∷ name) (c ∷ front) ending h = ap (λ r. nat_eq b c && r) (split name front ending (omega arith)) ∙ and_assoc (nat_eq b c) (bytes_eq (take (length front) name) front) (bytes_eq (drop (length front) name) ending)

pub too_short : (name front ending : List ℕ) → length name < length front → bytes_eq name (front ++ ending) ≡ false
too_short name [] ending h = absurd (omega arith)
too_short [] (c ∷ front) ending h = refl
too_short (b ∷ name) (c ∷ front) ending h = ap (λ r. nat_eq b c && r) (too_short name front ending (omega arith)) ∙ and_false (nat_eq b c)
