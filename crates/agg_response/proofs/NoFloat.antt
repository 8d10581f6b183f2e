-- Members without a float, one more put among them.
use Rattle.std.specs.Prelude.{◌≡◌, refl, ℕ, Bool, true, false, ◌||◌, List, [], ◌∷◌, ◌++◌}
use Rattle.std.specs.Ordering.{nat_cmp, match_ordering}
use Rattle.std.specs.declared.cmp.Ordering.TheVariants.{Less, Equal, Greater}
use Rattle.std.specs.Cmp.Lexicographic.{slice_cmp}
use Rattle.std.proofs.Common.{◌∙◌, ap}
use Rattle.serde_json.specs.Data.{Data, Members, member, no_members}
use Rattle.serde_json.specs.Data.{put as with_member}
use Rattle.serde_json.specs.Written.{has_float, items_have_float, members_have_float}
use Rattle.serde_json.specs.View.{items_of}

pub either : (a b : Bool) → a ≡ false → b ≡ false → (a || b) ≡ false
either a b p q = ap (λ c. c || b) p ∙ q

first : (a b : Bool) → (a || b) ≡ false → a ≡ false
first true b p = p
first false b p = refl

second : (a b : Bool) → (a || b) ≡ false → b ≡ false
second true true p = p
second true false p = refl
second false b p = p

pub members_have_float-put : (k : List ℕ) (d : Data) (ms : Members) → has_float d ≡ false → members_have_float ms ≡ false
    → members_have_float (with_member k d ms) ≡ false
members_have_float-put k d no_members p q = either _ _ p refl
members_have_float-put k d (member l e ms) p q =
    elim (slice_cmp nat_cmp k l) as (λ r. members_have_float (match_ordering r (member k d (member l e ms)) (member l d ms) (member l e (with_member k d ms)))
    ≡ false) [
      | Less ↦ either _ _ p q
      | Equal ↦ either _ _ p (second _ _ q)
      | Greater ↦ either _ _ (first _ _ q) (members_have_float-put k d ms p (second _ _ q))
    ]

pub items_have_float-append : (ds : List Data) (d : Data) → items_have_float (items_of ds) ≡ false → has_float d ≡ false
    → items_have_float (items_of (ds ++ d ∷ [])) ≡ false
items_have_float-append [] d p q = either _ _ q refl
items_have_float-append (e ∷ ds) d p q = either _ _ (first _ _ p) (items_have_float-append ds d (second (has_float e) _ p) q)
