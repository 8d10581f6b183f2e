-- A query of so many levels: refused where nothing may nest or the search has as many queries as it may, else begun.
use Rattle.std.proofs.Common.{◌≡◌, refl, ℕ, ◌+◌, ◌<◌, ◌≤◌, zero, suc, List, true, false, ◌⊎◌, ⊎_elim, arith}
use Rattle.std.specs.Prelude.{nat_le}
use Rattle.std.proofs.lemmas.Bool.Decides.{nat_tests}
use Rattle.serde_json.specs.Data.{Data}
use Rattle.agg_model.specs.declared.mapping.Mapping.{Mapping}
use Rattle.agg_reading.specs.Reading.{◌>>=◌, refuse}
use Rattle.agg_reading.specs.Json.{object_at, sole_at}
use Rattle.agg_reading.specs.Query.{named_at, query_at}

many : (a b : ℕ) → a ≤ b → nat_le a b ≡ true
many a b h = grind (arith, nat_tests)

few : (a b : ℕ) → b < a → nat_le a b ≡ false
few a b h = grind (arith, nat_tests)

no_more : (left : ℕ) (m : Mapping) (context before : ℕ) (at : List ℕ) (d : Data) → 1024 ≤ before → query_at left m context before at d ≡ refuse 111 at
unfolding query_at
no_more zero m context before at d h = refl
no_more (suc left) m context before at d h = rw (many 1024 before h) refl

no_level : (left : ℕ) (m : Mapping) (context before : ℕ) (at : List ℕ) (d : Data) → left ≡ 0 → query_at left m context before at d ≡ refuse 111 at
unfolding query_at
no_level zero m context before at d h = refl
no_level (suc left) m context before at d h = absurd (omega (arith, h))

pub stopped : (left : ℕ) (m : Mapping) (context before : ℕ) (at : List ℕ) (d : Data) → (left ≡ 0) ⊎ ((left ≡ 0 → ⊥) × (1024 ≤ before)) → query_at left m context before at d ≡ refuse 111 at
stopped left m context before at d h = ⊎_elim (no_level left m context before at d) (λ both. no_more left m context before at d both.1) h

one_less : (rest : ℕ) (m : Mapping) (context before : ℕ) (at : List ℕ) (d : Data) → before < 1024 → query_at (suc rest) m context before at d ≡ (object_at 103 at d >>= λ ms. sole_at 107 at ms >>= λ said. named_at (query_at rest m) m context at (before + 1) said.0 said.1)
unfolding query_at
one_less rest m context before at d h = rw (few 1024 before h) refl

pub begun : (left rest : ℕ) (m : Mapping) (context before : ℕ) (at : List ℕ) (d : Data) → left ≡ suc rest → before < 1024 → query_at left m context before at d ≡ (object_at 103 at d >>= λ ms. sole_at 107 at ms >>= λ said. named_at (query_at rest m) m context at (before + 1) said.0 said.1)
begun left rest m context before at d e h = rw e (one_less rest m context before at d h)
