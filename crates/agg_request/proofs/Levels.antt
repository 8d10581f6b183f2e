-- An aggregation of so many levels: refused where nothing may nest or the search has as many as it may, else begun.
use Rattle.std.proofs.Common.{◌≡◌, refl, ℕ, ◌<◌, ◌≤◌, zero, suc, List, Bool, false, ◌⊎◌, ⊎_elim, arith}
use Rattle.serde_json.specs.Data.{Data}
use Rattle.agg_model.specs.declared.mapping.Mapping.{Mapping}
use Rattle.agg_reading.specs.declared.parts.Counts.{Counts}
use Rattle.agg_reading.specs.Reading.{refuse}
use Rattle.agg_reading.specs.Request.{aggregation_of, aggregation_at}
use Rattle.std.proofs.lemmas.Bool.{le-leb, lt-leb}

no_more : (left : ℕ) (m : Mapping) (top : Bool) (context : ℕ) (name at : List ℕ) (counts : Counts) (d : Data) → 256 ≤ counts.aggregations
    → aggregation_at left m top context name at counts d ≡ refuse 111 at
unfolding aggregation_at
no_more zero m top context name at counts d h = refl
no_more (suc left) m top context name at counts d h = rw (le-leb 256 counts.aggregations h) refl

no_level : (left : ℕ) (m : Mapping) (top : Bool) (context : ℕ) (name at : List ℕ) (counts : Counts) (d : Data) → left ≡ 0
    → aggregation_at left m top context name at counts d ≡ refuse 111 at
unfolding aggregation_at
no_level zero m top context name at counts d h = refl
no_level (suc left) m top context name at counts d h = absurd (omega (arith, h))

pub stopped : (left : ℕ) (m : Mapping) (top : Bool) (context : ℕ) (name at : List ℕ) (counts : Counts) (d : Data) → (left ≡ 0) ⊎ ((left ≡ 0 → ⊥) × (256 ≤ counts.aggregations))
    → aggregation_at left m top context name at counts d ≡ refuse 111 at
stopped left m top context name at counts d h =
    ⊎_elim (no_level left m top context name at counts d) (λ both. no_more left m top context name at counts d both.1) h

one_less : (rest : ℕ) (m : Mapping) (top : Bool) (context : ℕ) (name at : List ℕ) (counts : Counts) (d : Data) → counts.aggregations < 256
    → aggregation_at (suc rest) m top context name at counts d ≡ aggregation_of (aggregation_at rest m false) m top context name at counts d
unfolding aggregation_at
one_less rest m top context name at counts d h = rw (lt-leb 256 counts.aggregations h) refl

pub begun : (left rest : ℕ) (m : Mapping) (top : Bool) (context : ℕ) (name at : List ℕ) (counts : Counts) (d : Data) → left ≡ suc rest → counts.aggregations < 256
    → aggregation_at left m top context name at counts d ≡ aggregation_of (aggregation_at rest m false) m top context name at counts d
begun left rest m top context name at counts d e h = rw e (one_less rest m top context name at counts d h)
