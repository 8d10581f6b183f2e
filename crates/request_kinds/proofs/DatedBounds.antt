-- An instant by which a date field may be asked, and the one that stands for a missing value, are refused alike.
use Rattle.std.proofs.Common.{◌≡◌, refl, sym, ◌∙◌, ap, ℕ, ℤ, List, Bool, true, false, Some, None, Ok, Err}
use Rattle.std.specs.Prelude.{Option, Result, option_map, if◌then◌else◌}
use Rattle.serde_json.specs.Data.{Data}
use Rattle.date_spec.specs.Instants.{is_in_range}
use Rattle.agg_model.specs.declared.body_refusal.TheConstants.{OUT_OF_RANGE}
use Rattle.agg_model.specs.declared.mapping.FieldKind.TheVariants.{Date}
use Rattle.agg_model.specs.declared.query.Probe.TheVariants as probe
use Rattle.agg_model.specs.declared.row.Scalar.{Scalar}
use Rattle.agg_model.specs.declared.row.Scalar.TheVariants.{Whole, Word, Flag}
use Rattle.agg_reading.specs.declared.fault.RequestFault.{RequestFault}
use Rattle.agg_reading.specs.declared.fault.RequestFault.TheVariants.{NotJson, Bad, Memory}
use Rattle.agg_reading.specs.Reading.{Reading, ◌>>=◌, Fails, refuse, or_refuse}
use Rattle.agg_reading.specs.Scalars.{instant, probe_of, stored}
use Rattle.agg_reading.specs.Leaves.{value_at}
use Rattle.agg_reading.specs.Terms.{missing_at}
use Rattle.agg_reading.specs.DateHistogram.{dated}

-- an instant as the value of a row
abbrev pub as_value : Reading ℤ → Reading Scalar
as_value r = r >>= (λ n. Ok (Whole n))

by_instant : (at : List ℕ) (o : Option ℤ) → (or_refuse OUT_OF_RANGE at (option_map probe.Whole o) >>= λ p. or_refuse OUT_OF_RANGE at (stored Date p)) ≡ as_value (dated at o)
by_instant at None = refl
by_instant at (Some z) =
    elim (is_in_range z) as (λ b. or_refuse OUT_OF_RANGE at (if b then Some (Whole z) else None) ≡ as_value (if b then Ok z else refuse OUT_OF_RANGE at)) [ true ↦ refl | false ↦ refl ]

pub missing_dated : (at : List ℕ) (d : Data) → missing_at Date at d ≡ as_value (dated at (instant d))
unfolding missing_at value_at probe_of
missing_dated at d = by_instant at (instant d)

-- what an answer over values says of instants
pub fails_dated : (e : RequestFault) (r : Reading ℤ) → Fails e (as_value r) → Fails e r
fails_dated NotJson (Ok n) h = cc
fails_dated NotJson (Err e) h = cc
fails_dated (Bad code at) (Ok n) h = cc
fails_dated (Bad code at) (Err e) h = cc
fails_dated Memory r h = tt

pub is_dated : (r : Reading ℤ) (n : ℤ) → as_value r ≡ Ok (Whole n) → r ≡ Ok n
is_dated (Ok m) n h = cc
is_dated (Err e) n h = cc

pub no_word : (r : Reading ℤ) (w : List ℕ) → as_value r ≡ Ok (Word w) → ⊥
no_word (Ok m) w h = cc
no_word (Err e) w h = cc

pub no_flag : (r : Reading ℤ) (b : Bool) → as_value r ≡ Ok (Flag b) → ⊥
no_flag (Ok m) b h = cc
no_flag (Err e) b h = cc
