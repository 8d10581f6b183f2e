-- The columns at breakers that are opened anew.
use Rattle.std.specs.Prelude.{◌≡◌, ◌≤◌, ◌+◌, ℕ, Bool, true, false, nat_lt, [], Option, Some, None, if◌then◌else◌}
use Rattle.std.proofs.Common.{refl, ◌∙◌, sym, ap, arith}
use Rattle.std.proofs.lemmas.Bool.{ltb-false}
use Rattle.agg_model.specs.Breakers.{limit_of}
use Rattle.agg_model.specs.declared.breaker.Limits.{Limits}
use Rattle.agg_model.specs.declared.breaker.Tripped.{Tripped}
use Rattle.agg_model.specs.declared.breaker.Which.{Which}
use Rattle.agg_model.specs.declared.breaker.Which.TheVariants as at
use Rattle.agg_model.specs.declared.limits.TheConstants.{MAX_BYTE_SIZE}
use Rattle.agg_model.specs.declared.settings.Settings.{Settings}
use Rattle.agg_spec.specs.Charges.{no_amounts, or_else, amount_at}
use Rattle.agg_spec.specs.Columns.{columns_refusal}
use Rattle.agg_spec.specs.Index.{Index}
use Rattle.agg_spec.specs.Solo.{columns_held}
use Rattle.breaker_tree.specs.Reopening.{HoldsColumns, columns_at, refusal_of_columns}
use Rattle.breaker_words.specs.Breakers.{counter_value}
use Rattle.breaker_words.specs.Passes.{WordsModel, PassModel}
use Rattle.solo_answerer.specs.Worked.{HasAnswered}

tripped_at : Limits → Which → ℕ → Tripped
tripped_at l x n = record { which = x; wanted = n; limit = limit_of l x }

or-case : (b : Bool) (t : Tripped) (later : Option Tripped) → (if b then Some t else later) ≡ or_else (if b then Some t else None) later
or-case true t later = refl
or-case false t later = refl

module _ (l : Limits) where
  refusal_by : ℕ → Option Tripped
  refusal_by n = or_else (if nat_lt l.fielddata n then Some (tripped_at l at.Fielddata n) else None) (if nat_lt l.parent n then Some (tripped_at l at.Parent n) else None)

  defined-so : (n : ℕ) → columns_refusal l n ≡ refusal_by n
  unfolding refusal_by tripped_at
  defined-so n = ap refusal_by (let zero : 0 + n ≡ n = omega arith in zero)

  -- the refusal of breakers that are opened anew is that of the definitions
  pub same-refusal : (n : ℕ) → refusal_of_columns l n ≡ columns_refusal l n
  unfolding refusal_by tripped_at
  same-refusal n = or-case (nat_lt l.fielddata n) (tripped_at l at.Fielddata n) _ ∙ sym (defined-so n)

-- ---- nothing is answered yet

fits-counter : (n : ℕ) → n ≤ 18446744073709551615 → counter_value (n + 0) ≡ n
fits-counter n few = omega (arith, few)

none-trips : counter_value (0 + 0) ≡ 0
none-trips = refl

module _ (l : Limits) (columns : ℕ) (words : WordsModel) (pass : PassModel) (holds : HoldsColumns l columns words pass) (few : columns ≤ 18446744073709551615) where
  held-is : (x : Which) → columns_at columns x ≡ amount_at x (columns_held columns)
  held-is at.Request = refl
  held-is at.Fielddata = refl
  held-is at.Inflight = refl
  held-is at.Parent = refl

  granted-is : (x : Which) → columns_at columns x ≡ counter_value (amount_at x (columns_held columns) + amount_at x no_amounts)
  granted-is at.Request = refl
  granted-is at.Fielddata = sym (fits-counter columns few)
  granted-is at.Inflight = refl
  granted-is at.Parent = sym (fits-counter columns few)

  trips-is : (x : Which) → 0 ≡ counter_value (amount_at x no_amounts + amount_at x no_amounts)
  trips-is at.Request = refl
  trips-is at.Fielddata = refl
  trips-is at.Inflight = refl
  trips-is at.Parent = refl

  pub nothing-answered : (settings : Settings) (index : Index) → HasAnswered settings index columns pass.view []
  nothing-answered settings index = record {
    going = refl;
    holds = λ x. holds.holds x ∙ held-is x;
    counts = record { granted_is = λ x. holds.granted x ∙ granted-is x; trips_are = λ x. holds.trips x ∙ trips-is x };
  }

-- columns that have room are few
none-less : (b : Bool) (t : Tripped) (later : Option Tripped) → or_else (if b then Some t else None) later ≡ None → b ≡ false
none-less true t later is = absurd (let no : ⊥ = cc in no)
none-less false t later is = refl

pub few-columns : (l : Limits) (n : ℕ) → columns_refusal l n ≡ None → l.fielddata ≤ MAX_BYTE_SIZE → n ≤ 18446744073709551615
unfolding refusal_by tripped_at
few-columns l n light limit =
    let not = none-less (nat_lt l.fielddata n) (tripped_at l at.Fielddata n) _ (sym (defined-so l n) ∙ light) in
    let le = ltb-false l.fielddata n not in
    omega (arith, le, limit)
