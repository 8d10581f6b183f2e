-- The members of a line that has none, or more than one, are no action.
use Rattle.std.proofs.Common.{◌≡◌, ℕ, List, [], ◌∷◌, length, Bor, refl}
use Rattle.serde_json.specs.Data.{object}
use Rattle.agg_model.specs.declared.script_refusal.TheConstants.{MALFORMED_ACTION}
use Rattle.agg_reading.specs.Action.{action_value_at}
use Rattle.agg_reading.specs.Json.{object_at, sole_at}
use Rattle.agg_reading.specs.Reading.{refuse}
use Rattle.lent_json.specs.View.{members_view}
use Rattle.lent_json.specs.declared.value.Lent.{Lent}

pub not_sole : (index : List ℕ) (before : ℕ) (ms : List (Bor (List ℕ) × Lent)) → (length ms ≡ 1 → ⊥)
    → refuse MALFORMED_ACTION [] ≡ action_value_at index before (object (members_view ms))
unfolding action_value_at object_at sole_at
not_sole index before [] other = refl
not_sole index before (m ∷ []) other = absurd (other refl)
not_sole index before (m ∷ n ∷ ms) other = refl
