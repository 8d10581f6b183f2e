-- What holds of a breaker state after every list of moves.
-- Elasticsearch Reference 8, 'Circuit breaker settings': what is granted never passes a limit.
use Rattle.std.specs.Prelude.{◌≡◌, ◌⊎◌, ℕ, ◌+◌, ◌<◌, ◌≤◌}
use Rattle.std.specs.List.{sum_by}
use mathlib.Core.Option.{some}
use lib.ListN.{get_elem?}
use Rattle.agg_model.specs.declared.breaker.Limits.{Limits}
use Rattle.agg_model.specs.declared.breaker.Which.{Which}
use Rattle.agg_model.specs.declared.breaker.Which.TheVariants.{Request, Fielddata, Inflight, Parent}
use Rattle.breaker_words.specs.declared.view.View.{View}
use Rattle.agg_model.specs.Breakers.{which_of, limit_of}
use Rattle.breaker_words.specs.Accounts.{children_in}
use Rattle.breaker_words.specs.Breakers.{counter_value}
use Rattle.breaker_words.specs.Views.{hold_of, granted_of, trips_of, most_of, seen_of, spent_view}
use Rattle.breaker_words.specs.Trials.{HasAmount, child_standing, child_only, standing_of, in_force_of}
use Rattle.breaker_words.specs.Moves.{BreakerState}

-- what holds of each pass by itself
pub record IsConsistent (v : View) : Type 0 where
  pub asked : HasAmount v.trial v.amount
  pub room : children_in v.accounts + child_standing v.trial v.amount ≤ v.cap
  -- the parent's hold is the sum of the children's, less what is just being given back
  pub even : v.accounts.parent.hold + child_only v.trial v.amount ≡ children_in v.accounts
  pub held : child_only v.trial v.amount ≤ hold_of v (which_of v.child)
  pub low : (x : Which) → standing_of v x ≤ most_of v x
  pub high : (x : Which) → most_of v x ≤ v.cap

-- what holds of each pass under the ceiling t
pub record FitsCeiling (t : ℕ) (v : View) : Type 0 where
  pub living : (1 ≤ v.total) ⊎ (v ≡ spent_view)
  pub kept : 0 < v.cap → v.total ≡ t
  pub own : IsConsistent v

pub record IsSound (l : Limits) (s : BreakerState) : Type 0 where
  -- each word is the sum of what the passes have standing there
  pub level : (x : Which) → s.word_of x ≡ sum_by (λ v. standing_of v x) s.passes
  -- what is granted at a breaker, all passes together, is at most its limit
  pub within : (x : Which) → sum_by (λ v. in_force_of v x) s.passes ≤ limit_of l x
  pub caps : sum_by (λ (v : View). v.cap) s.passes ≡ s.ceiling
  pub low : 1 ≤ s.ceiling
  pub high : s.ceiling ≤ 9223372036854775808
  pub each : (i : ℕ) (v : View) → get_elem? s.passes i ≡ some v → FitsCeiling s.ceiling v
  -- no trial saw a total above what the passes had standing at most
  pub told : (i : ℕ) (v : View) → get_elem? s.passes i ≡ some v → 0 < v.cap → (x : Which) → seen_of v x ≤ sum_by (λ u. most_of u x) s.passes

-- a word as the pass may find it: at least what it has standing there, and at most the others' caps above that
abbrev pub IsNear : View → Which → ℕ → Type 0
IsNear v x n = (standing_of v x ≤ n) × (0 < v.cap → n + v.cap ≤ standing_of v x + v.total)

-- what a pass holds at a breaker is within its limit, and its counters are not above where they stop
pub record IsBounded (l : Limits) (v : View) : Type 0 where
  pub holds : (x : Which) → hold_of v x ≤ limit_of l x
  pub granted : (x : Which) → granted_of v x ≤ 18446744073709551615
  pub trips : (x : Which) → trips_of v x ≤ 18446744073709551615
  -- each charge counts at the parent too
  pub together : granted_of v Parent ≡ counter_value (granted_of v Request + granted_of v Fielddata + granted_of v Inflight)
