-- What a charge and a return make of a pass, and what a charge answers.
-- Elasticsearch Reference 8, 'Circuit breaker settings', 'Parent circuit breaker'.
use Rattle.std.specs.Prelude.{◌≡◌, ◌≢◌, ◌⊎◌, ℕ, ◌+◌, ◌<◌, ◌≤◌, max, nat_le, if◌then◌else◌, Result, Ok, Err}
use Rattle.agg_model.specs.declared.breaker.Limits.{Limits}
use Rattle.agg_model.specs.declared.breaker.Child.{Child}
use Rattle.agg_model.specs.declared.breaker.Which.{Which}
use Rattle.agg_model.specs.declared.breaker.Which.TheVariants.{Parent}
use Rattle.agg_model.specs.declared.breaker.Tripped.{Tripped}
use Rattle.breaker_words.specs.declared.trial.Trial.TheVariants.{Rest}
use Rattle.breaker_words.specs.declared.view.View.{View}
use Rattle.breaker_words.specs.Accounts.{account}
use Rattle.breaker_words.specs.Breakers.{amount_at, counter_value}
use Rattle.agg_model.specs.Breakers.{which_of, limit_of}
use Rattle.breaker_words.specs.Views.{hold_of, granted_of, trips_of, most_of, seen_of}

-- the pass is at rest again, with the same cap under the same ceiling
pub record IsAtRestAgain (v u : View) : Type 0 where
  pub limits : u.limits ≡ v.limits
  pub cap : u.cap ≡ v.cap
  pub total : u.total ≡ v.total
  pub rest : u.trial ≡ Rest

-- a charge of a at the child c was refused: v is the pass before it, u after it
pub record IsTripped (l : Limits) (v : View) (c : Child) (a : ℕ) (t : Tripped) (u : View) : Type 0 where
  pub same : IsAtRestAgain v u
  -- the child refused, or the parent did and the child has room for what the pass wanted to hold there
  pub refused_by : (t.which ≡ which_of c) ⊎ ((t.which ≡ Parent) × (hold_of v (which_of c) + a ≤ limit_of l (which_of c)))
  pub limit : t.limit ≡ limit_of l t.which
  pub above : t.limit < t.wanted
  -- the pass's own hold and the amount, and at most the other passes' caps beside them
  pub least : hold_of v t.which + a ≤ t.wanted
  pub bounded : t.wanted + v.cap ≤ hold_of v t.which + a + v.total
  pub holds : (x : Which) → hold_of u x ≡ hold_of v x
  pub granted : (x : Which) → granted_of u x ≡ granted_of v x
  pub trip : trips_of u t.which ≡ counter_value (trips_of v t.which + 1)
  pub trips : (x : Which) → x ≢ t.which → trips_of u x ≡ trips_of v x
  pub most : (x : Which) → most_of u x ≤ max (most_of v x) (hold_of v x + a)
  pub seen : (x : Which) → seen_of v x ≤ seen_of u x
  pub seen_there : t.wanted ≤ seen_of u t.which
  -- the breakers at which no step was made are as they were
  pub untouched : (x : Which) → x ≢ which_of c → x ≢ Parent → account u.accounts x ≡ account v.accounts x
  pub untouched_parent : t.which ≢ Parent → u.accounts.parent ≡ v.accounts.parent

-- a charge of a at the child c was granted by the child and the parent
pub record IsCharged (l : Limits) (v : View) (c : Child) (a : ℕ) (u : View) : Type 0 where
  pub same : IsAtRestAgain v u
  pub holds : (x : Which) → hold_of u x ≡ hold_of v x + amount_at Parent a x + amount_at (which_of c) a x
  pub granted_child : granted_of u (which_of c) ≡ counter_value (granted_of v (which_of c) + a)
  pub granted_parent : granted_of u Parent ≡ counter_value (granted_of v Parent + a)
  pub granted : (x : Which) → x ≢ which_of c → x ≢ Parent → granted_of u x ≡ granted_of v x
  pub within_child : hold_of v (which_of c) + a ≤ limit_of l (which_of c)
  pub within_parent : hold_of v Parent + a ≤ l.parent
  pub trips : (x : Which) → trips_of u x ≡ trips_of v x
  pub most : (x : Which) → most_of u x ≤ max (most_of v x) (hold_of v x + a)
  pub seen : (x : Which) → seen_of v x ≤ seen_of u x
  -- neither saw a total above its limit
  pub seen_child : seen_of u (which_of c) ≤ max (seen_of v (which_of c)) (limit_of l (which_of c))
  pub seen_parent : seen_of u Parent ≤ max (seen_of v Parent) l.parent
  pub untouched : (x : Which) → x ≢ which_of c → x ≢ Parent → account u.accounts x ≡ account v.accounts x

-- an amount of a was given back at the child c and at the parent
pub record IsGivenBack (v : View) (c : Child) (a : ℕ) (u : View) : Type 0 where
  pub same : IsAtRestAgain v u
  pub holds : (x : Which) → hold_of u x + amount_at Parent a x + amount_at (which_of c) a x ≡ hold_of v x
  pub granted : (x : Which) → granted_of u x ≡ granted_of v x
  pub trips : (x : Which) → trips_of u x ≡ trips_of v x
  pub most : (x : Which) → most_of u x ≡ most_of v x
  pub seen : (x : Which) → seen_of u x ≡ seen_of v x

abbrev pub refusal : Limits → Which → ℕ → Tripped
refusal l x n = record { which = x; wanted = n; limit = limit_of l x }

-- what a charge answers a pass that has the whole cap: nothing but its own holds decides
abbrev pub answer_alone : Limits → View → Child → ℕ → Result (Unit {0}) Tripped
answer_alone l v c a =
    if nat_le (hold_of v (which_of c) + a) (limit_of l (which_of c))
    then (if nat_le (hold_of v Parent + a) l.parent then Ok tt else Err (refusal l Parent (hold_of v Parent + a)))
    else Err (refusal l (which_of c) (hold_of v (which_of c) + a))
