-- Room for tasks in a pass that holds columns.
use Rattle.std.specs.Prelude.{◌≡◌, refl, ℕ, ◌+◌, ◌^◌, ◌≤◌}
use Rattle.std.proofs.Common.{arith}
use Rattle.agg_model.specs.declared.breaker.Which.{Which}
use Rattle.agg_model.specs.declared.breaker.Which.TheVariants.{Request, Fielddata, Inflight, Parent}
use Rattle.breaker_words.specs.AfterStep.{after_set_ceiling}
use Rattle.breaker_words.specs.Views.{hold_of, most_of}
use Rattle.breaker_words.specs.declared.view.View.{View}

-- where a ceiling was set, the most that the pass had standing is what it holds
pub most-is-hold : (v : View) (t : ℕ) (x : Which) → most_of (after_set_ceiling v t) x ≡ hold_of v x
most-is-hold v t Request = refl
most-is-hold v t Fielddata = refl
most-is-hold v t Inflight = refl
most-is-hold v t Parent = refl

pub room-left : (v : View) (bytes : ℕ) (x : Which) → hold_of v x ≤ 2 ^ 54 → bytes ≤ 2305843009213693952 → most_of (after_set_ceiling v 4611686018427387904) x + bytes ≤ 4611686018427387904
room-left v bytes x low few = omega (arith, most-is-hold v 4611686018427387904 x, low, few)
