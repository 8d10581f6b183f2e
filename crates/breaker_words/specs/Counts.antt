-- What a list of moves grants and refuses at each breaker.
-- Elasticsearch Reference 8, 'Circuit breaker settings': the statistics of a breaker.
use Rattle.std.specs.Prelude.{ℕ, ◌+◌, Bool, nat_le, if◌then◌else◌, List, [], ◌∷◌}
use mathlib.Core.Option.{Option, none, some}
use lib.ListN.{get_elem?}
use Rattle.agg_model.specs.declared.breaker.Limits.{Limits}
use Rattle.agg_model.specs.declared.breaker.Which.{Which}
use Rattle.agg_model.specs.declared.breaker.Which.TheVariants.{Parent}
use Rattle.breaker_words.specs.declared.trial.Trial.{Trial}
use Rattle.breaker_words.specs.declared.trial.Trial.TheVariants.{ChildRefused, ParentRefused}
use Rattle.breaker_words.specs.declared.view.View.{View}
use Rattle.breaker_words.specs.Breakers.{amount_at}
use Rattle.agg_model.specs.Breakers.{which_of, limit_of}
use Rattle.breaker_words.specs.Trials.{is_child_granted}
use Rattle.breaker_words.specs.Moves.{BreakerState, Move, try_child, try_parent, move, may_try_child}

-- the number of a pass that may make the move; 0 where there is none
abbrev pub value_where : (View → Bool) → (View → ℕ) → Option View → ℕ
value_where may f none = 0
value_where may f (some v) = if may v then f v else 0

-- the amount that a move grants at the breaker x: a charge is granted at its child and at the parent by one step, the parent's
abbrev pub amount_granted : Limits → BreakerState → Move → Which → ℕ
amount_granted l s (try_parent i) x = value_where (λ v. is_child_granted v.trial)
    (λ v. if nat_le (s.word_of Parent + v.amount) l.parent then amount_at Parent v.amount x + amount_at (which_of v.child) v.amount x else 0)
    (get_elem? s.passes i)
amount_granted l s _ x = 0

-- 1 where the move is refused at the breaker x, else 0
abbrev pub refusals : Limits → BreakerState → Move → Which → ℕ
refusals l s (try_child i c a) x = value_where (may_try_child a) (λ v. if nat_le (s.word_of (which_of c) + a) (limit_of l (which_of c)) then 0 else amount_at (which_of c) 1 x) (get_elem? s.passes i)
refusals l s (try_parent i) x = value_where (λ v. is_child_granted v.trial) (λ v. if nat_le (s.word_of Parent + v.amount) l.parent then 0 else amount_at Parent 1 x) (get_elem? s.passes i)
refusals l s _ x = 0

-- the sum of such a number over a list of moves, each from the state that the earlier ones leave
abbrev pub sum_over_moves : (Limits → BreakerState → Move → Which → ℕ) → Limits → BreakerState → List Move → Which → ℕ
sum_over_moves f l s [] x = 0
sum_over_moves f l s (m ∷ ms) x = f l s m x + sum_over_moves f l (move l s m) ms x

-- 1 where a trial that x refused is not yet taken back there, so that no trip counts it yet
abbrev pub untaken_refusals_in : Trial → Which → Which → ℕ
untaken_refusals_in ChildRefused w x = amount_at w 1 x
untaken_refusals_in ParentRefused w x = amount_at Parent 1 x
untaken_refusals_in _ w x = 0

abbrev pub untaken_refusals : View → Which → ℕ
untaken_refusals v x = untaken_refusals_in v.trial (which_of v.child) x
