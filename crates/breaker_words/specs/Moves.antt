-- The breaker state of all passes together, and the ten moves on it.
-- Elasticsearch Reference 8, 'Circuit breaker settings', 'Parent circuit breaker', for callers that take turns step by step.
use Rattle.std.specs.Prelude.{ℕ, ◌+◌, ◌-◌, Bool, not, ◌&&◌, ◌==◌, nat_le, if◌then◌else◌, List, [], ◌∷◌, ◌++◌, fold, slice_set}
use mathlib.Core.Option.{Option, none, some}
use lib.ListN.{get_elem?}
use Rattle.agg_model.specs.declared.breaker.Limits.{Limits}
use Rattle.agg_model.specs.declared.breaker.Child.{Child}
use Rattle.agg_model.specs.declared.breaker.Which.{Which}
use Rattle.agg_model.specs.declared.breaker.Which.TheVariants.{Parent}
use Rattle.breaker_words.specs.declared.view.View.{View}
use Rattle.breaker_words.specs.Breakers.{amount_at}
use Rattle.agg_model.specs.Breakers.{which_of}
use Rattle.breaker_words.specs.Views.{hold_of, first_view, spent_view}
use Rattle.breaker_words.specs.Trials.{is_rest, is_child_granted, is_returning, is_parent_refused, is_given}
use Rattle.breaker_words.specs.AfterStep.{after_set_ceiling, after_split, split_off, after_join, after_try_child, after_take_back_child, after_try_parent, after_take_back_parent, after_give_parent, after_give_child}

pub record BreakerState : Type 0 where
  pub word_of : Which → ℕ
  pub ceiling : ℕ
  pub passes : List View

abbrev pub opened : Limits → BreakerState
opened l = record { word_of = λ _. 0; ceiling = 1; passes = first_view l ∷ [] }

-- each names its pass by its place in the list, then its arguments
pub data Move : Type 0 where
  look : ℕ → Which → Move
  set_ceiling : ℕ → ℕ → Move
  split : ℕ → ℕ → Move
  join : ℕ → ℕ → Move
  try_child : ℕ → Child → ℕ → Move
  take_back_child : ℕ → Move
  try_parent : ℕ → Move
  take_back_parent : ℕ → Move
  give_parent : ℕ → Child → ℕ → Move
  give_child : ℕ → Move

-- what the pass i makes of the state, where there is such a pass and it may
abbrev pub move_some : BreakerState → (View → Bool) → (View → BreakerState) → Option View → BreakerState
move_some s may act none = s
move_some s may act (some v) = if may v then act v else s

abbrev pub move_pass : BreakerState → ℕ → (View → Bool) → (View → BreakerState) → BreakerState
move_pass s i may act = move_some s may act (get_elem? s.passes i)

-- a is added to the word of w, and the pass i knows v
abbrev pub with_word_raised : BreakerState → ℕ → Which → ℕ → View → BreakerState
with_word_raised s i w a v = record { word_of = λ x. s.word_of x + amount_at w a x; ceiling = s.ceiling; passes = slice_set s.passes i v }

-- a is taken from the word of w, and the pass i knows v
abbrev pub with_word_lowered : BreakerState → ℕ → Which → ℕ → View → BreakerState
with_word_lowered s i w a v = record { word_of = λ x. s.word_of x - amount_at w a x; ceiling = s.ceiling; passes = slice_set s.passes i v }

-- from here on: when a pass may make a move; a spent pass, whose total is 0, may make none
-- the pass has the whole cap, and the new ceiling is from its hold and 1 to 2^63
abbrev pub may_set_ceiling : ℕ → View → Bool
may_set_ceiling t v = is_rest v.trial && nat_le 1 v.total && v.cap == v.total && nat_le 1 t && nat_le v.accounts.parent.hold t && nat_le t 9223372036854775808

-- the cap has room for k above what the pass had standing at most
abbrev pub has_room : ℕ → View → Bool
has_room k v = nat_le (v.accounts.request.most + k) v.cap && nat_le (v.accounts.fielddata.most + k) v.cap && nat_le (v.accounts.inflight.most + k) v.cap && nat_le (v.accounts.parent.most + k) v.cap

abbrev pub may_split : ℕ → View → Bool
may_split k v = is_rest v.trial && nat_le 1 v.total && has_room k v

abbrev pub may_join : View → Bool
may_join v = is_rest v.trial && nat_le 1 v.total

abbrev pub may_try_child : ℕ → View → Bool
may_try_child a v = is_rest v.trial && nat_le 1 a && nat_le (v.accounts.parent.hold + a) v.cap

abbrev pub may_give_parent : Child → ℕ → View → Bool
may_give_parent c a v = is_rest v.trial && nat_le 1 a && nat_le a (hold_of v (which_of c))

-- a move that may not be made leaves the state as it is
abbrev pub move : Limits → BreakerState → Move → BreakerState
move l s (look i w) = s
move l s (set_ceiling i t) = move_pass s i (may_set_ceiling t) (λ v. record { word_of = s.word_of; ceiling = t; passes = slice_set s.passes i (after_set_ceiling v t) })
move l s (split i k) = move_pass s i (may_split k) (λ v. record { word_of = s.word_of; ceiling = s.ceiling; passes = slice_set s.passes i (after_split v k) ++ split_off v k ∷ [] })
move l s (join i j) = move_pass s i (λ v. may_join v && not (i == j))
    (λ v. move_pass s j may_join (λ w. record { word_of = s.word_of; ceiling = s.ceiling; passes = slice_set (slice_set s.passes i (after_join v w)) j spent_view }))
move l s (try_child i c a) = move_pass s i (may_try_child a) (λ v. with_word_raised s i (which_of c) a (after_try_child l v c a (s.word_of (which_of c) + a)))
move l s (take_back_child i) = move_pass s i (λ v. is_returning v.trial) (λ v. with_word_lowered s i (which_of v.child) v.amount (after_take_back_child v))
move l s (try_parent i) = move_pass s i (λ v. is_child_granted v.trial) (λ v. with_word_raised s i Parent v.amount (after_try_parent l v (s.word_of Parent + v.amount)))
move l s (take_back_parent i) = move_pass s i (λ v. is_parent_refused v.trial) (λ v. with_word_lowered s i Parent v.amount (after_take_back_parent v))
move l s (give_parent i c a) = move_pass s i (may_give_parent c a) (λ v. with_word_lowered s i Parent a (after_give_parent v c a))
move l s (give_child i) = move_pass s i (λ v. is_given v.trial) (λ v. with_word_lowered s i (which_of v.child) v.amount (after_give_child v))

-- the state after a list of moves from the opening
abbrev pub run : Limits → List Move → BreakerState
run l ms = fold (move l) (opened l) ms
