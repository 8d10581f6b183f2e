-- A charge or a return between its steps: what it has standing in the words, and what of it is in force.
-- Elasticsearch Reference 8, 'Circuit breaker settings', 'Parent circuit breaker', step by step.
use Rattle.std.specs.Prelude.{ℕ, ◌+◌, ◌≤◌, Bool, true, false}
use Rattle.agg_model.specs.declared.breaker.Which.{Which}
use Rattle.agg_model.specs.declared.breaker.Which.TheVariants.{Parent}
use Rattle.breaker_words.specs.declared.trial.Trial.{Trial}
use Rattle.breaker_words.specs.declared.trial.Trial.TheVariants.{Rest, ChildRefused, ChildGranted, ParentRefused, ChildReturning, ParentGiven}
use Rattle.breaker_words.specs.declared.view.View.{View}
use Rattle.breaker_words.specs.Breakers.{amount_at}
use Rattle.agg_model.specs.Breakers.{which_of}
use Rattle.breaker_words.specs.Views.{hold_of}

-- what a trial of a has standing in the child's word, beside the hold
abbrev pub child_standing : Trial → ℕ → ℕ
child_standing Rest a = 0
child_standing ChildRefused a = a
child_standing ChildGranted a = a
child_standing ParentRefused a = a
child_standing ChildReturning a = a
child_standing ParentGiven a = 0

-- how much of that the child has let pass, so that it counts under the child's limit
abbrev pub child_in_force : Trial → ℕ → ℕ
child_in_force Rest a = 0
child_in_force ChildRefused a = 0
child_in_force ChildGranted a = a
child_in_force ParentRefused a = a
child_in_force ChildReturning a = a
child_in_force ParentGiven a = 0

-- what a trial of a has standing in the parent's word
abbrev pub parent_standing : Trial → ℕ → ℕ
parent_standing ParentRefused a = a
parent_standing _ a = 0

-- what the child still holds and the parent no longer does
abbrev pub child_only : Trial → ℕ → ℕ
child_only ParentGiven a = a
child_only _ a = 0

-- all that a pass has standing in a breaker's word
abbrev pub standing_of : View → Which → ℕ
standing_of v x = hold_of v x + amount_at (which_of v.child) (child_standing v.trial v.amount) x + amount_at Parent (parent_standing v.trial v.amount) x

-- what of it is granted there
abbrev pub in_force_of : View → Which → ℕ
in_force_of v x = hold_of v x + amount_at (which_of v.child) (child_in_force v.trial v.amount) x

-- in every trial but Rest the amount is at least 1
abbrev pub HasAmount : Trial → ℕ → Type 0
HasAmount Rest a = Unit {0}
HasAmount _ a = 1 ≤ a

abbrev pub is_rest : Trial → Bool
is_rest Rest = true
is_rest _ = false

abbrev pub is_child_refused : Trial → Bool
is_child_refused ChildRefused = true
is_child_refused _ = false

abbrev pub is_child_granted : Trial → Bool
is_child_granted ChildGranted = true
is_child_granted _ = false

-- the child's charge is to be taken back
abbrev pub is_returning : Trial → Bool
is_returning ChildRefused = true
is_returning ChildReturning = true
is_returning _ = false

abbrev pub is_parent_refused : Trial → Bool
is_parent_refused ParentRefused = true
is_parent_refused _ = false

abbrev pub is_given : Trial → Bool
is_given ParentGiven = true
is_given _ = false
