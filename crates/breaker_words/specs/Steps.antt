-- The rule that the words keep between any two atomic steps, and what each step tells its pass.
use Rattle.std.specs.Prelude.{◌≡◌, ℕ, ◌+◌, ◌<◌, ◌≤◌, List, []}
use Rattle.atomic_table.specs.Table.{Me, Step}
use Rattle.agg_model.specs.declared.breaker.Limits.{Limits}
use Rattle.agg_model.specs.declared.breaker.Child.{Child}
use Rattle.agg_model.specs.declared.breaker.Which.{Which}
use Rattle.agg_model.specs.declared.breaker.Which.TheVariants.{Parent}
use Rattle.breaker_words.specs.declared.view.View.{View}
use Rattle.breaker_words.specs.Breakers.{place}
use Rattle.agg_model.specs.Breakers.{which_of}
use Rattle.breaker_words.specs.Views.{most_of, seen_of}
use Rattle.breaker_words.specs.AfterStep.{after_set_ceiling, after_try_child, after_take_back_child, after_try_parent, after_take_back_parent, after_give_parent, after_give_child}
use Rattle.breaker_words.specs.Moves.{Move, run}
use Rattle.breaker_words.specs.Atomic.{Running, IsStateOf}
use Rattle.breaker_words.specs.Soundness.{IsNear, IsBounded}

-- the rule: some list of moves from the opening makes them
abbrev pub IsReached : Limits → Running → Type 0
IsReached l s = (ms : List Move) × IsStateOf (run l ms) s

-- of a step, what the pass knew, the word that was found, and what the pass knows after it
abbrev pub StepTells : Type 1
StepTells = Step (Unit {0}) → Me (Unit {0}) View → ℕ → Me (Unit {0}) View → Type 0

abbrev pub TriesChild : StepTells
TriesChild s v n w = (c : Child) → s.word ≡ place (which_of c) → (w ≡ (after_try_child v.0.limits v.0 c s.first (n + s.first), [])) × IsNear v.0 (which_of c) n × IsBounded v.0.limits v.0

abbrev pub TakesBackChild : StepTells
TakesBackChild s v n w = w ≡ (after_take_back_child v.0, [])

abbrev pub TriesParent : StepTells
TriesParent s v n w = (w ≡ (after_try_parent v.0.limits v.0 (n + s.first), [])) × IsNear v.0 Parent n

abbrev pub TakesBackParent : StepTells
TakesBackParent s v n w = w ≡ (after_take_back_parent v.0, [])

abbrev pub GivesParent : Child → StepTells
GivesParent c s v n w = w ≡ (after_give_parent v.0 c s.first, [])

abbrev pub GivesChild : StepTells
GivesChild s v n w = w ≡ (after_give_child v.0, [])

abbrev pub SetsCeiling : StepTells
SetsCeiling s v n w = w ≡ (after_set_ceiling v.0 s.first, [])

-- nothing changes; with the whole cap no trial of this pass saw more than it had standing itself
abbrev pub Looks : StepTells
Looks s v n w =
    (w ≡ v)
    × (v.0.cap ≤ v.0.total)
    × ((x : Which) → s.word ≡ place x → IsNear v.0 x n)
    × (v.0.cap ≡ v.0.total → 0 < v.0.cap → (x : Which) → seen_of v.0 x ≤ most_of v.0 x)
    × IsBounded v.0.limits v.0
