-- How a task ends that asks first for an answer that was kept ('Shard request cache'; 'Circuit breaker settings': the request circuit
-- breaker).
use Rattle.std.specs.Prelude.{◌≡◌, ◌⊎◌, ◌≤◌, ℕ, ◌==◌, Bool, true, false, List, take}
use Rattle.agg_evaluation.specs.Cost.{cost}
use Rattle.agg_evaluation.specs.Rows.{PlacedRow}
use Rattle.agg_evaluation.specs.Shard.{shard_answer}
use Rattle.agg_evaluation.specs.Trace.{trace}
use Rattle.agg_model.specs.declared.aggregation.Search.{Search}
use Rattle.agg_model.specs.declared.breaker.Child.TheVariants.{Request}
use Rattle.agg_model.specs.declared.breaker.Limits.{Limits}
use Rattle.agg_model.specs.declared.breaker.Tripped.{Tripped}
use Rattle.breaker_tree.specs.Charge.{IsCharged, IsTripped}
use Rattle.breaker_words.specs.declared.view.View.{View}
use Rattle.growth_laws.specs.Amounts.{amounts}
use Rattle.task_charges.specs.Ended.{IsDone, IsGivenUp, IsRefused}

-- so many bytes were charged at request, where 0 bytes are no charge
abbrev pub ChargesAtOnce : Bool → Limits → View → ℕ → View → Type 0
ChargesAtOnce true l v bytes u = u ≡ v
ChargesAtOnce false l v bytes u = IsCharged l v Request bytes u

module _ (l : Limits) (v u : View) (search : Search) (all : List PlacedRow) where
  -- a kept answer charged its cost at once, and any other as its task does
  abbrev pub IsTaskDone : Bool → Type 0
  IsTaskDone true = let bytes = cost (shard_answer search all) in ChargesAtOnce (bytes == 0) l v bytes u
  IsTaskDone false = IsDone l v u search all

  -- the one charge of a kept answer was refused, or one of the task
  abbrev pub IsTaskRefused : Bool → Tripped → Type 0
  IsTaskRefused true t = let bytes = cost (shard_answer search all) in (1 ≤ bytes) × IsTripped l v Request bytes t u
  IsTaskRefused false t = IsRefused l v u (trace search all) t

-- memory ran out: before the first charge, after some of the task's amounts, or where its answer was to be kept, and all that it held
-- is given back
abbrev pub GivesUp : View → View → Search → List PlacedRow → Type 0
GivesUp v u search all = (u ≡ v) ⊎ ((n : ℕ) × IsGivenUp v u (take n (amounts search all)))
