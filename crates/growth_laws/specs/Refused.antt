-- The refusal of a task at a place among its amounts (Elasticsearch Reference 8, 'Circuit breaker settings': the request
-- circuit breaker and the parent circuit breaker).
use Rattle.std.specs.Prelude.{◌≡◌, ◌⊎◌, ℕ, ℤ, pos, ◌+ℤ◌, ◌≤ℤ◌, ◌<◌, ◌≤◌, List, Some, slice_get}
use Rattle.agg_model.specs.declared.breaker.Tripped.{Tripped}
use Rattle.agg_model.specs.declared.breaker.Which.{Which}
use Rattle.agg_model.specs.declared.breaker.Which.TheVariants.{Request, Parent}
use Rattle.agg_evaluation.specs.Trace.{sum_before}
use Rattle.growth_laws.specs.Amounts.{granted_before}

-- up to a place, a breaker that held so much at the start holds no more than its limit
abbrev pub StaysWithin : List ℤ → ℕ → ℕ → ℕ → Type 0
StaysWithin ns place hold limit = (n : ℕ) → n ≤ place → (pos hold +ℤ sum_before ns n) ≤ℤ pos limit

-- what a breaker that held so much at the start would hold with one more amount at a place
abbrev pub held_with : List ℤ → ℕ → ℕ → ℕ → ℤ
held_with ns place amount hold = pos hold +ℤ sum_before ns place +ℤ pos amount

-- A task was granted all of its amounts before a place, and the charge there was refused. `hold` is what each breaker held at
-- the start and `limit` its limit; `others` is the most that other tasks may hold beside this one.
pub record IsRefusedAt (ns : List ℤ) (hold limit : Which → ℕ) (others place granted : ℕ) (t : Tripped) : Type 0 where
  pub amount : ℕ
  pub here : slice_get ns place ≡ Some (pos amount)
  pub above_zero : 0 < amount
  pub granted_is : granted ≡ granted_before ns place
  pub request : StaysWithin ns place (hold Request) (limit Request)
  pub parent : StaysWithin ns place (hold Parent) (limit Parent)
  -- request refused, or the parent did and request has room for the amount
  pub refused_by : (t.which ≡ Request)
      ⊎ ((t.which ≡ Parent) × (held_with ns place amount (hold Request) ≤ℤ pos (limit Request)))
  pub limit_is : t.limit ≡ limit t.which
  pub above : t.limit < t.wanted
  -- the task's own hold with the amount, and at most what others may hold beside it
  pub least : held_with ns place amount (hold t.which) ≤ℤ pos t.wanted
  pub most : pos t.wanted ≤ℤ (held_with ns place amount (hold t.which) +ℤ pos others)
