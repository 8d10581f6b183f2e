-- The three ends of a reduction (Elasticsearch Reference 8, 'Circuit breaker settings': the request circuit breaker).
use Rattle.std.specs.Prelude.{◌≡◌, ℕ, ⊤, Result, Ok, Err}
use Rattle.agg_model.specs.declared.breaker.Tripped.{Tripped}
use Rattle.agg_model.specs.declared.partial.Partial.{Partial}
use Rattle.agg_evaluation.specs.Cost.{cost}
use Rattle.batch_reduce.specs.declared.reducing.ReduceEnd.{ReduceEnd}
use Rattle.batch_reduce.specs.declared.reducing.ReduceEnd.TheVariants.{Done, Refused, Memory}

abbrev pub IfDone : ReduceEnd → (Partial → Type 0) → Type 0
IfDone (Done p) P = P p
IfDone (Refused t) P = ⊤
IfDone Memory P = ⊤

abbrev pub IfRefused : ReduceEnd → (Tripped → Type 0) → Type 0
IfRefused (Done p) P = ⊤
IfRefused (Refused t) P = P t
IfRefused Memory P = ⊤

abbrev pub IfMemory : ReduceEnd → Type 0 → Type 0
IfMemory (Done p) P = ⊤
IfMemory (Refused t) P = ⊤
IfMemory Memory P = P

abbrev pub IsNotRefused : ReduceEnd → Type 0
IsNotRefused (Done p) = ⊤
IsNotRefused (Refused t) = ⊥
IsNotRefused Memory = ⊤

-- what is held for the end: the cost of what was merged
abbrev pub cost_of_end : ReduceEnd → ℕ
cost_of_end (Done p) = cost p
cost_of_end (Refused t) = 0
cost_of_end Memory = 0

-- refused exactly where the charge was, with its numbers
abbrev pub FollowsCharge : Result (Unit {0}) Tripped → ReduceEnd → Type 0
FollowsCharge (Ok done) end = IsNotRefused end
FollowsCharge (Err t) end = end ≡ Refused t
