-- The three ends of a task (Elasticsearch Reference 8, 'Circuit breaker settings': the request circuit breaker).
use Rattle.std.specs.Prelude.{⊤}
use Rattle.agg_model.specs.declared.breaker.Tripped.{Tripped}
use Rattle.agg_model.specs.declared.partial.Partial.{Partial}
use Rattle.collect_tree.specs.declared.ending.TaskEnd.{TaskEnd}
use Rattle.collect_tree.specs.declared.ending.TaskEnd.TheVariants.{Done, Refused, Memory}

abbrev pub IfDone : TaskEnd → (Partial → Type 0) → Type 0
IfDone (Done p) P = P p
IfDone (Refused t) P = ⊤
IfDone Memory P = ⊤

abbrev pub IfRefused : TaskEnd → (Tripped → Type 0) → Type 0
IfRefused (Done p) P = ⊤
IfRefused (Refused t) P = P t
IfRefused Memory P = ⊤

abbrev pub IfMemory : TaskEnd → Type 0 → Type 0
IfMemory (Done p) P = ⊤
IfMemory (Refused t) P = ⊤
IfMemory Memory P = P
