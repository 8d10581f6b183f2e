-- What a task makes of its pass from some roots to more of them, whatever the pass with which it began (Elasticsearch Reference
-- 8, 'Circuit breaker settings': the request circuit breaker).
use Rattle.std.specs.Prelude.{ℕ, ℤ, ◌+◌, List, take}
use Rattle.agg_model.specs.declared.breaker.Limits.{Limits}
use Rattle.breaker_words.specs.declared.view.View.{View}
use Rattle.task_charges.specs.Charged.{HasPaid}
use Rattle.task_charges.specs.Ended.{IsGivenUp, IsRefused}
use Rattle.collect_tree.specs.declared.ending.Stop.{Stop}
use Rattle.collect_tree.specs.declared.ending.Stop.TheVariants.{Refused, Memory}

-- one of the amounts was refused, or the task gave up after some of them
abbrev pub IsStopped : Limits → View → View → List ℤ → Stop → Type 0
IsStopped l v u ns (Refused t) = IsRefused l v u ns t
IsStopped l v u ns Memory = (n : ℕ) × IsGivenUp v u (take n ns)

-- the amounts for the trees of m roots are paid, where those for the trees of n were
abbrev pub PaysOn : Limits → List ℤ → ℕ → ℕ → View → View → Type 0
PaysOn l ns n m old new = (v : View) → HasPaid l v old (take (n + 1) ns) → HasPaid l v new (take (m + 1) ns)

-- the task has stopped, where the amounts for the trees of n roots were paid
abbrev pub StopsFrom : Limits → List ℤ → ℕ → View → View → Stop → Type 0
StopsFrom l ns n old new stop = (v : View) → HasPaid l v old (take (n + 1) ns) → IsStopped l v new ns stop
