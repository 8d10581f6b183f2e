-- The results of a pool, each with its pass.
use Rattle.std.specs.Prelude.{List, map}
use Rattle.std.specs.List.{AllByRecursion}
use Rattle.arrival_table.specs.declared.table.Merged.{Merged}
use Rattle.breaker_words.specs.Passes.{PassModel}
use Rattle.breaker_words.specs.declared.view.View.{View}
use Rattle.pool_results.specs.Carried.{IsCarried}
use Rattle.pool_results.specs.Pools.{Pool}
use Rattle.pool_results.specs.declared.work.Work.{Work}

-- what became of some tasks, and the pass that holds what that costs
pub record Result : Type 0 where
  pub work : Work
  pub pass : PassModel

abbrev pub works_in : List Result → List Work
works_in rs = map (λ (r : Result). r.work) rs

abbrev pub views_in : List Result → List View
views_in rs = map (λ (r : Result). r.pass.view) rs

-- all that is promised of results holds of them
abbrev pub AreCarried : Pool → List Result → Type 0
AreCarried p rs = AllByRecursion (λ (r : Result). IsCarried p r.work r.pass) rs

-- merged results, by what each is
abbrev pub results_of : {R : Type 0} → List (Merged R) → (R → Result) → List Result
results_of ms f = map (λ m. f m.result) ms
