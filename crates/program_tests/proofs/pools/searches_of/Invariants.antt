use Rattle.std.specs.Prelude.{IsTrue}
use Rattle.std.specs.List.{list_all}
use Rattle.agg_evaluation.specs.SearchFits.{search_fits}
use Rattle.program_tests.proofs.pools.searches_of.Given as goal

abbrev pub invariant-loop-body : goal.invariant-loop-body
invariant-loop-body l = IsTrue (list_all (search_fits l.index.mapping) l.searches)
