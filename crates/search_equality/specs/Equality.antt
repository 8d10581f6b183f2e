-- Whether two searches are equal: they ask for the same query and the same aggregations, with defaults filled in and values read.
use Rattle.std.specs.Prelude.{Bool}
use Rattle.agg_model.specs.contracts.aggregation.SearchPartialEq.TheImpl as derived
use Rattle.agg_model.specs.declared.aggregation.Search.{Search}

-- the test of the type, which looks at each of its parts
abbrev pub equal_searches : Search → Search → Bool
equal_searches = (derived.ghosts).eq
