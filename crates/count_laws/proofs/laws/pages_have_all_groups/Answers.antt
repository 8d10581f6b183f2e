use Rattle.std.specs.Prelude.{◌≡◌, true, T, List, [], ◌∷◌}
use Rattle.std.specs.List.{AllByRecursion}
use Rattle.agg_model.specs.declared.mapping.Mapping.{Mapping}
use Rattle.agg_model.specs.declared.aggregation.Search.{Search}
use Rattle.agg_evaluation.specs.SearchFits.{search_fits}
use Rattle.list_laws.proofs.Booleans.{holds}
use Rattle.count_laws.proofs.AllPages.{all-pages}
use Rattle.count_laws.proofs.laws.pages_have_all_groups.Goals as goal

all-hold : (m : Mapping) (pages : List Search) → AllByRecursion (λ page. search_fits m page ≡ true) pages → AllByRecursion (λ page. T (search_fits m page)) pages
all-hold m [] h = tt
all-hold m (page ∷ pages) h = (holds _ h.0, all-hold m pages h.1)

pub returns : goal.returns
returns c = λ m shards request pages a size fit scan alone sized. all-pages m shards size pages request a (all-hold m pages fit) scan alone sized
