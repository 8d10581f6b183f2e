-- The tasks of some searches on the shards of an index: search by search, and shard by shard within each ('Search API').
use Rattle.std.specs.Prelude.{◌≤◌, ◌<◌, ℕ, ◌+◌, ◌*◌, false, List, [], length, slice_index, slice_index_or, unsigned_abs, IsTrue}
use Rattle.list_laws.specs.Among.{AreAmong}
use Rattle.agg_evaluation.specs.Cost.{cost}
use Rattle.agg_evaluation.specs.Shard.{shard_answer}
use Rattle.agg_evaluation.specs.Trace.{gross, peak}
use Rattle.agg_evaluation.specs.Trees.{numbers_fit}
use Rattle.agg_model.specs.declared.aggregation.Search.{Search}
use Rattle.agg_model.specs.declared.query.Query.TheVariants.{All}
use Rattle.agg_spec.specs.Index.{Index, rows_in}
use Rattle.agg_spec.specs.Outcome.{whole_of}
use Rattle.breaker_words.specs.Passes.{WordsModel}

-- the words that all charges go to, the index, the searches, and what the pass of each task may hold: its ceiling
pub record Pool : Type 0 where
  pub words : WordsModel
  pub index : Index
  pub searches : List Search
  pub ceilings : List ℕ

abbrev pub no_search : Search
no_search = record { query = All; aggs = []; body_bytes = 0; partial = false; pipes = [] }

abbrev pub no_pool : Pool
no_pool = record {
  words = record {
    table = record { words = 0; slots = 0; views_name = 0; atom = 0; block = 0; offset = 0; slot_names = [] };
    limits = record { request = 0; fielddata = 0; inflight = 0; parent = 0 };
  };
  index = record { name = []; mapping = record { fields = []; nested = []; objects = []; strict = false }; shards = [] };
  searches = [];
  ceilings = [];
}

module _ (p : Pool) where
  abbrev pub shard_count : ℕ
  shard_count = length p.index.shards

  -- the number of the task of the search q on the shard s
  abbrev pub task_number : ℕ → ℕ → ℕ
  task_number q s = q * shard_count + s

  -- there is such a task
  pub record IsTask (q s : ℕ) : Type 0 where
    pub search : q < length p.searches
    pub shard : s < shard_count

  abbrev pub search_at : ℕ → Search
  search_at q = slice_index_or p.searches q no_search

  abbrev pub ceiling_at : ℕ → ℕ → ℕ
  ceiling_at q s = slice_index p.ceilings (task_number q s)

  -- the most that the task holds, what it charges, and what its answer costs
  abbrev pub peak_at : ℕ → ℕ → ℕ
  peak_at q s = unsigned_abs (peak (search_at q) (rows_in p.index s))

  abbrev pub gross_at : ℕ → ℕ → ℕ
  gross_at q s = unsigned_abs (gross (search_at q) (rows_in p.index s))

  abbrev pub cost_at : ℕ → ℕ → ℕ
  cost_at q s = cost (shard_answer (search_at q) (rows_in p.index s))

  -- each pass may hold twice what its task's answer costs, and whatever shards a search's answers are added up of, their numbers
  -- fit
  pub record IsPool : Type 0 where
    pub some : (q s : ℕ) → IsTask q s → 1 ≤ ceiling_at q s
    pub answers : (q s : ℕ) → IsTask q s → 2 * cost_at q s ≤ ceiling_at q s
    pub fit : (q : ℕ) (shards : List ℕ) → q < length p.searches → AreAmong shard_count shards → IsTrue (numbers_fit (whole_of p.index (search_at q) shards))
