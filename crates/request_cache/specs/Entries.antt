-- The entries of a cache, the most recently used first ('Shard request cache').
use Rattle.std.specs.Prelude.{◌≡◌, Bool, if◌then◌else◌, List, Contains, Option, Some, None}
use Rattle.std.specs.Map.{keys_of}
use Rattle.lru.specs.LruCache.{LruCache}
use Rattle.agg_evaluation.specs.Shard.{shard_answer}
use Rattle.cache_spec.specs.declared.shard_search.ShardSearch.{ShardSearch}
use Rattle.agg_model.specs.declared.partial.Partial.{Partial}
use Rattle.cache_spec.specs.Cache.{entries_after, is_kept, used}
use Rattle.agg_spec.specs.Index.{Index, rows_in}

-- what the shard of the entry answers to its search
abbrev pub answer_in : Index → ShardSearch → Partial
answer_in index e = shard_answer e.search (rows_in index e.shard)

-- each entry has the answer of its shard to its search
abbrev pub HoldsAnswers : Index → LruCache ShardSearch Partial → Type 0
HoldsAnswers index cache = (e : ShardSearch × Partial) → Contains cache.entries e → e.1 ≡ answer_in index e.0

module _ (cache : LruCache ShardSearch Partial) where
  abbrev pub entries_in : List ShardSearch
  entries_in = keys_of cache.entries

  -- whether an answer is kept
  abbrev pub has_entry : ShardSearch → Bool
  has_entry e = is_kept e entries_in

  -- an answer that is asked for is there or not
  abbrev pub found_in : Index → ShardSearch → Option Partial
  found_in index e = if has_entry e then Some (answer_in index e) else None

  -- an entry that was asked for comes to the front
  abbrev pub entries_found : ShardSearch → List ShardSearch
  entries_found e = if has_entry e then used e entries_in else entries_in

  -- an entry that is put stands in front
  abbrev pub entries_put : ShardSearch → List ShardSearch
  entries_put e = entries_after cache.cap (has_entry e) None e entries_in
