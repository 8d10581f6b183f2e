-- What prepared filters give a row (Elasticsearch Reference 8, 'Filters aggregation').
use Rattle.std.specs.Prelude.{◌≡◌, ℕ, ℤ, pos, negsuc, ◌≤◌, true, List, length, map}
use Rattle.std.specs.List.{list_all}
use Rattle.agg_model.specs.declared.key.Key.{Key}
use Rattle.agg_model.specs.declared.key.Key.TheVariants.{Fixed}
use Rattle.agg_model.specs.declared.limits.TheConstants.{MAX_FILTERS}
use Rattle.agg_model.specs.declared.aggregation.Kind.{Kind}
use Rattle.agg_evaluation.specs.Keys.{keys}
use Rattle.agg_evaluation.specs.Rows.{PlacedRow, row_of}
use Rattle.column_query.specs.Prepared.{says, reads_below}
use Rattle.shard_columns.specs.Columns.{Columns}
use Rattle.filters_agg.specs.Filtering.{IsFiltering}
use Rattle.filters_agg.specs.Numbers.{numbers_where}
use Rattle.filters_agg.specs.declared.prepared_filters.PreparedFilters.{PreparedFilters}

-- the numbers of the buckets into which prepared filters put a row of the shard
abbrev pub numbers_of_row : List PlacedRow → PreparedFilters → PlacedRow → List ℕ
numbers_of_row all p row = numbers_where p.has_other (map (λ q. says all q row) p.filters)

-- the key of the bucket that has this number
abbrev pub key_of : ℤ → Key
key_of (pos n) = Fixed n
key_of (negsuc n) = Fixed 0

-- the prepared filters give each row of the shard its keys, and read fields of the shard alone
pub record IsReady (shard : Columns) (kind : Kind) (p : PreparedFilters) : Type 0 where
  pub filtering : IsFiltering kind
  pub fields : list_all (reads_below (length shard.kinds)) p.filters ≡ true
  pub few : length p.filters ≤ MAX_FILTERS
  pub same : (n : ℕ) → map Fixed (numbers_of_row shard.rows p (row_of shard.rows n)) ≡ keys shard.rows kind (row_of shard.rows n)
