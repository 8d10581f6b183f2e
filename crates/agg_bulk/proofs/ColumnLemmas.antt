-- The bytes of the columns of an index: those of the definition, and far below 2^53.
use Rattle.std.proofs.Common.{◌≡◌, ◌∙◌, ◌+◌, ◌*◌, ◌/◌, ◌<◌, ◌≤◌, ◌^◌, ℕ, List, [], ◌∷◌, refl, ap, length, map, arith}
use Rattle.std.specs.Prelude.{sum}
use Rattle.std.specs.List.{range_with_len}
use Rattle.std.proofs.Math.Bool.{Bool-set}
use Rattle.std.proofs.Math.Logic.{∥∥₁_elim}
use Rattle.std.proofs.lemmas.Bool.{eqb-true, eq-eqb, le-leb, leb-true, lt-ltb, ltb-true}
use Rattle.std.proofs.lemmas.List.{length-map}
use Rattle.std.proofs.lemmas.List.FromFn.{length-range_with_len}
use Rattle.std.proofs.lemmas.List.Sums.{sum_by-cons, sum-map}
use Rattle.agg_model.specs.declared.limits.TheConstants.{MAX_PATHS, MAX_SHARDS, WEIGHT_LIMIT}
use Rattle.agg_model.specs.declared.mapping.Field.{Field}
use Rattle.agg_model.specs.declared.mapping.Mapping.{Mapping}
use Rattle.agg_model.specs.declared.row.Document.{Document}
use Rattle.agg_evaluation.specs.ColumnBytes.{shard_bytes, dictionary_bytes}
use Rattle.agg_evaluation.specs.Rows.{PlacedRow}
use Rattle.agg_evaluation.specs.RowsWeight.{rows_weight}
use Rattle.shard_columns.proofs.Dictionaries.{sum-cons, dictionary_bytes-words}
use Rattle.shard_columns.proofs.Weighing.{counts-light, words-light, bytes-words}
use Rattle.shard_columns.specs.Built.{IsShardOf, IsBuiltFrom}
use Rattle.shard_columns.specs.Columns.{Columns}
use Rattle.shard_columns.specs.Dictionary.{words_of}
use Rattle.shard_columns.specs.Index.{AreShardsOf, rows_by_shard}
use Rattle.agg_model.specs.declared.costs.TheConstants.{FIELDDATA_OVERHEAD}
use Rattle.agg_spec.specs.Columns.{columns_charge}
use Rattle.shard_columns.specs.declared.index.Index.{Index as Built}
use Rattle.fitting_laws.specs.Indexes.{index_of}
use Rattle.agg_bulk.specs.ColumnBytes.{bytes_in, all_bytes}

dictionary-light : (rows : List PlacedRow) (field : ℕ) → dictionary_bytes rows field ≤ rows_weight rows
dictionary-light rows field =
    let is = dictionary_bytes-words field rows ∙ sum-map length (words_of field rows) in
    omega (arith, is, bytes-words (words_of field rows), words-light field rows)

dictionaries-light : (rows : List PlacedRow) (fields : List ℕ) → rows_weight rows < WEIGHT_LIMIT → sum (map (dictionary_bytes rows) fields) ≤ length fields * WEIGHT_LIMIT
dictionaries-light rows [] light = omega arith
dictionaries-light rows (f ∷ fs) light = omega (arith, light, sum-cons (dictionary_bytes rows f) (map (dictionary_bytes rows) fs), dictionary-light rows f, dictionaries-light rows fs light)

shard-light : (fields : ℕ) (rows : List PlacedRow) → fields ≤ MAX_PATHS → rows_weight rows < WEIGHT_LIMIT → shard_bytes fields rows ≤ 1008 * WEIGHT_LIMIT
shard-light fields rows few light =
    let number : length (range_with_len 0 fields) ≡ fields = length-range_with_len 0 fields in
    omega (arith, few, light, number, counts-light rows, dictionaries-light rows (range_with_len 0 fields) light)

module _ (m : Mapping) (few : length m.fields ≤ MAX_PATHS) where
  kinds_of : (s : Columns) (documents : List Document) → IsBuiltFrom m documents s → length s.kinds ≡ length m.fields
  kinds_of s documents built = ap (λ (c : Columns). length c.kinds) built.columns_are ∙ length-map m.fields (λ (f : Field). f.kind)

  kinds_are : (s : Columns) → IsShardOf m s → length s.kinds ≡ length m.fields
  kinds_are s made = eqb-true _ _ (∥∥₁_elim made (Bool-set _ _) (λ found. eq-eqb _ _ (kinds_of s found.0 found.1)))

  light_of : (s : Columns) (documents : List Document) → IsBuiltFrom m documents s → rows_weight s.rows < WEIGHT_LIMIT
  light_of s documents built = let same = ap (λ (c : Columns). rows_weight c.rows) built.columns_are in omega (arith, same, built.light)

  light_is : (s : Columns) → IsShardOf m s → rows_weight s.rows < WEIGHT_LIMIT
  light_is s made = ltb-true _ _ (∥∥₁_elim made (Bool-set _ _) (λ found. lt-ltb _ _ (light_of s found.0 found.1)))

  shard_is : (s : Columns) → IsShardOf m s → bytes_in s ≡ shard_bytes (length m.fields) s.rows
  shard_is s made = ap (λ (n : ℕ). shard_bytes n s.rows) (kinds_are s made)

  shard_bound : (s : Columns) → IsShardOf m s → bytes_in s ≤ 1008 * WEIGHT_LIMIT
  shard_bound s made = let is = shard_is s made in omega (arith, is, shard-light (length m.fields) s.rows few (light_is s made))

  shards_are : (ss : List Columns) → AreShardsOf m ss → all_bytes ss ≡ sum (map (shard_bytes (length m.fields)) (rows_by_shard ss))
  shards_are [] made = refl
  shards_are (s ∷ ss) made =
      let rest = map (shard_bytes (length m.fields)) (rows_by_shard ss) in
      omega (arith, sum_by-cons bytes_in s ss, sum-cons (shard_bytes (length m.fields) s.rows) rest, shard_is s made.0, shards_are ss made.1)

  shards_bound : (ss : List Columns) → AreShardsOf m ss → all_bytes ss ≤ length ss * (1008 * WEIGHT_LIMIT)
  shards_bound [] made = omega arith
  shards_bound (s ∷ ss) made = omega (arith, sum_by-cons bytes_in s ss, shard_bound s made.0, shards_bound ss made.1)

  -- those of the definition
  pub bytes_are : (ss : List Columns) → ∥ AreShardsOf m ss ∥₁ → all_bytes ss ≡ sum (map (shard_bytes (length m.fields)) (rows_by_shard ss))
  bytes_are ss made = eqb-true _ _ (∥∥₁_elim made (Bool-set _ _) (λ found. eq-eqb _ _ (shards_are ss found)))

  -- and few
  pub bytes_few : (ss : List Columns) → ∥ AreShardsOf m ss ∥₁ → length ss ≤ MAX_SHARDS → all_bytes ss < 2 ^ 53
  bytes_few ss made number =
      let bound = leb-true _ _ (∥∥₁_elim made (Bool-set _ _) (λ found. le-leb _ _ (shards_bound ss found))) in
      omega (arith, bound, number)

few_fields : (index : Built) → length index.mapping.fields ≤ MAX_PATHS
few_fields index = omega (arith, index.ordered.few)

-- of an index
pub index_few : (index : Built) (bytes : ℕ) → bytes ≡ all_bytes index.shards → bytes < 2 ^ 53
index_few index bytes is = omega (arith, is, bytes_few index.mapping (few_fields index) index.shards index.built index.few_shards)

pub charge_is : (index : Built) (bytes : ℕ) → bytes ≡ all_bytes index.shards → (bytes * FIELDDATA_OVERHEAD + 99) / 100 ≡ columns_charge (index_of index)
charge_is index bytes is = ap (λ (n : ℕ). (n * FIELDDATA_OVERHEAD + 99) / 100) (is ∙ bytes_are index.mapping (few_fields index) index.shards index.built)
