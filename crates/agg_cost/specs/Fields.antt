-- Fields of a shard that an aggregation reads keys from (Elasticsearch Reference 8, 'Terms aggregation', 'Composite
-- aggregation').
use Rattle.std.specs.Prelude.{◌≡◌, ℕ, ◌<◌, Bool, true, List, length, Option, Some, option_to_list, slice_get, nat_lt}
use Rattle.std.specs.List.{list_all}
use Rattle.agg_model.specs.declared.mapping.FieldKind.{FieldKind}
use Rattle.agg_model.specs.declared.row.Scalar.{Scalar}
use Rattle.agg_model.specs.declared.aggregation.CompositeSource.{CompositeSource}
use Rattle.agg_model.specs.declared.aggregation.Kind.{Kind}
use Rattle.agg_evaluation.specs.Profile.{Form, profile}
use Rattle.agg_model.specs.FieldKinds.{is_of_kind}
use Rattle.shard_columns.specs.Columns.{Columns}

-- a field of the shard, and of its kind what stands for a missing value
pub record IsOfField (shard : Columns) (field : ℕ) (missing : Option Scalar) : Type 0 where
  pub known : field < length shard.kinds
  pub missing_fits : (k : FieldKind) → slice_get shard.kinds field ≡ Some k → list_all (is_of_kind k) (option_to_list missing) ≡ true

abbrev pub are_known : ℕ → List CompositeSource → Bool
are_known n sources = list_all (λ s. nat_lt s.field n) sources

-- the fields whose values are keys of the aggregation
abbrev pub HasFields : Columns → Kind → Type 0
HasFields shard k = elim (profile k).form [
  | Form.terms t ↦ IsOfField shard t.field t.missing
  | Form.histogram h ↦ Unit {0}
  | Form.pages sources size after ↦ are_known (length shard.kinds) sources ≡ true
  | Form.fixed ks ↦ Unit {0}
  | Form.number o ↦ Unit {0}
]
