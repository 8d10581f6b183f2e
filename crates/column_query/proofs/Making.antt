-- A query that is made for a shard's mapping looks at fields of the shard, which is one that was built.
use Rattle.std.proofs.Common.{◌≡◌, ℕ, true, List, length, ◌∙◌, ap}
use Rattle.std.proofs.Math.Bool.{Bool-set}
use Rattle.std.proofs.Math.Logic.{∥∥₁_elim, ∥∥₁_map, ∥∥₁_prop}
use Rattle.std.proofs.lemmas.List.{length-map}
use Rattle.agg_model.specs.declared.mapping.Field.{Field}
use Rattle.agg_model.specs.declared.mapping.Mapping.{Mapping}
use Rattle.agg_model.specs.declared.query.Query.{Query}
use Rattle.agg_model.specs.declared.row.Document.{Document}
use Rattle.agg_evaluation.specs.Conditions.{looks_below}
use Rattle.agg_evaluation.specs.QueryFits.{query_fits}
use Rattle.agg_evaluation.proofs.QueriesFit.{fits_below}
use Rattle.shard_columns.specs.Built.{IsBuiltFrom, IsShard}
use Rattle.shard_columns.specs.Columns.{Columns}
use Rattle.column_query.specs.Made.{IsMadeFor, IsMade}

module _ (shard : Columns) (query : Query) where
  abbrev Looks : Type 0
  Looks = looks_below (length shard.kinds) query ≡ true

  from_documents : (m : Mapping) (context : ℕ) → query_fits m context query ≡ true → (documents : List Document) → IsBuiltFrom m documents shard → Looks
  from_documents m context fits documents built =
      let kinds : length shard.kinds ≡ length m.fields = ap (λ (s : Columns). length s.kinds) built.columns_are ∙ length-map m.fields (λ (f : Field). f.kind) in
      ap (λ (n : ℕ). looks_below n query) kinds ∙ fits_below m context query fits

  pub looks-for : (context : ℕ) → IsMadeFor shard context query → Looks
  looks-for context made =
      ∥∥₁_elim made (Bool-set _ _) (λ found. ∥∥₁_elim found.1.0 (Bool-set _ _) (λ of. from_documents found.0 context found.1.1 of.0 of.1))

  pub looks-made : IsMade shard query → Looks
  looks-made made = ∥∥₁_elim made (Bool-set _ _) (λ found. looks-for found.0 found.1)

  pub shard-for : (context : ℕ) → IsMadeFor shard context query → IsShard shard
  shard-for context made = ∥∥₁_map made (λ found. (found.0, found.1.0))

  pub shard-made : IsMade shard query → IsShard shard
  shard-made made = ∥∥₁_elim made ∥∥₁_prop (λ found. shard-for found.0 found.1)
