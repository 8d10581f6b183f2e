-- The fields of an aggregation that is made for the mapping of a shard.
use Rattle.std.proofs.Common.{◌≡◌, refl, ℕ, zero, suc, Bool, true, false, List, [], ◌∷◌, length, map, ◌∙◌, ap, arith}
use Rattle.std.specs.Prelude.{nat_lt, Option, Some, None, option_map, slice_get}
use Rattle.std.specs.Option.{option_map_or}
use Rattle.std.proofs.Math.Bool.{Bool-set}
use Rattle.std.proofs.Math.Logic.{∥∥₁_elim}
use Rattle.std.proofs.lemmas.Bool.{false≢true, ltb-true}
use Rattle.std.proofs.lemmas.Bool.Decides.{nat_tests}
use Rattle.agg_model.specs.declared.mapping.Field.{Field}
use Rattle.agg_model.specs.declared.mapping.FieldKind.{FieldKind}
use Rattle.agg_model.specs.declared.mapping.Mapping.{Mapping}
use Rattle.agg_evaluation.specs.QueryFits.{field_is}
use Rattle.shard_columns.specs.Built.{IsShardOf}
use Rattle.shard_columns.specs.Columns.{Columns}

module _ (shard : Columns) (m : Mapping) (built : IsShardOf m shard) where
  kinds_are : (P : List FieldKind → Bool) → P (map (λ f. f.kind) m.fields) ≡ true → P shard.kinds ≡ true
  kinds_are P holds = ∥∥₁_elim built (Bool-set _ _) (λ found. ap (λ (s : Columns). P s.kinds) found.1.columns_are ∙ holds)

  got_kind : (fs : List Field) (n : ℕ) → slice_get (map (λ (f : Field). f.kind) fs) n ≡ option_map (λ (f : Field). f.kind) (slice_get fs n)
  got_kind [] n = refl
  got_kind (f ∷ fs) zero = refl
  got_kind (f ∷ fs) (suc n) = got_kind fs n

  at_kind : (passes : FieldKind → Bool) (o : Option Field) → option_map_or (λ f. passes f.kind) o false ≡ true → option_map_or passes (option_map (λ (f : Field). f.kind) o) false ≡ true
  at_kind passes None h = h
  at_kind passes (Some f) h = h

  -- the kind of a field of the shard
  pub field-kind : (passes : FieldKind → Bool) (field : ℕ) → field_is m passes field ≡ true → option_map_or passes (slice_get shard.kinds field) false ≡ true
  field-kind passes field h = kinds_are (λ ks. option_map_or passes (slice_get ks field) false) (ap (λ (o : Option FieldKind). option_map_or passes o false) (got_kind m.fields field) ∙ at_kind passes (slice_get m.fields field) h)

pub some_below : (ks : List FieldKind) (n : ℕ) (passes : FieldKind → Bool) → option_map_or passes (slice_get ks n) false ≡ true → nat_lt n (length ks) ≡ true
some_below [] n passes h = absurd (false≢true h)
some_below (k ∷ ks) zero passes h = grind (arith, nat_tests)
some_below (k ∷ ks) (suc n) passes h = let rest = ltb-true n (length ks) (some_below ks n passes h) in grind (arith, nat_tests)
