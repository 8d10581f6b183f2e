-- Fields of dates, in a mapping and in its shards, and their values.
use Rattle.std.proofs.Common.{◌≡◌, refl, ℕ, ℤ, Bool, true, false, List, [], ◌∷◌, length, map, Option, Some, None, sym, ◌∙◌, ap}
use Rattle.std.specs.Prelude.{◌==◌, ◌&&◌, option_map, option_to_list}
use Rattle.std.specs.List.{AllByRecursion, list_all, slice_get}
use Rattle.std.specs.Option.{option_map_or}
use Rattle.std.proofs.Math.Bool.{Bool-set}
use Rattle.std.proofs.Math.Logic.{∥∥₁_elim}
use Rattle.std.proofs.lemmas.Bool.{and_parts, and_from, eqb-true, false≢true}
use Rattle.std.proofs.lemmas.Option.{slice_get-map}
use Rattle.date_spec.specs.Instants.{is_in_range}
use Rattle.date_spec.specs.Periods.{IsInstant}
use Rattle.agg_model.specs.declared.mapping.Field.{Field}
use Rattle.agg_model.specs.declared.mapping.FieldKind.{FieldKind}
use Rattle.agg_model.specs.declared.mapping.FieldKind.TheVariants.{Long, Integer, Short, Byte, Keyword, Boolean, Date}
use Rattle.agg_model.specs.declared.mapping.Mapping.{Mapping}
use Rattle.agg_model.specs.declared.row.FieldValues.{FieldValues}
use Rattle.agg_model.specs.declared.row.Scalar.{Scalar}
use Rattle.agg_model.specs.declared.row.Scalar.TheVariants.{Whole, Word, Flag}
use Rattle.agg_model.specs.FieldKinds.{is_date_kind}
use Rattle.agg_evaluation.specs.DocumentFits.{ascend, field_fits, is_number_of_values, is_own, is_value}
use Rattle.agg_evaluation.specs.Rows.{row_of, values_of}
use Rattle.agg_evaluation.specs.SearchFits.{is_date_field, is_missing}
use Rattle.agg_evaluation.proofs.SpacingLaws.{instant-is}
use Rattle.shard_columns.specs.Built.{IsShard, IsShardOf}
use Rattle.shard_columns.specs.Columns.{Columns}
use Rattle.shard_columns.specs.Lent.{wholes_in}
use Rattle.histogram_agg.proofs.Rows.{values-hold}
use Rattle.date_agg.specs.Dates.{HoldsDates}

there : (passes : Field → Bool) (o : Option Field) → option_map_or passes o false ≡ true → (f : Field) × ((o ≡ Some f) × (passes f ≡ true))
there passes None h = absurd (false≢true h)
there passes (Some f) h = (f, (refl, h))

date-kind : (k : FieldKind) → is_date_kind k ≡ true → k ≡ Date
date-kind Date h = refl
date-kind Long h = absurd (false≢true h)
date-kind Integer h = absurd (false≢true h)
date-kind Short h = absurd (false≢true h)
date-kind Byte h = absurd (false≢true h)
date-kind Keyword h = absurd (false≢true h)
date-kind Boolean h = absurd (false≢true h)

abbrev kind : Field → FieldKind
kind f = f.kind

abbrev is_date : List FieldKind → ℕ → Bool
is_date kinds field = option_map_or is_date_kind (slice_get kinds field) false

-- whether the field is one of dates, told by the field of the mapping
told : (m : Mapping) (field : ℕ) (f : Field) → slice_get m.fields field ≡ Some f → is_date (map kind m.fields) field ≡ is_date_kind f.kind
told m field f is = ap (λ (o : Option FieldKind). option_map_or is_date_kind o false) (slice_get-map kind m.fields field ∙ ap (option_map kind) is)

module _ (m : Mapping) (field : ℕ) (missing : Option Scalar) (h : is_date_field m field missing ≡ true) where
  abbrev passes : Field → Bool
  passes f = is_date_kind f.kind && is_missing f.kind missing

  pub date-missing : is_missing Date missing ≡ true
  date-missing =
      let found = there passes (slice_get m.fields field) h in
      let parts = and_parts (is_date_kind found.0.kind) (is_missing found.0.kind missing) found.1.1 in
      ap (λ (k : FieldKind). is_missing k missing) (sym (date-kind found.0.kind parts.0)) ∙ parts.1

  pub date-field : (shard : Columns) → IsShardOf m shard → HoldsDates shard field
  date-field shard of =
      let found = there passes (slice_get m.fields field) h in
      let parts = and_parts (is_date_kind found.0.kind) (is_missing found.0.kind missing) found.1.1 in
      ∥∥₁_elim of (Bool-set _ _) (λ built. ap (λ (s : Columns). is_date s.kinds field) built.1.columns_are ∙ told m field found.0 found.1.0 ∙ parts.0)

-- such values are instants
in-range : (vs : List Scalar) → list_all (is_value Date) vs ≡ true → list_all is_in_range (wholes_in vs) ≡ true
in-range [] h = refl
in-range (Whole n ∷ vs) h = let parts = and_parts (is_in_range n) (list_all (is_value Date) vs) h in and_from (is_in_range n) _ parts.0 (in-range vs parts.1)
in-range (Word w ∷ vs) h = absurd (false≢true h)
in-range (Flag b ∷ vs) h = absurd (false≢true h)

module _ (m : Mapping) (field : ℕ) (h : is_date (map kind m.fields) field ≡ true) where
  fit-range : (context : ℕ) (f : FieldValues) → (f.field == field) ≡ true → field_fits m context f ≡ true → list_all is_in_range (wholes_in f.values) ≡ true
  fit-range context f at fits =
      let own = (and_parts (is_own m context f.field f.values) (is_number_of_values (length f.values) && ascend f.values) fits).0 in
      let found = there (λ g. (g.context == context) && list_all (is_value g.kind) f.values) (slice_get m.fields f.field) own in
      let values = (and_parts (found.0.context == context) (list_all (is_value found.0.kind) f.values) found.1.1).1 in
      let same : f.field ≡ field = eqb-true f.field field at in
      let of_dates : is_date_kind found.0.kind ≡ true = sym (told m f.field found.0 found.1.0) ∙ ap (is_date (map kind m.fields)) same ∙ h in
      in-range f.values (ap (λ (k : FieldKind). list_all (is_value k) f.values) (sym (date-kind found.0.kind of_dates)) ∙ values)

are-instants : (ns : List ℤ) → list_all is_in_range ns ≡ true → AllByRecursion IsInstant ns
are-instants [] h = tt
are-instants (n ∷ ns) h = let parts = and_parts (is_in_range n) (list_all is_in_range ns) h in (instant-is n parts.0, are-instants ns parts.1)

-- the values of a field of dates in each row of a shard
pub row-instants : (shard : Columns) → IsShard shard → (field : ℕ) → HoldsDates shard field → (n : ℕ) → AllByRecursion IsInstant (wholes_in (values_of field (row_of shard.rows n)))
row-instants shard is field dates n =
    are-instants _ (∥∥₁_elim is (Bool-set _ _) (λ m. ∥∥₁_elim m.1 (Bool-set _ _) (λ of.
    values-hold m.0 field (λ vs. list_all is_in_range (wholes_in vs)) refl (fit-range m.0 field (ap (λ (s : Columns). is_date s.kinds field) (sym of.1.columns_are) ∙ dates)) shard n of.0 of.1)))

-- what stands for a missing value
pub missing-instants : (missing : Option Scalar) → is_missing Date missing ≡ true → AllByRecursion IsInstant (wholes_in (option_to_list missing))
missing-instants None h = tt
missing-instants (Some (Whole n)) h = (instant-is n h, tt)
missing-instants (Some (Word w)) h = absurd (false≢true h)
missing-instants (Some (Flag b)) h = absurd (false≢true h)

pub missing-ascend : (missing : Option Scalar) → ascend (option_to_list missing) ≡ true
missing-ascend None = refl
missing-ascend (Some v) = refl
