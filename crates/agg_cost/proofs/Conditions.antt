-- The conditions of the crates of the kinds hold of a kind that is made for the mapping of the shard.
use Rattle.std.proofs.Common.{◌≡◌, refl, ℕ, zero, suc, ◌<◌, ◌≤◌, Bool, true, false, List, [], ◌∷◌, length, sym, ◌∙◌, ap, subst, arith}
use Rattle.std.specs.Prelude.{◌&&◌, ◌^◌, nat_le, nat_lt, Option, Some, None, IfSome, option_to_list, slice_get}
use Rattle.std.specs.List.{list_all}
use Rattle.std.specs.Option.{option_map_or}
use Rattle.std.proofs.Math.Bool.{Bool-set}
use Rattle.std.proofs.Math.Logic.{∥∥₁_elim}
use Rattle.std.proofs.lemmas.Bool.{and_parts, and_from, false≢true, ltb-true, lt-ltb, leb-true}
use Rattle.std.proofs.lemmas.Bool.Decides.{nat_tests}
use Rattle.agg_model.specs.declared.limits.TheConstants.{MAX_FILTERS, MAX_SOURCES}
use Rattle.agg_model.specs.declared.mapping.FieldKind.{FieldKind}
use Rattle.agg_model.specs.declared.mapping.FieldKind.TheVariants as kinds
use Rattle.agg_model.specs.declared.mapping.Mapping.{Mapping}
use Rattle.agg_model.specs.declared.row.Scalar.{Scalar}
use Rattle.agg_model.specs.declared.row.Scalar.TheVariants as scalar
use Rattle.agg_model.specs.declared.aggregation.Bounds.{Bounds}
use Rattle.agg_model.specs.declared.aggregation.CompositeSource.{CompositeSource}
use Rattle.agg_model.specs.declared.aggregation.Kind.{Kind}
use Rattle.agg_model.specs.declared.aggregation.Kind.TheVariants as kind
use Rattle.agg_model.specs.declared.aggregation.Order.{Order}
use Rattle.agg_model.specs.declared.aggregation.Spacing.{Spacing}
use Rattle.agg_model.specs.declared.aggregation.Spacing.TheVariants.{Numbers, Dates}
use Rattle.agg_model.specs.FieldKinds.{is_of_kind, is_whole_kind}
use Rattle.agg_model.specs.Options.{HistogramOptions}
use Rattle.agg_evaluation.specs.QueryFits.{field_is, are_probes}
use Rattle.agg_evaluation.specs.SearchFits.{kind_fits, source_fits, interval_fits, is_missing, is_stored}
use Rattle.composite_agg.specs.Sources.{IsPositive, ArePositive}
use Rattle.date_agg.proofs.Made.{made-dated, made-dates}
use Rattle.filters_agg.specs.Filtering.{IsMadeFor}
use Rattle.histogram_agg.proofs.Made.{made-spaced}
use Rattle.nested_agg.specs.Nesting.{goes_by_nesting}
use Rattle.shard_columns.specs.Built.{IsShardOf}
use Rattle.shard_columns.specs.Columns.{Columns}
use Rattle.terms_agg.specs.Codes.{content_of, is_content}
use Rattle.terms_agg.specs.declared.content.Content.TheVariants.{Wholes}
use Rattle.agg_cost.specs.Counters.{IsCountable}
use Rattle.agg_cost.specs.Fields.{HasFields, are_known}
use Rattle.agg_cost.proofs.Making.{field-kind, some_below}

-- what stands for a missing value is of the field's kind
stored : (k : FieldKind) (v : Scalar) → is_stored k v ≡ true → (is_content (content_of k) v ≡ true) × (is_of_kind k v ≡ true)
stored kinds.Keyword (scalar.Word w) h = (refl, refl)
stored kinds.Keyword (scalar.Whole n) h = absurd (false≢true h)
stored kinds.Keyword (scalar.Flag b) h = absurd (false≢true h)
stored kinds.Boolean (scalar.Flag b) h = (refl, refl)
stored kinds.Boolean (scalar.Word w) h = absurd (false≢true h)
stored kinds.Boolean (scalar.Whole n) h = absurd (false≢true h)
stored kinds.Long (scalar.Whole n) h = (refl, refl)
stored kinds.Long (scalar.Word w) h = absurd (false≢true h)
stored kinds.Long (scalar.Flag b) h = absurd (false≢true h)
stored kinds.Integer (scalar.Whole n) h = (refl, refl)
stored kinds.Integer (scalar.Word w) h = absurd (false≢true h)
stored kinds.Integer (scalar.Flag b) h = absurd (false≢true h)
stored kinds.Short (scalar.Whole n) h = (refl, refl)
stored kinds.Short (scalar.Word w) h = absurd (false≢true h)
stored kinds.Short (scalar.Flag b) h = absurd (false≢true h)
stored kinds.Byte (scalar.Whole n) h = (refl, refl)
stored kinds.Byte (scalar.Word w) h = absurd (false≢true h)
stored kinds.Byte (scalar.Flag b) h = absurd (false≢true h)
stored kinds.Date (scalar.Whole n) h = (refl, refl)
stored kinds.Date (scalar.Word w) h = absurd (false≢true h)
stored kinds.Date (scalar.Flag b) h = absurd (false≢true h)

weaker : (p q : FieldKind → Bool) → ((k : FieldKind) → p k ≡ true → q k ≡ true) → (o : Option FieldKind) → option_map_or p o false ≡ true → option_map_or q o false ≡ true
weaker p q more None h = h
weaker p q more (Some k) h = more k h

content_fits : (o : Option FieldKind) (missing : Option Scalar) → option_map_or (λ k. is_missing k missing) o false ≡ true → (v : Scalar) → missing ≡ Some v → is_content (option_map_or content_of o Wholes) v ≡ true
content_fits None missing h v is = absurd (false≢true h)
content_fits (Some k) missing h v is = (stored k v (ap (is_missing k) (sym is) ∙ h)).0

all_fit : (k : FieldKind) (missing : Option Scalar) → is_missing k missing ≡ true → list_all (is_of_kind k) (option_to_list missing) ≡ true
all_fit k None h = refl
all_fit k (Some v) h = and_from _ _ (stored k v h).1 refl

module _ (shard : Columns) where
  abbrev kind_at : ℕ → Option FieldKind
  kind_at field = slice_get shard.kinds field

  terms-field : (top : Bool) (field size shard_size min_doc_count : ℕ) (order : _) (include : _) (exclude : _) (missing : Option Scalar) (show_error : Bool)
      → IsMadeFor shard (kind.Terms field size shard_size min_doc_count order include exclude missing show_error) → option_map_or (λ k. is_missing k missing) (kind_at field) false ≡ true
  terms-field top field size shard_size min_doc_count order include exclude missing show_error made =
      ∥∥₁_elim made (Bool-set _ _) (λ found.
      let p = λ (k : FieldKind). option_map_or (are_probes k) include true && (are_probes k exclude && is_missing k missing) in
      let h = (and_parts (field_is found.0 p field) _ found.1.1.1.1.1).0 in
      weaker p (λ k. is_missing k missing) (λ k e. (and_parts (are_probes k exclude) (is_missing k missing) (and_parts (option_map_or (are_probes k) include true) (are_probes k exclude && is_missing k missing) e).1).1) (kind_at field)
      (field-kind shard found.0 found.1.1.1.1.0 p field h))

  below : (field : ℕ) (p : FieldKind → Bool) → option_map_or p (kind_at field) false ≡ true → field < length shard.kinds
  below field p h = ltb-true field (length shard.kinds) (some_below shard.kinds field p h)

  source_at : (m : Mapping) (built : IsShardOf m shard) (s : CompositeSource) (o : Option ℕ) → s.interval ≡ o → interval_fits m s.field o ≡ true → (option_map_or (λ i. nat_lt 0 i) s.interval true ≡ true) × (nat_lt s.field (length shard.kinds) ≡ true)
  source_at m built s None is h = (ap (λ (o : Option ℕ). option_map_or (λ i. nat_lt 0 i) o true) is, some_below shard.kinds s.field (λ k. true) (field-kind shard m built (λ k. true) s.field h))
  source_at m built s (Some i) is h =
      let parts = and_parts (nat_le 1 i) (field_is m is_whole_kind s.field) h in
      let low = leb-true 1 i parts.0 in
      let positive : nat_lt 0 i ≡ true = grind (arith, nat_tests) in
      (ap (λ (o : Option ℕ). option_map_or (λ i. nat_lt 0 i) o true) is ∙ positive, some_below shard.kinds s.field is_whole_kind (field-kind shard m built is_whole_kind s.field parts.1))

  sources_at : (m : Mapping) (built : IsShardOf m shard) (sources : List CompositeSource) → list_all (source_fits m) sources ≡ true
      → (list_all (λ s. option_map_or (λ i. nat_lt 0 i) s.interval true) sources ≡ true) × (are_known (length shard.kinds) sources ≡ true)
  sources_at m built [] h = (refl, refl)
  sources_at m built (s ∷ ss) h =
      let parts = and_parts (source_fits m s) (list_all (source_fits m) ss) h in
      let here = source_at m built s s.interval refl parts.0 in
      let rest = sources_at m built ss parts.1 in
      (and_from _ _ here.0 rest.0, and_from _ _ here.1 rest.1)

  composite-sources : (sources : List CompositeSource) (size : ℕ) (after : _) → (m : Mapping) (top : Bool) (context : ℕ) (children : List Kind) → kind_fits m top context children (kind.Composite sources size after) ≡ true → list_all (source_fits m) sources ≡ true
  composite-sources sources size after m top context children h =
      let first = (and_parts top _ h).1 in
      let second = (and_parts (nat_le 1 (length sources)) _ first).1 in
      let third = (and_parts (nat_le (length sources) MAX_SOURCES) _ second).1 in
      (and_parts (list_all (source_fits m) sources) _ third).0

  positive : (sources : List CompositeSource) → list_all (λ s. option_map_or (λ i. nat_lt 0 i) s.interval true) sources ≡ true → ArePositive sources
  positive [] h = tt
  positive (s ∷ ss) h = let parts = and_parts (option_map_or (λ i. nat_lt 0 i) s.interval true) _ h in (one s s.interval refl parts.0, positive ss parts.1)
    where
      one : (s : CompositeSource) (o : Option ℕ) → s.interval ≡ o → option_map_or (λ i. nat_lt 0 i) s.interval true ≡ true → IsPositive s
      one s None is h = subst (λ (o : Option ℕ). IfSome o (λ i. 0 < i)) (sym is) tt
      one s (Some i) is h = subst (λ (o : Option ℕ). IfSome o (λ i. 0 < i)) (sym is) (ltb-true 0 i (ap (λ (o : Option ℕ). option_map_or (λ i. nat_lt 0 i) o true) (sym is) ∙ h))

  abbrev histogram : Spacing → ℕ → ℕ → Bounds → Bounds → Bool → List Order → Option Scalar → HistogramOptions
  histogram spacing field min_doc_count extended hard keyed order missing = record {
    field = field;
    spacing = spacing;
    min_doc_count = min_doc_count;
    extended = extended;
    hard = hard;
    keyed = keyed;
    order = order;
    missing = missing;
  }

  pub countable : (k : Kind) → IsMadeFor shard k → IsCountable shard k
  countable (kind.Terms field size shard_size min_doc_count order include exclude missing show_error) made =
      let h = terms-field true field size shard_size min_doc_count order include exclude missing show_error made in
      record { known = below field (λ k. is_missing k missing) h; missing_fits = content_fits (kind_at field) missing h }
  countable (kind.Histogram field interval offset min_doc_count extended hard keyed order missing) made =
      let h = histogram (Numbers interval offset) field min_doc_count extended hard keyed order missing in (
        ltb-true offset interval (∥∥₁_elim made (Bool-set _ _) (λ found. lt-ltb offset interval (made-spaced found.0 found.1.1.1.0 h interval offset refl found.1.1.1.1.1).0)),
        ltb-true interval (2 ^ 63) (∥∥₁_elim made (Bool-set _ _) (λ found. lt-ltb interval (2 ^ 63) (made-spaced found.0 found.1.1.1.0 h interval offset refl found.1.1.1.1.1).1)),
      )
  countable (kind.DateHistogram field period zone min_doc_count extended hard keyed order missing) made =
      let h = histogram (Dates period zone) field min_doc_count extended hard keyed order missing in (
        ∥∥₁_elim made (Bool-set _ _) (λ found. made-dated found.0 found.1.1.1.0 h period zone refl found.1.1.1.1.1),
        ∥∥₁_elim made (Bool-set _ _) (λ found. made-dates found.0 shard found.1.1.1.0 h period zone refl found.1.1.1.1.0 found.1.1.1.1.1),
      )
  countable (kind.Filters names filters other) made =
      leb-true (length filters) MAX_FILTERS (∥∥₁_elim made (Bool-set _ _) (λ found. (and_parts (nat_le (length filters) MAX_FILTERS) _ (and_parts (nat_le 1 (length filters)) _ found.1.1.1.1.1).1).0))
  countable (kind.Composite sources size after) made =
      positive sources (∥∥₁_elim made (Bool-set _ _) (λ found. (sources_at found.0 found.1.1.1.1.0 sources (composite-sources sources size after found.0 found.1.0 found.1.1.0 found.1.1.1.0 found.1.1.1.1.1)).0))
  countable (kind.Filter query) made = tt
  countable (kind.Missing field) made = tt
  countable kind.Global made = tt
  countable (kind.Nested context) made = tt
  countable (kind.ReverseNested context) made = tt
  countable (kind.Sum field missing) made = tt
  countable (kind.Min field missing) made = tt
  countable (kind.Max field missing) made = tt
  countable (kind.Avg field missing) made = tt
  countable (kind.ValueCount field missing) made = tt

  pub has-fields : (k : Kind) → IsMadeFor shard k → HasFields shard k
  has-fields (kind.Terms field size shard_size min_doc_count order include exclude missing show_error) made =
      let h = terms-field true field size shard_size min_doc_count order include exclude missing show_error made in
      record { known = below field (λ k. is_missing k missing) h; missing_fits = λ k is. all_fit k missing (ap (λ (o : Option FieldKind). option_map_or (λ k. is_missing k missing) o false) (sym is) ∙ h) }
  has-fields (kind.Composite sources size after) made =
      ∥∥₁_elim made (Bool-set _ _) (λ found. (sources_at found.0 found.1.1.1.1.0 sources (composite-sources sources size after found.0 found.1.0 found.1.1.0 found.1.1.1.0 found.1.1.1.1.1)).1)
  has-fields (kind.Histogram field interval offset min_doc_count extended hard keyed order missing) made = tt
  has-fields (kind.DateHistogram field period zone min_doc_count extended hard keyed order missing) made = tt
  has-fields (kind.Filters names filters other) made = tt
  has-fields (kind.Filter query) made = tt
  has-fields (kind.Missing field) made = tt
  has-fields kind.Global made = tt
  has-fields (kind.Nested context) made = tt
  has-fields (kind.ReverseNested context) made = tt
  has-fields (kind.Sum field missing) made = tt
  has-fields (kind.Min field missing) made = tt
  has-fields (kind.Max field missing) made = tt
  has-fields (kind.Avg field missing) made = tt
  has-fields (kind.ValueCount field missing) made = tt

  pub nested-goes : (context : ℕ) → IsMadeFor shard (kind.Nested context) → goes_by_nesting (kind.Nested context) ≡ true
  nested-goes zero made = ∥∥₁_elim made (Bool-set _ _) (λ found. found.1.1.1.1.1)
  nested-goes (suc path) made = refl

  -- never to the roots, so there is a path
  pub nested-above : (context : ℕ) → IsMadeFor shard (kind.Nested context) → 1 ≤ context
  nested-above zero made = absurd (false≢true (nested-goes zero made))
  nested-above (suc path) made = omega arith
