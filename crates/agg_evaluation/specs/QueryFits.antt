-- Queries that are made for a mapping (Elasticsearch Reference 8, 'Query DSL').
use Rattle.std.specs.Prelude.{ℕ, ◌+◌, ◌^◌, List, slice_get, Bool, true, false, ◌&&◌}
use Rattle.std.specs.List.{list_all}
use Rattle.std.specs.Option.{option_map_or}
use Rattle.agg_model.specs.declared.mapping.FieldKind.{FieldKind}
use Rattle.agg_model.specs.declared.mapping.Mapping.{Mapping}
use Rattle.agg_model.specs.declared.query.Probe.{Probe}
use Rattle.agg_model.specs.declared.query.Probe.TheVariants as probe
use Rattle.agg_model.specs.declared.query.Query.{Query}
use Rattle.agg_model.specs.declared.query.Query.TheOpen.{Query-F}
use Rattle.agg_evaluation.specs.Folds.{fold_query}
use Rattle.agg_model.specs.Contexts.{is_in_context}
use Rattle.agg_model.specs.FieldKinds.{ValueKind, value_kind, fits_below}

-- a field of the mapping whose kind passes
abbrev pub field_is : Mapping → (FieldKind → Bool) → ℕ → Bool
field_is m passes field = option_map_or (λ f. passes f.kind) (slice_get m.fields field) false

abbrev pub asks_for : ValueKind → Probe → Bool
asks_for (ValueKind.wholes half) (probe.Whole z) = true
asks_for (ValueKind.wholes half) (probe.Word w) = false
asks_for (ValueKind.wholes half) (probe.Flag b) = false
asks_for ValueKind.words (probe.Whole z) = false
asks_for ValueKind.words (probe.Word w) = true
asks_for ValueKind.words (probe.Flag b) = false
asks_for ValueKind.flags (probe.Whole z) = false
asks_for ValueKind.flags (probe.Word w) = false
asks_for ValueKind.flags (probe.Flag b) = true
asks_for ValueKind.dates (probe.Whole z) = fits_below (2 ^ 63) z
asks_for ValueKind.dates (probe.Word w) = false
asks_for ValueKind.dates (probe.Flag b) = false

-- what a field of this kind is asked for; a date by a number of 64 bits
abbrev pub is_probe : FieldKind → Probe → Bool
is_probe kind value = asks_for (value_kind kind) value

abbrev pub are_probes : FieldKind → List Probe → Bool
are_probes k values = list_all (is_probe k) values

-- the nested path lies strictly beneath the context
abbrev pub is_path_beneath : Mapping → ℕ → ℕ → Bool
is_path_beneath m context path = option_map_or (λ p. is_in_context m.nested context p.path) (slice_get m.nested path) false

-- a query over rows of a context
abbrev pub query_fits_at : Mapping → Query-F (ℕ → Bool) → ℕ → Bool
query_fits_at m Query-F.All context = true
query_fits_at m (Query-F.Term field value) context = field_is m (λ k. is_probe k value) field
query_fits_at m (Query-F.Terms field values) context = field_is m (λ k. are_probes k values) field
query_fits_at m (Query-F.Range field tests) context = field_is m (λ k. list_all (λ t. is_probe k t.value) tests) field
query_fits_at m (Query-F.Exists field) context = field_is m (λ k. true) field
query_fits_at m (Query-F.Ids values) context = true
query_fits_at m (Query-F.Bool must must_not should minimum) context =
    list_all (λ q. q context) must && (list_all (λ q. q context) must_not && list_all (λ q. q context) should)
query_fits_at m (Query-F.Nested path query) context = is_path_beneath m context path && query (path + 1)

abbrev pub query_fits : Mapping → ℕ → Query → Bool
query_fits m context q = fold_query (query_fits_at m) q context
