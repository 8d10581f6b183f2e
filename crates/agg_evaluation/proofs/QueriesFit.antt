-- A query that is made for a mapping looks at fields of the mapping alone.
use Rattle.std.specs.Prelude.{◌≡◌, refl, ℕ, ◌+◌, length, slice_get, Some, None, Bool, true, false, ◌&&◌, nat_lt}
use Rattle.std.specs.List.{list_all}
use Rattle.std.specs.Option.{option_map_or}
use Rattle.std.proofs.Common.{arith}
use Rattle.std.proofs.lemmas.Bool.{false≢true, and_parts, and_from}
use Rattle.std.proofs.lemmas.Bool.Decides.{nat_tests}
use Rattle.std.proofs.lemmas.Option.{slice_get_within}
use Rattle.agg_model.specs.declared.mapping.FieldKind.{FieldKind}
use Rattle.agg_model.specs.declared.mapping.Mapping.{Mapping}
use Rattle.agg_model.specs.declared.query.Query.{Query, Row_of-Query, end_of-Query, more_of-Query}
use Rattle.agg_model.specs.declared.query.Query.TheVariants as query
use Rattle.agg_evaluation.specs.Folds.{fold_queries, fold_only}
use Rattle.agg_evaluation.specs.QueryFits.{field_is, is_probe, are_probes, is_path_beneath, query_fits_at, query_fits}
use Rattle.agg_evaluation.specs.Conditions.{looks_below_at, looks_below}

below_is : (m : Mapping) (passes : FieldKind → Bool) (field : ℕ) → field_is m passes field ≡ true → nat_lt field (length m.fields) ≡ true
below_is m passes field h =
    elim (slice_get m.fields field) as (λ o. slice_get m.fields field ≡ o → option_map_or (λ f. passes f.kind) o false ≡ true → nat_lt field (length m.fields) ≡ true) [
      | None ↦ λ e k. absurd (false≢true k)
      | Some f ↦ λ e k. let low = slice_get_within m.fields field f e in grind (arith, nat_tests, low)
    ] refl h

module _ (m : Mapping) where
  mutual
    pub fits_below : (context : ℕ) (q : Query) → query_fits m context q ≡ true → looks_below (length m.fields) q ≡ true
    fits_below context query.All h = refl
    fits_below context (query.Term field value) h = below_is m (λ k. is_probe k value) field h
    fits_below context (query.Terms field values) h = below_is m (λ k. are_probes k values) field h
    fits_below context (query.Range field tests) h = below_is m (λ k. list_all (λ t. is_probe k t.value) tests) field h
    fits_below context (query.Exists field) h = refl
    fits_below context (query.Ids values) h = refl
    fits_below context (query.Bool' l must n must_not o should minimum) h =
        let parts = and_parts (list_all (λ q. q context) (fold_queries (query_fits_at m) must)) (list_all (λ q. q context) (fold_queries (query_fits_at m) must_not) && list_all (λ q. q context) (fold_queries (query_fits_at m) should)) h in
        let rest = and_parts (list_all (λ q. q context) (fold_queries (query_fits_at m) must_not)) (list_all (λ q. q context) (fold_queries (query_fits_at m) should)) parts.1 in
        and_from _ _ (and_from _ _ (all_below context must parts.0) (all_below context must_not rest.0)) (all_below context should rest.1)
    fits_below context (query.Nested' path one inner) h = only_below (path + 1) inner (and_parts (is_path_beneath m context path) (fold_only (query_fits_at m) inner (path + 1)) h).1

    all_below : {n : _} (context : ℕ) (qs : Row_of-Query n) → list_all (λ q. q context) (fold_queries (query_fits_at m) qs) ≡ true → list_all (λ b. b) (fold_queries (looks_below_at (length m.fields)) qs) ≡ true
    all_below context end_of-Query h = refl
    all_below context (more_of-Query q rest) h =
        let parts = and_parts (query_fits m context q) (list_all (λ q. q context) (fold_queries (query_fits_at m) rest)) h in
        and_from _ _ (fits_below context q parts.0) (all_below context rest parts.1)

    only_below : (context : ℕ) (qs : Row_of-Query 1) → fold_only (query_fits_at m) qs context ≡ true → fold_only (looks_below_at (length m.fields)) qs ≡ true
    only_below context (more_of-Query q rest) h = fits_below context q h
