-- Prepared filters stand for the aggregation.
use Rattle.std.proofs.Common.{◌≡◌, refl, ℕ, ◌<◌, ◌≤◌, Bool, true, false, not, List, [], ◌∷◌, length, map, get_or, sym, ◌∙◌, ap, subst, arith}
use Rattle.std.specs.Prelude.{◌&&◌, ◌||◌, ◌==◌, Option, is_some, nat_le}
use Rattle.std.specs.List.{list_all}
use Rattle.std.specs.Option.{option_map_or}
use Rattle.std.proofs.Math.Logic.{∥∥₁_map}
use Rattle.std.proofs.lemmas.Bool.{and_parts}
use Rattle.std.proofs.lemmas.List.{length-map}
use Rattle.agg_model.specs.declared.key.Key.TheVariants.{Fixed}
use Rattle.agg_model.specs.declared.limits.TheConstants.{MAX_FILTERS}
use Rattle.agg_model.specs.declared.mapping.Mapping.{Mapping}
use Rattle.agg_model.specs.declared.query.Query.{Query}
use Rattle.agg_model.specs.declared.aggregation.Kind.{Kind}
use Rattle.agg_model.specs.declared.aggregation.Kind.TheVariants as kind
use Rattle.agg_evaluation.specs.Keys.{keys, single_key}
use Rattle.agg_evaluation.specs.Matching.{matches}
use Rattle.agg_evaluation.specs.QueryFits.{query_fits}
use Rattle.agg_evaluation.specs.Rows.{PlacedRow, row_of, has_value}
use Rattle.agg_evaluation.specs.SearchFits.{kind_fits, filters_made}
use Rattle.column_query.specs.Made.{IsMade}
use Rattle.column_query.specs.Prepared.{says, reads_below, AreReady, IsReady as IsReadyQuery}
use Rattle.column_query.specs.declared.prepared.Prepared.{Prepared}
use Rattle.column_query.specs.declared.prepared.Prepared.TheVariants as prepared
use Rattle.column_query.proofs.PreparedCases.{all_at, says-Bool, reads-Bool}
use Rattle.shard_columns.specs.Columns.{Columns}
use Rattle.filters_agg.specs.Filtering.{IsFiltering, IsMadeFor, AreMadeFor}
use Rattle.filters_agg.specs.Numbers.{numbers_where}
use Rattle.filters_agg.specs.PreparedFilters.{IsReady}
use Rattle.filters_agg.proofs.Numbers.{keys-are}

filters_fit : (m : Mapping) (context : ℕ) (names : Option (List (List ℕ))) (filters : List Query) → filters_made m context names filters ≡ true → list_all (query_fits m context) filters ≡ true
filters_fit m context names filters h =
    let first = and_parts (nat_le 1 (length filters)) (nat_le (length filters) MAX_FILTERS && (option_map_or (λ ns. length ns == length filters) names true && list_all (query_fits m context) filters)) h in
    let second = and_parts (nat_le (length filters) MAX_FILTERS) (option_map_or (λ ns. length ns == length filters) names true && list_all (query_fits m context) filters) first.1 in
    (and_parts (option_map_or (λ ns. length ns == length filters) names true) (list_all (query_fits m context) filters) second.1).1

module _ (shard : Columns) where
  abbrev rows : List PlacedRow
  rows = shard.rows

  pub made-filters : (k : Kind) (names : Option (List (List ℕ))) (filters : List Query) (other : Option (List ℕ)) → k ≡ kind.Filters names filters other → IsMadeFor shard k → AreMadeFor shard filters
  made-filters k names filters other is made =
      ∥∥₁_map made (λ found.
      (found.0, (found.1.1.0, (found.1.1.1.1.0, filters_fit found.0 found.1.1.0 names filters (ap (kind_fits found.0 found.1.0 found.1.1.0 found.1.1.1.0) (sym is) ∙ found.1.1.1.1.1)))))

  pub made-filter : (k : Kind) (query : Query) → k ≡ kind.Filter query → IsMadeFor shard k → IsMade shard query
  made-filter k query is made =
      ∥∥₁_map made (λ found. (found.1.1.0, ∣ (found.0, (found.1.1.1.1.0, ap (kind_fits found.0 found.1.0 found.1.1.0 found.1.1.1.0) (sym is) ∙ found.1.1.1.1.1)) ∣₁))

  pub made-one : (queries : List Query) (n : ℕ) (q : Query) → AreMadeFor shard queries → n < length queries → q ≡ get_or queries n q → IsMade shard q
  made-one queries n q are below is =
      ∥∥₁_map are (λ found. (found.1.0, ∣ (found.0, (found.1.1.0, all_at (query_fits found.0 found.1.0) queries n q below is found.1.1.1)) ∣₁))

  pub ready-Filters : (k : Kind) (names : Option (List (List ℕ))) (filters : List Query) (other : Option (List ℕ)) (ps : List Prepared) (has_other : Bool) → k ≡ kind.Filters names filters other
      → IsFiltering k → AreReady shard filters ps → has_other ≡ is_some other → IsReady shard k (record { filters = ps; has_other = has_other })
  ready-Filters k names filters other ps has_other is filtering are other_is = record {
    filtering = filtering;
    fields = are.fields;
    few = (let few : length filters ≤ MAX_FILTERS = subst IsFiltering is filtering in
        let here = length-map ps (λ (p : Prepared). says rows p (row_of rows 0)) in
        let there = length-map filters (λ (q : Query). matches rows q (row_of rows 0)) in
        let same = ap length (are.same 0) in
        omega arith);
    same = λ n.
        (λ i. map Fixed (numbers_where (other_is i) (are.same n i)))
        ∙ (sym (keys-are (λ q. matches rows q (row_of rows n)) filters other)
        ∙ ap (λ (x : Kind). keys rows x (row_of rows n)) (sym is));
  }

  one_number : (b : Bool) → map Fixed (numbers_where false (b ∷ [])) ≡ single_key b
  one_number true = refl
  one_number false = refl

  ready-one : (k : Kind) (p : Prepared) (ps : List Prepared) → IsFiltering k → ps ≡ p ∷ [] → reads_below (length shard.kinds) p ≡ true
      → ((n : ℕ) → single_key (says rows p (row_of rows n)) ≡ keys rows k (row_of rows n)) → IsReady shard k (record { filters = ps; has_other = false })
  ready-one k p ps filtering is reads same = record {
    filtering = filtering;
    fields = ap (list_all (reads_below (length shard.kinds))) is ∙ ap (λ (b : Bool). b && true) reads;
    few = (let one = ap length is in omega arith);
    same = λ n. ap (λ (qs : List Prepared). map Fixed (numbers_where false (map (λ (q : Prepared). says rows q (row_of rows n)) qs))) is ∙ (one_number (says rows p (row_of rows n)) ∙ same n);
  }

  pub ready-Filter : (k : Kind) (query : Query) (p : Prepared) (ps : List Prepared) → k ≡ kind.Filter query → IsFiltering k → IsReadyQuery shard query p → ps ≡ p ∷ [] → IsReady shard k (record { filters = ps; has_other = false })
  ready-Filter k query p ps is filtering ready one =
      ready-one k p ps filtering one ready.fields (λ n. ap single_key (ready.same n) ∙ ap (λ (x : Kind). keys rows x (row_of rows n)) (sym is))

  without : (b : Bool) → (true && not (b || false) && true) ≡ not b
  without true = refl
  without false = refl

  pub ready-Missing : (k : Kind) (field : ℕ) (p : Prepared) (ps : List Prepared) → k ≡ kind.Missing field → IsFiltering k → p ≡ prepared.Bool [] (prepared.Exists field ∷ []) [] 0 → ps ≡ p ∷ []
      → IsReady shard k (record { filters = ps; has_other = false })
  ready-Missing k field p ps is filtering missing one =
      ready-one k p ps filtering one (ap (reads_below (length shard.kinds)) missing ∙ reads-Bool (length shard.kinds) [] (prepared.Exists field ∷ []) [] 0)
      (λ n. ap single_key (ap (λ (x : Prepared). says rows x (row_of rows n)) missing ∙ (says-Bool rows (row_of rows n) [] (prepared.Exists field ∷ []) [] 0 ∙ without (has_value field (row_of rows n)))) ∙ ap (λ (x : Kind). keys rows x (row_of rows n)) (sym is))
