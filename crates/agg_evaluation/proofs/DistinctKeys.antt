-- A row has each of its keys once, ascending.
use Rattle.std.specs.Prelude.{ℕ, ◌+◌, ◌<◌, Bool, true, false, cond, not, ◌&&◌, T, List, [], ◌∷◌, ◌++◌, map, filter, flat_map, length, if◌then◌else◌, Option, is_some}
use Rattle.std.specs.List.{list_any, enumerate_from}
use Rattle.std.specs.declared.cmp.Ordering.TheVariants.{Less}
use Rattle.std.specs.Ordering.{is_lt}
use Rattle.std.specs.Cmp.{nat_cmp_is}
use Rattle.std.proofs.Common.{subst, arith}
use Rattle.agg_model.specs.declared.key.Key.{Key}
use Rattle.agg_model.specs.declared.key.Key.TheVariants.{Fixed, Many}
use Rattle.agg_model.specs.declared.query.Query.{Query}
use Rattle.agg_model.specs.declared.aggregation.Spacing.TheVariants.{Numbers, Dates}
use Rattle.agg_model.specs.declared.aggregation.Kind.{Kind}
use Rattle.agg_model.specs.declared.aggregation.Kind.TheVariants as kind
use Rattle.agg_evaluation.specs.KeyOrder.{key_cmp}
use Rattle.agg_model.specs.ValueKeys.{scalar_key}
use Rattle.agg_evaluation.specs.Rows.{PlacedRow, has_value}
use Rattle.agg_evaluation.specs.Matching.{matches}
use Rattle.agg_evaluation.specs.Keys.{keys, distinct_keys, filter_keys, single_key, values_or, interval_key, is_included, is_between, combinations, source_keys}
use Rattle.agg_evaluation.specs.Trees.{is_ascending}
use Rattle.agg_evaluation.proofs.Computing.{computing}
use Rattle.agg_evaluation.proofs.KeyLists.{is_below, ascending-distinct_keys, ascending-filter}
use Rattle.list_laws.proofs.Booleans.{both}

pub fixed_less : (i j : ℕ) → i < j → T (is_lt (key_cmp (Fixed i) (Fixed j)))
unfolding computing
fixed_less i j h = subst (λ r. T (is_lt r)) (nat_cmp_is i j Less h) tt

-- the places of the items that pass, before keys that are at least the end
module _ {A : Type 0} (p : A → Bool) where
  places : ℕ → List A → List Key → List Key
  places n xs last = map (λ q. Fixed q.0) (filter (λ q. p q.1) (enumerate_from n xs)) ++ last

  below-places : (j n : ℕ) (xs : List A) (last : List Key) → j < n → T (is_below (Fixed j) last) → T (is_below (Fixed j) (places n xs last))
  unfolding places
  below-places j n [] last h g = g
  below-places j n (x ∷ xs) last h g =
      let rest = below-places j (n + 1) xs last (omega arith) g in
      elim (p x) as (λ b. T (is_below (Fixed j) (map (λ q. Fixed q.0) (cond b ((n, x) ∷ filter (λ q. p q.1) (enumerate_from (n + 1) xs)) (filter (λ q. p q.1) (enumerate_from (n + 1) xs))) ++ last))) [
        | true ↦ both _ _ (fixed_less j n h) rest
        | false ↦ rest
      ]

  -- the last keys are ascending, and each place is below them
  ascending-places : (n : ℕ) (xs : List A) (last : List Key) → T (is_ascending last) → ((j : ℕ) → j < n + length xs → T (is_below (Fixed j) last)) → T (is_ascending (places n xs last))
  unfolding places
  ascending-places n [] last up g = up
  ascending-places n (x ∷ xs) last up g =
      let rest = ascending-places (n + 1) xs last up (λ j h. g j (omega arith)) in
      elim (p x) as (λ b. T (is_ascending (map (λ q. Fixed q.0) (cond b ((n, x) ∷ filter (λ q. p q.1) (enumerate_from (n + 1) xs)) (filter (λ q. p q.1) (enumerate_from (n + 1) xs))) ++ last))) [
        | true ↦ both _ _ (below-places n (n + 1) xs last (omega arith) (g n (omega arith))) rest
        | false ↦ rest
      ]

ascending-filter_keys : (holds : Query → Bool) (filters : List Query) (other : Option (List ℕ)) → T (is_ascending (filter_keys holds filters other))
unfolding places
ascending-filter_keys holds filters other =
    elim (is_some other && not (list_any holds filters)) as (λ b. T (is_ascending (map (λ q. Fixed q.0) (filter (λ q. holds q.1) (enumerate_from 0 filters)) ++ (if b then Fixed (length filters) ∷ [] else [])))) [
      | true ↦ ascending-places holds 0 filters (Fixed (length filters) ∷ []) tt (λ j h. both _ _ (fixed_less j (length filters) (omega arith)) tt)
      | false ↦ ascending-places holds 0 filters [] tt (λ j h. tt)
    ]

ascending-single : (b : Bool) → T (is_ascending (single_key b))
ascending-single true = tt
ascending-single false = tt

pub ascending-keys : (all : List PlacedRow) (k : Kind) (row : PlacedRow) → T (is_ascending (keys all k row))
ascending-keys all (kind.Terms field size shard_size min_doc_count order include exclude missing show_error) row =
    ascending-filter (is_included include exclude) (distinct_keys (map scalar_key (values_or field missing row))) (ascending-distinct_keys (map scalar_key (values_or field missing row)))
ascending-keys all (kind.Histogram field interval offset min_doc_count extended hard keyed order missing) row =
    ascending-filter (is_between hard) (distinct_keys (flat_map (interval_key (Numbers interval offset)) (values_or field missing row))) (ascending-distinct_keys (flat_map (interval_key (Numbers interval offset)) (values_or field missing row)))
ascending-keys all (kind.DateHistogram field period zone min_doc_count extended hard keyed order missing) row =
    ascending-filter (is_between hard) (distinct_keys (flat_map (interval_key (Dates period zone)) (values_or field missing row))) (ascending-distinct_keys (flat_map (interval_key (Dates period zone)) (values_or field missing row)))
ascending-keys all (kind.Filters names filters other) row = ascending-filter_keys (λ q. matches all q row) filters other
ascending-keys all (kind.Filter query) row = ascending-single (matches all query row)
ascending-keys all (kind.Missing field) row = ascending-single (not (has_value field row))
ascending-keys all (kind.Composite sources size after) row = ascending-distinct_keys (map Many (combinations (map (source_keys row) sources)))
ascending-keys all kind.Global row = tt
ascending-keys all (kind.Nested context) row = tt
ascending-keys all (kind.ReverseNested context) row = tt
ascending-keys all (kind.Sum field missing) row = tt
ascending-keys all (kind.Min field missing) row = tt
ascending-keys all (kind.Max field missing) row = tt
ascending-keys all (kind.Avg field missing) row = tt
ascending-keys all (kind.ValueCount field missing) row = tt
