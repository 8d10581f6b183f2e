-- Errors and sums of terms at the end of an uncut path, against the true counts.
use Rattle.std.specs.Prelude.{◌≡◌, refl, ℕ, ◌+◌, List, [], ◌∷◌, ◌++◌, length, sum_by, Option, Some, None, slice_get}
use Rattle.std.specs.List.{AllByRecursion}
use Rattle.std.specs.Option.{option_map_or}
use Rattle.std.proofs.Common.{sym, ◌∙◌, ap, subst}
use Rattle.agg_model.specs.declared.key.Key.{Key}
use Rattle.agg_model.specs.declared.aggregation.Agg.{Agg, Agg', out-Agg}
use Rattle.agg_model.specs.declared.aggregation.Search.{Search}
use Rattle.agg_model.specs.declared.aggregation.Kind.TheVariants as kind
use Rattle.agg_model.specs.declared.answer.NodeAnswer.{out-NodeAnswer}
use Rattle.agg_evaluation.specs.Groups.{group, total_key_count}
use Rattle.agg_evaluation.specs.Matching.{matched_roots}
use Rattle.agg_evaluation.specs.Rows.{PlacedRow}
use Rattle.agg_evaluation.specs.TrueCounts.{BucketPath, aggs_at, answered_rows, children_of, counted_rows, group_in, kind_of, rows_at, true_count, true_key_count}
use Rattle.agg_evaluation.specs.Whole.{parts}
use Rattle.agg_evaluation.proofs.Computing.{computing}
use Rattle.list_laws.proofs.Lists.{sum_by-map}
use Rattle.list_laws.proofs.Options.{none_some}
use Rattle.count_laws.specs.Paths.{answered_by_shard}
use Rattle.count_laws.specs.TermsErrors.{IsBoundOfAll, IsTermsByCount, IsWithinError}
use Rattle.count_laws.specs.TermsSums.{answer_of_rows, below_minimum_count, minimum_of_terms, other_count, returned_count, whole_of_rows}
use Rattle.count_laws.proofs.TermsAddUp.{all_key_count, answer_of_rows-adds_up}
use Rattle.count_laws.proofs.TermsWithin.{answer_of_rows-within, true_group_count}

pub some-same : {A : Type 0} {x y : A} → Some x ≡ Some y → x ≡ y
some-same e = cc

-- one step more
pub rows-one_more : (all : List PlacedRow) (path : BucketPath) (aggs : List Agg) (rows : List PlacedRow) (place : ℕ) (key : Key) (a : Agg) → slice_get (aggs_at aggs path) place ≡ Some a
    → rows_at all aggs rows (path ++ (place, key) ∷ []) ≡ group_in all a (rows_at all aggs rows path) key
rows-one_more all [] aggs rows place key a at = ap (λ o. option_map_or (λ b. group_in all b rows key) o []) at
rows-one_more all (step ∷ path) aggs rows place key a at = by (rows-one_more all path) (slice_get aggs step.0) at
  where
    by : ((aggs : List Agg) (rows : List PlacedRow) (place : ℕ) (key : Key) (a : Agg) → slice_get (aggs_at aggs path) place ≡ Some a
        → rows_at all aggs rows (path ++ (place, key) ∷ []) ≡ group_in all a (rows_at all aggs rows path) key)
        → (o : Option Agg) → slice_get (option_map_or (λ a. aggs_at (children_of a) path) o []) place ≡ Some a
        → option_map_or (λ b. rows_at all (children_of b) (group_in all b rows step.1) (path ++ (place, key) ∷ [])) o [] ≡ group_in all a (option_map_or (λ b. rows_at all (children_of b) (group_in all b rows step.1) path) o []) key
    by later None at = absurd (none_some a at)
    by later (Some b) at = later (children_of b) (group_in all b rows step.1) place key a at

-- terms count the rows that they are handed
terms-group : (all : List PlacedRow) (a : Agg) (rows : List PlacedRow) (key : Key) → IsTermsByCount (out-Agg a).kind → group all (out-Agg a).kind rows key ≡ group_in all a rows key
unfolding computing
terms-group all (Agg' name (kind.Terms field size shard_size min_doc_count order include exclude missing show_error) n children) rows key h = refl
terms-group all (Agg' name (kind.Histogram field interval offset min_doc_count extended hard keyed orders missing) n children) rows key h = absurd h
terms-group all (Agg' name (kind.DateHistogram field period zone min_doc_count extended hard keyed orders missing) n children) rows key h = absurd h
terms-group all (Agg' name (kind.Filters names filters other) n children) rows key h = absurd h
terms-group all (Agg' name (kind.Filter query) n children) rows key h = absurd h
terms-group all (Agg' name (kind.Missing field) n children) rows key h = absurd h
terms-group all (Agg' name kind.Global n children) rows key h = absurd h
terms-group all (Agg' name (kind.Nested context) n children) rows key h = absurd h
terms-group all (Agg' name (kind.ReverseNested context) n children) rows key h = absurd h
terms-group all (Agg' name (kind.Composite sources size after) n children) rows key h = absurd h
terms-group all (Agg' name (kind.Sum field missing) n children) rows key h = absurd h
terms-group all (Agg' name (kind.Min field missing) n children) rows key h = absurd h
terms-group all (Agg' name (kind.Max field missing) n children) rows key h = absurd h
terms-group all (Agg' name (kind.Avg field missing) n children) rows key h = absurd h
terms-group all (Agg' name (kind.ValueCount field missing) n children) rows key h = absurd h

-- and so their keys
terms-keys : (all : List PlacedRow) (a : Agg) (rows : List PlacedRow) (min : ℕ) → minimum_of_terms (out-Agg a).kind ≡ Some min → total_key_count all (out-Agg a).kind rows ≡ total_key_count all (kind_of a) (counted_rows all (kind_of a) rows)
unfolding computing
terms-keys all (Agg' name (kind.Terms field size shard_size min_doc_count order include exclude missing show_error) n children) rows min e = refl
terms-keys all (Agg' name (kind.Histogram field interval offset min_doc_count extended hard keyed orders missing) n children) rows min e = absurd (none_some min e)
terms-keys all (Agg' name (kind.DateHistogram field period zone min_doc_count extended hard keyed orders missing) n children) rows min e = absurd (none_some min e)
terms-keys all (Agg' name (kind.Filters names filters other) n children) rows min e = absurd (none_some min e)
terms-keys all (Agg' name (kind.Filter query) n children) rows min e = absurd (none_some min e)
terms-keys all (Agg' name (kind.Missing field) n children) rows min e = absurd (none_some min e)
terms-keys all (Agg' name kind.Global n children) rows min e = absurd (none_some min e)
terms-keys all (Agg' name (kind.Nested context) n children) rows min e = absurd (none_some min e)
terms-keys all (Agg' name (kind.ReverseNested context) n children) rows min e = absurd (none_some min e)
terms-keys all (Agg' name (kind.Composite sources size after) n children) rows min e = absurd (none_some min e)
terms-keys all (Agg' name (kind.Sum field missing) n children) rows min e = absurd (none_some min e)
terms-keys all (Agg' name (kind.Min field missing) n children) rows min e = absurd (none_some min e)
terms-keys all (Agg' name (kind.Max field missing) n children) rows min e = absurd (none_some min e)
terms-keys all (Agg' name (kind.Avg field missing) n children) rows min e = absurd (none_some min e)
terms-keys all (Agg' name (kind.ValueCount field missing) n children) rows min e = absurd (none_some min e)

module _ (request : Search) (shards : List (List PlacedRow)) (path : BucketPath) (place : ℕ) (a : Agg) (at : slice_get (aggs_at request.aggs path) place ≡ Some a) where
  abbrev here : List (List PlacedRow × List PlacedRow)
  here = answered_by_shard request path shards

  group-counts : IsTermsByCount (out-Agg a).kind → (key : Key) → true_group_count a here key ≡ true_count shards request (path ++ (place, key) ∷ [])
  group-counts h key =
      sum_by-map (λ s. length (group s.0 (out-Agg a).kind s.1 key)) (λ all. (all, answered_rows request path all)) shards
      ∙ (λ i. sum_by (λ all. length ((terms-group all a (answered_rows request path all) key h ∙ sym (rows-one_more all path request.aggs (matched_roots all request.query) place key a at)) i)) shards)

  key-counts : (min : ℕ) → minimum_of_terms (out-Agg a).kind ≡ Some min → all_key_count a here ≡ true_key_count shards request path place
  key-counts min e =
      sum_by-map (λ s. total_key_count s.0 (out-Agg a).kind s.1) (λ all. (all, answered_rows request path all)) shards
      ∙ (λ i. sum_by (λ all. terms-keys all a (answered_rows request path all) min e i) shards)
      ∙ ap (λ o. option_map_or (λ a. sum_by (λ all. total_key_count all (kind_of a) (counted_rows all (kind_of a) (answered_rows request path all))) shards) o 0) (sym at)

  pub within : IsTermsByCount (out-Agg a).kind → AllByRecursion (IsWithinError (λ key. true_count shards request (path ++ (place, key) ∷ []))) (out-NodeAnswer (answer_of_rows a here)).buckets
  within h = subst (λ f. AllByRecursion (IsWithinError f) (out-NodeAnswer (answer_of_rows a here)).buckets) (λ i key. group-counts h key i) (answer_of_rows-within a here h).0

  pub bound : IsTermsByCount (out-Agg a).kind → IsBoundOfAll (λ key. true_count shards request (path ++ (place, key) ∷ [])) (parts (whole_of_rows a here)).buckets (answer_of_rows a here)
  bound h = subst (λ f. IsBoundOfAll f (parts (whole_of_rows a here)).buckets (answer_of_rows a here)) (λ i key. group-counts h key i) (answer_of_rows-within a here h).1

  pub adds_up : (min : ℕ) → minimum_of_terms (out-Agg a).kind ≡ Some min
      → returned_count (answer_of_rows a here) + other_count (answer_of_rows a here) + below_minimum_count min (parts (whole_of_rows a here)).buckets ≡ true_key_count shards request path place
  adds_up min e = answer_of_rows-adds_up a min here e ∙ key-counts min e
