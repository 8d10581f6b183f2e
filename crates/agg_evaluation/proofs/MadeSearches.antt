-- What follows for a search that is made for a mapping: intervals that have a length, and global aggregations at the top alone.
use Rattle.std.specs.Prelude.{◌≡◌, refl, ℕ, ◌^◌, List, [], ◌∷◌, map, Bool, true, false, not, ◌&&◌, ◌||◌, nat_le, nat_lt}
use Rattle.std.specs.List.{list_all}
use Rattle.std.proofs.Common.{arith}
use Rattle.std.proofs.Math.Bool.{Bool-set}
use Rattle.std.proofs.Math.Logic.{∥∥₁_elim}
use Rattle.std.proofs.lemmas.Bool.{false≢true, and_parts, and_from}
use Rattle.std.proofs.lemmas.Bool.Decides.{nat_tests}
use Rattle.agg_model.specs.declared.mapping.Mapping.{Mapping}
use Rattle.agg_model.specs.declared.aggregation.Agg.{Agg, Agg', Row_of-Agg, end_of-Agg, more_of-Agg}
use Rattle.agg_model.specs.declared.aggregation.Spacing.TheVariants.{Dates}
use Rattle.agg_model.specs.declared.aggregation.Kind.{Kind}
use Rattle.agg_model.specs.declared.aggregation.Kind.TheVariants as kind
use Rattle.agg_model.specs.declared.aggregation.Search.{Search}
use Rattle.agg_evaluation.specs.Folds.{fold_aggs}
use Rattle.agg_evaluation.specs.Placement.{has_globals_at_top, is_placed, is_placed_at}
use Rattle.agg_evaluation.specs.Trace.{is_global}
use Rattle.agg_evaluation.specs.QueryFits.{query_fits}
use Rattle.agg_evaluation.specs.SearchFits.{kind_fits, Made, made_at, is_made, is_metric, no_children, handed, agg_fits, search_fits, is_whole_field, is_date_field, is_interval, orders_fit, IsMade}
use Rattle.agg_evaluation.specs.Conditions.{has_interval, has_intervals, is_spaced}
use Rattle.agg_model.specs.BoundsOrder.{is_at_most, lies_within}

interval_of : (m : Mapping) (top : Bool) (context : ℕ) (children : List Kind) (k : Kind) → kind_fits m top context children k ≡ true → has_interval k ≡ true
interval_of m top context children (kind.Histogram field interval offset least extended hard keyed order missing) h =
    let rest = is_at_most extended.min extended.max && (is_at_most hard.min hard.max && (lies_within extended hard && orders_fit children order)) in
    let first = and_parts (is_whole_field m field missing) ((is_interval interval && nat_lt offset interval) && rest) h in
    let made = and_parts (is_interval interval && nat_lt offset interval) rest first.1 in
    let low = (and_parts (nat_le 1 interval) (nat_lt interval (2 ^ 63)) (and_parts (is_interval interval) (nat_lt offset interval) made.0).0).0 in
    grind (arith, nat_tests, low)
interval_of m top context children (kind.DateHistogram field period zone least extended hard keyed order missing) h =
    let rest = is_at_most extended.min extended.max && (is_at_most hard.min hard.max && (lies_within extended hard && orders_fit children order)) in
    let first = and_parts (is_date_field m field missing) (is_spaced (Dates period zone) extended hard && rest) h in
    (and_parts (is_spaced (Dates period zone) extended hard) rest first.1).0
interval_of m top context children (kind.Terms a b c d n f g h i) e = refl
interval_of m top context children (kind.Filters a b c) e = refl
interval_of m top context children (kind.Filter a) e = refl
interval_of m top context children (kind.Missing a) e = refl
interval_of m top context children kind.Global e = refl
interval_of m top context children (kind.Nested a) e = refl
interval_of m top context children (kind.ReverseNested a) e = refl
interval_of m top context children (kind.Composite a b c) e = refl
interval_of m top context children (kind.Sum a b) e = refl
interval_of m top context children (kind.Min a b) e = refl
interval_of m top context children (kind.Max a b) e = refl
interval_of m top context children (kind.Avg a b) e = refl
interval_of m top context children (kind.ValueCount a b) e = refl

module _ (m : Mapping) where
  pub made_parts : (k : Kind) (children : List Made) (top : Bool) (context : ℕ) → is_made m k children top context ≡ true → (kind_fits m top context (map (λ c. c.kind) children) k ≡ true) × (list_all (λ c. c.fits false (handed context k)) children ≡ true)
  made_parts k children top context h =
      let first = and_parts (kind_fits m top context (map (λ c. c.kind) children) k) ((not (is_metric k) || no_children children) && list_all (λ c. c.fits false (handed context k)) children) h in
      (first.0, (and_parts (not (is_metric k) || no_children children) (list_all (λ c. c.fits false (handed context k)) children) first.1).1)

  mutual
    intervals_of : (top : Bool) (context : ℕ) (a : Agg) → agg_fits m top context a ≡ true → has_intervals a ≡ true
    intervals_of top context (Agg' name k n children) h =
        let parts = made_parts k (fold_aggs (made_at m) children) top context h in
        and_from _ _ (interval_of m top context (map (λ c. c.kind) (fold_aggs (made_at m) children)) k parts.0) (all_intervals (handed context k) children parts.1)

    all_intervals : {n : _} (context : ℕ) (cs : Row_of-Agg n) → list_all (λ c. c.fits false context) (fold_aggs (made_at m) cs) ≡ true → list_all (λ has. has) (fold_aggs (λ a. has_interval a.kind && list_all (λ has. has) a.children) cs) ≡ true
    all_intervals context end_of-Agg h = refl
    all_intervals context (more_of-Agg c rest) h =
        let parts = and_parts (agg_fits m false context c) (list_all (λ c. c.fits false context) (fold_aggs (made_at m) rest)) h in
        and_from _ _ (intervals_of false context c parts.0) (all_intervals context rest parts.1)

  each_has : (them : List Agg) → list_all (agg_fits m true 0) them ≡ true → list_all has_intervals them ≡ true
  each_has [] h = refl
  each_has (a ∷ rest) h = let parts = and_parts (agg_fits m true 0 a) (list_all (agg_fits m true 0) rest) h in and_from _ _ (intervals_of true 0 a parts.0) (each_has rest parts.1)

  pub search_intervals : (s : Search) → search_fits m s ≡ true → list_all has_intervals s.aggs ≡ true
  search_intervals s h = each_has s.aggs (and_parts (query_fits m 0 s.query) (list_all (agg_fits m true 0) s.aggs) h).1

  -- global aggregations stand at the top alone
  place_of : (top : Bool) (context : ℕ) (children : List Kind) (k : Kind) → kind_fits m top context children k ≡ true → (top || not (is_global k)) ≡ true
  place_of true context children k h = refl
  place_of false context children kind.Global h = absurd (false≢true h)
  place_of false context children (kind.Histogram a b c d n f g h i) e = refl
  place_of false context children (kind.DateHistogram a b c d n f g h i) e = refl
  place_of false context children (kind.Terms a b c d n f g h i) e = refl
  place_of false context children (kind.Filters a b c) e = refl
  place_of false context children (kind.Filter a) e = refl
  place_of false context children (kind.Missing a) e = refl
  place_of false context children (kind.Nested a) e = refl
  place_of false context children (kind.ReverseNested a) e = refl
  place_of false context children (kind.Composite a b c) e = refl
  place_of false context children (kind.Sum a b) e = refl
  place_of false context children (kind.Min a b) e = refl
  place_of false context children (kind.Max a b) e = refl
  place_of false context children (kind.Avg a b) e = refl
  place_of false context children (kind.ValueCount a b) e = refl

  mutual
    placed_of : (top : Bool) (context : ℕ) (a : Agg) → agg_fits m top context a ≡ true → is_placed a top ≡ true
    placed_of top context (Agg' name k n children) h =
        let parts = made_parts k (fold_aggs (made_at m) children) top context h in
        and_from _ _ (place_of top context (map (λ c. c.kind) (fold_aggs (made_at m) children)) k parts.0) (all_placed (handed context k) children parts.1)

    all_placed : {n : _} (context : ℕ) (cs : Row_of-Agg n) → list_all (λ c. c.fits false context) (fold_aggs (made_at m) cs) ≡ true → list_all (λ child. child false) (fold_aggs is_placed_at cs) ≡ true
    all_placed context end_of-Agg h = refl
    all_placed context (more_of-Agg c rest) h =
        let parts = and_parts (agg_fits m false context c) (list_all (λ c. c.fits false context) (fold_aggs (made_at m) rest)) h in
        and_from _ _ (placed_of false context c parts.0) (all_placed context rest parts.1)

  each_placed : (them : List Agg) → list_all (agg_fits m true 0) them ≡ true → list_all (λ a. is_placed a true) them ≡ true
  each_placed [] h = refl
  each_placed (a ∷ rest) h = let parts = and_parts (agg_fits m true 0 a) (list_all (agg_fits m true 0) rest) h in and_from _ _ (placed_of true 0 a parts.0) (each_placed rest parts.1)

  pub search_placed : (s : Search) → search_fits m s ≡ true → has_globals_at_top s ≡ true
  search_placed s h = each_placed s.aggs (and_parts (query_fits m 0 s.query) (list_all (agg_fits m true 0) s.aggs) h).1

pub made_intervals : (s : Search) → IsMade s → list_all has_intervals s.aggs ≡ true
made_intervals s made = ∥∥₁_elim made (Bool-set _ _) (λ m. search_intervals m.0 s m.1)

pub made_globals : (s : Search) → IsMade s → has_globals_at_top s ≡ true
made_globals s made = ∥∥₁_elim made (Bool-set _ _) (λ m. search_placed m.0 s m.1)
