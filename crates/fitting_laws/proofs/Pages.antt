-- The next page of a search that is made for a mapping is one as well.
use Rattle.std.specs.Prelude.{◌≡◌, refl, ℕ, List, [], ◌∷◌, map, length, Bool, true, false, not, ◌&&◌, ◌||◌, nat_le}
use Rattle.std.specs.List.{list_all}
use Rattle.std.specs.Option.{option_map_or}
use Rattle.std.proofs.Common.{sym, ◌∙◌, ap}
use Rattle.std.proofs.lemmas.Bool.{and_parts, and_from}
use Rattle.agg_model.specs.declared.mapping.Mapping.{Mapping}
use Rattle.agg_model.specs.declared.key.Key.{Key}
use Rattle.agg_model.specs.declared.aggregation.Agg.{Agg, out-Agg}
use Rattle.agg_model.specs.declared.aggregation.Kind.{Kind}
use Rattle.agg_model.specs.declared.aggregation.Kind.TheVariants as kind
use Rattle.agg_model.specs.declared.aggregation.Search.{Search}
use Rattle.agg_evaluation.specs.Folds.{fold_agg}
use Rattle.agg_spec.specs.Pages.{kind_after, agg_after, search_after}
use Rattle.fitting_laws.specs.Pages.{takes, search_takes}
use Rattle.agg_evaluation.specs.QueryFits.{query_fits}
use Rattle.agg_evaluation.specs.CompositeKeys.{is_composite_of}
use Rattle.agg_evaluation.specs.SearchFits.{kind_fits, source_fits, Made, made_at, is_made, is_metric, no_children, handed, agg_fits, search_fits}
use Rattle.agg_evaluation.proofs.AggFolds.{fold_agg-roll, fold_agg-level}

composite_after : (m : Mapping) (top : Bool) (context : ℕ) (children : List Kind) (k : Kind) (key : Key) → takes key k ≡ true → kind_fits m top context children k ≡ true → kind_fits m top context children (kind_after key k) ≡ true
composite_after m top context children (kind.Composite sources size after) key t h =
    let a = and_parts top (nat_le 1 (length sources) && (nat_le (length sources) 16 && (list_all (source_fits m) sources && (nat_le 1 size && (nat_le size 65536 && option_map_or (is_composite_of (length sources)) after true))))) h in
    let b = and_parts (nat_le 1 (length sources)) (nat_le (length sources) 16 && (list_all (source_fits m) sources && (nat_le 1 size && (nat_le size 65536 && option_map_or (is_composite_of (length sources)) after true)))) a.1 in
    let c = and_parts (nat_le (length sources) 16) (list_all (source_fits m) sources && (nat_le 1 size && (nat_le size 65536 && option_map_or (is_composite_of (length sources)) after true))) b.1 in
    let d = and_parts (list_all (source_fits m) sources) (nat_le 1 size && (nat_le size 65536 && option_map_or (is_composite_of (length sources)) after true)) c.1 in
    let e = and_parts (nat_le 1 size) (nat_le size 65536 && option_map_or (is_composite_of (length sources)) after true) d.1 in
    let f = and_parts (nat_le size 65536) (option_map_or (is_composite_of (length sources)) after true) e.1 in
    and_from _ _ a.0 (and_from _ _ b.0 (and_from _ _ c.0 (and_from _ _ d.0 (and_from _ _ e.0 (and_from _ _ f.0 t)))))
composite_after m top context children (kind.Terms a b c d n f g h i) key t e = e
composite_after m top context children (kind.Histogram a b c d n f g h i) key t e = e
composite_after m top context children (kind.DateHistogram a b c d n f g h i) key t e = e
composite_after m top context children (kind.Filters a b c) key t e = e
composite_after m top context children (kind.Filter a) key t e = e
composite_after m top context children (kind.Missing a) key t e = e
composite_after m top context children kind.Global key t e = e
composite_after m top context children (kind.Nested a) key t e = e
composite_after m top context children (kind.ReverseNested a) key t e = e
composite_after m top context children (kind.Sum a b) key t e = e
composite_after m top context children (kind.Min a b) key t e = e
composite_after m top context children (kind.Max a b) key t e = e
composite_after m top context children (kind.Avg a b) key t e = e
composite_after m top context children (kind.ValueCount a b) key t e = e

same_metric : (key : Key) (k : Kind) → is_metric (kind_after key k) ≡ is_metric k
same_metric key (kind.Composite sources size after) = refl
same_metric key (kind.Terms a b c d n f g h i) = refl
same_metric key (kind.Histogram a b c d n f g h i) = refl
same_metric key (kind.DateHistogram a b c d n f g h i) = refl
same_metric key (kind.Filters a b c) = refl
same_metric key (kind.Filter a) = refl
same_metric key (kind.Missing a) = refl
same_metric key kind.Global = refl
same_metric key (kind.Nested a) = refl
same_metric key (kind.ReverseNested a) = refl
same_metric key (kind.Sum a b) = refl
same_metric key (kind.Min a b) = refl
same_metric key (kind.Max a b) = refl
same_metric key (kind.Avg a b) = refl
same_metric key (kind.ValueCount a b) = refl

same_handed : (context : ℕ) (key : Key) (k : Kind) → handed context (kind_after key k) ≡ handed context k
same_handed context key (kind.Composite sources size after) = refl
same_handed context key (kind.Terms a b c d n f g h i) = refl
same_handed context key (kind.Histogram a b c d n f g h i) = refl
same_handed context key (kind.DateHistogram a b c d n f g h i) = refl
same_handed context key (kind.Filters a b c) = refl
same_handed context key (kind.Filter a) = refl
same_handed context key (kind.Missing a) = refl
same_handed context key kind.Global = refl
same_handed context key (kind.Nested a) = refl
same_handed context key (kind.ReverseNested a) = refl
same_handed context key (kind.Sum a b) = refl
same_handed context key (kind.Min a b) = refl
same_handed context key (kind.Max a b) = refl
same_handed context key (kind.Avg a b) = refl
same_handed context key (kind.ValueCount a b) = refl

module _ (m : Mapping) (key : Key) where
  made_after : (k : Kind) (children : List Made) (top : Bool) (context : ℕ) → takes key k ≡ true → is_made m k children top context ≡ true → is_made m (kind_after key k) children top context ≡ true
  made_after k children top context t h =
      let first = and_parts (kind_fits m top context (map (λ c. c.kind) children) k) ((not (is_metric k) || no_children children) && list_all (λ c. c.fits false (handed context k)) children) h in
      let rest = and_parts (not (is_metric k) || no_children children) (list_all (λ c. c.fits false (handed context k)) children) first.1 in
      and_from _ _ (composite_after m top context (map (λ c. c.kind) children) k key t first.0)
      (and_from _ _ (ap (λ b. not b || no_children children) (same_metric key k) ∙ rest.0) (ap (λ (w : ℕ). list_all (λ (c : Made). c.fits false w) children) (same_handed context key k) ∙ rest.1))

  agg_next : (top : Bool) (context : ℕ) (a : Agg) → takes key (out-Agg a).kind ≡ true → agg_fits m top context a ≡ true → agg_fits m top context (agg_after key a) ≡ true
  agg_next top context a t h =
      let children = map (fold_agg (made_at m)) (out-Agg a).children in
      ap (λ (x : Made). x.fits top context) (fold_agg-roll (made_at m) (out-Agg a).name (kind_after key (out-Agg a).kind) (out-Agg a).children)
      ∙ made_after (out-Agg a).kind children top context t (ap (λ (x : Made). x.fits top context) (sym (fold_agg-level (made_at m) a)) ∙ h)

  all_next : (them : List Agg) → list_all (λ a. takes key (out-Agg a).kind) them ≡ true → list_all (agg_fits m true 0) them ≡ true → list_all (agg_fits m true 0) (map (agg_after key) them) ≡ true
  all_next [] t h = refl
  all_next (a ∷ rest) t h =
      let ts = and_parts (takes key (out-Agg a).kind) (list_all (λ a. takes key (out-Agg a).kind) rest) t in
      let hs = and_parts (agg_fits m true 0 a) (list_all (agg_fits m true 0) rest) h in
      and_from _ _ (agg_next true 0 a ts.0 hs.0) (all_next rest ts.1 hs.1)

  pub search_next : (s : Search) → search_takes key s ≡ true → search_fits m s ≡ true → search_fits m (search_after s key) ≡ true
  search_next s t h =
      let parts = and_parts (query_fits m 0 s.query) (list_all (agg_fits m true 0) s.aggs) h in
      and_from _ _ parts.0 (all_next s.aggs t parts.1)
