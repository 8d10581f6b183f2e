-- Aggregations that are made for a shard's mapping can be prepared, and what is prepared level by level is prepared.
use Rattle.std.specs.Prelude.{◌≡◌, refl, ℕ, ℤ, Bool, zero, suc, ◌≤◌, ◌<◌, ◌^◌, ◌+◌, List, [], ◌∷◌, ◌++◌, length, map, take, slice_get, Option, Some, None, option_and_then, sum_by, nat_le}
use Rattle.std.proofs.Common.{sym, ◌∙◌, ap, subst, arith, get_or}
use Rattle.std.proofs.Math.Bool.{Bool-set}
use Rattle.std.proofs.Math.Logic.{∥∥₁_elim}
use Rattle.std.proofs.lemmas.Bool.{and_parts, ltb-true, lt-ltb, leb-true}
use Rattle.std.proofs.lemmas.List.{length-take-le}
use Rattle.std.proofs.lemmas.List.Sums.{sum_by-cons, sum_by-append}
use denote.Param.Weighed.{most, at_most}
use Rattle.list_laws.proofs.Lists.{map-append}
use Rattle.list_laws.proofs.Options.{none_some, some_same}
use Rattle.agg_model.specs.declared.aggregation.Agg.{Agg, out-Agg, size-Agg}
use Rattle.agg_model.specs.declared.aggregation.Agg.TheViews.{size_is-Agg}
use Rattle.agg_model.specs.declared.aggregation.Kind.{Kind}
use Rattle.agg_model.specs.declared.aggregation.Bounds.{Bounds}
use Rattle.agg_model.specs.declared.aggregation.Kind.TheVariants as kind
use Rattle.agg_model.specs.declared.aggregation.Order.{Order}
use Rattle.agg_model.specs.declared.aggregation.Spacing.{Spacing}
use Rattle.agg_model.specs.declared.aggregation.Spacing.TheVariants.{Numbers, Dates}
use Rattle.agg_model.specs.declared.limits.TheConstants.{MAX_FILTERS}
use Rattle.agg_model.specs.declared.query.Query.{Query}
use Rattle.agg_model.specs.declared.row.Scalar.{Scalar}
use Rattle.agg_model.specs.Options.{TermsOptions, HistogramOptions, terms_kind}
use Rattle.agg_evaluation.specs.Cost.{node_cost}
use Rattle.agg_evaluation.specs.SearchFits.{kind_fits}
use Rattle.agg_evaluation.specs.Whole.{empty_node}
use Rattle.date_agg.proofs.Made.{made-dated, made-dates}
use Rattle.date_agg.specs.Codes.{IsDated}
use Rattle.date_agg.specs.Dates.{IsOverDates}
use Rattle.date_spec.specs.declared.period.Period.{Period}
use Rattle.filters_agg.specs.Filtering.{IsFiltering, IsMadeFor}
use Rattle.histogram_agg.proofs.Made.{made-spaced}
use Rattle.histogram_agg.specs.Codes.{IsSpaced}
use Rattle.shard_columns.specs.Columns.{Columns}
use Rattle.terms_agg.proofs.Made.{made-terms}
use Rattle.terms_agg.specs.Prepared.{IsTerms}
use Rattle.growing_tree.specs.Readiness.{AreReadyFor, IsKindReady, IsLevelReady, IsReadyFor, agg_at, ready_at}
use Rattle.growing_tree.specs.declared.ready.Ready.{Ready, out-Ready, roll-Ready, out-roll-Ready}
use Rattle.growing_tree.specs.declared.ready.Ready.TheOpen.{Ready-F}
use Rattle.growing_tree.proofs.Steps.{item-at, take-more}

module _ (shard : Columns) where
  pub terms-made : (k : Kind) (t : TermsOptions) → k ≡ terms_kind t → IsMadeFor shard k → IsTerms shard k
  terms-made k t is made =
      subst (IsTerms shard) (sym is)
      (record {
        known = ltb-true t.field (length shard.kinds) (∥∥₁_elim made (Bool-set _ _) (λ found.
            lt-ltb t.field (length shard.kinds) (made-terms found.0 found.1.1.1.0 t (ap (kind_fits found.0 found.1.0 found.1.1.0 found.1.1.1.0) (sym is) ∙ found.1.1.1.1.1) shard found.1.1.1.1.0).known));
        missing_fits = λ v there. ∥∥₁_elim made (Bool-set _ _) (λ found.
            (made-terms found.0 found.1.1.1.0 t (ap (kind_fits found.0 found.1.0 found.1.1.0 found.1.1.1.0) (sym is) ∙ found.1.1.1.1.1) shard found.1.1.1.1.0).missing_fits v there);
      })

  -- the options of a histogram, of which this is the spacing
  abbrev pub spaced : Spacing → ℕ → ℕ → Bounds → Bounds → Bool → List Order → Option Scalar → HistogramOptions
  spaced spacing field min_doc_count extended hard keyed order missing = record {
    field = field;
    spacing = spacing;
    min_doc_count = min_doc_count;
    extended = extended;
    hard = hard;
    keyed = keyed;
    order = order;
    missing = missing;
  }

  pub histogram-made : (k : Kind) (field interval offset min_doc_count : ℕ) (extended hard : Bounds) (keyed : Bool) (order : List Order) (missing : Option Scalar)
      → k ≡ kind.Histogram field interval offset min_doc_count extended hard keyed order missing → IsMadeFor shard k → IsSpaced k
  histogram-made k field interval offset min_doc_count extended hard keyed order missing is made =
      let h = spaced (Numbers interval offset) field min_doc_count extended hard keyed order missing in
      subst IsSpaced (sym is) (
        ltb-true offset interval (∥∥₁_elim made (Bool-set _ _) (λ found.
            lt-ltb offset interval (made-spaced found.0 found.1.1.1.0 h interval offset refl (ap (kind_fits found.0 found.1.0 found.1.1.0 found.1.1.1.0) (sym is) ∙ found.1.1.1.1.1)).0)),
        ltb-true interval (2 ^ 63) (∥∥₁_elim made (Bool-set _ _) (λ found.
            lt-ltb interval (2 ^ 63) (made-spaced found.0 found.1.1.1.0 h interval offset refl (ap (kind_fits found.0 found.1.0 found.1.1.0 found.1.1.1.0) (sym is) ∙ found.1.1.1.1.1)).1)),
      )

  -- a date histogram can be prepared, and its field is one of dates
  pub dates-made : (k : Kind) (field : ℕ) (period : Period) (zone : ℤ) (min_doc_count : ℕ) (extended hard : Bounds) (keyed : Bool) (order : List Order) (missing : Option Scalar)
      → k ≡ kind.DateHistogram field period zone min_doc_count extended hard keyed order missing → IsMadeFor shard k → IsDated k × IsOverDates shard k
  dates-made k field period zone min_doc_count extended hard keyed order missing is made =
      let h = spaced (Dates period zone) field min_doc_count extended hard keyed order missing in (
        subst IsDated (sym is) (∥∥₁_elim made (Bool-set _ _) (λ found.
            made-dated found.0 found.1.1.1.0 h period zone refl (ap (kind_fits found.0 found.1.0 found.1.1.0 found.1.1.1.0) (sym is) ∙ found.1.1.1.1.1))),
        subst (IsOverDates shard) (sym is) (∥∥₁_elim made (Bool-set _ _) (λ found.
            made-dates found.0 shard found.1.1.1.0 h period zone refl found.1.1.1.1.0 (ap (kind_fits found.0 found.1.0 found.1.1.0 found.1.1.1.0) (sym is) ∙ found.1.1.1.1.1))),
      )

  pub filters-made : (k : Kind) (names : Option (List (List ℕ))) (filters : List Query) (other : Option (List ℕ)) → k ≡ kind.Filters names filters other → IsMadeFor shard k → IsFiltering k
  filters-made k names filters other is made =
      subst IsFiltering (sym is)
      (leb-true (length filters) MAX_FILTERS (∥∥₁_elim made (Bool-set _ _) (λ found.
      (and_parts (nat_le (length filters) MAX_FILTERS) _ (and_parts (nat_le 1 (length filters)) _ (ap (kind_fits found.0 found.1.0 found.1.1.0 found.1.1.1.0) (sym is) ∙ found.1.1.1.1.1)).1).0)))

-- a child is smaller than its aggregation
pub child-smaller : (a : Agg) (i : ℕ) (c : Agg) → i < length (out-Agg a).children → c ≡ get_or (out-Agg a).children i c → size-Agg c < size-Agg a
child-smaller a i c within is =
    let below = subst (λ x. size-Agg x ≤ most size-Agg (out-Agg a).children) (sym is) (at_most size-Agg (out-Agg a).children i c within) in
    omega (arith, size_is-Agg a)

module _ (shard : Columns) where
  -- one more aggregation that is prepared
  pub ready-push : (aggs : List Agg) (rs : List Ready) (a : Agg) (r : Ready) → length rs ≡ length aggs → AreReadyFor shard aggs rs → IsReadyFor shard a r → AreReadyFor shard (aggs ++ a ∷ []) (rs ++ r ∷ [])
  ready-push [] [] a r l all here zero b s e f =
      subst (λ x. IsReadyFor shard x s) (some_same a b e) (subst (IsReadyFor shard a) (some_same r s f) here)
  ready-push [] [] a r l all here (suc n) b s e f = none_some b e
  ready-push [] (q ∷ rs) a r l all here n b s e f = absurd (omega arith)
  ready-push (x ∷ aggs) [] a r l all here n b s e f = absurd (omega arith)
  ready-push (x ∷ aggs) (q ∷ rs) a r l all here zero b s e f = all zero b s e f
  ready-push (x ∷ aggs) (q ∷ rs) a r l all here (suc n) b s e f = ready-push aggs rs a r (omega arith) (λ m. all (suc m)) here n b s e f

  -- a level that is prepared, over children that are
  pub ready-over : (a : Agg) (r : Ready) → IsLevelReady shard a r → AreReadyFor shard (out-Agg a).children (out-Ready r).children → IsReadyFor shard a r
  ready-over a r here below [] b s e f =
      subst (λ x. IsLevelReady shard x s) (some_same a b e) (subst (IsLevelReady shard a) (some_same r s f) here)
  ready-over a r here below (n ∷ way) b s e f = at (slice_get (out-Agg a).children n) (slice_get (out-Ready r).children n) refl refl e f
    where
      at : (o : Option Agg) (p : Option Ready) → slice_get (out-Agg a).children n ≡ o → slice_get (out-Ready r).children n ≡ p
          → option_and_then (agg_at way) o ≡ Some b → option_and_then (ready_at way) p ≡ Some s → IsLevelReady shard b s
      at None p g h e f = none_some b e
      at (Some c) None g h e f = none_some s f
      at (Some c) (Some q) g h e f = below n c q g h way b s e f

  -- a prepared aggregation is made of what its kind and its children need
  pub made-ready : (a : Agg) (r : Ready-F Ready) → IsKindReady shard (out-Agg a).kind r.kind → r.child_bytes ≡ sum_by node_cost (map empty_node (out-Agg a).children)
      → length r.children ≡ length (out-Agg a).children → AreReadyFor shard (out-Agg a).children r.children → IsReadyFor shard a (roll-Ready r)
  made-ready a r kind bytes many below =
      ready-over a (roll-Ready r)
      (record {
        kind = subst (λ (x : Ready-F Ready). IsKindReady shard (out-Agg a).kind x.kind) (sym (out-roll-Ready r)) kind;
        child_bytes = ap (λ (x : Ready-F Ready). x.child_bytes) (out-roll-Ready r) ∙ bytes;
        many = ap (λ (x : Ready-F Ready). length x.children) (out-roll-Ready r) ∙ many;
      })
      (subst (λ (x : Ready-F Ready). AreReadyFor shard (out-Agg a).children x.children) (sym (out-roll-Ready r)) below)

  -- the aggregations up to the next one are prepared
  pub ready-more : (aggs : List Agg) (i : ℕ) (a : Agg) (rs more : List Ready) (r : Ready) → i < length aggs → a ≡ get_or aggs i a → length rs ≡ i → more ≡ rs ++ r ∷ []
      → AreReadyFor shard (take i aggs) rs → IsReadyFor shard a r → AreReadyFor shard (take (i + 1) aggs) more
  ready-more aggs i a rs more r within is many pushed all here =
      let full : length (take i aggs) ≡ i = length-take-le i aggs (omega arith) in
      subst (λ xs. AreReadyFor shard xs more) (sym (take-more aggs i a (item-at aggs i a within is)))
      (subst (AreReadyFor shard (take i aggs ++ a ∷ [])) (sym pushed) (ready-push (take i aggs) rs a r (omega arith) all here))

-- what aggregations side by side cost before their first row, with one more
pub bytes-more : (aggs : List Agg) (i : ℕ) (a : Agg) → i < length aggs → a ≡ get_or aggs i a
    → sum_by node_cost (map empty_node (take (i + 1) aggs)) ≡ sum_by node_cost (map empty_node (take i aggs)) + node_cost (empty_node a)
bytes-more aggs i a within is =
    let more = ap (λ (xs : List Agg). sum_by node_cost (map empty_node xs)) (take-more aggs i a (item-at aggs i a within is)) in
    let split = ap (sum_by node_cost) (map-append empty_node (take i aggs) (a ∷ [])) in
    let added = sum_by-append node_cost (map empty_node (take i aggs)) (empty_node a ∷ []) in
    let one = sum_by-cons node_cost (empty_node a) [] in
    omega arith
