-- Searches that are read are made for the mapping.
use Rattle.std.specs.Prelude.{◌≡◌, refl, ℕ, zero, suc, ◌+◌, List, [], ◌∷◌, ◌++◌, map, length, slice_get, Option, Some, None, Ok, Bool, true, false, not, ◌&&◌, ◌||◌, ⊤, cond, nat_le, IfOk, codes, unwrap_or, is_some}
use Rattle.std.specs.List.{list_all}
use Rattle.std.specs.Option.{option_map_or}
use Rattle.std.proofs.Common.{sym, ◌∙◌, ap, arith, length-append}
use Rattle.std.proofs.lemmas.Bool.{false≢true, and_parts, and_from}
use Rattle.std.proofs.lemmas.List.Folds.{list_all-append}
use Rattle.serde_json.specs.Data.{Data, Members, no_members, member}
use Rattle.serde_json.specs.Find.{get_member}
use Rattle.agg_model.specs.declared.limits.TheConstants.{MAX_AGGREGATIONS}
use Rattle.agg_model.specs.declared.mapping.Mapping.{Mapping}
use Rattle.agg_model.specs.declared.aggregation.Kind.{Kind}
use Rattle.agg_model.specs.declared.aggregation.Kind.TheVariants as kind
use Rattle.agg_model.specs.declared.aggregation.Order.{Order}
use Rattle.agg_reading.specs.declared.names.KindName.{KindName}
use Rattle.agg_reading.specs.declared.names.KindName.TheVariants as name
use Rattle.agg_reading.specs.declared.parts.NamedOrder.{NamedOrder}
use Rattle.agg_reading.specs.Reading.{Reading, refuse, or_refuse}
use Rattle.agg_reading.specs.Pointer.{member_step}
use Rattle.agg_reading.specs.Json.{object_at, known, json_at, optional}
use Rattle.agg_reading.specs.Numbers.{truth_at}
use Rattle.agg_reading.specs.Terms.{terms_at}
use Rattle.agg_reading.specs.Histogram.{histogram_at}
use Rattle.agg_reading.specs.DateHistogram.{date_histogram_at}
use Rattle.agg_reading.specs.Metrics.{Metered, number_metric_at, extreme_at, any_metric_at, missing_kind_at, global_at, nested_context_at, outer_context_at}
use Rattle.agg_reading.specs.Orders.{with_order, child_from, or_else, child_named, compared_by, resolved}
use Rattle.agg_model.specs.Options.{is_sortable}
use Rattle.agg_reading.specs.Aggregations as aggregations
use Rattle.agg_reading.specs.Query.{Counted, top_query_at}
use Rattle.agg_model.specs.declared.aggregation.Agg.{Agg, roll-Agg, out-Agg}
use Rattle.agg_model.specs.declared.aggregation.Search.{Search}
use Rattle.agg_model.specs.declared.aggregation.OrderBy.{OrderBy}
use Rattle.agg_model.specs.declared.aggregation.OrderBy.TheVariants as by
use Rattle.agg_evaluation.specs.Folds.{fold_agg}
use Rattle.agg_reading.specs.declared.parts.Counts.{Counts}
use Rattle.agg_reading.specs.declared.parts.ReadKind.{ReadKind}
use Rattle.std.specs.Str.{bytes_eq}
use Rattle.agg_reading.specs.After.{composite_at}
use Rattle.agg_reading.specs.Aggregations.{kind_name, kind_at, kind_member, is_aggregation_name, has_both, children_name}
use Rattle.agg_reading.specs.declared.names.PipeName.{PipeName}
use Rattle.agg_reading.specs.declared.pipes.ReadItem.{ReadItem}
use Rattle.agg_reading.specs.declared.pipes.ReadItem.TheVariants as read_item
use Rattle.agg_reading.specs.declared.pipes.ReadPipeKind.{ReadPipeKind}
use Rattle.agg_reading.specs.declared.pipes.Siblings.{Siblings}
use Rattle.agg_reading.specs.Pipelines.{pipe_name, pipe_kind_at}
use Rattle.agg_reading.specs.PipePaths.{Around, around_of, fitted_pipes}
use Rattle.agg_reading.specs.Request.{Aggregated, no_siblings, with_item, has_no_item, aggregations_from, aggregations_at, children_of, children_in, is_childless, placed, assembled, assembled_pipe, counts_after, one_more, kind_of, pipe_of, item_of, aggregation_of, aggregation_at, body_members, query_or_all, no_counts, search_in, search_value_at, search_of}
use Rattle.agg_evaluation.specs.SearchFits.{Made, no_children, made_at, agg_fits, search_fits, by_fits, is_missing, order_fits, is_whole_field, is_around, is_within, kind_fits, is_metric, is_top, handed}
use Rattle.agg_evaluation.proofs.AggFolds.{fold_agg-roll, fold_agg-level}
use Rattle.fitting_laws.proofs.CompositeReads.{composite_read}
use Rattle.fitting_laws.proofs.OtherReads.{filters_read, missing_read, global_read, nested_read, outer_read}
use Rattle.agg_reading.specs.Filters.{filters_at}
use Rattle.agg_reading.proofs.Steps.{then_ok, next_ok, if_ok}
use Rattle.agg_evaluation.specs.QueryFits.{query_fits, field_is}
use Rattle.agg_model.specs.FieldKinds.{is_number_kind}
use Rattle.fitting_laws.proofs.Queries.{top_query_fits, or_refuse_ok}
use Rattle.fitting_laws.proofs.KindReads.{weaken, number_metric_ok, extreme_ok, any_metric_ok, KindRead, PairRead, terms_read, histogram_read}
use Rattle.fitting_laws.proofs.PeriodReads.{date_histogram_read}

-- the kinds

module _ (m : Mapping) (context : ℕ) where
  abbrev Read : KindName → ReadKind → Type 0
  Read n r = KindRead m context n r.kind (length r.order) r.within

  filter_read : (queries : ℕ) (at : List ℕ) (d : Data) → IfOk (kind_at name.Filter m context queries at d) (Read name.Filter)
  unfolding kind_at with_order
  filter_read queries at d =
      next_ok (λ (q : Counted). query_fits m context q.0 ≡ true) (Read name.Filter) (top_query_at m context queries at d) _ (top_query_fits m context queries at d) (λ q a.
      record { ready = λ children os e h. a; metric = λ os. refl; top = λ os. refl; within_is = λ os. refl })

  kind_read : (n : KindName) (queries : ℕ) (at : List ℕ) (d : Data) → IfOk (kind_at n m context queries at d) (Read n)
  unfolding kind_at with_order
  kind_read name.Terms queries at d = next_ok (PairRead m context name.Terms) (Read name.Terms) (terms_at m at d) _ (terms_read m context at d) (λ k r. r)
  kind_read name.Histogram queries at d = next_ok (PairRead m context name.Histogram) (Read name.Histogram) (histogram_at m at d) _ (histogram_read m context at d) (λ k r. r)
  kind_read name.DateHistogram queries at d = next_ok (PairRead m context name.DateHistogram) (Read name.DateHistogram) (date_histogram_at m at d) _ (date_histogram_read m context at d) (λ k r. r)
  kind_read name.Filters queries at d = next_ok (λ (f : Kind × ℕ). KindRead m context name.Filters f.0 0 context) (Read name.Filters) (filters_at m context queries at d) _ (filters_read m context queries at d) (λ k r. r)
  kind_read name.Filter queries at d = filter_read queries at d
  kind_read name.Missing queries at d = next_ok (λ k. KindRead m context name.Missing k 0 context) (Read name.Missing) (missing_kind_at m at d) _ (missing_read m context at d) (λ k r. r)
  kind_read name.Global queries at d = next_ok (λ k. KindRead m context name.Global k 0 0) (Read name.Global) (global_at at d) _ (global_read m context at d) (λ k r. r)
  kind_read name.Nested queries at d = next_ok (λ inner. is_within m context inner ≡ true) (Read name.Nested) (nested_context_at m context at d) _ (nested_read m context at d) (λ inner r.
      record { ready = λ children os e h. r; metric = λ os. refl; top = λ os. refl; within_is = λ os. refl })
  kind_read name.ReverseNested queries at d = next_ok (λ outer. is_around m context outer ≡ true) (Read name.ReverseNested) (outer_context_at m context at d) _ (outer_read m context at d) (λ outer r.
      record { ready = λ children os e h. r; metric = λ os. refl; top = λ os. refl; within_is = λ os. refl })
  kind_read name.Composite queries at d = next_ok (λ k. KindRead m context name.Composite k 0 context) (Read name.Composite) (composite_at m at d) _ (composite_read m context at d) (λ k r. r)
  kind_read name.Sum queries at d = next_ok (λ (r : Metered). is_whole_field m r.0 r.1 ≡ true) (Read name.Sum) (number_metric_at m at d) _ (number_metric_ok m at d) (λ f r.
      record { ready = λ children os e h. r; metric = λ os. refl; top = λ os. refl; within_is = λ os. refl })
  kind_read name.Min queries at d = next_ok (λ (r : Metered). field_is m (λ k. is_number_kind k && is_missing k r.1) r.0 ≡ true) (Read name.Min) (extreme_at m at d) _ (extreme_ok m at d) (λ f r.
      record { ready = λ children os e h. r; metric = λ os. refl; top = λ os. refl; within_is = λ os. refl })
  kind_read name.Max queries at d = next_ok (λ (r : Metered). field_is m (λ k. is_number_kind k && is_missing k r.1) r.0 ≡ true) (Read name.Max) (extreme_at m at d) _ (extreme_ok m at d) (λ f r.
      record { ready = λ children os e h. r; metric = λ os. refl; top = λ os. refl; within_is = λ os. refl })
  kind_read name.Avg queries at d = next_ok (λ (r : Metered). is_whole_field m r.0 r.1 ≡ true) (Read name.Avg) (number_metric_at m at d) _ (number_metric_ok m at d) (λ f r.
      record { ready = λ children os e h. r; metric = λ os. refl; top = λ os. refl; within_is = λ os. refl })
  kind_read name.ValueCount queries at d = next_ok (λ (r : Metered). field_is m (λ k. is_missing k r.1) r.0 ≡ true) (Read name.ValueCount) (any_metric_at m at d) _ (any_metric_ok m at d) (λ f r.
      record { ready = λ children os e h. r; metric = λ os. refl; top = λ os. refl; within_is = λ os. refl })

-- orders by a child

abbrev kinds_of : List Agg → List Kind
kinds_of children = map (λ c. (out-Agg c).kind) children

child_found : (ending : List ℕ) (n : ℕ) (name : List ℕ) (children : List Agg) (i : ℕ) → child_from ending n name children ≡ Some i → (k : ℕ) × (i ≡ n + k) × (option_map_or is_sortable (slice_get (kinds_of children) k) false ≡ true)
unfolding child_from
child_found ending n name [] i e = absurd (false≢true (ap is_some e))
child_found ending n name (a ∷ rest) i e =
    elim (bytes_eq name ((out-Agg a).name ++ ending) && is_sortable (out-Agg a).kind) as (λ b. (bytes_eq name ((out-Agg a).name ++ ending) && is_sortable (out-Agg a).kind) ≡ b → cond b (Some n) (child_from ending (n + 1) name rest) ≡ Some i
    → (k : ℕ) × (i ≡ n + k) × (option_map_or is_sortable (slice_get (kinds_of (a ∷ rest)) k) false ≡ true)) [
      | true ↦ λ t h. let place : n ≡ i = ap (λ (o : Option ℕ). unwrap_or o i) h in (0, omega (arith, place), (and_parts (bytes_eq name ((out-Agg a).name ++ ending)) (is_sortable (out-Agg a).kind) t).1)
      | false ↦ λ t h. let r = child_found ending (n + 1) name rest i h in (suc r.0, omega (arith, r.1), r.2)
    ] refl e

from_start : (ending name : List ℕ) (children : List Agg) (i : ℕ) → child_from ending 0 name children ≡ Some i → by_fits (kinds_of children) (by.Child i) ≡ true
from_start ending name children i e =
    let r = child_found ending 0 name children i e in
    let place : r.0 ≡ i = omega (arith, r.1) in
    ap (λ (n : ℕ). option_map_or is_sortable (slice_get (kinds_of children) n) false) (sym place) ∙ r.2

named_fits : (name : List ℕ) (children : List Agg) (i : ℕ) → child_named name children ≡ Some i → by_fits (kinds_of children) (by.Child i) ≡ true
unfolding child_named
named_fits name children i e =
    elim (child_from [] 0 name children) as (λ o. child_from [] 0 name children ≡ o → or_else o (child_from (codes ".value") 0 name children) ≡ Some i → by_fits (kinds_of children) (by.Child i) ≡ true) [
      | None ↦ λ t h. from_start (codes ".value") name children i h
      | Some n ↦ λ t h. from_start [] name children i (t ∙ h)
    ] refl e

compared_ok : (children : List Agg) (o : NamedOrder) → IfOk (compared_by children o) (λ what. by_fits (kinds_of children) what ≡ true)
unfolding compared_by
compared_ok children o =
    let P : OrderBy → Type 0 = λ what. by_fits (kinds_of children) what ≡ true in
    if_ok P (bytes_eq o.name (codes "_count")) (Ok by.Count) _ (λ e. refl) (λ e.
    if_ok P (bytes_eq o.name (codes "_key")) (Ok by.Key) _ (λ e. refl) (λ e.
    next_ok (λ n. by_fits (kinds_of children) (by.Child n) ≡ true) P (or_refuse 113 o.at (child_named o.name children)) _ (or_refuse_ok (λ n. by_fits (kinds_of children) (by.Child n) ≡ true) 113 o.at (child_named o.name children) (named_fits o.name children)) (λ n h. h)))

abbrev OrdersOk : List Agg → ℕ → List Order → Type 0
OrdersOk children n os = (length os ≡ n) × (list_all (order_fits (kinds_of children)) os ≡ true)

resolved_ok : (children : List Agg) (done : List Order) (os : List NamedOrder) → list_all (order_fits (kinds_of children)) done ≡ true → IfOk (resolved children done os) (OrdersOk children (length done + length os))
unfolding resolved
resolved_ok children done [] h = (omega arith, h)
resolved_ok children done (o ∷ os) h =
    next_ok (λ what. by_fits (kinds_of children) what ≡ true) (OrdersOk children (length done + suc (length os))) (compared_by children o) _ (compared_ok children o) (λ what a.
    let one : Order = record { by = what; descending = o.descending } in
    let more = length-append done (one ∷ []) in
    weaken (OrdersOk children (length (done ++ one ∷ []) + length os)) (OrdersOk children (length done + suc (length os))) (resolved children (done ++ one ∷ []) os)
    (resolved_ok children (done ++ one ∷ []) os (list_all-append (order_fits (kinds_of children)) done (one ∷ []) ∙ and_from _ _ h (and_from _ _ a refl)))
    (λ r l. (omega (arith, more, l.0), l.1)))

-- an aggregation

below_top : (m : Mapping) (context : ℕ) (children : List Kind) (k : Kind) → kind_fits m true context children k ≡ true → is_top k ≡ false → kind_fits m false context children k ≡ true
below_top m context children (kind.Terms a b c d n f g h i) fit e = fit
below_top m context children (kind.Histogram a b c d n f g h i) fit e = fit
below_top m context children (kind.DateHistogram a b c d n f g h i) fit e = fit
below_top m context children (kind.Filters a b c) fit e = fit
below_top m context children (kind.Filter a) fit e = fit
below_top m context children (kind.Missing a) fit e = fit
below_top m context children kind.Global fit e = absurd (false≢true (sym e))
below_top m context children (kind.Nested a) fit e = fit
below_top m context children (kind.ReverseNested a) fit e = fit
below_top m context children (kind.Composite a b c) fit e = absurd (false≢true (sym e))
below_top m context children (kind.Sum a b) fit e = fit
below_top m context children (kind.Min a b) fit e = fit
below_top m context children (kind.Max a b) fit e = fit
below_top m context children (kind.Avg a b) fit e = fit
below_top m context children (kind.ValueCount a b) fit e = fit

module _ (m : Mapping) where
  abbrev made : Agg → Made
  made = fold_agg (made_at m)

  kinds_same : (children : List Agg) → map (λ (c : Made). c.kind) (map made children) ≡ kinds_of children
  kinds_same [] = refl
  kinds_same (c ∷ cs) = λ i. (fold_agg-level (made_at m) c i).kind ∷ kinds_same cs i

  fits_same : (context : ℕ) (children : List Agg) → list_all (λ (c : Made). c.fits false context) (map made children) ≡ list_all (agg_fits m false context) children
  fits_same context [] = refl
  fits_same context (c ∷ cs) = ap (λ b. agg_fits m false context c && b) (fits_same context cs)

  childless_same : (children : List Agg) → no_children (map made children) ≡ has_no_item children
  childless_same [] = refl
  childless_same (c ∷ cs) = refl

  roll_fits : (top : Bool) (context : ℕ) (name : List ℕ) (k : Kind) (children : List Agg) → kind_fits m top context (kinds_of children) k ≡ true → (not (is_metric k) || has_no_item children) ≡ true
      → list_all (agg_fits m false (handed context k)) children ≡ true → agg_fits m top context (roll-Agg (record { name = name; kind = k; children = children })) ≡ true
  roll_fits top context name k children a b c =
      ap (λ (x : Made). x.fits top context) (fold_agg-roll (made_at m) name k children)
      ∙ and_from _ _ (ap (λ ks. kind_fits m top context ks k) (kinds_same children) ∙ a) (and_from _ _ (ap (λ t. not (is_metric k) || t) (childless_same children) ∙ b) (fits_same (handed context k) children ∙ c))

  -- a pipeline fits anywhere
  abbrev ItemFit : Bool → ℕ → ReadItem → Type 0
  ItemFit top context (read_item.Aggregation a pipes) = agg_fits m top context a ≡ true
  ItemFit top context (read_item.Pipeline p) = ⊤

  abbrev AggFit : Bool → ℕ → ReadItem × Counts → Type 0
  AggFit top context a = ItemFit top context a.0

  abbrev AllFit : Bool → ℕ → Aggregated → Type 0
  AllFit top context r = list_all (agg_fits m top context) r.0.aggs ≡ true

  abbrev ReadsAgg : Bool → (ℕ → List ℕ → List ℕ → Counts → Data → Reading (ReadItem × Counts)) → Type 0
  ReadsAgg top read = (context : ℕ) (name at : List ℕ) (counts : Counts) (d : Data) → IfOk (read context name at counts d) (AggFit top context)

  module _ (top : Bool) (read : ℕ → List ℕ → List ℕ → Counts → Data → Reading (ReadItem × Counts)) (reads : ReadsAgg top read) where
    item_fits : (context : ℕ) (i : ReadItem) (done : Siblings) → list_all (agg_fits m top context) done.aggs ≡ true → ItemFit top context i → list_all (agg_fits m top context) (with_item i done).aggs ≡ true
    item_fits context (read_item.Aggregation a pipes) done h f = list_all-append (agg_fits m top context) done.aggs (a ∷ []) ∙ and_from _ _ h (and_from _ _ f refl)
    item_fits context (read_item.Pipeline p) done h f = h

    aggregations_fit : (context : ℕ) (at : List ℕ) (done : Siblings) (counts : Counts) (ms : Members) → list_all (agg_fits m top context) done.aggs ≡ true → IfOk (aggregations_from read context at done counts ms) (AllFit top context)
    unfolding aggregations_from
    aggregations_fit context at done counts no_members h = h
    aggregations_fit context at done counts (member k d ms) h =
        if_ok (AllFit top context) (is_aggregation_name k) _ (refuse 112 (at ++ member_step k)) (λ e.
        next_ok (AggFit top context) (AllFit top context) (read context k (at ++ member_step k) counts d) _ (reads context k _ counts d) (λ a f.
        aggregations_fit context at (with_item a.0 done) a.1 ms (item_fits context a.0 done h f))) (λ e. tt)

    children_fit : (context : ℕ) (at : List ℕ) (counts : Counts) (o : Option Data) → IfOk (children_of read context at counts o) (AllFit top context)
    unfolding aggregations_at
    children_fit context at counts None = refl
    children_fit context at counts (Some d) = then_ok (AllFit top context) (object_at 103 at d) _ (λ ms. aggregations_fit context at no_siblings counts ms refl)

    children_in-fit : (context : ℕ) (at : List ℕ) (counts : Counts) (ms : Members) → IfOk (children_in read context at counts ms) (AllFit top context)
    unfolding children_in
    children_in-fit context at counts ms = children_fit context _ counts (get_member (children_name ms) ms)

  abbrev Placed : Bool → KindName → Siblings → Type 0
  Placed top n children = ((aggregations.is_metric n && not (is_childless children)) ≡ false) × ((aggregations.is_top_kind n && not top) ≡ false)

  placed_ok : (top : Bool) (n : KindName) (at : List ℕ) (ms : Members) (children : Siblings) → IfOk (placed top n at ms children) (λ _. Placed top n children)
  unfolding placed
  placed_ok top n at ms children =
      if_ok (λ _. Placed top n children) (aggregations.is_metric n && not (is_childless children)) _ _ (λ e. tt) (λ e.
      if_ok (λ _. Placed top n children) (aggregations.is_top_kind n && not top) _ _ (λ f. tt) (λ f. (e, f)))

  leaf_or : (a b c : Bool) → (a && not (b && c)) ≡ false → (not a || b) ≡ true
  leaf_or true true c e = refl
  leaf_or true false c e = absurd (false≢true (sym e))
  leaf_or false b c e = refl

  not_top : (a : Bool) → (a && true) ≡ false → a ≡ false
  not_top true e = e
  not_top false e = refl

  at_top : (top : Bool) (context : ℕ) (children : List Kind) (k : Kind) (n : KindName) → kind_fits m true context children k ≡ true → is_top k ≡ aggregations.is_top_kind n → (aggregations.is_top_kind n && not top) ≡ false → kind_fits m top context children k ≡ true
  at_top true context children k n fit same e = fit
  at_top false context children k n fit same e = below_top m context children k fit (same ∙ not_top (aggregations.is_top_kind n) e)

  assembled_fits : (top : Bool) (context : ℕ) (n : KindName) (name at : List ℕ) (ms : Members) (found : ReadKind) (children : Aggregated) → Read m context n found → AllFit false found.within children
      → IfOk (assembled top n name at ms found children) (AggFit top context)
  unfolding assembled
  assembled_fits top context n name at ms found children r c =
      next_ok (λ _. Placed top n children.0) (AggFit top context) (placed top n at ms children.0) _ (placed_ok top n at ms children.0) (λ _ p.
      next_ok (OrdersOk children.0.aggs (0 + length found.order)) (AggFit top context) (resolved children.0.aggs [] found.order) _ (resolved_ok children.0.aggs [] found.order refl) (λ order o.
      then_ok (AggFit top context) (fitted_pipes (around_of n) children.0.aggs children.0.pipes) _ (λ pipes.
      roll_fits top context name (with_order order found.kind) children.0.aggs
      (at_top top context (kinds_of children.0.aggs) (with_order order found.kind) n (r.ready (kinds_of children.0.aggs) order (omega (arith, o.0)) o.1) (r.top order) p.1)
      (leaf_or (is_metric (with_order order found.kind)) (has_no_item children.0.aggs) (has_no_item children.0.pipes) (ap (λ b. b && not (is_childless children.0)) (r.metric order) ∙ p.0))
      (ap (λ (w : ℕ). list_all (agg_fits m false w) children.0.aggs) (r.within_is order) ∙ c))))

  pipe-fits : (top : Bool) (context : ℕ) (name at : List ℕ) (ms : Members) (kind : ReadPipeKind) (children : Aggregated) → IfOk (assembled_pipe name at ms kind children) (AggFit top context)
  unfolding assembled_pipe
  pipe-fits top context name at ms kind children = if_ok (AggFit top context) (is_childless children.0) _ _ (λ e. tt) (λ e. tt)

  module _ (read : ℕ → List ℕ → List ℕ → Counts → Data → Reading (ReadItem × Counts)) (reads : ReadsAgg false read) where
    kind_of-fits : (top : Bool) (context : ℕ) (name at : List ℕ) (counts : Counts) (ms : Members) (said : List ℕ × Data) → IfOk (kind_of read m top context name at counts ms said) (AggFit top context)
    unfolding kind_of
    kind_of-fits top context name at counts ms said =
        then_ok (AggFit top context) (or_refuse 106 (at ++ member_step said.0) (kind_name said.0)) _ (λ n.
        next_ok (Read m context n) (AggFit top context) (kind_at n m context counts.queries (at ++ member_step said.0) said.1) _ (kind_read m context n counts.queries (at ++ member_step said.0) said.1) (λ found r.
        next_ok (AllFit false found.within) (AggFit top context) (children_in read found.within at (counts_after found counts) ms) _ (children_in-fit false read reads found.within at (counts_after found counts) ms) (λ children c.
        assembled_fits top context n name at ms found children r c)))

    pipe_of-fits : (top : Bool) (p : PipeName) (context : ℕ) (name at : List ℕ) (counts : Counts) (ms : Members) (said : List ℕ × Data) → IfOk (pipe_of read p context name at counts ms said) (AggFit top context)
    unfolding pipe_of
    pipe_of-fits top p context name at counts ms said =
        then_ok (AggFit top context) (pipe_kind_at p (at ++ member_step said.0) said.1) _ (λ kind.
        then_ok (AggFit top context) (children_in read context at (one_more counts) ms) _ (λ children. pipe-fits top context name at ms kind children))

    item_of-fits : (top : Bool) (p : Option PipeName) (context : ℕ) (name at : List ℕ) (counts : Counts) (ms : Members) (said : List ℕ × Data) → IfOk (item_of read p m top context name at counts ms said) (AggFit top context)
    unfolding item_of
    item_of-fits top (Some p) context name at counts ms said = pipe_of-fits top p context name at counts ms said
    item_of-fits top None context name at counts ms said = kind_of-fits top context name at counts ms said

  agg_of-fits : (top : Bool) (read : ℕ → List ℕ → List ℕ → Counts → Data → Reading (ReadItem × Counts)) → ReadsAgg false read → (context : ℕ) (name at : List ℕ) (counts : Counts) (d : Data) → IfOk (aggregation_of read m top context name at counts d) (AggFit top context)
  unfolding aggregation_of
  agg_of-fits top read reads context name at counts d =
      then_ok (AggFit top context) (object_at 103 at d) _ (λ ms.
      then_ok (AggFit top context) (kind_member at ms) _ (λ said. item_of-fits read reads top (pipe_name said.0) context name at counts ms said))

  agg_at-fits : (left : ℕ) (top : Bool) → ReadsAgg top (aggregation_at left m top)
  unfolding aggregation_at
  agg_at-fits zero top context name at counts d = tt
  agg_at-fits (suc left) top context name at counts d =
      if_ok (AggFit top context) (nat_le MAX_AGGREGATIONS counts.aggregations) (refuse 111 at) _ (λ e. tt) (λ e. agg_of-fits top (aggregation_at left m false) (agg_at-fits left false) context name at counts d)

  -- a search

  or_all_fits : (count : ℕ) (o : Option Data) → IfOk (query_or_all m count o) (λ q. query_fits m 0 q ≡ true)
  or_all_fits count None = refl
  or_all_fits count (Some d) = next_ok (λ (q : Counted). query_fits m 0 q.0 ≡ true) (λ q. query_fits m 0 q ≡ true) (top_query_at m 0 count (member_step (codes "query")) d) _ (top_query_fits m 0 count (member_step (codes "query")) d) (λ q a. a)

  abbrev SearchFits : Search → Type 0
  SearchFits s = search_fits m s ≡ true

  search_in-fits : (bytes : ℕ) (ms : Members) → IfOk (search_in m bytes ms) SearchFits
  unfolding search_in
  search_in-fits bytes ms =
      next_ok (AllFit true 0) SearchFits (children_in (aggregation_at 16 m true) 0 [] no_counts ms) _ (children_in-fit true (aggregation_at 16 m true) (agg_at-fits 16 true) 0 [] no_counts ms) (λ aggs a.
      then_ok SearchFits (optional truth_at (codes "allow_partial_search_results") [] ms) _ (λ partial.
      next_ok (λ q. query_fits m 0 q ≡ true) SearchFits (query_or_all m aggs.1.queries (get_member (codes "query") ms)) _ (or_all_fits aggs.1.queries (get_member (codes "query") ms)) (λ q b.
      then_ok SearchFits (fitted_pipes Around.other aggs.0.aggs aggs.0.pipes) _ (λ pipes. and_from _ _ b a))))

  search_value-fits : (bytes : ℕ) (d : Data) → IfOk (search_value_at m bytes d) SearchFits
  unfolding search_value_at
  search_value-fits bytes d =
      then_ok SearchFits (object_at 100 [] d) _ (λ ms.
      if_ok SearchFits (has_both ms) (refuse 107 []) _ (λ e. tt) (λ e.
      then_ok SearchFits (known 101 body_members [] ms) _ (λ _. search_in-fits bytes ms)))

  pub search_fits_of : (body : List ℕ) → IfOk (search_of m body) SearchFits
  unfolding search_of
  search_fits_of body = then_ok SearchFits (json_at body) _ (λ d. search_value-fits (length body) d)
