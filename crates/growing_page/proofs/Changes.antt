-- What one key makes of a page: a bucket with more rows, or one more bucket and maybe one less.
use Rattle.std.specs.Prelude.{◌≡◌, ◌<◌, ◌+◌, true, false, List, Option, Some, ◌++◌, length, get_or, slice_get, slice_set, sum_by, is_some, nat_le, option_to_list}
use Rattle.std.specs.List.{insert}
use Rattle.std.specs.Option.{option_map_or}
use Rattle.std.proofs.Common.{sym, ◌∙◌, ap, subst, arith}
use Rattle.agg_model.specs.declared.aggregation.Kind.{Kind}
use Rattle.agg_model.specs.declared.key.Key.{Key}
use Rattle.agg_model.specs.declared.partial.Node.{Node}
use Rattle.agg_evaluation.specs.CompositeKeys.{is_composite_of}
use Rattle.agg_evaluation.specs.Rows.{PlacedRow}
use Rattle.agg_evaluation.specs.Shard.{sorted_by_key}
use Rattle.composite_agg.specs.FirstPages.{empty_page, is_composite}
use Rattle.composite_agg.specs.Runs.{AreFilled, IsGapFor, IsSpotOf, Run, in_runs, place_in}
use Rattle.composite_agg.specs.declared.runs.Spot.{Spot}
use Rattle.composite_agg.proofs.InRuns.{filled-set, got, set-in}
use Rattle.growth_laws.specs.BucketBytes.{bucket_bytes}
use Rattle.growth_laws.specs.Gathering.{Gatherer, gathered_bucket, kept_buckets, put_rows}
use Rattle.list_laws.proofs.Booleans.{holds}
use Rattle.growing_page.specs.GrowingPages.{AreKept, IsCosted, IsPageOf, buckets_of, held_key, is_refused, shown, shown_all, sources_of}
use Rattle.growing_page.specs.declared.page.Held.{Held}
use Rattle.growing_page.specs.declared.page.Page.{Page}
use Rattle.growing_page.proofs.Moves.{buckets-changed, buckets-entered, cost-changed, cost-entered, each-got, got-at, kept-changed, kept-entered, length-changed}
use Rattle.growing_page.proofs.Putting.{fresh}

module _ (k : Kind) (composite : is_composite k ≡ true) (ds : List (Node → Node)) (gs : List Gatherer) (rows : List PlacedRow) (q : Key) (p : Page) (page : IsPageOf k ds p) (parts : is_composite_of (length (sources_of k)) q ≡ true) where
  abbrev rs : List (Run Held)
  rs = p.runs.items

  -- a bucket with more rows
  module _ (s : Spot) (found : IsSpotOf held_key rs q s) (v : Run Held) (h : Held) (is-v : v ≡ get_or rs s.run v) (is-h : h ≡ get_or v.items s.at h) where
    there : h ≡ get_or (in_runs rs) (place_in rs s.run s.at) h
    there = is-h ∙ ap (λ (w : Run Held). get_or w.items s.at h) is-v ∙ sym (got rs s.run s.at v found.place.there h (found.there v))

    here : slice_get (in_runs rs) (place_in rs s.run s.at) ≡ Some h
    here = got-at (in_runs rs) (place_in rs s.run s.at) h found.among there

    key_is : held_key h ≡ q
    key_is = ap held_key there ∙ found.is_key h

    pub costs-there : IsCosted ds h
    costs-there = each-got (IsCosted ds) (in_runs rs) (place_in rs s.run s.at) h here page.kept.costs

    module _ (more : Held) (grown : shown ds more ≡ gathered_bucket gs rows (shown ds h)) (other : Run Held) (set : other.items ≡ slice_set v.items s.at more) where
      runs_are : in_runs (slice_set rs s.run other) ≡ slice_set (in_runs rs) (place_in rs s.run s.at) more
      runs_are = set-in rs s.run s.at v found.place.there other more (found.there v) (set ∙ ap (λ (w : Run Held). slice_set w.items s.at more) is-v)

      some : 0 < length other.items
      some =
          let n = ap length set ∙ length-changed v.items s.at more in
          let below : s.at < length v.items = subst (λ (w : Run Held). s.at < length w.items) (sym is-v) (found.there v) in
          omega (arith, n, below)

      pub buckets-grown : sorted_by_key (shown_all ds (in_runs (slice_set rs s.run other))) ≡ kept_buckets k (put_rows gs rows q (sorted_by_key (shown_all ds (in_runs rs))))
      buckets-grown = ap (λ (hs : List Held). sorted_by_key (shown_all ds hs)) runs_are ∙ buckets-changed k composite ds gs rows q (in_runs rs) page.kept parts (place_in rs s.run s.at) h more here key_is grown

      pub page-grown : {after : Page} → after.runs.items ≡ slice_set rs s.run other → after.held ≡ p.held → IsCosted ds more → IsPageOf k ds after
      page-grown e f costed =
          let is = ap in_runs e ∙ runs_are in
          record {
            kept = subst (AreKept k ds) (sym is) (kept-changed k composite ds gs rows q (in_runs rs) page.kept parts (place_in rs s.run s.at) h more here key_is grown costed);
            runs = subst AreFilled (sym e) (filled-set rs s.run other some page.runs);
            count = f ∙ page.count ∙ sym (ap length is ∙ length-changed (in_runs rs) (place_in rs s.run s.at) more);
          }

      pub cost-grown : (added : _) → IsCosted ds more → more.bytes ≡ h.bytes + added → sum_by bucket_bytes (shown_all ds (in_runs (slice_set rs s.run other))) ≡ sum_by bucket_bytes (shown_all ds (in_runs rs)) + added
      cost-grown added costed e =
          ap (λ (hs : List Held). sum_by bucket_bytes (shown_all ds hs)) runs_are
          ∙ cost-changed k composite ds gs rows q (in_runs rs) page.kept parts (place_in rs s.run s.at) h more here key_is grown added costed e

  -- one more bucket, and maybe one less
  module _ (inside : is_refused (empty_page k) (in_runs rs) q ≡ false) (s : Spot) (gap : IsGapFor held_key (sources_of k) rs q s) (h : Held) (new_is : shown ds h ≡ fresh gs rows q) (costed : IsCosted ds h)
      (after : Page) (left : Option Held) (moved : insert (in_runs rs) (place_in rs s.run s.at) h ≡ buckets_of after ++ option_to_list left)
      (full : is_some left ≡ nat_le (empty_page k).size (length (in_runs rs))) where
    pub buckets-put : sorted_by_key (shown_all ds (buckets_of after)) ≡ kept_buckets k (put_rows gs rows q (sorted_by_key (shown_all ds (in_runs rs))))
    buckets-put = buckets-entered k composite ds gs rows q (in_runs rs) page.kept parts inside (place_in rs s.run s.at) h new_is costed (holds _ gap.before) (holds _ gap.behind) (buckets_of after) left moved full

    pub page-put : AreFilled after.runs.items → after.held ≡ length (buckets_of after) → IsPageOf k ds after
    page-put filled count = record {
      kept = kept-entered k composite ds gs rows q (in_runs rs) page.kept parts inside (place_in rs s.run s.at) h new_is costed (holds _ gap.before) (holds _ gap.behind) (buckets_of after) left moved full;
      runs = filled;
      count = count;
    }

    pub cost-put : sum_by bucket_bytes (shown_all ds (buckets_of after)) + option_map_or (λ x. x.bytes) left 0 ≡ sum_by bucket_bytes (shown_all ds (in_runs rs)) + h.bytes
    cost-put = cost-entered k composite ds gs rows q (in_runs rs) page.kept parts inside (place_in rs s.run s.at) h new_is costed (holds _ gap.before) (holds _ gap.behind) (buckets_of after) left moved full
