-- A row that gets the place of its bucket, which is found or begun for it: what that makes of the buckets, and of what they cost.
use Rattle.std.specs.Prelude.{◌≡◌, refl, ℕ, ℤ, ◌+◌, ◌<◌, ◌≢◌, List, [], ◌∷◌, ◌++◌, All, IsTrue, length, map, sum_by}
use Rattle.std.specs.Global.{Vec}
use Rattle.std.specs.List.{IsDistinct, list_all}
use Rattle.std.specs.Ordering.{int_eq}
use Rattle.std.proofs.Common.{sym, ◌∙◌, ap, arith}
use Rattle.std.proofs.Math.ListN.{get_or, set}
use Rattle.agg_model.specs.declared.aggregation.Agg.{Agg, out-Agg}
use Rattle.agg_model.specs.declared.partial.Bucket.{Bucket}
use Rattle.agg_model.specs.declared.partial.Metric.{Metric}
use Rattle.agg_model.specs.declared.partial.Node.TheVariants as node
use Rattle.agg_evaluation.specs.Cost.{key_bytes, node_cost}
use Rattle.agg_evaluation.specs.Rows.{PlacedRow, row_of}
use Rattle.bucket_places.specs.Places.{IsPlaceOf}
use Rattle.bucket_places.specs.declared.places.Place.{Place}
use Rattle.bucket_places.specs.declared.places.Place.TheVariants.{Found, Added}
use Rattle.evaluation_laws.proofs.CostLaws.{bytes}
use Rattle.growth_laws.specs.Gathering.{put_rows}
use Rattle.shard_columns.specs.Columns.{Columns}
use Rattle.growing_tree.specs.Decoded.{decoded_children}
use Rattle.growing_tree.specs.Gathered.{decoders, gatherers, key_at, shown_measured}
use Rattle.growing_tree.specs.Measures.{measures_from, metrics_at, metrics_with, no_values}
use Rattle.growing_tree.specs.Placements.{counts_with, shown_with, taken_with}
use Rattle.growing_tree.specs.Readiness.{IsReadyFor, is_metric}
use Rattle.growing_tree.specs.Shown.{metric_buckets}
use Rattle.growing_tree.specs.declared.measured.Measured.{Measured}
use Rattle.growing_tree.specs.declared.placing.Placement.{Placement}
use Rattle.growing_tree.specs.declared.ready.Ready.{Ready, out-Ready}
use Rattle.growing_tree.proofs.Codes.{codes-own}
use Rattle.growing_tree.proofs.Levels.{empties-are, level-ready}
use Rattle.growing_tree.proofs.MeasuredBuckets.{bucket-at, bucket-begun, bucket-set, children_of, count_of, length-measures, measure, measured-cost, measured-empty, measured-gathers, shown-same}
use Rattle.growing_tree.proofs.Placements.{counted-begun, counted-length, counted-more, one-here, one-is, one-other, taken-behind, taken-more, taken-same}
use Rattle.growing_tree.proofs.Steps.{added-buckets, added-cost, found-buckets, found-cost}

-- the bucket of the code has one more row, and the buckets cost so much more
pub record HasOneMore (shard : Columns) (a : Agg) (r : Ready) (code : ℤ) (row : PlacedRow) (before after : List Bucket) (rise : ℕ) : Type 0 where
  pub buckets : after ≡ put_rows (gatherers shard (out-Agg a).children) (row ∷ []) (key_at shard r code) before
  pub cost : sum_by bytes after ≡ sum_by bytes before + rise

-- whatever rows are still to go into the old buckets, one more that goes to this place of the new ones is in the bucket of the code
abbrev pub IsPlace : Columns → Agg → Ready → ℤ → Measured → Measured → ℕ → ℕ → Type 0
IsPlace shard a r code old new place rise = (placements : List Placement) (row : ℕ) → All (λ p. p.place < length old.counts.items) placements
    → HasOneMore shard a r code (row_of shard.rows row) (shown_with shard a r old placements) (shown_with shard a r new (placements ++ record { row = row; place = place } ∷ [])) rise

-- `found` says where the code stands, `codes` are those after it was sought, and `m` are the buckets before
module _ (shard : Columns) (a : Agg) (r : Ready) (ready : IsReadyFor shard a r) (metrics : IsTrue (list_all (λ b. is_metric (out-Agg b).kind) (out-Agg a).children))
    (code sought : ℤ) (same : sought ≡ code) (m : Measured) (codes : List ℤ) (found : Place) (at_place : IsPlaceOf sought m.places codes found) (distinct : IsDistinct int_eq codes)
    (place : ℕ) where
  pub place-found : found ≡ Found place → place < length m.counts.items → IsPlace shard a r code m (record { places = codes; counts = m.counts; columns = m.columns }) place 0
  place-found is there placements row_number below =
      let aggs = (out-Agg a).children in
      let rs = (out-Ready r).children in
      let row_at = row_of shard.rows in
      let row = row_at row_number in
      let key_of = key_at shard r in
      let counts = m.counts.items in
      let columns = metrics_at m.columns.items in
      let placement : Placement = record { row = row_number; place = place } in
      let ns = counts_with placements counts in
      let at = taken_with aggs row_at placements columns in
      let after = taken_with aggs row_at (placements ++ placement ∷ []) columns in
      let took : after place ≡ metrics_with aggs row (at place) = taken-more aggs row_at placements placement columns place ∙ one-here aggs row_at placement at in
      let n = get_or ns place 0 in
      let old = measure n (at place) in
      let new = measure (n + 1) (after place) in
      let many = length-measures at 0 ns in
      let long = counted-length placements counts in
      let within : place < length ns = omega (arith, long, there) in
      let within_all : place < length (measures_from at 0 ns) = omega (arith, many, within) in
      let old_is = sym (bucket-at at ns place old within) in
      let shown = ap (λ ms. shown_measured shard r codes ms after) (counted-more placements placement counts)
      ∙ ap (metric_buckets (decoders shard rs) key_of codes)
      (bucket-set at ns after place (n + 1) within (λ k other. taken-more aggs row_at placements placement columns k ∙ one-other aggs row_at placement at k other)) in
      record {
        buckets = shown
            ∙ found-buckets count_of children_of (gatherers shard aggs) (row ∷ []) (decoders shard rs) key_of code sought same m.places codes (measures_from at 0 ns) found at_place distinct
            (codes-own shard (out-Agg a).kind (out-Ready r).kind (level-ready shard a r ready).kind) place old new is within_all old_is
            (measured-gathers shard aggs rs key_of row metrics n (at place) (after place) took);
        cost = ap (sum_by bytes) shown
            ∙ found-cost count_of children_of (gatherers shard aggs) (row ∷ []) (decoders shard rs) key_of code sought same m.places codes (measures_from at 0 ns) found at_place distinct
            place old new 0 is within_all old_is
            (measured-cost shard aggs rs key_of row metrics n (at place) (after place) took);
      }

  -- `counts` and `columns` are those with the new bucket
  pub place-begun : found ≡ Added place → place ≡ length m.counts.items
      → (begun : ℕ) → begun ≡ 128 + key_bytes (key_at shard r sought) + (out-Ready r).child_bytes
      → (counts : Vec ℕ) → counts.items ≡ m.counts.items ++ 0 ∷ []
      → (columns : Vec (Vec Metric)) → ((n : ℕ) → metrics_at columns.items n ≡ metrics_at m.columns.items n)
      → length m.columns.items ≡ length (out-Agg a).children → metrics_at m.columns.items (length m.counts.items) ≡ map (λ column. no_values) m.columns.items
      → IsPlace shard a r code m (record { places = codes; counts = counts; columns = columns }) place begun
  place-begun is end begun begun_is counts counts_are columns columns_are many empty placements row_number below =
      let aggs = (out-Agg a).children in
      let rs = (out-Ready r).children in
      let row_at = row_of shard.rows in
      let row = row_at row_number in
      let key_of = key_at shard r in
      let before = metrics_at m.columns.items in
      let behind = metrics_at columns.items in
      let placement : Placement = record { row = row_number; place = place } in
      let ns = counts_with placements m.counts.items in
      let at = taken_with aggs row_at placements before in
      let now = taken_with aggs row_at placements behind in
      let after = taken_with aggs row_at (placements ++ placement ∷ []) behind in
      let still : (n : ℕ) → now n ≡ at n = taken-same aggs row_at placements before behind columns_are in
      let took : after place ≡ metrics_with aggs row (at place) = taken-more aggs row_at placements placement behind place ∙ one-here aggs row_at placement now ∙ ap (metrics_with aggs row) (still place) in
      let old = measure 0 (at place) in
      let new = measure 1 (after place) in
      let last : place ≡ length ns = end ∙ sym (counted-length placements m.counts.items) in
      let last_measure = last ∙ sym (length-measures at 0 ns) in
      let more = ap (counts_with (placements ++ placement ∷ [])) counts_are ∙ counted-more placements placement (m.counts.items ++ 0 ∷ []) ∙ ap (λ ms. set ms place (get_or ms place 0 + 1)) (counted-begun placements m.counts.items below) in
      let no_rows = ap (λ ms. decoded_children (decoders shard rs) (map node.Number ms)) (taken-behind aggs row_at placements before (length m.counts.items) place below (omega (arith, end)) ∙ ap before end ∙ empty)
      ∙ measured-empty shard aggs rs m.columns.items many metrics in
      let shown = ap (λ ms. shown_measured shard r codes ms after) more
      ∙ ap (metric_buckets (decoders shard rs) key_of codes) (bucket-begun at now after ns place last still (λ k other. taken-more aggs row_at placements placement behind k ∙ one-other aggs row_at placement now k other)) in
      let rose : begun + 0 ≡ begun = omega arith in
      record {
        buckets = shown
            ∙ added-buckets count_of children_of (gatherers shard aggs) (row ∷ []) (decoders shard rs) key_of code sought same m.places codes (measures_from at 0 ns) found at_place distinct
            (codes-own shard (out-Agg a).kind (out-Ready r).kind (level-ready shard a r ready).kind) place old new is last_measure refl (no_rows ∙ empties-are shard.rows aggs)
            (measured-gathers shard aggs rs key_of row metrics 0 (at place) (after place) took);
        cost = ap (sum_by bytes) shown
            ∙ added-cost count_of children_of (gatherers shard aggs) (row ∷ []) (decoders shard rs) key_of code sought same m.places codes (measures_from at 0 ns) found at_place distinct
            place begun (out-Ready r).child_bytes 0 old new is last_measure (begun_is ∙ ap (λ x. 128 + key_bytes (key_of x) + (out-Ready r).child_bytes) same)
            ((level-ready shard a r ready).child_bytes ∙ ap (sum_by node_cost) (sym no_rows))
            (measured-cost shard aggs rs key_of row metrics 0 (at place) (after place) took)
            ∙ ap (λ n. sum_by bytes (shown_measured shard r m.places ns at) + n) rose;
      }

-- a row that goes into its bucket leaves it as a placement does
pub placement-taken : (shard : Columns) (a : Agg) (r : Ready) (m : Measured) (placement : Placement) (counts : List ℕ) (columns : List (Vec Metric))
    → counts ≡ set m.counts.items placement.place (get_or m.counts.items placement.place 0 + 1)
    → metrics_at columns placement.place ≡ metrics_with (out-Agg a).children (row_of shard.rows placement.row) (metrics_at m.columns.items placement.place)
    → ((n : ℕ) → n ≢ placement.place → metrics_at columns n ≡ metrics_at m.columns.items n)
    → shown_measured shard r m.places counts (metrics_at columns) ≡ shown_with shard a r m (placement ∷ [])
placement-taken shard a r m placement counts columns count here others =
    let aggs = (out-Agg a).children in
    let row_at = row_of shard.rows in
    let at = metrics_at m.columns.items in
    shown-same shard r m.places (counts_with (placement ∷ []) m.counts.items) counts (taken_with aggs row_at (placement ∷ []) at) (metrics_at columns) count
    (one-is aggs row_at placement at (metrics_at columns) here others)
