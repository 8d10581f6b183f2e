-- What more rows that an aggregation counts come to at one level.
use Rattle.std.specs.Prelude.{◌≡◌, ◌==◌, refl, ℕ, ℤ, ◌+◌, true, List, [], ◌∷◌, ◌++◌, map, length, take, slice_get, Some, option_map, pos, sum_by, IsTrue}
use Rattle.std.proofs.Common.{sym, ◌∙◌, ap, subst, arith}
use Rattle.std.proofs.Math.Dec.{eqb-suc-zero}
use Rattle.std.proofs.Math.ListN.{get_or}
use Rattle.std.proofs.lemmas.Bool.{false≢true}
use Rattle.std.proofs.lemmas.Option.{slice_get-map}
use Rattle.list_laws.proofs.Options.{some_same}
use Rattle.agg_model.specs.declared.aggregation.Agg.{Agg, out-Agg}
use Rattle.agg_model.specs.declared.aggregation.Kind.{Kind}
use Rattle.agg_model.specs.declared.aggregation.Kind.TheVariants as kind
use Rattle.agg_model.specs.declared.aggregation.Spacing.{Spacing}
use Rattle.agg_model.specs.declared.aggregation.Spacing.TheVariants.{Numbers, Dates}
use Rattle.agg_model.specs.Options.{HistogramOptions, histogram_kind}
use Rattle.agg_model.specs.declared.key.Key.{Key}
use Rattle.agg_model.specs.declared.partial.Bucket.{Bucket}
use Rattle.agg_model.specs.declared.partial.Metric.{Metric}
use Rattle.agg_model.specs.declared.partial.Node.TheVariants as node
use Rattle.agg_evaluation.specs.Cost.{node_cost}
use Rattle.agg_evaluation.specs.Groups.{under}
use Rattle.agg_evaluation.specs.Rows.{PlacedRow, row_of}
use Rattle.evaluation_laws.proofs.CostLaws.{bytes}
use Rattle.filters_agg.specs.Filtering.{IsFiltering}
use Rattle.growth_laws.specs.Gathering.{Gatherer, counted, gathered_buckets, gathered_metric, put_rows}
use Rattle.growth_laws.specs.Growth.{metric_with}
use Rattle.shard_columns.specs.Columns.{Columns}
use Rattle.growing_tree.specs.Codes.{code_key}
use Rattle.growing_tree.specs.Decoded.{decoded}
use Rattle.growing_tree.specs.Gathered.{gatherers, key_at, rows_at, shown_level}
use Rattle.growing_tree.specs.Readiness.{IsKindReady, is_keyed, is_metric}
use Rattle.growing_tree.specs.Shown.{HasBuckets, IsAlike, TakesRows, node_with, put_all}
use Rattle.growing_tree.specs.Trees.{level_node}
use Rattle.growing_tree.specs.declared.ready.Ready.{Ready, out-Ready}
use Rattle.growing_tree.specs.declared.ready.ReadyKind.{ReadyKind}
use Rattle.growing_tree.specs.declared.ready.ReadyKind.TheVariants.{Single, Metric as Values, Terms, Filters, Histogram, DateHistogram, Composite}
use Rattle.growing_tree.specs.declared.tree.Level.{Level}
use Rattle.growing_tree.specs.declared.tree.Level.TheVariants.{Keyed, Measured, Counts, Fixed, Number}
use Rattle.growing_tree.proofs.Finals.{keeps_all}
use Rattle.growing_tree.proofs.Levels.{cost-is, counted-keyed, counted-number, decoded-is}
use Rattle.growing_tree.proofs.Singles.{single-gathered}
use Rattle.growing_tree.proofs.Steps.{put_all-more, take-more}

-- filters keep all their buckets
filtering-keeps : (k : Kind) → IsFiltering k → keeps_all k ≡ true
filtering-keeps (kind.Filters names filters other) h = refl
filtering-keeps (kind.Filter query) h = refl
filtering-keeps (kind.Missing field) h = refl
filtering-keeps _ h = absurd h

-- and histograms too
histogram-keeps : (h : HistogramOptions) → keeps_all (histogram_kind h) ≡ true
histogram-keeps h = at h.spacing
  where
    at : (s : Spacing) → keeps_all (histogram_kind (record h { spacing = s })) ≡ true
    at (Numbers interval offset) = refl
    at (Dates period zone) = refl

-- an aggregation whose rows have their own keys keeps all its buckets
pub keyed-keeps : (shard : Columns) (k : Kind) (r : ReadyKind) → IsKindReady shard k r → IsTrue (is_keyed r) → keeps_all k ≡ true
keyed-keeps shard k Single h keyed = absurd (false≢true keyed)
keyed-keeps shard k Values h keyed = absurd (false≢true keyed)
keyed-keeps shard k (Terms p) h keyed = ap keeps_all h.kind_is
keyed-keeps shard k (Filters p) h keyed = filtering-keeps k h.filtering
keyed-keeps shard k (Histogram p) h keyed = ap keeps_all h.kind_is ∙ histogram-keeps h.options
keyed-keeps shard k (DateHistogram p) h keyed = ap keeps_all h.0.kind_is ∙ histogram-keeps h.0.options
keyed-keeps shard k Composite h keyed = absurd (false≢true keyed)

-- a list of which it is told that it is empty
pub nothing-there : (rows : List ℕ) → (length rows == 0) ≡ true → rows ≡ []
nothing-there [] h = refl
nothing-there (row ∷ rows) h = absurd (false≢true (sym (eqb-suc-zero (length rows)) ∙ h))

-- a list of one row
pub one-item : (rows : List ℕ) → length rows ≡ 1 → rows ≡ get_or rows 0 0 ∷ []
one-item [] l = absurd (omega arith)
one-item (row ∷ []) l = refl
one-item (row ∷ next ∷ rows) l = absurd (omega arith)

-- the rows of a group, where groups have the rows of the keys of codes
pub group-rows : (f : ℕ → PlacedRow) (g : ℤ → List PlacedRow) (groups : List (List ℕ)) (codes : List ℤ) (i : ℕ) (rows : List ℕ) (code : ℤ) → map (map f) groups ≡ map g codes → slice_get groups i ≡ Some rows → slice_get codes i ≡ Some code → map f rows ≡ g code
group-rows f g groups codes i rows code e r c =
    some_same (map f rows) (g code) (sym (slice_get-map (map f) groups i ∙ ap (option_map (map f)) r) ∙ ap (λ xs. slice_get xs i) e ∙ slice_get-map g codes i ∙ ap (option_map g) c)

-- the rows of one more group
pub groups-more : (f : ℕ → PlacedRow) (rows_of : Key → List PlacedRow) (gs : List Gatherer) (key_of : ℤ → Key) (groups : List (List ℕ)) (codes : List ℤ) (i : ℕ) (rows : List ℕ) (code x : ℤ) (old now new : List Bucket) → x ≡ code
    → map (map f) groups ≡ map (λ c. rows_of (key_of c)) codes → slice_get groups i ≡ Some rows → slice_get codes i ≡ Some code
    → now ≡ put_all rows_of gs (take i (map key_of codes)) old → new ≡ put_rows gs (map f rows) (key_of x) now → new ≡ put_all rows_of gs (take (i + 1) (map key_of codes)) old
groups-more f rows_of gs key_of groups codes i rows code x old now new same h r c so_far e =
    e ∙ (λ j. put_rows gs (group-rows f (λ c. rows_of (key_of c)) groups codes i rows code h r c j) (key_of (same j)) (so_far j))
    ∙ sym (ap (λ ks. put_all rows_of gs ks old) (take-more (map key_of codes) i (key_of code) (slice_get-map key_of codes i ∙ ap (option_map key_of) c))
    ∙ put_all-more rows_of gs (take i (map key_of codes)) (key_of code) old)

-- an aggregation of a kind that goes by no nesting counts the rows that it is handed
pub handed-as : (all : List PlacedRow) (rows : List PlacedRow) {k j : Kind} → k ≡ j → under all [] j rows ≡ rows → under all [] k rows ≡ rows
handed-as all rows is same = ap (λ q. under all [] q rows) is ∙ same

-- so does a metric
pub handed-values : (all : List PlacedRow) (k : Kind) (rows : List PlacedRow) → IsTrue (is_metric k) → under all [] k rows ≡ rows
handed-values all (kind.Nested context) rows h = absurd (false≢true h)
handed-values all (kind.ReverseNested context) rows h = absurd (false≢true h)
handed-values all kind.Global rows h = absurd (false≢true h)
handed-values all _ rows h = refl

-- the values of one more row
pub metric-more : (k : Kind) (rows : List PlacedRow) (row : PlacedRow) (m : Metric) → gathered_metric k (rows ++ row ∷ []) m ≡ metric_with k row (gathered_metric k rows m)
metric-more k [] row m = refl
metric-more k (first ∷ rows) row m = metric-more k rows row (metric_with k first m)

module _ (shard : Columns) (a : Agg) (r : Ready) where
  -- rows in the buckets of their keys
  pub keyed-counted : (rows : List PlacedRow) (old new : Level) → shown_level shard r new ≡ gathered_buckets shard.rows (gatherers shard (out-Agg a).children) (out-Agg a).kind rows (shown_level shard r old) → IsAlike old new → HasBuckets old
      → decoded shard r (level_node new) ≡ counted shard.rows a rows (decoded shard r (level_node old))
  keyed-counted rows old new e alike has =
      decoded-is shard r new ∙ alike (shown_level shard r new) ∙ ap (node_with old) e
      ∙ sym (ap (counted shard.rows a rows) (decoded-is shard r old) ∙ counted-keyed shard.rows a rows old (shown_level shard r old) _ refl has)

  -- rows that all have the one key
  pub single-counted : (rows : List ℕ) (old new : Level) → (out-Ready r).kind ≡ Single → IsKindReady shard (out-Agg a).kind (out-Ready r).kind → (rows ≡ [] → ⊥)
      → shown_level shard r new ≡ put_all (λ k. rows_at shard rows) (gatherers shard (out-Agg a).children) (map (key_at shard r) (pos 0 ∷ [])) (shown_level shard r old) → IsAlike old new → HasBuckets old
      → decoded shard r (level_node new) ≡ counted shard.rows a (rows_at shard rows) (decoded shard r (level_node old))
  single-counted [] old new single ready some e alike has = absurd (some refl)
  single-counted (row ∷ rows) old new single ready some e alike has =
      keyed-counted (rows_at shard (row ∷ rows)) old new
      (e ∙ ap (λ k. put_all (λ q. rows_at shard (row ∷ rows)) (gatherers shard (out-Agg a).children) (map (code_key shard k) (pos 0 ∷ [])) (shown_level shard r old)) single
      ∙ sym (single-gathered shard.rows (gatherers shard (out-Agg a).children) (out-Agg a).kind (row_of shard.rows row) (rows_at shard rows) (shown_level shard r old) (subst (IsKindReady shard (out-Agg a).kind) single ready)))
      alike has

  -- what the tree costs then
  pub level-cost : (old new : Level) (added : ℕ) → sum_by bytes (shown_level shard r new) ≡ sum_by bytes (shown_level shard r old) + added → node_cost (decoded shard r (level_node new)) ≡ node_cost (decoded shard r (level_node old)) + added
  level-cost old new added e =
      let before = cost-is shard r old in
      let after = cost-is shard r new in
      omega arith

  -- values of rows in a metric
  pub metric-counted : (rows : List PlacedRow) (old new : Level) → TakesRows (out-Agg a).kind rows old new
      → decoded shard r (level_node new) ≡ counted shard.rows a rows (decoded shard r (level_node old))
  metric-counted rows (Number m) (Number n) h =
      decoded-is shard r (Number n) ∙ ap node.Number h ∙ sym (ap (counted shard.rows a rows) (decoded-is shard r (Number m)) ∙ counted-number shard.rows a rows m)
  metric-counted rows (Number m) (Keyed k) h = absurd h
  metric-counted rows (Number m) (Measured k) h = absurd h
  metric-counted rows (Number m) (Counts ns) h = absurd h
  metric-counted rows (Number m) (Fixed bs) h = absurd h
  metric-counted rows (Keyed k) new h = absurd h
  metric-counted rows (Measured k) new h = absurd h
  metric-counted rows (Counts ns) new h = absurd h
  metric-counted rows (Fixed bs) new h = absurd h

  -- which costs nothing
  pub metric-cost : (rows : List PlacedRow) (old new : Level) → TakesRows (out-Agg a).kind rows old new → node_cost (decoded shard r (level_node new)) ≡ node_cost (decoded shard r (level_node old)) + 0
  metric-cost rows (Number m) (Number n) h = level-cost (Number m) (Number n) 0 (omega arith)
  metric-cost rows (Number m) (Keyed k) h = absurd h
  metric-cost rows (Number m) (Measured k) h = absurd h
  metric-cost rows (Number m) (Counts ns) h = absurd h
  metric-cost rows (Number m) (Fixed bs) h = absurd h
  metric-cost rows (Keyed k) new h = absurd h
  metric-cost rows (Measured k) new h = absurd h
  metric-cost rows (Counts ns) new h = absurd h
  metric-cost rows (Fixed bs) new h = absurd h
