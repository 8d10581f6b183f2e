-- Rows that go into a tree one after another.
use Rattle.std.specs.Prelude.{◌≡◌, refl, ℕ, ◌+◌, ◌<◌, ◌≤◌, List, [], ◌∷◌, ◌++◌, length, map, option_map, sum_by, take, IsTrue}
use Rattle.std.proofs.Common.{sym, ◌∙◌, ap, arith}
use Rattle.std.proofs.Math.ListN.{get_or}
use Rattle.std.proofs.lemmas.Bool.{false≢true}
use Rattle.std.proofs.lemmas.List.{length-map}
use Rattle.std.proofs.lemmas.Option.{slice_get-get_or, slice_get-map}
use Rattle.agg_model.specs.declared.aggregation.Agg.{Agg, out-Agg}
use Rattle.agg_model.specs.declared.aggregation.Kind.{Kind}
use Rattle.agg_model.specs.declared.aggregation.Kind.TheVariants as kind
use Rattle.agg_model.specs.declared.aggregation.Spacing.{Spacing}
use Rattle.agg_model.specs.declared.aggregation.Spacing.TheVariants.{Numbers, Dates}
use Rattle.agg_model.specs.Options.{HistogramOptions, histogram_kind}
use Rattle.agg_model.specs.declared.partial.Bucket.{Bucket}
use Rattle.agg_evaluation.specs.Cost.{node_cost}
use Rattle.agg_evaluation.specs.Groups.{under}
use Rattle.agg_evaluation.specs.Rows.{PlacedRow}
use Rattle.evaluation_laws.proofs.CostLaws.{bytes, cost-Keyed, cost-Fixed}
use Rattle.filters_agg.specs.Filtering.{IsFiltering}
use Rattle.growth_laws.specs.Gathering.{Gatherer, gathered}
use Rattle.shard_columns.specs.Columns.{Columns}
use Rattle.growing_tree.specs.Decoded.{decoded}
use Rattle.growing_tree.specs.Gathered.{gatherers, shown_level}
use Rattle.growing_tree.specs.GatheredEach.{after_each, bytes_after, cost_after, gathered_one, put_at_keys}
use Rattle.growing_tree.specs.Readiness.{IsKindReady, is_keyed}
use Rattle.growing_tree.specs.Shown.{HasBuckets, IsAlike, node_with}
use Rattle.growing_tree.specs.Trees.{level_node}
use Rattle.growing_tree.specs.declared.ready.Ready.{Ready, out-Ready}
use Rattle.growing_tree.specs.declared.ready.ReadyKind.{ReadyKind}
use Rattle.growing_tree.specs.declared.ready.ReadyKind.TheVariants.{Single, Metric, Terms, Filters, Histogram, DateHistogram, Composite}
use Rattle.growing_tree.specs.declared.tree.Level.{Level}
use Rattle.growing_tree.specs.declared.tree.Level.TheVariants.{Keyed, Measured, Counts, Fixed, Number}
use Rattle.growing_tree.proofs.Children.{take-full}
use Rattle.growing_tree.proofs.Counting.{keyed-keeps}
use Rattle.growing_tree.proofs.Finals.{one-row}
use Rattle.growing_tree.proofs.Levels.{counted-keyed, decoded-is, gathered-is}
use Rattle.growing_tree.proofs.Steps.{take-more}

module _ {A : Type 0} (step : PlacedRow → A → A) where
  after-more : (rows : List PlacedRow) (row : PlacedRow) (x : A) → after_each step (rows ++ row ∷ []) x ≡ step row (after_each step rows x)
  after-more [] row x = refl
  after-more (first ∷ rows) row x = after-more rows row (step first x)

  -- one more of the rows that have these numbers
  pub after-next : (f : ℕ → PlacedRow) (rows : List ℕ) (i : ℕ) (x : A) → i < length rows
      → after_each step (take (i + 1) (map f rows)) x ≡ step (f (get_or rows i 0)) (after_each step (take i (map f rows)) x)
  after-next f rows i x l =
      ap (λ rs. after_each step rs x) (take-more (map f rows) i (f (get_or rows i 0)) (slice_get-map f rows i ∙ ap (option_map f) (slice_get-get_or rows i 0 l)))
      ∙ after-more (take i (map f rows)) (f (get_or rows i 0)) x

  -- what that one makes, and by how much what it costs rises
  pub one-in-turn : (cost_of : A → ℕ) (f : ℕ → PlacedRow) (rows : List ℕ) (i more : ℕ) (x before after : A) → i < length rows
      → before ≡ after_each step (take i (map f rows)) x → after ≡ step (f (get_or rows i 0)) before → cost_of after ≡ cost_of before + more
      → (after ≡ after_each step (take (i + 1) (map f rows)) x) × (cost_of (after_each step (take (i + 1) (map f rows)) x) ≡ cost_of (after_each step (take i (map f rows)) x) + more)
  one-in-turn cost_of f rows i more x before after l is stepped rose =
      let now = stepped ∙ ap (step (f (get_or rows i 0))) is ∙ sym (after-next f rows i x l) in
      (now, sym (ap cost_of now) ∙ rose ∙ ap (λ y. cost_of y + more) is)

  -- all of them
  pub after-all : (f : ℕ → PlacedRow) (rows : List ℕ) (i : ℕ) (x : A) → length rows ≤ i → after_each step (take i (map f rows)) x ≡ after_each step (map f rows) x
  after-all f rows i x l = let many = length-map rows f in ap (λ rs. after_each step rs x) (take-full (map f rows) i (omega (arith, many)))

-- rows that have their own keys are counted where they are handed on
filtering-handed : (all : List PlacedRow) (k : Kind) (rows : List PlacedRow) → IsFiltering k → under all [] k rows ≡ rows
filtering-handed all (kind.Filters names filters other) rows h = refl
filtering-handed all (kind.Filter query) rows h = refl
filtering-handed all (kind.Missing field) rows h = refl
filtering-handed all _ rows h = absurd h

histogram-handed : (all : List PlacedRow) (h : HistogramOptions) (rows : List PlacedRow) → under all [] (histogram_kind h) rows ≡ rows
histogram-handed all h rows = at h.spacing
  where
    at : (s : Spacing) → under all [] (histogram_kind (record h { spacing = s })) rows ≡ rows
    at (Numbers interval offset) = refl
    at (Dates period zone) = refl

pub keyed-handed : (shard : Columns) (k : Kind) (r : ReadyKind) (rows : List PlacedRow) → IsKindReady shard k r → IsTrue (is_keyed r) → under shard.rows [] k rows ≡ rows
keyed-handed shard k Single rows h keyed = absurd (false≢true keyed)
keyed-handed shard k Metric rows h keyed = absurd (false≢true keyed)
keyed-handed shard k (Terms p) rows h keyed = ap (λ q. under shard.rows [] q rows) h.kind_is
keyed-handed shard k (Filters p) rows h keyed = filtering-handed shard.rows k rows h.filtering
keyed-handed shard k (Histogram p) rows h keyed = ap (λ q. under shard.rows [] q rows) h.kind_is ∙ histogram-handed shard.rows h.options rows
keyed-handed shard k (DateHistogram p) rows h keyed = ap (λ q. under shard.rows [] q rows) h.0.kind_is ∙ histogram-handed shard.rows h.0.options rows
keyed-handed shard k Composite rows h keyed = absurd (false≢true keyed)

-- what a node costs that has buckets
cost-with : (l : Level) (bs : List Bucket) → HasBuckets l → node_cost (node_with l bs) ≡ 512 + sum_by bytes bs
cost-with (Keyed k) bs has = cost-Keyed bs 0 0 0
cost-with (Measured m) bs has = cost-Keyed bs 0 0 0
cost-with (Counts ns) bs has = cost-Keyed bs 0 0 0
cost-with (Fixed gs) bs has = cost-Fixed bs
cost-with (Number m) bs has = absurd has

module _ (shard : Columns) (a : Agg) (r : Ready) (ready : IsKindReady shard (out-Agg a).kind (out-Ready r).kind) (keyed : IsTrue (is_keyed (out-Ready r).kind)) (old : Level) (has : HasBuckets old) where
  abbrev gs : List Gatherer
  gs = gatherers shard (out-Agg a).children

  abbrev k : Kind
  k = (out-Agg a).kind

  one-with : (row : PlacedRow) (bs : List Bucket) → gathered shard.rows a (row ∷ []) (node_with old bs) ≡ node_with old (put_at_keys shard.rows gs k row bs)
  one-with row bs =
      gathered-is shard.rows a (row ∷ []) (row ∷ []) (node_with old bs) (keyed-handed shard k (out-Ready r).kind (row ∷ []) ready keyed)
      ∙ counted-keyed shard.rows a (row ∷ []) old bs (put_at_keys shard.rows gs k row bs) (sym (one-row shard.rows gs k row bs (keyed-keeps shard k (out-Ready r).kind ready keyed))) has

  each-with : (rows : List PlacedRow) (bs : List Bucket) → after_each (gathered_one shard.rows a) rows (node_with old bs) ≡ node_with old (after_each (put_at_keys shard.rows gs k) rows bs)
  each-with [] bs = refl
  each-with (row ∷ rows) bs = ap (after_each (gathered_one shard.rows a) rows) (one-with row bs) ∙ each-with rows (put_at_keys shard.rows gs k row bs)

  -- the tree with more rows in the buckets of their keys, one after another
  pub each-gathered : (rows : List PlacedRow) (new : Level) → shown_level shard r new ≡ after_each (put_at_keys shard.rows gs k) rows (shown_level shard r old) → IsAlike old new
      → decoded shard r (level_node new) ≡ after_each (gathered_one shard.rows a) rows (decoded shard r (level_node old))
  each-gathered rows new e alike =
      decoded-is shard r new ∙ alike (shown_level shard r new) ∙ ap (node_with old) e
      ∙ sym (ap (after_each (gathered_one shard.rows a) rows) (decoded-is shard r old) ∙ each-with rows (shown_level shard r old))

  -- what it costs after so many of them
  pub cost-each : (rows : List PlacedRow) (n : ℕ) → cost_after (gathered_one shard.rows a) rows (decoded shard r (level_node old)) n ≡ 512 + bytes_after (put_at_keys shard.rows gs k) rows (shown_level shard r old) n
  cost-each rows n =
      ap (λ m. node_cost (after_each (gathered_one shard.rows a) (take n rows) m)) (decoded-is shard r old)
      ∙ ap node_cost (each-with (take n rows) (shown_level shard r old)) ∙ cost-with old (after_each (put_at_keys shard.rows gs k) (take n rows) (shown_level shard r old)) has
