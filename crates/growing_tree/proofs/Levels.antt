-- A tree, a prepared aggregation and what makes trees grow, one level at a time.
use Rattle.std.specs.Prelude.{◌≡◌, refl, ◌+◌, List, [], ◌∷◌, map, sum_by, option_and_then}
use Rattle.std.proofs.Common.{sym, ◌∙◌, ap}
use Rattle.agg_model.specs.declared.aggregation.Agg.{Agg, Agg', Row_of-Agg, end_of-Agg, more_of-Agg, out-Agg}
use Rattle.agg_model.specs.declared.partial.Bucket.{Bucket}
use Rattle.agg_model.specs.declared.partial.Node.{Node, out-Node}
use Rattle.agg_model.specs.declared.partial.Node.TheOpen.{Node-F}
use Rattle.agg_evaluation.specs.Cost.{node_cost}
use Rattle.agg_evaluation.specs.Folds.{fold_aggs}
use Rattle.agg_evaluation.specs.Groups.{under}
use Rattle.agg_evaluation.specs.Rows.{PlacedRow}
use Rattle.agg_evaluation.specs.Shard.{fixed_keys}
use Rattle.agg_evaluation.specs.Whole.{empty_by, empty_node, shape_of}
use Rattle.agg_evaluation.proofs.AggFolds.{fold_agg-level}
use Rattle.agg_evaluation.proofs.NodeForms.{out-Keyed, out-Fixed, out-Number, made-Keyed, made-Fixed, made-Number}
use Rattle.evaluation_laws.proofs.CostLaws.{bytes, cost-Keyed, cost-Fixed, cost-Number}
use Rattle.growth_laws.specs.Gathering.{Gatherer, gathered_buckets, gathered_metric, gathered_node, gatherer_at, gatherer_of, counted, gathered}
use Rattle.shard_columns.specs.Columns.{Columns}
use Rattle.growing_tree.specs.Codes.{code_key}
use Rattle.growing_tree.specs.Decoded.{decoded, decoded_level, decoder_at}
use Rattle.growing_tree.specs.Readiness.{IsReadyFor, AreReadyFor, agg_at, ready_at, IsLevelReady}
use Rattle.growing_tree.specs.ReadyFolds.{fold_ready, fold_readies}
use Rattle.growing_tree.specs.Shown.{HasBuckets, level_buckets, node_with}
use Rattle.growing_tree.specs.Trees.{level_node}
use Rattle.growing_tree.specs.declared.ready.Ready.{Ready, Ready', Row_of-Ready, end_of-Ready, more_of-Ready, out-Ready, items-the_row-Ready, items_shown-the_row-Ready-0}
use Rattle.growing_tree.specs.declared.ready.Ready.TheOpen.{Ready-F}
use Rattle.growing_tree.specs.declared.tree.Level.{Level}
use Rattle.growing_tree.specs.declared.tree.Level.TheVariants.{Keyed, Measured, Counts, Fixed, Number}

-- all that unfolds when a prepared aggregation is taken apart
unfoldable pub taken_apart : Unit {0}
unfolding
    Rattle.growing_tree.specs.declared.ready.Ready.TheViews.roll-Ready Rattle.growing_tree.specs.declared.ready.Ready.TheViews.out-Ready
    denote.Hole.Carrier.out denote.Hole.Carrier.roll denote.Hole.Carrier.shown denote.Hole.Carrier.hidden
taken_apart = tt

module _ {A : Type 0} (step : Ready-F A → A) where
  items_are : {n : _} (row : Row_of-Ready n) → fold_readies step row ≡ map (fold_ready step) (items-the_row-Ready n row)
  items_are end_of-Ready = refl
  items_are (more_of-Ready r rest) = ap (λ xs. fold_ready step r ∷ xs) (items_are rest)

  pub fold_ready-level : (r : Ready) → fold_ready step r ≡ step (record { kind = (out-Ready r).kind; table = (out-Ready r).table; child_bytes = (out-Ready r).child_bytes; children = map (fold_ready step) (out-Ready r).children })
  unfolding taken_apart
  fold_ready-level (Ready' kind table child_bytes n row) =
      ap (λ xs. step (record { kind = kind; table = table; child_bytes = child_bytes; children = xs })) (items_are row ∙ ap (map (fold_ready step)) (sym (items_shown-the_row-Ready-0 n row)))

module _ (shard : Columns) (r : Ready) where
  -- what callers see of a level
  abbrev pub shown_level : Level → List Bucket
  shown_level = level_buckets (map (decoded shard) (out-Ready r).children) (code_key shard (out-Ready r).kind)

  pub decoded-out : (n : Node) (m : Node-F Node Bucket) → out-Node n ≡ m → decoded shard r n ≡ decoded_level (map (decoded shard) (out-Ready r).children) (code_key shard (out-Ready r).kind) m
  decoded-out n m e = ap (λ (f : Node → Node). f n) (fold_ready-level (decoder_at shard) r) ∙ ap (decoded_level (map (decoded shard) (out-Ready r).children) (code_key shard (out-Ready r).kind)) e

  -- what callers see of a tree, by its level
  pub decoded-is : (l : Level) → decoded shard r (level_node l) ≡ node_with l (shown_level l)
  decoded-is (Keyed k) = decoded-out _ _ (out-Keyed _ 0 0 0)
  decoded-is (Measured m) = decoded-out _ _ (out-Keyed _ 0 0 0)
  decoded-is (Counts ns) = decoded-out _ _ (out-Keyed _ 0 0 0)
  decoded-is (Fixed bs) = decoded-out _ _ (out-Fixed _)
  decoded-is (Number m) = decoded-out _ _ (out-Number _)

  -- and what it costs
  pub cost-is : (l : Level) → node_cost (decoded shard r (level_node l)) ≡ 512 + sum_by bytes (shown_level l)
  cost-is (Keyed k) = ap node_cost (decoded-is (Keyed k)) ∙ cost-Keyed _ 0 0 0
  cost-is (Measured m) = ap node_cost (decoded-is (Measured m)) ∙ cost-Keyed _ 0 0 0
  cost-is (Counts ns) = ap node_cost (decoded-is (Counts ns)) ∙ cost-Keyed _ 0 0 0
  cost-is (Fixed bs) = ap node_cost (decoded-is (Fixed bs)) ∙ cost-Fixed _
  cost-is (Number m) = ap node_cost (decoded-is (Number m)) ∙ cost-Number m

-- those below are prepared for those below
pub children-ready : (shard : Columns) (a : Agg) (r : Ready) → IsReadyFor shard a r → AreReadyFor shard (out-Agg a).children (out-Ready r).children
children-ready shard a r h n b s e f way b' s' e' f' =
    h (n ∷ way) b' s' (ap (option_and_then (agg_at way)) e ∙ e') (ap (option_and_then (ready_at way)) f ∙ f')

pub level-ready : (shard : Columns) (a : Agg) (r : Ready) → IsReadyFor shard a r → IsLevelReady shard a r
level-ready shard a r h = h [] a r refl refl

module _ (all : List PlacedRow) (a : Agg) where
  pub gatherer-level : gatherer_of all a ≡ gatherer_at all (record { name = (out-Agg a).name; kind = (out-Agg a).kind; children = map (gatherer_of all) (out-Agg a).children })
  gatherer-level = fold_agg-level (gatherer_at all) a

  pub counted-out : (rows : List PlacedRow) (n : Node) (m : Node-F Node Bucket) → out-Node n ≡ m → counted all a rows n ≡ gathered_node all (map (gatherer_of all) (out-Agg a).children) (out-Agg a).kind rows m
  counted-out rows n m e = ap (λ (g : Gatherer). g.count rows n) gatherer-level ∙ ap (gathered_node all (map (gatherer_of all) (out-Agg a).children) (out-Agg a).kind rows) e

  -- rows that are handed on are counted where they lie
  pub gathered-is : (rows inner : List PlacedRow) (n : Node) → under all [] (out-Agg a).kind rows ≡ inner → gathered all a rows n ≡ counted all a inner n
  gathered-is rows inner n e =
      ap (λ (g : Gatherer). g.gather rows n) gatherer-level
      ∙ ap (λ xs. gathered_node all (map (gatherer_of all) (out-Agg a).children) (out-Agg a).kind xs (out-Node n)) e
      ∙ sym (counted-out inner n (out-Node n) refl)

  -- more rows that are counted, in a level with these buckets
  pub counted-keyed : (rows : List PlacedRow) (l : Level) (bs cs : List Bucket) → gathered_buckets all (map (gatherer_of all) (out-Agg a).children) (out-Agg a).kind rows bs ≡ cs
      → HasBuckets l → counted all a rows (node_with l bs) ≡ node_with l cs
  counted-keyed rows (Keyed k) bs cs e h = counted-out rows _ _ (out-Keyed bs 0 0 0) ∙ ap (node_with (Keyed k)) e
  counted-keyed rows (Measured m) bs cs e h = counted-out rows _ _ (out-Keyed bs 0 0 0) ∙ ap (node_with (Measured m)) e
  counted-keyed rows (Counts ns) bs cs e h = counted-out rows _ _ (out-Keyed bs 0 0 0) ∙ ap (node_with (Counts ns)) e
  counted-keyed rows (Fixed gs) bs cs e h = counted-out rows _ _ (out-Fixed bs) ∙ ap (node_with (Fixed gs)) e
  counted-keyed rows (Number m) bs cs e h = absurd h

  -- nothing changes where no row is counted
  pub counted-none : (n : Node) → counted all a [] n ≡ n
  counted-none n = elim (out-Node n) as (λ m. out-Node n ≡ m → counted all a [] n ≡ n) [
    | Node-F.Keyed bs error full cut ↦ λ e. counted-out [] n _ e ∙ made-Keyed n bs error full cut e
    | Node-F.Fixed bs ↦ λ e. counted-out [] n _ e ∙ made-Fixed n bs e
    | Node-F.Number m ↦ λ e. counted-out [] n _ e ∙ made-Number n m e
  ] refl

  -- a metric takes the values of more rows
  pub counted-number : (rows : List PlacedRow) (m : _) → counted all a rows (node_with (Number m) []) ≡ node_with (Number (gathered_metric (out-Agg a).kind rows m)) []
  counted-number rows m = counted-out rows _ _ (out-Number m)

mutual
  -- the empty tree is that of the definition
  empty-is : (all : List PlacedRow) (a : Agg) → empty_node a ≡ (gatherer_of all a).empty
  empty-is all (Agg' name k m children) = ap (λ es. empty_by es (fixed_keys k) (shape_of k)) (empty-rows all children)

  empty-rows : (all : List PlacedRow) {m : _} (children : Row_of-Agg m) → fold_aggs (λ a. empty_by a.children (fixed_keys a.kind) (shape_of a.kind)) children ≡ map (λ g. g.empty) (fold_aggs (gatherer_at all) children)
  empty-rows all end_of-Agg = refl
  empty-rows all (more_of-Agg a rest) = λ i. empty-is all a i ∷ empty-rows all rest i

pub empties-are : (all : List PlacedRow) (aggs : List Agg) → map empty_node aggs ≡ map (λ g. g.empty) (map (gatherer_of all) aggs)
empties-are all [] = refl
empties-are all (a ∷ aggs) = λ i. empty-is all a i ∷ empties-are all aggs i
