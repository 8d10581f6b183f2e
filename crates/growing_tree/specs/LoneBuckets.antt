-- The tree of an aggregation that has one bucket from the start, as a nested one, and more rows in it.
use Rattle.std.specs.Prelude.{◌≡◌, ◌+◌, ℕ, List, [], ◌∷◌, length}
use Rattle.agg_model.specs.declared.key.Key.TheVariants as key
use Rattle.agg_model.specs.declared.partial.Bucket.{Bucket}
use Rattle.agg_model.specs.declared.partial.Node.{Node}
use Rattle.agg_model.specs.declared.partial.Node.TheVariants as node
use Rattle.agg_evaluation.specs.Rows.{PlacedRow}
use Rattle.growth_laws.specs.Gathering.{Gatherer, gathered_children}
use Rattle.growing_tree.specs.GatheredEach.{AreRises}
use Rattle.growing_tree.specs.SideBySide.{side_cost}
use Rattle.growing_tree.specs.Steady.{AreSteady}

-- a bucket that exists from the start
abbrev pub lone : ℕ → List Node → Bucket
lone count ns = record { key = key.Fixed 0; count = count; covered = 0; children = ns }

-- the tree that has it alone
abbrev pub lone_node : ℕ → List Node → Node
lone_node count ns = node.Fixed (lone count ns ∷ [])

-- more rows in that bucket, whose trees take them in steps as at once, and what each adds
pub record GrowsAlone (gs : List Gatherer) (rows : List PlacedRow) (old new : Node) (before after : List ℕ) : Type 0 where
  pub count : ℕ
  pub children : List Node
  pub steady : AreSteady gs children
  pub old_is : old ≡ lone_node count children
  pub new_is : new ≡ lone_node (count + length rows) (gathered_children gs rows children)
  pub rises : AreRises (side_cost gs rows children) (length rows) before after
