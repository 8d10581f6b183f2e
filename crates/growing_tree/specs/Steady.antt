-- Trees to which more rows come to the same in steps as at once, and aggregations that have such trees (Elasticsearch Reference 8,
-- 'Nested aggregation').
use Rattle.std.specs.Prelude.{◌≡◌, ◌||◌, ◌&&◌, ℕ, Bool, true, false, List, [], ◌∷◌, ◌++◌, IsTrue, Some, slice_get}
use Rattle.std.specs.List.{list_all}
use Rattle.agg_model.specs.declared.aggregation.Agg.{Agg, out-Agg}
use Rattle.agg_model.specs.declared.partial.Node.{Node}
use Rattle.agg_evaluation.specs.Rows.{PlacedRow}
use Rattle.growth_laws.specs.Gathering.{Gatherer}
use Rattle.growing_tree.specs.Readiness.{is_keyed, is_metric}
use Rattle.growing_tree.specs.declared.ready.Ready.{Ready, out-Ready}
use Rattle.growing_tree.specs.declared.ready.ReadyKind.{ReadyKind}
use Rattle.growing_tree.specs.declared.ready.ReadyKind.TheVariants.{Single, Metric, Terms, Filters, Histogram, DateHistogram, Composite}

-- what more rows make of this is the same in two steps as at once
pub record IsSteady {A : Type 0} (f : List PlacedRow → A → A) (x : A) : Type 0 where
  pub none : f [] x ≡ x
  pub more : (rows more : List PlacedRow) → f (rows ++ more) x ≡ f more (f rows x)

-- child by child
abbrev pub AreSteady : List Gatherer → List Node → Type 0
AreSteady [] ns = Unit {0}
AreSteady (g ∷ gs) [] = Unit {0}
AreSteady (g ∷ gs) (n ∷ ns) = IsSteady g.gather n × AreSteady gs ns

-- the aggregation is a metric
abbrev pub is_values : ReadyKind → Bool
is_values Single = false
is_values Metric = true
is_values (Terms p) = false
is_values (Filters p) = false
is_values (Histogram p) = false
is_values (DateHistogram p) = false
is_values Composite = false

-- a metric, or rows with their own keys above metrics alone
abbrev pub is_simple : Agg → Ready → Bool
is_simple a r = is_values (out-Ready r).kind || (is_keyed (out-Ready r).kind && list_all (λ b. is_metric (out-Agg b).kind) (out-Agg a).children)

-- each of these aggregations, as it is prepared
abbrev pub AreSimple : List Agg → List Ready → Type 0
AreSimple aggs rs = (n : ℕ) (a : Agg) (r : Ready) → slice_get aggs n ≡ Some a → slice_get rs n ≡ Some r → IsTrue (is_simple a r)
