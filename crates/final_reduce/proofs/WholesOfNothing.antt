-- The trees over no rows.
use Rattle.std.specs.Prelude.{◌≡◌, refl, List, [], ◌∷◌, map}
use Rattle.std.proofs.Common.{◌∙◌, ap}
use Rattle.agg_model.specs.declared.partial.Node.{Node}
use Rattle.agg_model.specs.declared.aggregation.Agg.{Agg, Agg', Row_of-Agg, end_of-Agg, more_of-Agg}
use Rattle.agg_evaluation.specs.Folds.{fold_aggs}
use Rattle.agg_evaluation.specs.Whole.{whole_by, whole_node, shape_of, empty_node}
use Rattle.agg_evaluation.proofs.AloneLaws.{whole_node-empty}
use Rattle.agg_spec.specs.Final.{Finisher, finisher, finisher_of}

mutual
  -- a finisher takes the whole of its aggregation
  pub finisher-whole : (a : Agg) → (finisher a).whole ≡ whole_node a
  finisher-whole (Agg' name k n children) = ap (λ ws. whole_by ws k (shape_of k)) (each-whole children)

  each-whole : {n : _} (children : Row_of-Agg n) → map (λ (f : Finisher). f.whole) (fold_aggs finisher_of children) ≡ fold_aggs (λ a. whole_by a.children a.kind (shape_of a.kind)) children
  each-whole end_of-Agg = refl
  each-whole (more_of-Agg a rest) = λ i. finisher-whole a i ∷ each-whole rest i

pub wholes_of_nothing : (aggs : List Agg) → map (λ (f : Finisher). f.whole []) (map finisher aggs) ≡ map empty_node aggs
wholes_of_nothing [] = refl
wholes_of_nothing (a ∷ rest) = λ i. (ap (λ (w : List Node → Node). w []) (finisher-whole a) ∙ whole_node-empty a) i ∷ wholes_of_nothing rest i
