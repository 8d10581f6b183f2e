-- The first of several paths.
use Rattle.std.specs.Prelude.{◌≡◌, refl, ℕ, List, [], ◌∷◌, ◌++◌, map, Some, None, option_map, is_some}
use Rattle.std.proofs.Common.{sym, ap}
use Rattle.std.proofs.lemmas.Bool.{false≢true}
use Rattle.agg_model.specs.declared.answer.NodeAnswer.{NodeAnswer}
use Rattle.agg_model.specs.declared.aggregation.Agg.{Agg, out-Agg}
use Rattle.agg_model.specs.declared.aggregation.Agg.TheOpen.{Agg-F}
use Rattle.agg_spec.specs.RangeCheck.{Checker, checker, first_path}
use Rattle.final_reduce.specs.Paths.{path_bytes, checked_inside}
use Rattle.agg_evaluation.proofs.AggFolds.{fold_agg-level}

pub first_path-some : (xs ys : List (List ℕ)) (path : List ℕ) → Some path ≡ first_path xs → Some path ≡ first_path (xs ++ ys)
first_path-some [] ys path e = absurd (false≢true (sym (ap is_some e)))
first_path-some (x ∷ xs) ys path e = e

pub first_path-none : (xs ys : List (List ℕ)) → None ≡ first_path xs → first_path (xs ++ ys) ≡ first_path ys
first_path-none [] ys e = refl
first_path-none (x ∷ xs) ys e = absurd (false≢true (ap is_some e))

pub first_path-map : (f : List ℕ → List ℕ) (xs : List (List ℕ)) → first_path (map f xs) ≡ option_map f (first_path xs)
first_path-map f [] = refl
first_path-map f (x ∷ xs) = refl

pub checker-level : (a : Agg) (n : NodeAnswer) → checker a n ≡ map (path_bytes (out-Agg a).name) (checked_inside (map checker (out-Agg a).children) (out-Agg a).kind n)
checker-level a n = ap (λ (c : Checker). c n) (fold_agg-level (λ (b : Agg-F Checker) (m : NodeAnswer). map (path_bytes b.name) (checked_inside b.children b.kind m)) a)
