-- The folds over a prepared query, one level at a time.
use Rattle.std.specs.Prelude.{◌≡◌, refl, ℕ, List, [], ◌∷◌, map}
use Rattle.std.proofs.Common.{ap}
use Rattle.column_query.specs.declared.prepared.Prepared.{Prepared}
use Rattle.column_query.specs.declared.prepared.Prepared.TheOpen.{Prepared-F}
use Rattle.column_query.specs.declared.prepared.Prepared.TheVariants as prepared
use Rattle.column_query.specs.Prepared.{fold_prepared, fold_all}

-- all that unfolds where a prepared query is made
unfoldable pub making : Unit {0}
unfolding
    Rattle.column_query.specs.declared.prepared.Prepared.TheViews.out-Prepared Rattle.column_query.specs.declared.prepared.Prepared.TheViews.roll-Prepared
    Rattle.column_query.specs.declared.prepared.Prepared.TheBlock.hidden-the_row-Prepared-0 Rattle.column_query.specs.declared.prepared.Prepared.TheBlock.hidden-the_row-Prepared-1
    denote.Hole.Carrier.out denote.Hole.Carrier.roll denote.Hole.Carrier.shown denote.Hole.Carrier.hidden
making = tt

module _ {A : Type 0} (step : Prepared-F A → A) where
  abbrev musts : Prepared → List A
  musts (prepared.Bool' l must m must_not n should minimum) = fold_all step must
  musts _ = []

  abbrev must_nots : Prepared → List A
  must_nots (prepared.Bool' l must m must_not n should minimum) = fold_all step must_not
  must_nots _ = []

  abbrev shoulds : Prepared → List A
  shoulds (prepared.Bool' l must m must_not n should minimum) = fold_all step should
  shoulds _ = []

  musts_are : (xs ys zs : List Prepared) (k : ℕ) → musts (prepared.Bool xs ys zs k) ≡ map (fold_prepared step) xs
  unfolding making
  musts_are [] ys zs k = refl
  musts_are (x ∷ xs) ys zs k = ap (λ (rest : List A). fold_prepared step x ∷ rest) (musts_are xs ys zs k)

  must_nots_are : (xs ys zs : List Prepared) (k : ℕ) → must_nots (prepared.Bool xs ys zs k) ≡ map (fold_prepared step) ys
  unfolding making
  must_nots_are xs [] zs k = refl
  must_nots_are xs (y ∷ ys) zs k = ap (λ (rest : List A). fold_prepared step y ∷ rest) (must_nots_are xs ys zs k)

  shoulds_are : (xs ys zs : List Prepared) (k : ℕ) → shoulds (prepared.Bool xs ys zs k) ≡ map (fold_prepared step) zs
  unfolding making
  shoulds_are xs ys [] k = refl
  shoulds_are xs ys (z ∷ zs) k = ap (λ (rest : List A). fold_prepared step z ∷ rest) (shoulds_are xs ys zs k)

  pub fold_prepared-Bool : (xs ys zs : List Prepared) (k : ℕ) → fold_prepared step (prepared.Bool xs ys zs k) ≡ step (Prepared-F.Bool (map (fold_prepared step) xs) (map (fold_prepared step) ys) (map (fold_prepared step) zs) k)
  unfolding making
  fold_prepared-Bool xs ys zs k = λ i. step (Prepared-F.Bool (musts_are xs ys zs k i) (must_nots_are xs ys zs k i) (shoulds_are xs ys zs k i) k)

  pub fold_prepared-Nested : (path : ℕ) (q : Prepared) → fold_prepared step (prepared.Nested path q) ≡ step (Prepared-F.Nested path (fold_prepared step q))
  unfolding making
  fold_prepared-Nested path q = refl
