-- The folds on a level, as code makes it.
use Rattle.std.specs.Prelude.{◌≡◌, refl, List, [], ◌∷◌, map}
use Rattle.std.proofs.Common.{ap}
use Rattle.agg_model.specs.declared.key.Key.{Key, out-Key, out-roll-Key}
use Rattle.agg_model.specs.declared.key.Key.TheOpen.{Key-F}
use Rattle.agg_model.specs.declared.key.Key.TheVariants as key
use Rattle.agg_evaluation.specs.Folds.{fold_key, fold_keys}
use Rattle.agg_evaluation.proofs.Computing.{computing}

-- a key that was made of its parts has these parts
pub out-Many : (ks : List Key) → out-Key (key.Many ks) ≡ Key-F.Many ks
unfolding computing
out-Many ks = out-roll-Key (Key-F.Many ks)

module _ {A : Type 0} (step : Key-F A → A) where
  abbrev parts : Key → List A
  parts (key.Many' n ks) = fold_keys step ks
  parts _ = []

  parts-Many : (ks : List Key) → parts (key.Many ks) ≡ map (fold_key step) ks
  unfolding computing
  parts-Many [] = refl
  parts-Many (k ∷ ks) = ap (λ xs. fold_key step k ∷ xs) (parts-Many ks)

  pub fold_key-Many : (ks : List Key) → fold_key step (key.Many ks) ≡ step (Key-F.Many (map (fold_key step) ks))
  unfolding computing
  fold_key-Many ks = ap (λ xs. step (Key-F.Many xs)) (parts-Many ks)
