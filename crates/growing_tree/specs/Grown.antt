-- What stays of a level that takes rows.
use Rattle.std.specs.Prelude.{refl}
use Rattle.std.proofs.Common.{◌∙◌}
use Rattle.growing_tree.specs.Shown.{IsAlike}
use Rattle.growing_tree.specs.Trees.{IsAligned}
use Rattle.growing_tree.specs.declared.tree.Level.{Level}

-- its form, and that no code stands twice
pub record IsGrown (old new : Level) : Type 0 where
  pub form : IsAlike old new
  pub aligned : IsAligned old → IsAligned new

-- no row was taken
pub grown-none : (l : Level) → IsGrown l l
grown-none l = record { form = λ bs. refl; aligned = λ h. h }

-- rows were taken twice
pub grown-more : (k l m : Level) → IsGrown k l → IsGrown l m → IsGrown k m
grown-more k l m first next = record { form = λ bs. next.form bs ∙ first.form bs; aligned = λ h. next.aligned (first.aligned h) }
