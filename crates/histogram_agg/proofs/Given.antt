-- What follows from a result that is one.
use Rattle.std.specs.Prelude.{Option, Some, None, Result, Ok, Err, IfSome, OnOk}

pub ok-gives : {A E P Q : Type 0} (r : Result A E) → (P → Q) → OnOk r P → OnOk r Q
ok-gives (Ok a) f p = f p
ok-gives (Err e) f p = tt

pub some-gives : {A : Type 0} (o : Option A) (P Q : A → Type 0) → ((a : A) → P a → Q a) → IfSome o P → IfSome o Q
some-gives None P Q f p = tt
some-gives (Some a) P Q f p = f a p
