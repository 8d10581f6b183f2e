-- A reading that goes on after a step: what it keeps, and what it refuses.
use Rattle.std.specs.Prelude.{◌≡◌, refl, Bool, true, false, Result, Ok, Err, IfOk, if◌then◌else◌}
use Rattle.agg_reading.specs.declared.fault.RequestFault.{RequestFault}
use Rattle.agg_reading.specs.declared.fault.RequestFault.TheVariants.{NotJson, Bad, Memory}
use Rattle.agg_reading.specs.Reading.{Reading, ◌>>=◌, Fails}

-- a reading that goes on, where every value lets the rest keep Q
pub then_ok : {A B E : Type 0} (Q : B → Type 0) (r : Result A E) (f : A → Result B E) → ((x : A) → IfOk (f x) Q) → IfOk (r >>= f) Q
then_ok Q (Ok x) f h = h x
then_ok Q (Err e) f h = tt

-- the same, where the rest rests on what the first keeps
pub next_ok : {A B E : Type 0} (P : A → Type 0) (Q : B → Type 0) (r : Result A E) (f : A → Result B E) → IfOk r P → ((x : A) → P x → IfOk (f x) Q) → IfOk (r >>= f) Q
next_ok P Q (Ok x) f p h = h x p
next_ok P Q (Err e) f p h = tt

-- a choice keeps Q where both sides do
pub if_ok : {A E : Type 0} (Q : A → Type 0) (b : Bool) (x y : Result A E) → (b ≡ true → IfOk x Q) → (b ≡ false → IfOk y Q) → IfOk (if b then x else y) Q
if_ok Q true x y h k = h refl
if_ok Q false x y h k = k refl

-- a refusal of the first step is that of the whole
pub fails_bind : {A B : Type 0} (e : RequestFault) (r : Reading A) (f : A → Reading B) → Fails e r → Fails e (r >>= f)
fails_bind NotJson r f h = rw h refl
fails_bind (Bad c p) r f h = rw h refl
fails_bind Memory r f h = tt
