-- What a reading answers: a value, or the first refusal of its walk (Elasticsearch Reference 8, 'API conventions': errors).
use Rattle.std.specs.Prelude.{◌≡◌, ℕ, List, Option, Some, None, Result, Ok, Err, ⊤}
use Rattle.agg_reading.specs.declared.fault.RequestFault.{RequestFault}
use Rattle.agg_reading.specs.declared.fault.RequestFault.TheVariants.{NotJson, Bad, Memory}

abbrev pub Reading : Type 0 → Type 0
Reading A = Result A RequestFault

-- one reading after another: the first refusal is the answer
infixl 10 ◌>>=◌
abbrev pub ◌>>=◌ : {A B E : Type 0} → Result A E → (A → Result B E) → Result B E
(Ok x) >>= f = f x
(Err e) >>= f = Err e

infixl 10 ◌>>◌
abbrev pub ◌>>◌ : {A B E : Type 0} → Result A E → Result B E → Result B E
r >> q = r >>= (λ _. q)

-- a refusal, with its number and where
abbrev pub refuse : {A : Type 0} → ℕ → List ℕ → Reading A
refuse code at = Err (Bad code at)

abbrev pub or_refuse : {A : Type 0} → ℕ → List ℕ → Option A → Reading A
or_refuse code at (Some x) = Ok x
or_refuse code at None = refuse code at

-- what an error of a function says of the definition; want of memory says nothing
abbrev pub Fails : {Y : Type 0} → RequestFault → Reading Y → Type 0
Fails NotJson read = read ≡ Err NotJson
Fails (Bad code at) read = read ≡ Err (Bad code at)
Fails Memory read = ⊤

-- What a function answered, seen by view, is what the definition gives, unless memory ran out.
abbrev pub Gives : {X Y : Type 0} → (X → Y) → Reading X → Reading Y → Type 0
Gives view (Ok x) read = read ≡ Ok (view x)
Gives view (Err e) read = Fails e read
