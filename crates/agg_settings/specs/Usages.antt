-- What reading the words answers: a value, or the first key that fails with its value (Elasticsearch Reference 8, 'API conventions': errors).
use Rattle.std.specs.Prelude.{◌≡◌, ℕ, List, [], Bool, false, Option, Some, None, Result, Ok, Err, ⊤}
use Rattle.agg_model.specs.declared.settings.Usage.{Usage}
use Rattle.agg_settings.specs.declared.fault.SettingsFault.{SettingsFault}
use Rattle.agg_settings.specs.declared.fault.SettingsFault.TheVariants as fault

abbrev pub Reading : Type 0 → Type 0
Reading A = Result A Usage

-- one reading after another: the first refusal is the answer
infixl 10 ◌>>=◌
abbrev pub ◌>>=◌ : {A B : Type 0} → Reading A → (A → Reading B) → Reading B
(Ok x) >>= f = f x
(Err e) >>= f = Err e

abbrev pub usage : List ℕ → List ℕ → Usage
usage key value = record { key = key; value = value }

-- a key that fails, and the value given
abbrev pub refuse : {A : Type 0} → List ℕ → List ℕ → Reading A
refuse key value = Err (usage key value)

abbrev pub or_refuse : {A : Type 0} → List ℕ → List ℕ → Option A → Reading A
or_refuse key value (Some x) = Ok x
or_refuse key value None = refuse key value

-- what an error of a function says of the reading; want of memory says nothing
abbrev pub Fails : {A : Type 0} → SettingsFault → Reading A → Type 0
Fails (fault.Usage u) read = read ≡ Err u
Fails fault.Memory read = ⊤

-- what a function answered, seen by view, is the reading, unless memory ran out
abbrev pub SeenAs : {X A : Type 0} → (X → A) → Result X SettingsFault → Reading A → Type 0
SeenAs view (Ok x) read = read ≡ Ok (view x)
SeenAs view (Err e) read = Fails e read

abbrev pub Gives : {A : Type 0} → Result A SettingsFault → Reading A → Type 0
Gives result read = SeenAs (λ x. x) result read

-- the fault names this key with this value, unless memory ran out
abbrev pub IsUsage : List ℕ → List ℕ → SettingsFault → Type 0
IsUsage key value (fault.Usage u) = u ≡ usage key value
IsUsage key value fault.Memory = ⊤

-- words that are not taken are refused with empty texts
abbrev pub RefusesWords : Bool → SettingsFault → Type 0
RefusesWords taken (fault.Usage u) = (taken ≡ false) × (u ≡ usage [] [])
RefusesWords taken fault.Memory = ⊤
