-- How the numbers of a reading's refusals are those of its steps.
use Rattle.std.specs.Prelude.{◌≡◌, ℕ, List, ◌++◌, Bool, true, false, Option, Some, None, Ok, Err, cond}
use Rattle.std.specs.Prelude.{◌≢◌}
use Rattle.std.proofs.lemmas.Bool.{false≢true}
use Rattle.serde_json.specs.Data.{Data, Members, no_members, member}
use Rattle.agg_reading.specs.declared.fault.RequestFault.{RequestFault}
use Rattle.agg_reading.specs.declared.fault.RequestFault.TheVariants.{NotJson, Bad, Memory}
use Rattle.agg_reading.specs.Reading.{Reading, ◌>>=◌, refuse, or_refuse, Gives}
use Rattle.agg_reading.specs.Refusals.{is_refusal, RefusesWith}
use Rattle.agg_reading.specs.Pointer.{member_step}
use Rattle.agg_reading.specs.Json.{object_at, list_at, text_at, optional_of, known, is_among, sole_at}

-- a value, or a refusal with one of these numbers
pub record Refusing {A : Type 0} (own : List ℕ) (read : Reading A) : Type 0 where
  pub refusal : RefusesWith own read

pub value : {A : Type 0} {own : List ℕ} (x : A) → Refusing {A = A} own (Ok x)
value x = record { refusal = tt }

pub refused : {A : Type 0} {own : List ℕ} (code : ℕ) (at : List ℕ) → is_refusal own (Bad code at) ≡ true → Refusing {A = A} own (refuse code at)
refused code at h = record { refusal = h }

pub found : {A : Type 0} {own : List ℕ} (code : ℕ) (at : List ℕ) (x : Option A) → is_refusal own (Bad code at) ≡ true → Refusing own (or_refuse code at x)
found code at (Some x) h = value x
found code at None h = refused code at h

pub then : {A B : Type 0} {own : List ℕ} (r : Reading A) (f : A → Reading B) → Refusing own r → ((x : A) → Refusing own (f x)) → Refusing own (r >>= f)
then (Ok x) f h k = k x
then (Err e) f h k = record { refusal = h.refusal }

pub either : {A : Type 0} {own : List ℕ} (b : Bool) (r q : Reading A) → Refusing own r → Refusing own q → Refusing own (cond b r q)
either true r q h k = h
either false r q h k = k

pub an_object : {own : List ℕ} (code : ℕ) (at : List ℕ) (d : Data) → is_refusal own (Bad code at) ≡ true → Refusing own (object_at code at d)
unfolding object_at
an_object code at d h = found code at _ h

pub a_list : {own : List ℕ} (code : ℕ) (at : List ℕ) (d : Data) → is_refusal own (Bad code at) ≡ true → Refusing own (list_at code at d)
unfolding list_at
a_list code at d h = found code at _ h

pub a_text : {own : List ℕ} (code : ℕ) (at : List ℕ) (d : Data) → is_refusal own (Bad code at) ≡ true → Refusing own (text_at code at d)
unfolding text_at
a_text code at d h = found code at _ h

pub one_member : {own : List ℕ} (code : ℕ) (at : List ℕ) (ms : Members) → is_refusal own (Bad code at) ≡ true → Refusing own (sole_at code at ms)
unfolding sole_at
one_member code at ms h = found code at _ h

pub names : {own : List ℕ} (code : ℕ) (all : List (List ℕ)) (at : List ℕ) (ms : Members) → is_refusal own (Bad code at) ≡ true → Refusing own (known code all at ms)
unfolding known
names code all at no_members h = value tt
names code all at (member k d ms) h = either (is_among all k) _ _ (names code all at ms h) (refused code (at ++ member_step k) h)

pub maybe : {A : Type 0} {own : List ℕ} (f : List ℕ → Data → Reading A) (at : List ℕ) (d : Option Data) → ((at : List ℕ) (d : Data) → Refusing own (f at d)) → Refusing own (optional_of f at d)
maybe f at None h = value None
maybe f at (Some d) h = then (f at d) _ (h at d) (λ x. value (Some x))

-- more numbers take no refusal away
pub wider : {A : Type 0} {own all : List ℕ} (r : Reading A) → ((e : RequestFault) → is_refusal own e ≡ true → is_refusal all e ≡ true) → Refusing own r → Refusing all r
wider (Ok x) w h = value x
wider (Err e) w h = record { refusal = w e h.refusal }

-- such a reading never lacks JSON or memory
pub not_json : {A : Type 0} {own : List ℕ} (r : Reading A) → Refusing own r → r ≢ Err NotJson
not_json (Ok x) h = λ q. cc
not_json (Err NotJson) h = λ q. false≢true h.refusal
not_json (Err (Bad code at)) h = λ q. cc
not_json (Err Memory) h = λ q. cc

pub not_memory : {A : Type 0} {own : List ℕ} (r : Reading A) → Refusing own r → r ≢ Err Memory
not_memory (Ok x) h = λ q. cc
not_memory (Err NotJson) h = λ q. cc
not_memory (Err (Bad code at)) h = λ q. cc
not_memory (Err Memory) h = λ q. false≢true h.refusal

-- what is given for such a reading is never NotJson
pub no_other : {X Y : Type 0} {own : List ℕ} (view : X → Y) (result : Reading X) (read : Reading Y) → Gives view result read → Refusing own read → result ≢ Err NotJson
no_other view (Ok x) read h k = λ q. cc
no_other view (Err NotJson) read h k = λ q. not_json read k h
no_other view (Err (Bad code at)) read h k = λ q. cc
no_other view (Err Memory) read h k = λ q. cc
