-- One worker and one search at a time, where several are not in the grammar of the words.
use Rattle.std.specs.Prelude.{◌≡◌, ◌≤◌, ℕ, ◌&&◌, nat_le, Bool, true, false, List, [], Option, Some, None, Ok, Err, codes, if◌then◌else◌}
use Rattle.std.proofs.Common.{refl, ap, subst, arith}
use Rattle.std.proofs.lemmas.Bool.{leb-true}
use Rattle.clap.specs.Walk.{Row, Text, first_of}
use Rattle.agg_model.specs.declared.limits.TheConstants.{DEFAULT_BATCH, MAX_BATCH, MIN_BATCH}
use Rattle.agg_model.specs.declared.settings.Settings.{Settings}
use Rattle.agg_settings.specs.Numbers.{between, number_in, number_of}
use Rattle.agg_settings.specs.Options.{number_at, number_or, entries_at, scan_at, generate_at}
use Rattle.agg_settings.specs.Settings.{settings_at, settings_of}
use Rattle.agg_settings.specs.Usages.{Reading, ◌>>=◌, refuse, or_refuse}
use Rattle.agg_settings.specs.Words.{is_command, rows_in}

-- what was read before
pub record Reads {A B : Type 0} (r : Reading A) (f : A → Reading B) (b : B) : Type 0 where
  pub value : A
  pub is : r ≡ Ok value
  pub later : f value ≡ Ok b

bind-ok : {A B : Type 0} (r : Reading A) (f : A → Reading B) (b : B) → (r >>= f) ≡ Ok b → Reads r f b
bind-ok (Ok a) f b is = record { value = a; is = refl; later = is }
bind-ok (Err e) f b is = absurd (let no : ⊥ = cc in no)

tests-and : (a b : Bool) → (a && b) ≡ true → (a ≡ true) × (b ≡ true)
tests-and true b h = (refl, h)
tests-and false b h = absurd (let no : ⊥ = cc in no)

between-step : (least most m n : ℕ) (b : Bool) → (nat_le least m && nat_le m most) ≡ b → (if b then Some m else None) ≡ Some n → (least ≤ n) × (n ≤ most)
between-step least most m n true test is =
    let parts = tests-and (nat_le least m) (nat_le m most) test in
    let same : m ≡ n = cc in
    subst (λ k. (least ≤ k) × (k ≤ most)) same (leb-true least m parts.0, leb-true m most parts.1)
between-step least most m n false test is = absurd (let no : ⊥ = cc in no)

between-is : (least most n : ℕ) (o : Option ℕ) → between least most o ≡ Some n → (least ≤ n) × (n ≤ most)
between-is least most n None is = absurd (let no : ⊥ = cc in no)
between-is least most n (Some m) is = between-step least most m n (nat_le least m && nat_le m most) refl is

or-is : (key value : List ℕ) (o : Option ℕ) (n : ℕ) → or_refuse key value o ≡ Ok n → o ≡ Some n
or-is key value None n is = absurd (let no : ⊥ = cc in no)
or-is key value (Some m) n is = let same : m ≡ n = cc in ap Some same

in-range : (least most : ℕ) (value : List ℕ) (n : ℕ) → number_in least most value ≡ Some n → (least ≤ n) × (n ≤ most)
unfolding number_in
in-range least most value n is = between-is least most n (number_of value) is

number-within : (name : Text) (least most default n : ℕ) (value : Option Text) → least ≤ default → default ≤ most → number_or name least most default value ≡ Ok n → (least ≤ n) × (n ≤ most)
number-within name least most default n None low high is = let same : default ≡ n = cc in subst (λ k. (least ≤ k) × (k ≤ most)) same (low, high)
number-within name least most default n (Some value) low high is = in-range least most value n (or-is _ _ (number_in least most value) n is)

only-one : (name : Text) (rows : List Row) (n : ℕ) → number_at name 1 1 1 rows ≡ Ok n → n ≡ 1
unfolding number_at
only-one name rows n is =
    let within = number-within name 1 1 1 n (first_of name rows) (omega arith) (omega arith) is in
    omega (arith, within.0, within.1)

-- one worker and one search at a time
abbrev pub IsOneAtOnce : Settings → Type 0
IsOneAtOnce s = (s.workers ≡ 1) × (s.width ≡ 1)

one-each : (rows : List Row) (s : Settings) → settings_at 1 rows ≡ Ok s → IsOneAtOnce s
unfolding settings_at
one-each rows s is =
    let workers = bind-ok (number_at (codes "workers") 1 1 1 rows) _ s is in
    let batch = bind-ok (number_at (codes "batched-reduce-size") MIN_BATCH MAX_BATCH DEFAULT_BATCH rows) _ s workers.later in
    let width = bind-ok (number_at (codes "concurrent-searches") 1 1 1 rows) _ s batch.later in
    let entries = bind-ok (entries_at rows) _ s width.later in
    let scan = bind-ok (scan_at width.value rows) _ s entries.later in
    let generate = bind-ok (generate_at rows) _ s scan.later in
    let workers_is : s.workers ≡ workers.value = let h = generate.later in cc in
    let width_is : s.width ≡ width.value = let h = generate.later in cc in
    let one = only-one (codes "workers") rows workers.value workers.is in
    let single = only-one (codes "concurrent-searches") rows width.value width.is in
    (omega (arith, workers_is, one), omega (arith, width_is, single))

by-command : (words : List Text) (s : Settings) (b : Bool) → (if b then settings_at 1 (rows_in words) else refuse [] []) ≡ Ok s → IsOneAtOnce s
by-command words s true is = one-each (rows_in words) s is
by-command words s false is = absurd (let no : ⊥ = cc in no)

pub one-at-once : (words : List Text) (s : Settings) → settings_of false words ≡ Ok s → IsOneAtOnce s
unfolding settings_of
one-at-once words s is = by-command words s (is_command words) is
