-- How the rises of a pass's totals add up.
use Rattle.std.specs.Prelude.{◌≡◌, ◌≤◌, refl, ℕ, ◌+◌}
use Rattle.std.proofs.Common.{◌∙◌, subst, arith}
use Rattle.agg_model.specs.declared.breaker.Limits.{Limits}
use Rattle.agg_model.specs.declared.breaker.Which.{Which}
use Rattle.agg_model.specs.declared.breaker.Which.TheVariants.{Request, Fielddata, Inflight, Parent}
use Rattle.agg_spec.specs.Charges.{Amounts, amount_at, amounts_sum, no_amounts}
use Rattle.breaker_words.specs.Breakers.{counter_value}
use Rattle.breaker_words.specs.Soundness.{IsBounded}
use Rattle.breaker_words.specs.Views.{granted_of, trips_of}
use Rattle.breaker_words.specs.declared.view.View.{View}
use Rattle.solo_charges.proofs.Standing.{sum-at}
use Rattle.wave_answers.specs.Rising.{HasRisen}

pub no-amount : (x : Which) → amount_at x no_amounts ≡ 0
no-amount Request = refl
no-amount Fielddata = refl
no-amount Inflight = refl
no-amount Parent = refl

nothing-more : (n : ℕ) → 0 + n ≡ n
nothing-more n = omega arith

more-nothing : (n : ℕ) → n + 0 ≡ n
more-nothing n = omega arith

pub none-first : (t : Amounts) → amounts_sum no_amounts t ≡ t
none-first t = λ i. (record {
  request = nothing-more t.request i;
  fielddata = nothing-more t.fielddata i;
  inflight = nothing-more t.inflight i;
  parent = nothing-more t.parent i;
})

pub none-last : (t : Amounts) → amounts_sum t no_amounts ≡ t
none-last t = λ i. (record {
  request = more-nothing t.request i;
  fielddata = more-nothing t.fielddata i;
  inflight = more-nothing t.inflight i;
  parent = more-nothing t.parent i;
})

-- a total that is not above where it stops, with nothing more
pub counted : (n m k : ℕ) → n ≤ 18446744073709551615 → m ≡ n → k ≡ 0 → m ≡ counter_value (n + k)
counted n m k low same none = omega arith

twice-counted : (a b c m n k : ℕ) → b ≡ counter_value (a + m) → c ≡ counter_value (b + n) → k ≡ m + n → c ≡ counter_value (a + k)
twice-counted a b c m n k first second sum = omega arith

-- totals that are as they were
pub unchanged : (l : Limits) (v u : View) → IsBounded l v → ((x : Which) → granted_of u x ≡ granted_of v x) → ((x : Which) → trips_of u x ≡ trips_of v x) → HasRisen 0 no_amounts v u
unchanged l v u low granted trips = record {
  request = counted (granted_of v Request) (granted_of u Request) 0 (low.granted Request) (granted Request) refl;
  fielddata = granted Fielddata;
  inflight = granted Inflight;
  trips_are = λ x. counted (trips_of v x) (trips_of u x) (amount_at x no_amounts) (low.trips x) (trips x) (no-amount x);
}

-- one rise after another
pub rises-join : (g h : ℕ) (s t : Amounts) (v w u : View) → HasRisen g s v w → HasRisen h t w u → HasRisen (g + h) (amounts_sum s t) v u
rises-join g h s t v w u a b = record {
  request = twice-counted (granted_of v Request) (granted_of w Request) (granted_of u Request) g h (g + h) a.request b.request refl;
  fielddata = b.fielddata ∙ a.fielddata;
  inflight = b.inflight ∙ a.inflight;
  trips_are = λ x. twice-counted (trips_of v x) (trips_of w x) (trips_of u x) (amount_at x s) (amount_at x t) (amount_at x (amounts_sum s t)) (a.trips_are x) (b.trips_are x) (sum-at s t x);
}

-- and then nothing changed
pub rises-after : (g : ℕ) (s : Amounts) (v w u : View) → HasRisen g s v w → ((x : Which) → granted_of u x ≡ granted_of w x) → ((x : Which) → trips_of u x ≡ trips_of w x) → HasRisen g s v u
rises-after g s v w u a granted trips = record {
  request = granted Request ∙ a.request;
  fielddata = granted Fielddata ∙ a.fielddata;
  inflight = granted Inflight ∙ a.inflight;
  trips_are = λ x. trips x ∙ a.trips_are x;
}

pub rises-as : (g h : ℕ) (s t : Amounts) (v u : View) → HasRisen g s v u → g ≡ h → s ≡ t → HasRisen h t v u
rises-as g h s t v u a e f = subst (λ n. HasRisen n t v u) e (subst (λ b. HasRisen g b v u) f a)
