-- Sums at the four breakers, and totals that stop.
use Rattle.std.specs.Prelude.{◌≡◌, ◌≢◌, refl, ℕ, ◌+◌, ◌-◌}
use Rattle.std.proofs.Common.{arith}
use Rattle.agg_model.specs.Breakers.{which_of}
use Rattle.agg_model.specs.declared.breaker.Child.{Child}
use Rattle.agg_model.specs.declared.breaker.Child.TheVariants as child
use Rattle.agg_model.specs.declared.breaker.Which.{Which}
use Rattle.agg_model.specs.declared.breaker.Which.TheVariants.{Request, Fielddata, Inflight, Parent}
use Rattle.agg_spec.specs.Charges.{Amounts, amount_at, amounts_sum, lowered, one_at, raised}
use Rattle.breaker_words.specs.Breakers.{counter_value}
use Rattle.breaker_words.specs.Breakers.{amount_at as at_one}

-- a total that stops, with some more
pub more-counted : (old now base sum m n : ℕ) → m ≡ n → old ≡ counter_value (base + sum) → now ≡ counter_value (old + n) → now ≡ counter_value (base + (sum + m))
more-counted old now base sum m n same e f = omega arith

pub same-counted : (old now base sum n : ℕ) → n ≡ 0 → old ≡ counter_value (base + sum) → now ≡ old → now ≡ counter_value (base + (sum + n))
same-counted old now base sum n z e f = omega arith

-- what is at a breaker after a charge
pub raised-at : (c : Child) (n : ℕ) (a : Amounts) (x : Which) → amount_at x (raised c n a) ≡ amount_at x a + (at_one Parent n x + at_one (which_of c) n x)
raised-at child.Request n a Request = omega arith
raised-at child.Request n a Fielddata = omega arith
raised-at child.Request n a Inflight = omega arith
raised-at child.Request n a Parent = omega arith
raised-at child.Fielddata n a Request = omega arith
raised-at child.Fielddata n a Fielddata = omega arith
raised-at child.Fielddata n a Inflight = omega arith
raised-at child.Fielddata n a Parent = omega arith
raised-at child.Inflight n a Request = omega arith
raised-at child.Inflight n a Fielddata = omega arith
raised-at child.Inflight n a Inflight = omega arith
raised-at child.Inflight n a Parent = omega arith

-- and after a return
pub lowered-at : (c : Child) (n : ℕ) (a : Amounts) (x : Which) → amount_at x (lowered c n a) ≡ amount_at x a - (at_one Parent n x + at_one (which_of c) n x)
lowered-at child.Request n a Request = omega arith
lowered-at child.Request n a Fielddata = omega arith
lowered-at child.Request n a Inflight = omega arith
lowered-at child.Request n a Parent = omega arith
lowered-at child.Fielddata n a Request = omega arith
lowered-at child.Fielddata n a Fielddata = omega arith
lowered-at child.Fielddata n a Inflight = omega arith
lowered-at child.Fielddata n a Parent = omega arith
lowered-at child.Inflight n a Request = omega arith
lowered-at child.Inflight n a Fielddata = omega arith
lowered-at child.Inflight n a Inflight = omega arith
lowered-at child.Inflight n a Parent = omega arith

pub sum-at : (a b : Amounts) (x : Which) → amount_at x (amounts_sum a b) ≡ amount_at x a + amount_at x b
sum-at a b Request = refl
sum-at a b Fielddata = refl
sum-at a b Inflight = refl
sum-at a b Parent = refl

-- one refusal more at one breaker, and none at the others
pub one-more : (w x : Which) (base sum : ℕ) (old now : Which → ℕ) → old x ≡ counter_value (base + sum) → now w ≡ counter_value (old w + 1) → ((y : Which) → y ≢ w → now y ≡ old y)
    → now x ≡ counter_value (base + (sum + amount_at x (one_at w)))
one-more Request Request base sum old now e here there = more-counted (old Request) (now Request) base sum 1 1 refl e here
one-more Request Fielddata base sum old now e here there = same-counted (old Fielddata) (now Fielddata) base sum 0 refl e (there Fielddata (λ z. cc))
one-more Request Inflight base sum old now e here there = same-counted (old Inflight) (now Inflight) base sum 0 refl e (there Inflight (λ z. cc))
one-more Request Parent base sum old now e here there = same-counted (old Parent) (now Parent) base sum 0 refl e (there Parent (λ z. cc))
one-more Fielddata Request base sum old now e here there = same-counted (old Request) (now Request) base sum 0 refl e (there Request (λ z. cc))
one-more Fielddata Fielddata base sum old now e here there = more-counted (old Fielddata) (now Fielddata) base sum 1 1 refl e here
one-more Fielddata Inflight base sum old now e here there = same-counted (old Inflight) (now Inflight) base sum 0 refl e (there Inflight (λ z. cc))
one-more Fielddata Parent base sum old now e here there = same-counted (old Parent) (now Parent) base sum 0 refl e (there Parent (λ z. cc))
one-more Inflight Request base sum old now e here there = same-counted (old Request) (now Request) base sum 0 refl e (there Request (λ z. cc))
one-more Inflight Fielddata base sum old now e here there = same-counted (old Fielddata) (now Fielddata) base sum 0 refl e (there Fielddata (λ z. cc))
one-more Inflight Inflight base sum old now e here there = more-counted (old Inflight) (now Inflight) base sum 1 1 refl e here
one-more Inflight Parent base sum old now e here there = same-counted (old Parent) (now Parent) base sum 0 refl e (there Parent (λ z. cc))
one-more Parent Request base sum old now e here there = same-counted (old Request) (now Request) base sum 0 refl e (there Request (λ z. cc))
one-more Parent Fielddata base sum old now e here there = same-counted (old Fielddata) (now Fielddata) base sum 0 refl e (there Fielddata (λ z. cc))
one-more Parent Inflight base sum old now e here there = same-counted (old Inflight) (now Inflight) base sum 0 refl e (there Inflight (λ z. cc))
one-more Parent Parent base sum old now e here there = more-counted (old Parent) (now Parent) base sum 1 1 refl e here
