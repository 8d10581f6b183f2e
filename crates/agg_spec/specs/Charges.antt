-- Charges against the four breakers by one caller ('Circuit breaker settings'): a charge counts at its own breaker and at the
-- parent, and is granted by both or held by none.
use Rattle.std.specs.Prelude.{ℕ, ◌+◌, ◌-◌, ◌==◌, nat_lt, if◌then◌else◌, List, [], ◌∷◌, Option, Some, None}
use Rattle.agg_model.specs.declared.breaker.Child.{Child}
use Rattle.agg_model.specs.declared.breaker.Child.TheVariants as child
use Rattle.agg_model.specs.declared.breaker.Which.{Which}
use Rattle.agg_model.specs.declared.breaker.Which.TheVariants.{Request, Fielddata, Inflight, Parent}
use Rattle.agg_model.specs.declared.breaker.Limits.{Limits}
use Rattle.agg_model.specs.declared.breaker.Tripped.{Tripped}
use Rattle.agg_model.specs.Breakers.{which_of, limit_of}

-- a number of bytes at each breaker
pub record Amounts : Type 0 where
  pub request : ℕ
  pub fielddata : ℕ
  pub inflight : ℕ
  pub parent : ℕ

abbrev pub no_amounts : Amounts
no_amounts = record { request = 0; fielddata = 0; inflight = 0; parent = 0 }

abbrev pub amount_at : Which → Amounts → ℕ
amount_at Request a = a.request
amount_at Fielddata a = a.fielddata
amount_at Inflight a = a.inflight
amount_at Parent a = a.parent

-- more at a child and at the parent
abbrev pub raised : Child → ℕ → Amounts → Amounts
raised child.Request n a = record a { request = a.request + n; parent = a.parent + n }
raised child.Fielddata n a = record a { fielddata = a.fielddata + n; parent = a.parent + n }
raised child.Inflight n a = record a { inflight = a.inflight + n; parent = a.parent + n }

-- less at a child and at the parent
abbrev pub lowered : Child → ℕ → Amounts → Amounts
lowered child.Request n a = record a { request = a.request - n; parent = a.parent - n }
lowered child.Fielddata n a = record a { fielddata = a.fielddata - n; parent = a.parent - n }
lowered child.Inflight n a = record a { inflight = a.inflight - n; parent = a.parent - n }

abbrev pub one_at : Which → Amounts
one_at Request = record no_amounts { request = 1 }
one_at Fielddata = record no_amounts { fielddata = 1 }
one_at Inflight = record no_amounts { inflight = 1 }
one_at Parent = record no_amounts { parent = 1 }

abbrev pub amounts_sum : Amounts → Amounts → Amounts
amounts_sum a b = record { request = a.request + b.request; fielddata = a.fielddata + b.fielddata; inflight = a.inflight + b.inflight; parent = a.parent + b.parent }

pub data Step : Type 0 where
  charge : Child → ℕ → Step
  give_back : Child → ℕ → Step

-- a charge that would lift a breaker above its limit
abbrev pub trip_at : Limits → Amounts → Which → ℕ → Option Tripped
trip_at limits holds which n =
    let wanted = amount_at which holds + n in
    if nat_lt (limit_of limits which) wanted then Some (record { which = which; wanted = wanted; limit = limit_of limits which }) else None

-- the first of two refusals
abbrev pub or_else : Option Tripped → Option Tripped → Option Tripped
or_else None later = later
or_else (Some t) later = Some t

-- the refusal of a charge: by the child, or else by the parent
abbrev pub refusal_of : Limits → Amounts → Child → ℕ → Option Tripped
refusal_of limits holds c n = or_else (trip_at limits holds (which_of c) n) (trip_at limits holds Parent n)

-- what is held, the sums of what was granted, how often each breaker refused, and the refusal that ended it
pub record Run : Type 0 where
  pub holds : Amounts
  pub granted : Amounts
  pub trips : Amounts
  pub refused : Option Tripped

abbrev pub started : Amounts → Run
started holds = record { holds = holds; granted = no_amounts; trips = no_amounts; refused = None }

abbrev pub charged : Option Tripped → Child → ℕ → Run → Run
charged None c n r = record r { holds = raised c n r.holds; granted = raised c n r.granted }
charged (Some t) c n r = record r { trips = amounts_sum r.trips (one_at t.which); refused = Some t }

abbrev pub stepped : Limits → Run → Step → Run
stepped limits r (charge c n) = charged (refusal_of limits r.holds c n) c n r
stepped limits r (give_back c n) = record r { holds = lowered c n r.holds }

-- after a refusal there is no further step
abbrev pub stepped_unless : Option Tripped → Limits → Run → Step → Run
stepped_unless None limits r s = stepped limits r s
stepped_unless (Some t) limits r s = r

-- the steps one after another, up to the first refusal
abbrev pub run : Limits → Run → List Step → Run
run limits r [] = r
run limits r (s ∷ rest) = run limits (stepped_unless r.refused limits r s) rest

-- a step of 0 bytes is none
abbrev pub charge_of : Child → ℕ → List Step
charge_of c n = if n == 0 then [] else charge c n ∷ []

abbrev pub return_of : Child → ℕ → List Step
return_of c n = if n == 0 then [] else give_back c n ∷ []
