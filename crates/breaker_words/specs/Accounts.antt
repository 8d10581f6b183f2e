-- What one pass has at each breaker: its hold, what it was granted, its trips, and two bounds of its own steps.
-- Elasticsearch Reference 8, 'Circuit breaker settings', of one caller.
use Rattle.std.specs.Prelude.{ℕ, ◌+◌, ◌-◌, max, Bool, if◌then◌else◌}
use Rattle.agg_model.specs.declared.breaker.Which.{Which}
use Rattle.agg_model.specs.declared.breaker.Which.TheVariants.{Request, Fielddata, Inflight, Parent}
use Rattle.breaker_words.specs.declared.view.Account.{Account}
use Rattle.breaker_words.specs.declared.view.Accounts.{Accounts}
use Rattle.breaker_words.specs.Breakers.{counter_value}

abbrev pub empty_account : Account
empty_account = record { hold = 0; granted = 0; trips = 0; most = 0; seen = 0 }

-- a charge of a was granted
abbrev pub raised_account : Account → ℕ → Account
raised_account b a = record b { hold = b.hold + a; granted = counter_value (b.granted + a) }

-- the amount a was given back
abbrev pub lowered_account : Account → ℕ → Account
lowered_account b a = record b { hold = b.hold - a }

-- a charge was refused here
abbrev pub tripped_account : Account → Account
tripped_account b = record b { trips = counter_value (b.trips + 1) }

-- a trial of a was answered by the total n
abbrev pub noted_account : Account → ℕ → ℕ → Account
noted_account b a n = record b { most = max b.most (b.hold + a); seen = max b.seen n }

-- both bounds begin again at the hold, as where a ceiling is set
abbrev pub marked_account : Account → Account
marked_account b = record b { most = b.hold; seen = b.hold }

-- two accounts in one; p and q say whether the one's and the other's pass has a cap above 0
abbrev pub joined_account : Bool → Bool → Account → Account → Account
joined_account p q b d = record {
  hold = b.hold + d.hold;
  granted = counter_value (b.granted + d.granted);
  trips = counter_value (b.trips + d.trips);
  most = b.most + d.most;
  seen = max (if p then b.seen else 0) (if q then d.seen else 0);
}

abbrev pub account : Accounts → Which → Account
account k Request = k.request
account k Fielddata = k.fielddata
account k Inflight = k.inflight
account k Parent = k.parent

abbrev pub put : Accounts → Which → Account → Accounts
put k Request b = record k { request = b }
put k Fielddata b = record k { fielddata = b }
put k Inflight b = record k { inflight = b }
put k Parent b = record k { parent = b }

abbrev pub empty_accounts : Accounts
empty_accounts = record { request = empty_account; fielddata = empty_account; inflight = empty_account; parent = empty_account }

abbrev pub hold_in : Accounts → Which → ℕ
hold_in k x = (account k x).hold

-- what the three children hold together
abbrev pub children_in : Accounts → ℕ
children_in k = k.request.hold + k.fielddata.hold + k.inflight.hold
