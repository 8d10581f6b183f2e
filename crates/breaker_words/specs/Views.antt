-- What a pass knows of itself: its cap under the ceiling, its accounts, and a charge in trial.
-- Elasticsearch Reference 8, 'Circuit breaker settings', of one caller.
use Rattle.std.specs.Prelude.{ℕ}
use Rattle.agg_model.specs.declared.breaker.Limits.{Limits}
use Rattle.agg_model.specs.declared.breaker.Child.TheVariants as child
use Rattle.agg_model.specs.declared.breaker.Which.{Which}
use Rattle.breaker_words.specs.declared.trial.Trial.TheVariants.{Rest}
use Rattle.breaker_words.specs.declared.view.View.{View}
use Rattle.breaker_words.specs.Accounts.{account, empty_accounts, hold_in}

abbrev pub hold_of : View → Which → ℕ
hold_of v x = hold_in v.accounts x

abbrev pub granted_of : View → Which → ℕ
granted_of v x = (account v.accounts x).granted

abbrev pub trips_of : View → Which → ℕ
trips_of v x = (account v.accounts x).trips

-- the most that the pass had standing at the breaker since its ceiling was set or it was made
abbrev pub most_of : View → Which → ℕ
most_of v x = (account v.accounts x).most

-- the greatest total that a trial of its own was answered there in that time
abbrev pub seen_of : View → Which → ℕ
seen_of v x = (account v.accounts x).seen

-- a pass that holds nothing, with the cap k under the ceiling t
abbrev pub view_of : Limits → ℕ → ℕ → View
view_of l k t = record { limits = l; cap = k; total = t; accounts = empty_accounts; trial = Rest; child = child.Request; amount = 0 }

-- the pass that is made with the words
abbrev pub first_view : Limits → View
first_view l = view_of l 1 1

-- a pass that was joined to another
abbrev pub spent_view : View
spent_view = view_of (record { request = 0; fielddata = 0; inflight = 0; parent = 0 }) 0 0
