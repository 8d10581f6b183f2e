-- What a task has made of its pass by the amounts that it charged and gave back so far (Elasticsearch Reference 8, 'Circuit
-- breaker settings': the request circuit breaker and the parent circuit breaker).
use Rattle.std.specs.Prelude.{◌≡◌, ◌≢◌, ◌≤◌, ℤ, List}
use Rattle.agg_model.specs.declared.breaker.Limits.{Limits}
use Rattle.agg_model.specs.declared.breaker.Which.{Which}
use Rattle.agg_model.specs.declared.breaker.Which.TheVariants.{Request, Parent}
use Rattle.breaker_tree.specs.Charge.{IsAtRestAgain}
use Rattle.breaker_words.specs.Accounts.{account}
use Rattle.breaker_words.specs.Views.{granted_of, hold_of, most_of, seen_of, trips_of}
use Rattle.breaker_words.specs.declared.view.View.{View}
use Rattle.growth_laws.specs.Paid.{IsPaid, Standing}

-- a breaker as a pass sees it
abbrev pub standing_at : View → Which → Standing
standing_at v x = record { hold = hold_of v x; granted = granted_of v x; most = most_of v x }

-- The pass was v when the task began and is u now, and in between these amounts were charged or given back, one after another.
pub record HasPaid (l : Limits) (v u : View) (ns : List ℤ) : Type 0 where
  pub same : IsAtRestAgain v u
  pub request : IsPaid l.request (standing_at v Request) (standing_at u Request) ns
  pub parent : IsPaid l.parent (standing_at v Parent) (standing_at u Parent) ns
  pub trips : (x : Which) → trips_of u x ≡ trips_of v x
  pub seen : (x : Which) → seen_of v x ≤ seen_of u x
  pub untouched : (x : Which) → x ≢ Request → x ≢ Parent → account u.accounts x ≡ account v.accounts x
