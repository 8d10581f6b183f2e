-- What the reduction of parts that cost s together makes of a pass (Elasticsearch Reference 8, 'Circuit breaker settings': the
-- request circuit breaker).
use Rattle.std.specs.Prelude.{ℕ, ◌+◌, ◌-◌}
use Rattle.agg_model.specs.declared.breaker.Limits.{Limits}
use Rattle.agg_model.specs.declared.breaker.Child.TheVariants as child
use Rattle.agg_model.specs.declared.breaker.Which.{Which}
use Rattle.agg_model.specs.declared.breaker.Which.TheVariants.{Request, Parent}
use Rattle.agg_model.specs.declared.breaker.Tripped.{Tripped}
use Rattle.breaker_tree.specs.Charge.{IsCharged, IsGivenBack, IsTripped}
use Rattle.breaker_words.specs.Breakers.{amount_at}
use Rattle.breaker_words.specs.declared.view.View.{View}

-- the amount a at request and at the parent
abbrev pub at_both : ℕ → Which → ℕ
at_both a x = amount_at Parent a x + amount_at Request a x

-- The charge of s was granted, and then all was given back but for m bytes.
pub record IsMerged (l : Limits) (v : View) (s m : ℕ) (u : View) : Type 0 where
  pub while_merging : View
  pub charged : IsCharged l v child.Request s while_merging
  pub given_back : IsGivenBack while_merging child.Request (s + s - m) u

-- The charge of s was refused, and then the parts were given back.
pub record IsRefused (l : Limits) (v : View) (s : ℕ) (t : Tripped) (u : View) : Type 0 where
  pub after_refusal : View
  pub tripped : IsTripped l v child.Request s t after_refusal
  pub given_back : IsGivenBack after_refusal child.Request s u
