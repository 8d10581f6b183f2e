-- What is held after a reduction.
use Rattle.std.specs.Prelude.{◌≡◌, refl, ℕ, ◌+◌, ◌-◌, ◌≤◌, List, [], ◌∷◌, length}
use Rattle.std.proofs.Common.{sym, ap, subst, arith}
use Rattle.agg_model.specs.declared.aggregation.Search.{Search}
use Rattle.agg_model.specs.declared.breaker.Child.TheVariants as child
use Rattle.agg_model.specs.declared.breaker.Limits.{Limits}
use Rattle.agg_model.specs.declared.breaker.Tripped.{Tripped}
use Rattle.agg_model.specs.declared.breaker.Which.{Which}
use Rattle.agg_model.specs.declared.breaker.Which.TheVariants.{Request, Fielddata, Inflight, Parent}
use Rattle.agg_model.specs.declared.partial.Partial.{Partial}
use Rattle.agg_evaluation.specs.Cost.{cost}
use Rattle.agg_evaluation.specs.Whole.{whole}
use Rattle.batch_reduce.proofs.Joining.{merged-costs}
use Rattle.batch_reduce.specs.Parts.{AreParts, cost_of_parts}
use Rattle.batch_reduce.specs.Reduced.{IsRefused, at_both}
use Rattle.breaker_tree.specs.Charge.{IsCharged, IsGivenBack, IsTripped}
use Rattle.breaker_words.specs.Views.{hold_of}
use Rattle.breaker_words.specs.declared.view.View.{View}

pub refused-is : (l : Limits) (v w u : View) (s a n : ℕ) (t : Tripped) → a ≡ s → n ≡ s → IsTripped l v child.Request a t w → IsGivenBack w child.Request n u → IsRefused l v s t u
refused-is l v w u s a n t e f h k = record {
  after_refusal = w;
  tripped = subst (λ i. IsTripped l v child.Request i t w) e h;
  given_back = subst (λ i. IsGivenBack w child.Request i u) f k;
}

pub refused-holds : (l : Limits) (v u : View) (s : ℕ) (t : Tripped) → IsRefused l v s t u → (x : Which) → hold_of u x + at_both s x ≡ hold_of v x + at_both 0 x
refused-holds l v u s t h Request = let a = h.tripped.holds Request in let b = h.given_back.holds Request in omega arith
refused-holds l v u s t h Fielddata = let a = h.tripped.holds Fielddata in let b = h.given_back.holds Fielddata in omega arith
refused-holds l v u s t h Inflight = let a = h.tripped.holds Inflight in let b = h.given_back.holds Inflight in omega arith
refused-holds l v u s t h Parent = let a = h.tripped.holds Parent in let b = h.given_back.holds Parent in omega arith

pub merged-holds : (l : Limits) (v w u : View) (s m a n : ℕ) → a ≡ s → m ≤ s → n ≡ s + s - m → IsCharged l v child.Request a w → IsGivenBack w child.Request n u
    → (x : Which) → hold_of u x + at_both s x ≡ hold_of v x + at_both m x
merged-holds l v w u s m a n e less f h k Request = let p = h.holds Request in let q = k.holds Request in omega arith
merged-holds l v w u s m a n e less f h k Fielddata = let p = h.holds Fielddata in let q = k.holds Fielddata in omega arith
merged-holds l v w u s m a n e less f h k Inflight = let p = h.holds Inflight in let q = k.holds Inflight in omega arith
merged-holds l v w u s m a n e less f h k Parent = let p = h.holds Parent in let q = k.holds Parent in omega arith

-- what costs the same is held the same
pub same-holds : (v : View) (s m : ℕ) → m ≡ s → (x : Which) → hold_of v x + at_both s x ≡ hold_of v x + at_both m x
same-holds v s m e x = ap (λ n. hold_of v x + at_both n x) (sym e)

-- one part, or parts that cost nothing, cost as much as what they are merged to
pub one-costs : (parts : List Partial) (m : Partial) → length parts ≡ 1 → ((p : Partial) → parts ≡ p ∷ [] → m ≡ p) → cost m ≡ cost_of_parts parts
one-costs [] m one same = absurd (omega arith)
one-costs (p ∷ []) m one same = let e = ap cost (same p refl) in omega arith
one-costs (p ∷ q ∷ ps) m one same = absurd (omega arith)

pub one-part : (parts : List Partial) → length parts ≡ 1 → (p : Partial) × (parts ≡ p ∷ [])
one-part [] one = absurd (omega arith)
one-part (p ∷ []) one = (p, refl)
one-part (p ∷ q ∷ ps) one = absurd (omega arith)

pub free-costs : (parts : List Partial) (m : Partial) → 1 ≤ length parts → ((search : Search) × AreParts search parts) → ((search : Search) → AreParts search parts → m ≡ whole search parts)
    → cost_of_parts parts ≡ 0 → cost m ≡ cost_of_parts parts
free-costs parts m some of merged none = let c = merged-costs of.0 parts m some of.1 (merged of.0 of.1) in omega arith
