-- One search after another that is settled.
use Rattle.std.specs.Prelude.{◌≡◌, refl, ◌≤◌, ℕ, ◌+◌, List, [], ◌∷◌, ◌++◌, sum_by}
use Rattle.std.proofs.Common.{sym, ap, subst, ◌∙◌, arith}
use Rattle.std.proofs.lemmas.List.Sums.{sum_by-append, sum_by-cons}
use Rattle.agg_model.specs.Breakers.{which_of}
use Rattle.agg_model.specs.declared.breaker.Child.TheVariants as child
use Rattle.agg_model.specs.declared.breaker.Which.{Which}
use Rattle.agg_model.specs.declared.breaker.Which.TheVariants.{Request, Fielddata, Inflight, Parent}
use Rattle.breaker_tree.specs.Charge.{IsGivenBack}
use Rattle.breaker_words.specs.Breakers.{amount_at}
use Rattle.breaker_words.specs.Passes.{IsOf, PassModel, WordsModel}
use Rattle.breaker_words.specs.Views.{hold_of}
use Rattle.breaker_words.specs.declared.trial.Trial.TheVariants.{Rest}
use Rattle.breaker_words.specs.declared.view.View.{View}
use Rattle.shard_pool.specs.Gathered.{lost}
use Rattle.shard_pool.specs.Settled.{AreEnds, IsEndOf}
use Rattle.shard_pool.specs.declared.gathered.Gathered.{Gathered}
use Rattle.shard_pool.specs.declared.search_end.SearchEnd.{SearchEnd}
use Rattle.shard_pool.proofs.Passes.{sum-more}

-- nothing was given back
pub given-none : (v : View) → v.trial ≡ Rest → IsGivenBack v child.Request 0 v
given-none v rest = record {
  same = record { limits = refl; cap = refl; total = refl; rest = rest };
  holds = nothing;
  granted = λ x. refl;
  trips = λ x. refl;
  most = λ x. refl;
  seen = λ x. refl;
}
  where
    nothing : (x : Which) → hold_of v x + amount_at Parent 0 x + amount_at (which_of child.Request) 0 x ≡ hold_of v x
    nothing Request = omega arith
    nothing Fielddata = omega arith
    nothing Inflight = omega arith
    nothing Parent = omega arith

-- two amounts were
pub given-both : (v u w : View) (m n : ℕ) → IsGivenBack v child.Request m u → IsGivenBack u child.Request n w → IsGivenBack v child.Request (m + n) w
given-both v u w m n g h = record {
  same = record { limits = h.same.limits ∙ g.same.limits; cap = h.same.cap ∙ g.same.cap; total = h.same.total ∙ g.same.total; rest = h.same.rest };
  holds = both;
  granted = λ x. h.granted x ∙ g.granted x;
  trips = λ x. h.trips x ∙ g.trips x;
  most = λ x. h.most x ∙ g.most x;
  seen = λ x. h.seen x ∙ g.seen x;
}
  where
    both : (x : Which) → hold_of w x + amount_at Parent (m + n) x + amount_at (which_of child.Request) (m + n) x ≡ hold_of v x
    both Request = let a = g.holds Request in let b = h.holds Request in omega (arith, a, b)
    both Fielddata = let a = g.holds Fielddata in let b = h.holds Fielddata in omega (arith, a, b)
    both Inflight = let a = g.holds Inflight in let b = h.holds Inflight in omega (arith, a, b)
    both Parent = let a = g.holds Parent in let b = h.holds Parent in omega (arith, a, b)

pub ends-more : (gs : List Gathered) (es : List SearchEnd) (g : Gathered) (e : SearchEnd) → AreEnds gs es → IsEndOf g e → AreEnds (gs ++ g ∷ []) (es ++ e ∷ [])
ends-more [] [] g e h one = (one, tt)
ends-more [] (f ∷ es) g e h one = absurd h
ends-more (f ∷ gs) [] g e h one = absurd h
ends-more (f ∷ gs) (d ∷ es) g e h one = (h.0, ends-more gs es g e h.1 one)

-- the searches that are settled so far
pub record AreSettled (b : WordsModel) (start : View) (now : PassModel) (gs : List Gathered) (es : List SearchEnd) : Type 0 where
  pub of : IsOf b now
  pub given : IsGivenBack start child.Request (sum_by lost gs) now.view
  pub ends : AreEnds gs es

pub settled-more : (b : WordsModel) (start : View) (now next : PassModel) (gs : List Gathered) (es : List SearchEnd) (g : Gathered) (e : SearchEnd) → AreSettled b start now gs es
    → IsOf b next → IsGivenBack now.view child.Request (lost g) next.view → IsEndOf g e → AreSettled b start next (gs ++ g ∷ []) (es ++ e ∷ [])
settled-more b start now next gs es g e h of back end = record {
  of = of;
  given = (let s = sum-more lost gs g in subst (λ n. IsGivenBack start child.Request n next.view) (sym s) (given-both start now.view next.view (sum_by lost gs) (lost g) h.given back));
  ends = ends-more gs es g e h.ends end;
}

-- what the next one holds is still held
pub lost-next : (start now : View) (all gs hs : List Gathered) (g : Gathered) → gs ++ g ∷ hs ≡ all → sum_by lost all ≤ hold_of start Request → IsGivenBack start child.Request (sum_by lost gs) now → lost g ≤ hold_of now Request
lost-next start now all gs hs g e most back = let k = back.holds Request in let s = ap (sum_by lost) (sym e) in let a = sum_by-append lost gs (g ∷ hs) in let b = sum_by-cons lost g hs in omega (arith, k, s, a, b, most)
