-- A breaker's refusal that a search tells of: the total that was wanted lay within the ceiling of the wave.
use Rattle.std.specs.Prelude.{◌≡◌, refl, ◌⊎◌, ◌≤◌, ◌<◌, ℕ, ◌+◌, ◌*◌, IsTrue}
use Rattle.std.proofs.Common.{inl, inr, subst, ⊎_elim, arith}
use Rattle.agg_model.specs.Breakers.{limit_of}
use Rattle.agg_model.specs.declared.breaker.Tripped.{Tripped}
use Rattle.agg_model.specs.declared.breaker.Which.{Which}
use Rattle.agg_model.specs.declared.breaker.Which.TheVariants.{Request, Fielddata, Inflight, Parent}
use Rattle.agg_model.specs.declared.settings.Settings.{Settings}
use Rattle.agg_spec.specs.Index.{Index}
use Rattle.agg_spec.specs.Wave.{IsSeen}
use Rattle.breaker_words.specs.Views.{hold_of, most_of}
use Rattle.breaker_words.specs.declared.view.View.{View}
use Rattle.shard_pool.specs.Ends.{IsTold}
use Rattle.pool_results.specs.Passes.{is_charged}

-- what the pass had standing once the tasks had ended, by the parts of the ceiling
pub record IsWithin (columns bodies peaks responses ceiling : ℕ) (view : View) : Type 0 where
  pub all : columns + bodies + 2 * peaks + responses ≤ ceiling
  pub request_most : most_of view Request ≤ 2 * peaks
  pub parent_most : most_of view Parent ≤ columns + bodies + 2 * peaks
  pub request : hold_of view Request ≤ peaks
  pub parent : hold_of view Parent ≤ columns + bodies + peaks
  pub fielddata : hold_of view Fielddata ≡ columns
  pub inflight : hold_of view Inflight ≡ bodies

charged-either : (x : Which) → IsTrue (is_charged x) → (x ≡ Request) ⊎ (x ≡ Parent)
charged-either Request h = inl refl
charged-either Parent h = inr refl
charged-either Fielddata h = absurd (let no : ⊥ = cc in no)
charged-either Inflight h = absurd (let no : ⊥ = cc in no)

module _ (settings : Settings) (index : Index) (columns bodies peaks responses ceiling : ℕ) (view : View) (known : IsWithin columns bodies peaks responses ceiling view) where
  -- by the most that stood there
  pub told-seen : (t : Tripped) → IsTold settings.limits view t → IsSeen settings index columns ceiling t
  told-seen t told = record {
    breaker = charged-either t.which told.breaker;
    limit = told.limit;
    above = told.above;
    within = ⊎_elim
        (λ (e : t.which ≡ Request). let a = subst (λ x. t.wanted ≤ most_of view x) e told.most in let b = known.request_most in let c = known.all in omega (arith, a, b, c))
        (λ (e : t.which ≡ Parent). let a = subst (λ x. t.wanted ≤ most_of view x) e told.most in let b = known.parent_most in let c = known.all in omega (arith, a, b, c))
        (charged-either t.which told.breaker);
  }

  -- by what was held there, and what the parts and the response are charged
  pub charge-seen : (t : Tripped) (cost bytes : ℕ) → (t.which ≡ Request) ⊎ (t.which ≡ Parent) → t.limit ≡ limit_of settings.limits t.which → t.limit < t.wanted
      → t.wanted ≤ hold_of view t.which + cost + bytes → cost ≤ peaks → bytes ≤ responses → IsSeen settings index columns ceiling t
  charge-seen t cost bytes breaker limit above wanted low few = record {
    breaker = breaker;
    limit = limit;
    above = above;
    within = ⊎_elim
        (λ (e : t.which ≡ Request). let a = subst (λ x. t.wanted ≤ hold_of view x + cost + bytes) e wanted in let b = known.request in let c = known.all in omega (arith, a, b, c, low, few))
        (λ (e : t.which ≡ Parent). let a = subst (λ x. t.wanted ≤ hold_of view x + cost + bytes) e wanted in let b = known.parent in let c = known.all in omega (arith, a, b, c, low, few))
        breaker;
  }
