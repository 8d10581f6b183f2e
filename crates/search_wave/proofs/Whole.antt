-- What is known of a wave when its answers are there.
use Rattle.std.specs.Prelude.{◌≡◌, refl, ◌+◌, ℕ, suc, List, [], ◌∷◌, ◌++◌, length, IfOk, Result, Ok, Err}
use Rattle.std.proofs.Common.{ap, arith, subst, length-append, ◌∙◌}
use Rattle.agg_model.specs.declared.breaker.Which.{Which}
use Rattle.agg_model.specs.declared.breaker.Which.TheVariants.{Request, Fielddata, Inflight, Parent}
use Rattle.agg_model.specs.declared.outcome.Answered.{Answered}
use Rattle.agg_model.specs.declared.settings.Settings.{Settings}
use Rattle.agg_search.specs.Paging.{IsBehind}
use Rattle.agg_search.specs.declared.solo.Page.{Page}
use Rattle.agg_spec.specs.Index.{Index}
use Rattle.agg_spec.specs.Outcome.{Request as AnyRequest}
use Rattle.agg_spec.specs.Wave.{body_charge, body_refusal, body_refusals}
use Rattle.batch_reduce.specs.Reduced.{at_both}
use Rattle.breaker_words.specs.AfterStep.{after_set_ceiling}
use Rattle.breaker_words.specs.Soundness.{IsConsistent}
use Rattle.breaker_words.specs.Trials.{child_only}
use Rattle.breaker_words.specs.Views.{granted_of, hold_of, most_of, trips_of}
use Rattle.breaker_words.specs.declared.trial.Trial.TheVariants.{Rest}
use Rattle.breaker_words.specs.declared.view.View.{View}
use Rattle.shard_columns.specs.declared.index.Index.{Index as ShardIndex}
use Rattle.wave_answers.specs.Ended.{AreBehind}
use Rattle.search_wave.specs.Waves.{IsWave}

pub if-ok-map : {A E : Type 0} (P Q : A → Type 0) (r : Result A E) → IfOk r P → ((a : A) → P a → Q a) → IfOk r Q
if-ok-map P Q (Ok a) h f = f a h
if-ok-map P Q (Err e) h f = tt

-- each body is refused or not
pub refusal-count : (settings : Settings) (index : Index) (columns before : ℕ) (requests : List AnyRequest) → length (body_refusals settings index columns before requests) ≡ length requests
refusal-count settings index columns before [] = refl
refusal-count settings index columns before (r ∷ rest) = ap suc (refusal-count settings index columns (before + body_charge settings index columns (body_refusal settings index columns before r) r) rest)

-- a new ceiling changes no total and no hold
pub ceiling-hold : (v : View) (t : ℕ) (x : Which) → hold_of (after_set_ceiling v t) x ≡ hold_of v x
ceiling-hold v t Request = refl
ceiling-hold v t Fielddata = refl
ceiling-hold v t Inflight = refl
ceiling-hold v t Parent = refl

pub ceiling-granted : (v : View) (t : ℕ) (x : Which) → granted_of (after_set_ceiling v t) x ≡ granted_of v x
ceiling-granted v t Request = refl
ceiling-granted v t Fielddata = refl
ceiling-granted v t Inflight = refl
ceiling-granted v t Parent = refl

pub ceiling-trips : (v : View) (t : ℕ) (x : Which) → trips_of (after_set_ceiling v t) x ≡ trips_of v x
ceiling-trips v t Request = refl
ceiling-trips v t Fielddata = refl
ceiling-trips v t Inflight = refl
ceiling-trips v t Parent = refl

pub ceiling-most : (v : View) (t : ℕ) (x : Which) → most_of (after_set_ceiling v t) x ≡ hold_of v x
ceiling-most v t Request = refl
ceiling-most v t Fielddata = refl
ceiling-most v t Inflight = refl
ceiling-most v t Parent = refl

-- at rest the parent's hold is the sum of the children's
pub children-held : (v : View) → v.trial ≡ Rest → IsConsistent v → hold_of v Parent ≡ hold_of v Request + hold_of v Fielddata + hold_of v Inflight
children-held v rest own = let even = own.even in let none = ap (λ t. child_only t v.amount) rest in omega (arith, even, none)

pub at-request : (n : ℕ) → at_both n Request ≡ n
at-request n = omega arith

-- what is given back changes no total
pub wave-after : (settings : Settings) (index : Index) (requests : List AnyRequest) (old between new : View) (answers : List Answered) → IsWave settings index requests old between answers
    → ((x : Which) → granted_of new x ≡ granted_of between x) → ((x : Which) → trips_of new x ≡ trips_of between x) → IsWave settings index requests old new answers
wave-after settings index requests old between new answers wave granted trips = record {
  allowed = wave.allowed;
  risen = (let r = wave.risen in record {
    fielddata = (granted Fielddata ∙ r.fielddata.0, trips Fielddata ∙ r.fielddata.1);
    inflight = (granted Inflight ∙ r.inflight.0, trips Inflight ∙ r.inflight.1);
    searches = r.searches;
    least = r.least;
    exactly = r.exactly;
    request = granted Request ∙ r.request;
    at_request = r.at_request;
    at_parent = r.at_parent;
    request_told = r.request_told;
    parent_told = r.parent_told;
    request_trips = trips Request ∙ r.request_trips;
    parent_trips = trips Parent ∙ r.parent_trips;
    no_trips = r.no_trips;
  });
}

-- one request has one page
pub one-page : (index : ShardIndex) (request : AnyRequest) (pages rest : List Page) (p : Page) → AreBehind index (request ∷ []) pages → pages ≡ rest ++ p ∷ []
    → (pages ≡ p ∷ []) × IsBehind index request p.answered.outcome p.answered.failures p.next
one-page index request [] rest p behind same = absurd behind
one-page index request (q ∷ []) [] p behind same = (same, (let is : q ≡ p = cc in subst (λ (page : Page). IsBehind index request page.answered.outcome page.answered.failures page.next) is behind.0))
one-page index request (q ∷ []) (x ∷ xs) p behind same =
    absurd (let few = ap length same in let many : length (xs ++ p ∷ []) ≡ length xs + 1 = length-append xs (p ∷ []) in let one : 1 ≡ suc (length (xs ++ p ∷ [])) = few in omega (arith, one, many))
one-page index request (q ∷ r ∷ more) rest p behind same = absurd behind.1
