-- One result more that is taken: its pass is joined, and it is gathered.
use Rattle.std.specs.Prelude.{◌≡◌, refl, ◌≤◌, ◌<◌, ℕ, ◌==◌, List, [], ◌∷◌, ◌++◌, length, sum_by, slice_index_or}
use Rattle.std.proofs.Common.{sym, subst, arith}
use Rattle.std.proofs.lemmas.List.{map-append}
use Rattle.std.proofs.lemmas.List.Sums.{sum_by-cons}
use Rattle.list_laws.proofs.Sums.{sum_by-filter}
use Rattle.agg_model.specs.declared.breaker.Which.TheVariants.{Request}
use Rattle.arrival_table.specs.declared.table.Merged.{Merged}
use Rattle.breaker_words.specs.AfterStep.{after_join}
use Rattle.breaker_words.specs.Passes.{PassModel, with_view}
use Rattle.breaker_words.specs.Views.{hold_of}
use Rattle.breaker_words.specs.declared.view.View.{View}
use Rattle.pool_results.specs.Carried.{IsCarried}
use Rattle.pool_results.specs.Pools.{Pool}
use Rattle.pool_results.specs.declared.work.Work.{Work}
use Rattle.shard_pool.specs.Gathered.{AreGathered, IsAddedAt, bytes_of, no_results}
use Rattle.shard_pool.specs.Joined.{IsJoined}
use Rattle.shard_pool.specs.Results.{AreCarried, Result, results_of, views_in, works_in}
use Rattle.shard_pool.specs.declared.gathered.Gathered.{Gathered}
use Rattle.shard_pool.proofs.Adding.{added-at}
use Rattle.shard_pool.proofs.Passes.{all-append, joined-more}

pub record AreTaken (p : Pool) (old : View) (rs : List Result) (now : PassModel) (gs : List Gathered) : Type 0 where
  pub joined : IsJoined p.words old (views_in rs) now
  pub gathered : AreGathered (length p.searches) (works_in rs) gs
  pub carried : AreCarried p rs

-- what the passes hold for results is what their parts cost
pub bytes-held : (p : Pool) (rs : List Result) → AreCarried p rs → sum_by (λ v. hold_of v Request) (views_in rs) ≡ sum_by bytes_of (works_in rs)
bytes-held p [] h = refl
bytes-held p (r ∷ rs) h =
    let a = sum_by-cons (λ v. hold_of v Request) r.pass.view (views_in rs) in let b = sum_by-cons bytes_of r.work (works_in rs) in
    let here = h.0.charge.request in let rest = bytes-held p rs h.1 in omega (arith, a, b, here, rest)

-- the results of a search are held for by the pass
pub held-low : (p : Pool) (old : View) (rs : List Result) (now : PassModel) (gs : List Gathered) → AreTaken p old rs now gs → (q : ℕ) → q < length p.searches → (slice_index_or gs q no_results).held ≤ hold_of now.view Request
held-low p old rs now gs t q low =
    let a = (t.gathered.each q low).held in
    let b = sum_by-filter bytes_of (λ (w : Work). w.search == q) (works_in rs) in
    let c = bytes-held p rs t.carried in let d = t.joined.holds Request in omega (arith, a, b, c, d)

pub taken-more : (p : Pool) (old : View) (rs : List Result) (now next : PassModel) (gs hs : List Gathered) (w : Work) (a : PassModel) → AreTaken p old rs now gs → IsCarried p w a
    → next ≡ with_view now (after_join now.view a.view) → IsAddedAt w (hold_of a.view Request) gs hs → AreTaken p old (rs ++ record { work = w; pass = a } ∷ []) next hs
taken-more p old rs now next gs hs w a t one joined added = record {
  joined = subst (λ vs. IsJoined p.words old vs next) (sym (map-append (λ (r : Result). r.pass.view) rs (record { work = w; pass = a } ∷ [])))
      (subst (IsJoined p.words old (views_in rs ++ a.view ∷ [])) (sym joined) (joined-more p.words old (views_in rs) now t.joined a.view one.charge.some));
  gathered = subst (λ ws. AreGathered (length p.searches) ws hs) (sym (map-append (λ (r : Result). r.work) rs (record { work = w; pass = a } ∷ [])))
      (added-at (length p.searches) (works_in rs) gs hs w t.gathered one.runs.search (subst (λ n. IsAddedAt w n gs hs) one.charge.request added));
  carried = all-append (λ (r : Result). IsCarried p r.work r.pass) rs (record { work = w; pass = a } ∷ []) t.carried (one, tt);
}

pub results-more : {R : Type 0} (ms : List (Merged R)) (m : Merged R) (f : R → Result) → results_of (ms ++ m ∷ []) f ≡ results_of ms f ++ f m.result ∷ []
results-more ms m f = map-append (λ m. f m.result) ms (m ∷ [])
