-- One result more of a search, and of all searches.
use Rattle.std.specs.Prelude.{◌≡◌, refl, ◌<◌, ℕ, ◌==◌, Bool, true, false, ◌||◌, List, [], ◌∷◌, ◌++◌, filter, flat_map, length, cond, option_to_list, slice_index_or, replicate, Option, Some, None}
use Rattle.std.proofs.Common.{sym, ap, subst, ◌∙◌, ⊎_elim, append_assoc, arith, length-set}
use Rattle.std.proofs.lemmas.Bool.{cases_Bool, eq-eqb, ne_eqb}
use Rattle.std.proofs.lemmas.Grind.{flat_map-append}
use Rattle.std.proofs.lemmas.List.{get_or-set_same, get_or-set_other, get_or-replicate, length-replicate}
use mathlib.Core.Logic.{dite}
use native.Mathlib.Decide.{ℕ_discrete}
use Rattle.list_laws.proofs.Lists.{filter-append}
use Rattle.agg_model.specs.declared.breaker.Tripped.{Tripped}
use Rattle.agg_spec.specs.Charges.{or_else}
use Rattle.shard_pool.specs.Closed.{works_of}
use Rattle.pool_results.specs.Runs.{failures_in}
use Rattle.pool_results.specs.declared.work.Work.{Work}
use Rattle.shard_pool.specs.Gathered.{AreGathered, IsAdded, IsAddedAt, IsFront, IsGathered, all_failures, bytes_of, first_refusal, no_results}
use Rattle.shard_pool.specs.declared.gathered.Gathered.{Gathered}
use Rattle.shard_pool.proofs.Passes.{all-append, sum-more}

or-assoc : (o p q : Option Tripped) → or_else (or_else o p) q ≡ or_else o (or_else p q)
or-assoc None p q = refl
or-assoc (Some t) p q = refl

or-none : (o : Option Tripped) → or_else o None ≡ o
or-none None = refl
or-none (Some t) = refl

refusal-more : (ws : List Work) (w : Work) → first_refusal (ws ++ w ∷ []) ≡ or_else (first_refusal ws) w.refused
refusal-more [] w = or-none w.refused
refusal-more (v ∷ ws) w = ap (or_else v.refused) (refusal-more ws w) ∙ sym (or-assoc v.refused (first_refusal ws) w.refused)

append-nil' : {A : Type 0} (xs : List A) → xs ++ [] ≡ xs
append-nil' [] = refl
append-nil' (x ∷ xs) = ap (λ ys. x ∷ ys) (append-nil' xs)

flat-more : {A : Type 0} (f : Work → List A) (ws : List Work) (w : Work) → flat_map f (ws ++ w ∷ []) ≡ flat_map f ws ++ f w
flat-more f ws w = flat_map-append f ws (w ∷ []) ∙ ap (λ ys. flat_map f ws ++ ys) (append-nil' (f w))

neither : (a b : Bool) → (a || b) ≡ false → (a ≡ false) × (b ≡ false)
neither false b e = (refl, e)
neither true b e = absurd (let no : ⊥ = cc in no)

gathered-none : IsGathered [] no_results
gathered-none = record { refused = refl; held = refl; memory = λ e. tt; parts = λ e. refl; failures = λ e. refl; front = ([], refl) }

gathered-more : (ws : List Work) (w : Work) (old new : Gathered) → IsGathered ws old → IsAdded w (bytes_of w) old new → IsGathered (ws ++ w ∷ []) new
gathered-more ws w old new g a = record {
  refused = a.refused ∙ ap (λ o. or_else o w.refused) g.refused ∙ sym (refusal-more ws w);
  held = (let h = a.held in let k = g.held in let s = sum-more bytes_of ws w in omega (arith, h, k, s));
  memory = λ e. (let n = neither old.memory w.memory (a.memory e) in all-append (λ (v : Work). v.memory ≡ false) ws (w ∷ []) (g.memory n.0) (n.1, tt));
  parts = λ e. (let n = neither old.memory w.memory (a.memory e) in a.parts e ∙ ap (λ ps. ps ++ option_to_list w.part) (g.parts n.0) ∙ sym (flat-more (λ (v : Work). option_to_list v.part) ws w));
  failures = λ e. (let n = neither old.memory w.memory (a.memory e) in a.failures e ∙ ap (λ fs. fs ++ failures_in w.runs) (g.failures n.0) ∙ sym (flat-more (λ (v : Work). failures_in v.runs) ws w));
  front = ⊎_elim stays goes (cases_Bool (old.memory || w.memory));
}
  where
    stays : (old.memory || w.memory) ≡ true → IsFront new.failures (all_failures (ws ++ w ∷ []))
    stays e = (g.front.0 ++ failures_in w.runs, ap (λ fs. fs ++ (g.front.0 ++ failures_in w.runs)) (a.kept e) ∙ sym (append_assoc old.failures g.front.0 (failures_in w.runs)) ∙ ap (λ fs. fs ++ failures_in w.runs) g.front.1 ∙ sym (flat-more (λ (v : Work). failures_in v.runs) ws w))

    goes : (old.memory || w.memory) ≡ false → IsFront new.failures (all_failures (ws ++ w ∷ []))
    goes e = let n = neither old.memory w.memory e in (a.front.0, a.front.1 ∙ ap (λ fs. fs ++ failures_in w.runs) (g.failures n.0) ∙ sym (flat-more (λ (v : Work). failures_in v.runs) ws w))

-- the results of a search with one more at the end
works-more : (q : ℕ) (ws : List Work) (w : Work) → works_of q (ws ++ w ∷ []) ≡ works_of q ws ++ filter (λ (v : Work). v.search == q) (w ∷ [])
works-more q ws w = filter-append (λ (v : Work). v.search == q) ws (w ∷ [])

works-own : (q : ℕ) (ws : List Work) (w : Work) → w.search ≡ q → works_of q (ws ++ w ∷ []) ≡ works_of q ws ++ w ∷ []
works-own q ws w e = works-more q ws w ∙ ap (λ b. works_of q ws ++ cond b (w ∷ []) []) (eq-eqb w.search q e)

works-other : (q : ℕ) (ws : List Work) (w : Work) → (w.search ≡ q → ⊥) → works_of q (ws ++ w ∷ []) ≡ works_of q ws
works-other q ws w e = works-more q ws w ∙ ap (λ b. works_of q ws ++ cond b (w ∷ []) []) (ne_eqb w.search q e) ∙ append-nil' (works_of q ws)

pub added-at : (n : ℕ) (ws : List Work) (gs hs : List Gathered) (w : Work) → AreGathered n ws gs → w.search < n → IsAddedAt w (bytes_of w) gs hs → AreGathered n (ws ++ w ∷ []) hs
added-at n ws gs hs w a low (g, added, is) = record {
  number = ap length is ∙ length-set gs w.search g ∙ a.number;
  each = λ q h. dite (ℕ_discrete w.search q) (own q) (other q h);
}
  where
    here : w.search < length gs
    here = let e = a.number in omega (arith, low, e)

    own : (q : ℕ) → w.search ≡ q → IsGathered (works_of q (ws ++ w ∷ [])) (slice_index_or hs q no_results)
    own q e = subst (λ k. IsGathered (works_of k (ws ++ w ∷ [])) (slice_index_or hs k no_results)) e
        (subst (λ vs. IsGathered vs (slice_index_or hs w.search no_results)) (sym (works-own w.search ws w refl))
        (subst (IsGathered (works_of w.search ws ++ w ∷ [])) (sym (ap (λ (fs : List Gathered). slice_index_or fs w.search no_results) is ∙ get_or-set_same gs w.search g no_results here))
        (gathered-more (works_of w.search ws) w (slice_index_or gs w.search no_results) g (a.each w.search low) added)))

    other : (q : ℕ) → q < n → (w.search ≡ q → ⊥) → IsGathered (works_of q (ws ++ w ∷ [])) (slice_index_or hs q no_results)
    other q h e = subst (λ vs. IsGathered vs (slice_index_or hs q no_results)) (sym (works-other q ws w e))
        (subst (IsGathered (works_of q ws)) (sym (ap (λ (fs : List Gathered). slice_index_or fs q no_results) is ∙ get_or-set_other gs w.search q g no_results (λ d. e (sym d)))) (a.each q h))

pub none-gathered : (n : ℕ) → AreGathered n [] (replicate n no_results)
none-gathered n = record { number = length-replicate n no_results; each = λ q h. subst (IsGathered []) (sym (get_or-replicate n q no_results no_results h)) gathered-none }
