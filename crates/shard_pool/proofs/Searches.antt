-- Searches side by side: sums over all of them, and what holds of each.
use Rattle.std.specs.Prelude.{◌≡◌, refl, ◌≤◌, ◌<◌, ℕ, zero, suc, ◌+◌, ◌==◌, ◌&&◌, Bool, true, false, cond, List, [], ◌∷◌, length, sum_by, slice_index_or}
use Rattle.std.specs.List.{AllByRecursion, list_all, range_with_len}
use Rattle.std.proofs.Common.{sym, ap, subst, ◌∙◌, ⊎_elim, arith}
use Rattle.std.proofs.lemmas.Bool.{cases_Bool, eq-eqb, eqb-true}
use Rattle.std.proofs.lemmas.List.Sums.{sum_by-cons}
use Rattle.breaker_words.specs.Breakers.{counter_value}
use Rattle.breaker_words.specs.Passes.{PassModel}
use Rattle.breaker_words.specs.declared.view.View.{View}
use Rattle.shard_pool.specs.Closed.{works_of}
use Rattle.pool_results.specs.Carried.{IsCarried}
use Rattle.pool_results.specs.Pools.{Pool}
use Rattle.pool_results.specs.declared.work.Work.{Work}
use Rattle.shard_pool.specs.Gathered.{IsGathered, no_results}
use Rattle.shard_pool.specs.Results.{AreCarried, Result, views_in, works_in}
use Rattle.shard_pool.specs.Settled.{AreEnds, IsEndOf}
use Rattle.shard_pool.specs.declared.gathered.Gathered.{Gathered}
use Rattle.shard_pool.specs.declared.search_end.SearchEnd.{SearchEnd}

-- sums over passes and over what they hold for
module _ (p : Pool) (f : View → ℕ) (g : Work → ℕ) where
  pub sum-is : ((w : Work) (a : PassModel) → IsCarried p w a → f a.view ≡ g w) → (rs : List Result) → AreCarried p rs → sum_by f (views_in rs) ≡ sum_by g (works_in rs)
  sum-is each [] h = refl
  sum-is each (r ∷ rs) h = let a = sum_by-cons f r.pass.view (views_in rs) in let b = sum_by-cons g r.work (works_in rs) in let here = each r.work r.pass h.0 in let rest = sum-is each rs h.1 in omega (arith, a, b, here, rest)

  pub sum-most : ((w : Work) (a : PassModel) → IsCarried p w a → f a.view ≤ g w) → (rs : List Result) → AreCarried p rs → sum_by f (views_in rs) ≤ sum_by g (works_in rs)
  sum-most each [] h = omega arith
  sum-most each (r ∷ rs) h = let a = sum_by-cons f r.pass.view (views_in rs) in let b = sum_by-cons g r.work (works_in rs) in let here = each r.work r.pass h.0 in let rest = sum-most each rs h.1 in omega (arith, a, b, here, rest)

  -- a counter stops where it stops
  pub sum-counted : ((w : Work) (a : PassModel) → IsCarried p w a → counter_value (g w) ≤ f a.view) → (rs : List Result) → AreCarried p rs → counter_value (sum_by g (works_in rs)) ≤ sum_by f (views_in rs)
  sum-counted each [] h = omega arith
  sum-counted each (r ∷ rs) h = let a = sum_by-cons f r.pass.view (views_in rs) in let b = sum_by-cons g r.work (works_in rs) in let here = each r.work r.pass h.0 in let rest = sum-counted each rs h.1 in omega (arith, a, b, here, rest)

  -- what is known of the works beside
  pub sum-where : (P : Work → Type 0) → ((w : Work) (a : PassModel) → IsCarried p w a → P w → f a.view ≡ counter_value (g w)) → (rs : List Result) → AreCarried p rs → AllByRecursion P (works_in rs)
      → counter_value (sum_by f (views_in rs)) ≡ counter_value (sum_by g (works_in rs))
  sum-where P each [] h k = refl
  sum-where P each (r ∷ rs) h k = let a = sum_by-cons f r.pass.view (views_in rs) in let b = sum_by-cons g r.work (works_in rs) in let here = each r.work r.pass h.0 k.0 in let rest = sum-where P each rs h.1 k.1 in omega (arith, a, b, here, rest)

-- two numbers of each
pub sum-two : {A : Type 0} (f g : A → ℕ) (xs : List A) → sum_by (λ x. f x + g x) xs ≡ sum_by f xs + sum_by g xs
sum-two f g [] = refl
sum-two f g (x ∷ xs) = let a = sum_by-cons (λ x. f x + g x) x xs in let b = sum_by-cons f x xs in let c = sum_by-cons g x xs in let rest = sum-two f g xs in omega (arith, a, b, c, rest)

pub sum-range-most : (f g : ℕ → ℕ) (a n : ℕ) → ((k : ℕ) → a ≤ k → k < a + n → f k ≤ g k) → sum_by f (range_with_len a n) ≤ sum_by g (range_with_len a n)
sum-range-most f g a zero h = omega arith
sum-range-most f g a (suc n) h =
    let l = sum_by-cons f a (range_with_len (a + 1) n) in let r = sum_by-cons g a (range_with_len (a + 1) n) in
    let rest = sum-range-most f g (a + 1) n (λ k low high. h k (omega (arith, low)) (omega (arith, high))) in let here = h a (omega arith) (omega arith) in
    omega (arith, l, r, rest, here)

-- what holds of each by its search
pub of-search : (P : ℕ → Work → Type 0) (q : ℕ) (ws : List Work) → AllByRecursion (λ (w : Work). P w.search w) ws → AllByRecursion (P q) (works_of q ws)
of-search P q [] h = tt
of-search P q (w ∷ ws) h = ⊎_elim
    (λ (e : (w.search == q) ≡ true). subst (λ b. AllByRecursion (P q) (cond b (w ∷ works_of q ws) (works_of q ws))) (sym e) (subst (λ k. P k w) (eqb-true w.search q e) h.0, of-search P q ws h.1))
    (λ (e : (w.search == q) ≡ false). subst (λ b. AllByRecursion (P q) (cond b (w ∷ works_of q ws) (works_of q ws))) (sym e) (of-search P q ws h.1))
    (cases_Bool (w.search == q))

pub sum-search : (f : ℕ → Work → ℕ) (q : ℕ) (ws : List Work) → sum_by (λ (w : Work). f w.search w) (works_of q ws) ≡ sum_by (f q) (works_of q ws)
sum-search f q [] = refl
sum-search f q (w ∷ ws) = ⊎_elim
    (λ (e : (w.search == q) ≡ true).
    let there = works_of q ws in let l = ap (λ b. sum_by (λ (v : Work). f v.search v) (cond b (w ∷ there) there)) e in let r = ap (λ b. sum_by (f q) (cond b (w ∷ there) there)) e in
    let a = sum_by-cons (λ (v : Work). f v.search v) w there in let b = sum_by-cons (f q) w there in let rest = sum-search f q ws in let here : f w.search w ≡ f q w = ap (λ k. f k w) (eqb-true w.search q e) in
    l ∙ (a ∙ omega (arith, rest, here) ∙ sym b) ∙ sym r)
    (λ (e : (w.search == q) ≡ false).
    let there = works_of q ws in let l = ap (λ b. sum_by (λ (v : Work). f v.search v) (cond b (w ∷ there) there)) e in let r = ap (λ b. sum_by (f q) (cond b (w ∷ there) there)) e in
    l ∙ sum-search f q ws ∙ sym r)
    (cases_Bool (w.search == q))

-- what holds of those of each search holds of all
pub all-searches : (P : Work → Type 0) (n : ℕ) (ws : List Work) → AllByRecursion (λ (w : Work). w.search < n) ws → ((q : ℕ) → q < n → AllByRecursion P (works_of q ws)) → AllByRecursion P ws
all-searches P n [] low h = tt
all-searches P n (w ∷ ws) low h = (first.0, all-searches P n ws low.1 rest)
  where
    first : AllByRecursion P (w ∷ works_of w.search ws)
    first = subst (λ b. AllByRecursion P (cond b (w ∷ works_of w.search ws) (works_of w.search ws))) (eq-eqb w.search w.search refl) (h w.search low.0)

    rest : (q : ℕ) → q < n → AllByRecursion P (works_of q ws)
    rest q k = ⊎_elim
        (λ (e : (w.search == q) ≡ true). (let g : AllByRecursion P (w ∷ works_of q ws) = subst (λ b. AllByRecursion P (cond b (w ∷ works_of q ws) (works_of q ws))) e (h q k) in g.1))
        (λ (e : (w.search == q) ≡ false). (let g : AllByRecursion P (works_of q ws) = subst (λ b. AllByRecursion P (cond b (w ∷ works_of q ws) (works_of q ws))) e (h q k) in g))
        (cases_Bool (w.search == q))

-- ends by their places
pub ends-length : (gs : List Gathered) (es : List SearchEnd) → AreEnds gs es → length es ≡ length gs
ends-length [] [] h = refl
ends-length [] (e ∷ es) h = absurd h
ends-length (g ∷ gs) [] h = absurd h
ends-length (g ∷ gs) (e ∷ es) h = let k = ends-length gs es h.1 in omega (arith, k)

pub end-at : (gs : List Gathered) (es : List SearchEnd) → AreEnds gs es → (j : ℕ) (d : SearchEnd) → j < length gs → IsEndOf (slice_index_or gs j no_results) (slice_index_or es j d)
end-at [] [] h j d low = absurd (omega (arith, low))
end-at [] (e ∷ es) h j d low = absurd h
end-at (g ∷ gs) [] h j d low = absurd h
end-at (g ∷ gs) (e ∷ es) h zero d low = h.0
end-at (g ∷ gs) (e ∷ es) h (suc j) d low = end-at gs es h.1 j d (omega (arith, low))

pub all-at : (t : SearchEnd → Bool) (es : List SearchEnd) → list_all t es ≡ true → (j : ℕ) (d : SearchEnd) → j < length es → t (slice_index_or es j d) ≡ true
all-at t [] h j d low = absurd (omega (arith, low))
all-at t (e ∷ es) h zero d low = first-true (t e) (list_all t es) h
  where
    first-true : (a b : Bool) → (a && b) ≡ true → a ≡ true
    first-true true b e = refl
    first-true false b e = absurd (let no : ⊥ = cc in no)
all-at t (e ∷ es) h (suc j) d low = all-at t es (second-true (t e) (list_all t es) h) j d (omega (arith, low))
  where
    second-true : (a b : Bool) → (a && b) ≡ true → b ≡ true
    second-true true b e = e
    second-true false b e = absurd (let no : ⊥ = cc in no)

-- sums over ends, by what was gathered of each search
module _ (W : ℕ → List Work) (F : SearchEnd → ℕ) (H : Gathered → ℕ) (G : ℕ → ℕ) where
  abbrev Are : ℕ → List Gathered → Type 0
  Are a gs = (j : ℕ) → j < length gs → IsGathered (W (a + j)) (slice_index_or gs j no_results)

  later : (a : ℕ) (g : Gathered) (gs : List Gathered) → Are a (g ∷ gs) → Are (a + 1) gs
  later a g gs h j low = subst (λ k. IsGathered (W k) (slice_index_or gs j no_results)) (let e : a + suc j ≡ a + 1 + j = omega arith in e) (h (suc j) (omega (arith, low)))

  here : (a : ℕ) (g : Gathered) (gs : List Gathered) → Are a (g ∷ gs) → IsGathered (W a) g
  here a g gs h = subst (λ k. IsGathered (W k) g) (let e : a + 0 ≡ a = omega arith in e) (h 0 (omega arith))

  pub ends-sum : ((q : ℕ) (g : Gathered) (e : SearchEnd) → IsGathered (W q) g → IsEndOf g e → F e + H g ≡ G q) → (a : ℕ) (gs : List Gathered) (es : List SearchEnd) → AreEnds gs es → Are a gs
      → sum_by F es + sum_by H gs ≡ sum_by G (range_with_len a (length gs))
  ends-sum each a [] [] h k = refl
  ends-sum each a [] (e ∷ es) h k = absurd h
  ends-sum each a (g ∷ gs) [] h k = absurd h
  ends-sum each a (g ∷ gs) (e ∷ es) h k =
      let l = sum_by-cons F e es in let m = sum_by-cons H g gs in let r = sum_by-cons G a (range_with_len (a + 1) (length gs)) in
      let one = each a g e (here a g gs k) h.0 in let rest = ends-sum each (a + 1) gs es h.1 (later a g gs k) in omega (arith, l, m, r, one, rest)

  pub ends-most : ((q : ℕ) (g : Gathered) (e : SearchEnd) → IsGathered (W q) g → IsEndOf g e → F e ≤ G q) → (a : ℕ) (gs : List Gathered) (es : List SearchEnd) → AreEnds gs es → Are a gs
      → sum_by F es ≤ sum_by G (range_with_len a (length gs))
  ends-most each a [] [] h k = omega arith
  ends-most each a [] (e ∷ es) h k = absurd h
  ends-most each a (g ∷ gs) [] h k = absurd h
  ends-most each a (g ∷ gs) (e ∷ es) h k =
      let l = sum_by-cons F e es in let r = sum_by-cons G a (range_with_len (a + 1) (length gs)) in
      let one = each a g e (here a g gs k) h.0 in let rest = ends-most each (a + 1) gs es h.1 (later a g gs k) in omega (arith, l, r, one, rest)
