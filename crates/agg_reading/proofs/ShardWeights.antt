-- The shards of a store together weigh what the store weighs.
use Rattle.std.specs.Prelude.{◌≡◌, refl, ℕ, ◌+◌, ◌<◌, ◌≤◌, suc, zero, List, [], ◌∷◌, map, filter, sum_by, true, false, ◌==◌, cond}
use Rattle.std.specs.List.{range_with_len}
use Rattle.std.proofs.Common.{◌∙◌, arith}
use Rattle.std.proofs.lemmas.Bool.Decides.{nat_tests}
use Rattle.std.proofs.lemmas.List.Sums.{sum_by-cons}
use Rattle.agg_model.specs.declared.row.Document.{Document}
use Rattle.agg_reading.specs.Routing.{shard_of}
use Rattle.agg_reading.specs.Store.{Store, live_documents, weight, store_weight, shards_of}

-- the documents whose number is s
abbrev pub numbered : (Document → ℕ) → List Document → ℕ → List Document
numbered number ds s = filter (λ d. number d == s) ds

abbrev hits : ℕ → ℕ → List ℕ → ℕ
hits x w ns = sum_by (λ (s : ℕ). cond (x == s) w 0) ns

hit_none : (x w a n : ℕ) → x < a → hits x w (range_with_len a n) ≡ 0
hit_none x w a zero low = refl
hit_none x w a (suc n) low =
    let other : (x == a) ≡ false = grind (arith, nat_tests, low) in
    sum_by-cons (λ (s : ℕ). cond (x == s) w 0) a (range_with_len (a + 1) n)
    ∙ (λ i. cond (other i) w 0 + hit_none x w (a + 1) n (omega (arith, low)) i)

hit_once : (x w a n : ℕ) → a ≤ x → x < a + n → hits x w (range_with_len a n) ≡ w
hit_once x w a zero low high = absurd (omega (arith, low, high))
hit_once x w a (suc n) low high =
    sum_by-cons (λ (s : ℕ). cond (x == s) w 0) a (range_with_len (a + 1) n)
    ∙ elim (x == a) as (λ b. (x == a) ≡ b → cond b w 0 + hits x w (range_with_len (a + 1) n) ≡ w) [
      | true ↦ λ e. let none = hit_none x w (a + 1) n (grind (arith, nat_tests, e)) in omega (arith, none)
      | false ↦ λ e. let once = hit_once x w (a + 1) n (grind (arith, nat_tests, e, low)) (omega (arith, high)) in omega (arith, once)
    ] refl

module _ (number : Document → ℕ) where
  abbrev total : List Document → List ℕ → ℕ
  total ds ns = sum_by (sum_by weight) (map (numbered number ds) ns)

  nothing : (ns : List ℕ) → total [] ns ≡ 0
  nothing [] = refl
  nothing (n ∷ ns) = let first = sum_by-cons (sum_by weight) [] (map (numbered number []) ns) in let rest = nothing ns in omega (arith, first, rest)

  one_more : (d : Document) (ds : List Document) (ns : List ℕ) → total (d ∷ ds) ns ≡ hits (number d) (weight d) ns + total ds ns
  one_more d ds [] = refl
  one_more d ds (n ∷ ns) =
      let rest = one_more d ds ns in
      let first = sum_by-cons (λ (s : ℕ). cond (number d == s) (weight d) 0) n ns in
      let all = sum_by-cons (sum_by weight) (numbered number ds n) (map (numbered number ds) ns) in
      let more = sum_by-cons weight d (numbered number ds n) in
      let left = sum_by-cons (sum_by weight) (numbered number (d ∷ ds) n) (map (numbered number (d ∷ ds)) ns) in
      let here : sum_by weight (numbered number (d ∷ ds) n) ≡ cond (number d == n) (weight d) 0 + sum_by weight (numbered number ds n) =
      elim (number d == n) as (λ b. sum_by weight (cond b (d ∷ numbered number ds n) (numbered number ds n)) ≡ cond b (weight d) 0 + sum_by weight (numbered number ds n)) [ true ↦ more | false ↦ omega arith ] in
      omega (arith, rest, first, all, left, here)

  spread : (n : ℕ) (ds : List Document) → ((d : Document) → number d < n) → total ds (range_with_len 0 n) ≡ sum_by weight ds
  spread n [] below = nothing (range_with_len 0 n)
  spread n (d ∷ ds) below =
      let more = one_more d ds (range_with_len 0 n) in
      let once = hit_once (number d) (weight d) 0 n (omega arith) (omega (arith, below d)) in
      let rest = spread n ds below in
      let all = sum_by-cons weight d ds in
      omega (arith, more, once, rest, all)

shard_below : (routing : List ℕ) (n : ℕ) → 1 ≤ n → shard_of routing n < n
unfolding shard_of
shard_below routing n some = omega arith

pub shards_weigh : (store : Store) (n : ℕ) → 1 ≤ n → sum_by (sum_by weight) (shards_of store n) ≡ store_weight store
unfolding shards_of store_weight
shards_weigh store n some = spread (λ d. shard_of d.routing n) n (live_documents store) (λ d. shard_below d.routing n some)
