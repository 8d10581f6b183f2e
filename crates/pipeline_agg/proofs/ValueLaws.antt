-- Sums and extremes of the values of buckets, one bucket after another.
use Rattle.std.specs.Prelude.{◌≡◌, refl, ℕ, ℤ, pos, neg_ℤ, ◌+ℤ◌, ◌≤ℤ◌, ◌<◌, ◌+◌, ◌*◌, ◌^◌, ◌-ℤ◌, ◌&&◌, int_lt, true, Bool, IsTrue, List, [], ◌∷◌, ◌++◌, map, take, fold, Option, Some, None, unwrap_or}
use Rattle.std.specs.Int.{int_min, int_max}
use Rattle.std.proofs.Common.{◌∙◌, sym, ap, arith, length, get_or}
use Rattle.std.proofs.lemmas.Bool.{and_parts}
use Rattle.std.proofs.lemmas.Int.{ints}
use Rattle.std.proofs.lemmas.List.{map-append, take_more}
use Rattle.agg_model.specs.declared.aggregation.Kind.{Kind}
use Rattle.agg_model.specs.declared.answer.BucketAnswer.{BucketAnswer}
use Rattle.agg_model.specs.declared.pipeline.PipePath.{PipePath}
use Rattle.agg_spec.specs.Pipelines.{greatest_value, least_value, sum_of_values, value_at, values_of}
use Rattle.pipeline_agg.specs.Bounds.{IsTotal, greater, is_small, lesser}

pub sum-more : (vs : List (Option ℤ)) (v : Option ℤ) → sum_of_values (vs ++ v ∷ []) ≡ sum_of_values vs +ℤ unwrap_or v (pos 0)
sum-more [] None = refl
sum-more [] (Some m) = omega (arith, ints)
sum-more (None ∷ vs) v = sum-more vs v
sum-more (Some w ∷ vs) v = let rest = sum-more vs v in omega (arith, ints)

module _ (f : ℤ → ℤ → ℤ) where
  pub fold-more : (xs : List ℤ) (x y : ℤ) → fold f x (xs ++ y ∷ []) ≡ f (fold f x xs) y
  fold-more [] x y = refl
  fold-more (z ∷ xs) x y = fold-more xs (f x z) y

pub least-more : (vs : List (Option ℤ)) (v : Option ℤ) → least_value (vs ++ v ∷ []) ≡ lesser (least_value vs) v
least-more [] None = refl
least-more [] (Some m) = refl
least-more (None ∷ vs) v = least-more vs v
least-more (Some w ∷ vs) v = least-from w vs v where
  least-from : (x : ℤ) (us : List (Option ℤ)) (u : Option ℤ) → least_value (Some x ∷ (us ++ u ∷ [])) ≡ lesser (least_value (Some x ∷ us)) u
  least-from x [] None = refl
  least-from x [] (Some m) = refl
  least-from x (None ∷ us) u = least-from x us u
  least-from x (Some y ∷ us) u = least-from (int_min x y) us u

pub greatest-more : (vs : List (Option ℤ)) (v : Option ℤ) → greatest_value (vs ++ v ∷ []) ≡ greater (greatest_value vs) v
greatest-more [] None = refl
greatest-more [] (Some m) = refl
greatest-more (None ∷ vs) v = greatest-more vs v
greatest-more (Some w ∷ vs) v = greatest-from w vs v where
  greatest-from : (x : ℤ) (us : List (Option ℤ)) (u : Option ℤ) → greatest_value (Some x ∷ (us ++ u ∷ [])) ≡ greater (greatest_value (Some x ∷ us)) u
  greatest-from x [] None = refl
  greatest-from x [] (Some m) = refl
  greatest-from x (None ∷ us) u = greatest-from x us u
  greatest-from x (Some y ∷ us) u = greatest-from (int_max x y) us u

-- the values up to a bucket are those in front of it and its own
pub values-more : (kinds : List Kind) (at : PipePath) (bs : List BucketAnswer) (i : ℕ) (b : BucketAnswer) → i < length bs → b ≡ get_or bs i b
    → values_of kinds at (take (i + 1) bs) ≡ values_of kinds at (take i bs) ++ value_at kinds at b ∷ []
values-more kinds at bs i b within is =
    ap (values_of kinds at) (take_more bs i b within ∙ ap (λ x. take i bs ++ x ∷ []) (sym is)) ∙ map-append (value_at kinds at) (take i bs) (b ∷ [])

behind : (a b : ℤ) → int_lt a b ≡ true → a ≤ℤ b
behind a b h = omega (arith, ints)

-- a small value, or nothing for null, is within 2^64
pub small-within : (v : Option ℤ) → IsTrue (is_small v) → (neg_ℤ (pos (2 ^ 64)) ≤ℤ unwrap_or v (pos 0)) × (unwrap_or v (pos 0) ≤ℤ pos (2 ^ 64))
small-within None h = (let low : neg_ℤ (pos (2 ^ 64)) ≤ℤ pos 0 = omega (arith, ints) in low, let high : pos 0 ≤ℤ pos (2 ^ 64) = omega (arith, ints) in high)
small-within (Some n) h =
    let parts = and_parts (int_lt (pos 0 -ℤ pos (2 ^ 64)) n) (int_lt n (pos (2 ^ 64))) h in
    let low = behind (pos 0 -ℤ pos (2 ^ 64)) n parts.0 in
    let high = behind n (pos (2 ^ 64)) parts.1 in
    (omega (arith, ints, low), omega (arith, ints, high))

-- the sum with one more small value
pub total-more : (vs : List (Option ℤ)) (i : ℕ) (v : Option ℤ) (sum : ℤ) → IsTrue (is_small v) → IsTotal vs i sum → IsTotal (vs ++ v ∷ []) (i + 1) (sum +ℤ unwrap_or v (pos 0))
total-more vs i v sum small t =
    let within = small-within v small in
    let low = within.0 in
    let high = within.1 in
    let least = t.least in
    let most = t.most in
    (record {
      sum = ap (λ n. n +ℤ unwrap_or v (pos 0)) t.sum ∙ sym (sum-more vs v);
      least = omega (arith, ints, low, high, least, most);
      most = omega (arith, ints, low, high, least, most);
    })
