-- The greatest number of a tree: what bounds it bounds each count, each error and each metric's number.
use Rattle.std.specs.Prelude.{ℕ, ◌+◌, ◌≤◌, max, cond, T, List, [], ◌∷◌, map, sum_by, nat_le}
use Rattle.std.specs.List.{list_all}
use Rattle.std.proofs.Common.{arith}
use Rattle.std.proofs.lemmas.Bool.Decides.{nat_tests}
use Rattle.std.proofs.lemmas.List.Sums.{sum_by-cons}
use Rattle.agg_model.specs.declared.aggregation.Agg.{Agg}
use Rattle.agg_model.specs.declared.aggregation.Kind.{Kind}
use Rattle.agg_model.specs.declared.partial.Bucket.{Bucket}
use Rattle.agg_model.specs.declared.partial.Metric.{Metric}
use Rattle.agg_model.specs.declared.partial.Node.{Node}
use Rattle.agg_evaluation.specs.Folds.{fold_agg}
use Rattle.agg_evaluation.specs.Orders.{bucket_count}
use Rattle.agg_evaluation.specs.Shard.{is_terms}
use Rattle.agg_evaluation.specs.Whole.{Parts, parts}
use Rattle.list_laws.proofs.Booleans.{and_left, and_right}

-- the greatest number of items, 0 where there are none
abbrev pub most : {A : Type 0} → (A → ℕ) → List A → ℕ
most f [] = 0
most f (x ∷ xs) = max (f x) (most f xs)

-- the greatest of what each function gives of its own node
abbrev pub most_each : List (Node → ℕ) → List Node → ℕ
most_each [] ns = 0
most_each (f ∷ fs) [] = 0
most_each (f ∷ fs) (n ∷ ns) = max (f n) (most_each fs ns)

-- the counts of returned terms, which are one number with what is cut
abbrev pub returned : Kind → List Bucket → ℕ
returned k bs = cond (is_terms k) (sum_by bucket_count bs) 0

-- the functions give the numbers of the children
abbrev pub bucket_reach : List (Node → ℕ) → Bucket → ℕ
bucket_reach fs b = max (max b.count b.covered) (most_each fs b.children)

-- `number` is a number of a metric
module _ (number : Metric → ℕ) where
  abbrev pub parts_reach : List (Node → ℕ) → Kind → Parts → ℕ
  parts_reach fs k p = max (max (max p.error p.full) (max (p.cut + returned k p.buckets) (most number p.metrics))) (most (bucket_reach fs) p.buckets)

  abbrev pub reach : Agg → Node → ℕ
  reach = fold_agg (λ a n. parts_reach a.children a.kind (parts n))

pub max_within : (a b c : ℕ) → a ≤ c → b ≤ c → max a b ≤ c
max_within a b c h g = omega (arith, h, g)

module _ {A : Type 0} (f : A → ℕ) where
  -- numbers that are all within a bound
  pub most_within : (b : ℕ) (xs : List A) → T (list_all (λ x. nat_le (f x) b) xs) → most f xs ≤ b
  most_within b [] h = omega arith
  most_within b (x ∷ xs) h =
      let here : T (nat_le (f x) b) = and_left (nat_le (f x) b) (list_all (λ x. nat_le (f x) b) xs) h in
      max_within (f x) (most f xs) b (grind (arith, nat_tests, here)) (most_within b xs (and_right (nat_le (f x) b) (list_all (λ x. nat_le (f x) b) xs) h))

  -- of changed items
  pub most_map : {B : Type 0} (b : ℕ) (g : B → A) (ys : List B) → ((y : B) → f (g y) ≤ b) → most f (map g ys) ≤ b
  most_map b g [] h = omega arith
  most_map b g (y ∷ ys) h = max_within (f (g y)) (most f (map g ys)) b (h y) (most_map b g ys h)

  -- what is at most the greatest of each list is at most their sum
  pub most_at_most : (xs : List A) → most f xs ≤ sum_by f xs
  most_at_most [] = omega arith
  most_at_most (x ∷ xs) = let cons = sum_by-cons f x xs in let rest = most_at_most xs in omega (arith, cons, rest)
