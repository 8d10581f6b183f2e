-- The order of the sources, and tests of all items of a list.
use Rattle.std.proofs.Common.{◌≡◌, ℕ, zero, suc, ◌<◌, ◌≤◌, Bool, true, false, List, [], ◌∷◌, length, get_or, take, drop, ap, arith}
use Rattle.std.specs.Prelude.{T}
use Rattle.std.specs.List.{list_all, AllByRecursion}
use Rattle.std.specs.Ordering.{is_lt}
use Rattle.agg_model.specs.declared.aggregation.CompositeSource.{CompositeSource}
use Rattle.agg_model.specs.declared.key.Key.{Key}
use Rattle.bucket_order.specs.Composites.{key_parts}
use Rattle.bucket_order.proofs.CompositeLaws.{any_parts_total}
use Rattle.list_laws.proofs.Booleans.{and_left, and_right, both, holds}
use Rattle.list_laws.proofs.Orders.{less_is}
use Rattle.composite_agg.specs.InOrder.{page_cmp}

pub before_trans : (sources : List CompositeSource) (i j k : Key) → T (is_lt (page_cmp sources i j)) → T (is_lt (page_cmp sources j k)) → T (is_lt (page_cmp sources i k))
before_trans sources i j k e f = holds _ (ap is_lt ((any_parts_total sources).trans (key_parts i) (key_parts j) (key_parts k) (less_is _ e) (less_is _ f)))

-- a test that holds of all holds at each place
pub at : {A : Type 0} (p : A → Bool) (xs : List A) (i : ℕ) (d : A) → i < length xs → T (list_all p xs) → T (p (get_or xs i d))
at p [] i d below all = absurd (omega (arith, below))
at p (x ∷ xs) zero d below all = and_left _ _ all
at p (x ∷ xs) (suc i) d below all = at p xs i d (omega (arith, below)) (and_right _ _ all)

module _ {A : Type 0} (p : A → Bool) where
  pub front_all : (xs : List A) (n : ℕ) → n ≤ length xs → ((k : ℕ) (d : A) → k < n → p (get_or xs k d) ≡ true) → T (list_all p (take n xs))
  front_all [] zero le all = tt
  front_all [] (suc n) le all = tt
  front_all (x ∷ xs) zero le all = tt
  front_all (x ∷ xs) (suc n) le all = both _ _ (holds _ (all 0 x (omega arith))) (front_all xs n (omega (arith, le)) (λ k d below. all (suc k) d (omega (arith, below))))

  pub back_all : (xs : List A) (n : ℕ) → ((k : ℕ) (d : A) → n ≤ k → k < length xs → p (get_or xs k d) ≡ false) → AllByRecursion (λ x. p x ≡ false) (drop n xs)
  back_all [] zero all = tt
  back_all [] (suc n) all = tt
  back_all (x ∷ xs) zero all = (all 0 x (omega arith) (omega arith), back_all xs zero (λ k d le below. all (suc k) d (omega arith) (omega (arith, below))))
  back_all (x ∷ xs) (suc n) all = back_all xs n (λ k d le below. all (suc k) d (omega (arith, le)) (omega (arith, below)))
