-- The orders of buckets are total.
use Rattle.std.specs.Prelude.{◌≡◌, refl, ℤ, Bool, true, false, T, List, [], ◌∷◌, Option, Some, None}
use Rattle.std.specs.declared.cmp.Ordering.{Ordering}
use Rattle.std.specs.declared.cmp.Ordering.TheVariants.{Less, Equal, Greater}
use Rattle.std.specs.Ordering.{nat_cmp, int_cmp, ordering_reverse, is_gt, is_eq}
use Rattle.std.specs.Cmp.{IsTotalOrder}
use Rattle.std.proofs.Common.{subst}
use Rattle.std.proofs.lemmas.Cmp.{on_total, then_total, back_total, nat_cmp_total, int_cmp_total}
use Rattle.list_laws.proofs.Orders.{less_not_equal, greater_not_equal}
use Rattle.agg_model.specs.declared.aggregation.Kind.{Kind}
use Rattle.agg_model.specs.declared.aggregation.Order.{Order}
use Rattle.agg_model.specs.declared.aggregation.OrderBy.{OrderBy}
use Rattle.agg_model.specs.declared.aggregation.OrderBy.TheVariants as by
use Rattle.agg_evaluation.specs.KeyOrder.{key_cmp, directed}
use Rattle.agg_evaluation.specs.Orders.{value_cmp, child_value, bucket_key, bucket_count, cmp_by, bucket_cmp}
use Rattle.agg_evaluation.proofs.KeyCompare.{key_cmp_total}

equal_not_less : {A : Type 0} → Equal ≡ Less → A
equal_not_less e = absurd (subst (λ o. T (is_eq o)) e tt)

greater_not_less : {A : Type 0} → Greater ≡ Less → A
greater_not_less e = absurd (subst (λ o. T (is_gt o)) e tt)

-- turned round
module _ {K : Type 0} (R : K → K → Ordering) (total : IsTotalOrder R) where
  turned : IsTotalOrder (λ x y. ordering_reverse (R x y))
  turned = subst IsTotalOrder (λ i x y. total.antisymm y x i) (back_total total)

  pub directed_total : (descending : Bool) → IsTotalOrder (λ x y. directed descending (R x y))
  directed_total true = turned
  directed_total false = total

-- no value stands last
module _ {K : Type 0} (R : K → K → Ordering) (total : IsTotalOrder R) where
  abbrev pub null_last : Option K → Option K → Ordering
  null_last None None = Equal
  null_last None (Some n) = Greater
  null_last (Some m) None = Less
  null_last (Some m) (Some n) = R m n

  null_last_antisymm : (x y : Option K) → null_last x y ≡ ordering_reverse (null_last y x)
  null_last_antisymm None None = refl
  null_last_antisymm None (Some n) = refl
  null_last_antisymm (Some m) None = refl
  null_last_antisymm (Some m) (Some n) = total.antisymm m n

  null_last_trans : (x y z : Option K) → null_last x y ≡ Less → null_last y z ≡ Less → null_last x z ≡ Less
  null_last_trans None None z e f = equal_not_less e
  null_last_trans None (Some n) z e f = greater_not_less e
  null_last_trans (Some m) None None e f = refl
  null_last_trans (Some m) None (Some k) e f = greater_not_less f
  null_last_trans (Some m) (Some n) None e f = refl
  null_last_trans (Some m) (Some n) (Some k) e f = total.trans m n k e f

  null_last_congr : (x y z : Option K) → null_last x y ≡ Equal → null_last x z ≡ null_last y z
  null_last_congr None None z e = refl
  null_last_congr None (Some n) z e = greater_not_equal e
  null_last_congr (Some m) None z e = less_not_equal e
  null_last_congr (Some m) (Some n) None e = refl
  null_last_congr (Some m) (Some n) (Some k) e = total.congr m n k e

  pub null_last_total : IsTotalOrder null_last
  null_last_total = record { antisymm = null_last_antisymm; trans = null_last_trans; congr = null_last_congr }

value_is : (d : Bool) (x y : Option ℤ) → null_last (λ m n. directed d (int_cmp m n)) (directed_total int_cmp int_cmp_total d) x y ≡ value_cmp d x y
value_is d None None = refl
value_is d None (Some n) = refl
value_is d (Some m) None = refl
value_is d (Some m) (Some n) = refl

pub value_cmp_total : (d : Bool) → IsTotalOrder (value_cmp d)
value_cmp_total d = subst IsTotalOrder (λ i x y. value_is d x y i) (null_last_total (λ m n. directed d (int_cmp m n)) (directed_total int_cmp int_cmp_total d))

pub cmp_by_total : (kinds : List Kind) (d : Bool) (o : OrderBy) → IsTotalOrder (cmp_by kinds d o)
cmp_by_total kinds d by.Count = directed_total (λ a b. nat_cmp (bucket_count a) (bucket_count b)) (on_total bucket_count nat_cmp_total) d
cmp_by_total kinds d by.Key = directed_total (λ a b. key_cmp (bucket_key a) (bucket_key b)) (on_total bucket_key key_cmp_total) d
cmp_by_total kinds d (by.Child i) = on_total (child_value kinds i) (value_cmp_total d)

pub bucket_cmp_total : (kinds : List Kind) (orders : List Order) → IsTotalOrder (bucket_cmp kinds orders)
bucket_cmp_total kinds [] = on_total bucket_key key_cmp_total
bucket_cmp_total kinds (o ∷ os) = then_total (cmp_by_total kinds o.descending o.by) (bucket_cmp_total kinds os)
