-- What a stable sort by path leaves.
use Rattle.std.specs.Prelude.{◌≡◌, List}
use Rattle.std.specs.declared.cmp.Ordering.{Ordering}
use Rattle.std.specs.Fn.{Called}
use Rattle.std.specs.List.Sorted.{IsSortedByClosure, IsStableByClosure}
use Rattle.std.proofs.Common.{ℕ, sym, subst}
use Rattle.list_laws.specs.Sorting.{sorted}
use Rattle.list_laws.proofs.StableSort as laws
use Rattle.agg_reading.specs.Properties.{by_path}
use Rattle.agg_model.specs.MappingOrder.{AscendsBy}
use Rattle.agg_reading.proofs.PathOrder.{by_path_total}
use denote.Param.Members.{Mut}
use denote.Ref.{Bor}

-- it is the sorted list of the definitions, and ascends
pub sorted_by_path : {A : Type 0} (path_of : A → List ℕ) {F : Type 0} {g : Mut F (Bor A × (Bor A × Unit {0})) Ordering} {f : F} (xs ys : List A) → IsSortedByClosure g f ys → IsStableByClosure g f xs ys
    → ((a : Bor A × (Bor A × Unit {0})) (r : Ordering) (f' : F) → Called g f a r f' → (r ≡ by_path path_of a.0.now a.1.0.now) × (f' ≡ f)) → (ys ≡ sorted (by_path path_of) xs) × AscendsBy path_of ys
sorted_by_path path_of xs ys up stable calls =
    let is : ys ≡ sorted (by_path path_of) xs = laws.sorted_from_sort_by (by_path path_of) (by_path_total path_of) xs ys up stable calls in
    (is, subst (AscendsBy path_of) (sym is) (laws.IsSortedBy-sorted (by_path path_of) (by_path_total path_of) xs))
