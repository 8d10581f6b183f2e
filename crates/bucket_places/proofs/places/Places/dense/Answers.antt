use Rattle.std.proofs.Common.{sym, subst, ℤ, List}
use Rattle.std.specs.List.{IsDistinct}
use Rattle.std.specs.Ordering.{int_eq}
use Rattle.bucket_places.specs.Places.{IsIndexed}
use Rattle.bucket_places.proofs.places.Places.dense.Goals as goal

pub invariant_of-result : goal.invariant_of-result
unfolding IsDistinct
invariant_of-result c =
    let index = c.in_ok-new.field-0 in record {
      distinct = subst (IsDistinct int_eq) (sym c.new.ensures.items) tt;
      indexed = subst (λ (xs : List ℤ). IsIndexed xs index.table.items index.others) (sym c.new.ensures.items) c.in_ok-new.ensures;
    }
