use Rattle.std.proofs.Common.{sym, subst}
use Rattle.std.specs.List.{IsDistinct}
use Rattle.std.specs.Ordering.{int_eq}
use Rattle.bucket_places.proofs.places.Places.growing.Goals as goal

pub invariant_of-result : goal.invariant_of-result
unfolding IsDistinct
invariant_of-result c = record {
  distinct = subst (IsDistinct int_eq) (sym c.new.ensures.items) tt;
  indexed = tt;
}
