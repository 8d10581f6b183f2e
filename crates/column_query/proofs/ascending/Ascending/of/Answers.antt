use Rattle.std.proofs.Common.{refl, ◌∙◌}
use Rattle.std.specs.Ordering.{int_eq}
use Rattle.std.proofs.lemmas.Cmp.{int_cmp_total}
use Rattle.std.proofs.lemmas.List.Filters.{dedup_is}
use Rattle.std.proofs.lemmas.List.Kept.{IsStrictlySortedBy-dedup}
use Rattle.column_query.proofs.Searching.{sorted-has}
use Rattle.column_query.proofs.ascending.Ascending.of.Goals as goal

pub invariant_of-result : goal.invariant_of-result
invariant_of-result c =
    let is = c.shrink_to_fit.ensures.items ∙ dedup_is int_eq _ _ c.dedup.ensures.filtered in
    rw is (IsStrictlySortedBy-dedup int_cmp_total (λ x y. refl) _ c.sort_unstable.ensures.sorted)

pub returns : goal.returns
returns c x =
    sorted-has c.args.numbers.items c.sort_unstable.new.self.items c.shrink_to_fit.new.self.items c.sort_unstable.ensures.permutation
    (c.shrink_to_fit.ensures.items ∙ dedup_is int_eq _ _ c.dedup.ensures.filtered) x
