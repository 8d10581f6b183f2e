-- What stands beneath a row is less deep than it.
use Rattle.std.proofs.Common.{◌≡◌, ℕ, List, ◌<◌, ◌≤◌, length, get_or, arith, subst, sym}
use denote.Param.Weighed.{most, at_most}
use Rattle.agg_model.specs.declared.row.Row.{Row, out-Row, size-Row}
use Rattle.agg_model.specs.declared.row.Children.{Children, out-Children, size-Children}
use Rattle.agg_model.specs.declared.row.Children.TheViews.{size_is-Row, size_is-Children}

pub row_less : (c : Children) (items : List Row) (i : ℕ) (r : Row) → items ≡ (out-Children c).rows → i < length items → r ≡ get_or items i r → size-Row r < size-Children c
row_less c items i r same within is =
    let deepest : size-Row r ≤ most size-Row items = subst (λ x. size-Row x ≤ most size-Row items) (sym is) (at_most size-Row items i r within) in
    let all : size-Row r ≤ most size-Row (out-Children c).rows = subst (λ (rs : List Row). size-Row r ≤ most size-Row rs) same deepest in
    omega (arith, all, size_is-Children c)

pub children_less : (r : Row) (items : List Children) (i : ℕ) (c : Children) → items ≡ (out-Row r).children → i < length items → c ≡ get_or items i c → size-Children c < size-Row r
children_less r items i c same within is =
    let deepest : size-Children c ≤ most size-Children items = subst (λ x. size-Children x ≤ most size-Children items) (sym is) (at_most size-Children items i c within) in
    let all : size-Children c ≤ most size-Children (out-Row r).children = subst (λ (cs : List Children). size-Children c ≤ most size-Children cs) same deepest in
    omega (arith, all, size_is-Row r)
