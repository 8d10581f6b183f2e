-- The depths of queries.
use Rattle.std.proofs.Common.{◌≡◌, ℕ, ◌<◌, ◌≤◌, List, length, get_or, sym, subst, ap, arith}
use denote.Param.Weighed.{most, at_most}
use Rattle.agg_model.specs.declared.query.Query.{Query, out-Query, roll-Query, out-roll-Query, size-Query}
use Rattle.agg_model.specs.declared.query.Query.TheOpen.{Query-F}
use Rattle.agg_model.specs.declared.query.Query.TheViews.{size_is-Query}
use Rattle.agg_model.specs.declared.query.Query.TheVariants as query
use Rattle.agg_evaluation.proofs.Computing.{computing}

out-Bool : (must must_not should : List Query) (minimum : ℕ) → out-Query (query.Bool must must_not should minimum) ≡ Query-F.Bool must must_not should minimum
unfolding computing Rattle.agg_model.specs.declared.query.Query.TheViews.out-Query Rattle.agg_model.specs.declared.query.Query.TheViews.roll-Query
out-Bool must must_not should minimum = out-roll-Query (Query-F.Bool must must_not should minimum)

out-Nested : (path : ℕ) (q : Query) → out-Query (query.Nested path q) ≡ Query-F.Nested path q
unfolding computing Rattle.agg_model.specs.declared.query.Query.TheViews.out-Query Rattle.agg_model.specs.declared.query.Query.TheViews.roll-Query
out-Nested path q = out-roll-Query (Query-F.Nested path q)

pub parts-less : (p : Query) (must must_not should : List Query) (minimum : ℕ) → p ≡ query.Bool must must_not should minimum →
    (most size-Query must < size-Query p) × (most size-Query must_not < size-Query p) × (most size-Query should < size-Query p)
parts-less p must must_not should minimum is =
    let h = rw (out-Bool must must_not should minimum) at (size_is-Query (query.Bool must must_not should minimum)) in
    let same : size-Query p ≡ size-Query (query.Bool must must_not should minimum) = ap size-Query is in
    (omega (arith, h, same), omega (arith, h, same), omega (arith, h, same))

pub inner-less : (p : Query) (path : ℕ) (q : Query) → p ≡ query.Nested path q → size-Query q < size-Query p
inner-less p path q is =
    let h = rw (out-Nested path q) at (size_is-Query (query.Nested path q)) in
    let same : size-Query p ≡ size-Query (query.Nested path q) = ap size-Query is in
    omega (arith, h, same)

pub item-most : (ps : List Query) (i : ℕ) (p : Query) → i < length ps → p ≡ get_or ps i p → size-Query p ≤ most size-Query ps
item-most ps i p within is = subst (λ x. size-Query x ≤ most size-Query ps) (sym is) (at_most size-Query ps i p within)
