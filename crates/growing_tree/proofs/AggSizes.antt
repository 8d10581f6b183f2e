-- The children of an aggregation are smaller than the aggregation.
use Rattle.std.proofs.Common.{◌≡◌, ℕ, ◌<◌, ◌≤◌, List, length, get_or, sym, subst, arith}
use denote.Param.Weighed.{most, at_most}
use Rattle.agg_model.specs.declared.aggregation.Agg.{Agg, out-Agg, size-Agg}
use Rattle.agg_model.specs.declared.aggregation.Agg.TheViews.{size_is-Agg}

pub children_less : (a : Agg) → most size-Agg (out-Agg a).children < size-Agg a
children_less a = omega (arith, size_is-Agg a)

pub item-most : (aggs : List Agg) (i : ℕ) (a : Agg) → i < length aggs → a ≡ get_or aggs i a → size-Agg a ≤ most size-Agg aggs
item-most aggs i a within is = subst (λ x. size-Agg x ≤ most size-Agg aggs) (sym is) (at_most size-Agg aggs i a within)
