-- The test of searches says exactly whether they are one and the same value.
use Rattle.std.specs.Prelude.{◌≡◌, true, Decides}
use Rattle.std.specs.Cmp.{first_so, second_so}
use Rattle.std.proofs.Common.{subst}
use Rattle.agg_model.specs.contracts.aggregation.SearchEq.TheImpl.Laws as search_laws
use Rattle.agg_model.specs.declared.aggregation.Search.{Search}
use Rattle.search_equality.specs.Equality.{equal_searches}
use Rattle.search_equality.proofs.EqualKinds.{agg-one}
use Rattle.search_equality.proofs.EqualParts.{AreOne, flag-one, items-one, number-one}
use Rattle.search_equality.proofs.EqualPipes.{pipe-one}
use Rattle.search_equality.proofs.EqualQueries.{query-one}

pub search-one : AreOne equal_searches
search-one a b e =
    let query = query-one a.query b.query (first_so _ _ e) in
    let rest = second_so _ _ e in
    let aggs = items-one agg-one a.aggs b.aggs (first_so _ _ rest) in
    let rest = second_so _ _ rest in
    let bytes = number-one a.body_bytes b.body_bytes (first_so _ _ rest) in
    let rest = second_so _ _ rest in
    let partial = flag-one a.partial b.partial (first_so _ _ rest) in
    let pipes = items-one pipe-one a.pipes b.pipes (second_so _ _ rest) in
    λ i. record { query = query i; aggs = aggs i; body_bytes = bytes i; partial = partial i; pipes = pipes i }

pub searches-one : (a b : Search) → Decides (equal_searches a b) (a ≡ b)
searches-one a b = (search-one a b, λ e. subst (λ c. equal_searches a c ≡ true) e ((search_laws.laws-law).refl a))
