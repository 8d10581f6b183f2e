-- Lists and objects of a value beside the items and members that they stand for.
use Rattle.std.proofs.Common.{◌≡◌, ℕ, ◌+◌, ◌<◌, List, [], ◌∷◌, length, String, Global, Some, None, Ok, refl, arith}
use Rattle.serde_json.specs.Data.{array, object}
use Rattle.serde_json.specs.View.{items_view, members_view}
use Rattle.serde_json.specs.declared.value.Value.{Value}
use Rattle.agg_model.specs.declared.mapping.Mapping.{Mapping}
use Rattle.agg_reading.specs.Reading.{◌>>=◌, refuse}
use Rattle.agg_reading.specs.Orders.{item_count}
use Rattle.agg_reading.specs.Filters.{listed_from, named_from, filter_list_at}
use Rattle.agg_reading.specs.Composite.{some_sources, sources_from}

pub counted : (vs : List Value) → item_count (items_view vs) ≡ length vs
unfolding item_count
counted [] = refl
counted (v ∷ vs) = omega (arith, counted vs)

-- a list that is empty is refused, and else read item by item

pub no_listed : (m : Mapping) (context count : ℕ) (at : List ℕ) (vs : List Value) → length vs ≡ 0 → filter_list_at m context count at (array (items_view vs)) ≡ refuse 104 at
unfolding filter_list_at
no_listed m context count at [] h = refl
no_listed m context count at (v ∷ vs) h = absurd (omega (arith, h))

pub some_listed : (m : Mapping) (context count : ℕ) (at : List ℕ) (vs : List Value) → 0 < length vs
    → filter_list_at m context count at (array (items_view vs)) ≡ (listed_from m context at 0 [] count (items_view vs) >>= (λ r. Ok (None, r.0, r.1)))
unfolding filter_list_at
some_listed m context count at [] h = absurd (omega (arith, h))
some_listed m context count at (v ∷ vs) h = refl

pub no_named : (m : Mapping) (context count : ℕ) (at : List ℕ) (ms : List (String Global × Value)) → length ms ≡ 0 → filter_list_at m context count at (object (members_view ms)) ≡ refuse 104 at
unfolding filter_list_at
no_named m context count at [] h = refl
no_named m context count at (e ∷ ms) h = absurd (omega (arith, h))

pub some_named : (m : Mapping) (context count : ℕ) (at : List ℕ) (ms : List (String Global × Value)) → 0 < length ms
    → filter_list_at m context count at (object (members_view ms)) ≡ (named_from m context at [] [] count (members_view ms) >>= (λ r. Ok (Some r.0, r.1, r.2)))
unfolding filter_list_at
some_named m context count at [] h = absurd (omega (arith, h))
some_named m context count at (e ∷ ms) h = refl

pub some_sourced : (m : Mapping) (at : List ℕ) (vs : List Value) → 0 < length vs → some_sources m at (items_view vs) ≡ sources_from m at 0 [] (items_view vs)
some_sourced m at [] h = absurd (omega (arith, h))
some_sourced m at (v ∷ vs) h = refl
