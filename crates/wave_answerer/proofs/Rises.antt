-- The rises of rounds behind others.
use Rattle.std.specs.Prelude.{◌≡◌, ℕ, ◌+◌, ◌&&◌, Bool, true, false, IsTrue, List, [], ◌∷◌, ◌++◌}
use Rattle.std.proofs.Common.{refl, ◌∙◌, ap, arith}
use Rattle.agg_spec.specs.Charges.{Amounts, amounts_sum, no_amounts}
use Rattle.agg_spec.specs.Index.{Index}
use Rattle.agg_spec.specs.Rises.{Rises, RoseBy, all_rises, rises}
use Rattle.agg_spec.specs.Rounds.{Round}

both : (a b : Bool) → IsTrue (a && b) → IsTrue a × IsTrue b
both true b is = (refl, is)
both false b is = absurd (let no : ⊥ = cc in no)

and-true : (a b : Bool) → IsTrue a → IsTrue b → IsTrue (a && b)
and-true a b first second = ap (λ x. x && b) first ∙ second

-- the rises c are those of a and of b
record AreOfBoth (a b c : Rises) : Type 0 where
  bodies : c.bodies ≡ a.bodies + b.bodies
  searches : c.searches ≡ a.searches + b.searches
  exact : IsTrue c.exact → IsTrue a.exact × IsTrue b.exact
  request : c.trips.request ≡ a.trips.request + b.trips.request
  inflight : c.trips.inflight ≡ a.trips.inflight + b.trips.inflight
  parent : c.trips.parent ≡ a.trips.parent + b.trips.parent
  quiet : IsTrue c.quiet → IsTrue a.quiet × IsTrue b.quiet

no-more : (a b : Amounts) → a ≡ no_amounts → b ≡ no_amounts → amounts_sum a b ≡ no_amounts
no-more a b first second = ap (λ x. amounts_sum x b) first ∙ ap (amounts_sum no_amounts) second

-- what two rises were granted and refused, for both together
rose-both : (a b c : Rises) (granted trips more again : Amounts) → AreOfBoth a b c → RoseBy a granted trips → RoseBy b more again → RoseBy c (amounts_sum granted more) (amounts_sum trips again)
rose-both a b c granted trips more again are first later = record {
  fielddata = (omega (arith, first.fielddata.0, later.fielddata.0), omega (arith, first.fielddata.1, later.fielddata.1));
  inflight = (omega (arith, are.bodies, first.inflight.0, later.inflight.0), omega (arith, are.inflight, first.inflight.1, later.inflight.1));
  searches = omega (arith, are.searches, first.searches, later.searches);
  exactly = λ is.
      let parts = are.exact is in
      let one = first.exactly parts.0 in
      let other = later.exactly parts.1 in
      omega (arith, are.searches, one, other);
  parent = omega (arith, first.parent, later.parent);
  request_trips = omega (arith, are.request, first.request_trips, later.request_trips);
  parent_trips = omega (arith, are.parent, first.parent_trips, later.parent_trips);
  no_trips = λ is.
      let parts = are.quiet is in
      no-more trips again (first.no_trips parts.0) (later.no_trips parts.1);
}

module _ (index : Index) (columns : ℕ) where
  one-more : (rounds : List Round) (round : Round) → AreOfBoth (all_rises index columns rounds) (rises index columns round) (all_rises index columns (rounds ++ round ∷ []))
  one-more [] round = record {
    bodies = omega arith;
    searches = omega arith;
    exact = λ is. (refl, (both _ _ is).0);
    request = omega arith;
    inflight = omega arith;
    parent = omega arith;
    quiet = λ is. (refl, (both _ _ is).0);
  }
  one-more (r ∷ rest) round =
      let later = one-more rest round in
      record {
        bodies = omega (arith, later.bodies);
        searches = omega (arith, later.searches);
        exact = λ is.
            let parts = both _ _ is in
            let more = later.exact parts.1 in
            (and-true _ _ parts.0 more.0, more.1);
        request = omega (arith, later.request);
        inflight = omega (arith, later.inflight);
        parent = omega (arith, later.parent);
        quiet = λ is.
            let parts = both _ _ is in
            let more = later.quiet parts.1 in
            (and-true _ _ parts.0 more.0, more.1);
      }

  -- one round more
  pub rose-more : (rounds : List Round) (round : Round) (granted trips more again : Amounts) → RoseBy (all_rises index columns rounds) granted trips
      → RoseBy (rises index columns round) more again → RoseBy (all_rises index columns (rounds ++ round ∷ [])) (amounts_sum granted more) (amounts_sum trips again)
  rose-more rounds round granted trips more again first later =
      rose-both (all_rises index columns rounds) (rises index columns round) _ granted trips more again (one-more rounds round) first later
