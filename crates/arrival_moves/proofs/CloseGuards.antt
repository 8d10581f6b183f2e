-- What a desk that may close the table is.
use Rattle.std.proofs.Common.{◌≡◌, ℕ, ◌+◌, ◌*◌, ◌<◌, ◌≤◌, true}
use Rattle.std.proofs.lemmas.Bool.{and_parts, leb-true, ltb-true, eqb-true}
use Rattle.arrival_moves.specs.declared.limits.TheConstants.{ALL_CLAIMS}
use Rattle.arrival_moves.specs.declared.plan.Plan.{Plan}
use Rattle.arrival_moves.specs.declared.view.View.{View}
use Rattle.arrival_moves.specs.Plans.{tasks_of}
use Rattle.arrival_moves.specs.Hands.{all_closed}
use Rattle.arrival_moves.specs.Guards.{may_close}

-- the guard's parts, one by one
pub record MayClose (p : Plan) (q b : ℕ) (v : View) : Type 0 where
  pub drawn : 1 ≤ v.drawn
  pub whole : v.left + v.drawn ≡ ALL_CLAIMS
  pub ended : v.ended ≡ true
  pub closed : all_closed v.hand ≡ true
  pub real : b * p.batch < tasks_of p q

-- the guard says all of it
pub close_guard : (p : Plan) (q b : ℕ) (v : View) → may_close p q b v ≡ true → MayClose p q b v
close_guard p q b v m = let a = and_parts _ _ m in let c = and_parts _ _ a.0 in let d = and_parts _ _ c.0 in let e = and_parts _ _ d.0 in record {
  drawn = leb-true _ _ e.0;
  whole = eqb-true _ _ e.1;
  ended = d.1;
  closed = c.1;
  real = ltb-true _ _ a.1;
}
