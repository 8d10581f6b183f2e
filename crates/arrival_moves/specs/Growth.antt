-- No word of the table ever falls.
use Rattle.std.specs.Prelude.{◌≡◌, ℕ, ◌+◌, ◌≤◌, slice_index}
use Rattle.arrival_moves.specs.declared.plan.Plan.{Plan}
use Rattle.arrival_moves.specs.declared.view.View.{View}
use Rattle.arrival_moves.specs.Moves.{ArrivalState, claim, move}
use Rattle.arrival_moves.specs.Holding.{IsDesk}

-- each word of t is at least that of s
pub record HasGrown (s t : ArrivalState) : Type 0 where
  pub claimed : s.claimed ≤ t.claimed
  pub tickets : (q : ℕ) → slice_index s.tickets q ≤ slice_index t.tickets q
  pub counts : (c : ℕ) → slice_index s.counts c ≤ slice_index t.counts c
  pub stops : (q : ℕ) → slice_index s.stops q ≤ slice_index t.stops q

-- a claim raises the claim word by one, whichever desk makes it
abbrev pub RaisesClaims : Plan → ArrivalState → Type 0
RaisesClaims p s = (i : ℕ) (v : View) → IsDesk s i v → 1 ≤ v.left → (move p s (claim i)).claimed ≡ s.claimed + 1
