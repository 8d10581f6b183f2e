-- What a desk shows of itself is what the table knows of it.
use Rattle.std.proofs.Common.{◌≡◌, ℕ, ◌+◌, ◌≤◌, Bool, [], ◌∷◌, sym, ap, ◌∙◌}
use Rattle.atomic_table.specs.Table.{Me, rest}
use Rattle.arrival_moves.specs.declared.limits.TheConstants.{ALL_CLAIMS}
use Rattle.arrival_moves.specs.declared.view.View.{View}
use Rattle.arrival_table.specs.declared.cell.Cell.{Cell}
use Rattle.arrival_table.specs.declared.known.Known.{Known}
use Rattle.arrival_table.specs.Outs.{knows, now_has_out}

module _ (A R : Type 0) where
  abbrev M : Type 0
  M = Me (Cell A R) Known

  abbrev pub Shows : ℕ → ℕ → Bool → M → Type 0
  Shows left drawn ended me = (me ≡ (knows me.0.view, [])) × (left ≡ me.0.view.left) × (drawn ≡ me.0.view.drawn) × (ended ≡ me.0.view.ended) × (left + drawn ≤ ALL_CLAIMS)

  -- after a step that leaves the desk with the view w and no slot
  pub shows : (left drawn : ℕ) (ended : Bool) (me : M) (w : View) → me ≡ (knows w, []) → left ≡ w.left → drawn ≡ w.drawn → ended ≡ w.ended → left + drawn ≤ ALL_CLAIMS → Shows left drawn ended me
  shows left drawn ended me w e l d n few = (e ∙ (λ i. (knows (sym e i).0.view, [])), l ∙ ap (λ (m : M). m.0.view.left) (sym e), d ∙ ap (λ (m : M). m.0.view.drawn) (sym e), n ∙ ap (λ (m : M). m.0.view.ended) (sym e), few)

  -- a slot that was taken is exchanged
  pub exchanged_out : (was taken after : M) (w : View) (j z : ℕ) (y new : Cell A R) → was ≡ (knows was.0.view, []) → z ≡ j → taken ≡ (now_has_out was.0 w z, (z, y) ∷ was.1) → after ≡ (taken.0, (j, new) ∷ rest taken.1) → after ≡ (now_has_out (knows w) w j, (j, new) ∷ [])
  exchanged_out was taken after w j z y new inv e t x = x ∙ (λ i. ((t i).0, (j, new) ∷ rest (t i).1)) ∙ (λ i. (now_has_out (inv i).0 w (e i), (j, new) ∷ (inv i).1))

  -- the slot that was taken last is the one that is to be exchanged
  pub taken_last : (was taken : M) (w : Known) (j z : ℕ) (y : Cell A R) → z ≡ j → taken ≡ (w, (z, y) ∷ was.1) → taken.1 ≡ (j, y) ∷ rest taken.1
  taken_last was taken w j z y e t = ap (λ (m : M). m.1) t ∙ (λ i. (e i, y) ∷ rest (sym t i).1)
