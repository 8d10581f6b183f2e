-- A table that is opened meets the rule.
use Rattle.std.proofs.Common.{◌≡◌, ℕ, zero, suc, ◌+◌, ◌<◌, ◌≤◌, List, [], ◌∷◌, ◌++◌, length, map, replicate, sym, refl, ap, ◌∙◌, subst, arith}
use mathlib.Core.Option.{Option, some, some-injective, some-ne-none}
use lib.ListN.{get_elem?}
use Rattle.atomic_table.specs.Table.{opening}
use Rattle.atomic_table.proofs.Lists.{at_map}
use Rattle.arrival_moves.specs.declared.limits.TheConstants.{MAX_TASKS}
use Rattle.arrival_moves.specs.declared.label.Label.{Label}
use Rattle.arrival_moves.specs.declared.plan.Plan.{Plan}
use Rattle.arrival_table.specs.declared.cell.Cell.{Cell}
use Rattle.arrival_table.specs.declared.cell.Cell.TheVariants.{Vacant, Load}
use Rattle.arrival_table.specs.declared.opening.Task.{Task}
use Rattle.arrival_moves.specs.AfterMove.{first_view}
use Rattle.arrival_moves.specs.Labels.{task_label}
use Rattle.arrival_moves.specs.Moves.{load_slots}
use Rattle.arrival_moves.specs.Plans.{IsPlan, task_count}
use Rattle.arrival_moves.specs.Slots.{Slot, fresh, holds}
use Rattle.arrival_table.specs.Opening.{plan_of, IsFilled}
use Rattle.arrival_table.specs.Outs.{is_away, knows}
use Rattle.arrival_table.specs.Steps.{IsReached, IsLoadAt, IsOutcomeAt}
use Rattle.arrival_table.proofs.Filled.{of_replicate, something, mapped_length, mapped_at}

-- what `open` asks makes a plan
pub good_plan : {A : Type 0} (ts : List (Task A)) (searches batch : ℕ) → 2 ≤ batch → length ts ≤ MAX_TASKS → ((k : ℕ) (t : Task A) → get_elem? ts k ≡ some t → t.search < searches) → IsPlan (plan_of ts searches batch)
good_plan {A} ts searches batch size few valid = let n = mapped_length (λ (t : Task A). t.search) ts in record {
  batch = size;
  few = omega arith;
  tasks = λ k l. let t = something ts k (omega arith) in subst (λ q. q < searches) (sym (mapped_at (λ (t : Task A). t.search) ts k 0 t.0 t.1)) (valid k t.0 t.1);
}

zeros_more : (n m : ℕ) → let z : ℕ = 0 in replicate n z ++ replicate m z ≡ replicate (n + m) z
zeros_more zero m = ap (λ k. let z : ℕ = 0 in replicate k z) (let s : m ≡ 0 + m = omega arith in s)
zeros_more (suc n) m = let z : ℕ = 0 in ap (λ xs. z ∷ xs) (zeros_more n m) ∙ ap (λ k. replicate k z) (let s : suc (n + m) ≡ suc n + m = omega arith in s)

load_at : (k : ℕ) (qs : List ℕ) (j : ℕ) (x : Slot) → get_elem? (load_slots k qs) j ≡ some x → (j < length qs) × (x ≡ holds (task_label (k + j)))
load_at k [] j x e = absurd (some-ne-none x (sym e))
load_at k (q ∷ qs) zero x e = (omega arith, sym (some-injective _ x e) ∙ ap (λ n. holds (task_label n)) (let s : k ≡ k + 0 = omega arith in s))
load_at k (q ∷ qs) (suc j) x e = let r = load_at (suc k) qs j x e in let l = r.0 in (omega arith, r.1 ∙ ap (λ n. holds (task_label n)) (let s : suc k + j ≡ k + suc j = omega arith in s))

home_there : {S : Type 0} (xs : List S) (j : ℕ) (h : Option S) → get_elem? (map some xs) j ≡ some h → is_away h ≡ 0
home_there [] j h e = absurd (some-ne-none h (sym e))
home_there (x ∷ xs) zero h e = ap is_away (sym (some-injective (some x) h e))
home_there (x ∷ xs) (suc j) h e = home_there xs j h e

module _ {A R : Type 0} (load : A → Label) (outcome : R → Label) (ts : List (Task A)) (searches batch : ℕ) where
  abbrev P : Plan
  P = plan_of ts searches batch

  pub opened_state : (ws : List ℕ) (cells : List (Cell A R)) → ws ≡ replicate (1 + searches + length ts + searches) 0 → IsFilled 0 ts cells → ((k : ℕ) (t : Task A) → get_elem? ts k ≡ some t → load t.load ≡ task_label k)
      → IsReached load outcome P (opening ws cells (knows first_view))
  opened_state ws cells zeros f labels = let n = mapped_length (λ (t : Task A). t.search) ts in let c : ℕ = task_count P in let hs : List (Option (Cell A R)) = map some cells in (
    [],
    record {
      words = let z : ℕ = 0 in zeros ∙ (ap (λ k. replicate k z) (let s : 1 + searches + length ts + searches ≡ suc (searches + (c + searches)) = omega arith in s) ∙ ap (λ xs. z ∷ xs) (sym (ap (λ xs. replicate searches z ++ xs) (zeros_more c searches) ∙ zeros_more searches (c + searches))));
      desks = refl;
      loads = λ j x e. let l = load_at 0 P.tasks j x e in let low = l.0 in let t = something ts j (omega arith) in
          subst (IsLoadAt load outcome hs j) (sym l.1) (t.0.load, at_map some cells j (Load t.0.load) (f.loads j t.0 (omega arith) t.1), labels j t.0 t.1 ∙ ap task_label (let s : j ≡ 0 + j = omega arith in s));
      results = λ j x e. let l = of_replicate c j fresh x e in let low = l.0 in subst (IsOutcomeAt load outcome hs (c + j)) l.1 (at_map some cells (c + j) Vacant (f.vacant (c + j) (omega arith) (omega arith)));
      batches = λ j x e. let l = of_replicate c j fresh x e in let low = l.0 in subst (IsOutcomeAt load outcome hs (c + c + j)) l.1 (at_map some cells (c + c + j) Vacant (f.vacant (c + c + j) (omega arith) (omega arith)));
    },
    (λ j h e. sym (home_there cells j h e)),
  )

  -- the same under the table's names
  pub opened_state_at : (p : Plan) (ws : List ℕ) (cells : List (Cell A R)) → p ≡ P → ws ≡ replicate (1 + searches + length ts + searches) 0 → IsFilled 0 ts cells → ((k : ℕ) (t : Task A) → get_elem? ts k ≡ some t → load t.load ≡ task_label k)
      → IsReached load outcome p (opening ws cells (knows first_view))
  opened_state_at p ws cells is zeros f labels = subst (λ q. IsReached load outcome q (opening ws cells (knows first_view))) (sym is) (opened_state ws cells zeros f labels)
