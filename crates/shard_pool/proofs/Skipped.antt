-- A search of which no result in a closed table failed has no result that says skipped.
use Rattle.std.specs.Prelude.{◌≡◌, refl, ℕ, ◌≤◌, ◌==◌, Bool, true, false, IsTrue, Contains, List}
use Rattle.std.specs.List.{AllByRecursion}
use Rattle.std.proofs.Common.{sym, ◌∙◌}
use Rattle.std.proofs.lemmas.Bool.{eq-eqb, eqb-true, false≢true}
use Rattle.std.proofs.lemmas.List.Elements.{recursion_from_All}
use Rattle.list_laws.proofs.Each.{each-mapped}
use Rattle.arrival_moves.specs.declared.plan.Plan.{Plan}
use Rattle.arrival_table.specs.Closing.{IsBesideFailed}
use Rattle.arrival_table.specs.declared.table.Merged.{Merged}
use Rattle.pool_results.specs.Carried.{has_failed, label_of}
use Rattle.pool_results.specs.Pools.{Pool}
use Rattle.pool_results.specs.declared.work.Work.{Work}
use Rattle.shard_pool.specs.Closed.{AreClosed, IsPlanOf, works, works_of}
use Rattle.shard_pool.proofs.Each.{contained, each-both, each-image, each-passed, each-passing}
use Rattle.shard_pool.proofs.WorkBatches.{IsKnown, all-known}

true-or-false : (b : Bool) → (b ≡ true → ⊥) → b ≡ false
true-or-false true h = absurd (h refl)
true-or-false false h = refl

module _ (p : Pool) (size : ℕ) (big : 2 ≤ size) (plan : Plan) (of : IsPlanOf p size plan) {R : Type 0} (work : R → Work) (ms : List (Merged R)) (closed : AreClosed work p plan ms) (q : ℕ) where
  abbrev at : Merged R → Bool
  at m = (work m.result).search == q

  pub none-skipped : AllByRecursion (λ w. has_failed w ≡ false) (works_of q (works work ms)) → AllByRecursion (λ (w : Work). w.skipped ≡ false) (works_of q (works work ms))
  none-skipped none =
      each-passed (λ (w : Work). w.skipped ≡ false) (λ (w : Work). w.search == q) (works work ms)
      (each-mapped (λ (m : Merged R). at m ≡ true → (work m.result).skipped ≡ false) (λ (w : Work). (w.search == q) ≡ true → w.skipped ≡ false) (λ m. work m.result) (λ m h. h) ms
      (each-both (IsKnown p size big plan of work) (λ (m : Merged R). IsTrue (label_of p (work m.result)).skipped → IsBesideFailed (λ r. label_of p (work r)) ms m) (λ (m : Merged R). at m ≡ true → (work m.result).skipped ≡ false) step ms
      known (recursion_from_All (λ (m : Merged R). IsTrue (label_of p (work m.result)).skipped → IsBesideFailed (λ r. label_of p (work r)) ms m) ms closed.skipped)))
    where
      known : AllByRecursion (IsKnown p size big plan of work) ms
      known = all-known p size big plan of work ms closed

      each : AllByRecursion (λ (m : Merged R). at m ≡ true → has_failed (work m.result) ≡ false) ms
      each = each-image (λ w. (w.search == q) ≡ true → has_failed w ≡ false) (λ (m : Merged R). work m.result) ms (each-passing (λ w. has_failed w ≡ false) (λ (w : Work). w.search == q) (works work ms) none)

      step : (m : Merged R) → IsKnown p size big plan of work m → (IsTrue (label_of p (work m.result)).skipped → IsBesideFailed (λ r. label_of p (work r)) ms m) → at m ≡ true → (work m.result).skipped ≡ false
      step m k beside here = true-or-false (work m.result).skipped (λ yes.
          let b = beside yes in
          let n : Merged R = b.0 in
          let there : Contains ms n = b.1 in
          let other : IsKnown p size big plan of work n = contained (IsKnown p size big plan of work) ms n known there in
          let same : (work n.result).search ≡ q = sym other.search_is ∙ b.2 ∙ k.search_is ∙ eqb-true (work m.result).search q here in
          let fails : has_failed (work n.result) ≡ false = contained (λ (m : Merged R). at m ≡ true → has_failed (work m.result) ≡ false) ms n each there (eq-eqb (work n.result).search q same) in
          false≢true (sym fails ∙ b.3))
