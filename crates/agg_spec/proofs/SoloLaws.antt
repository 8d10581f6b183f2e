-- A run is taken apart at any step, task or batch; a refused charge has one place.
use Rattle.std.specs.Prelude.{◌≡◌, refl, ℕ, false, List, [], ◌∷◌, ◌++◌, fold, flat_map, Option, Some, None}
use Rattle.std.proofs.Common.{◌∙◌, ap, sym}
use Rattle.agg_model.specs.declared.breaker.Child.{Child}
use Rattle.agg_model.specs.declared.breaker.Limits.{Limits}
use Rattle.agg_model.specs.declared.breaker.Tripped.{Tripped}
use Rattle.agg_model.specs.declared.aggregation.Search.{Search}
use Rattle.agg_spec.specs.Charges.{Step, Run, charge, give_back, run, stepped, stepped_unless, refusal_of, charged}
use Rattle.agg_spec.specs.Reduction.{Going, Task, task_steps, task_ended, task_refused, unless_ended, after_task, after_tasks, after_batch, after_batches}
use Rattle.agg_spec.specs.Refusals.{RefusedAt}

pub fold-append : {A B : Type 0} (f : B → A → B) (b : B) (xs ys : List A) → fold f b (xs ++ ys) ≡ fold f (fold f b xs) ys
fold-append f b [] ys = refl
fold-append f b (x ∷ xs) ys = fold-append f (f b x) xs ys

module _ (limits : Limits) where
  pub run-append : (r : Run) (xs ys : List Step) → run limits r (xs ++ ys) ≡ run limits (run limits r xs) ys
  run-append r [] ys = refl
  run-append r (x ∷ xs) ys = run-append (stepped_unless r.refused limits r x) xs ys

  pub run-stopped : (r : Run) (t : Tripped) → r.refused ≡ Some t → (xs : List Step) → run limits r xs ≡ r
  run-stopped r t e [] = refl
  run-stopped r t e (x ∷ xs) = ap (λ o. run limits (stepped_unless o limits r x) xs) e ∙ run-stopped r t e xs

  later : (r : Run) (s : Step) (xs : List Step) (t : Tripped) → r.refused ≡ None → RefusedAt limits (stepped limits r s) xs t → RefusedAt limits r (s ∷ xs) t
  later r s xs t none at = record {
    before = s ∷ at.before;
    child = at.child;
    bytes = at.bytes;
    after = at.after;
    place = ap (λ zs. s ∷ zs) at.place;
    granted = ap (λ o. (run limits (stepped_unless o limits r s) at.before).refused) none ∙ at.granted;
    refused = ap (λ o. refusal_of limits (run limits (stepped_unless o limits r s) at.before).holds at.child at.bytes) none ∙ at.refused;
  }

  -- the refusal is this charge's, or comes later
  here_or_later : (xs : List Step) (c : Child) (n : ℕ) (r : Run) (t : Tripped) → r.refused ≡ None → (run limits (stepped limits r (charge c n)) xs).refused ≡ Some t
      → ((stepped limits r (charge c n)).refused ≡ None → RefusedAt limits (stepped limits r (charge c n)) xs t)
      → (o : Option Tripped) → refusal_of limits r.holds c n ≡ o → RefusedAt limits r (charge c n ∷ xs) t
  here_or_later xs c n r t none moved next None same = later r (charge c n) xs t none (next (ap (λ o. (charged o c n r).refused) same ∙ none))
  here_or_later xs c n r t none moved next (Some u) same =
      let stays : (run limits (charged (Some u) c n r) xs).refused ≡ Some u = ap (λ s. s.refused) (run-stopped (charged (Some u) c n r) u refl xs) in
      let ends : Some u ≡ Some t = sym stays ∙ (sym (ap (λ o. (run limits (charged o c n r) xs).refused) same) ∙ moved) in
      record { before = []; child = c; bytes = n; after = xs; place = refl; granted = none; refused = same ∙ ends }

  pub refused-at : (xs : List Step) (r : Run) (t : Tripped) → r.refused ≡ None → (run limits r xs).refused ≡ Some t → RefusedAt limits r xs t
  refused-at [] r t none some = absurd (let e : None ≡ Some t = sym none ∙ some in (let no : ⊥ = cc in no))
  refused-at (give_back c n ∷ xs) r t none some =
      later r (give_back c n) xs t none
      (refused-at xs (stepped limits r (give_back c n)) t none (sym (ap (λ o. (run limits (stepped_unless o limits r (give_back c n)) xs).refused) none) ∙ some))
  refused-at (charge c n ∷ xs) r t none some =
      here_or_later xs c n r t none (sym (ap (λ o. (run limits (stepped_unless o limits r (charge c n)) xs).refused) none) ∙ some)
      (λ granted. refused-at xs (stepped limits r (charge c n)) t granted
      (sym (ap (λ o. (run limits (stepped_unless o limits r (charge c n)) xs).refused) none) ∙ some)) (refusal_of limits r.holds c n) refl

module _ (limits : Limits) (search : Search) where
  pub tasks-append : (going : Going) (xs ys : List Task) → after_tasks limits search going (xs ++ ys) ≡ after_tasks limits search (after_tasks limits search going xs) ys
  tasks-append going xs ys = fold-append (after_task limits search) going xs ys

  pub batches-append : (going : Going) (xs ys : List (List Task)) → after_batches limits search going (xs ++ ys) ≡ after_batches limits search (after_batches limits search going xs) ys
  batches-append going xs ys = fold-append (λ g tasks. after_batch limits search (after_tasks limits search g tasks)) going xs ys

  ended-run : search.partial ≡ false → (o : Option Tripped) (task : Task) (after : Run) (going : Going) → (task_ended limits search o task after going).run ≡ after
  ended-run e None task after going = refl
  ended-run e (Some t) task after going = ap (λ b. (task_refused limits search b task.shard t after going).run) e

  task-run : search.partial ≡ false → (going : Going) (task : Task) → (after_task limits search going task).run ≡ run limits going.run (task_steps task)
  task-run e going task = by_refusal going.run.refused refl
    where
      after : Run
      after = run limits going.run (task_steps task)

      next : Going
      next = task_ended limits search after.refused task after going

      by_refusal : (o : Option Tripped) → going.run.refused ≡ o → (unless_ended going.run.refused next going).run ≡ after
      by_refusal None same = ap (λ o. (unless_ended o next going).run) same ∙ ended-run e after.refused task after going
      by_refusal (Some t) same = ap (λ o. (unless_ended o next going).run) same ∙ sym (run-stopped limits going.run t same (task_steps task))

  pub tasks-run : search.partial ≡ false → (tasks : List Task) (going : Going) → (after_tasks limits search going tasks).run ≡ run limits going.run (flat_map task_steps tasks)
  tasks-run e [] going = refl
  tasks-run e (task ∷ rest) going =
      tasks-run e rest (after_task limits search going task) ∙ ap (λ r. run limits r (flat_map task_steps rest)) (task-run e going task)
      ∙ sym (run-append limits going.run (task_steps task) (flat_map task_steps rest))
