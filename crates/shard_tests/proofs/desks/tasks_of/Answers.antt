use Rattle.std.proofs.Common.{rules, ◌≡◌, ℕ, zero, suc, ◌+◌, ◌<◌, List, [], ◌∷◌, ◌++◌, length, map, take, sym, ap, ◌∙◌, subst, refl, arith}
use Rattle.std.proofs.Math.Seq.{take-suc}
use mathlib.Core.Option.{some, some-injective, some-ne-none}
use lib.ListN.{get_elem?}
use Rattle.arrival_moves.specs.Plans.{search_of}
use Rattle.arrival_table.specs.declared.opening.Task.{Task}
use Rattle.shard_tests.specs.declared.desks.Numbered.{Numbered}
use Rattle.shard_tests.proofs.desks.tasks_of.Goals as goal

more : {X : Type 0} (F : ℕ → X → Type 0) (xs : List X) (y : X) → ((k : ℕ) (x : X) → get_elem? xs k ≡ some x → F k x) → F (length xs) y → (k : ℕ) (x : X) → get_elem? (xs ++ y ∷ []) k ≡ some x → F k x
more F [] y h mine zero x e = subst (F 0) (some-injective y x e) mine
more F [] y h mine (suc k) x e = absurd (some-ne-none x (sym e))
more F (z ∷ zs) y h mine zero x e = h 0 x e
more F (z ∷ zs) y h mine (suc k) x e = more (λ i. F (suc i)) zs y (λ i w d. h (suc i) w d) mine k x e

longer : {X : Type 0} (xs : List X) (x : X) → length (xs ++ x ∷ []) ≡ length xs + 1
longer [] x = refl
longer (y ∷ ys) x = let a = longer ys x in omega arith

mapped : {X Y : Type 0} (f : X → Y) (xs : List X) (x : X) → map f (xs ++ x ∷ []) ≡ map f xs ++ f x ∷ []
mapped f [] x = refl
mapped f (y ∷ ys) x = ap (λ zs. f y ∷ zs) (mapped f ys x)

pub loop-place-preserved : goal.loop-place-preserved
loop-place-preserved c = let i = c.loop-place.invariant in let n = c.loop-place.place in let xs = c.args.plan.now.tasks in let t : Task Numbered = record { search = search_of c.args.plan.now n; load = record { task = n } } in
    let F : ℕ → Task Numbered → Type 0 = λ k u. (u.search ≡ search_of c.args.plan.now k) × (u.load.task ≡ k) in
    let is : c.push.new.self ≡ c.loop-place.tasks ++ t ∷ [] = search rules in
    let low : n < length xs = search rules in
    let next : suc n ≡ n + 1 = omega arith in
    let mine : F (length c.loop-place.tasks) t = (ap (search_of c.args.plan.now) (sym i.size), sym i.size) in
    record {
      size = ap length is ∙ (longer c.loop-place.tasks t ∙ ap (λ k. k + 1) i.size);
      plan = ap (map (λ (u : Task Numbered). u.search)) is
          ∙ (mapped (λ (u : Task Numbered). u.search) c.loop-place.tasks t ∙ (ap (λ ys. ys ++ t.search ∷ []) i.plan ∙ (sym (take-suc xs n 0 low) ∙ ap (λ k. take k xs) next)));
      loads = λ k u e. more F c.loop-place.tasks t i.loads mine k u (sym (ap (λ (ys : List (Task Numbered)). get_elem? ys k) is) ∙ e);
    }
