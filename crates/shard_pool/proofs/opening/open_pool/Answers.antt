use Rattle.std.proofs.Common.{◌≡◌, ◌+◌, ◌-◌, ◌∷◌, [], ℕ, zero, suc, List, All, length, map, sum, sum_by, sym, ap, ◌∙◌, subst, refl, arith}
use Rattle.std.proofs.lemmas.List.Elements.{All-head, All-tail}
use Rattle.std.proofs.lemmas.List.Sums.{sum-map}
use mathlib.Core.Option.{some, some-injective, some-ne-none}
use lib.ListN.{get_elem?}
use Rattle.agg_model.specs.declared.breaker.Which.TheVariants.{Request}
use Rattle.arrival_moves.specs.Labels.{task_label}
use Rattle.arrival_table.specs.declared.opening.Task.{Task}
use Rattle.breaker_words.specs.Passes.{PassModel, with_view}
use Rattle.shard_pool.proofs.Lent.{with_less, with_more}
use Rattle.shard_pool.proofs.Rows.{numbered, searches-are}
use Rattle.shard_pool.proofs.opening.open_pool.Goals as goal
use Rattle.shard_pool.specs.Tasks.{task_places}
use Rattle.pool_results.specs.declared.load.Load.{Load}
use Rattle.pool_results.specs.Pools.{shard_count}

mapped : {X Y : Type 0} (f : X → Y) (xs : List X) (k : ℕ) (x : X) → get_elem? xs k ≡ some x → get_elem? (map f xs) k ≡ some (f x)
mapped f [] k x e = absurd (some-ne-none x (sym e))
mapped f (y ∷ ys) zero x e = ap (λ z. some (f z)) (some-injective y x e)
mapped f (y ∷ ys) (suc k) x e = mapped f ys k x e

each : {X : Type 0} (P : X → Type 0) (xs : List X) (k : ℕ) (x : X) → get_elem? xs k ≡ some x → All P xs → P x
each P [] k x e h = absurd (some-ne-none x (sym e))
each P (y ∷ ys) zero x e h = subst P (some-injective y x e) (All-head P y ys h)
each P (y ∷ ys) (suc k) x e h = each P ys k x e (All-tail P y ys h)

pub split_all-tasks-requires-clause-waiting : goal.split_all-tasks-requires-clause-waiting
split_all-tasks-requires-clause-waiting g c = c.in_ok-waiting.ensures ∙ (λ i. task_places (c.requires.searches i) (c.requires.shards i))

firsts : {X : Type 0} (f : X → ℕ) (place : X → ℕ × ℕ) (xs : List X) → All (λ x. f x ≡ (place x).0) xs → map f xs ≡ map (λ (y : ℕ × ℕ). y.0) (map place xs)
firsts f place [] h = refl
firsts f place (x ∷ xs) h = λ i. All-head (λ y. f y ≡ (place y).0) x xs h i ∷ firsts f place xs (All-tail (λ y. f y ≡ (place y).0) x xs h) i

pub open-requires-clause-searches : goal.open-requires-clause-searches
open-requires-clause-searches g c = λ k t e.
    let T : Type 0 = Task (Load g.row.J.Denot g.J.PoolCall) in let p = g.J.PoolCall.pool in let ts : List T = c.split_all-tasks.result.items in
    let place : T → ℕ × ℕ = λ t. (t.load.search, t.load.shard) in
    let there : get_elem? ts k ≡ some t = ap (λ (xs : List T). get_elem? xs k) (sym c.from_vec.ensures) ∙ e in
    let number = numbered (length p.searches) (shard_count p) k (place t) (ap (λ (xs : List (ℕ × ℕ)). get_elem? xs k) (sym c.split_all-tasks.ensures.places) ∙ mapped place ts k t there) in
    let same = each (λ (u : T). u.search ≡ u.load.search) ts k t there c.split_all-tasks.ensures.searches in let low = number.1 in let count = c.requires.searches in omega (arith, same, low, count)

pub open-requires-clause-labels : goal.open-requires-clause-labels
open-requires-clause-labels g c = λ k t e.
    let T : Type 0 = Task (Load g.row.J.Denot g.J.PoolCall) in let p = g.J.PoolCall.pool in let ts : List T = c.split_all-tasks.result.items in
    let place : T → ℕ × ℕ = λ t. (t.load.search, t.load.shard) in
    let there : get_elem? ts k ≡ some t = ap (λ (xs : List T). get_elem? xs k) (sym c.from_vec.ensures) ∙ e in
    let number = numbered (length p.searches) (shard_count p) k (place t) (ap (λ (xs : List (ℕ × ℕ)). get_elem? xs k) (sym c.split_all-tasks.ensures.places) ∙ mapped place ts k t there) in
    ap task_label number.0

pub returns-in-Ok-clause-plan : goal.returns-in-Ok-clause-plan
returns-in-Ok-clause-plan g c =
    let T : Type 0 = Task (Load g.row.J.Denot g.J.PoolCall) in let p = g.J.PoolCall.pool in let ts : List T = c.split_all-tasks.result.items in
    let place : T → ℕ × ℕ = λ t. (t.load.search, t.load.shard) in
    let searches = ap (map (λ (t : T). t.search)) c.from_vec.ensures ∙ firsts (λ (t : T). t.search) place ts c.split_all-tasks.ensures.searches
    ∙ ap (map (λ (y : ℕ × ℕ). y.0)) c.split_all-tasks.ensures.places ∙ searches-are (length p.searches) (shard_count p) in
    c.in-Ok.ensures.ok.0 ∙ (λ i. record { tasks = searches i; searches = c.requires.searches i; batch = c.args.size })

pub returns-in-Err-clause-refused : goal.returns-in-Err-clause-refused
returns-in-Err-clause-refused g c =
    let T : Type 0 = Task (Load g.row.J.Denot g.J.PoolCall) in let p = g.J.PoolCall.pool in let ts : List T = c.split_all-tasks.result.items in
    let place : T → ℕ × ℕ = λ t. (t.load.search, t.load.shard) in
    let old = c.args.pass.now in let n : ℕ = sum c.args.ceilings.now in let cap : T → ℕ = λ t. t.load.pass.view.cap in
    let less : c.split_all-tasks.new.pass ≡ with_less old n = c.split_all-tasks.ensures.lent ∙ ap (λ (a : PassModel). with_less a n) c.look.ensures.same in
    let all : sum_by cap c.in-Err.refused.tasks ≡ n = ap (sum_by cap) (c.in-Err.ensures.err ∙ c.from_vec.ensures) ∙ sym (sum-map cap ts) ∙ ap sum c.split_all-tasks.ensures.caps in
    let room = c.requires.room Request in
    c.join_all.ensures ∙ (λ i. with_more (less i) (all i)) ∙ ap (λ k. with_view old (record old.view { cap = k })) (let z : old.view.cap - n + n ≡ old.view.cap = omega (arith, room) in z)
