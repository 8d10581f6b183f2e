-- The batches of a search: their numbers, their sizes, and the results that are of them.
use Rattle.std.specs.Prelude.{◌≡◌, refl, ℕ, zero, suc, ◌+◌, ◌-◌, ◌*◌, ◌%◌, ◌≤◌, ◌<◌, ◌==◌, nat_lt, min, Bool, true, false, cond, List, [], ◌∷◌, ◌++◌, filter, flat_map, length, map}
use Rattle.std.specs.List.{AllByRecursion}
use Rattle.std.proofs.Common.{sym, ◌∙◌, ap, subst, arith, suc-mul, mul-le-mul_right, mul-le-mul_left, div-add-mod', mod-lt}
use Rattle.std.proofs.lemmas.Bool.{eq-eqb, ne_eqb, lt-ltb, le-ltb}
use Rattle.std.proofs.lemmas.List.{length-map}
use mathlib.Core.Logic.{dite}
use native.Mathlib.Decide.{ℕ_discrete, dec_lt}
use Rattle.list_laws.proofs.Lists.{filter-flat_map, map-map, append-nil}
use Rattle.arrival_moves.specs.declared.plan.Plan.{Plan}
use Rattle.arrival_moves.specs.Lists.{numbers_from}
use Rattle.arrival_moves.specs.Plans.{batch_size, tasks_of}
use Rattle.arrival_moves.proofs.NumberLists.{numbers_length}
use Rattle.arrival_table.specs.Closing.{all_batches, batch_numbers, batches_of}
use Rattle.shard_pool.specs.Batches.{AreFull, batch_count}

-- numbers below another
below-none : (c a k : ℕ) → c ≤ a → filter (λ b. nat_lt b c) (numbers_from a k) ≡ []
below-none c a zero h = refl
below-none c a (suc k) h = ap (λ t. cond t (a ∷ filter (λ b. nat_lt b c) (numbers_from (suc a) k)) (filter (λ b. nat_lt b c) (numbers_from (suc a) k))) (le-ltb a c h) ∙ below-none c (suc a) k (omega (arith, h))

below : (c a k j : ℕ) → a + j ≡ c → j ≤ k → filter (λ b. nat_lt b c) (numbers_from a k) ≡ numbers_from a j
below c a k zero e h = below-none c a k (omega (arith, e))
below c a zero (suc j) e h = absurd (omega (arith, h))
below c a (suc k) (suc j) e h =
    ap (λ t. cond t (a ∷ filter (λ b. nat_lt b c) (numbers_from (suc a) k)) (filter (λ b. nat_lt b c) (numbers_from (suc a) k))) (lt-ltb a c (omega (arith, e)))
    ∙ ap (λ bs. a ∷ bs) (below c (suc a) k j (omega (arith, e)) (omega (arith, h)))

-- the same test of each number
test-same : (p r : ℕ → Bool) → ((b : ℕ) → p b ≡ r b) → (bs : List ℕ) → filter p bs ≡ filter r bs
test-same p r same [] = refl
test-same p r same (b ∷ bs) = λ i. cond (same b i) (b ∷ test-same p r same bs i) (test-same p r same bs i)

module _ (size n : ℕ) (some : 1 ≤ size) where
  whole : batch_count n size * size + (n + size - 1) % size ≡ n + size - 1
  whole = div-add-mod' (n + size - 1) size

  rest : (n + size - 1) % size < size
  rest = mod-lt (n + size - 1) (omega (arith, some))

  -- a batch that is below their number has its first task, and no other has
  pub has-batch : (b : ℕ) → b < batch_count n size → b * size < n
  has-batch b h =
      let c : ℕ = batch_count n size in let a : suc b * size ≤ c * size = mul-le-mul_right size h in let one = suc-mul b size in
      let bs : ℕ = b * size in let cs : ℕ = c * size in let w : cs + (n + size - 1) % size ≡ n + size - 1 = whole in
      let r : ℕ = (n + size - 1) % size in let l : bs + size ≤ cs = omega (arith, a, one) in let v : cs + r ≡ n + size - 1 = w in omega (arith, l, v, some)

  pub has-no-batch : (b : ℕ) → batch_count n size ≤ b → n ≤ b * size
  has-no-batch b h =
      let c : ℕ = batch_count n size in let a : c * size ≤ b * size = mul-le-mul_right size h in
      let bs : ℕ = b * size in let cs : ℕ = c * size in let r : ℕ = (n + size - 1) % size in let v : cs + r ≡ n + size - 1 = whole in let low : r < size = rest in let l : cs ≤ bs = a in
      omega (arith, l, v, low, some)

  pub batch-test : (b : ℕ) → nat_lt (b * size) n ≡ nat_lt b (batch_count n size)
  batch-test b = dite (dec_lt b (batch_count n size))
      (λ h. lt-ltb (b * size) n (has-batch b h) ∙ sym (lt-ltb b (batch_count n size) h))
      (λ h. le-ltb (b * size) n (has-no-batch b (omega (arith, h))) ∙ sym (le-ltb b (batch_count n size) (omega (arith, h))))

  -- there are at most as many as tasks
  pub count-low : batch_count n size ≤ n
  count-low = dite (dec_lt n (batch_count n size))
      (λ h. let a = has-batch n h in let b : n * 1 ≤ n * size = mul-le-mul_left n some in absurd (omega (arith, a, b)))
      (λ h. omega (arith, h))

module _ (plan : Plan) (q n : ℕ) (some : 1 ≤ plan.batch) (tasks : tasks_of plan q ≡ n) where
  abbrev count : ℕ
  count = batch_count n plan.batch

  -- the numbers of the batches of q
  pub numbers-are : batch_numbers plan q ≡ numbers_from 0 count
  numbers-are =
      ap (λ k. filter (λ b. nat_lt (b * plan.batch) k) (numbers_from 0 k)) tasks
      ∙ test-same (λ b. nat_lt (b * plan.batch) n) (λ b. nat_lt b count) (batch-test plan.batch n some) (numbers_from 0 n)
      ∙ below count 0 n count (omega arith) (count-low plan.batch n some)

  -- all but the last are full
  full-from : (a k : ℕ) → a + k ≡ count → AreFull plan.batch (map (batch_size plan q) (numbers_from a k))
  full-from a zero e = tt
  full-from a (suc zero) e = tt
  full-from a (suc (suc k)) e = (full, full-from (suc a) (suc k) (omega (arith, e)))
    where
      full : plan.batch ≤ batch_size plan q a
      full =
          let size : ℕ = plan.batch in let h = has-batch size n some (suc a) (omega (arith, e)) in let one = suc-mul a size in let v : ℕ = a * size in
          let g : v + size < n = omega (arith, h, one) in let t : ℕ = tasks_of plan q in let is : t ≡ n = tasks in
          let z : size ≤ min size (t - v) = omega (arith, g, is) in z

  pub sizes-full : AreFull plan.batch (map (batch_size plan q) (batch_numbers plan q))
  sizes-full = subst (λ bs. AreFull plan.batch (map (batch_size plan q) bs)) (sym numbers-are) (full-from 0 count (omega arith))

-- those of one search among all batches
own-batches : (plan : Plan) (q : ℕ) (bs : List ℕ) → filter (λ (z : ℕ × ℕ). z.0 == q) (map (λ b. (q, b)) bs) ≡ map (λ b. (q, b)) bs
own-batches plan q [] = refl
own-batches plan q (b ∷ bs) = ap (λ t. cond t ((q, b) ∷ filter (λ (z : ℕ × ℕ). z.0 == q) (map (λ c. (q, c)) bs)) (filter (λ (z : ℕ × ℕ). z.0 == q) (map (λ c. (q, c)) bs))) (eq-eqb q q refl) ∙ ap (λ zs. (q, b) ∷ zs) (own-batches plan q bs)

other-batches : (q r : ℕ) → (r ≡ q → ⊥) → (bs : List ℕ) → filter (λ (z : ℕ × ℕ). z.0 == q) (map (λ b. (r, b)) bs) ≡ []
other-batches q r apart [] = refl
other-batches q r apart (b ∷ bs) = ap (λ t. cond t ((r, b) ∷ filter (λ (z : ℕ × ℕ). z.0 == q) (map (λ c. (r, c)) bs)) (filter (λ (z : ℕ × ℕ). z.0 == q) (map (λ c. (r, c)) bs))) (ne_eqb r q apart) ∙ other-batches q r apart bs

module _ (plan : Plan) (q : ℕ) where
  abbrev of_q : List (ℕ × ℕ) → List (ℕ × ℕ)
  of_q zs = filter (λ (z : ℕ × ℕ). z.0 == q) zs

  later : (a m : ℕ) → q < a → flat_map (λ r. of_q (batches_of plan r)) (numbers_from a m) ≡ []
  later a zero h = refl
  later a (suc m) h = ap (λ zs. zs ++ flat_map (λ r. of_q (batches_of plan r)) (numbers_from (suc a) m)) (other-batches q a (λ e. omega (arith, e, h)) (batch_numbers plan a)) ∙ later (suc a) m (omega (arith, h))

  among : (a m : ℕ) → a ≤ q → q < a + m → flat_map (λ r. of_q (batches_of plan r)) (numbers_from a m) ≡ batches_of plan q
  among a zero low high = absurd (omega (arith, low, high))
  among a (suc m) low high = dite (ℕ_discrete a q)
      (λ e. ap (λ zs. zs ++ flat_map (λ r. of_q (batches_of plan r)) (numbers_from (suc a) m)) (ap (λ r. of_q (batches_of plan r)) e ∙ own-batches plan q (batch_numbers plan q))
      ∙ ap (λ zs. batches_of plan q ++ zs) (later (suc a) m (omega (arith, e))) ∙ append-nil (batches_of plan q))
      (λ e. ap (λ zs. zs ++ flat_map (λ r. of_q (batches_of plan r)) (numbers_from (suc a) m)) (other-batches q a e (batch_numbers plan a)) ∙ among (suc a) m (omega (arith, e, low)) (omega (arith, high)))

  pub batches-among : q < plan.searches → of_q (all_batches plan) ≡ batches_of plan q
  batches-among h = filter-flat_map (λ (z : ℕ × ℕ). z.0 == q) (batches_of plan) (numbers_from 0 plan.searches) ∙ among 0 plan.searches (omega arith) (omega (arith, h))

-- of results, each of a batch and of so many tasks: the sizes of those of a search are the sizes of its batches
module _ {X : Type 0} (plan : Plan) (place : X → ℕ × ℕ) (search number : X → ℕ) where
  pub record IsPlaced (x : X) : Type 0 where
    pub search_is : (place x).0 ≡ search x
    pub size : number x ≡ batch_size plan (place x).0 (place x).1

  sizes-placed : (q : ℕ) (xs : List X) → AllByRecursion IsPlaced xs
      → map number (filter (λ x. search x == q) xs) ≡ map (λ (z : ℕ × ℕ). batch_size plan z.0 z.1) (filter (λ (z : ℕ × ℕ). z.0 == q) (map place xs))
  sizes-placed q [] h = refl
  sizes-placed q (x ∷ xs) h =
      let more = sizes-placed q xs h.1 in
      let size : X → ℕ = λ x. batch_size plan (place x).0 (place x).1 in
      let there = filter (λ (z : ℕ × ℕ). z.0 == q) (map place xs) in
      ap (λ r. map number (cond (r == q) (x ∷ filter (λ x. search x == q) xs) (filter (λ x. search x == q) xs))) (sym h.0.search_is)
      ∙ elim ((place x).0 == q) as (λ b. map number (cond b (x ∷ filter (λ x. search x == q) xs) (filter (λ x. search x == q) xs)) ≡ map (λ (z : ℕ × ℕ). batch_size plan z.0 z.1) (cond b (place x ∷ there) there)) [
        | true ↦ λ i. h.0.size i ∷ more i
        | false ↦ more
      ]

  module _ (xs : List X) (batches : map place xs ≡ all_batches plan) (placed : AllByRecursion IsPlaced xs) (q : ℕ) (low : q < plan.searches) where
    pub sizes-are : map number (filter (λ x. search x == q) xs) ≡ map (batch_size plan q) (batch_numbers plan q)
    sizes-are =
        sizes-placed q xs placed ∙ ap (λ zs. map (λ (z : ℕ × ℕ). batch_size plan z.0 z.1) (filter (λ (z : ℕ × ℕ). z.0 == q) zs)) batches
        ∙ ap (map (λ (z : ℕ × ℕ). batch_size plan z.0 z.1)) (batches-among plan q low) ∙ map-map (λ (z : ℕ × ℕ). batch_size plan z.0 z.1) (λ b. (q, b)) (batch_numbers plan q)

    module _ (n : ℕ) (some : 1 ≤ plan.batch) (tasks : tasks_of plan q ≡ n) where
      -- there is one for each batch
      pub results-count : length (filter (λ x. search x == q) xs) ≡ batch_count n plan.batch
      results-count =
          sym (length-map (filter (λ x. search x == q) xs) number) ∙ ap length sizes-are ∙ length-map (batch_numbers plan q) (batch_size plan q)
          ∙ ap length (numbers-are plan q n some tasks) ∙ numbers_length 0 (batch_count n plan.batch)

      -- and all but the last are full
      pub results-full : AreFull plan.batch (map number (filter (λ x. search x == q) xs))
      results-full = subst (AreFull plan.batch) (sym sizes-are) (sizes-full plan q n some tasks)
