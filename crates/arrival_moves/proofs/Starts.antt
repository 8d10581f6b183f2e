-- Where the words and slots of a search begin and end.
use Rattle.std.proofs.Common.{◌≡◌, ℕ, zero, suc, ◌+◌, ◌*◌, ◌/◌, ◌%◌, ◌<◌, ◌≤◌, eqb, ltb, div-add-mod', List, [], ◌∷◌, ◌++◌, length, get_or, set, take, replicate, sym, refl, ap, ◌∙◌, arith, length-set}
use Rattle.std.proofs.lemmas.List.{take_more, length-replicate}
use mathlib.Core.Option.{some, some-injective, some-ne-none}
use mathlib.Core.Logic.{dite}
use native.Mathlib.Decide.{ℕ_discrete, dec_lt}
use lib.ListN.{get_elem?}
use Rattle.std.specs.List.{sum_by}
use Rattle.std.proofs.lemmas.List.Sums.{sum_by-cons, sum_by-append}
use Rattle.arrival_moves.specs.declared.plan.Plan.{Plan}
use Rattle.arrival_moves.specs.Lists.{one_if, times}
use Rattle.arrival_moves.specs.Plans.{IsPlan, task_count, search_of, tasks_of, first_of, drawn_of}
use Rattle.arrival_moves.specs.Counts.{AreCounts}
use Rattle.arrival_moves.proofs.Counts.{within_batch}
use Rattle.arrival_moves.proofs.Quiet.{lt_one, lt_none, eq_one, eq_none}
use Rattle.arrival_moves.proofs.TaskPlaces.{none_before}
use Rattle.arrival_moves.proofs.Words.{drawn_valid, drawn_le, of_search_le}
use Rattle.list_laws.proofs.Places.{set_here, set_else}

pub at_replicate : {X : Type 0} (n j : ℕ) (x : X) → j < n → get_elem? (replicate n x) j ≡ some x
at_replicate zero j x h = absurd (omega arith)
at_replicate (suc n) zero x h = refl
at_replicate (suc n) (suc j) x h = at_replicate n j x (omega arith)

pub or_some : (xs : List ℕ) (i x d : ℕ) → get_elem? xs i ≡ some x → get_or xs i d ≡ x
or_some [] i x d e = absurd (some-ne-none x (sym e))
or_some (y ∷ ys) zero x d e = some-injective y x e
or_some (y ∷ ys) (suc i) x d e = or_some ys i x d e

take_all : (xs : List ℕ) → take (length xs) xs ≡ xs
take_all [] = refl
take_all (x ∷ xs) = ap (λ ys. x ∷ ys) (take_all xs)

-- a search that has a task is one of the searches
pub search_valid : (p : Plan) → IsPlan p → (q n : ℕ) → n < tasks_of p q → q < p.searches
search_valid p good q n h = let all : drawn_of p q (task_count p) ≡ tasks_of p q = ap (times q) (take_all p.tasks) in drawn_valid p good q (task_count p) (omega arith)

one_next : (x q : ℕ) → one_if (ltb x q) + one_if (eqb x q) ≡ one_if (ltb x (q + 1))
one_next x q = dite (ℕ_discrete x q) (λ y. let a = eq_one x q y in let b = lt_none x q (omega arith) in let c = lt_one x (q + 1) (omega arith) in omega arith)
    (λ y. let a = eq_none x q y in dite (dec_lt x q) (λ z. let b = lt_one x q z in let c = lt_one x (q + 1) (omega arith) in omega arith) (λ z. let b = lt_none x q (omega arith) in let c = lt_none x (q + 1) (omega arith) in omega arith))

next_in : (q : ℕ) (xs : List ℕ) → sum_by (λ x. one_if (ltb x q)) xs + times q xs ≡ sum_by (λ x. one_if (ltb x (q + 1))) xs
next_in q [] = refl
next_in q (x ∷ xs) = let a = next_in q xs in let b = one_next x q in let c = sum_by-cons (λ y. one_if (ltb y q)) x xs in let d = sum_by-cons (λ y. one_if (eqb y q)) x xs in let e = sum_by-cons (λ y. one_if (ltb y (q + 1))) x xs in omega arith

-- the next search begins where this one ends
pub next_start : (p : Plan) (q : ℕ) → first_of p q + tasks_of p q ≡ first_of p (q + 1)
next_start p q = next_in q p.tasks

most_in : (q : ℕ) (xs : List ℕ) → sum_by (λ x. one_if (ltb x q)) xs ≤ length xs
most_in q [] = omega arith
most_in q (x ∷ xs) = let a = most_in q xs in let c = sum_by-cons (λ y. one_if (ltb y q)) x xs in dite (dec_lt x q) (λ z. let b = lt_one x q z in omega arith) (λ z. let b = lt_none x q (omega arith) in omega arith)

pub start_within : (p : Plan) (q : ℕ) → first_of p q ≤ task_count p
start_within p q = most_in q p.tasks

-- the batch of a ticket is not past the tickets of its search
pub batch_within : (p : Plan) → IsPlan p → (q t : ℕ) → t < tasks_of p q → t / p.batch < tasks_of p q
batch_within p good q t h = let d : ℕ = t / p.batch in let dn : ℕ = d * p.batch in let whole : dn + t % p.batch ≡ t = div-add-mod' t p.batch in let begins : dn < tasks_of p q = omega arith in within_batch t p.batch d (tasks_of p q) good.batch begins

-- how many of the first k tasks each search has
pub record AreDrawn (p : Plan) (k : ℕ) (counts : List ℕ) : Type 0 where
  pub size : length counts ≡ p.searches
  pub each : (q : ℕ) → q < p.searches → get_elem? counts q ≡ some (drawn_of p q k)

-- one task more
drawn_next : (p : Plan) (q k : ℕ) → k < task_count p → drawn_of p q (k + 1) ≡ drawn_of p q k + one_if (eqb (search_of p k) q)
drawn_next p q k h = ap (times q) (take_more p.tasks k 0 h) ∙ (sum_by-append (λ x. one_if (eqb x q)) (take k p.tasks) (search_of p k ∷ []) ∙ (let a = sum_by-cons (λ x. one_if (eqb x q)) (search_of p k) [] in omega arith))

pub drawn_none : (p : Plan) → AreDrawn p 0 (replicate p.searches 0)
drawn_none p = record { size = length-replicate p.searches 0; each = λ q h. at_replicate p.searches q 0 h }

pub drawn_more : (p : Plan) (k s y : ℕ) (counts : List ℕ) → k < task_count p → s ≡ search_of p k → y ≡ get_or counts s y → AreDrawn p k counts → AreDrawn p (k + 1) (set counts s (y + 1))
drawn_more p k s y counts h is found d = record {
  size = length-set counts s (y + 1) ∙ d.size;
  each = λ q low. let next = drawn_next p q k h in dite (ℕ_discrete q s)
      (λ e. let was = or_some counts q (drawn_of p q k) y (d.each q low) in let one = eq_one (search_of p k) q (sym (e ∙ is)) in let n = d.size in
      ap (λ j. get_elem? (set counts s (y + 1)) j) e ∙ (set_here counts s (y + 1) (omega arith) ∙ ap some (let same : get_or counts s y ≡ get_or counts q y = ap (λ j. get_or counts j y) (sym e) in omega arith)))
      (λ e. let none = eq_none (search_of p k) q (λ z. e (sym z ∙ sym is)) in set_else counts s q (y + 1) e ∙ (d.each q low ∙ ap some (omega arith)));
}

-- a count is at most the number of tasks
pub drawn_few : (p : Plan) → IsPlan p → (k s y : ℕ) (counts : List ℕ) → s < p.searches → y ≡ get_or counts s y → AreDrawn p k counts → y ≤ task_count p
drawn_few p good k s y counts h found d = let a = or_some counts s (drawn_of p s k) y (d.each s h) in let b = drawn_le p good s k in let c = of_search_le s p.tasks in omega arith

-- all tasks were counted
pub drawn_all : (p : Plan) (counts : List ℕ) → AreDrawn p (task_count p) counts → AreCounts p counts
drawn_all p counts d = record { size = d.size; each = λ q h. d.each q h ∙ ap some (ap (times q) (take_all p.tasks)) }

-- where the first n searches begin
pub record AreStarts (p : Plan) (n : ℕ) (starts : List ℕ) : Type 0 where
  pub size : length starts ≡ n
  pub each : (q : ℕ) → q < n → get_elem? starts q ≡ some (first_of p q)

pub starts_more : (p : Plan) (n y : ℕ) (starts : List ℕ) → y ≡ first_of p n → AreStarts p n starts → AreStarts p (n + 1) (starts ++ y ∷ [])
starts_more p n y starts is s = record {
  size = longer starts ∙ ap (λ k. k + 1) s.size;
  each = λ q h. dite (dec_lt q n) (λ l. old starts q (first_of p q) (s.each q l))
      (λ l. let e : q ≡ length starts = (let a = s.size in omega arith) in new starts q e ∙ ap some (is ∙ ap (first_of p) (let a = s.size in let b : n ≡ q = omega arith in b)));
}
  where
    longer : (xs : List ℕ) → length (xs ++ y ∷ []) ≡ length xs + 1
    longer [] = refl
    longer (x ∷ xs) = let a = longer xs in omega arith

    old : (xs : List ℕ) (q z : ℕ) → get_elem? xs q ≡ some z → get_elem? (xs ++ y ∷ []) q ≡ some z
    old [] q z e = absurd (some-ne-none z (sym e))
    old (x ∷ xs) zero z e = e
    old (x ∷ xs) (suc q) z e = old xs q z e

    new : (xs : List ℕ) (q : ℕ) → q ≡ length xs → get_elem? (xs ++ y ∷ []) q ≡ some y
    new [] zero e = refl
    new [] (suc q) e = absurd (omega arith)
    new (x ∷ xs) zero e = absurd (omega arith)
    new (x ∷ xs) (suc q) e = new xs q (omega arith)

-- no search is before the first
pub first_start : (p : Plan) → first_of p 0 ≡ 0
first_start p = none_before p.tasks

-- where the next search begins, by the count of this one
pub start_counted : (p : Plan) (q count : ℕ) (counts : List ℕ) → AreCounts p counts → q < length counts → count ≡ get_or counts q 0 → first_of p q + count ≡ first_of p (q + 1)
start_counted p q count counts c h is = let a = next_start p q in let n = c.size in let b = or_some counts q (tasks_of p q) 0 (c.each q (omega arith)) in omega arith

pub starts_one : (p : Plan) → AreStarts p 1 (0 ∷ [])
starts_one p = record { size = refl; each = λ q h. first q (omega arith) }
  where
    first : (q : ℕ) → q ≡ 0 → get_elem? (0 ∷ []) q ≡ some (first_of p q)
    first zero e = ap some (sym (first_start p))
    first (suc q) e = absurd (omega arith)
