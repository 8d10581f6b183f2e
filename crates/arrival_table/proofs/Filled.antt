-- The slots of a table that is opened, filled from the last load on and emptied from the first.
use Rattle.std.proofs.Common.{◌≡◌, ℕ, zero, suc, ◌+◌, ◌<◌, List, [], ◌∷◌, ◌++◌, length, map, take, set, get_or, replicate, sym, refl, ap, ◌∙◌, arith, length-set}
use Rattle.std.proofs.lemmas.List.{length-replicate}
use mathlib.Core.Option.{some, some-injective, some-ne-none}
use mathlib.Core.Logic.{dite}
use native.Mathlib.Decide.{ℕ_discrete}
use lib.ListN.{get_elem?}
use Rattle.arrival_table.specs.declared.cell.Cell.{Cell}
use Rattle.arrival_table.specs.declared.cell.Cell.TheVariants.{Vacant, Load}
use Rattle.arrival_table.specs.declared.opening.Task.{Task}
use Rattle.arrival_table.specs.Opening.{IsFilled}
use Rattle.arrival_moves.proofs.Starts.{at_replicate}
use Rattle.list_laws.proofs.Places.{set_here, set_else}
use Rattle.list_laws.proofs.Places.{there_below}

pub of_replicate : {X : Type 0} (n j : ℕ) (x y : X) → get_elem? (replicate n x) j ≡ some y → (j < n) × (x ≡ y)
of_replicate zero j x y e = absurd (some-ne-none y (sym e))
of_replicate (suc n) zero x y e = (omega arith, some-injective x y e)
of_replicate (suc n) (suc j) x y e = let a = of_replicate n j x y e in let l = a.0 in (omega arith, a.1)

pub take_length : {X : Type 0} (xs : List X) → xs ≡ take (length xs) xs
take_length [] = refl
take_length (x ∷ xs) = ap (λ ys. x ∷ ys) (take_length xs)

rest_of : {X : Type 0} → List X → List X
rest_of [] = []
rest_of (x ∷ xs) = xs

-- a list that is one shorter than the first part of another is its first part too
pub one_shorter : {X : Type 0} (new : List X) (x : X) (ts : List X) → new ++ x ∷ [] ≡ take (suc (length new)) ts → (new ≡ take (length new) ts) × (get_elem? ts (length new) ≡ some x)
unfolding rest_of
one_shorter [] x [] e = absurd (some-ne-none x (ap (λ l. get_elem? l 0) e))
one_shorter [] x (t ∷ ts) e = (refl, ap (λ l. get_elem? l 0) (sym e))
one_shorter (y ∷ ys) x [] e = absurd (some-ne-none y (ap (λ l. get_elem? l 0) e))
one_shorter (y ∷ ys) x (t ∷ ts) e = let h : y ≡ t = some-injective y t (ap (λ l. get_elem? l 0) e) in let r = one_shorter ys x ts (ap rest_of e) in ((λ i. h i ∷ r.0 i), r.1)

module _ {A R : Type 0} where
  -- all slots are vacant at first
  pub filled_none : (ts : List (Task A)) (cells : List (Cell A R)) → cells ≡ replicate (length ts + length ts + length ts) Vacant → IsFilled (length ts) ts cells
  filled_none ts cells e = record {
    size = ap length e ∙ length-replicate _ _;
    loads = λ k t h g. let a = there_below ts k t g in absurd (omega arith);
    vacant = λ k a b. ap (λ xs. get_elem? xs k) e ∙ at_replicate _ k Vacant b;
  }

  -- one load more lies in its slot
  pub filled_more : (ts : List (Task A)) (cells : List (Cell A R)) (m j : ℕ) (t : Task A) → IsFilled m ts cells → m ≡ j + 1 → get_elem? ts j ≡ some t → IsFilled j ts (set cells j (Load t.load))
  filled_more ts cells m j t f next there = let low = there_below ts j t there in let n = f.size in record {
    size = length-set cells j (Load t.load) ∙ f.size;
    loads = λ k u h g. dite (ℕ_discrete k j)
        (λ same. let is : t ≡ u = some-injective t u (sym there ∙ (ap (get_elem? ts) (sym same) ∙ g)) in ap (get_elem? (set cells j (Load t.load))) same ∙ (set_here cells j (Load t.load) (omega arith) ∙ ap (λ (z : Task A). some (Load z.load)) is))
        (λ other. set_else cells j k (Load t.load) other ∙ f.loads k u (omega arith) g);
    vacant = λ k a b. set_else cells j k (Load t.load) (λ e. omega arith) ∙ f.vacant k a b;
  }

  -- the slot at j is emptied
  pub filled_less : (ts : List (Task A)) (cells : List (Cell A R)) (j : ℕ) → j < length ts → IsFilled j ts cells → IsFilled (j + 1) ts (set cells j Vacant)
  filled_less ts cells j low f = record {
    size = length-set cells j Vacant ∙ f.size;
    loads = λ k u h g. set_else cells j k Vacant (λ e. omega arith) ∙ f.loads k u (omega arith) g;
    vacant = λ k a b. set_else cells j k Vacant (λ e. omega arith) ∙ f.vacant k a b;
  }

pub something : {X : Type 0} (xs : List X) (j : ℕ) → j < length xs → (x : X) × (get_elem? xs j ≡ some x)
something [] j h = absurd (omega arith)
something (x ∷ xs) zero h = (x, refl)
something (x ∷ xs) (suc j) h = something xs j (omega arith)

pub take_more : {X : Type 0} (xs : List X) (j : ℕ) (x : X) → get_elem? xs j ≡ some x → take j xs ++ x ∷ [] ≡ take (suc j) xs
take_more [] j x e = absurd (some-ne-none x (sym e))
take_more (y ∷ ys) zero x e = ap (λ z. z ∷ []) (sym (some-injective y x e))
take_more (y ∷ ys) (suc j) x e = ap (λ zs. y ∷ zs) (take_more ys j x e)

pub mapped_length : {X Y : Type 0} (f : X → Y) (xs : List X) → length (map f xs) ≡ length xs
mapped_length f [] = refl
mapped_length f (x ∷ xs) = ap suc (mapped_length f xs)

pub mapped_at : {X : Type 0} (f : X → ℕ) (xs : List X) (j d : ℕ) (x : X) → get_elem? xs j ≡ some x → get_or (map f xs) j d ≡ f x
mapped_at f [] j d x e = absurd (some-ne-none x (sym e))
mapped_at f (y ∷ ys) zero d x e = ap f (some-injective y x e)
mapped_at f (y ∷ ys) (suc j) d x e = mapped_at f ys j d x e

pub at_or : {X : Type 0} (xs : List X) (j : ℕ) (x d : X) → get_elem? xs j ≡ some x → get_or xs j d ≡ x
at_or [] j x d e = absurd (some-ne-none x (sym e))
at_or (y ∷ ys) zero x d e = some-injective y x e
at_or (y ∷ ys) (suc j) x d e = at_or ys j x d e

abbrev load_of : {A R : Type 0} → A → Cell A R → A
load_of d (Load y) = y
load_of d c = d

-- what comes back from the slot j
module _ {A R : Type 0} (ts : List (Task A)) (cells : List (Cell A R)) (numbers : List ℕ) (old : List (Task A)) (j search : ℕ) (cell : Cell A R) where
  -- the task at j, whose load lies in the slot
  abbrev pub Comes : Type 0
  Comes = (t : Task A) × (get_elem? ts j ≡ some t) × (cell ≡ Load t.load) × (search ≡ t.search)

  pub comes : IsFilled j ts cells → numbers ≡ map (λ (t : Task A). t.search) ts → j < length numbers → cell ≡ get_or cells j cell → search ≡ get_or numbers j 0 → Comes
  comes f same low is number = let n : length numbers ≡ length ts = ap length same ∙ mapped_length (λ (t : Task A). t.search) ts in let t = something ts j (omega arith) in
      (t.0, t.1, is ∙ at_or cells j (Load t.0.load) cell (f.loads j t.0 (omega arith) t.1), number ∙ (ap (λ ns. get_or ns j 0) same ∙ mapped_at (λ (t : Task A). t.search) ts j 0 t.0 t.1))

  pub returned : (load : A) → Comes → cell ≡ Load load → old ≡ take j ts → old ++ record { search = search; load = load } ∷ [] ≡ take (j + 1) ts
  returned load c is prefix = let same : load ≡ c.0.load = ap (load_of load) (sym is ∙ c.2) in
      (λ i. prefix i ++ record { search = c.3 i; load = same i } ∷ []) ∙ (take_more ts j c.0 c.1 ∙ ap (λ k. take k ts) (let s : suc j ≡ j + 1 = omega arith in s))
