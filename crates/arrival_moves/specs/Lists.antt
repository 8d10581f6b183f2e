-- Lists of numbers: how often one is there, and lists without one.
use Rattle.std.specs.Prelude.{ℕ, zero, suc, Bool, true, false, ◌&&◌, ◌||◌, ◌==◌, if◌then◌else◌, List, [], ◌∷◌}
use Rattle.std.specs.List.{sum_by}

-- 1 where it is true, so that sums count
abbrev pub one_if : Bool → ℕ
one_if b = if b then 1 else 0

-- how often k is in the list
abbrev pub times : ℕ → List ℕ → ℕ
times k xs = sum_by (λ x. one_if (x == k)) xs

-- whether k is in the list
abbrev pub contains : ℕ → List ℕ → Bool
contains k [] = false
contains k (x ∷ xs) = (x == k) || contains k xs

-- the list without the first k
abbrev pub without : ℕ → List ℕ → List ℕ
without k [] = []
without k (x ∷ xs) = if x == k then xs else x ∷ without k xs

-- whether the two are equal
abbrev pub same_list : List ℕ → List ℕ → Bool
same_list [] [] = true
same_list (x ∷ xs) (y ∷ ys) = (x == y) && same_list xs ys
same_list _ _ = false

-- the n numbers from t on
abbrev pub numbers_from : ℕ → ℕ → List ℕ
numbers_from t zero = []
numbers_from t (suc n) = t ∷ numbers_from (suc t) n
