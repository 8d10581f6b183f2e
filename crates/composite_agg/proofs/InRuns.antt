-- Items in runs: the places of those of one run among all.
use Rattle.std.proofs.Common.{◌≡◌, refl, ℕ, zero, suc, ◌+◌, ◌<◌, ◌≤◌, List, [], ◌∷◌, ◌++◌, length, get_or, slice_set, take, drop, sym, ◌∙◌, ap, arith, append_assoc}
use Rattle.std.specs.List.{insert}
use Rattle.std.proofs.lemmas.List.{length-append, get_or-append-add, get_or_append_left, take-append-le, drop-append-le, set-append_left}
use Rattle.composite_agg.specs.Runs.{AreFilled, Run, in_runs, place_in}

take-behind : {A : Type 0} (p q : List A) (i : ℕ) → take (length p + i) (p ++ q) ≡ p ++ take i q
take-behind [] q i = let e : 0 + i ≡ i = omega arith in ap (λ n. take n q) e
take-behind (x ∷ p) q i = let e : length (x ∷ p) + i ≡ suc (length p + i) = omega arith in ap (λ n. take n ((x ∷ p) ++ q)) e ∙ ap (λ xs. x ∷ xs) (take-behind p q i)

drop-behind : {A : Type 0} (p q : List A) (i : ℕ) → drop (length p + i) (p ++ q) ≡ drop i q
drop-behind [] q i = let e : 0 + i ≡ i = omega arith in ap (λ n. drop n q) e
drop-behind (x ∷ p) q i = let e : length (x ∷ p) + i ≡ suc (length p + i) = omega arith in ap (λ n. drop n ((x ∷ p) ++ q)) e ∙ drop-behind p q i

set-behind : {A : Type 0} (p q : List A) (i : ℕ) (b : A) → slice_set (p ++ q) (length p + i) b ≡ p ++ slice_set q i b
set-behind [] q i b = let e : 0 + i ≡ i = omega arith in ap (λ n. slice_set q n b) e
set-behind (x ∷ p) q i b = let e : length (x ∷ p) + i ≡ suc (length p + i) = omega arith in ap (λ n. slice_set ((x ∷ p) ++ q) n b) e ∙ ap (λ xs. x ∷ xs) (set-behind p q i b)

-- one run, those before it, and those behind it
pub seam : {A : Type 0} (rs : List (Run A)) (r : ℕ) (d : Run A) → r < length rs → in_runs rs ≡ in_runs (take r rs) ++ ((get_or rs r d).items ++ in_runs (drop (suc r) rs))
seam [] r d below = absurd (omega (arith, below))
seam (x ∷ rs) zero d below = refl
seam (x ∷ rs) (suc r) d below =
    ap (λ bs. x.items ++ bs) (seam rs r d (omega (arith, below))) ∙ sym (append_assoc x.items (in_runs (take r rs)) ((get_or rs r d).items ++ in_runs (drop (suc r) rs)))

-- the same where another stands in its place
pub seam-set : {A : Type 0} (rs : List (Run A)) (r : ℕ) (run : Run A) → r < length rs → in_runs (slice_set rs r run) ≡ in_runs (take r rs) ++ (run.items ++ in_runs (drop (suc r) rs))
seam-set [] r run below = absurd (omega (arith, below))
seam-set (x ∷ rs) zero run below = refl
seam-set (x ∷ rs) (suc r) run below =
    ap (λ bs. x.items ++ bs) (seam-set rs r run (omega (arith, below))) ∙ sym (append_assoc x.items (in_runs (take r rs)) (run.items ++ in_runs (drop (suc r) rs)))

pub filled-set : {A : Type 0} (rs : List (Run A)) (r : ℕ) (run : Run A) → 0 < length run.items → AreFilled rs → AreFilled (slice_set rs r run)
filled-set [] r run some all = tt
filled-set (x ∷ rs) zero run some all = (some, all.1)
filled-set (x ∷ rs) (suc r) run some all = (all.0, filled-set rs r run some all.1)

pub filled-at : {A : Type 0} (rs : List (Run A)) (r : ℕ) (d : Run A) → r < length rs → AreFilled rs → 0 < length (get_or rs r d).items
filled-at [] r d below all = absurd (omega (arith, below))
filled-at (x ∷ rs) zero d below all = all.0
filled-at (x ∷ rs) (suc r) d below all = filled-at rs r d (omega (arith, below)) all.1

pub filled-take : {A : Type 0} (rs : List (Run A)) (n : ℕ) → AreFilled rs → AreFilled (take n rs)
filled-take [] zero all = tt
filled-take [] (suc n) all = tt
filled-take (x ∷ rs) zero all = tt
filled-take (x ∷ rs) (suc n) all = (all.0, filled-take rs n all.1)

pub filled-insert : {A : Type 0} (rs : List (Run A)) (n : ℕ) (run : Run A) → 0 < length run.items → AreFilled rs → AreFilled (take n rs ++ run ∷ drop n rs)
filled-insert [] zero run some all = (some, tt)
filled-insert [] (suc n) run some all = (some, tt)
filled-insert (x ∷ rs) zero run some all = (some, all)
filled-insert (x ∷ rs) (suc n) run some all = (all.0, filled-insert rs n run some all.1)

module _ {A : Type 0} (rs : List (Run A)) (r i : ℕ) (d : Run A) (below : r < length rs) where
  abbrev front : List A
  front = in_runs (take r rs)

  abbrev run : List A
  run = (get_or rs r d).items

  abbrev back : List A
  back = in_runs (drop (suc r) rs)

  pub taken : i ≤ length run → take (place_in rs r i) (in_runs rs) ≡ front ++ take i run
  taken le = ap (take (place_in rs r i)) (seam rs r d below) ∙ take-behind front (run ++ back) i ∙ ap (λ xs. front ++ xs) (take-append-le i run back le)

  pub dropped : i ≤ length run → drop (place_in rs r i) (in_runs rs) ≡ drop i run ++ back
  dropped le = ap (drop (place_in rs r i)) (seam rs r d below) ∙ drop-behind front (run ++ back) i ∙ drop-append-le i run back le

  pub got : (e : A) → i < length run → get_or (in_runs rs) (place_in rs r i) e ≡ get_or run i e
  got e lt = ap (λ xs. get_or xs (place_in rs r i) e) (seam rs r d below) ∙ get_or-append-add front (run ++ back) i e ∙ get_or_append_left run back e i lt

  pub place-below : i < length run → place_in rs r i < length (in_runs rs)
  place-below lt =
      let n = ap length (seam rs r d below) ∙ length-append front (run ++ back) in
      let m = length-append run back in
      omega (arith, n, m, lt)

  pub set-in : (other : Run A) (b : A) → i < length run → other.items ≡ slice_set run i b → in_runs (slice_set rs r other) ≡ slice_set (in_runs rs) (place_in rs r i) b
  set-in other b lt e =
      seam-set rs r other below ∙ ap (λ xs. front ++ (xs ++ back)) e
      ∙ sym (ap (λ xs. slice_set xs (place_in rs r i) b) (seam rs r d below) ∙ set-behind front (run ++ back) i b ∙ ap (λ xs. front ++ xs) (set-append_left run back i b lt))

  pub insert-in : (other : Run A) (b : A) → i ≤ length run → other.items ≡ insert run i b → in_runs (slice_set rs r other) ≡ insert (in_runs rs) (place_in rs r i) b
  insert-in other b le e =
      seam-set rs r other below ∙ ap (λ xs. front ++ (xs ++ back)) e
      ∙ ap (λ xs. front ++ xs) (append_assoc (take i run) (b ∷ drop i run) back)
      ∙ sym (append_assoc front (take i run) (b ∷ (drop i run ++ back)))
      ∙ sym (ap (λ xs. xs ++ b ∷ drop (place_in rs r i) (in_runs rs)) (taken le) ∙ ap (λ ys. (front ++ take i run) ++ b ∷ ys) (dropped le))

  pub same-in : (other : Run A) → other.items ≡ run → in_runs (slice_set rs r other) ≡ in_runs rs
  same-in other e = seam-set rs r other below ∙ ap (λ xs. front ++ (xs ++ back)) e ∙ sym (seam rs r d below)

-- a run that is parted into two
pub parted-in : {A : Type 0} (rs : List (Run A)) (r : ℕ) (d one two : Run A) → r < length rs → (get_or rs r d).items ≡ one.items ++ two.items
    → in_runs (take (r + 1) (slice_set rs r one) ++ two ∷ drop (r + 1) (slice_set rs r one)) ≡ in_runs rs
parted-in [] r d one two below e = absurd (omega (arith, below))
parted-in (x ∷ rs) zero d one two below e = sym (append_assoc one.items two.items (in_runs rs)) ∙ ap (λ xs. xs ++ in_runs rs) (sym e)
parted-in (x ∷ rs) (suc r) d one two below e =
    let n : suc r + 1 ≡ suc (r + 1) = omega arith in
    ap (λ k. in_runs (take k (slice_set (x ∷ rs) (suc r) one) ++ two ∷ drop k (slice_set (x ∷ rs) (suc r) one))) n ∙ ap (λ bs. x.items ++ bs) (parted-in rs r d one two (omega (arith, below)) e)
