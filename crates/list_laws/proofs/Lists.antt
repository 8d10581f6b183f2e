-- Lists of lists, and what is counted, filtered and looked up in them.
use Rattle.std.specs.Prelude.{◌≡◌, refl, ℕ, zero, suc, ◌+◌, Bool, true, false, cond, List, [], ◌∷◌, ◌++◌, map, filter, filter_map, flat_map, sum_by, length, Option, Some, None, option_map, slice_get}
use Rattle.std.specs.List.{enumerate_from, cons_option}
use Rattle.std.proofs.Common.{sym, ◌∙◌, ap, subst, arith, append_assoc, length-append}
use Rattle.std.proofs.lemmas.List.Sums.{sum_by-cons, sum_by-append}
use Rattle.list_laws.proofs.Options.{none_some}

-- nothing behind a list

pub append-nil : {A : Type 0} (xs : List A) → xs ++ [] ≡ xs
append-nil [] = refl
append-nil (x ∷ xs) = ap (λ ys. x ∷ ys) (append-nil xs)

-- the lists of a list, one after another
abbrev pub joined : {A : Type 0} → List (List A) → List A
joined xss = flat_map (λ xs. xs) xss

-- the lists that two lists give

pub flat_map-append : {A B : Type 0} (f : A → List B) (xs ys : List A) → flat_map f (xs ++ ys) ≡ flat_map f xs ++ flat_map f ys
flat_map-append f [] ys = refl
flat_map-append f (x ∷ xs) ys = ap (λ zs. f x ++ zs) (flat_map-append f xs ys) ∙ sym (append_assoc (f x) (flat_map f xs) (flat_map f ys))

-- the lists that lists of lists give

pub flat_map-flat_map : {A B C : Type 0} (f : A → List B) (g : B → List C) (xs : List A) → flat_map g (flat_map f xs) ≡ flat_map (λ x. flat_map g (f x)) xs
flat_map-flat_map f g [] = refl
flat_map-flat_map f g (x ∷ xs) = flat_map-append g (f x) (flat_map f xs) ∙ ap (λ zs. flat_map g (f x) ++ zs) (flat_map-flat_map f g xs)

-- the lists that changed items give

pub flat_map-map : {A B C : Type 0} (f : A → B) (g : B → List C) (xs : List A) → flat_map g (map f xs) ≡ flat_map (λ x. g (f x)) xs
flat_map-map f g [] = refl
flat_map-map f g (x ∷ xs) = ap (λ zs. g (f x) ++ zs) (flat_map-map f g xs)

-- two lists changed

pub map-append : {A B : Type 0} (f : A → B) (xs ys : List A) → map f (xs ++ ys) ≡ map f xs ++ map f ys
map-append f [] ys = refl
map-append f (x ∷ xs) ys = ap (λ zs. f x ∷ zs) (map-append f xs ys)

-- the lists that items give, changed

pub map-flat_map : {A B C : Type 0} (f : B → C) (g : A → List B) (xs : List A) → map f (flat_map g xs) ≡ flat_map (λ x. map f (g x)) xs
map-flat_map f g [] = refl
map-flat_map f g (x ∷ xs) = map-append f (g x) (flat_map g xs) ∙ ap (λ zs. map f (g x) ++ zs) (map-flat_map f g xs)

-- items changed twice

pub map-map : {A B C : Type 0} (f : B → C) (g : A → B) (xs : List A) → map f (map g xs) ≡ map (λ x. f (g x)) xs
map-map f g [] = refl
map-map f g (x ∷ xs) = ap (λ zs. f (g x) ∷ zs) (map-map f g xs)

-- what passes of two lists

pub filter-append : {A : Type 0} (p : A → Bool) (xs ys : List A) → filter p (xs ++ ys) ≡ filter p xs ++ filter p ys
filter-append p [] ys = refl
filter-append p (x ∷ xs) ys =
    elim (p x) as (λ b. cond b (x ∷ filter p (xs ++ ys)) (filter p (xs ++ ys)) ≡ cond b (x ∷ filter p xs) (filter p xs) ++ filter p ys) [
      | true ↦ ap (λ zs. x ∷ zs) (filter-append p xs ys)
      | false ↦ filter-append p xs ys
    ]

-- what passes of the lists that items give

pub filter-flat_map : {A B : Type 0} (p : B → Bool) (f : A → List B) (xs : List A) → filter p (flat_map f xs) ≡ flat_map (λ x. filter p (f x)) xs
filter-flat_map p f [] = refl
filter-flat_map p f (x ∷ xs) = filter-append p (f x) (flat_map f xs) ∙ ap (λ zs. filter p (f x) ++ zs) (filter-flat_map p f xs)

-- what passes of changed items

pub filter-map : {A B : Type 0} (p : B → Bool) (f : A → B) (xs : List A) → filter p (map f xs) ≡ map f (filter (λ x. p (f x)) xs)
filter-map p f [] = refl
filter-map p f (x ∷ xs) =
    elim (p (f x)) as (λ b. cond b (f x ∷ filter p (map f xs)) (filter p (map f xs)) ≡ map f (cond b (x ∷ filter (λ x. p (f x)) xs) (filter (λ x. p (f x)) xs))) [
      | true ↦ ap (λ zs. f x ∷ zs) (filter-map p f xs)
      | false ↦ filter-map p f xs
    ]

-- what two lists give where they give something

pub filter_map-append : {A B : Type 0} (h : A → Option B) (xs ys : List A) → filter_map h (xs ++ ys) ≡ filter_map h xs ++ filter_map h ys
filter_map-append h [] ys = refl
filter_map-append h (x ∷ xs) ys =
    elim (h x) as (λ o. cons_option o (filter_map h (xs ++ ys)) ≡ cons_option o (filter_map h xs) ++ filter_map h ys) [
      | None ↦ filter_map-append h xs ys
      | Some y ↦ ap (λ zs. y ∷ zs) (filter_map-append h xs ys)
    ]

-- what the lists that items give do

pub filter_map-flat_map : {A B C : Type 0} (h : B → Option C) (f : A → List B) (xs : List A) → filter_map h (flat_map f xs) ≡ flat_map (λ x. filter_map h (f x)) xs
filter_map-flat_map h f [] = refl
filter_map-flat_map h f (x ∷ xs) = filter_map-append h (f x) (flat_map f xs) ∙ ap (λ zs. filter_map h (f x) ++ zs) (filter_map-flat_map h f xs)

-- a sum over the lists that items give

pub sum_by-flat_map : {A B : Type 0} (f : B → ℕ) (g : A → List B) (xs : List A) → sum_by f (flat_map g xs) ≡ sum_by (λ x. sum_by f (g x)) xs
sum_by-flat_map f g [] = refl
sum_by-flat_map f g (x ∷ xs) = sum_by-append f (g x) (flat_map g xs) ∙ ap (λ n. sum_by f (g x) + n) (sum_by-flat_map f g xs) ∙ sym (sum_by-cons (λ x. sum_by f (g x)) x xs)

-- a sum over changed items

pub sum_by-map : {A B : Type 0} (f : B → ℕ) (g : A → B) (xs : List A) → sum_by f (map g xs) ≡ sum_by (λ x. f (g x)) xs
sum_by-map f g [] = refl
sum_by-map f g (x ∷ xs) = sum_by-cons f (g x) (map g xs) ∙ ap (λ n. f (g x) + n) (sum_by-map f g xs) ∙ sym (sum_by-cons (λ x. f (g x)) x xs)

-- what is made of items with their places, where it is the same at each place

pub enumerated : {A C : Type 0} (m : ℕ) (xs : List A) (f g : ℕ × A → C) → ((j : ℕ) (x : A) → slice_get xs j ≡ Some x → f (m + j, x) ≡ g (m + j, x))
    → map f (enumerate_from m xs) ≡ map g (enumerate_from m xs)
enumerated m [] f g same = refl
enumerated m (x ∷ xs) f g same =
    let here = subst (λ n. f (n, x) ≡ g (n, x)) (let e : m + 0 ≡ m = omega arith in e) (same 0 x refl) in
    let rest = enumerated (m + 1) xs f g (λ j y e. subst (λ n. f (n, y) ≡ g (n, y)) (let e : m + suc j ≡ (m + 1) + j = omega arith in e) (same (suc j) y e)) in
    λ i. here i ∷ rest i

-- the item at a place of what is made of items with their places

pub slice_get-enumerated : {A C : Type 0} (m : ℕ) (xs : List A) (f : ℕ × A → C) (j : ℕ) (x : A) → slice_get xs j ≡ Some x → slice_get (map f (enumerate_from m xs)) j ≡ Some (f (m + j, x))
slice_get-enumerated m [] f j x e = absurd (none_some x e)
slice_get-enumerated m (y ∷ xs) f zero x e = ap (option_map (λ z. f (m, z))) e ∙ ap (λ n. Some (f (n, x))) (let e : m ≡ m + 0 = omega arith in e)
slice_get-enumerated m (y ∷ xs) f (suc j) x e = slice_get-enumerated (m + 1) xs f j x e ∙ ap (λ n. Some (f (n, x))) (let e : (m + 1) + j ≡ m + suc j = omega arith in e)

-- what changed items give where each gives something
pub filter_map-there : {A B C : Type 0} (h : B → Option C) (f : A → B) (g : A → C) → ((x : A) → h (f x) ≡ Some (g x)) → (xs : List A) → filter_map h (map f xs) ≡ map g xs
filter_map-there h f g there [] = refl
filter_map-there h f g there (x ∷ xs) = λ i. cons_option (there x i) (filter_map-there h f g there xs i)

-- how many items the lists have that items give
pub length-flat_map : {A B : Type 0} (f : A → List B) (xs : List A) → length (flat_map f xs) ≡ sum_by (λ x. length (f x)) xs
length-flat_map f [] = refl
length-flat_map f (x ∷ xs) = omega (arith, length-append (f x) (flat_map f xs), length-flat_map f xs, sum_by-cons (λ x. length (f x)) x xs)

-- a list of images, in two parts
pub map-apart : {A B : Type 0} (f : A → B) (xs : List A) (before rest : List B) → map f xs ≡ before ++ rest → (a : List A) × ((b : List A) × ((xs ≡ a ++ b) × ((before ≡ map f a) × (rest ≡ map f b))))
map-apart f xs [] rest e = ([], (xs, (refl, (refl, sym e))))
map-apart f [] (y ∷ before) rest e = absurd (let no : ⊥ = cc in no)
map-apart f (x ∷ xs) (y ∷ before) rest e =
    let first : f x ≡ y = cc in
    let others : map f xs ≡ before ++ rest = cc in
    let found = map-apart f xs before rest others in
    (x ∷ found.0, (found.1.0, (ap (λ ys. x ∷ ys) found.1.1.0, ((λ i. sym first i ∷ found.1.1.1.0 i), found.1.1.1.1))))
