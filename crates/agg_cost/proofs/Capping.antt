-- Sums and products that stop at the greatest number of 64 bits.
use Rattle.std.proofs.Common.{◌≡◌, refl, ℕ, zero, suc, ◌+◌, ◌*◌, ◌-◌, ◌^◌, ◌≤◌, ◌<◌, true, false, List, [], ◌∷◌, ◌⊎◌, inl, inr, ⊎_elim, sym, ◌∙◌, ap, arith}
use Rattle.std.specs.Prelude.{nat_le, sum_by}
use Rattle.std.proofs.lemmas.List.Sums.{sum_by-cons}
use Rattle.std.proofs.lemmas.Bool.Decides.{nat_tests}
use Rattle.agg_cost.specs.Capped.{capped, Alike}

pub alike_capped : (n : ℕ) → Alike (capped n) n
alike_capped n = omega arith

pub alike-add : (a b c d : ℕ) → Alike a b → Alike c d → Alike (a + c) (b + d)
alike-add a b c d e f = omega arith

pub same_or_great : (a b : ℕ) → Alike a b → (a ≡ b) ⊎ ((2 ^ 64 - 1 ≤ a) × (2 ^ 64 - 1 ≤ b))
same_or_great a b e =
    elim (nat_le (2 ^ 64 - 1) a) as (λ t. nat_le (2 ^ 64 - 1) a ≡ t → (a ≡ b) ⊎ ((2 ^ 64 - 1 ≤ a) × (2 ^ 64 - 1 ≤ b))) [
      | true ↦ λ t. let great : 2 ^ 64 - 1 ≤ a = grind (arith, nat_tests) in inr (great, omega arith)
      | false ↦ λ t. let less : a < 2 ^ 64 - 1 = grind (arith, nat_tests) in inl (omega arith)
    ] refl

at_least : (a k : ℕ) → a ≤ a * suc k
at_least a k = let product : a * suc k ≡ a * k + a = omega arith in omega arith

alike-times : (a b c : ℕ) → Alike a b → Alike (a * c) (b * c)
alike-times a b zero e = let left : a * 0 ≡ 0 = omega arith in let right : b * 0 ≡ 0 = omega arith in ap capped (left ∙ sym right)
alike-times a b (suc k) e = ⊎_elim (λ same. ap (λ n. capped (n * suc k)) same) (λ great. let left = at_least a k in let right = at_least b k in omega (arith, great.0, great.1)) (same_or_great a b e)

pub alike-mul : (a b c d : ℕ) → Alike a b → Alike c d → Alike (a * c) (b * d)
alike-mul a b c d e f =
    let first = alike-times a b c e in
    let second = alike-times c d b f in
    let turned : b * c ≡ c * b = omega arith in
    let back : d * b ≡ b * d = omega arith in
    first ∙ (ap capped turned ∙ (second ∙ ap capped back))

pub alike-sum : {A : Type 0} (f g : A → ℕ) (xs : List A) → ((x : A) → Alike (f x) (g x)) → Alike (sum_by f xs) (sum_by g xs)
alike-sum f g [] e = refl
alike-sum f g (x ∷ xs) e =
    ap capped (sum_by-cons f x xs) ∙ (alike-add (f x) (g x) (sum_by f xs) (sum_by g xs) (e x) (alike-sum f g xs e) ∙ ap capped (sym (sum_by-cons g x xs)))
