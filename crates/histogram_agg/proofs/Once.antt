-- Codes that rise, each once, are the codes of the distinct keys.
use Rattle.std.proofs.Common.{◌≡◌, refl, ℤ, Bool, true, false, cond, List, [], ◌∷◌, map, Option, Some, None, sym, ◌∙◌, ap, arith}
use Rattle.std.specs.Prelude.{◌≤ℤ◌, ◌<ℤ◌, filter}
use Rattle.std.specs.List.{AllByRecursion}
use Rattle.std.specs.Option.{option_eq}
use Rattle.std.specs.Ordering.{int_eq, match_ordering}
use Rattle.std.specs.declared.cmp.Ordering.{Ordering}
use Rattle.std.specs.declared.cmp.Ordering.TheVariants.{Less, Equal}
use Rattle.std.proofs.lemmas.Int.{ints, by_lt_z}
use Rattle.std.proofs.lemmas.Bool.{false≢true}
use Rattle.std.proofs.lemmas.Bool.Decides.{Decides-int_eq}
use Rattle.list_laws.specs.Sorting.{ascending, insert_once}
use Rattle.histogram_agg.specs.RowCodes.{each_behind}

-- each number is at most the next
abbrev pub RisesFrom : ℤ → List ℤ → Type 0
RisesFrom j [] = Unit {0}
RisesFrom j (k ∷ ks) = (j ≤ℤ k) × RisesFrom k ks

abbrev pub Rises : List ℤ → Type 0
Rises [] = Unit {0}
Rises (j ∷ js) = RisesFrom j js

module _ {A : Type 0} (cmp : A → A → Ordering) (key : ℤ → A) (IsCode : ℤ → Type 0) where
  behind : (last : Option ℤ) (cs : List ℤ) → AllByRecursion IsCode cs → AllByRecursion IsCode (each_behind last cs)
  behind last [] are = tt
  behind last (c ∷ cs) are = elim (option_eq int_eq last (Some c)) as (λ b. AllByRecursion IsCode (cond b (each_behind last cs) (c ∷ each_behind (Some c) cs))) [
    | true ↦ behind last cs are.1
    | false ↦ (are.0, behind (Some c) cs are.1)
  ]

  kept : (p : A → Bool) (is_kept : ℤ → Bool) (key_of : ℤ → A) → ((c : ℤ) → IsCode c → is_kept c ≡ p (key c)) → ((c : ℤ) → IsCode c → is_kept c ≡ true → key_of c ≡ key c)
      → (cs : List ℤ) → AllByRecursion IsCode cs → map key_of (filter is_kept cs) ≡ filter p (map key cs)
  kept p is_kept key_of same keys [] are = refl
  kept p is_kept key_of same keys (c ∷ cs) are = by_test (kept p is_kept key_of same keys cs are.1) (is_kept c) refl
    where
      by_test : map key_of (filter is_kept cs) ≡ filter p (map key cs) → (b : Bool) → is_kept c ≡ b
          → map key_of (cond b (c ∷ filter is_kept cs) (filter is_kept cs)) ≡ cond (p (key c)) (key c ∷ filter p (map key cs)) (filter p (map key cs))
      by_test rest true e = (λ i. keys c are.0 e i ∷ rest i) ∙ ap (λ (b : Bool). cond b (key c ∷ filter p (map key cs)) (filter p (map key cs))) (sym e ∙ same c are.0)
      by_test rest false e = rest ∙ ap (λ (b : Bool). cond b (key c ∷ filter p (map key cs)) (filter p (map key cs))) (sym e ∙ same c are.0)

  module _ (less : (c d : ℤ) → IsCode c → IsCode d → c <ℤ d → cmp (key c) (key d) ≡ Less) (equal : (c : ℤ) → cmp (key c) (key c) ≡ Equal) where
    once-from : (last : ℤ) (cs : List ℤ) → RisesFrom last cs → IsCode last → AllByRecursion IsCode cs → ascending cmp (map key (last ∷ cs)) ≡ key last ∷ map key (each_behind (Some last) cs)
    once-from last [] rises is are = refl
    once-from last (c ∷ cs) rises is are = ap (insert_once cmp (key last)) (once-from c cs rises.1 are.0 are.1) ∙ by_test (int_eq last c) refl
      where
        rest : List A
        rest = map key (each_behind (Some c) cs)

        inserted : Ordering → List A
        inserted r = match_ordering r (key last ∷ key c ∷ rest) (key c ∷ rest) (key c ∷ insert_once cmp (key last) rest)

        lower : int_eq last c ≡ false → last <ℤ c
        lower differs = by_lt_z last c (λ h. h) (λ h. let le = rises.0 in let same : last ≡ c = omega (arith, ints) in absurd (false≢true (sym differs ∙ (Decides-int_eq last c).1 same)))

        by_test : (b : Bool) → int_eq last c ≡ b → inserted (cmp (key last) (key c)) ≡ key last ∷ map key (cond b (each_behind (Some last) cs) (c ∷ each_behind (Some c) cs))
        by_test true e =
            let same = (Decides-int_eq last c).0 e in
            ap inserted (ap (λ (x : ℤ). cmp (key x) (key c)) same ∙ equal c) ∙ ap (λ (x : ℤ). key x ∷ map key (each_behind (Some x) cs)) (sym same)
        by_test false e = ap inserted (less last c is are.0 (lower e))

    once : (cs : List ℤ) → Rises cs → AllByRecursion IsCode cs → ascending cmp (map key cs) ≡ map key (each_behind None cs)
    once [] rises are = refl
    once (c ∷ cs) rises are = once-from c cs rises are.0 are.1

    -- the keys of the codes that are kept
    pub kept-once : (p : A → Bool) (is_kept : ℤ → Bool) (key_of : ℤ → A) → ((c : ℤ) → IsCode c → is_kept c ≡ p (key c)) → ((c : ℤ) → IsCode c → is_kept c ≡ true → key_of c ≡ key c)
        → (cs : List ℤ) → Rises cs → AllByRecursion IsCode cs → map key_of (filter is_kept (each_behind None cs)) ≡ filter p (ascending cmp (map key cs))
    kept-once p is_kept key_of same keys cs rises are = kept p is_kept key_of same keys (each_behind None cs) (behind None cs are) ∙ ap (filter p) (sym (once cs rises are))
