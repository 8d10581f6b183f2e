-- The codes of one number more, of those to come.
use Rattle.std.proofs.Common.{◌≡◌, refl, ℤ, Bool, true, false, cond, List, ◌∷◌, map, Option, Some, sym, ◌∙◌, ap}
use Rattle.std.specs.Prelude.{filter, not}
use Rattle.std.specs.Option.{option_eq}
use Rattle.std.specs.Ordering.{int_eq}
use Rattle.histogram_agg.specs.RowCodes.{each_behind}

-- what a comparison with the last code says
pub differs : (same r : Bool) → r ≡ not same → r ≡ true → same ≡ false
differs true r is h = sym h ∙ is
differs false r is h = refl

pub repeats : (same r : Bool) → r ≡ not same → r ≡ false → same ≡ true
repeats true r is h = refl
repeats false r is h = sym h ∙ is

module _ (code_of : ℤ → ℤ) (is_kept : ℤ → Bool) where
  abbrev pub codes_from : Option ℤ → List ℤ → List ℤ
  codes_from last numbers = filter is_kept (each_behind last (map code_of numbers))

  another : (last : Option ℤ) (n : ℤ) (ns : List ℤ) (code : ℤ) → code ≡ code_of n → option_eq int_eq last (Some code) ≡ false
      → codes_from last (n ∷ ns) ≡ cond (is_kept code) (code ∷ codes_from (Some code) ns) (codes_from (Some code) ns)
  another last n ns code is differs =
      ap (λ (c : ℤ). filter is_kept (each_behind last (c ∷ map code_of ns))) (sym is)
      ∙ ap (λ (b : Bool). filter is_kept (cond b (each_behind last (map code_of ns)) (code ∷ each_behind (Some code) (map code_of ns)))) differs

  pub kept : (last : Option ℤ) (n : ℤ) (ns : List ℤ) (code : ℤ) → code ≡ code_of n → option_eq int_eq last (Some code) ≡ false → is_kept code ≡ true
      → codes_from last (n ∷ ns) ≡ code ∷ codes_from (Some code) ns
  kept last n ns code is differs keeps = another last n ns code is differs ∙ ap (λ (b : Bool). cond b (code ∷ codes_from (Some code) ns) (codes_from (Some code) ns)) keeps

  pub left : (last : Option ℤ) (n : ℤ) (ns : List ℤ) (code : ℤ) → code ≡ code_of n → option_eq int_eq last (Some code) ≡ false → is_kept code ≡ false
      → codes_from last (n ∷ ns) ≡ codes_from (Some code) ns
  left last n ns code is differs keeps = another last n ns code is differs ∙ ap (λ (b : Bool). cond b (code ∷ codes_from (Some code) ns) (codes_from (Some code) ns)) keeps

  pub repeated : (last : Option ℤ) (n : ℤ) (ns : List ℤ) (code : ℤ) → code ≡ code_of n → option_eq int_eq last (Some code) ≡ true
      → codes_from last (n ∷ ns) ≡ codes_from last ns
  repeated last n ns code is same =
      ap (λ (c : ℤ). filter is_kept (each_behind last (c ∷ map code_of ns))) (sym is)
      ∙ ap (λ (b : Bool). filter is_kept (cond b (each_behind last (map code_of ns)) (code ∷ each_behind (Some code) (map code_of ns)))) same
