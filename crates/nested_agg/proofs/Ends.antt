-- Where the parts of a list end, one more part at a time.
use Rattle.std.proofs.Common.{◌≡◌, refl, ℕ, ◌+◌, ◌<◌, true, false, List, [], ◌∷◌, ◌++◌, length, get_or, sym, ◌∙◌, ap, subst, arith}
use Rattle.std.specs.Prelude.{nat_eq}
use Rattle.std.proofs.Math.ListN.{get_or-append}
use Rattle.std.proofs.Math.Seq.{get_or-append_seam}
use Rattle.std.proofs.lemmas.Bool.Decides.{nat_tests}

-- the ends so far, and that of the next part
pub ends-more : (end_of : ℕ → ℕ) (ends : List ℕ) (count end : ℕ) → length ends ≡ count → ((n : ℕ) → n < count → get_or ends n 0 ≡ end_of (n + 1)) → end ≡ end_of (count + 1)
    → (n : ℕ) → n < count + 1 → get_or (ends ++ end ∷ []) n 0 ≡ end_of (n + 1)
ends-more end_of ends count end many so_far here n below =
    elim (nat_eq n count) as (λ t. nat_eq n count ≡ t → get_or (ends ++ end ∷ []) n 0 ≡ end_of (n + 1)) [
      | true ↦ λ t.
          let same : length ends ≡ n = (let e : n ≡ count = grind (arith, nat_tests) in many ∙ sym e) in
          subst (λ m. get_or (ends ++ end ∷ []) m 0 ≡ end_of (m + 1)) same (get_or-append_seam ends end [] 0 ∙ here ∙ ap (λ m. end_of (m + 1)) (sym many))
      | false ↦ λ t.
          let other : n < count = grind (arith, nat_tests) in
          let within : n < length ends = omega (arith, other, many) in
          get_or-append ends (end ∷ []) 0 n within ∙ so_far n other
    ] refl
