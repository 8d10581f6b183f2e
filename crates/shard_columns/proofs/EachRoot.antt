-- Rows that are the roots of the documents of their numbers.
use Rattle.std.specs.Prelude.{◌≡◌, refl, ℕ, zero, suc, ◌+◌, ◌<◌, length, List, [], ◌∷◌, ◌++◌}
use Rattle.std.proofs.Common.{◌∙◌, ap, arith, get_or, sym}
use Rattle.shard_columns.specs.Roots.{each_root, each_root_from, root_at}
use Rattle.shard_columns.specs.declared.layout.Entry.{Entry}

-- one more of them
pub each-root-more : (n : ℕ) → each_root n ++ root_at n ∷ [] ≡ each_root (n + 1)
each-root-more n = let here : 0 + n ≡ n = omega arith in let all : suc n ≡ n + 1 = omega arith in ap (λ k. each_root n ++ root_at k ∷ []) (sym here) ∙ next 0 n ∙ ap each_root all
  where
    next : (p n : ℕ) → each_root_from p n ++ root_at (p + n) ∷ [] ≡ each_root_from p (suc n)
    next p zero = let here : p + 0 ≡ p = omega arith in ap (λ k. root_at k ∷ []) here
    next p (suc n) = let here : p + suc n ≡ (p + 1) + n = omega arith in ap (λ es. root_at p ∷ es) (ap (λ k. each_root_from (p + 1) n ++ root_at k ∷ []) here ∙ next (p + 1) n)

pub length-each-root : (p n : ℕ) → length (each_root_from p n) ≡ n
length-each-root p zero = refl
length-each-root p (suc n) = ap suc (length-each-root (p + 1) n)

-- the entry of a row, with others behind them
pub entry-at : (p n : ℕ) (es : List Entry) (row : ℕ) (d : Entry) → row < n → get_or (each_root_from p n ++ es) row d ≡ root_at (p + row)
entry-at p zero es row d l = absurd (omega (arith, l))
entry-at p (suc n) es zero d l = let here : p ≡ p + 0 = omega arith in ap root_at here
entry-at p (suc n) es (suc row) d l = let here : (p + 1) + row ≡ p + suc row = omega arith in entry-at (p + 1) n es row d (omega (arith, l)) ∙ ap root_at here

pub entry-behind : (p n : ℕ) (es : List Entry) (k : ℕ) (d : Entry) → get_or (each_root_from p n ++ es) (n + k) d ≡ get_or es k d
entry-behind p zero es k d = let here : 0 + k ≡ k = omega arith in ap (λ j. get_or es j d) here
entry-behind p (suc n) es k d = let here : suc n + k ≡ suc (n + k) = omega arith in ap (λ j. get_or (each_root_from p (suc n) ++ es) j d) here ∙ entry-behind (p + 1) n es k d
