-- Rounds that follow one another: the pages of a scan.
use Rattle.std.specs.Prelude.{◌≡◌, refl, ◌≤◌, ℕ, zero, suc, List, [], ◌∷◌, ◌++◌, option_to_list, Option, Some, None, All}
use Rattle.std.proofs.Common.{sym, subst, arith}
use Rattle.agg_model.specs.declared.settings.Settings.{Settings}
use Rattle.agg_model.specs.declared.outcome.Answered.{Answered}
use Rattle.agg_spec.specs.Index.{Index}
use Rattle.agg_spec.specs.Outcome.{Request}
use Rattle.agg_spec.specs.Rounds.{Round}
use Rattle.agg_spec.specs.Answers.{page_after, ArePages}
use Rattle.answer_laws.proofs.Scripts.{round}

-- the next page comes before the searches behind it
pub page-follows : (index : Index) (columns : ℕ) (words : Settings) (r next : Request) (a : Answered) (rest : List Request) (rounds : List Round)
    → page_after index columns r (a ∷ []) ≡ Some next → ArePages index columns (next ∷ rest) rounds → ArePages index columns (r ∷ rest) (round words r a ∷ rounds)
page-follows index columns words r next a rest rounds e more =
    (refl, subst (λ (o : Option Request). ArePages index columns (option_to_list o ++ rest) rounds) (sym e) more)

pub page-is_last : (index : Index) (columns : ℕ) (words : Settings) (r : Request) (a : Answered)
    → page_after index columns r (a ∷ []) ≡ None → ArePages index columns (r ∷ []) (round words r a ∷ [])
page-is_last index columns words r a e = (refl, subst (λ (o : Option Request). ArePages index columns (option_to_list o ++ []) []) (sym e) tt)

-- a bound on the one item of a list
pub all_within : (n m : ℕ) → n ≤ m → All (λ p. p ≤ m) (n ∷ [])
all_within n m p zero d h = p
all_within n m p (suc k) d h = let e : ⊥ = omega arith in absurd e
