-- The searches that run are asked for, each once.
use Rattle.std.specs.Prelude.{◌≡◌, refl, ◌+◌, suc, List, [], ◌∷◌, length, Option, Some, None}
use Rattle.std.proofs.Common.{arith}
use Rattle.agg_model.specs.declared.aggregation.Search.{Search}
use Rattle.agg_model.specs.declared.breaker.Tripped.{Tripped}
use Rattle.agg_spec.specs.Index.{Index}
use Rattle.agg_spec.specs.Outcome.{Request}
use Rattle.wave_answers.specs.Ended.{runs_asked}
use Rattle.wave_bodies.specs.Asking.{AreAsked}
use Rattle.wave_bodies.specs.declared.asked.Asked.{Asked}
use Rattle.wave_bodies.specs.declared.asked.Asked.TheVariants as asks

pub runs-are : (index : Index) (requests : List Request) (refusals : List (Option Tripped)) (asked : List Asked) (searches : List Search)
    → AreAsked index requests refusals asked searches → runs_asked asked ≡ length searches
runs-are index [] [] [] [] are = refl
runs-are index (r ∷ rs) (Some t ∷ ts) (asks.Tripped u ∷ more) searches are = runs-are index rs ts more searches are.1
runs-are index (r ∷ rs) (None ∷ ts) (asks.Refused f ∷ more) searches are = runs-are index rs ts more searches are.1
runs-are index (r ∷ rs) (None ∷ ts) (asks.Runs ∷ more) (search ∷ searches) are =
    let rest = runs-are index rs ts more searches are.1 in let next : suc (length searches) ≡ length searches + 1 = omega arith in omega (arith, rest, next)
runs-are _ _ _ _ _ are = absurd are
