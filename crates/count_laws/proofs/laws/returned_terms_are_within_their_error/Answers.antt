use Rattle.std.specs.Prelude.{[], ◌∷◌, ◌++◌}
use Rattle.std.specs.List.{AllByRecursion}
use Rattle.std.proofs.Common.{sym, ◌∙◌, subst}
use Rattle.agg_model.specs.declared.answer.NodeAnswer.{out-NodeAnswer}
use Rattle.agg_evaluation.specs.TrueCounts.{true_count}
use Rattle.agg_spec.specs.Final.{finisher}
use Rattle.list_laws.proofs.Booleans.{holds}
use Rattle.count_laws.specs.TermsErrors.{IsWithinError}
use Rattle.count_laws.proofs.AtPaths.{some-same, within}
use Rattle.count_laws.proofs.Descent.{whole-at}
use Rattle.count_laws.proofs.laws.returned_terms_are_within_their_error.Goals as goal

pub returns : goal.returns
returns c = λ m request shards path place a node fit uncut at terms there.
    subst (λ n. AllByRecursion (IsWithinError (λ key. true_count shards request (path ++ (place, key) ∷ []))) (out-NodeAnswer ((finisher a).finish n)).buckets)
    (some-same (sym (whole-at m request shards path place a (holds _ fit) (holds _ uncut) at) ∙ there)) (within request shards path place a at terms)
