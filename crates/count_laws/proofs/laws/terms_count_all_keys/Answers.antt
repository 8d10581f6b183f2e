use Rattle.std.specs.Prelude.{◌≡◌, ◌+◌}
use Rattle.std.proofs.Common.{sym, ◌∙◌, subst}
use Rattle.agg_evaluation.specs.TrueCounts.{true_key_count}
use Rattle.agg_evaluation.specs.Whole.{parts}
use Rattle.agg_spec.specs.Final.{finisher}
use Rattle.list_laws.proofs.Booleans.{holds}
use Rattle.count_laws.specs.TermsSums.{below_minimum_count, other_count, returned_count}
use Rattle.count_laws.proofs.AtPaths.{adds_up, some-same}
use Rattle.count_laws.proofs.Descent.{whole-at}
use Rattle.count_laws.proofs.laws.terms_count_all_keys.Goals as goal

pub returns : goal.returns
returns c = λ m request shards path place a node min fit uncut at terms there.
    subst (λ n. returned_count ((finisher a).finish n) + other_count ((finisher a).finish n) + below_minimum_count min (parts n).buckets ≡ true_key_count shards request path place)
    (some-same (sym (whole-at m request shards path place a (holds _ fit) (holds _ uncut) at) ∙ there)) (adds_up request shards path place a at min terms)
