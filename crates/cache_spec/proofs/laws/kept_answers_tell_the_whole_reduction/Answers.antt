use Rattle.cache_spec.proofs.WholeReduction.{kept-answers-tell}
use Rattle.cache_spec.proofs.laws.kept_answers_tell_the_whole_reduction.Goals as goal

pub returns : goal.returns
returns c = kept-answers-tell
