use Rattle.cache_spec.proofs.NothingKept.{run-alone}
use Rattle.cache_spec.proofs.laws.a_search_of_which_nothing_is_kept_runs_alone.Goals as goal

pub returns : goal.returns
returns c = run-alone
