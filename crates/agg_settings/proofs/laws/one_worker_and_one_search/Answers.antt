use Rattle.agg_settings.proofs.OneAtOnce.{one-at-once}
use Rattle.agg_settings.proofs.laws.one_worker_and_one_search.Goals as goal

pub returns : goal.returns
returns c = record { workers = λ words s is. (one-at-once words s is).0; width = λ words s is. (one-at-once words s is).1 }
