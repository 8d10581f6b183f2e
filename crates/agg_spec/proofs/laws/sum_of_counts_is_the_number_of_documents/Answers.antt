use Rattle.agg_spec.proofs.ChangeLaws.{sum-of-counts}
use Rattle.agg_spec.proofs.laws.sum_of_counts_is_the_number_of_documents.Goals as goal

pub returns : goal.returns
returns c kinds buckets = sum-of-counts kinds buckets
