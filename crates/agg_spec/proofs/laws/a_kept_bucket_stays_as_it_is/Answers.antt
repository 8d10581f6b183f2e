use Rattle.std.specs.Prelude.{IsTrue}
use Rattle.agg_spec.proofs.ArrangedLaws.{each-arranged}
use Rattle.agg_spec.proofs.laws.a_kept_bucket_stays_as_it_is.Goals as goal

pub returns : goal.returns
returns c kinds pipes buckets p each = each-arranged (λ b. IsTrue (p b)) kinds pipes buckets each
