use Rattle.list_laws.proofs.Booleans.{holds}
use Rattle.growth_laws.proofs.BucketCosts.{put-cost}
use Rattle.growth_laws.proofs.laws.growth.rows_add_the_bytes_of_their_bucket.Goals as goal

pub returns : goal.returns
returns c = λ gs rows k bs error full cut up. put-cost gs rows k bs error full cut (holds _ up)
