use Rattle.terms_agg.specs.Codes.{content_in}
use Rattle.terms_agg.proofs.Coding.{codes-apart}
use Rattle.terms_agg.proofs.prepared.codes_have_keys_of_their_own.Goals as goal

pub returns : goal.returns
returns c shard kind p r a b a_code b_code same = codes-apart (content_in shard p.field) p.field shard.rows p.other r.ready.other a b a_code b_code same
