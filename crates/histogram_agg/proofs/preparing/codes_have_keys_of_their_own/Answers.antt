use Rattle.histogram_agg.proofs.Coding.{keys-apart}
use Rattle.histogram_agg.proofs.preparing.codes_have_keys_of_their_own.Goals as goal

pub returns : goal.returns
returns c = keys-apart
