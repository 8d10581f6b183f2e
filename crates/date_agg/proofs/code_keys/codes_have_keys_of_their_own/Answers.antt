use Rattle.date_agg.proofs.Coding.{keys-apart}
use Rattle.date_agg.proofs.code_keys.codes_have_keys_of_their_own.Goals as goal

pub returns : goal.returns
returns c = keys-apart
