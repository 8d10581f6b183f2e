-- Digits that are no number of 64 bits name an instant beyond the range.
use Rattle.std.proofs.Common.{refl}
use Rattle.date_text.proofs.MillisLemmas.{millis_beyond}
use Rattle.date_text.proofs.reading.read_millis.Goals as goal

pub returns-in-Err : goal.returns-in-Err
returns-in-Err c = rw (millis_beyond c.args.text.now c.requires c.in-Err.ensures.value.0) refl
