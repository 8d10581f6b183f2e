-- Digits are their number, padded.
use Rattle.std.proofs.Common.{sym}
use Rattle.date_spec.proofs.PrintingLemmas.{printed-shape, printed-apart, printed-read}
use Rattle.date_spec.proofs.laws.printing_is_the_one_text_of_its_form.Goals as goal

pub returns-clause-form : goal.returns-clause-form
returns-clause-form c = printed-shape

pub returns-clause-apart : goal.returns-clause-apart
returns-clause-apart c = printed-apart

pub returns-clause-only : goal.returns-clause-only
returns-clause-only c = λ text instant form read. sym (printed-read text instant form read)
