use Rattle.std.specs.Prelude.{refl}
use Rattle.agg_spec.specs.Solo.{idle}
use Rattle.answer_laws.proofs.Completing.{round-plain}
use Rattle.answer_laws.proofs.PlainAnswers.{plain-quiet}
use Rattle.answer_laws.proofs.Untripped.{untripped-plain}
use Rattle.answer_laws.proofs.laws.searches_that_have_room_are_answered_in_full.Goals as goal

pub returns-clause-search : goal.returns-clause-search
returns-clause-search c settings index columns request untripped = untripped-plain settings index (idle columns) request (λ e. refl) untripped

pub returns-clause-round : goal.returns-clause-round
returns-clause-round c = round-plain

pub returns-clause-quiet : goal.returns-clause-quiet
returns-clause-quiet c = plain-quiet
