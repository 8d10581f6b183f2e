-- What stands before an offset has a date's length or more.
use Rattle.std.proofs.Common.{◌∙◌, ap, refl, ◌+◌, ◌≤◌, arith, length, drop}
use Rattle.std.proofs.lemmas.List.{take_all, length-drop}
use Rattle.std.specs.List.{position_or_len}
use Rattle.date_spec.specs.DateTexts.{begins_offset, clock_length}
use Rattle.date_text.proofs.MillisLemmas.{drop_short}
use Rattle.date_text.proofs.reading.clock_length.Goals as goal

pub returns-then-text-lt10 : goal.returns-then-text-lt10
unfolding clock_length
returns-then-text-lt10 c = let short : length c.args.text.now ≤ 10 = omega arith in rw (drop_short 10 c.args.text.now short) refl

pub returns : goal.returns
unfolding clock_length
returns c = ap (λ n. 10 + n) (c.offset_place.ensures.place ∙ ap (position_or_len begins_offset) (take_all _ (drop 10 c.args.text.now) (omega (arith, length-drop 10 c.args.text.now))))
