-- All that unfolds when a definition runs on a value that is written out.
use Rattle.std.specs.Fmt.{digits}

unfoldable pub computing : Unit {0}
unfolding
    Rattle.date_spec.specs.Calendar.days_before_year Rattle.date_spec.specs.Calendar.days_before_month Rattle.date_spec.specs.Calendar.last_begun
    Rattle.date_spec.specs.Calendar.date_after
    Rattle.date_spec.specs.Shapes.has_shape
    Rattle.date_spec.specs.DateTexts.is_millis
    Rattle.date_spec.specs.DateTexts.may_leave_off
    Rattle.date_spec.specs.DateTexts.is_clock
    Rattle.date_spec.specs.DateTexts.whole_clock
    Rattle.date_spec.specs.DateTexts.date_in
    Rattle.date_spec.specs.DateTexts.time_in
    Rattle.date_spec.specs.DateTexts.is_offset
    Rattle.date_spec.specs.DateTexts.minutes_of
    Rattle.date_spec.specs.DateTexts.ahead_of
    Rattle.date_spec.specs.DateTexts.shown_at
    Rattle.date_spec.specs.DateTexts.clock_length
    Rattle.date_spec.specs.DateTexts.instant_of_clock
    Rattle.date_spec.specs.DateTexts.named_instant
    Rattle.date_spec.specs.DateTexts.clock_text
    digits
computing = tt
