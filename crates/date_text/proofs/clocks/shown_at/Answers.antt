-- The instant is made of the day and the time.
use Rattle.std.proofs.Common.{◌∙◌, sym, ap, arith, Some}
use Rattle.std.proofs.lemmas.Int.{ints}
use Rattle.date_text.proofs.ClockLemmas.{shown_at-no_date, shown_at-no_time, shown_at-both}
use Rattle.date_text.proofs.clocks.shown_at.Goals as goal

pub returns-in_err-day : goal.returns-in_err-day
returns-in_err-day c = cc (shown_at-no_date c.args.clock.now c.args.ahead (sym c.in_err-day.was ∙ c.day_of.ensures.number))

pub returns-in_err-time : goal.returns-in_err-time
returns-in_err-time c = cc (shown_at-no_time c.args.clock.now c.args.ahead (sym c.in_err-time.was ∙ c.time_of.ensures.millis))

pub returns : goal.returns
returns c =
    let both = shown_at-both c.args.clock.now c.args.ahead c.in_ok-day.day c.in_ok-time.time (sym c.in_ok-day.was ∙ c.day_of.ensures.number) (sym c.in_ok-time.was ∙ c.time_of.ensures.millis) in
    ap Some (omega (arith, ints, c.in_ok-day.ensures.bound, c.in_ok-time.ensures.bound)) ∙ both
