use Rattle.std.proofs.Common.{◌≡◌, ◌+◌, ◌<◌, take, length, get_or, sym, ◌∙◌, subst, arith}
use Rattle.shard_columns.specs.Homes.{home_of}
use Rattle.shard_columns.specs.Values.{no_span}
use Rattle.shard_columns.specs.Starts.{AreStarts}
use Rattle.shard_columns.specs.declared.values.Held.{Held}
use Rattle.shard_columns.proofs.Storing.{get_or-any}
use Rattle.shard_columns.proofs.Finishing.{starts-next}
use Rattle.shard_columns.proofs.columns.starts_of.Goals as goal
use Rattle.shard_columns.proofs.columns.starts_of.Goals.{then-one-end, else-one-end}

pub loop-one-preserved : goal.loop-one-preserved
loop-one-preserved c = λ size within.
    let held = c.args.held.now in
    let k = c.loop-one.one-index in
    let none : Held = record { row = 0; span = no_span } in
    let one = get_or held k none in
    let rank = c.at-home.result.rank in
    let context = c.args.last.context in
    let low : k < length held = c.loop-one-test.true in
    let same : c.at-home.result.context ≡ context = omega arith in
    let home_is : home_of c.args.homes.now one.row ≡ record { context = context; rank = rank } = sym c.at-home.ensures ∙ (λ i. record { context = same i; rank = rank }) in
    let at : length c.skip_to.new.starts.items ≡ rank + 1 = omega arith in
    let follows : one.span.start ≡ c.loop-one.end = elim c.if-one-end.branch [ then-one-end w ↦ omega arith | else-one-end w ↦ omega arith ] in
    subst (AreStarts c.args.homes.now context size (take (k + 1) held) one.span.end) (sym c.in_ok-push.ensures.items)
    (starts-next c.args.homes.now held context size k c.loop-one.end rank one c.skip_to.new.starts.items c.requires.apart c.requires.rise low (get_or-any held k none one low) (c.requires.below k none low) home_is at follows within
    (c.in_ok-skip_to.ensures c.args.homes.now context size (take k held) (c.loop-one.invariant size within)))
