use Rattle.std.proofs.Common.{◌++◌, ◌+◌, ℕ, List, ap, subst}
use Rattle.shard_columns.specs.declared.layout.Laid.{Laid}
use Rattle.shard_columns.specs.Drafted.{Holds}
use Rattle.shard_columns.proofs.Laying.{all-taken}
use Rattle.shard_columns.proofs.Growing.{has-room, Holds-none, Holds-push}
use Rattle.shard_columns.proofs.draft.push_values.Goals as goal

pub loop-place-init : goal.loop-place-init
loop-place-init c = λ kinds before first held. Holds-none kinds before c.args.numbers.now c.args.drafts.now held

pub push_row-requires : goal.push_row-requires
push_row-requires c =
    let given = c.requires in
    let k = c.loop-place.place in
    let room = has-room given.kinds given.before c.args.rows.now (c.args.first + k) k c.index-rows-place.result c.loop-place.numbers c.loop-place.drafts
    (c.loop-place.invariant given.kinds given.before given.first_is given.holds) given.storable (ap (λ (n : ℕ). n + k) given.first_is) c.loop-place-test.true c.index-rows-place.is in
    record { in_range = room.in_range; sizes = room.sizes; sound = room.sound; rise = room.rise; taken = room.taken; few = room.few; bounded = room.bounded; shaped = room.shaped }

pub loop-place-preserved : goal.loop-place-preserved
loop-place-preserved c = λ kinds before first held.
    let k = c.loop-place.place in
    let made = c.in_ok-push_row.ensures in
    Holds-push kinds before c.args.rows.now (c.args.first + k) k c.index-rows-place.result c.loop-place.numbers c.push_row.new.numbers c.loop-place.drafts c.push_row.new.self
    (c.loop-place.invariant kinds before first held) (ap (λ (n : ℕ). n + k) first) c.loop-place-test.true c.index-rows-place.is made.notes made.adds

pub returns : goal.returns
returns c = λ kinds before first held.
    subst (λ (ls : List Laid). Holds kinds (before ++ ls) c.loop-place.numbers c.loop-place.drafts) (all-taken c.args.rows.now c.loop-place.place c.loop-place-test.false)
    (c.loop-place.invariant kinds before first held)
