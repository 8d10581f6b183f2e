use Rattle.std.proofs.Common.{[], None, ◌∙◌}
use Rattle.shard_columns.proofs.Storing.{get_or-any}
use Rattle.column_loading.specs.Slots.{slot_at}
use Rattle.column_loading.proofs.Placed.{weight-at}
use Rattle.column_loading.proofs.loading.Loading.live_weight.Goals as goal

pub returns : goal.returns
returns c = λ m read.
    let slots = c.args.self.now.slots in
    let s = slot_at slots c.args.place in
    c.live_weight.ensures ∙ weight-at m slots c.args.place s c.requires (get_or-any slots c.args.place (record { id = []; live = None }) s c.requires) read
