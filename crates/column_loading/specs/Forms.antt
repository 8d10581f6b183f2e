-- Slots as they are kept, packed or each in memory of its own.
use Rattle.std.specs.Prelude.{List}
use Rattle.column_loading.specs.declared.form.Form.{Form}
use Rattle.column_loading.specs.declared.form.Form.TheVariants.{Packed, Spread}
use Rattle.column_loading.specs.declared.slot.Slot.{Slot}

-- the slots, in either form
abbrev pub slots_in : Form → List Slot
slots_in (Packed slots) = slots
slots_in (Spread slots) = slots.items
