use Rattle.std.proofs.Common.{◌≡◌, true, take}
use Rattle.date_spec.specs.Shapes.{has_shape}
use Rattle.date_text.proofs.shapes.has_shape.Given as goal

abbrev pub invariant-loop-index : goal.invariant-loop-index
invariant-loop-index l = has_shape (take l.index l.shape) (take l.index l.text) ≡ true
