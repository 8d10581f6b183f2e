-- A shape is told place by place.
use Rattle.std.proofs.Common.{sym, arith}
use Rattle.date_spec.proofs.ShapeLemmas.{has_shape-apart, has_shape-at, has_shape_none, has_shape_more}
use Rattle.date_text.proofs.shapes.has_shape.Goals as goal

pub returns-then-text-shape-clause-shape : goal.returns-then-text-shape-clause-shape
returns-then-text-shape-clause-shape c = sym (has_shape-apart c.args.shape.now c.args.text.now (λ e. c.if-text-shape.true e))

pub loop-index-init : goal.loop-index-init
loop-index-init c = has_shape_none c.args.shape.now c.args.text.now

pub returns-then-not-fits-clause-shape : goal.returns-then-not-fits-clause-shape
returns-then-not-fits-clause-shape c =
    let place = has_shape-at c.args.shape.now c.args.text.now c.loop-index.index (omega arith) in
    grind (arith, c.if-not-fits.true, c.fits.ensures, place)

pub loop-index-preserved : goal.loop-index-preserved
loop-index-preserved c =
    has_shape_more c.args.shape.now c.args.text.now c.loop-index.index (omega arith) (omega arith) c.loop-index.invariant (grind (arith, c.if-not-fits.false, c.fits.ensures))
