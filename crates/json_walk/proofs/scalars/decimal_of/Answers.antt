use Rattle.std.proofs.Common.{◌≡◌, true, sym, ◌∙◌}
use Rattle.agg_reading.specs.Scalars.{is_decimal}
use Rattle.agg_reading.specs.Scalars as scalars
use Rattle.json_walk.proofs.Decimal.{parsed}
use Rattle.json_walk.proofs.scalars.decimal_of.Goals as goal

pub returns : goal.returns
unfolding scalars.decimal_of
returns c =
    let d : is_decimal c.args.text.now ≡ true = sym c.is_decimal.ensures ∙ c.if-not-is_decimal.false in
    rw (c.ok.ensures.value, parsed c.args.text.now c.parse.result d c.parse.ensures.value.0, d)
