-- A composite key is in range where each part is.
use Rattle.std.proofs.Common.{◌∙◌, sym, ap}
use Rattle.agg_spec.specs.RangeCheck.{key_in_range}
use Rattle.agg_response.proofs.Levels.{key_in_range-Many}
use Rattle.agg_response.proofs.keys.composite_value.Goals as goal

pub with_parts-requires : goal.with_parts-requires
with_parts-requires c = sym (key_in_range-Many c.in-Many.keys) ∙ ap key_in_range (sym c.in-Many.is) ∙ c.requires
