-- A part of a composite key that a shard lends, as a key.
use Rattle.agg_model.specs.declared.key.Key.{Key}
use Rattle.agg_model.specs.declared.key.Key.TheVariants as key
use Rattle.composite_agg.specs.declared.parts.Part.{Part}
use Rattle.composite_agg.specs.declared.parts.Part.TheVariants as part

abbrev pub key_of_part : Part → Key
key_of_part part.Null = key.Null
key_of_part (part.Whole n) = key.Whole n
key_of_part (part.Word w) = key.Word w.now
key_of_part (part.Flag b) = key.Flag b
