-- How many aggregations stand directly below one that was read.
use Rattle.std.specs.Prelude.{⊤}
use Rattle.agg_reading.specs.declared.pipes.ReadItem.{ReadItem}
use Rattle.agg_reading.specs.declared.pipes.ReadItem.TheVariants as read_item
use Rattle.request_pipes.specs.Children.{HasFewChildren}

abbrev pub ItemHasFewChildren : ReadItem → Type 0
ItemHasFewChildren (read_item.Aggregation a pipes) = HasFewChildren a
ItemHasFewChildren (read_item.Pipeline p) = ⊤
