-- What one more member does to those that were read.
use Rattle.std.proofs.Common.{◌≤◌, ◌+◌, [], ◌∷◌, length, arith, length-append}
use Rattle.std.proofs.lemmas.List.Elements.{All-push}
use Rattle.agg_reading.specs.declared.pipes.ReadItem.{ReadItem}
use Rattle.agg_reading.specs.declared.pipes.ReadItem.TheVariants as read_item
use Rattle.agg_reading.specs.declared.pipes.Siblings.{Siblings}
use Rattle.agg_reading.specs.Request.{with_item}
use Rattle.request_pipes.specs.Children.{HasFewChildren, HaveFewChildren}
use Rattle.agg_request.specs.Children.{ItemHasFewChildren}

pub one_longer : (item : ReadItem) (done : Siblings) → length (with_item item done).aggs ≤ length done.aggs + 1
one_longer (read_item.Aggregation a pipes) done = omega (arith, length-append done.aggs (a ∷ []))
one_longer (read_item.Pipeline p) done = omega arith

pub still_few : (item : ReadItem) (done : Siblings) → HaveFewChildren done.aggs → ItemHasFewChildren item → HaveFewChildren (with_item item done).aggs
still_few (read_item.Aggregation a pipes) done all one = All-push HasFewChildren done.aggs a all one
still_few (read_item.Pipeline p) done all one = all
