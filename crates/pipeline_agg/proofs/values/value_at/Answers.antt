use Rattle.std.proofs.Common.{rules, ◌≡◌}
use Rattle.std.specs.Prelude.{Some, slice_get}
use Rattle.agg_model.specs.declared.answer.BucketAnswer.{out-BucketAnswer}
use Rattle.pipeline_agg.proofs.InRange.{answer-at, sum-of-answer}
use Rattle.pipeline_agg.proofs.values.value_at.Goals as goal

pub returns-in_ok-node-in-Child-clause-small : goal.returns-in_ok-node-in-Child-clause-small
returns-in_ok-node-in-Child-clause-small c in_range =
    let agg = c.in_ok-agg-in-Child.agg.now in
    let node = c.in_ok-node-in-Child.node.now in
    let nodes = (out-BucketAnswer c.args.bucket.now).children in
    let is : slice_get c.args.children.now c.in-Child.place ≡ Some agg = search rules in
    let there : slice_get nodes c.in-Child.place ≡ Some node = search rules in
    c.number_of.ensures.small (sum-of-answer agg node (answer-at c.args.children.now nodes c.in-Child.place agg node in_range is there))
