use Rattle.std.proofs.Common.{◌++◌, ◌∙◌}
use Rattle.shard_columns.proofs.held_rows.HeldRows.into_vec.Goals as goal

pub returns : goal.returns
returns c = c.in_ok-extend_from_slice.ensures.items ∙ (λ i. c.in_ok-push_ones.ensures i ++ c.as_slice.ensures.value i) ∙ c.self.view_is
