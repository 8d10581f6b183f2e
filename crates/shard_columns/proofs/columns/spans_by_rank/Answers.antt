use Rattle.std.proofs.Common.{ℕ, List, Option, subst}
use Rattle.std.specs.Prelude.{IfSome, Vec}
use Rattle.std.specs.declared.alloc.Global.{Global}
use Rattle.shard_columns.specs.Starts.{AreOnes, HaveStarts}
use Rattle.shard_columns.proofs.Starting.{ones-stand}
use Rattle.shard_columns.proofs.columns.spans_by_rank.Goals as goal

pub returns-in-Some-ones_of-clause-spans : goal.returns-in-Some-ones_of-clause-spans
returns-in-Some-ones_of-clause-spans c =
    let homes = c.args.homes.now in
    let context = c.at-last.result.context in
    let held = c.args.held.now in
    let have : HaveStarts homes context held c.in-Some-2.starts.items = subst (λ (o : Option (Vec ℕ Global)). IfSome o (λ starts. HaveStarts homes context held starts.items)) c.in-Some-2.is c.in_ok-starts.ensures in
    ones-stand homes context c.in-Some-ones_of.count held c.in-Some-2.starts.items (subst (λ (starts : List ℕ). AreOnes starts c.in-Some-ones_of.count) c.as_slice.ensures.value c.in-Some-ones_of.ensures) have
