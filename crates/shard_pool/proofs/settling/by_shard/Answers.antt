use Rattle.std.proofs.Common.{rules, sym, subst}
use Rattle.std.specs.Prelude.{IsSortedByKey}
use Rattle.std.specs.Ordering.{nat_cmp}
use Rattle.std.proofs.lemmas.List.Sorted.{answers_always}
use Rattle.agg_model.specs.declared.outcome.Failure.{Failure}
use Rattle.shard_pool.proofs.settling.by_shard.Goals as goal

pub returns-clause-ascending : goal.returns-clause-ascending
returns-clause-ascending c =
    subst (IsSortedByKey (λ (f : Failure). f.shard) nat_cmp) (sym c.from_vec.ensures) (c.sort_unstable_by_key.ensures.sorted (λ f. f.shard) (answers_always _ _ _ (λ f a r g h. search rules)))
