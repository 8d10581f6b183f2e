use Rattle.std.proofs.Common.{◌<◌, ◌≤◌, ◌-◌, sym, subst, arith, length, drop, rules, add-one}
use Rattle.std.specs.Prelude.{T}
use Rattle.std.specs.List.{list_all}
use Rattle.std.specs.Ordering.{is_lt}
use Rattle.std.proofs.lemmas.List.Sorted.{IsPartitionPoint-from_clause}
use Rattle.list_laws.proofs.Booleans.{true_is}
use Rattle.composite_agg.specs.InOrder.{page_cmp}
use Rattle.composite_agg.specs.Runs.{in_runs}
use Rattle.composite_agg.proofs.RunOrder.{ends_first, first-run, parted-runs, runs-behind, runs-first}
use Rattle.composite_agg.proofs.runs.run_of.Goals as goal

pub returns-then-before-runs-clause-before : goal.returns-then-before-runs-clause-before
returns-then-before-runs-clause-before g c =
    let rs = c.args.runs.now in
    let ends = ends_first g.T.HasKey.key_of c.args.sources.now (g.K.Sought.sought c.args.key.now) in
    let point = IsPartitionPoint-from_clause ends rs _ c.partition_point-before.ensures.partitioned (parted-runs g.T.HasKey.key_of c.args.sources.now (g.K.Sought.sought c.args.key.now) rs c.requires.order c.requires.filled) (λ a r f k. search rules) in
    true_is _ (runs-first g.T.HasKey.key_of c.args.sources.now (g.K.Sought.sought c.args.key.now) rs c.partition_point-before.result c.partition_point-before.ensures.bound c.requires.order (λ k d below. point.0 k d (omega arith) below))

pub returns-then-before-runs-clause-behind : goal.returns-then-before-runs-clause-behind
returns-then-before-runs-clause-behind g c =
    let rs = c.args.runs.now in
    let p = c.partition_point-before.result in
    let d = first-run rs c.requires.some in
    let ends = ends_first g.T.HasKey.key_of c.args.sources.now (g.K.Sought.sought c.args.key.now) in
    let point = IsPartitionPoint-from_clause ends rs _ c.partition_point-before.ensures.partitioned (parted-runs g.T.HasKey.key_of c.args.sources.now (g.K.Sought.sought c.args.key.now) rs c.requires.order c.requires.filled) (λ a r f k. search rules) in
    let below : p < length rs = search rules in
    true_is _ (subst (λ n. T (list_all (λ x. is_lt (page_cmp c.args.sources.now (g.K.Sought.sought c.args.key.now) (g.T.HasKey.key_of x))) (in_runs (drop n rs)))) (sym (add-one p))
    (runs-behind g.T.HasKey.key_of c.args.sources.now (g.K.Sought.sought c.args.key.now) rs p d below c.requires.order c.requires.filled (point.1 p d (omega arith) below)))

pub returns-else-before-runs-clause-before : goal.returns-else-before-runs-clause-before
returns-else-before-runs-clause-before g c =
    let rs = c.args.runs.now in
    let p = c.partition_point-before.result in
    let ends = ends_first g.T.HasKey.key_of c.args.sources.now (g.K.Sought.sought c.args.key.now) in
    let point = IsPartitionPoint-from_clause ends rs _ c.partition_point-before.ensures.partitioned (parted-runs g.T.HasKey.key_of c.args.sources.now (g.K.Sought.sought c.args.key.now) rs c.requires.order c.requires.filled) (λ a r f k. search rules) in
    let all : length rs ≤ p = search rules in
    true_is _ (runs-first g.T.HasKey.key_of c.args.sources.now (g.K.Sought.sought c.args.key.now) rs (length rs - 1) (omega arith) c.requires.order (λ k d below. point.0 k d (omega arith) (omega (arith, all, below))))
