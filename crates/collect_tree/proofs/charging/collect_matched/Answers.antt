use Rattle.std.proofs.Common.{◌≡◌, ◌+◌, ℕ, length, take, sym, ◌∙◌, ap, subst, arith}
use Rattle.std.proofs.lemmas.Result.{err_from_is_err_and}
use Rattle.agg_evaluation.specs.Matching.{matches}
use Rattle.agg_evaluation.specs.Rows.{roots}
use Rattle.growth_laws.specs.Amounts.{amounts}
use Rattle.task_charges.specs.Charged.{HasPaid}
use Rattle.collect_tree.specs.Grown.{HasGrown}
use Rattle.collect_tree.specs.Phases.{collected_before}
use Rattle.collect_tree.specs.Stops.{PaysOn}
use Rattle.collect_tree.specs.declared.phase.Phase.TheVariants.{Matched}
use Rattle.collect_tree.proofs.Counting.{count-all}
use Rattle.collect_tree.proofs.charging.collect_matched.Goals as goal

pub loop-start-preserved : goal.loop-start-preserved
loop-start-preserved c =
    let shard = c.args.shard.now in
    let search = c.args.search.now in
    let come = c.loop-start.invariant.counted.come in
    let block = c.in_ok-more.ensures in
    record {
      counted = record {
        hits = block.hits;
        come = record {
          of = block.of;
          rest = block.trial;
          cap = block.cap ∙ come.cap;
          grown = subst (λ (n : ℕ). HasGrown shard search n c.collect_matched_block.new.growth) block.hits block.grown;
          held = block.held;
          paid = λ v paid. subst (λ (n : ℕ). HasPaid c.args.words.now.limits v c.collect_matched_block.new.pass.view (take (n + 1) (amounts search shard.rows))) block.hits
              (block.paid v (subst (λ (n : ℕ). HasPaid c.args.words.now.limits v c.loop-start.pass.view (take (n + 1) (amounts search shard.rows))) (sym c.loop-start.invariant.counted.hits) (come.paid v paid)));
        };
      };
      within = omega arith;
    }

pub returns-in_err-more-clause-stopped : goal.returns-in_err-more-clause-stopped
returns-in_err-more-clause-stopped c =
    let p = err_from_is_err_and c.from_residual.result c.from_residual.ensures.1 in
    rw (p.1, p.2) (λ v paid. c.in_err-more.ensures.stopped v
    (subst (λ (n : ℕ). HasPaid c.args.words.now.limits v c.loop-start.pass.view (take (n + 1) (amounts c.args.search.now c.args.shard.now.rows))) (sym c.loop-start.invariant.counted.hits) (c.loop-start.invariant.counted.come.paid v paid)))

pub returns-clause-hits : goal.returns-clause-hits
returns-clause-hits c =
    let search = c.args.search.now in
    let all = c.args.shard.now.rows in
    let inv = c.loop-start.invariant in
    let end : c.loop-start.start ≡ length (roots all) = omega (arith, c.loop-start-test.false, c.roots-count.ensures, inv.within) in
    inv.counted.hits ∙ ap (collected_before search all Matched) end ∙ count-all (matches all search.query) (roots all)

pub returns-clause-grown : goal.returns-clause-grown
returns-clause-grown c =
    let search = c.args.search.now in
    let all = c.args.shard.now.rows in
    let inv = c.loop-start.invariant in
    let end : c.loop-start.start ≡ length (roots all) = omega (arith, c.loop-start-test.false, c.roots-count.ensures, inv.within) in
    subst (λ (n : ℕ). HasGrown c.args.shard.now search n c.loop-start.growth) (ap (collected_before search all Matched) end ∙ count-all (matches all search.query) (roots all)) inv.counted.come.grown

pub returns-clause-paid : goal.returns-clause-paid
returns-clause-paid c =
    let search = c.args.search.now in
    let all = c.args.shard.now.rows in
    let inv = c.loop-start.invariant in
    let end : c.loop-start.start ≡ length (roots all) = omega (arith, c.loop-start-test.false, c.roots-count.ensures, inv.within) in
    subst (λ (n : ℕ). PaysOn c.args.words.now.limits (amounts search all) 0 n c.args.pass.now.view c.loop-start.pass.view) (ap (collected_before search all Matched) end ∙ count-all (matches all search.query) (roots all)) inv.counted.come.paid
