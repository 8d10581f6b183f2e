use Rattle.std.proofs.Common.{◌≡◌, ℕ, List, length, true, sym, ◌∙◌, ap, subst, arith}
use Rattle.std.specs.List.{list_any}
use Rattle.std.proofs.lemmas.Result.{err_from_is_err_and}
use Rattle.agg_evaluation.specs.Rows.{PlacedRow}
use Rattle.agg_evaluation.specs.Trace.{is_global, matched}
use Rattle.agg_model.specs.declared.aggregation.Agg.{out-Agg}
use Rattle.growth_laws.specs.Amounts.{amounts, row_count}
use Rattle.collect_tree.specs.Grown.{HasGrown}
use Rattle.collect_tree.specs.Phases.{collected_before}
use Rattle.collect_tree.specs.Stops.{PaysOn}
use Rattle.collect_tree.specs.declared.phase.Phase.TheVariants.{Global}
use Rattle.collect_tree.proofs.Listing.{all-global}
use Rattle.collect_tree.proofs.charging.collect_globals.Goals as goal

pub loop-start-preserved : goal.loop-start-preserved
loop-start-preserved c =
    let come = c.loop-start.invariant.come in
    let block = c.in_ok-collect_global_block.ensures in
    record {
      come = record {
        of = block.of;
        rest = block.trial;
        cap = block.cap ∙ come.cap;
        grown = block.grown;
        held = block.held;
        paid = λ v paid. block.paid v (come.paid v paid);
      };
      within = omega arith;
    }

pub returns-in_err-collect_global_block-clause-stopped : goal.returns-in_err-collect_global_block-clause-stopped
returns-in_err-collect_global_block-clause-stopped c =
    let p = err_from_is_err_and c.from_residual.result c.from_residual.ensures.1 in
    rw (p.1, p.2) (λ v paid. c.in_err-collect_global_block.ensures.stopped v (c.loop-start.invariant.come.paid v paid))

pub returns-clause-grown : goal.returns-clause-grown
returns-clause-grown c =
    let search = c.args.search.now in
    let all = c.args.shard.now.rows in
    let global : list_any (λ a. is_global (out-Agg a).kind) search.aggs ≡ true = sym c.has_global.ensures ∙ c.if-not-has_global.false in
    let many = ap (λ (rs : List PlacedRow). length rs) (all-global search all global) in
    let end : collected_before search all Global c.loop-start.start ≡ row_count search all = omega (arith, many, c.loop-start-test.false, c.roots-count.ensures, c.loop-start.invariant.within) in
    subst (λ (n : ℕ). HasGrown c.args.shard.now search n c.loop-start.growth) end c.loop-start.invariant.come.grown

pub returns-clause-paid : goal.returns-clause-paid
returns-clause-paid c =
    let search = c.args.search.now in
    let all = c.args.shard.now.rows in
    let global : list_any (λ a. is_global (out-Agg a).kind) search.aggs ≡ true = sym c.has_global.ensures ∙ c.if-not-has_global.false in
    let many = ap (λ (rs : List PlacedRow). length rs) (all-global search all global) in
    let end : collected_before search all Global c.loop-start.start ≡ row_count search all = omega (arith, many, c.loop-start-test.false, c.roots-count.ensures, c.loop-start.invariant.within) in
    subst (λ (n : ℕ). PaysOn c.args.words.now.limits (amounts search all) (length (matched search all)) n c.args.pass.now.view c.loop-start.pass.view) end c.loop-start.invariant.come.paid
