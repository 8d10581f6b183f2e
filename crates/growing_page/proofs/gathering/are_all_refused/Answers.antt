use Rattle.std.proofs.Common.{◌≡◌, ◌≤◌, ◌∙◌, sym, ap, arith, rules, length, true}
use Rattle.std.specs.Prelude.{nat_le, option_copied}
use Rattle.std.proofs.lemmas.Bool.Decides.{nat_tests}
use Rattle.agg_model.specs.declared.aggregation.Kind.{Kind}
use Rattle.agg_evaluation.specs.Keys.{keys}
use Rattle.agg_evaluation.specs.Rows.{row_of}
use Rattle.composite_agg.specs.FirstPages.{empty_page}
use Rattle.composite_agg.specs.Runs.{in_runs}
use Rattle.growing_page.specs.GrowingPages.{sources_of}
use Rattle.growing_page.proofs.Refusals.{all-kept-out}
use Rattle.growing_page.proofs.gathering.are_all_refused.Goals as goal

pub returns-then-held-size : goal.returns-then-held-size
returns-then-held-size c says =
    let k = c.args.kind.now in
    let hs = in_runs c.args.runs.now in
    let is_last = sym c.last_key.ensures ∙ ap option_copied c.in-Some.is in
    let most : c.in-Composite.size ≤ length hs = search rules in
    let many : nat_le c.in-Composite.size (length hs) ≡ true = grind (arith, nat_tests) in
    let full = ap (λ (j : Kind). nat_le (empty_page j).size (length hs)) c.in-Composite.is ∙ many in
    all-kept-out (sources_of k) (empty_page k).size (empty_page k).after hs c.in-Some.last.now c.requires.order is_last full (keys c.args.shard.now.rows k (row_of c.args.shard.now.rows c.args.row)) (c.are_behind.ensures says)
