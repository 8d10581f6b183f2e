use Rattle.std.proofs.Common.{◌≡◌, ℕ, ◌+◌, ◌*◌, ◌-◌, length, vec_len, refl, rules, ◌∙◌, ap, arith}
use Rattle.agg_evaluation.specs.Rows.{row_of}
use Rattle.agg_cost.specs.Capped.{capped}
use Rattle.agg_cost.specs.Paths.{reached_by, over_paths}
use Rattle.agg_cost.proofs.Capping.{alike_capped}
use Rattle.agg_cost.proofs.Reaching.{reached-more}
use Rattle.agg_cost.proofs.paths.put.Goals as goal

pub returns-then-last-row-clause-paths : goal.returns-then-last-row-clause-paths
returns-then-last-row-clause-paths c =
    let items = c.args.found.now.items in
    let last = c.in-Some.last.now in
    λ rows f.
    let long : length items ≡ vec_len c.args.found.now = search rules in
    let some = c.in-Some.ensures.variant.0 refl in
    let more = ap capped c.saturating_add-last.ensures ∙ alike_capped (last.paths + c.args.paths) in
    reached-more rows f items (vec_len c.args.found.now - 1) last c.saturating_add-last.result c.args.paths (omega arith) c.in-Some.ensures.value more
    ∙ ap (λ (n : ℕ). capped (over_paths f (reached_by rows items) + c.args.paths * f (row_of rows n))) c.if-last-row.true
