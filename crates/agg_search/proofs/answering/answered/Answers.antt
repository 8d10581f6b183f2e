use Rattle.std.proofs.Common.{◌∙◌, ℕ, ap, sym}
use Rattle.agg_model.specs.declared.outcome.Outcome.{Outcome}
use Rattle.agg_model.specs.declared.outcome.Outcome.TheVariants as ended
use Rattle.agg_model.specs.declared.pipeline.Piped.{Piped}
use Rattle.agg_spec.specs.Notes.{piped}
use Rattle.agg_spec.specs.Response.{response_line}
use Rattle.agg_search.proofs.Outcomes.{line-outcome}
use Rattle.agg_search.proofs.answering.answered.Goals as goal

pub returns-in-Ok-clause-outcome : goal.returns-in-Ok-clause-outcome
returns-in-Ok-clause-outcome c =
    let index = c.args.index.now in
    let search = c.args.search in
    let line : Piped → ℕ → Outcome = λ p shards. ended.Response (response_line search index.mapping p shards c.args.failures.now) in
    ap ended.Response c.in_ok-line-in-Ok.ensures
    ∙ ap (λ (p : Piped). line p c.len-shards.result) c.in-Ok.ensures.answer
    ∙ ap (line (piped search c.args.answer)) c.len-shards.ensures
    ∙ sym (line-outcome search c.args.answer _ c.requires.in_range c.in-Ok.ensures.range)
