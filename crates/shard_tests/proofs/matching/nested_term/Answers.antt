-- The query is made for the mapping of the example.
use Rattle.std.proofs.Common.{◌≡◌, refl, ℕ, ◌∙◌, ap, List, true}
use Rattle.agg_model.specs.declared.query.Probe.TheVariants as probe
use Rattle.agg_model.specs.declared.query.Query.{Query}
use Rattle.agg_model.specs.declared.query.Query.TheVariants as query
use Rattle.agg_evaluation.specs.QueryFits.{query_fits}
use Rattle.agg_evaluation.proofs.Computing.{computing}
use Rattle.shard_tests.specs.Example.{example_mapping}
use Rattle.shard_tests.proofs.matching.nested_term.Goals as goal

query-fits : (w : List ℕ) → query_fits example_mapping 0 (query.Nested 0 (query.Term 0 (probe.Word w))) ≡ true
unfolding computing Rattle.agg_model.specs.Contexts.is_in_context
query-fits w = refl

made-of : (q : Query) (w : List ℕ) → q ≡ query.Term 0 (probe.Word w) → query_fits example_mapping 0 (query.Nested 0 q) ≡ true
made-of q w is = ap (λ (x : Query). query_fits example_mapping 0 (query.Nested 0 x)) is ∙ query-fits w

pub prepare-requires : goal.prepare-requires
prepare-requires c = ∣ (0, ∣ (example_mapping, (c.requires, made-of c.in_ok-new.field-0 c.in_ok-of.field-0 c.in_ok-new.ensures)) ∣₁) ∣₁

pub matched-requires : goal.matched-requires
matched-requires c = ∣ (example_mapping, (c.requires, made-of c.in_ok-new.field-0 c.in_ok-of.field-0 c.in_ok-new.ensures)) ∣₁
