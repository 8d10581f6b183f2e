use Rattle.std.proofs.Common.{◌∙◌, ap, sym}
use Rattle.std.proofs.lemmas.Bool.{ltb-true}
use Rattle.std.proofs.lemmas.Result.{IfOk-weaker}
use Rattle.agg_model.specs.declared.aggregation.Agg.{out-Agg}
use Rattle.bucket_order.specs.Kinds.{child_kinds}
use Rattle.final_reduce.specs.Standing.{beyond_at, can_return, form_of, returned_at}
use Rattle.final_reduce.proofs.returned.returned_buckets.Goals as goal

pub returned_terms-requires : goal.returned_terms-requires
returned_terms-requires c = ltb-true _ _ (sym (ap (λ k. can_return (form_of k) c.args.buckets) c.in-Terms.is) ∙ c.requires)

pub first_composites-requires : goal.first_composites-requires
first_composites-requires c = sym (ap (λ k. can_return (form_of k) c.args.buckets) c.in-Composite.is) ∙ c.requires

pub returns-in-Terms-clause-returned : goal.returns-in-Terms-clause-returned
returns-in-Terms-clause-returned c =
    let kinds = child_kinds (out-Agg c.args.agg.now).children in
    IfOk-weaker c.returned_terms.result _ _ (λ r is. is ∙ ap (λ k. returned_at kinds (form_of k) c.args.buckets) (sym c.in-Terms.is)) c.returned_terms.ensures.returned

pub returns-in-Terms-clause-beyond : goal.returns-in-Terms-clause-beyond
returns-in-Terms-clause-beyond c =
    let kinds = child_kinds (out-Agg c.args.agg.now).children in
    IfOk-weaker c.returned_terms.result _ _ (λ r is. is ∙ ap (λ k. beyond_at kinds (form_of k) c.args.buckets) (sym c.in-Terms.is)) c.returned_terms.ensures.beyond
