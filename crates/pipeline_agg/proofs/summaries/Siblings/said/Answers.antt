use Rattle.std.proofs.Common.{◌≡◌, sym, ap, ◌∙◌, map}
use Rattle.agg_spec.specs.Notes.{piper}
use Rattle.pipeline_agg.specs.Told.{first_wide, notes_of}
use Rattle.pipeline_agg.specs.declared.summaries.Known.{Known}
use Rattle.pipeline_agg.proofs.SummaryLaws.{said-some, says-nothing}
use Rattle.pipeline_agg.proofs.summaries.Siblings.said.Goals as goal

pub returns-in_ok-copy-in-Some-clause-told : goal.returns-in_ok-copy-in-Some-clause-told
returns-in_ok-copy-in-Some-clause-told c aggs nodes are =
    let p = c.args.pipe.now in
    let some = sym (c.in_ok-place.ensures.summary aggs nodes are c.index.result.now) ∙ sym (ap (λ (k : Known). k.summary) c.index.ensures) ∙ c.in-Some.is in
    said-some (map piper aggs) nodes p p.kind c.said.result c.in-Some.summary c.in_ok-copy-in-Some.field-0 some c.in_ok-copy-in-Some.ensures c.said.ensures

pub returns-in-None-clause-told : goal.returns-in-None-clause-told
returns-in-None-clause-told c aggs nodes are =
    let p = c.args.pipe.now in
    let none = sym (c.in_ok-place.ensures.summary aggs nodes are c.index.result.now) ∙ sym (ap (λ (k : Known). k.summary) c.index.ensures) ∙ c.in-None.is in
    let nothing = says-nothing (map piper aggs) nodes p p.kind none in
    (ap first_wide nothing, c.new.ensures ∙ sym (ap notes_of nothing))
