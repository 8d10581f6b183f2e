use Rattle.std.proofs.Common.{◌≡◌, ◌∙◌, List, [], ◌∷◌, refl, sym, ap, subst, map, ℕ, None, IfErr}
use Rattle.std.specs.Prelude.{Result, Err, Option}
use Rattle.std.proofs.lemmas.Result.{err_from_is_err_and}
use Rattle.agg_model.specs.declared.pipeline.Pipe.{Pipe}
use Rattle.agg_model.specs.declared.pipeline.Piped.{Piped}
use Rattle.agg_spec.proofs.WithoutPipelines.{piped-plain, plain-in-range}
use Rattle.agg_spec.specs.Notes.{no_parents, object_nodes, object_remarks, pipe_out_of_range, piper}
use Rattle.agg_spec.specs.RangeCheck.{check_each, checker, first_path}
use Rattle.pipeline_agg.specs.Entries.{view_of}
use Rattle.pipeline_agg.specs.Placed.{pipes_of}
use Rattle.pipeline_agg.specs.Told.{IsCause, first_wide, notes_of, unsorted}
use Rattle.pipeline_agg.specs.declared.fault.PipeFault.{PipeFault}
use Rattle.pipeline_agg.proofs.ObjectLaws.{object-fault, object-fit, object-notes}
use Rattle.pipeline_agg.proofs.StayInRange.{answer-stays}
use Rattle.pipeline_agg.proofs.applying.apply.Goals as goal

none-first : (paths : List (List ℕ)) → first_path paths ≡ None → paths ≡ []
none-first [] e = refl
none-first (path ∷ paths) e = absurd (cc (e))

-- an error is handed on
refused : (wide : Option (List ℕ)) (r : Result Piped PipeFault) (f g : PipeFault) → r ≡ Err g → g ≡ f → IsCause wide f → IfErr r (IsCause wide)
refused wide r f g e same h = subst (λ (s : Result Piped PipeFault). IfErr s (IsCause wide)) (sym (e ∙ ap Err same)) h

pub returns-then-is_empty-clause-answer : goal.returns-then-is_empty-clause-answer
returns-then-is_empty-clause-answer c =
    (λ i. record { answer = c.args.answer; notes = c.new.ensures i }) ∙ sym (piped-plain c.args.search.now c.args.answer (c.is_empty.ensures.0 c.if-is_empty.true))

pub returns-then-is_empty-clause-range : goal.returns-then-is_empty-clause-range
returns-then-is_empty-clause-range c = plain-in-range c.args.search.now c.args.answer (c.is_empty.ensures.0 c.if-is_empty.true)

pub returns-in_err-object-clause-fault : goal.returns-in_err-object-clause-fault
returns-in_err-object-clause-fault c =
    let aggs = c.args.search.now.aggs in
    let nodes = c.args.answer.nodes in
    let seen = pipes_of c.in_ok-level.level.pipes.now in
    let same : seen ≡ c.args.search.now.pipes = ap pipes_of (c.in_ok-level.ensures.pipes ∙ c.as_slice.ensures.value) ∙ c.in_ok-pipes.ensures in
    let f = c.in_err-object.field-0.0 in
    let p = err_from_is_err_and c.from_residual-in_err-object.result c.from_residual-in_err-object.ensures.1 in
    let cause = object-fault aggs seen nodes no_parents (λ q e. refl) (map view_of c.in_ok-own.own.items) c.in_ok-own.ensures f c.in_err-object.ensures in
    refused (pipe_out_of_range c.args.search.now c.args.answer) c.from_residual-in_err-object.result f p.0 p.1 p.2
    (subst (λ (ps : List Pipe). IsCause (first_wide (object_remarks (map piper aggs) (unsorted ps) no_parents nodes)) f) same cause)

pub returns-clause-answer : goal.returns-clause-answer
returns-clause-answer c =
    let aggs = c.args.search.now.aggs in
    let nodes = c.args.answer.nodes in
    let seen = pipes_of c.in_ok-level.level.pipes.now in
    let same : seen ≡ c.args.search.now.pipes = ap pipes_of (c.in_ok-level.ensures.pipes ∙ c.as_slice.ensures.value) ∙ c.in_ok-pipes.ensures in
    let told = c.in_ok-object.ensures in
    let left = told.0 ∙ ap (λ (ps : List Pipe). object_nodes (map piper aggs) ps nodes) same in
    let notes = object-notes aggs seen nodes no_parents (λ q e. refl) (map view_of c.in_ok-own.own.items) c.in_ok-own.ensures c.in_ok-object.object.notes told.1.0 told.1.1
    ∙ ap (λ (ps : List Pipe). notes_of (object_remarks (map piper aggs) ps no_parents nodes)) same in
    λ i. record { answer = record { hits = c.args.answer.hits; nodes = left i }; notes = notes i }

pub returns-clause-range : goal.returns-clause-range
returns-clause-range c =
    let aggs = c.args.search.now.aggs in
    let nodes = c.args.answer.nodes in
    let seen = pipes_of c.in_ok-level.level.pipes.now in
    let same : seen ≡ c.args.search.now.pipes = ap pipes_of (c.in_ok-level.ensures.pipes ∙ c.as_slice.ensures.value) ∙ c.in_ok-pipes.ensures in
    sym (ap (λ (ps : List Pipe). first_wide (object_remarks (map piper aggs) (unsorted ps) no_parents nodes)) same)
    ∙ object-fit aggs seen nodes no_parents (λ q e. refl) (map view_of c.in_ok-own.own.items) c.in_ok-own.ensures c.in_ok-object.ensures.1.0

pub returns-clause-printable : goal.returns-clause-printable
returns-clause-printable c =
    let aggs = c.args.search.now.aggs in
    let nodes = c.args.answer.nodes in
    ap first_path (ap (check_each (map checker aggs)) c.in_ok-object.ensures.0
    ∙ answer-stays aggs (pipes_of c.in_ok-level.level.pipes.now) nodes (none-first (check_each (map checker aggs) nodes) c.requires.in_range))
