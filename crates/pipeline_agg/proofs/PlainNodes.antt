-- Without pipelines an aggregation leaves its answer as it is.
use Rattle.std.specs.Prelude.{◌≡◌, refl, false, List, [], ◌∷◌, ◌++◌, map, None, Ok}
use Rattle.std.proofs.Common.{◌∙◌, sym, ap, subst}
use Rattle.agg_model.specs.declared.aggregation.Agg.{Agg}
use Rattle.agg_model.specs.declared.aggregation.Search.{Search}
use Rattle.agg_model.specs.declared.answer.Answer.{Answer}
use Rattle.agg_model.specs.declared.answer.NodeAnswer.{NodeAnswer}
use Rattle.agg_model.specs.declared.pipeline.Note.{Note}
use Rattle.agg_model.specs.declared.pipeline.Pipe.{Pipe}
use Rattle.agg_model.specs.declared.pipeline.Piped.{Piped}
use Rattle.agg_model.specs.declared.query.Query.TheVariants as query
use Rattle.agg_spec.proofs.WithoutPipelines.{piped-plain}
use Rattle.agg_spec.specs.Notes.{below_agg, piper}
use Rattle.agg_spec.specs.Remarks.{Remark}
use Rattle.pipeline_agg.specs.Objects.{IsNode}
use Rattle.pipeline_agg.specs.Told.{first_wide, notes_of, unsorted}
use Rattle.pipeline_agg.specs.declared.objects.RemarkedNode.{RemarkedNode}

no-remark : (f : Remark → Remark) (rs : List Remark) → map (λ r. r.note) (map f rs ++ []) ≡ [] → rs ≡ []
no-remark f [] e = refl
no-remark f (r ∷ rs) e = absurd (cc (e))

first-is : (x y : NodeAnswer) → x ∷ [] ≡ y ∷ [] → x ≡ y
first-is x y e = cc (e)

module _ (a : Agg) (n : NodeAnswer) where
  abbrev alone : Search
  alone = record { query = query.All; aggs = a ∷ []; body_bytes = 0; partial = false; pipes = [] }

  abbrev its_answer : Answer
  its_answer = record { hits = 0; nodes = n ∷ [] }

  node-plain : ((piper a).piped [] n).node ≡ n
  node-plain = first-is _ _ (ap (λ (p : Piped). p.answer.nodes) (piped-plain alone its_answer refl))

  remarks-plain : ((piper a).piped [] n).remarks ≡ []
  remarks-plain = no-remark (below_agg 0 (piper a).name) ((piper a).piped [] n).remarks (ap (λ (p : Piped). p.notes) (piped-plain alone its_answer refl))

  -- an answer that is handed on
  pub plain-node : (pipes : List Pipe) (r : RemarkedNode) → pipes ≡ [] → r.node ≡ n → r.notes ≡ [] → IsNode a pipes n (Ok r)
  plain-node pipes r none node notes = (
    node ∙ sym node-plain ∙ ap (λ ps. ((piper a).piped ps n).node) (sym none),
    notes ∙ ap notes_of (sym remarks-plain) ∙ ap (λ ps. notes_of ((piper a).piped ps n).remarks) (sym none),
    ap (λ ps. first_wide ((piper a).piped (unsorted ps) n).remarks) none ∙ ap first_wide remarks-plain,
  )
