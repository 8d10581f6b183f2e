-- What a sibling pipeline says, by what is summed up for its kind.
use Rattle.std.specs.Prelude.{◌≡◌, refl, ℕ, zero, suc, ◌<◌, List, [], ◌∷◌, length, map, None, Some, option_to_list, Result, IfOk, slice_index_or}
use Rattle.std.proofs.Common.{◌∙◌, sym, ap, subst, arith}
use Rattle.agg_model.specs.declared.answer.NodeAnswer.{NodeAnswer}
use Rattle.agg_model.specs.declared.key.Key.{Key}
use Rattle.agg_model.specs.declared.pipeline.Pipe.{Pipe}
use Rattle.agg_model.specs.declared.pipeline.PipeKind.{PipeKind}
use Rattle.agg_model.specs.declared.pipeline.PipeKind.TheVariants as pipe
use Rattle.agg_spec.specs.Remarks.{Piper, Remark, remark_of, sibling_says}
use Rattle.pipeline_agg.specs.Summaries.{summary_of}
use Rattle.pipeline_agg.specs.Told.{IsSaid}
use Rattle.pipeline_agg.specs.declared.remarked.Said.{Said}
use Rattle.pipeline_agg.specs.declared.summaries.Summary.{Summary}

pub read-same : {A : Type 0} (xs : List A) (i : ℕ) (d x : A) → i < length xs → slice_index_or xs i d ≡ slice_index_or xs i x
read-same [] i d x less = absurd (let no : ⊥ = omega (arith, less) in no)
read-same (y ∷ ys) zero d x less = refl
read-same (y ∷ ys) (suc i) d x less = read-same ys i d x (omega (arith, less))

module _ (aggs : List Piper) (nodes : List NodeAnswer) (p : Pipe) where
  abbrev pub remark : Summary → Remark
  remark s = remark_of p s.value s.keys

  says-is : (k : PipeKind) → sibling_says aggs nodes p k ≡ map remark (option_to_list (summary_of aggs nodes k))
  says-is (pipe.CumulativeSum at) = refl
  says-is (pipe.Derivative at) = refl
  says-is (pipe.SumBucket i at) = refl
  says-is (pipe.MinBucket i at) = refl
  says-is (pipe.MaxBucket i at) = refl
  says-is (pipe.BucketSort sort start size) = refl

  module _ (k : PipeKind) where
    pub said-some : {E : Type 0} (r : Result Said E) (s : Summary) (keys : List Key) → summary_of aggs nodes k ≡ Some s → keys ≡ s.keys
        → IfOk r (IsSaid (remark_of p s.value keys ∷ [])) → IfOk r (IsSaid (sibling_says aggs nodes p k))
    said-some r s keys some same told =
        let says = says-is k ∙ ap (λ o. map remark (option_to_list o)) some in
        subst (λ (rs : List Remark). IfOk r (IsSaid rs)) (ap (λ ks. remark_of p s.value ks ∷ []) same ∙ sym says) told

    pub says-nothing : summary_of aggs nodes k ≡ None → sibling_says aggs nodes p k ≡ []
    says-nothing none = says-is k ∙ ap (λ o. map remark (option_to_list o)) none
