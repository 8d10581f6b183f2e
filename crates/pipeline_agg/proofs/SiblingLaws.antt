-- The aggregation beside a pipeline: its children and its buckets.
use Rattle.std.specs.Prelude.{◌≡◌, refl, ℕ, zero, suc, List, [], ◌∷◌, map}
use Rattle.std.proofs.Common.{◌∙◌, ap, subst, sym}
use Rattle.agg_evaluation.proofs.AggFolds.{fold_agg-level}
use Rattle.agg_model.specs.declared.aggregation.Kind.{Kind}
use Rattle.agg_model.specs.declared.aggregation.Agg.{Agg, out-Agg}
use Rattle.agg_model.specs.declared.answer.NodeAnswer.{NodeAnswer, out-NodeAnswer}
use Rattle.agg_spec.specs.Notes.{piper, piper_of}
use Rattle.agg_spec.specs.RangeCheck.{check_each, checker}
use Rattle.agg_spec.specs.Remarks.{Piper, sibling_buckets, sibling_kinds}
use Rattle.bucket_order.specs.Kinds.{child_kinds}
use Rattle.pipeline_agg.specs.Bounds.{AreBucketsInRange, AreInRange, children_at}
use Rattle.pipeline_agg.proofs.InRange.{bucket-at, buckets-of-answer, no-first, no-second}

pub piper-kind : (a : Agg) → (piper a).kind ≡ (out-Agg a).kind
piper-kind a = ap (λ (p : Piper). p.kind) (fold_agg-level piper_of a)

pub kinds-of : (aggs : List Agg) → map (λ (p : Piper). p.kind) (map piper aggs) ≡ child_kinds aggs
kinds-of [] = refl
kinds-of (a ∷ aggs) = ap (λ k. k ∷ map (λ (p : Piper). p.kind) (map piper aggs)) (piper-kind a) ∙ ap (λ ks. (out-Agg a).kind ∷ ks) (kinds-of aggs)

pub piper-children : (a : Agg) → (piper a).children ≡ child_kinds (out-Agg a).children
piper-children a = ap (λ (p : Piper). p.children) (fold_agg-level piper_of a) ∙ kinds-of (out-Agg a).children

pub kinds-at : (i : ℕ) (aggs : List Agg) → child_kinds (children_at i aggs) ≡ sibling_kinds i (map piper aggs)
kinds-at i [] = refl
kinds-at zero (a ∷ aggs) = sym (piper-children a)
kinds-at (suc i) (a ∷ aggs) = kinds-at i aggs

pub ranges-at : (i : ℕ) (aggs : List Agg) (nodes : List NodeAnswer) → AreInRange aggs nodes → AreBucketsInRange (children_at i aggs) (sibling_buckets i nodes)
ranges-at i [] nodes h place b is = refl
ranges-at i (a ∷ aggs) [] h place b is = absurd (cc (is))
ranges-at zero (a ∷ aggs) (n ∷ nodes) h place b is =
    bucket-at (out-Agg a).children (out-NodeAnswer n).buckets place b (buckets-of-answer a n (no-first (checker a n) (check_each (map checker aggs) nodes) h)) is
ranges-at (suc i) (a ∷ aggs) (n ∷ nodes) h place b is = ranges-at i aggs nodes (no-second (checker a n) (check_each (map checker aggs) nodes) h) place b is
