-- The samples of the tests are made for their mapping, and can be finished.
use Rattle.std.specs.Prelude.{◌≡◌, refl, ℕ, ◌+◌, ◌<◌, ◌≤◌, ◌^◌, nat_lt, nat_le, Bool, ◌&&◌, true, List, [], ◌∷◌, codes, map}
use Rattle.std.proofs.Common.{◌∙◌, ap, arith}
use Rattle.std.proofs.lemmas.Bool.{and_from, lt-ltb, le-leb}
use Rattle.agg_model.specs.declared.partial.Node.{Node}
use Rattle.agg_model.specs.declared.partial.Node.TheVariants.{Keyed}
use Rattle.agg_model.specs.declared.query.Query.TheVariants.{All}
use Rattle.agg_model.specs.declared.aggregation.Agg.{Agg, out-Agg}
use Rattle.agg_model.specs.declared.aggregation.Kind.{Kind}
use Rattle.agg_model.specs.declared.pipeline.Pipe.{Pipe}
use Rattle.agg_evaluation.proofs.Computing.{computing}
use Rattle.agg_evaluation.specs.Folds.{fold_agg}
use Rattle.agg_evaluation.specs.Trees.{pass_each}
use Rattle.std.specs.List.{list_all}
use Rattle.agg_evaluation.specs.Finishable.{is_finishable, is_finishable_at}
use Rattle.agg_evaluation.specs.QueryFits.{query_fits}
use Rattle.agg_evaluation.specs.SearchFits.{Made, made_at, is_made, agg_fits, IsMade}
use Rattle.program_tests.specs.SampleMapping.{sample_mapping}
use Rattle.program_tests.specs.SampleTerms.{IsFirstByCount, first_by_count, returned_bucket}
use Rattle.agg_evaluation.proofs.AggFolds.{fold_agg-level}
use Rattle.final_reduce.proofs.FinishableLaws.{is_finishable-level}

-- a search for one aggregation
pub one_is_made : (aggs : List Agg) (agg : Agg) (body_bytes : ℕ) (partial : Bool) (pipes : List Pipe) → aggs ≡ agg ∷ [] → agg_fits sample_mapping true 0 agg ≡ true
    → IsMade (record { query = All; aggs = aggs; body_bytes = body_bytes; partial = partial; pipes = pipes })
one_is_made aggs agg body_bytes partial pipes is_agg fits =
    ∣ (sample_mapping, and_from (query_fits sample_mapping 0 All) _ refl (ap (list_all (agg_fits sample_mapping true 0)) is_agg ∙ and_from (agg_fits sample_mapping true 0 agg) _ fits refl)) ∣₁

pub one_can_finish : (aggs : List Agg) (nodes : List Node) (agg : Agg) (node : Node) → aggs ≡ agg ∷ [] → nodes ≡ node ∷ [] → is_finishable agg node ≡ true
    → pass_each (map is_finishable aggs) nodes ≡ true
one_can_finish aggs nodes agg node is_agg is_node finishable =
    (λ i. pass_each (map is_finishable (is_agg i)) (is_node i)) ∙ and_from (is_finishable agg node) _ finishable refl

-- whether an aggregation is made for the mapping, opened by one level
pub agg_fits-level : (top : Bool) (agg : Agg) → agg_fits sample_mapping top 0 agg ≡ is_made sample_mapping (out-Agg agg).kind (map (fold_agg (made_at sample_mapping)) (out-Agg agg).children) top 0
agg_fits-level top agg = ap (λ (m : Made). m.fits top 0) (fold_agg-level (made_at sample_mapping) agg)

-- an aggregation with none below it
pub alone-made : (top : Bool) (agg : Agg) (k : Kind) → (out-Agg agg).kind ≡ k → (out-Agg agg).children ≡ [] → is_made sample_mapping k [] top 0 ≡ true → agg_fits sample_mapping top 0 agg ≡ true
alone-made top agg k is_kind alone fits =
    agg_fits-level top agg ∙ (λ i. is_made sample_mapping (is_kind i) (map (fold_agg (made_at sample_mapping)) (alone i)) top 0) ∙ fits

pub first-made : (descending : Bool) (agg : Agg) → IsFirstByCount descending (out-Agg agg) → agg_fits sample_mapping true 0 agg ≡ true
first-made descending agg is = alone-made true agg (first_by_count descending) is.0 is.1 refl

abbrev sample : ℕ → ℕ → ℕ → ℕ → ℕ → Node
sample ca va cb vb cut = Keyed (returned_bucket (codes "a") ca va ∷ returned_bucket (codes "b") cb vb ∷ []) (va + vb) 2 cut

fits : (ca va cb vb cut : ℕ) → ca < 2 ^ 32 → va < 2 ^ 32 → cb < 2 ^ 32 → vb < 2 ^ 32 → cut < 2 ^ 32
    → (nat_lt (cut + (0 + ca + cb)) (2 ^ 64) && (nat_lt (va + vb) (2 ^ 63) && (nat_le va (va + vb) && (nat_le vb (va + vb) && true)))) ≡ true
fits ca va cb vb cut a b c d e =
    let all : cut + (0 + ca + cb) < 2 ^ 64 = omega arith in
    let error : va + vb < 2 ^ 63 = omega arith in
    let first : va ≤ va + vb = omega arith in
    let second : vb ≤ va + vb = omega arith in
    and_from _ _ (lt-ltb _ _ all) (and_from _ _ (lt-ltb _ _ error) (and_from _ _ (le-leb _ _ first) (and_from _ _ (le-leb _ _ second) refl)))

at_first : (descending : Bool) (ca va cb vb cut : ℕ) → ca < 2 ^ 32 → va < 2 ^ 32 → cb < 2 ^ 32 → vb < 2 ^ 32 → cut < 2 ^ 32 → is_finishable_at [] (first_by_count descending) (sample ca va cb vb cut) ≡ true
unfolding computing
at_first descending ca va cb vb cut a b c d e = fits ca va cb vb cut a b c d e

pub sample_can_finish : (descending : Bool) (agg : Agg) (ca va cb vb cut : ℕ) → IsFirstByCount descending (out-Agg agg) → ca < 2 ^ 32 → va < 2 ^ 32 → cb < 2 ^ 32 → vb < 2 ^ 32 → cut < 2 ^ 32
    → is_finishable agg (Keyed (returned_bucket (codes "a") ca va ∷ returned_bucket (codes "b") cb vb ∷ []) (va + vb) 2 cut) ≡ true
sample_can_finish descending agg ca va cb vb cut is a b c d e =
    is_finishable-level agg (sample ca va cb vb cut)
    ∙ (λ i. is_finishable_at (map is_finishable (is.1 i)) (is.0 i) (sample ca va cb vb cut)) ∙ at_first descending ca va cb vb cut a b c d e
