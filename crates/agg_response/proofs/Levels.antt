-- Folds of aggregations and of keys, one level at a time.
use Rattle.std.specs.Prelude.{◌≡◌, refl, ◌&&◌, List, [], ◌∷◌, ◌++◌, map, flat_map, codes}
use Rattle.std.specs.List.{list_all}
use Rattle.std.proofs.Common.{sym, ◌∙◌, ap}
use Rattle.agg_evaluation.proofs.AggFolds.{fold_agg-level}
use Rattle.serde_json.specs.Data.{Data}
use Rattle.agg_model.specs.declared.key.Key.{Key}
use Rattle.agg_model.specs.declared.key.Key.TheVariants as key
use Rattle.agg_model.specs.declared.aggregation.Kind.{Kind}
use Rattle.agg_model.specs.declared.aggregation.Agg.{Agg, out-Agg}
use Rattle.agg_model.specs.declared.mapping.Mapping.{Mapping}
use Rattle.agg_evaluation.proofs.FoldLaws.{fold_key-Many}
use Rattle.agg_model.specs.declared.answer.NodeAnswer.{NodeAnswer, out-NodeAnswer}
use Rattle.agg_spec.specs.AnswerTree.{Printer, ZonedNote, printer, tree_at}
use Rattle.agg_spec.specs.RangeCheck.{Checker, checker, check_bucket, unless, sum_in_range, key_in_range, part_in_range}

all_true : (ks : List Key) → list_all (λ b. b) (map key_in_range ks) ≡ list_all key_in_range ks
all_true [] = refl
all_true (k ∷ ks) = ap (λ b. key_in_range k && b) (all_true ks)

pub key_in_range-Many : (ks : List Key) → key_in_range (key.Many ks) ≡ list_all key_in_range ks
key_in_range-Many ks = fold_key-Many part_in_range ks ∙ all_true ks

pub printer-level : (m : Mapping) (a : Agg) (notes : List ZonedNote) (n : NodeAnswer)
    → printer m a notes n ≡ tree_at m (map (printer m) (out-Agg a).children) (out-Agg a).kind notes (out-NodeAnswer n)
printer-level m a notes n = ap (λ (p : Printer). p notes n) (fold_agg-level (λ x ns y. tree_at m x.children x.kind ns (out-NodeAnswer y)) a)

pub checker-level : (a : Agg) (n : NodeAnswer) → checker a n ≡ map (λ path. codes "/" ++ ((out-Agg a).name ++ path))
    (unless (sum_in_range (out-Agg a).kind (out-NodeAnswer n).metric.sum) [] ++ flat_map (check_bucket (map checker (out-Agg a).children))
    (out-NodeAnswer n).buckets)
checker-level a n = ap (λ (p : Checker). p n) (fold_agg-level (λ x m. map (λ path. codes "/" ++ (x.name ++ path))
    (unless (sum_in_range x.kind (out-NodeAnswer m).metric.sum) [] ++ flat_map (check_bucket x.children) (out-NodeAnswer m).buckets)) a)

-- a tree that depends on the kind alone is the answer's tree where the kind is known
pub printer-kind : (m : Mapping) (a : Agg) (notes : List ZonedNote) (n : NodeAnswer) (k : Kind) (tree : Kind → Data) → (out-Agg a).kind ≡ k
    → tree k ≡ tree_at m (map (printer m) (out-Agg a).children) k notes (out-NodeAnswer n) → tree (out-Agg a).kind ≡ printer m a notes n
printer-kind m a notes n k tree e same =
    ap tree e ∙ same ∙ sym (ap (λ j. tree_at m (map (printer m) (out-Agg a).children) j notes (out-NodeAnswer n)) e) ∙ sym (printer-level m a notes n)
