-- Whether each number that an answer prints lies in signed 64 bits.
use Rattle.std.specs.Prelude.{ℕ, ℤ, ◌^◌, ◌-ℤ◌, pos, ◌&&◌, int_le, int_lt, Bool, true, if◌then◌else◌, List, [], ◌∷◌, ◌++◌, map, flat_map, Option, Some, None, codes}
use Rattle.std.specs.List.{list_all}
use Rattle.agg_model.specs.declared.key.Key.{Key}
use Rattle.agg_model.specs.declared.key.Key.TheOpen.{Key-F}
use Rattle.agg_model.specs.declared.answer.BucketAnswer.{BucketAnswer, out-BucketAnswer}
use Rattle.agg_model.specs.declared.answer.NodeAnswer.{NodeAnswer, out-NodeAnswer}
use Rattle.agg_model.specs.declared.answer.Answer.{Answer}
use Rattle.agg_model.specs.declared.aggregation.Kind.{Kind}
use Rattle.agg_model.specs.Options.{Measure}
use Rattle.agg_evaluation.specs.Profile.{Form, profile}
use Rattle.agg_model.specs.declared.aggregation.Agg.{Agg}
use Rattle.agg_model.specs.declared.aggregation.Search.{Search}
use Rattle.agg_evaluation.specs.Folds.{fold_agg, fold_key}

abbrev pub is_in_range : ℤ → Bool
is_in_range n = int_le (pos 0 -ℤ pos (2 ^ 63)) n && int_lt n (pos (2 ^ 63))

-- the numbers of a key; in a composite key those of its parts
abbrev pub part_in_range : Key-F Bool → Bool
part_in_range Key-F.Null = true
part_in_range (Key-F.Whole n) = is_in_range n
part_in_range (Key-F.Flag b) = true
part_in_range (Key-F.Word w) = true
part_in_range (Key-F.Fixed n) = true
part_in_range (Key-F.Many parts) = list_all (λ b. b) parts

abbrev pub key_in_range : Key → Bool
key_in_range = fold_key part_in_range

-- The paths of the numbers out of range in an answer to one aggregation, in the order in which they print: its sum, then
-- bucket after bucket, the key before the children.
abbrev pub Checker : Type 0
Checker = NodeAnswer → List (List ℕ)

abbrev pub check_each : List Checker → List NodeAnswer → List (List ℕ)
check_each [] nodes = []
check_each (c ∷ cs) [] = []
check_each (c ∷ cs) (n ∷ ns) = c n ++ check_each cs ns

abbrev pub unless : Bool → List ℕ → List (List ℕ)
unless holds path = if holds then [] else path ∷ []

-- a sum prints under `sum` and `avg`
abbrev pub measure_in_range : Measure → ℤ → Bool
measure_in_range Measure.sum n = is_in_range n
measure_in_range Measure.least n = true
measure_in_range Measure.greatest n = true
measure_in_range Measure.average n = is_in_range n
measure_in_range Measure.value_count n = true

abbrev pub sum_in_range : Kind → ℤ → Bool
sum_in_range k n = elim (profile k).form [
  | Form.terms t ↦ true
  | Form.histogram h ↦ true
  | Form.pages sources size after ↦ true
  | Form.fixed ks ↦ true
  | Form.number o ↦ measure_in_range o.measure n
]

abbrev pub check_bucket : List Checker → BucketAnswer → List (List ℕ)
check_bucket children b = unless (key_in_range (out-BucketAnswer b).key) [] ++ check_each children (out-BucketAnswer b).children

-- a path is the names on the way, each behind a slash
abbrev pub checker : Agg → Checker
checker = fold_agg (λ a n.
    map (λ path. codes "/" ++ (a.name ++ path))
    (unless (sum_in_range a.kind (out-NodeAnswer n).metric.sum) [] ++ flat_map (check_bucket a.children) (out-NodeAnswer n).buckets))

abbrev pub first_path : List (List ℕ) → Option (List ℕ)
first_path [] = None
first_path (path ∷ paths) = Some path

-- the path of the first number out of range
abbrev pub out_of_range : Search → Answer → Option (List ℕ)
out_of_range search answer = first_path (check_each (map checker search.aggs) answer.nodes)
