-- What pipelines make of buckets, computed: sums, changes, extremes, null values, ties, empty lists, and the ends of 64 bits.
use Rattle.std.specs.Prelude.{◌≡◌, refl, ℕ, ℤ, pos, negsuc, ◌-◌, ◌^◌, true, false, List, [], ◌∷◌, map, Option, Some, None, codes}
use Rattle.agg_model.specs.declared.key.Key.{Key}
use Rattle.agg_model.specs.declared.key.Key.TheVariants as key
use Rattle.agg_model.specs.declared.answer.BucketAnswer.{BucketAnswer, out-BucketAnswer, roll-BucketAnswer}
use Rattle.agg_model.specs.declared.answer.NodeAnswer.{NodeAnswer, roll-NodeAnswer}
use Rattle.agg_model.specs.declared.aggregation.Kind.{Kind}
use Rattle.agg_model.specs.declared.aggregation.Kind.TheVariants as kind
use Rattle.agg_model.specs.declared.pipeline.PipePath.TheVariants as path
use Rattle.agg_model.specs.declared.pipeline.PipeOrder.{PipeOrder}
use Rattle.agg_model.specs.declared.pipeline.Note.{Note}
use Rattle.list_laws.specs.Sorting.{sorted}
use Rattle.agg_spec.specs.Final.{no_metric}
use Rattle.agg_spec.specs.Notes.{note_in_range}
use Rattle.agg_spec.specs.Pipelines.{values_of, cumulative_sums, derivatives, sum_of_values, least_value, greatest_value, keys_with, bucket_sort_cmp, cut_from}
use Rattle.agg_spec.proofs.Computing.{computing}

-- 1, 0, 1, 3
abbrev counts : List (Option ℤ)
counts = Some (pos 1) ∷ Some (pos 0) ∷ Some (pos 1) ∷ Some (pos 3) ∷ []

sums_of_counts : cumulative_sums counts ≡ pos 1 ∷ pos 1 ∷ pos 2 ∷ pos 5 ∷ []
unfolding computing
sums_of_counts = refl

-- the first is absent
changes_of_counts : derivatives counts ≡ None ∷ Some (negsuc 0) ∷ Some (pos 1) ∷ Some (pos 2) ∷ []
unfolding computing
changes_of_counts = refl

changes_of_sums : derivatives (map Some (cumulative_sums counts)) ≡ None ∷ Some (pos 0) ∷ Some (pos 1) ∷ Some (pos 3) ∷ []
unfolding computing
changes_of_sums = refl

-- 1, null, null, 5, -2
abbrev gaps : List (Option ℤ)
gaps = Some (pos 1) ∷ None ∷ None ∷ Some (pos 5) ∷ Some (negsuc 1) ∷ []

-- null adds nothing
sums_past_null : cumulative_sums gaps ≡ pos 1 ∷ pos 1 ∷ pos 1 ∷ pos 6 ∷ pos 4 ∷ []
unfolding computing
sums_past_null = refl

-- absent on both sides of null
changes_past_null : derivatives gaps ≡ None ∷ None ∷ None ∷ None ∷ Some (negsuc 6) ∷ []
unfolding computing
changes_past_null = refl

sum_past_null : sum_of_values gaps ≡ pos 4
unfolding computing
sum_past_null = refl

least_past_null : least_value gaps ≡ Some (negsuc 1)
unfolding computing
least_past_null = refl

greatest_past_null : greatest_value gaps ≡ Some (pos 5)
unfolding computing
greatest_past_null = refl

nothing_but_null : least_value (None ∷ None ∷ []) ≡ None
unfolding computing
nothing_but_null = refl

sum_of_no_bucket : sum_of_values [] ≡ pos 0
unfolding computing
sum_of_no_bucket = refl

least_of_no_bucket : least_value [] ≡ None
unfolding computing
least_of_no_bucket = refl

sums_of_no_bucket : cumulative_sums [] ≡ []
unfolding computing
sums_of_no_bucket = refl

changes_of_no_bucket : derivatives [] ≡ []
unfolding computing
changes_of_no_bucket = refl

-- the answer of `min`: a number, or null
abbrev least_node : Option ℤ → NodeAnswer
least_node value = roll-NodeAnswer (record {
  name = codes "m";
  buckets = [];
  error = pos 0;
  other = 0;
  metric = record no_metric { least = value };
})

-- a bucket of this key and count, below which stands such a `min`
abbrev bucket : ℤ → ℕ → Option ℤ → BucketAnswer
bucket k count value = roll-BucketAnswer (record { key = key.Whole k; count = count; error = None; children = least_node value ∷ [] })

abbrev kinds : List Kind
kinds = kind.Min 1 None ∷ []

-- counts 2, 0, 2, 1, and the least values 7, null, 3, 3
abbrev four_buckets : List BucketAnswer
four_buckets = bucket (negsuc 9) 2 (Some (pos 7)) ∷ bucket (pos 0) 0 None ∷ bucket (pos 10) 2 (Some (pos 3)) ∷ bucket (pos 20) 1 (Some (pos 3)) ∷ []

values_of_a_child : values_of kinds (path.Child 0) four_buckets ≡ Some (pos 7) ∷ None ∷ Some (pos 3) ∷ Some (pos 3) ∷ []
unfolding computing
values_of_a_child = refl

-- total on all inputs
no_such_child : values_of kinds (path.Child 1) four_buckets ≡ None ∷ None ∷ None ∷ None ∷ []
unfolding computing
no_such_child = refl

-- an empty bucket counts as 0
least_count_at_the_gap :
    keys_with kinds path.Count (least_value (values_of kinds path.Count four_buckets)) four_buckets ≡ key.Whole (pos 0) ∷ []
unfolding computing
least_count_at_the_gap = refl

-- all that have the value, in the order of the buckets
ties :
    keys_with kinds path.Count (greatest_value (values_of kinds path.Count four_buckets)) four_buckets
    ≡ key.Whole (negsuc 9) ∷ key.Whole (pos 10) ∷ []
unfolding computing
ties = refl

-- a bucket whose value is null is none of them
ties_beside_null :
    keys_with kinds (path.Child 0) (least_value (values_of kinds (path.Child 0) four_buckets)) four_buckets
    ≡ key.Whole (pos 10) ∷ key.Whole (pos 20) ∷ []
unfolding computing
ties_beside_null = refl

null_has_no_keys : keys_with kinds (path.Child 0) None four_buckets ≡ []
unfolding computing
null_has_no_keys = refl

abbrev sorted_keys : List PipeOrder → List Key
sorted_keys orders = map (λ b. (out-BucketAnswer b).key) (sorted (bucket_sort_cmp kinds orders) four_buckets)

ascending_with_null_last :
    sorted_keys (record { path = path.Child 0; descending = false } ∷ [])
    ≡ key.Whole (pos 10) ∷ key.Whole (pos 20) ∷ key.Whole (negsuc 9) ∷ key.Whole (pos 0) ∷ []
unfolding computing
ascending_with_null_last = refl

descending_with_null_last :
    sorted_keys (record { path = path.Child 0; descending = true } ∷ [])
    ≡ key.Whole (negsuc 9) ∷ key.Whole (pos 10) ∷ key.Whole (pos 20) ∷ key.Whole (pos 0) ∷ []
unfolding computing
descending_with_null_last = refl

orders_in_turn :
    sorted_keys (record { path = path.Count; descending = true } ∷ record { path = path.Child 0; descending = false } ∷ [])
    ≡ key.Whole (pos 10) ∷ key.Whole (negsuc 9) ∷ key.Whole (pos 20) ∷ key.Whole (pos 0) ∷ []
unfolding computing
orders_in_turn = refl

without_an_order : sorted_keys [] ≡ key.Whole (negsuc 9) ∷ key.Whole (pos 0) ∷ key.Whole (pos 10) ∷ key.Whole (pos 20) ∷ []
unfolding computing
without_an_order = refl

cut_in_the_middle : cut_from {A = ℕ} 1 (Some 2) (1 ∷ 2 ∷ 3 ∷ 4 ∷ []) ≡ 2 ∷ 3 ∷ []
unfolding computing
cut_in_the_middle = refl

cut_without_a_size : cut_from {A = ℕ} 3 None (1 ∷ 2 ∷ 3 ∷ 4 ∷ []) ≡ 4 ∷ []
unfolding computing
cut_without_a_size = refl

cut_to_none : cut_from {A = ℕ} 0 (Some 0) (1 ∷ 2 ∷ []) ≡ []
unfolding computing
cut_to_none = refl

cut_behind_all : cut_from {A = ℕ} 5 (Some 2) (1 ∷ 2 ∷ []) ≡ []
unfolding computing
cut_behind_all = refl

-- a note of this value
abbrev note : Option ℤ → Note
note value = record { at = []; name = codes "p"; value = value; keys = [] }

greatest_of_64_bits : note_in_range (note (Some (pos (2 ^ 63 - 1)))) ≡ true
unfolding computing
greatest_of_64_bits = refl

above_64_bits : note_in_range (note (Some (pos (2 ^ 63)))) ≡ false
unfolding computing
above_64_bits = refl

least_of_64_bits : note_in_range (note (Some (negsuc (2 ^ 63 - 1)))) ≡ true
unfolding computing
least_of_64_bits = refl

below_64_bits : note_in_range (note (Some (negsuc (2 ^ 63)))) ≡ false
unfolding computing
below_64_bits = refl

null_prints : note_in_range (note None) ≡ true
unfolding computing
null_prints = refl
