-- The buckets of a histogram: those with few documents are left out, or the gaps between them are filled ('Histogram
-- aggregation', 'Date histogram aggregation', minimum document count, `extended_bounds`, `hard_bounds`).
use Rattle.std.specs.Prelude.{ℕ, ℤ, ◌+◌, ◌==◌, ◌&&◌, nat_le, int_le, Bool, true, if◌then◌else◌, List, [], ◌∷◌, ◌++◌, map, filter, filter_map, Option, Some, None, is_some, option_map, option_to_list, unwrap_or, find}
use Rattle.std.specs.List.{reduce, range_with_len}
use Rattle.std.specs.Int.{int_min, int_max}
use Rattle.agg_model.specs.declared.key.Key.{Key}
use Rattle.agg_model.specs.declared.key.Key.TheVariants.{Null, Whole, Flag, Word, Fixed, Many'}
use Rattle.agg_model.specs.declared.partial.Bucket.{Bucket}
use Rattle.agg_model.specs.declared.aggregation.Bounds.{Bounds}
use Rattle.agg_model.specs.declared.aggregation.Spacing.{Spacing}
use Rattle.agg_evaluation.specs.KeyOrder.{key_eq}
use Rattle.agg_evaluation.specs.Orders.{bucket_key, bucket_count}
use Rattle.agg_evaluation.specs.Spacings.{interval_start, start_after, steps_between}
use Rattle.agg_evaluation.specs.Keys.{is_between}

abbrev pub number_of_key : Key → Option ℤ
number_of_key Null = None
number_of_key (Whole n) = Some n
number_of_key (Flag b) = None
number_of_key (Word w) = None
number_of_key (Fixed n) = None
number_of_key (Many' n parts) = None

-- the keys from one to a later one: after each the start of the next interval
abbrev pub starts_between : Spacing → Option ℤ → Option ℤ → List ℤ
starts_between spacing (Some least) (Some greatest) =
    if int_le least greatest then map (start_after spacing least) (range_with_len 0 (steps_between spacing least greatest + 1)) else []
starts_between spacing _ _ = []

-- the least of the numbers and of the key of the lower bound
abbrev pub least_key : Spacing → Bounds → List ℤ → Option ℤ
least_key spacing extended ns = reduce int_min (ns ++ option_to_list (option_map (interval_start spacing) extended.min))

-- the greatest of the numbers and of the key of the upper bound
abbrev pub greatest_key : Spacing → Bounds → List ℤ → Option ℤ
greatest_key spacing extended ns = reduce int_max (ns ++ option_to_list (option_map (interval_start spacing) extended.max))

-- where no bucket has a document, there are buckets only where both bounds are given
abbrev pub has_buckets : Bounds → List ℤ → Bool
has_buckets extended [] = is_some extended.min && is_some extended.max
has_buckets extended (n ∷ ns) = true

-- All keys from the least to the greatest. Each bound of `extended_bounds` widens its own side alone; `hard_bounds` cut keys.
abbrev pub filled_keys : Spacing → Bounds → Bounds → List ℤ → List Key
filled_keys spacing extended hard ns =
    if has_buckets extended ns then
    filter (is_between hard) (map Whole (starts_between spacing (least_key spacing extended ns) (greatest_key spacing extended ns)))
    else []

-- the bucket of the key, or an empty one
abbrev pub bucket_at : (Key → Bucket) → List Bucket → Key → Bucket
bucket_at empty buckets key = unwrap_or (find (λ b. key_eq key (bucket_key b)) buckets) (empty key)

-- the buckets with enough documents
abbrev pub frequent : ℕ → List Bucket → List Bucket
frequent min_doc_count buckets = filter (λ b. nat_le min_doc_count (bucket_count b)) buckets

-- with a minimum of 0 the gaps are filled, with a higher one buckets below it are left out
abbrev pub filled : (Key → Bucket) → Spacing → ℕ → Bounds → Bounds → List Bucket → List Bucket
filled empty spacing min_doc_count extended hard buckets =
    if min_doc_count == 0 then
    map (bucket_at empty buckets) (filled_keys spacing extended hard (filter_map (λ b. number_of_key (bucket_key b)) buckets))
    else frequent min_doc_count buckets
