-- Entries `key=value` of the option `-E` (Elasticsearch Reference 8, 'Configuring Elasticsearch', 'Circuit breaker settings').
use Rattle.std.specs.Prelude.{ℕ, ◌==◌, List, Option, Some, None, Bool, false, if◌then◌else◌, codes, is_some, unwrap_or, option_and_then, fold}
use Rattle.std.specs.List.{before_first, after_first}
use Rattle.std.specs.Str.{bytes_eq}
use Rattle.agg_model.specs.declared.limits.TheConstants.{DEFAULT_HEAP_SIZE, DEFAULT_MAX_BUCKETS, GREATEST_MAX_BUCKETS}
use Rattle.agg_model.specs.declared.breaker.Limits.{Limits}
use Rattle.agg_settings.specs.Numbers.{number_in}
use Rattle.agg_settings.specs.Sizes.{size_from}
use Rattle.agg_settings.specs.Limits.{amount_of, bytes_in}
use Rattle.agg_settings.specs.declared.amount.Amount.TheVariants.{Percent}

-- the key of an entry stands before the first `=` (61); without one all is the key, and the value is empty
abbrev pub key_of : List ℕ → List ℕ
key_of entry = before_first (λ b. b == 61) entry

abbrev pub value_of : List ℕ → List ℕ
value_of entry = after_first (λ b. b == 61) entry

-- a size from 1b to 1pb
abbrev pub heap_of : List ℕ → Option ℕ
heap_of value = size_from 1 value

-- from 1 to 1,000,000
abbrev pub buckets_of : List ℕ → Option ℕ
buckets_of value = number_in 1 GREATEST_MAX_BUCKETS value

-- the key is one of these, and the value one that it takes
unfoldable pub is_taken : List ℕ → List ℕ → Bool
is_taken key value =
    if bytes_eq key (codes "heap_size") then is_some (heap_of value) else (
    if bytes_eq key (codes "indices.breaker.total.limit") then is_some (amount_of value) else (
    if bytes_eq key (codes "indices.breaker.request.limit") then is_some (amount_of value) else (
    if bytes_eq key (codes "indices.breaker.fielddata.limit") then is_some (amount_of value) else (
    if bytes_eq key (codes "network.breaker.inflight_requests.limit") then is_some (amount_of value) else (
    if bytes_eq key (codes "indices.breaker.total.use_real_memory") then bytes_eq value (codes "false") else (
    if bytes_eq key (codes "search.max_buckets") then is_some (buckets_of value) else false))))))

abbrev pub is_entry : List ℕ → Bool
is_entry entry = is_taken (key_of entry) (value_of entry)

abbrev pub newer : List ℕ → Option (List ℕ) → List ℕ → Option (List ℕ)
newer key before entry = if bytes_eq (key_of entry) key then Some (value_of entry) else before

-- the value of the last entry with this key
unfoldable pub last_value : List ℕ → List (List ℕ) → Option (List ℕ)
last_value key entries = fold (newer key) None entries

-- the last `heap_size`, or 1gb
unfoldable pub heap_in : List (List ℕ) → ℕ
heap_in entries = unwrap_or (option_and_then heap_of (last_value (codes "heap_size") entries)) DEFAULT_HEAP_SIZE

-- the last `search.max_buckets`, or 65,536
unfoldable pub max_buckets_in : List (List ℕ) → ℕ
max_buckets_in entries = unwrap_or (option_and_then buckets_of (last_value (codes "search.max_buckets") entries)) DEFAULT_MAX_BUCKETS

-- the bytes of the last entry with this key, or this percentage of the heap
unfoldable pub limit_in : List ℕ → ℕ → ℕ → List (List ℕ) → ℕ
limit_in key percent heap entries =
    bytes_in heap (unwrap_or (option_and_then amount_of (last_value key entries)) (Percent percent))

-- percentages are of the last `heap_size`, wherever it stands
unfoldable pub limits_in : List (List ℕ) → Limits
limits_in entries =
    let heap = heap_in entries in
    record {
      request = limit_in (codes "indices.breaker.request.limit") 60 heap entries;
      fielddata = limit_in (codes "indices.breaker.fielddata.limit") 40 heap entries;
      inflight = limit_in (codes "network.breaker.inflight_requests.limit") 100 heap entries;
      parent = limit_in (codes "indices.breaker.total.limit") 70 heap entries;
    }
