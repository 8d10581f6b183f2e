-- The outcome of a search by the whole reduction: all shards that did not fail, in order, with no breaker and no memory limit
-- ('Search API').
use Rattle.std.specs.Prelude.{ℕ, nat_lt, true, false, List, [], ◌∷◌, map, length, Option, Some, None, Result, Ok, Err}
use Rattle.std.specs.Option.{option_or}
use Rattle.agg_model.specs.declared.answer.Answer.{Answer}
use Rattle.agg_model.specs.declared.partial.Partial.{Partial}
use Rattle.agg_model.specs.declared.aggregation.Search.{Search}
use Rattle.agg_model.specs.declared.outcome.Failure.{Failure}
use Rattle.agg_model.specs.declared.outcome.Refused.{Refused}
use Rattle.agg_model.specs.declared.outcome.Refused.TheVariants as refused
use Rattle.agg_model.specs.declared.outcome.Outcome.{Outcome}
use Rattle.agg_model.specs.declared.outcome.Outcome.TheVariants as ended
use Rattle.agg_evaluation.specs.Shard.{shard_answer}
use Rattle.agg_evaluation.specs.Whole.{whole}
use Rattle.agg_evaluation.specs.Ceiling.{search_ceiling}
use Rattle.agg_spec.specs.Index.{Index, field_kinds, rows_in}
use Rattle.agg_spec.specs.Failures.{unfailed, total_failure}
use Rattle.agg_spec.specs.Final.{final}
use Rattle.agg_spec.specs.BucketCount.{total_buckets}
use Rattle.agg_spec.specs.RangeCheck.{out_of_range}
use Rattle.agg_spec.specs.Notes.{piped, pipe_out_of_range}
use Rattle.agg_spec.specs.Response.{response_line}

-- a body as it was read: its length in bytes, and the search or why it is none
pub record Request : Type 0 where
  pub bytes : ℕ
  pub search : Result Search Refused

-- the answers of the shards of these numbers
abbrev pub shard_answers : Index → Search → List ℕ → List Partial
shard_answers index search shards = map (λ shard. shard_answer search (rows_in index shard)) shards

-- their whole
abbrev pub whole_of : Index → Search → List ℕ → Partial
whole_of index search shards = whole search (shard_answers index search shards)

-- none where no shard is left
abbrev pub whole_unless_none : Index → Search → List ℕ → Option Partial
whole_unless_none index search [] = None
whole_unless_none index search (shard ∷ left) = Some (whole_of index search (shard ∷ left))

abbrev pub answer_of : Index → Search → List ℕ → Answer
answer_of index search shards = final search (whole_of index search shards)

-- the line, unless a number lies outside 64 bits
abbrev pub line_in_range : Option (List ℕ) → List ℕ → Outcome
line_in_range None line = ended.Response line
line_in_range (Some path) line = ended.Refused (refused.SumRange path)

-- the path of the first number out of range: of the answer itself, or else of a pipeline
abbrev pub wide_path : Search → Answer → Option (List ℕ)
wide_path search answer = option_or (out_of_range search answer) (pipe_out_of_range search answer)

-- what an answer prints with what its pipelines say, unless it has too many buckets: those count before any is cut
abbrev pub answer_outcome : Index → ℕ → Search → List Failure → Answer → Outcome
answer_outcome index max_buckets search failures answer =
    elim (nat_lt max_buckets (total_buckets search answer)) [
      | true ↦ ended.Refused (refused.TooManyBuckets (total_buckets search answer) max_buckets)
      | false ↦ line_in_range (wide_path search answer) (response_line search index.mapping (piped search answer) (length index.shards) failures)
    ]

-- the answer of the shards that are left, or the refusal where all failed
abbrev pub outcome_of_shards : Index → ℕ → Search → List Failure → List ℕ → Outcome
outcome_of_shards index max_buckets search failures left =
    elim (total_failure failures left) [
      | Some t ↦ ended.Tripped t
      | None ↦ answer_outcome index max_buckets search failures (answer_of index search left)
    ]

-- a search that is too wide is not begun
abbrev pub search_outcome : Index → ℕ → Search → List Failure → Outcome
search_outcome index max_buckets search failures =
    elim (search_ceiling (field_kinds index) search index.shards) [
      | None ↦ ended.Refused refused.TooWide
      | Some ceiling ↦ outcome_of_shards index max_buckets search failures (unfailed index failures)
    ]

abbrev pub request_outcome : Index → ℕ → Result Search Refused → List Failure → Outcome
request_outcome index max_buckets (Err r) failures = ended.Refused r
request_outcome index max_buckets (Ok search) failures = search_outcome index max_buckets search failures

abbrev pub outcome : Index → ℕ → Request → List Failure → Outcome
outcome index max_buckets request failures = request_outcome index max_buckets request.search failures

-- the search that tasks run for: none where the body is refused, or where the search is too wide
abbrev pub running : Result Search Refused → Outcome → Option Search
running (Err r) answer = None
running (Ok search) (ended.Response line) = Some search
running (Ok search) (ended.Refused refused.NotJson) = Some search
running (Ok search) (ended.Refused (refused.Bad code path)) = Some search
running (Ok search) (ended.Refused (refused.TooManyBuckets n max)) = Some search
running (Ok search) (ended.Refused (refused.SumRange path)) = Some search
running (Ok search) (ended.Refused refused.TooWide) = None
running (Ok search) (ended.Tripped t) = Some search
running (Ok search) ended.Memory = Some search

abbrev pub running_search : Index → ℕ → Request → Option Search
running_search index max_buckets request = running request.search (outcome index max_buckets request [])

abbrev pub response_length : Outcome → ℕ
response_length (ended.Response line) = length line
response_length (ended.Refused r) = 0
response_length (ended.Tripped t) = 0
response_length ended.Memory = 0
