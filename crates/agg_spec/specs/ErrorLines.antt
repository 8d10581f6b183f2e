-- The lines of refused searches: a breaker's exception ('Circuit breaker settings'), and the refusals of a body.
use Rattle.std.specs.Prelude.{ℕ, List, [], ◌∷◌, ◌++◌, map, decimal, codes}
use Rattle.serde_json.specs.Data.{Data, string}
use Rattle.serde_json.specs.Written.{compact_text}
use Rattle.agg_model.specs.declared.breaker.Which.{Which}
use Rattle.agg_model.specs.declared.breaker.Which.TheVariants.{Request, Fielddata, Inflight, Parent}
use Rattle.agg_model.specs.declared.breaker.Tripped.{Tripped}
use Rattle.agg_model.specs.declared.outcome.Failure.{Failure}
use Rattle.agg_model.specs.declared.outcome.Refused.{Refused}
use Rattle.agg_model.specs.declared.outcome.Refused.TheVariants as refused
use Rattle.agg_spec.specs.Json.{Member, object_of, array_of, count}

abbrev pub error_line : List Member → ℕ → List ℕ
error_line members status = compact_text (object_of ((codes "error", object_of members) ∷ (codes "status", count status) ∷ []))

abbrev pub text_member : List ℕ → List ℕ → Member
text_member name text = (name, string text)

abbrev pub breaker_name : Which → List ℕ
breaker_name Request = codes "request"
breaker_name Fielddata = codes "fielddata"
breaker_name Inflight = codes "inflight_requests"
breaker_name Parent = codes "parent"

-- whether a later try can help
abbrev pub durability : Which → List ℕ
durability Request = codes "TRANSIENT"
durability Fielddata = codes "PERMANENT"
durability Inflight = codes "TRANSIENT"
durability Parent = codes "TRANSIENT"

abbrev pub breaker_reason : Tripped → List ℕ → List ℕ
breaker_reason t label =
    codes "[" ++ (breaker_name t.which ++ (codes "] Data too large, data for [" ++ (label ++ (codes "] would be [" ++ (decimal t.wanted
    ++ (codes "b], which is larger than the limit of [" ++ (decimal t.limit ++ codes "b]")))))))

-- The members of a refused charge. The label says what the bytes were for: `search` or `columns`.
abbrev pub breaker_members : Tripped → List ℕ → List Member
breaker_members t label =
    (codes "bytes_limit", count t.limit)
    ∷ (codes "bytes_wanted", count t.wanted)
    ∷ text_member (codes "durability") (durability t.which)
    ∷ text_member (codes "reason") (breaker_reason t label)
    ∷ text_member (codes "type") (codes "circuit_breaking_exception") ∷ []

-- a shard that failed, and the refused charge of its task
abbrev pub failure_value : Failure → Data
failure_value f = object_of ((codes "reason", object_of (breaker_members f.tripped (codes "search"))) ∷ (codes "shard", count f.shard) ∷ [])

-- the failures, where there are some
abbrev pub failures_member : List Failure → List Member
failures_member [] = []
failures_member (f ∷ rest) = (codes "failures", array_of (map failure_value (f ∷ rest))) ∷ []

-- the line of a refused charge
abbrev pub exception_line : Tripped → List ℕ → ℕ → List Failure → List ℕ
exception_line t label status failures = error_line (breaker_members t label ++ failures_member failures) status

abbrev pub refusal_members : Refused → List Member
refusal_members refused.NotJson = text_member (codes "reason") (codes "the body is not JSON") ∷ text_member (codes "type") (codes "parsing_exception") ∷ []
refusal_members (refused.Bad code path) =
    (codes "code", count code) ∷ text_member (codes "path") path
    ∷ text_member (codes "reason") (codes "bad request") ∷ text_member (codes "type") (codes "parsing_exception") ∷ []
refusal_members (refused.TooManyBuckets n max) =
    (codes "count", count n) ∷ (codes "max_buckets", count max)
    ∷ text_member (codes "reason") (codes "too many buckets") ∷ text_member (codes "type") (codes "too_many_buckets_exception") ∷ []
refusal_members (refused.SumRange path) =
    text_member (codes "path") path ∷ text_member (codes "reason") (codes "a number is outside 64 bits")
    ∷ text_member (codes "type") (codes "number_range_exception") ∷ []
refusal_members refused.TooWide =
    text_member (codes "reason") (codes "the search is too wide") ∷ text_member (codes "type") (codes "too_wide_exception") ∷ []

abbrev pub refusal_line : Refused → List Failure → List ℕ
refusal_line r failures = error_line (refusal_members r ++ failures_member failures) 400
