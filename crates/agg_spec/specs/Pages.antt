-- The pages of a composite aggregation, one search after another ('Composite aggregation', pagination: `after` and `after_key`).
use Rattle.std.specs.Prelude.{ℕ, Bool, true, false, List, [], ◌∷◌, map, Option, Some, None, option_map, Result, Ok, Err}
use Rattle.std.specs.List.{last_or}
use Rattle.agg_model.specs.declared.key.Key.{Key}
use Rattle.agg_model.specs.declared.answer.BucketAnswer.{out-BucketAnswer}
use Rattle.agg_model.specs.declared.answer.NodeAnswer.{NodeAnswer, out-NodeAnswer}
use Rattle.agg_model.specs.declared.aggregation.Kind.{Kind}
use Rattle.agg_model.specs.declared.aggregation.Kind.TheVariants as kind
use Rattle.agg_evaluation.specs.Profile.{Form, profile}
use Rattle.agg_model.specs.declared.aggregation.Agg.{Agg, out-Agg, roll-Agg}
use Rattle.agg_model.specs.declared.aggregation.Search.{Search}
use Rattle.agg_model.specs.declared.outcome.Failure.{Failure}
use Rattle.agg_model.specs.declared.outcome.Refused.{Refused}
use Rattle.agg_model.specs.declared.outcome.Outcome.{Outcome}
use Rattle.agg_model.specs.declared.outcome.Outcome.TheVariants as ended
use Rattle.agg_spec.specs.Index.{Index}
use Rattle.agg_spec.specs.Failures.{unfailed}
use Rattle.agg_spec.specs.Outcome.{Request, answer_of}

abbrev pub is_composite : Kind → Bool
is_composite k = elim (profile k).form [
  | Form.terms t ↦ false
  | Form.histogram h ↦ false
  | Form.pages sources size after ↦ true
  | Form.fixed ks ↦ false
  | Form.number o ↦ false
]

-- whether the only aggregation at the top is a composite
abbrev pub is_paged : List Agg → Bool
is_paged (a ∷ []) = is_composite (out-Agg a).kind
is_paged _ = false

abbrev pub kind_after : Key → Kind → Kind
kind_after key k = elim (profile k).form [
  | Form.terms t ↦ k
  | Form.histogram h ↦ k
  | Form.pages sources size after ↦ kind.Composite sources size (Some key)
  | Form.fixed ks ↦ k
  | Form.number o ↦ k
]

abbrev pub agg_after : Key → Agg → Agg
agg_after key a = roll-Agg (record { name = (out-Agg a).name; kind = kind_after key (out-Agg a).kind; children = (out-Agg a).children })

-- the search for what follows the key
abbrev pub search_after : Search → Key → Search
search_after search key = record search { aggs = map (agg_after key) search.aggs }

-- the key of the last bucket of the first answer
abbrev pub last_key : List NodeAnswer → Option Key
last_key [] = None
last_key (n ∷ ns) = option_map (λ b. (out-BucketAnswer b).key) (last_or None (out-NodeAnswer n).buckets)

abbrev pub next_search : Index → List ℕ → Bool → Search → Option Search
next_search index shards true search = option_map (search_after search) (last_key (answer_of index search shards).nodes)
next_search index shards false search = None

abbrev pub request_after : Index → List ℕ → ℕ → Result Search Refused → Option Request
request_after index shards bytes (Ok search) =
    option_map (λ s. record { bytes = bytes; search = Ok s }) (next_search index shards (is_paged search.aggs) search)
request_after index shards bytes (Err r) = None

-- The page after a page that ended so: it follows the last key of the shards that answered. There is none after a page without a
-- bucket, or that is not answered.
abbrev pub next_page : Index → Request → Outcome → List Failure → Option Request
next_page index request (ended.Response line) failures = request_after index (unfailed index failures) request.bytes request.search
next_page index request (ended.Refused r) failures = None
next_page index request (ended.Tripped t) failures = None
next_page index request ended.Memory failures = None
