-- A round: searches that are answered together, side by side or as the pages of a scan one by one ('Multi search API').
use Rattle.std.specs.Prelude.{ℕ, ◌*◌, Bool, true, false, List, [], ◌∷◌, sum_by}
use Rattle.std.specs.List.{list_all}
use Rattle.agg_model.specs.declared.settings.Settings.{Settings}
use Rattle.agg_model.specs.declared.outcome.Failure.{Failure}
use Rattle.agg_model.specs.declared.outcome.Outcome.{Outcome}
use Rattle.agg_model.specs.declared.outcome.Outcome.TheVariants as ended
use Rattle.agg_model.specs.declared.outcome.Answered.{Answered}
use Rattle.agg_spec.specs.Index.{Index}
use Rattle.agg_spec.specs.Outcome.{Request, outcome, response_length}

-- the requests of a round, their answers in the same order, and the settings in force
pub record Round : Type 0 where
  pub settings : Settings
  pub requests : List Request
  pub answers : List Answered

-- the answer of the whole reduction, with no shard left out
abbrev pub plain_answer : Index → Settings → Request → Answered
plain_answer index settings request = record { outcome = outcome index settings.max_buckets request []; failures = [] }

-- an answer that tells of no refusal by a breaker
abbrev pub is_quiet : Outcome → List Failure → Bool
is_quiet (ended.Response line) [] = true
is_quiet (ended.Response line) (f ∷ rest) = false
is_quiet (ended.Refused r) [] = true
is_quiet (ended.Refused r) (f ∷ rest) = false
is_quiet (ended.Tripped t) failures = false
is_quiet ended.Memory failures = false

abbrev pub all_quiet : List Answered → Bool
all_quiet = list_all (λ a. is_quiet a.outcome a.failures)

-- the length of the response that the whole reduction gives beside these failures
abbrev pub response_bytes : Index → Settings → Request → List Failure → ℕ
response_bytes index settings request failures = response_length (outcome index settings.max_buckets request failures)

abbrev pub body_bytes : List Request → ℕ
body_bytes = sum_by (λ r. 2 * r.bytes)
