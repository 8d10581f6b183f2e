-- An answer of the whole reduction with no shard left out tells of no refusal by a breaker.
use Rattle.std.specs.Prelude.{◌≡◌, refl, ℕ, nat_lt, length, Bool, true, false, List, [], ◌∷◌, map, Option, Some, None, Result, Ok, Err}
use Rattle.std.proofs.Common.{◌∙◌, ap}
use Rattle.std.proofs.lemmas.Bool.{and_from}
use Rattle.agg_model.specs.declared.aggregation.Search.{Search}
use Rattle.agg_model.specs.declared.answer.Answer.{Answer}
use Rattle.agg_model.specs.declared.settings.Settings.{Settings}
use Rattle.agg_model.specs.declared.outcome.Outcome.{Outcome}
use Rattle.agg_model.specs.declared.outcome.Outcome.TheVariants as ended
use Rattle.agg_model.specs.declared.outcome.Refused.{Refused}
use Rattle.agg_model.specs.declared.outcome.Refused.TheVariants as refused
use Rattle.agg_evaluation.specs.Ceiling.{search_ceiling}
use Rattle.agg_spec.specs.BucketCount.{total_buckets}
use Rattle.agg_spec.specs.Complete.{IsPlain}
use Rattle.agg_spec.specs.Failures.{unfailed}
use Rattle.agg_spec.specs.Index.{Index, field_kinds}
use Rattle.agg_spec.specs.Notes.{piped}
use Rattle.agg_spec.specs.Outcome.{Request, request_outcome, search_outcome, outcome_of_shards, answer_outcome, line_in_range, answer_of, wide_path}
use Rattle.agg_spec.specs.Response.{response_line}
use Rattle.agg_spec.specs.Rounds.{Round, plain_answer, is_quiet, all_quiet}

-- no failure is told of, and no breaker ended the search
abbrev IsQuiet : Outcome → Type 0
IsQuiet o = is_quiet o [] ≡ true

module _ (index : Index) (max_buckets : ℕ) where
  quiet-line : (path : Option (List ℕ)) (line : List ℕ) → IsQuiet (line_in_range path line)
  quiet-line None line = refl
  quiet-line (Some path) line = refl

  quiet-answer : (search : Search) (answer : Answer) → IsQuiet (answer_outcome index max_buckets search [] answer)
  quiet-answer search answer = by_count (nat_lt max_buckets (total_buckets search answer))
    where
      line : Outcome
      line = line_in_range (wide_path search answer) (response_line search index.mapping (piped search answer) (length index.shards) [])

      by_count : (b : Bool) → IsQuiet (elim b [ true ↦ ended.Refused (refused.TooManyBuckets (total_buckets search answer) max_buckets) | false ↦ line ])
      by_count true = refl
      by_count false = quiet-line (wide_path search answer) (response_line search index.mapping (piped search answer) (length index.shards) [])

  quiet-search : (search : Search) → IsQuiet (search_outcome index max_buckets search [])
  quiet-search search = by_ceiling (search_ceiling (field_kinds index) search index.shards)
    where
      by_ceiling : (ceiling : Option ℕ)
          → IsQuiet (elim ceiling [ None ↦ ended.Refused refused.TooWide | Some n ↦ outcome_of_shards index max_buckets search [] (unfailed index []) ])
      by_ceiling None = refl
      by_ceiling (Some n) = quiet-answer search (answer_of index search (unfailed index []))

  pub quiet-request : (search : Result Search Refused) → IsQuiet (request_outcome index max_buckets search [])
  quiet-request (Err r) = refl
  quiet-request (Ok search) = quiet-search search

quiet-each : (index : Index) (settings : Settings) (requests : List Request) → all_quiet (map (plain_answer index settings) requests) ≡ true
quiet-each index settings [] = refl
quiet-each index settings (r ∷ requests) = and_from _ _ (quiet-request index settings.max_buckets r.search) (quiet-each index settings requests)

pub plain-quiet : (index : Index) (columns : ℕ) (round : Round) → IsPlain index columns round → all_quiet round.answers ≡ true
plain-quiet index columns round plain = ap all_quiet plain ∙ quiet-each index round.settings round.requests
