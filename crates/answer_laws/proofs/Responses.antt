-- A response prints the final answer of the shards that it does not name as failed.
use Rattle.std.specs.Prelude.{◌≡◌, ℕ, nat_lt, length, Bool, true, false, List, [], ◌∷◌, zip, Option, Some, None, Result, Ok, Err}
use Rattle.std.specs.List.{AllByRecursion}
use Rattle.std.proofs.Common.{sym}
use Rattle.agg_model.specs.declared.aggregation.Search.{Search}
use Rattle.agg_model.specs.declared.answer.Answer.{Answer}
use Rattle.agg_model.specs.declared.breaker.Tripped.{Tripped}
use Rattle.agg_model.specs.declared.outcome.Answered.{Answered}
use Rattle.agg_model.specs.declared.outcome.Failure.{Failure}
use Rattle.agg_model.specs.declared.outcome.Outcome.{Outcome}
use Rattle.agg_model.specs.declared.outcome.Outcome.TheVariants as ended
use Rattle.agg_model.specs.declared.outcome.Refused.{Refused}
use Rattle.agg_model.specs.declared.outcome.Refused.TheVariants as refused
use Rattle.agg_evaluation.specs.Ceiling.{search_ceiling}
use Rattle.agg_spec.specs.BucketCount.{total_buckets}
use Rattle.agg_spec.specs.Failures.{total_failure, unfailed}
use Rattle.agg_spec.specs.Index.{Index, field_kinds}
use Rattle.agg_spec.specs.Notes.{piped}
use Rattle.agg_spec.specs.Outcome.{Request, answer_of, answer_outcome, line_in_range, outcome, outcome_of_shards, request_outcome, search_outcome, wide_path}
use Rattle.agg_spec.specs.Response.{response_line}
use Rattle.agg_spec.specs.Rounds.{Round}
use Rattle.answer_laws.specs.Reduced.{Prints, PrintTheAnswer, Tells, TellsTheWhole}

in-range : (path : Option (List ℕ)) (text line : List ℕ) → line_in_range path text ≡ ended.Response line → line ≡ text
in-range None text line e = let same : text ≡ line = cc in sym same
in-range (Some path) text line e = absurd (let no : ⊥ = cc in no)

module _ (index : Index) (max_buckets : ℕ) (search : Search) (failures : List Failure) (line : List ℕ) where
  abbrev text_of : Answer → List ℕ
  text_of answer = response_line search index.mapping (piped search answer) (length index.shards) failures

  answer-prints : (answer : Answer) → answer_outcome index max_buckets search failures answer ≡ ended.Response line → line ≡ text_of answer
  answer-prints answer e = by (nat_lt max_buckets (total_buckets search answer)) e
    where
      by : (b : Bool) → elim b [
        | true ↦ ended.Refused (refused.TooManyBuckets (total_buckets search answer) max_buckets)
        | false ↦ line_in_range (wide_path search answer) (text_of answer)
      ] ≡ ended.Response line → line ≡ text_of answer
      by true e = absurd (let no : ⊥ = cc in no)
      by false e = in-range (wide_path search answer) (text_of answer) line e

  abbrev left : List ℕ
  left = unfailed index failures

  shards-print : outcome_of_shards index max_buckets search failures left ≡ ended.Response line → line ≡ text_of (answer_of index search left)
  shards-print e = by (total_failure failures left) e
    where
      by : (o : Option Tripped) → elim o [
        | Some t ↦ ended.Tripped t
        | None ↦ answer_outcome index max_buckets search failures (answer_of index search left)
      ] ≡ ended.Response line → line ≡ text_of (answer_of index search left)
      by (Some t) e = absurd (let no : ⊥ = cc in no)
      by None e = answer-prints (answer_of index search left) e

  pub search-prints : search_outcome index max_buckets search failures ≡ ended.Response line → line ≡ text_of (answer_of index search left)
  search-prints e = by (search_ceiling (field_kinds index) search index.shards) e
    where
      by : (o : Option ℕ) → elim o [
        | None ↦ ended.Refused refused.TooWide
        | Some ceiling ↦ outcome_of_shards index max_buckets search failures left
      ] ≡ ended.Response line → line ≡ text_of (answer_of index search left)
      by None e = absurd (let no : ⊥ = cc in no)
      by (Some ceiling) e = shards-print e

module _ (index : Index) (max_buckets : ℕ) where
  request-prints : (found : Result Search Refused) (failures : List Failure) (o : Outcome) → Tells (request_outcome index max_buckets found failures) o → Prints index found failures o
  request-prints (Ok search) failures (ended.Response line) tells = search-prints index max_buckets search failures line tells
  request-prints (Err r) failures (ended.Response line) tells = let no : ⊥ = cc in no
  request-prints (Ok search) failures (ended.Refused r) tells = tt
  request-prints (Err x) failures (ended.Refused r) tells = tt
  request-prints (Ok search) failures (ended.Tripped t) tells = tt
  request-prints (Err x) failures (ended.Tripped t) tells = tt
  request-prints (Ok search) failures ended.Memory tells = tt
  request-prints (Err x) failures ended.Memory tells = tt

  each-prints : (requests : List Request) (answers : List Answered) → AllByRecursion (λ p. Tells (outcome index max_buckets p.0 p.1.failures) p.1.outcome) (zip requests answers)
      → AllByRecursion (λ p. Prints index p.0.search p.1.failures p.1.outcome) (zip requests answers)
  each-prints [] answers tells = tt
  each-prints (r ∷ requests) [] tells = tt
  each-prints (r ∷ requests) (a ∷ answers) (first, later) = (request-prints r.search a.failures a.outcome first, each-prints requests answers later)

pub round-prints : (index : Index) (round : Round) → TellsTheWhole index round → PrintTheAnswer index round
round-prints index round tells = each-prints index round.settings.max_buckets round.requests round.answers tells
