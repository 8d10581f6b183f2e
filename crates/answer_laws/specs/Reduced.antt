-- Answers that are those of the whole reduction ('Search API').
use Rattle.std.specs.Prelude.{◌≡◌, ⊤, length, List, Ok, Err, Result, zip}
use Rattle.std.specs.List.{AllByRecursion}
use Rattle.agg_model.specs.declared.aggregation.Search.{Search}
use Rattle.agg_model.specs.declared.outcome.Failure.{Failure}
use Rattle.agg_model.specs.declared.outcome.Outcome.{Outcome}
use Rattle.agg_model.specs.declared.outcome.Outcome.TheVariants as ended
use Rattle.agg_model.specs.declared.outcome.Refused.{Refused}
use Rattle.agg_spec.specs.Failures.{unfailed}
use Rattle.agg_spec.specs.Index.{Index}
use Rattle.agg_spec.specs.Outcome.{answer_of, outcome}
use Rattle.agg_spec.specs.Notes.{piped}
use Rattle.agg_spec.specs.Response.{response_line}
use Rattle.agg_spec.specs.Rounds.{Round}

-- a response or a refused body is the outcome of the whole reduction; an exception need not be, and want of memory never is
abbrev pub Tells : Outcome → Outcome → Type 0
Tells whole (ended.Response line) = whole ≡ ended.Response line
Tells whole (ended.Refused r) = whole ≡ ended.Refused r
Tells whole _ = ⊤

-- each answer of the round tells the outcome of the shards that it does not name as failed
abbrev pub TellsTheWhole : Index → Round → Type 0
TellsTheWhole index round =
    AllByRecursion (λ p. Tells (outcome index round.settings.max_buckets p.0 p.1.failures) p.1.outcome) (zip round.requests round.answers)

-- a response prints the final answer of the shards that it does not name as failed, what its pipelines say, and these failures
abbrev pub Prints : Index → Result Search Refused → List Failure → Outcome → Type 0
Prints index (Ok search) failures (ended.Response line) =
    line ≡ response_line search index.mapping (piped search (answer_of index search (unfailed index failures))) (length index.shards) failures
Prints index (Err r) failures (ended.Response line) = ⊥
Prints index found failures _ = ⊤

-- each response of the round does
abbrev pub PrintTheAnswer : Index → Round → Type 0
PrintTheAnswer index round = AllByRecursion (λ p. Prints index p.0.search p.1.failures p.1.outcome) (zip round.requests round.answers)
