-- Which shards may fail beside several workers ('Search API': `allow_partial_search_results`), computed and refuted.
use Rattle.std.specs.Prelude.{◌≡◌, refl, ◌≤◌, ◌<◌, ℕ, List, [], ◌∷◌}
use Rattle.std.proofs.Common.{inl, inr, ap, lit≤, arith}
use Rattle.agg_model.specs.declared.breaker.Which.TheVariants as which
use Rattle.agg_model.specs.declared.outcome.Failure.{Failure}
use Rattle.agg_model.specs.declared.outcome.Outcome.{Outcome}
use Rattle.agg_model.specs.declared.outcome.Outcome.TheVariants as ended
use Rattle.agg_model.specs.declared.settings.Settings.{Settings}
use Rattle.agg_spec.specs.Complete.{HasRoom}
use Rattle.agg_spec.specs.Outcome.{Request, outcome}
use Rattle.agg_spec.specs.Rounds.{plain_answer}
use Rattle.agg_spec.specs.Wave.{MayAnswerWave}
use Rattle.agg_spec.proofs.Samples.{request_limit}
use Rattle.answer_laws.proofs.PartialExamples.{partial, whole, failed, second_shard_fails_answer}
use Rattle.answer_laws.proofs.Rounds.{all_within}
use Rattle.answer_laws.proofs.RoutingExamples.{two_shards}
use Rattle.agg_spec.proofs.Computing.{computing}

abbrev two_workers : Settings
two_workers = record (request_limit 5000) { workers = 2 }

-- what may be answered to one search over two shards by two workers
abbrev MayAnswerAlone : Request → Outcome → List Failure → Type 0
MayAnswerAlone request o failures = MayAnswerWave two_workers two_shards 79 (request ∷ []) (record { outcome = o; failures = failures } ∷ [])

the_second_shard_may_fail : MayAnswerAlone partial second_shard_fails_answer.outcome (failed 1 5249 5000 ∷ [])
unfolding computing
the_second_shard_may_fail = (
  (
    record {
      runs = refl;
      allowed = refl;
      ascending = (lit≤ tt, lit≤ tt, tt);
      seen = (record { breaker = inl refl; limit = refl; above = lit≤ tt; within = lit≤ tt }, tt);
    },
    (refl, record { at_request = all_within _ 5000 (lit≤ tt); at_parent = all_within _ 751619276 (lit≤ tt) }, record { at_request = lit≤ tt; at_parent = lit≤ tt }),
  ),
  tt,
)

-- which one worker never answers
the_first_shard_may_fail : MayAnswerAlone partial (outcome two_shards 65536 partial (failed 0 5001 5000 ∷ [])) (failed 0 5001 5000 ∷ [])
unfolding computing
the_first_shard_may_fail = (
  (
    record {
      runs = refl;
      allowed = refl;
      ascending = (lit≤ tt, lit≤ tt, tt);
      seen = (record { breaker = inl refl; limit = refl; above = lit≤ tt; within = lit≤ tt }, tt);
    },
    (refl, record { at_request = all_within _ 5000 (lit≤ tt); at_parent = all_within _ 751619276 (lit≤ tt) }, record { at_request = lit≤ tt; at_parent = lit≤ tt }),
  ),
  tt,
)

a_failure_that_the_search_does_not_allow : (o : Outcome) → MayAnswerAlone whole o (failed 1 5249 5000 ∷ []) → ⊥
unfolding computing
a_failure_that_the_search_does_not_allow o ((may, end), rest) = let allowed = may.allowed in (let no : ⊥ = cc in no)

shards_out_of_order : (o : Outcome) → MayAnswerAlone partial o (failed 1 5249 5000 ∷ failed 0 5249 5000 ∷ []) → ⊥
unfolding computing
shards_out_of_order o ((may, end), rest) = let order : 2 ≤ 0 = may.ascending.2.0 in omega (arith, order)

a_shard_that_fails_twice : (o : Outcome) → MayAnswerAlone partial o (failed 0 5249 5000 ∷ failed 0 5249 5000 ∷ []) → ⊥
unfolding computing
a_shard_that_fails_twice o ((may, end), rest) = let order : 1 ≤ 0 = may.ascending.2.0 in omega (arith, order)

a_shard_that_is_not_there : (o : Outcome) → MayAnswerAlone partial o (failed 2 5249 5000 ∷ []) → ⊥
unfolding computing
a_shard_that_is_not_there o ((may, end), rest) = let below : 2 < 2 = may.ascending.1 in omega (arith, below)

a_failure_at_the_limit : (o : Outcome) → MayAnswerAlone partial o (failed 1 5000 5000 ∷ []) → ⊥
unfolding computing
a_failure_at_the_limit o ((may, end), rest) = let above : 5000 < 5000 = may.seen.0.above in omega (arith, above)

abbrev wanted_of : Outcome → ℕ
wanted_of (ended.Tripped t) = t.wanted
wanted_of _ = 0

-- where all shards fail the exception is the first failure's
another_exception_than_the_first_failure : MayAnswerAlone partial (ended.Tripped (record { which = which.Request; wanted = 5250; limit = 5000 })) (failed 0 5249 5000 ∷ failed 1 5250 5000 ∷ []) → ⊥
unfolding computing
another_exception_than_the_first_failure ((may, inl reduced), rest) = let same : 5250 ≡ 5249 = ap wanted_of reduced in omega (arith, same)
another_exception_than_the_first_failure ((may, inr end), rest) = end.left refl

-- Limits that hold all that the wave can charge when no shard fails do not when one does, whose failure its response tells of.
abbrev just_enough : Settings
just_enough = record (request_limit 20127) { workers = 2 }

it_has_room_if_none_fails : HasRoom two_shards 79 (record { settings = just_enough; requests = partial ∷ []; answers = plain_answer two_shards just_enough partial ∷ [] })
unfolding computing
it_has_room_if_none_fails = record { at_request = lit≤ tt; at_parent = lit≤ tt; bodies = lit≤ tt }

one_may_fail_all_the_same :
    MayAnswerWave just_enough two_shards 79 (partial ∷ []) (record { outcome = outcome two_shards 65536 partial (failed 1 20128 20127 ∷ []); failures = failed 1 20128 20127 ∷ [] } ∷ [])
unfolding computing
one_may_fail_all_the_same = (
  (
    record {
      runs = refl;
      allowed = refl;
      ascending = (lit≤ tt, lit≤ tt, tt);
      seen = (record { breaker = inl refl; limit = refl; above = lit≤ tt; within = lit≤ tt }, tt);
    },
    (refl, record { at_request = all_within _ 20127 (lit≤ tt); at_parent = all_within _ 751619276 (lit≤ tt) }, record { at_request = lit≤ tt; at_parent = lit≤ tt }),
  ),
  tt,
)
