-- What no output may say, refuted by computation: each number that is wrong by one, and each answer that stands in the wrong place.
use Rattle.std.specs.Prelude.{◌≡◌, refl, ℕ, ◌<◌, ◌≤◌, [], ◌∷◌, Err, codes}
use Rattle.std.proofs.Common.{inl, inr, ap, arith}
use Rattle.agg_model.specs.declared.breaker.Which.{Which}
use Rattle.agg_model.specs.declared.breaker.Which.TheVariants as which
use Rattle.agg_model.specs.declared.outcome.Answered.{Answered}
use Rattle.agg_model.specs.declared.outcome.Outcome.TheVariants as ended
use Rattle.agg_model.specs.declared.outcome.Refused.TheVariants as refused
use Rattle.agg_spec.specs.Index.{Index}
use Rattle.agg_spec.specs.Charges.{Amounts, no_amounts}
use Rattle.agg_spec.specs.Outcome.{Request}
use Rattle.agg_spec.specs.Rounds.{Round, plain_answer}
use Rattle.agg_spec.specs.Rises.{RoseBy, rises}
use Rattle.agg_spec.specs.Wave.{MayAnswerWave}
use Rattle.agg_spec.proofs.Samples.{words, row, one_shard, default_limits, settings, request_limit, terms}
use Rattle.agg_spec.proofs.Computing.{computing}

abbrev two_words : Index
two_words = one_shard (row (words (codes "a" ∷ []) ∷ []) ∷ row (words (codes "b" ∷ []) ∷ []) ∷ [])

abbrev tripped : Which → ℕ → ℕ → Answered
tripped at wanted limit = record { outcome = ended.Tripped (record { which = at; wanted = wanted; limit = limit }); failures = [] }

-- two workers, a limit of 5200 at request, and one search
abbrev MayTrip : Answered → Type 0
MayTrip a = MayAnswerWave (record (request_limit 5200) { workers = 2 }) two_words 19 (terms ∷ []) (a ∷ [])

a_total_at_the_limit : MayTrip (tripped which.Request 5200 5200) → ⊥
unfolding computing
a_total_at_the_limit ((allowed, inl reduced), rest) = let no : ⊥ = cc in no
a_total_at_the_limit ((allowed, inr end), rest) = let above : 5200 < 5200 = end.seen.above in omega (arith, above)

-- the ceiling is the columns, the body, twice the peak of the task, and the response: 19, 76, 9732 and 316
a_total_beyond_the_ceiling : MayTrip (tripped which.Request 10144 5200) → ⊥
unfolding computing
a_total_beyond_the_ceiling ((allowed, inl reduced), rest) = let no : ⊥ = cc in no
a_total_beyond_the_ceiling ((allowed, inr end), rest) = let within : 10144 ≤ 10143 = end.seen.within in omega (arith, within)

another_limit : MayTrip (tripped which.Request 5378 5201) → ⊥
unfolding computing
another_limit ((allowed, inl reduced), rest) = let no : ⊥ = cc in no
another_limit ((allowed, inr end), rest) = let limit : 5201 ≡ 5200 = end.seen.limit in omega (arith, limit)

a_breaker_that_no_task_charges : MayTrip (tripped which.Fielddata 429496730 429496729) → ⊥
unfolding computing
a_breaker_that_no_task_charges ((allowed, inl reduced), rest) = let no : ⊥ = cc in no
a_breaker_that_no_task_charges ((allowed, inr end), rest) = elim end.seen.breaker [ inl e ↦ (let no : ⊥ = cc in no) | inr e ↦ (let no : ⊥ = cc in no) ]

abbrev not_json : Request
not_json = record { bytes = 8; search = Err refused.NotJson }

an_exception_for_a_body_that_is_not_json : MayAnswerWave (record (request_limit 5200) { workers = 2 }) two_words 19 (not_json ∷ []) (tripped which.Request 5378 5200 ∷ []) → ⊥
unfolding computing
an_exception_for_a_body_that_is_not_json ((allowed, inl reduced), rest) = let no : ⊥ = cc in no
an_exception_for_a_body_that_is_not_json ((allowed, inr end), rest) = let runs = end.runs in (let no : ⊥ = cc in no)

-- the result of 770 and the response of 316 bytes have no room
a_response_beyond_the_limit :
    MayAnswerWave (record (settings (record default_limits { request = 1085 })) { workers = 2 }) two_words 19 (terms ∷ []) (plain_answer two_words (settings default_limits) terms ∷ []) → ⊥
unfolding computing
a_response_beyond_the_limit ((allowed, (reduced, peaks, fits)), rest) = let fit : 1086 ≤ 1085 = fits.at_request in omega (arith, fit)

a_response_beyond_the_limit_of_the_parent :
    MayAnswerWave (record (settings (record default_limits { parent = 1180 })) { workers = 2 }) two_words 19 (terms ∷ []) (plain_answer two_words (settings default_limits) terms ∷ []) → ⊥
unfolding computing
a_response_beyond_the_limit_of_the_parent ((allowed, (reduced, peaks, fits)), rest) = let fit : 1181 ≤ 1180 = fits.at_parent in omega (arith, fit)

-- a round of one search that is answered by the whole reduction
abbrev quiet_round : Round
quiet_round = record { settings = settings default_limits; requests = terms ∷ []; answers = plain_answer two_words (settings default_limits) terms ∷ [] }

a_trip_without_an_exception : (granted : Amounts) → RoseBy (rises two_words 19 quiet_round) granted (record no_amounts { request = 1 }) → ⊥
unfolding computing
a_trip_without_an_exception granted rose = let none : 1 ≡ 0 = ap (λ (a : Amounts). a.request) (rose.no_trips refl) in omega (arith, none)

less_granted_than_was_charged : (trips : Amounts) → RoseBy (rises two_words 19 quiet_round) (record { request = 5181; fielddata = 0; inflight = 76; parent = 5257 }) trips → ⊥
unfolding computing
less_granted_than_was_charged trips rose = let least : 5182 ≤ 5181 = rose.searches in omega (arith, least)

more_granted_than_one_batch_charges : (trips : Amounts) → RoseBy (rises two_words 19 quiet_round) (record { request = 5183; fielddata = 0; inflight = 76; parent = 5259 }) trips → ⊥
unfolding computing
more_granted_than_one_batch_charges trips rose = let exact : 5183 ≡ 5182 = rose.exactly refl in omega (arith, exact)
