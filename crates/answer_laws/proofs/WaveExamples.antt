-- Waves, computed: their ceilings, what they are granted, and answers that are allowed.
use Rattle.std.specs.Prelude.{◌≡◌, refl, ℕ, true, [], ◌∷◌, codes}
use Rattle.agg_spec.specs.Index.{Index}
use Rattle.agg_spec.proofs.Samples.{words, row, index, one_shard}
use Rattle.std.specs.Prelude.{◌+◌, ◌*◌, ◌≤◌, zero, suc, All}
use Rattle.std.proofs.Common.{inl, inr, lit<, lit≤, arith}
use Rattle.agg_model.specs.declared.breaker.Which.TheVariants as which
use Rattle.agg_model.specs.declared.breaker.Which.{Which}
use Rattle.agg_model.specs.declared.outcome.Answered.{Answered}
use Rattle.agg_model.specs.declared.outcome.Outcome.TheVariants as ended
use Rattle.agg_spec.specs.Columns.{columns_charge}
use Rattle.agg_spec.specs.Wave.{wave_ceiling, MayAnswerWave}
use Rattle.agg_spec.specs.Rounds.{plain_answer}
use Rattle.agg_spec.specs.Rises.{rises}
use Rattle.agg_spec.proofs.Samples.{default_limits, settings, request_limit, terms}
use Rattle.agg_spec.proofs.Computing.{computing}

abbrev no_documents : Index
no_documents = one_shard []

abbrev two_words : Index
two_words = one_shard (row (words (codes "a" ∷ []) ∷ []) ∷ row (words (codes "b" ∷ []) ∷ []) ∷ [])

abbrev three_words : Index
three_words = index ((row (words (codes "a" ∷ []) ∷ []) ∷ []) ∷ (row (words (codes "b" ∷ []) ∷ []) ∷ row (words (codes "c" ∷ []) ∷ []) ∷ []) ∷ [])

all_within : (n m : ℕ) → n ≤ m → All (λ p. p ≤ m) (n ∷ [])
all_within n m p zero d h = p
all_within n m p (suc k) d h = let e : ⊥ = omega arith in absurd e

-- an answer without a failure
abbrev tripped : Which → ℕ → ℕ → Answered
tripped at wanted limit = record { outcome = ended.Tripped (record { which = at; wanted = wanted; limit = limit }); failures = [] }

ceiling_counts_a_body_that_trips :
    wave_ceiling (settings (record default_limits { inflight = 10 })) no_documents 0 (terms ∷ []) (tripped which.Inflight 76 10 ∷ []) ≡ 76 + 2 * 4608 + 265
unfolding computing
ceiling_counts_a_body_that_trips = refl

body_that_trips : MayAnswerWave (settings (record default_limits { inflight = 10 })) no_documents 0 (terms ∷ []) (tripped which.Inflight 76 10 ∷ [])
unfolding computing
body_that_trips = ((tt, inl refl), tt)

second_body_trips :
    MayAnswerWave (settings (record default_limits { inflight = 100 })) no_documents 0 (terms ∷ terms ∷ [])
    (plain_answer no_documents (settings default_limits) terms ∷ tripped which.Inflight 152 100 ∷ [])
unfolding computing
second_body_trips = (
  (tt, (refl, record { at_request = all_within 4608 644245094 (lit≤ tt); at_parent = all_within 4608 751619276 (lit≤ tt) }, record { at_request = lit≤ tt; at_parent = lit≤ tt })),
  ((tt, inl refl), tt),
)

columns_of_three_words : columns_charge three_words ≡ 28
unfolding computing
columns_of_three_words = refl

abbrev MayTrip : ℕ → Type 0
MayTrip wanted = MayAnswerWave (record (request_limit 5200) { workers = 2 }) three_words 28 (terms ∷ []) (tripped which.Request wanted 5200 ∷ [])

-- the second task still holds 770 where the first one charges 4608
total_of_another_order : MayTrip 5378
unfolding computing
total_of_another_order = ((tt, inr (record { runs = refl; left = λ e. (let no : ⊥ = cc in no); seen = record { breaker = inl refl; limit = refl; above = lit< tt; within = lit≤ tt } })), tt)

total_in_the_order_of_shards : MayTrip 5249
unfolding computing
total_in_the_order_of_shards = ((tt, inr (record { runs = refl; left = λ e. (let no : ⊥ = cc in no); seen = record { breaker = inl refl; limit = refl; above = lit< tt; within = lit≤ tt } })), tt)

-- two searches of 38 bytes each are granted at inflight requests, and at request
rises_of_two_searches : rises two_words 19 (record {
  settings = settings default_limits;
  requests = terms ∷ terms ∷ [];
  answers = plain_answer two_words (settings default_limits) terms ∷ plain_answer two_words (settings default_limits) terms ∷ [];
}) ≡ record { bodies = 152; searches = 10364; exact = true; trips = record { request = 0; fielddata = 0; inflight = 0; parent = 0 }; quiet = true }
unfolding computing
rises_of_two_searches = refl
