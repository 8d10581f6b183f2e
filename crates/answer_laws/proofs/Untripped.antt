-- A search whose charges are all granted is answered by the whole reduction, with no shard left out.
use Rattle.std.specs.Prelude.{◌≡◌, refl, ℕ, ◌+◌, ◌*◌, ◌&&◌, Bool, true, false, List, [], ◌∷◌, map, Option, Some, None}
use Rattle.std.specs.List.{AllByRecursion, list_all}
use Rattle.std.proofs.Common.{◌∙◌, ap, sym, inl, inr, arith}
use Rattle.agg_model.specs.declared.breaker.Child.{Child}
use Rattle.agg_model.specs.declared.breaker.Child.TheVariants as child
use Rattle.agg_model.specs.declared.breaker.Limits.{Limits}
use Rattle.agg_model.specs.declared.breaker.Tripped.{Tripped}
use Rattle.agg_model.specs.declared.breaker.Which.{Which}
use Rattle.agg_model.specs.declared.breaker.Which.TheVariants as which
use Rattle.agg_model.specs.declared.aggregation.Search.{Search}
use Rattle.agg_model.specs.declared.settings.Settings.{Settings}
use Rattle.agg_model.specs.declared.outcome.Answered.{Answered}
use Rattle.agg_model.specs.declared.outcome.Failure.{Failure}
use Rattle.agg_model.specs.declared.outcome.Outcome.{Outcome}
use Rattle.agg_spec.specs.Charges.{Amounts, no_amounts, one_at, amounts_sum, Step, Run, charge, give_back, run, stepped_unless, refusal_of, charged, charge_of}
use Rattle.agg_spec.specs.Index.{Index}
use Rattle.agg_spec.specs.Outcome.{Request, outcome, running_search}
use Rattle.agg_spec.specs.Reduction.{Going, Task, task_steps, tasks_of, task_ended, task_refused, unless_ended, after_task, after_tasks, after_batch, after_batches, after_last, begun, batches, merge_steps}
use Rattle.agg_spec.specs.Rounds.{Round, plain_answer}
use Rattle.agg_spec.specs.Answers.{IsSolo}
use Rattle.agg_spec.specs.Complete.{IsPlain, NoneTrips}
use Rattle.agg_spec.specs.Written.{has_memory}
use Rattle.agg_spec.specs.Solo.{idle, body_charged, searched, response_steps, outcome_with, outcome_unless, solo_run, solo_answer}

-- no breaker refused a charge
abbrev IsUntripped : Run → Type 0
IsUntripped r = r.trips ≡ no_amounts

-- a refusal counts at a breaker
one-trip : (a : Amounts) (w : Which) → amounts_sum a (one_at w) ≡ no_amounts → ⊥
one-trip a which.Request e = let n : a.request + 1 ≡ 0 = ap (λ (b : Amounts). b.request) e in omega (arith, n)
one-trip a which.Fielddata e = let n : a.fielddata + 1 ≡ 0 = ap (λ (b : Amounts). b.fielddata) e in omega (arith, n)
one-trip a which.Inflight e = let n : a.inflight + 1 ≡ 0 = ap (λ (b : Amounts). b.inflight) e in omega (arith, n)
one-trip a which.Parent e = let n : a.parent + 1 ≡ 0 = ap (λ (b : Amounts). b.parent) e in omega (arith, n)

-- a refused run has a trip
abbrev CountsRefusals : Run → Type 0
CountsRefusals r = IsUntripped r → r.refused ≡ None

-- so has a search that was refused, or of which a shard failed
abbrev CountsFailures : Going → Type 0
CountsFailures going = IsUntripped going.run → (going.run.refused ≡ None) × (going.failures ≡ [])

abbrev answered : Outcome → List Failure → Answered
answered o failures = record { outcome = o; failures = failures }

module _ (limits : Limits) where
  -- where no charge was refused after a step, none was before it
  step-before : (r : Run) (s : Step) → IsUntripped (stepped_unless r.refused limits r s) → IsUntripped r
  step-before r s untripped = by_refusal r.refused s untripped
    where
      by_charge : (o : Option Tripped) (c : Child) (n : ℕ) → IsUntripped (charged o c n r) → IsUntripped r
      by_charge None c n e = e
      by_charge (Some t) c n e = absurd (one-trip r.trips t.which e)

      by_refusal : (o : Option Tripped) (s : Step) → IsUntripped (stepped_unless o limits r s) → IsUntripped r
      by_refusal (Some t) s e = e
      by_refusal None (give_back c n) e = e
      by_refusal None (charge c n) e = by_charge (refusal_of limits r.holds c n) c n e

  run-before : (xs : List Step) (r : Run) → IsUntripped (run limits r xs) → IsUntripped r
  run-before [] r e = e
  run-before (s ∷ xs) r e = step-before r s (run-before xs (stepped_unless r.refused limits r s) e)

  -- a refused run has a trip
  step-counts : (r : Run) (s : Step) → CountsRefusals r → CountsRefusals (stepped_unless r.refused limits r s)
  step-counts r s counts = by_refusal r.refused refl s
    where
      by_charge : r.refused ≡ None → (o : Option Tripped) (c : Child) (n : ℕ) → CountsRefusals (charged o c n r)
      by_charge none None c n e = none
      by_charge none (Some t) c n e = absurd (one-trip r.trips t.which e)

      by_refusal : (o : Option Tripped) → r.refused ≡ o → (s : Step) → CountsRefusals (stepped_unless o limits r s)
      by_refusal (Some t) same s = counts
      by_refusal None same (give_back c n) = λ e. same
      by_refusal None same (charge c n) = by_charge same (refusal_of limits r.holds c n) c n

  run-counts : (xs : List Step) (r : Run) → CountsRefusals r → CountsRefusals (run limits r xs)
  run-counts [] r counts = counts
  run-counts (s ∷ xs) r counts = run-counts xs (stepped_unless r.refused limits r s) (step-counts r s counts)

  module _ (search : Search) where
    -- what was refused stays as it is
    unless-counts : (o : Option Tripped) (next going : Going) → going.run.refused ≡ o → CountsFailures going → (going.run.refused ≡ None → CountsFailures next)
        → CountsFailures (unless_ended o next going)
    unless-counts None next going same now later = later same
    unless-counts (Some t) next going same now later = now

    ended-counts : (o : Option Tripped) (task : Task) (going : Going) → (run limits going.run (task_steps task)).refused ≡ o → CountsFailures going
        → CountsFailures (task_ended limits search o task (run limits going.run (task_steps task)) going)
    ended-counts None task going same counts = λ e. (same, (counts (run-before (task_steps task) going.run e)).1)
    ended-counts (Some t) task going same counts = by_partial search.partial
      where
        after : Run
        after = run limits going.run (task_steps task)

        never : IsUntripped after → ⊥
        never e =
            let none = run-counts (task_steps task) going.run (λ untripped. (counts untripped).0) e in
            let wrong : Some t ≡ None = sym same ∙ none in (let no : ⊥ = cc in no)

        by_partial : (b : Bool) → CountsFailures (task_refused limits search b task.shard t after going)
        by_partial true = λ e. absurd (never e)
        by_partial false = λ e. absurd (never e)

    task-counts : (going : Going) (task : Task) → CountsFailures going → CountsFailures (after_task limits search going task)
    task-counts going task counts =
        let after = run limits going.run (task_steps task) in
        unless-counts going.run.refused (task_ended limits search after.refused task after going) going refl counts (λ none. ended-counts after.refused task going refl counts)

    tasks-count : (going : Going) (tasks : List Task) → CountsFailures going → CountsFailures (after_tasks limits search going tasks)
    tasks-count going [] counts = counts
    tasks-count going (task ∷ rest) counts = tasks-count (after_task limits search going task) rest (task-counts going task counts)

    -- more steps without another failure
    more-counts : (going : Going) (xs : List Step) → CountsFailures going → IsUntripped (run limits going.run xs)
        → ((run limits going.run xs).refused ≡ None) × (going.failures ≡ [])
    more-counts going xs counts e = (run-counts xs going.run (λ untripped. (counts untripped).0) e, (counts (run-before xs going.run e)).1)

    batch-counts : (going : Going) → CountsFailures going → CountsFailures (after_batch limits search going)
    batch-counts going counts = unless-counts going.run.refused _ going refl counts (λ none e. more-counts going (merge_steps limits search going.batch) counts e)

    batches-count : (going : Going) (parts : List (List Task)) → CountsFailures going → CountsFailures (after_batches limits search going parts)
    batches-count going [] counts = counts
    batches-count going (tasks ∷ rest) counts =
        batches-count (after_batch limits search (after_tasks limits search going tasks)) rest (batch-counts (after_tasks limits search going tasks) (tasks-count going tasks counts))

    last-counts : (going : Going) → CountsFailures going → CountsFailures (after_last limits search going)
    last-counts going counts = unless-counts going.run.refused _ going refl counts (λ none e. more-counts going (merge_steps limits search going.results) counts e)

module _ (settings : Settings) (index : Index) where
  searched-counts : (start : Run) (o : Option Search) → CountsRefusals start → CountsFailures (searched settings index start o)
  searched-counts start None counts = λ e. (counts e, refl)
  searched-counts start (Some search) counts =
      last-counts settings.limits search (after_batches settings.limits search (begun start) (batches settings.batch (tasks_of index search)))
      (batches-count settings.limits search (begun start) (batches settings.batch (tasks_of index search)) (λ e. (counts e, refl)))

  solo-counts : (start : Run) (request : Request) → CountsRefusals start → CountsFailures (solo_run settings index start request)
  solo-counts start request counts e =
      let body = body_charged settings index start request in
      let going = searched settings index body (running_search index settings.max_buckets request) in
      let before = searched-counts body (running_search index settings.max_buckets request) (run-counts settings.limits (charge_of child.Inflight (2 * request.bytes)) start counts) in
      let steps = response_steps (outcome_with settings index request going) in
      (run-counts settings.limits steps going.run (λ untripped. (before untripped).0) e, (before (run-before settings.limits steps going.run e)).1)

  pub untripped-plain : (start : Run) (request : Request) → CountsRefusals start → (solo_run settings index start request).run.trips ≡ no_amounts
      → solo_answer settings index start request ≡ plain_answer index settings request
  untripped-plain start request counts e =
      let going = solo_run settings index start request in
      let plain = solo-counts start request counts e in
      ap (λ o. answered (outcome_unless o (outcome index settings.max_buckets request going.failures)) going.failures) plain.0
      ∙ ap (λ failures. answered (outcome index settings.max_buckets request failures) failures) plain.1

-- a round of one worker that has room is answered so, unless memory runs out
module _ (index : Index) (columns : ℕ) where
  answers-plain : (settings : Settings) (requests : List Request) (answers : List Answered) → IsSolo index columns settings requests answers
      → AllByRecursion (λ r. (solo_run settings index (idle columns) r).run.trips ≡ no_amounts) requests → list_all (λ (a : Answered). has_memory a.outcome) answers ≡ true
      → answers ≡ map (plain_answer index settings) requests
  answers-plain settings [] answers may room printed = absurd may
  answers-plain settings (r ∷ []) [] may room printed = absurd may
  answers-plain settings (r ∷ []) (a ∷ []) (inl is) (room, rest) printed =
      ap (λ b. b ∷ []) (is ∙ untripped-plain settings index (idle columns) r (λ e. refl) room)
  answers-plain settings (r ∷ []) (a ∷ []) (inr memory) room printed =
      absurd (let wrong : (false && true) ≡ true = sym (ap (λ o. has_memory o && true) memory) ∙ printed in (let no : ⊥ = cc in no))
  answers-plain settings (r ∷ []) (a ∷ b ∷ answers) may room printed = absurd may
  answers-plain settings (r ∷ q ∷ requests) answers may room printed = absurd may

  pub solo-plain : (round : Round) → NoneTrips index columns round → IsSolo index columns round.settings round.requests round.answers
      → list_all (λ (a : Answered). has_memory a.outcome) round.answers ≡ true → IsPlain index columns round
  solo-plain round room may printed = answers-plain round.settings round.requests round.answers may room printed
