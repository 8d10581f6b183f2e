-- What one worker answers depends on what is held alone, and not on what was granted or refused before.
use Rattle.std.specs.Prelude.{◌≡◌, ℕ, ◌*◌, Bool, true, false, List, [], ◌∷◌, ◌++◌, Option, Some, None}
use Rattle.std.proofs.Common.{refl, ◌∙◌, sym, ap, subst}
use Rattle.agg_model.specs.declared.aggregation.Search.{Search}
use Rattle.agg_model.specs.declared.breaker.Child.{Child}
use Rattle.agg_model.specs.declared.breaker.Child.TheVariants.{Inflight as AtInflight}
use Rattle.agg_model.specs.declared.breaker.Limits.{Limits}
use Rattle.agg_model.specs.declared.breaker.Tripped.{Tripped}
use Rattle.agg_model.specs.declared.outcome.Answered.{Answered}
use Rattle.agg_model.specs.declared.outcome.Failure.{Failure}
use Rattle.agg_model.specs.declared.partial.Partial.{Partial}
use Rattle.agg_model.specs.declared.settings.Settings.{Settings}
use Rattle.agg_spec.specs.Charges.{charge_of, Amounts, Run, Step, charge, give_back, raised, lowered, refusal_of, charged, stepped, stepped_unless, run}
use Rattle.agg_spec.specs.Index.{Index}
use Rattle.agg_spec.specs.Outcome.{Request, running_search, outcome}
use Rattle.agg_spec.specs.Reduction.{Task, Going, begun, task_steps, unless_ended, task_refused, task_ended, after_task, merge_steps, after_batch, after_tasks, after_batches, after_last, reduced, batches, tasks_of}
use Rattle.agg_spec.specs.Solo.{searched, response_steps, outcome_unless, outcome_with, responded, solo_run, solo_answer, after_request, after_requests}

-- the runs hold the same, and have ended by the same refusal
pub record IsLike (a b : Run) : Type 0 where
  pub holds : a.holds ≡ b.holds
  pub refused : a.refused ≡ b.refused

like-charged : (o : Option Tripped) (c : Child) (n : ℕ) (a b : Run) → IsLike a b → IsLike (charged o c n a) (charged o c n b)
like-charged None c n a b like = record { holds = ap (raised c n) like.holds; refused = like.refused }
like-charged (Some t) c n a b like = record { holds = like.holds; refused = refl }

like-stepped : (l : Limits) (s : Step) (a b : Run) → IsLike a b → IsLike (stepped l a s) (stepped l b s)
like-stepped l (charge c n) a b like =
    subst (λ (o : Option Tripped). IsLike (stepped l a (charge c n)) (charged o c n b)) (ap (λ (h : Amounts). refusal_of l h c n) like.holds)
    (like-charged (refusal_of l a.holds c n) c n a b like)
like-stepped l (give_back c n) a b like = record { holds = ap (lowered c n) like.holds; refused = like.refused }

like-unless : (o : Option Tripped) (l : Limits) (s : Step) (a b : Run) → IsLike a b → IsLike (stepped_unless o l a s) (stepped_unless o l b s)
like-unless None l s a b like = like-stepped l s a b like
like-unless (Some t) l s a b like = like

pub like-run : (l : Limits) (steps : List Step) (a b : Run) → IsLike a b → IsLike (run l a steps) (run l b steps)
like-run l [] a b like = like
like-run l (s ∷ rest) a b like =
    like-run l rest (stepped_unless a.refused l a s) (stepped_unless b.refused l b s)
    (subst (λ (o : Option Tripped). IsLike (stepped_unless a.refused l a s) (stepped_unless o l b s)) like.refused (like-unless a.refused l s a b like))

-- ---- searches

abbrev going_of : Run → List Partial → List Partial → List Failure → Going
going_of r batch results failures = record { run = r; batch = batch; results = results; failures = failures }

-- the searches have the same results, and runs that are alike
record AreLike (g h : Going) : Type 0 where
  runs : IsLike g.run h.run
  batches_are : g.batch ≡ h.batch
  results_are : g.results ≡ h.results
  failures_are : g.failures ≡ h.failures

-- what a step does to searches whose runs are alike it does to searches that are alike
respects : (step : Going → Going)
    → ((a b : Run) (batch results : List Partial) (failures : List Failure) → IsLike a b → AreLike (step (going_of a batch results failures)) (step (going_of b batch results failures)))
    → (g h : Going) → AreLike g h → AreLike (step g) (step h)
respects step same g h like =
    subst (λ (xs : List Partial). AreLike (step g) (step (going_of h.run xs h.results h.failures))) like.batches_are
    (subst (λ (xs : List Partial). AreLike (step g) (step (going_of h.run g.batch xs h.failures))) like.results_are
    (subst (λ (xs : List Failure). AreLike (step g) (step (going_of h.run g.batch g.results xs))) like.failures_are
    (same g.run h.run g.batch g.results g.failures like.runs)))

like-case : (o : Option Tripped) (next other g h : Going) → AreLike next other → AreLike g h → AreLike (unless_ended o next g) (unless_ended o other h)
like-case None next other g h first second = first
like-case (Some t) next other g h first second = second

like-ended : (o p : Option Tripped) (next other g h : Going) → o ≡ p → AreLike next other → AreLike g h → AreLike (unless_ended o next g) (unless_ended p other h)
like-ended o p next other g h same first second =
    subst (λ (q : Option Tripped). AreLike (unless_ended o next g) (unless_ended q other h)) same (like-case o next other g h first second)

module _ (l : Limits) (search : Search) where
  like-refused : (partial : Bool) (shard : ℕ) (t : Tripped) (a b : Run) (g h : Going) → IsLike a b → AreLike g h → AreLike (task_refused l search partial shard t a g) (task_refused l search partial shard t b h)
  like-refused false shard t a b g h like same = record { runs = like; batches_are = same.batches_are; results_are = same.results_are; failures_are = same.failures_are }
  like-refused true shard t a b g h like same = record {
    runs = record { holds = same.runs.holds; refused = refl };
    batches_are = same.batches_are;
    results_are = same.results_are;
    failures_are = ap (λ (fs : List Failure). fs ++ record { shard = shard; tripped = t } ∷ []) same.failures_are;
  }

  like-end : (o : Option Tripped) (task : Task) (a b : Run) (g h : Going) → IsLike a b → AreLike g h → AreLike (task_ended l search o task a g) (task_ended l search o task b h)
  like-end None task a b g h like same = record {
    runs = like;
    batches_are = ap (λ (ps : List Partial). ps ++ task.answer ∷ []) same.batches_are;
    results_are = same.results_are;
    failures_are = same.failures_are;
  }
  like-end (Some t) task a b g h like same = like-refused search.partial task.shard t a b g h like same

  like-task : (task : Task) (g h : Going) → AreLike g h → AreLike (after_task l search g task) (after_task l search h task)
  like-task task g h same =
      let after = like-run l (task_steps task) g.run h.run same.runs in
      like-ended g.run.refused h.run.refused _ _ g h same.runs.refused
      (subst (λ (o : Option Tripped). AreLike (task_ended l search (run l g.run (task_steps task)).refused task (run l g.run (task_steps task)) g) (task_ended l search o task (run l h.run (task_steps task)) h)) after.refused
      (like-end (run l g.run (task_steps task)).refused task (run l g.run (task_steps task)) (run l h.run (task_steps task)) g h after same)) same

  like-tasks : (tasks : List Task) (g h : Going) → AreLike g h → AreLike (after_tasks l search g tasks) (after_tasks l search h tasks)
  like-tasks [] g h same = same
  like-tasks (task ∷ rest) g h same = like-tasks rest (after_task l search g task) (after_task l search h task) (like-task task g h same)

  batch-of : (a b : Run) (batch results : List Partial) (failures : List Failure) → IsLike a b
      → AreLike (after_batch l search (going_of a batch results failures)) (after_batch l search (going_of b batch results failures))
  batch-of a b batch results failures like =
      like-ended a.refused b.refused _ _ (going_of a batch results failures) (going_of b batch results failures) like.refused
      (record { runs = like-run l (merge_steps l search batch) a b like; batches_are = refl; results_are = refl; failures_are = refl })
      (record { runs = like; batches_are = refl; results_are = refl; failures_are = refl })

  like-batch : (g h : Going) → AreLike g h → AreLike (after_batch l search g) (after_batch l search h)
  like-batch = respects (after_batch l search) batch-of

  like-batches : (parts : List (List Task)) (g h : Going) → AreLike g h → AreLike (after_batches l search g parts) (after_batches l search h parts)
  like-batches [] g h same = same
  like-batches (tasks ∷ rest) g h same =
      like-batches rest (after_batch l search (after_tasks l search g tasks)) (after_batch l search (after_tasks l search h tasks))
      (like-batch (after_tasks l search g tasks) (after_tasks l search h tasks) (like-tasks tasks g h same))

  last-of : (a b : Run) (batch results : List Partial) (failures : List Failure) → IsLike a b
      → AreLike (after_last l search (going_of a batch results failures)) (after_last l search (going_of b batch results failures))
  last-of a b batch results failures like =
      like-ended a.refused b.refused _ _ (going_of a batch results failures) (going_of b batch results failures) like.refused
      (record { runs = like-run l (merge_steps l search results) a b like; batches_are = refl; results_are = refl; failures_are = refl })
      (record { runs = like; batches_are = refl; results_are = refl; failures_are = refl })

  like-reduced : (size : ℕ) (tasks : List Task) (a b : Run) → IsLike a b → AreLike (reduced l search size a tasks) (reduced l search size b tasks)
  like-reduced size tasks a b like =
      respects (after_last l search) last-of (after_batches l search (begun a) (batches size tasks)) (after_batches l search (begun b) (batches size tasks))
      (like-batches (batches size tasks) (begun a) (begun b) (record { runs = like; batches_are = refl; results_are = refl; failures_are = refl }))

module _ (settings : Settings) (index : Index) where
  like-searched : (o : Option Search) (a b : Run) → IsLike a b → AreLike (searched settings index a o) (searched settings index b o)
  like-searched None a b like = record { runs = like; batches_are = refl; results_are = refl; failures_are = refl }
  like-searched (Some search) a b like = like-reduced settings.limits search settings.batch (tasks_of index search) a b like

  responded-of : (request : Request) (a b : Run) (batch results : List Partial) (failures : List Failure) → IsLike a b
      → AreLike (responded settings index request (going_of a batch results failures)) (responded settings index request (going_of b batch results failures))
  responded-of request a b batch results failures like = record {
    runs = like-run settings.limits (response_steps (outcome_with settings index request (going_of a batch results failures))) a b like;
    batches_are = refl;
    results_are = refl;
    failures_are = refl;
  }

  like-solo : (a b : Run) (request : Request) → IsLike a b → AreLike (solo_run settings index a request) (solo_run settings index b request)
  like-solo a b request like =
      respects (responded settings index request) (responded-of request) _ _
      (like-searched (running_search index settings.max_buckets request) _ _ (like-run settings.limits (charge_of AtInflight (2 * request.bytes)) a b like))

  answer-of : Request → Option Tripped → List Failure → Answered
  answer-of request refused failures = record { outcome = outcome_unless refused (outcome index settings.max_buckets request failures); failures = failures }

  -- the answer is that from any run that holds the same
  pub same-answer : (a b : Run) (request : Request) → IsLike a b → solo_answer settings index a request ≡ solo_answer settings index b request
  unfolding answer-of
  same-answer a b request like =
      let same = like-solo a b request like in
      ap (λ (o : Option Tripped). answer-of request o (solo_run settings index a request).failures) same.runs.refused
      ∙ ap (answer-of request (solo_run settings index b request).run.refused) same.failures_are

  -- after a request the worker holds what it held before it
  pub after-like : (start r : Run) (request : Request) → IsLike start r → start.refused ≡ None → IsLike (after_request settings index start request) r
  after-like start r request like none = record { holds = like.holds; refused = sym none ∙ like.refused }

  pub after-all-like : (start r : Run) (requests : List Request) → IsLike start r → start.refused ≡ None → IsLike (after_requests settings index start requests) r
  after-all-like start r [] like none = like
  after-all-like start r (request ∷ rest) like none =
      after-all-like (after_request settings index start request) r rest (after-like start r request like none) refl

  -- one request more
  pub after-more : (start : Run) (requests : List Request) (request : Request)
      → after_requests settings index start (requests ++ request ∷ []) ≡ after_request settings index (after_requests settings index start requests) request
  after-more start [] request = refl
  after-more start (r ∷ rest) request = after-more (after_request settings index start r) rest request

  -- requests behind others
  pub after-append : (start : Run) (requests more : List Request)
      → after_requests settings index start (requests ++ more) ≡ after_requests settings index (after_requests settings index start requests) more
  after-append start [] more = refl
  after-append start (r ∷ rest) more = after-append (after_request settings index start r) rest more
