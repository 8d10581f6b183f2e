-- What a whole search by one worker holds at its end, and that all of it is given back.
use Rattle.std.specs.Prelude.{◌≡◌, refl, ℕ, zero, suc, ◌+◌, ◌*◌, ◌-◌, ◌==◌, if◌then◌else◌, Bool, true, false, List, [], ◌∷◌, ◌++◌, map, length, take, drop, Option, Some, None}
use Rattle.std.specs.List.{AllByRecursion}
use Rattle.std.proofs.Common.{◌∙◌, ap, sym, subst, arith}
use Rattle.std.proofs.lemmas.Bool.{eqb-true}
use Rattle.agg_model.specs.declared.aggregation.Search.{Search}
use Rattle.agg_model.specs.declared.breaker.Child.TheVariants as child
use Rattle.agg_model.specs.declared.breaker.Limits.{Limits}
use Rattle.agg_model.specs.declared.breaker.Tripped.{Tripped}
use Rattle.agg_model.specs.declared.outcome.Outcome.{Outcome}
use Rattle.agg_model.specs.declared.outcome.Outcome.TheVariants as ended
use Rattle.agg_model.specs.declared.settings.Settings.{Settings}
use Rattle.agg_spec.specs.Charges.{Amounts, Step, Run, run, charge, charge_of, lowered}
use Rattle.agg_spec.specs.Index.{Index, shard_numbers}
use Rattle.agg_spec.specs.Outcome.{Request, running_search, response_length}
use Rattle.agg_spec.specs.Reduction.{Going, Task, task_of, tasks_of, unless_ended, after_task, after_tasks, after_batch, after_batches, after_last, begun, reduced, batches, merged, merge_steps}
use Rattle.agg_spec.specs.Solo.{body_charged, searched, response_steps, outcome_with, solo_run, after_request, after_requests}
use Rattle.answer_laws.specs.Held.{HoldsMore, IsPaid, costs_of}
use Rattle.answer_laws.proofs.Held.{granted-before, charge-held, charge_of-held}
use Rattle.answer_laws.proofs.SearchesHeld.{no-more, task-paid, stands-begun, batches-stand, last-stands}

module _ (limits : Limits) where
  -- a body's charge
  body-held : (r : Run) (n : ℕ) → (run limits r (charge_of child.Inflight n)).refused ≡ None → HoldsMore 0 n r.holds (run limits r (charge_of child.Inflight n)).holds
  body-held r n e = by_zero (n == 0) refl
    where
      steps : Bool → List Step
      steps b = if b then [] else charge child.Inflight n ∷ []

      by_zero : (b : Bool) → (n == 0) ≡ b → HoldsMore 0 n r.holds (run limits r (charge_of child.Inflight n)).holds
      by_zero true z =
          let nothing : n ≡ 0 = eqb-true n 0 z in
          subst (λ b. HoldsMore 0 n r.holds (run limits r (steps b)).holds) (sym z)
          (record { request = omega arith; fielddata = refl; inflight = omega arith; parent = omega arith })
      by_zero false z =
          let granted : (run limits r (charge child.Inflight n ∷ [])).refused ≡ None = sym (ap (λ b. (run limits r (steps b)).refused) z) ∙ e in
          subst (λ b. HoldsMore 0 n r.holds (run limits r (steps b)).holds) (sym z)
          (subst (λ (q : Run). HoldsMore 0 n r.holds q.holds) (sym (charge-held limits r child.Inflight n [] granted))
          (record { request = omega arith; fielddata = refl; inflight = refl; parent = omega arith }))

  response-held : (o : Outcome) (r : Run) → (run limits r (response_steps o)).refused ≡ None → HoldsMore (response_length o) 0 r.holds (run limits r (response_steps o)).holds
  response-held (ended.Response line) r granted = charge_of-held limits r (length line) granted
  response-held (ended.Refused e) r granted = no-more r.holds
  response-held (ended.Tripped t) r granted = no-more r.holds
  response-held ended.Memory r granted = no-more r.holds

  -- behind a batch none is open
  module _ (search : Search) where
    batch-done : (going : Going) → (after_batch limits search going).run.refused ≡ None → (after_batch limits search going).batch ≡ []
    batch-done going granted = by_refusal going.run.refused refl
      where
        next : Going
        next = record going { run = run limits going.run (merge_steps limits search going.batch); batch = []; results = going.results ++ merged limits search going.batch }

        by_refusal : (o : Option Tripped) → going.run.refused ≡ o → (after_batch limits search going).batch ≡ []
        by_refusal None same = ap (λ o. (unless_ended o next going).batch) same
        by_refusal (Some t) same =
            let stays : Some t ≡ None = sym same ∙ (sym (ap (λ o. (unless_ended o next going).run.refused) same) ∙ granted) in
            absurd (let no : ⊥ = cc in no)

    batches-done : (going : Going) (parts : List (List Task)) → (going.run.refused ≡ None → going.batch ≡ [])
        → (after_batches limits search going parts).run.refused ≡ None → (after_batches limits search going parts).batch ≡ []
    batches-done going [] done granted = done granted
    batches-done going (tasks ∷ rest) done granted =
        batches-done (after_batch limits search (after_tasks limits search going tasks)) rest (batch-done (after_tasks limits search going tasks)) granted

    last-done : (going : Going) → (going.run.refused ≡ None → going.batch ≡ []) → (after_last limits search going).run.refused ≡ None → (after_last limits search going).batch ≡ []
    last-done going done granted = by_refusal going.run.refused refl
      where
        next : Going
        next = record going { run = run limits going.run (merge_steps limits search going.results); results = merged limits search going.results }

        by_refusal : (o : Option Tripped) → going.run.refused ≡ o → (after_last limits search going).batch ≡ []
        by_refusal None same = ap (λ o. (unless_ended o next going).batch) same ∙ done same
        by_refusal (Some t) same =
            let stays : Some t ≡ None = sym same ∙ (sym (ap (λ o. (unless_ended o next going).run.refused) same) ∙ granted) in
            absurd (let no : ⊥ = cc in no)

    -- a search that is not refused was not before
    unless-before : (next going : Going) → (unless_ended going.run.refused next going).run.refused ≡ None → going.run.refused ≡ None
    unless-before next going granted = by_refusal going.run.refused refl
      where
        by_refusal : (o : Option Tripped) → going.run.refused ≡ o → going.run.refused ≡ None
        by_refusal None same = same
        by_refusal (Some t) same =
            let stays : Some t ≡ None = sym same ∙ (sym (ap (λ o. (unless_ended o next going).run.refused) same) ∙ granted) in
            absurd (let no : ⊥ = cc in no)

    tasks-before : (going : Going) (tasks : List Task) → (after_tasks limits search going tasks).run.refused ≡ None → going.run.refused ≡ None
    tasks-before going [] granted = granted
    tasks-before going (task ∷ rest) granted = unless-before _ going (tasks-before (after_task limits search going task) rest granted)

    batches-before : (going : Going) (parts : List (List Task)) → (after_batches limits search going parts).run.refused ≡ None → going.run.refused ≡ None
    batches-before going [] granted = granted
    batches-before going (tasks ∷ rest) granted =
        tasks-before going tasks (unless-before _ (after_tasks limits search going tasks)
        (batches-before (after_batch limits search (after_tasks limits search going tasks)) rest granted))

    reduced-before : (size : ℕ) (start : Run) (tasks : List Task) → (reduced limits search size start tasks).run.refused ≡ None → start.refused ≡ None
    reduced-before size start tasks granted =
        batches-before (begun start) (batches size tasks) (unless-before _ (after_batches limits search (begun start) (batches size tasks)) granted)

    reduced-held : (size : ℕ) (start : Run) (tasks : List Task) → AllByRecursion (AllByRecursion (IsPaid search)) (batches size tasks)
        → (reduced limits search size start tasks).run.refused ≡ None
        → HoldsMore (costs_of (reduced limits search size start tasks).results) 0 start.holds (reduced limits search size start tasks).run.holds
    reduced-held size start tasks paid granted =
        let open_batch = after_batches limits search (begun start) (batches size tasks) in
        let stands = last-stands limits search start.holds open_batch (batches-stand limits search start.holds (begun start) (batches size tasks) paid (stands-begun search start)) granted in
        let done = last-done open_batch (batches-done (begun start) (batches size tasks) (λ none. refl)) granted in
        let nothing : costs_of (reduced limits search size start tasks).batch ≡ 0 = ap costs_of done in
        let h1 = stands.held.request in let h4 = stands.held.parent in
        record { request = omega (arith, nothing); fielddata = stands.held.fielddata; inflight = stands.held.inflight; parent = omega (arith, nothing) }

-- each task of a search is paid, in whatever batches they stand
all-drop : {A : Type 0} (P : A → Type 0) (n : ℕ) (xs : List A) → AllByRecursion P xs → AllByRecursion P (drop n xs)
all-drop P zero xs all = all
all-drop P (suc n) [] all = tt
all-drop P (suc n) (x ∷ xs) (first, rest) = all-drop P n xs rest

all-take : {A : Type 0} (P : A → Type 0) (n : ℕ) (xs : List A) → AllByRecursion P xs → AllByRecursion P (take n xs)
all-take P zero xs all = tt
all-take P (suc n) [] all = tt
all-take P (suc n) (x ∷ xs) (first, rest) = (first, all-take P n xs rest)

tasks-paid : (index : Index) (search : Search) (shards : List ℕ) → AllByRecursion (IsPaid search) (map (task_of index search) shards)
tasks-paid index search [] = tt
tasks-paid index search (shard ∷ shards) = (task-paid index search shard, tasks-paid index search shards)

batches-paid : (search : Search) (size : ℕ) (tasks : List Task) (places : List ℕ) → AllByRecursion (IsPaid search) tasks
    → AllByRecursion (AllByRecursion (IsPaid search)) (map (λ i. take size (drop (i * size) tasks)) places)
batches-paid search size tasks [] paid = tt
batches-paid search size tasks (i ∷ places) paid =
    (all-take (IsPaid search) size (drop (i * size) tasks) (all-drop (IsPaid search) (i * size) tasks paid), batches-paid search size tasks places paid)

module _ (settings : Settings) (index : Index) where
  searched-held : (start : Run) (o : Option Search) → (searched settings index start o).run.refused ≡ None
      → HoldsMore (costs_of (searched settings index start o).results) 0 start.holds (searched settings index start o).run.holds
  searched-held start None granted = no-more start.holds
  searched-held start (Some search) granted =
      reduced-held settings.limits search settings.batch start (tasks_of index search)
      (batches-paid search settings.batch (tasks_of index search) _ (tasks-paid index search (shard_numbers index))) granted

  searched-before : (start : Run) (o : Option Search) → (searched settings index start o).run.refused ≡ None → start.refused ≡ None
  searched-before start None granted = granted
  searched-before start (Some search) granted = reduced-before settings.limits search settings.batch start (tasks_of index search) granted

  -- at its end a request holds its body, its results and its response
  pub solo-held : (start : Run) (request : Request) → (solo_run settings index start request).run.refused ≡ None
      → HoldsMore (costs_of (solo_run settings index start request).results + response_length (outcome_with settings index request (solo_run settings index start request)))
      (2 * request.bytes) start.holds (solo_run settings index start request).run.holds
  solo-held start request granted =
      let body = body_charged settings index start request in
      let going = searched settings index body (running_search index settings.max_buckets request) in
      let granted_search = granted-before settings.limits going.run (response_steps (outcome_with settings index request going)) granted in
      let last = response-held settings.limits (outcome_with settings index request going) going.run granted in
      let middle = searched-held body (running_search index settings.max_buckets request) granted_search in
      let first = body-held settings.limits start (2 * request.bytes) (searched-before body (running_search index settings.max_buckets request) granted_search) in
      let a1 = first.request in let a3 = first.inflight in let a4 = first.parent in
      let b1 = middle.request in let b3 = middle.inflight in let b4 = middle.parent in
      let c1 = last.request in let c3 = last.inflight in let c4 = last.parent in
      record { request = omega arith; fielddata = last.fielddata ∙ (middle.fielddata ∙ first.fielddata); inflight = omega arith; parent = omega arith }

abbrev amounts : ℕ → ℕ → ℕ → ℕ → Amounts
amounts request fielddata inflight parent = record { request = request; fielddata = fielddata; inflight = inflight; parent = parent }

same-amounts : {a b c d e f g h : ℕ} → a ≡ e → b ≡ f → c ≡ g → d ≡ h → amounts a b c d ≡ amounts e f g h
same-amounts {a} {b} {c} {d} {e} {f} {g} {h} ea eb ec ed =
    ap (λ n. amounts n b c d) ea ∙ (ap (λ n. amounts e n c d) eb ∙ (ap (λ n. amounts e f n d) ec ∙ ap (λ n. amounts e f g n) ed))

-- what is more is given back
pub more-given_back : (a i : ℕ) (before now : Amounts) → HoldsMore a i before now → lowered child.Inflight i (lowered child.Request a now) ≡ before
more-given_back a i before now more =
    let m1 = more.request in let m2 = more.fielddata in let m3 = more.inflight in let m4 = more.parent in
    let e1 : now.request - a ≡ before.request = omega arith in
    let e3 : now.inflight - i ≡ before.inflight = omega arith in
    let e4 : now.parent - a - i ≡ before.parent = omega arith in
    same-amounts e1 m2 e3 e4

-- requests one after another leave what was held
pub requests-hold : (settings : Settings) (index : Index) (start : Run) (requests : List Request) → (after_requests settings index start requests).holds ≡ start.holds
requests-hold settings index start [] = refl
requests-hold settings index start (r ∷ rest) = requests-hold settings index (after_request settings index start r) rest
