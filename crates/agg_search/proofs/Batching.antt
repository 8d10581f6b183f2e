-- A batch of tasks and its merge, and all batches one after another.
use Rattle.std.specs.Prelude.{◌≡◌, refl, ℕ, suc, ◌+◌, ◌-◌, ◌*◌, ◌/◌, ◌<◌, ◌≤◌, ◌⊎◌, min, not, List, [], ◌∷◌, ◌++◌, drop, filter, flat_map, length, map, option_to_list, sum_by, take, Option, Some, None, Result, Ok, Err, IfErr, IfOk, OnOk, IsTrue}
use Rattle.std.specs.List.{AllByRecursion, range_with_len}
use Rattle.std.proofs.Common.{◌∙◌, sym, ap, subst, arith, append_assoc, inl, inr}
use Rattle.std.proofs.lemmas.Bool.{cases_lt}
use Rattle.std.proofs.lemmas.List.{map-append, length-map}
use Rattle.std.proofs.lemmas.List.FromFn.{length-range_with_len}
use Rattle.std.proofs.lemmas.List.Sums.{sum_by-append}
use Rattle.agg_evaluation.specs.SearchFits.{search_fits}
use Rattle.agg_evaluation.specs.Shard.{shard_answer}
use Rattle.agg_evaluation.specs.Whole.{whole}
use Rattle.agg_evaluation.proofs.SearchLaws.{whole-alone}
use Rattle.agg_evaluation.proofs.TreeLaws.{shard_answer-is_result}
use Rattle.agg_model.specs.declared.aggregation.Search.{Search}
use Rattle.cache_spec.specs.declared.shard_search.ShardSearch.{ShardSearch}
use Rattle.agg_model.specs.declared.breaker.Limits.{Limits}
use Rattle.agg_model.specs.declared.breaker.Tripped.{Tripped}
use Rattle.agg_model.specs.declared.partial.Partial.{Partial}
use Rattle.cache_spec.proofs.CachedLaws.{cached-batches-append}
use Rattle.cache_spec.specs.Cache.{Cached, after_cached_batches, after_cached_tasks, on_going, reduced_cached}
use Rattle.agg_spec.specs.Charges.{Run, run}
use Rattle.agg_spec.specs.Index.{Index, rows_in, shard_numbers}
use Rattle.agg_spec.specs.Outcome.{shard_answers, whole_of, whole_unless_none}
use Rattle.agg_spec.specs.Reduction.{Going, Task, after_batch, after_last, batches, begun, merge_steps, merged, task_of, tasks_of, unless_ended}
use Rattle.batch_reduce.specs.Parts.{AreParts}
use Rattle.breaker_words.specs.declared.view.View.{View}
use Rattle.solo_charges.specs.Ends.{IsEnded}
use Rattle.solo_charges.specs.Standing.{Before, StandsAt}
use Rattle.agg_spec.specs.Failures.{has_failed, unfailed}
use Rattle.shard_columns.specs.Columns.{Columns}
use Rattle.shard_columns.specs.declared.index.Index.{Index as ShardIndex}
use Rattle.fitting_laws.specs.Indexes.{index_of}
use Rattle.agg_search.specs.Progressing.{Follows, IsAt, IsStopped, StopsIn, cached_at, going_at}
use Rattle.agg_search.specs.Reached.{HasReached}
use Rattle.agg_search.specs.Reducing.{IsReduced, Reduces, StopsReducing}
use Rattle.agg_search.specs.Stops.{IfRefused}
use Rattle.agg_search.specs.declared.progress.Progress.{Progress}
use Rattle.agg_search.specs.declared.stop.Stop.{Stop}
use Rattle.agg_search.specs.declared.stop.Stop.TheVariants as stop
use Rattle.agg_search.proofs.Following.{batches-inert, follow-then, follows-as, stop-then, stopped-stays, stops-as}
use Rattle.agg_search.proofs.Numbers.{drop-map, drop-range, range-append, range-push, take-map, take-range, take-range-all}
use Rattle.list_laws.specs.Among.{AreAmong}
use Rattle.list_laws.proofs.Among.{among-part}
use Rattle.agg_search.proofs.Parts.{among-left, batch-parts, result-parts, whole-joined}

-- numbers among some first ones are among more of them
pub among-more : (m n : ℕ) (ns : List ℕ) → m ≤ n → AreAmong m ns → AreAmong n ns
among-more m n ns le among f =
    let parts = ap (range_with_len 0) (let e : n ≡ m + (n - m) = omega arith in e) ∙ range-append 0 m (n - m) in
    let sums = ap (sum_by f) parts ∙ sum_by-append f (range_with_len 0 m) (range_with_len (0 + m) (n - m)) in
    let here = among f in omega (arith, sums, here)

-- a group of the shards that wait, where there are some
abbrev pub group_of : List ℕ → List (List ℕ)
group_of [] = []
group_of (n ∷ ns) = (n ∷ ns) ∷ []

all-append : {A : Type 0} (P : A → Type 0) (xs ys : List A) → AllByRecursion P xs → AllByRecursion P ys → AllByRecursion P (xs ++ ys)
all-append P [] ys all more = more
all-append P (x ∷ xs) ys (first, rest) more = (first, all-append P xs ys rest more)

append-nothing : {A : Type 0} (xs : List A) → xs ++ [] ≡ xs
append-nothing [] = refl
append-nothing (x ∷ xs) = ap (λ ys. x ∷ ys) (append-nothing xs)

pub flat-append : (a b : List (List ℕ)) → flat_map (λ group. group) (a ++ b) ≡ flat_map (λ group. group) a ++ flat_map (λ group. group) b
flat-append [] b = refl
flat-append (x ∷ xs) b = ap (λ ns. x ++ ns) (flat-append xs b) ∙ sym (append_assoc x (flat_map (λ group. group) xs) (flat_map (λ group. group) b))

group-some : (ns : List ℕ) → AllByRecursion (λ (group : List ℕ). 1 ≤ length group) (group_of ns)
group-some [] = tt
group-some (n ∷ ns) = (omega arith, tt)

group-flat : (ns : List ℕ) → flat_map (λ group. group) (group_of ns) ≡ ns
group-flat [] = refl
group-flat (n ∷ ns) = append-nothing (n ∷ ns)

-- what a batch comes to
group-merged : (l : Limits) (index : Index) (search : Search) (ns : List ℕ) → merged l search (shard_answers index search ns) ≡ map (whole_of index search) (group_of ns)
group-merged l index search [] = refl
group-merged l index search (n ∷ []) = ap (λ p. p ∷ []) (sym (whole-alone search (shard_answer search (rows_in index n)) (shard_answer-is_result search (rows_in index n))))
group-merged l index search (n ∷ k ∷ ns) = refl

module _ (l : Limits) (index : Index) (search : Search) where
  -- once the batch is merged
  pub reached-merged : (done : ℕ) (old : Progress) (whole : Option Partial) (reached : HasReached index search done old) → option_to_list whole ≡ merged l search old.batch
      → HasReached index search done (record { batch = []; results = old.results ++ option_to_list whole; failures = old.failures })
  reached-merged done old whole reached is = record {
    groups = reached.groups ++ group_of reached.waiting;
    waiting = [];
    some_each = all-append (λ (group : List ℕ). 1 ≤ length group) reached.groups (group_of reached.waiting) reached.some_each (group-some reached.waiting);
    results_are = ap (λ ps. old.results ++ ps) (is ∙ ap (merged l search) reached.batch_is ∙ group-merged l index search reached.waiting)
        ∙ ap (λ ps. ps ++ map (whole_of index search) (group_of reached.waiting)) reached.results_are
        ∙ sym (map-append (whole_of index search) reached.groups (group_of reached.waiting));
    batch_is = refl;
    left = append-nothing (flat_map (λ group. group) (reached.groups ++ group_of reached.waiting))
        ∙ flat-append reached.groups (group_of reached.waiting)
        ∙ ap (λ ns. flat_map (λ group. group) reached.groups ++ ns) (group-flat reached.waiting)
        ∙ reached.left;
    failures_are = reached.failures_are;
  }

  abbrev after-merge : Run → Progress → Going
  after-merge r old = record { run = run l r (merge_steps l search old.batch); batch = []; results = old.results ++ merged l search old.batch; failures = old.failures }

  batch-begins : (r : Run) (old : Progress) → r.refused ≡ None → after_batch l search (going_at r old) ≡ after-merge r old
  batch-begins r old none = ap (λ o. unless_ended o (after-merge r old) (going_at r old)) none

  pub batch-follows : (w u : View) (old : Progress) (kept : List ShardSearch) (whole : Option Partial) → option_to_list whole ≡ merged l search old.batch
      → ((before : Before) (r : Run) → StandsAt before w r → StandsAt before u (run l r (merge_steps l search old.batch)))
      → Follows (on_going (after_batch l search)) w old kept u (record { batch = []; results = old.results ++ option_to_list whole; failures = old.failures }) kept
  batch-follows w u old kept whole is stands before r at =
      subst (λ g. IsAt before u (record { going = g; entries = kept }) (record { batch = []; results = old.results ++ option_to_list whole; failures = old.failures }) kept)
      (sym (batch-begins r old at.going))
      (record {
        stands = stands before r at;
        is = ap (λ ps. record { going = record { run = run l r (merge_steps l search old.batch); batch = []; results = old.results ++ ps; failures = old.failures }; entries = kept }) (sym is);
      })

  pub batch-stops : (w u : View) (old now : Progress) (kept : List ShardSearch) (t : Tripped) → now.failures ≡ old.failures
      → ((before : Before) (r : Run) → StandsAt before w r → IsEnded before u (run l r (merge_steps l search old.batch)) t)
      → StopsIn (on_going (after_batch l search)) w old kept u now kept t
  batch-stops w u old now kept t same ends before r at =
      subst (λ g. IsStopped before u (record { going = g; entries = kept }) now.failures kept t) (sym (batch-begins r old at.going))
      (record { ended = ends before r at; failures_are = sym same; entries_are = refl })

  pub batch-stops-if : (s : Stop) (v w u : View) (f : Cached → Cached) (first old now : Progress) (kept between : List ShardSearch) → now.failures ≡ old.failures
      → Follows f v first kept w old between
      → IfRefused s (λ t. (before : Before) (r : Run) → StandsAt before w r → IsEnded before u (run l r (merge_steps l search old.batch)) t)
      → IfRefused s (StopsIn (λ c. on_going (after_batch l search) (f c)) v first kept u now between)
  batch-stops-if stop.Memory v w u f first old now kept between same follows ends = tt
  batch-stops-if (stop.Refused t) v w u f first old now kept between same follows ends =
      stop-then f (on_going (after_batch l search)) v w u first old now kept between between t follows (batch-stops w u old now between t same ends)

  -- the batches of all tasks
  module _ (capacity size : ℕ) (some : 1 ≤ size) where
    abbrev shards : ℕ
    shards = length index.shards

    abbrev pub chunk : ℕ → List Task
    chunk i = take size (drop (i * size) (tasks_of index search))

    abbrev pub chunks : ℕ → List (List Task)
    chunks n = map chunk (range_with_len 0 n)

    pub chunk-is : (i to : ℕ) → i * size ≤ shards → to ≡ min shards (i * size + size) → chunk i ≡ map (task_of index search) (range_with_len (i * size) (to - i * size))
    chunk-is i to within e =
        ap (take size) (drop-map (task_of index search) (i * size) (range_with_len 0 shards) ∙ ap (map (task_of index search)) (drop-range 0 shards (i * size)))
        ∙ take-map (task_of index search) size (range_with_len (0 + i * size) (shards - i * size))
        ∙ ap (map (task_of index search)) (first-part (cases_lt (shards - i * size) size) ∙ ap (λ a. range_with_len a (to - i * size)) (let z : 0 + i * size ≡ i * size = omega arith in z))
      where
        first-part : ((shards - i * size) < size) ⊎ (size ≤ (shards - i * size)) → take size (range_with_len (0 + i * size) (shards - i * size)) ≡ range_with_len (0 + i * size) (to - i * size)
        first-part (inl less) =
            take-range-all (0 + i * size) (shards - i * size) size (omega arith) ∙ ap (range_with_len (0 + i * size)) (let same : shards - i * size ≡ to - i * size = omega arith in same)
        first-part (inr more) =
            take-range (0 + i * size) (shards - i * size) size more ∙ ap (range_with_len (0 + i * size)) (let same : size ≡ to - i * size = omega arith in same)

    count-is : batches size (tasks_of index search) ≡ chunks ((shards + size - 1) / size)
    count-is = ap (λ n. chunks ((n + size - 1) / size)) (length-map (shard_numbers index) (task_of index search) ∙ length-range_with_len 0 shards)

    abbrev pub batches_to : ℕ → Cached → Cached
    batches_to n c = after_cached_batches capacity l search c (chunks n)

    abbrev pub one_batch : ℕ → Cached → Cached
    one_batch i c = on_going (after_batch l search) (after_cached_tasks capacity l search c (chunk i))

    to-next : (n : ℕ) (c : Cached) → one_batch n (batches_to n c) ≡ batches_to (suc n) c
    to-next n c =
        sym (ap (λ ns. after_cached_batches capacity l search c (map chunk ns)) (range-push 0 n ∙ ap (λ k. range_with_len 0 n ++ k ∷ []) (let z : 0 + n ≡ n = omega arith in z))
        ∙ ap (after_cached_batches capacity l search c) (map-append chunk (range_with_len 0 n) (n ∷ []))
        ∙ cached-batches-append capacity l search c (chunks n) (chunk n ∷ []))

    to-end : (n m : ℕ) (c : Cached) → after_cached_batches capacity l search (batches_to n c) (map chunk (range_with_len (0 + n) m)) ≡ batches_to (n + m) c
    to-end n m c =
        sym (ap (λ ns. after_cached_batches capacity l search c (map chunk ns)) (range-append 0 n m)
        ∙ ap (after_cached_batches capacity l search c) (map-append chunk (range_with_len 0 n) (range_with_len (0 + n) m))
        ∙ cached-batches-append capacity l search c (chunks n) (map chunk (range_with_len (0 + n) m)))

    pub all-follow : (n : ℕ) (v u : View) (old now : Progress) (kept keeps : List ShardSearch) → n ≡ (shards + size - 1) / size → Follows (batches_to n) v old kept u now keeps
        → Follows (λ c. after_cached_batches capacity l search c (batches size (tasks_of index search))) v old kept u now keeps
    all-follow n v u old now kept keeps e follows =
        follows-as (batches_to n) (λ c. after_cached_batches capacity l search c (batches size (tasks_of index search))) v u old now kept keeps
        (λ c. ap (λ k. batches_to k c) e ∙ ap (after_cached_batches capacity l search c) (sym count-is)) follows

    module _ (v w u : View) (old middle now : Progress) (kept between keeps : List ShardSearch) (n next : ℕ) (next_is : next ≡ suc n) (before : Follows (batches_to n) v old kept w middle between) where
      pub one-batch-more : Follows (one_batch n) w middle between u now keeps → Follows (batches_to next) v old kept u now keeps
      one-batch-more one =
          let all = follows-as (λ c. one_batch n (batches_to n c)) (batches_to (suc n)) v u old now kept keeps (to-next n) (follow-then (batches_to n) (one_batch n) v w u old middle now kept between keeps before one) in
          subst (λ k. Follows (batches_to k) v old kept u now keeps) (sym next_is) all

      pub batch-stopped : (s : Stop) → next ≤ (shards + size - 1) / size → IfRefused s (StopsIn (one_batch n) w middle between u now keeps)
          → IfRefused s (StopsIn (λ c. after_cached_batches capacity l search c (batches size (tasks_of index search))) v old kept u now keeps)
      batch-stopped stop.Memory le stops = tt
      batch-stopped (stop.Refused t) le stops =
          let count = (shards + size - 1) / size in
          let here = stops-as (λ c. one_batch n (batches_to n c)) (batches_to (suc n)) v u old now kept keeps t (to-next n) (stop-then (batches_to n) (one_batch n) v w u old middle now kept between keeps t before stops) in
          let rest = map chunk (range_with_len (0 + suc n) (count - suc n)) in
          let at_end = stopped-stays (batches_to (suc n)) (λ c. after_cached_batches capacity l search c rest) v u old now kept keeps t (batches-inert capacity l search rest) here in
          let same : suc n + (count - suc n) ≡ count = omega arith in
          stops-as (λ c. after_cached_batches capacity l search (batches_to (suc n) c) rest) (λ c. after_cached_batches capacity l search c (batches size (tasks_of index search))) v u old now kept keeps t
          (λ c. to-end (suc n) (count - suc n) c ∙ ap (λ k. batches_to k c) same ∙ ap (after_cached_batches capacity l search c) (sym count-is)) at_end

-- the results that wait are parts of a merge
pub waiting-parts : (index : ShardIndex) (search : Search) → IsTrue (search_fits index.mapping search) → (done : ℕ) (p : Progress) → done ≤ length index.shards → HasReached (index_of index) search done p
    → AreParts search p.batch
waiting-parts index search made done p le reached =
    let among : AreAmong done (flat_map (λ group. group) reached.groups ++ reached.waiting) = subst (AreAmong done) (sym reached.left) (among-left p.failures done) in
    let own : AreAmong done reached.waiting = among-part done (flat_map (λ group. group) reached.groups) reached.waiting [] (subst (AreAmong done) (sym (append-nothing (flat_map (λ group. group) reached.groups ++ reached.waiting))) among) in
    subst (AreParts search) (sym reached.batch_is) (batch-parts index search made reached.waiting (among-more done (length index.shards) reached.waiting le own))

-- what is told of parts is told of the batch that they were
module _ (l : Limits) (search : Search) (w u : View) (parts batch : List Partial) (same : parts ≡ batch) (are : AreParts search batch) where
  pub stands-at : (AreParts search parts → (before : Before) (r : Run) → StandsAt before w r → StandsAt before u (run l r (merge_steps l search parts)))
      → (before : Before) (r : Run) → StandsAt before w r → StandsAt before u (run l r (merge_steps l search batch))
  stands-at told before r at =
      subst (λ (ps : List Partial). StandsAt before u (run l r (merge_steps l search ps))) same (told (subst (AreParts search) (sym same) are) before r at)

  pub stops-at : (s : Stop) → IfRefused s (λ t. (search : Search) → AreParts search parts → (before : Before) (r : Run) → StandsAt before w r → IsEnded before u (run l r (merge_steps l search parts)) t)
      → IfRefused s (λ t. (before : Before) (r : Run) → StandsAt before w r → IsEnded before u (run l r (merge_steps l search batch)) t)
  stops-at stop.Memory told = tt
  stops-at (stop.Refused t) told = λ before r at.
      subst (λ (ps : List Partial). IsEnded before u (run l r (merge_steps l search ps)) t) same (told search (subst (AreParts search) (sym same) are) before r at)

abbrev pub batches_before : ℕ → Limits → Index → Search → ℕ → ℕ → Cached → Cached
batches_before capacity l index search size n c = after_cached_batches capacity l search c (map (λ i. take size (drop (i * size) (tasks_of index search))) (range_with_len 0 n))

pub rows-count : (index : ShardIndex) → length (index_of index).shards ≡ length index.shards
rows-count index = length-map index.shards (λ (s : Columns). s.rows)

-- each batch begins before the end
pub start-within : (n size k : ℕ) → 1 ≤ size → n < (k + size - 1) / size → n * size ≤ k
start-within n size k some below =
    let most : (n + 1) * size ≤ ((k + size - 1) / size) * size = grind arith in
    let whole : ((k + size - 1) / size) * size ≤ k + size - 1 = grind arith in
    omega arith

pub end-covers : (size k : ℕ) → 1 ≤ size → k ≤ ((k + size - 1) / size) * size
end-covers size k some = grind arith

module _ (capacity : ℕ) (l : Limits) (index : ShardIndex) (search : Search) (size : ℕ) (some : 1 ≤ size) (n to : ℕ) (below : n < (length index.shards + size - 1) / size) (to_is : to ≡ min (length index.shards) (n * size + size)) where
  abbrev tasks_in : List Task
  tasks_in = map (task_of (index_of index) search) (range_with_len (n * size) (to - n * size))

  this-chunk : chunk l (index_of index) search capacity size some n ≡ tasks_in
  this-chunk =
      let count = rows-count index in let within = start-within n size (length index.shards) some below in
      chunk-is l (index_of index) search capacity size some n to (omega arith) (omega arith)

  abbrev in_batch : List Task → Cached → Cached
  in_batch ts c = on_going (after_batch l search) (after_cached_tasks capacity l search c ts)

  pub as-chunk : (w u : View) (middle now : Progress) (kept keeps : List ShardSearch) → Follows (in_batch tasks_in) w middle kept u now keeps
      → Follows (one_batch l (index_of index) search capacity size some n) w middle kept u now keeps
  as-chunk w u middle now kept keeps follows = subst (λ ts. Follows (in_batch ts) w middle kept u now keeps) (sym this-chunk) follows

  pub as-chunk-stops : (s : Stop) (w u : View) (middle now : Progress) (kept keeps : List ShardSearch) → IfRefused s (StopsIn (in_batch tasks_in) w middle kept u now keeps)
      → IfRefused s (StopsIn (one_batch l (index_of index) search capacity size some n) w middle kept u now keeps)
  as-chunk-stops s w u middle now kept keeps stops = subst (λ ts. IfRefused s (StopsIn (in_batch ts) w middle kept u now keeps)) (sym this-chunk) stops

-- all shards that did not fail, once the results of the batches are merged
module _ (l : Limits) (index : ShardIndex) (search : Search) (made : IsTrue (search_fits index.mapping search)) (p : Progress) (reached : HasReached (index_of index) search (length index.shards) p) (none : p.batch ≡ []) where
  nobody-waits : (ns : List ℕ) → shard_answers (index_of index) search ns ≡ [] → ns ≡ []
  nobody-waits [] e = refl
  nobody-waits (n ∷ ns) e = absurd (let no : ⊥ = cc in no)

  waits : reached.waiting ≡ []
  waits = nobody-waits reached.waiting (sym reached.batch_is ∙ none)

  left-is : flat_map (λ group. group) reached.groups ≡ unfailed (index_of index) p.failures
  left-is =
      sym (append-nothing (flat_map (λ group. group) reached.groups)) ∙ ap (λ ns. flat_map (λ group. group) reached.groups ++ ns) (sym waits) ∙ reached.left
      ∙ ap (λ n. filter (λ shard. not (has_failed p.failures shard)) (range_with_len 0 n)) (sym (rows-count index))

  pub last-parts : AreParts search p.results
  last-parts =
      subst (AreParts search) (sym reached.results_are)
      (result-parts index search made reached.groups
      (subst (AreAmong (length index.shards)) (sym (sym (append-nothing (flat_map (λ group. group) reached.groups)) ∙ ap (λ ns. flat_map (λ group. group) reached.groups ++ ns) (sym waits) ∙ reached.left))
      (among-left p.failures (length index.shards))))

  some-left : (g : List ℕ) (gs : List (List ℕ)) → 1 ≤ length g → Some (whole_of (index_of index) search (flat_map (λ group. group) (g ∷ gs))) ≡ whole_unless_none (index_of index) search (flat_map (λ group. group) (g ∷ gs))
  some-left [] gs some = absurd (omega arith)
  some-left (n ∷ ns) gs some = refl

  one-option : (o : Option Partial) (q : Partial) → option_to_list o ≡ q ∷ [] → o ≡ Some q
  one-option None q e = absurd (let no : ⊥ = cc in no)
  one-option (Some x) q e = let same : x ≡ q = cc in ap (λ y. Some y) same

  no-option : (o : Option Partial) → option_to_list o ≡ [] → o ≡ None
  no-option None e = refl
  no-option (Some x) e = absurd (let no : ⊥ = cc in no)

  by-groups : (groups : List (List ℕ)) → AllByRecursion (λ (group : List ℕ). 1 ≤ length group) groups → (o : Option Partial)
      → option_to_list o ≡ merged l search (map (whole_of (index_of index) search) groups) → o ≡ whole_unless_none (index_of index) search (flat_map (λ group. group) groups)
  by-groups [] each o e = no-option o e
  by-groups (g ∷ []) (first, rest) o e =
      one-option o (whole_of (index_of index) search g) e
      ∙ ap (λ ns. Some (whole_of (index_of index) search ns)) (sym (append-nothing g)) ∙ some-left g [] first
  by-groups (g ∷ h ∷ gs) (first, rest) o e =
      one-option o (whole search (map (whole_of (index_of index) search) (g ∷ h ∷ gs))) e
      ∙ ap (λ q. Some q) (whole-joined index search made (g ∷ h ∷ gs)) ∙ some-left g (h ∷ gs) first

  pub last-whole : (o : Option Partial) → option_to_list o ≡ merged l search p.results → o ≡ whole_unless_none (index_of index) search (unfailed (index_of index) p.failures)
  last-whole o e =
      by-groups reached.groups reached.some_each o (e ∙ ap (merged l search) reached.results_are)
      ∙ ap (whole_unless_none (index_of index) search) left-is

-- the last merge, behind all batches
module _ (capacity : ℕ) (l : Limits) (search : Search) (size : ℕ) (tasks : List Task) (v w u : View) (old p : Progress) (kept keeps : List ShardSearch)
    (empty : old ≡ record { batch = []; results = []; failures = [] })
    (follows : Follows (λ c. after_cached_batches capacity l search c (batches size tasks)) v old kept w p keeps) where
  abbrev last-merge : Run → Going
  last-merge r = record { run = run l r (merge_steps l search p.results); batch = p.batch; results = merged l search p.results; failures = p.failures }

  abbrev from_start : Run → Cached
  from_start r = record { going = begun r; entries = kept }

  at-last : (before : Before) (r : Run) → StandsAt before v r
      → (q : Run) × ((StandsAt before w q) × (reduced_cached capacity l search size (from_start r) tasks ≡ record { going = last-merge q; entries = keeps }))
  at-last before r stands =
      let at = subst (λ (o : Progress). IsAt before w (after_cached_batches capacity l search (cached_at r o kept) (batches size tasks)) p keeps) empty (follows before r stands) in
      let c = after_cached_batches capacity l search (from_start r) (batches size tasks) in (
        c.going.run,
        (
          at.stands,
          ap (on_going (after_last l search)) at.is
              ∙ ap (λ o. record { going = unless_ended o (last-merge c.going.run) (going_at c.going.run p); entries = keeps }) at.stands.going,
        ),
      )

  pub reduces : ((before : Before) (r : Run) → StandsAt before w r → StandsAt before u (run l r (merge_steps l search p.results)))
      → Reduces capacity l search size tasks v kept u keeps p.failures
  reduces told before r stands =
      let at = at-last before r stands in
      subst (λ c. IsReduced before u c p.failures keeps) (sym at.1.1) (record { stands = told before at.0 at.1.0; failures_are = refl; entries_are = refl })

  pub stops-last : (s : Stop) → IfRefused s (λ t. (before : Before) (r : Run) → StandsAt before w r → IsEnded before u (run l r (merge_steps l search p.results)) t)
      → IfRefused s (StopsReducing capacity l search size tasks v kept u keeps p.failures)
  stops-last stop.Memory told = tt
  stops-last (stop.Refused t) told = λ before r stands.
      let at = at-last before r stands in
      subst (λ c. IsStopped before u c p.failures keeps t) (sym at.1.1) (record { ended = told before at.0 at.1.0; failures_are = refl; entries_are = refl })

pub is-empty : (p : Progress) → p.batch ≡ [] → p.results ≡ [] → p.failures ≡ [] → p ≡ record { batch = []; results = []; failures = [] }
is-empty p b r f = λ i. (record { batch = b i; results = r i; failures = f i })

-- the same of an end that may be one or the other
module _ (l : Limits) (search : Search) (w u : View) (parts batch : List Partial) (same : parts ≡ batch) (are : AreParts search batch) where
  pub whole-if : (res : Result (Option Partial) Stop) (o : Option Partial) → ((x : Option Partial) → option_to_list x ≡ merged l search batch → x ≡ o)
      → IfOk res (λ whole. (search : Search) → AreParts search parts → option_to_list whole ≡ merged l search parts) → IfOk res (λ whole. whole ≡ o)
  whole-if (Ok x) o is told = is x (told search (subst (AreParts search) (sym same) are) ∙ ap (merged l search) same)
  whole-if (Err s) o is told = tt

  pub reduces-if : (res : Result (Option Partial) Stop) (Q : Type 0)
      → (((before : Before) (r : Run) → StandsAt before w r → StandsAt before u (run l r (merge_steps l search batch))) → Q)
      → IfOk res (λ whole. (search : Search) → AreParts search parts → (before : Before) (r : Run) → StandsAt before w r → StandsAt before u (run l r (merge_steps l search parts)))
      → OnOk res Q
  reduces-if (Ok x) Q is told = is (stands-at l search w u parts batch same are (told search))
  reduces-if (Err s) Q is told = tt

  pub stops-if : (res : Result (Option Partial) Stop) (P : Tripped → Type 0)
      → ((s : Stop) → IfRefused s (λ t. (before : Before) (r : Run) → StandsAt before w r → IsEnded before u (run l r (merge_steps l search batch)) t) → IfRefused s P)
      → IfErr res (λ s. IfRefused s (λ t. (search : Search) → AreParts search parts → (before : Before) (r : Run) → StandsAt before w r → IsEnded before u (run l r (merge_steps l search parts)) t))
      → IfErr res (λ s. IfRefused s P)
  stops-if (Ok x) P is told = tt
  stops-if (Err s) P is told = is s (stops-at l search w u parts batch same are s told)
