-- The hand of a worker and what it gathered, while it takes the results of a batch one by one.
use Rattle.std.specs.Prelude.{◌≡◌, refl, ◌⊎◌, ◌≤◌, ◌<◌, ℕ, suc, ◌+◌, ◌*◌, ◌-◌, ◌/◌, ◌==◌, Bool, true, false, ◌||◌, List, [], ◌∷◌, ◌++◌, map, length, is_some, option_to_list, IsTrue, Option, Some, None}
use Rattle.std.proofs.Common.{sym, ◌∙◌, ap, subst, arith, ⊎_elim}
use Rattle.std.proofs.lemmas.Bool.{eq-eqb}
use Rattle.std.proofs.lemmas.Nat.{div-mul-add}
use Rattle.std.proofs.lemmas.List.{length-append, length-map, map-append}
use Rattle.std.specs.List.{AllByRecursion}
use Rattle.agg_model.specs.declared.breaker.Tripped.{Tripped}
use Rattle.agg_model.specs.declared.partial.Partial.{Partial}
use Rattle.arrival_moves.specs.AfterMove.{after_put_merged, after_take_result}
use Rattle.arrival_moves.specs.Fairness.{IsOfSearch}
use Rattle.arrival_moves.specs.Items.{is_batch}
use Rattle.arrival_moves.specs.Labels.{joined_label, no_label}
use Rattle.arrival_moves.specs.Lists.{contains, numbers_from, one_if, times}
use Rattle.arrival_moves.specs.Plans.{search_of, task_count}
use Rattle.arrival_moves.specs.declared.item.Item.TheVariants.{Batch}
use Rattle.arrival_moves.specs.declared.label.Label.{Label}
use Rattle.arrival_moves.specs.declared.plan.Plan.{Plan}
use Rattle.arrival_moves.specs.declared.view.View.{View}
use Rattle.arrival_table.proofs.OneItem.{batch_due_is, batch_has, batch_taken_is, first_due, merged_hand, taken_hand}
use Rattle.arrival_table.specs.Calls.{IsDue, IsMergedOf}
use Rattle.arrival_table.specs.Holding.{AreNew, HasBatch, due_tickets, found_item, taken_label}
use Rattle.arrival_table.specs.Models.{ArrivalsModel, DeskModel, IsOf}
use Rattle.pool_results.proofs.Joining.{shards-append}
use Rattle.pool_results.specs.Gathered.{IsAdded, IsKept, first_of, has_failed, taken_of, with_work}
use Rattle.pool_results.specs.declared.taken.Taken.{Taken}
use Rattle.pool_results.specs.Carried.{has_failed as has_failed_work, label_of}
use Rattle.pool_results.specs.Pools.{Pool, shard_count, task_number}
use Rattle.pool_results.specs.Runs.{shards_in}
use Rattle.pool_results.specs.declared.shard_run.ShardRun.{ShardRun}
use Rattle.pool_results.specs.declared.work.Work.{Work}
use Rattle.pool_worker.proofs.Hands.{times-shard}

-- what was taken from the batch is what was gathered
pub record IsLabelOf (p : Pool) (q : ℕ) (t : Taken) (l : Label) : Type 0 where
  pub search : t.search ≡ q
  pub tasks : l.tasks ≡ map (task_number p q) (shards_in t.runs)
  pub failed : IsTrue l.failed → IsTrue (has_failed t)
  pub skipped : t.skipped ≡ l.skipped

-- the batch b of q is in hand, with n tickets from `from` on still to be taken
abbrev pub batch_hand : ℕ → ℕ → ℕ → ℕ → Label → View → Type 0
batch_hand q b from n l v = v.hand ≡ Batch (record { search = q; batch = b; due = numbers_from from n; taken = l; at_slot = false }) ∷ []

-- a part that is kept, or not, changes nothing else
pub record SameButPart (old new : Taken) : Type 0 where
  pub search : new.search ≡ old.search
  pub runs : new.runs ≡ old.runs
  pub failed : IsTrue (has_failed old) → IsTrue (has_failed new)
  pub skipped : new.skipped ≡ old.skipped

or-true : (a : Bool) → (a || true) ≡ true
or-true true = refl
or-true false = refl

pub kept-same : (part : Option Partial) (old new : Taken) → IsKept part old new → SameButPart old new
kept-same part old new k = ⊎_elim
    (λ (e : new ≡ record old { parts = old.parts ++ option_to_list part }). record { search = ap (λ (t : Taken). t.search) e; runs = ap (λ (t : Taken). t.runs) e; failed = λ h. subst (λ (t : Taken). IsTrue (has_failed t)) (sym e) h; skipped = ap (λ (t : Taken). t.skipped) e })
    (λ (e : new ≡ record old { memory = true }). record { search = ap (λ (t : Taken). t.search) e; runs = ap (λ (t : Taken). t.runs) e; failed = λ h. subst (λ (t : Taken). IsTrue (has_failed t)) (sym e) (or-true (is_some old.refused)); skipped = ap (λ (t : Taken). t.skipped) e }) k

or-first : (a b : Bool) → IsTrue a → IsTrue (a || b)
or-first true b h = refl
or-first false b h = absurd (let no : ⊥ = cc in no)

or-cases : (P : Type 0) (a b : Bool) → IsTrue (a || b) → (IsTrue a → P) → (IsTrue b → P) → P
or-cases P true b h f g = f refl
or-cases P false b h f g = g h

-- where one of two failed, both together have
failed-first : (o u : Option Tripped) (m n : Bool) → IsTrue (is_some o || m) → IsTrue (is_some (first_of o u) || (m || n))
failed-first (Some t) u m n h = refl
failed-first None (Some t) m n h = refl
failed-first None None true n h = refl
failed-first None None false n h = absurd (let no : ⊥ = cc in no)

failed-second : (o u : Option Tripped) (m n : Bool) → IsTrue (is_some u || n) → IsTrue (is_some (first_of o u) || (m || n))
failed-second (Some t) u m n h = refl
failed-second None (Some t) m n h = refl
failed-second None None true n h = refl
failed-second None None false n h = h

-- a result of one task of the search q
module _ (p : Pool) (q : ℕ) (w : Work) (is : w.search ≡ q) where
  label-tasks : (label_of p w).tasks ≡ map (task_number p q) (shards_in w.runs)
  label-tasks = ap (λ k. map (task_number p k) (shards_in w.runs)) is

  -- the first result
  pub label-begun : (t : Taken) → IsKept w.part (taken_of w) t → IsLabelOf p q t (joined_label no_label (label_of p w))
  label-begun t k = let same = kept-same w.part (taken_of w) t k in record {
    search = same.search ∙ is;
    tasks = label-tasks ∙ ap (λ rs. map (task_number p q) (shards_in rs)) (sym same.runs);
    failed = λ h. same.failed h;
    skipped = same.skipped;
  }

  -- one more
  pub label-added : (old t : Taken) (l : Label) → IsLabelOf p q old l → IsAdded w old t → IsLabelOf p q t (joined_label l (label_of p w))
  label-added old t l before k = let same = kept-same w.part (with_work w old) t k in record {
    search = same.search ∙ before.search;
    tasks = (λ i. before.tasks i ++ label-tasks i) ∙ sym (map-append (task_number p q) (shards_in old.runs) (shards_in w.runs))
        ∙ ap (map (task_number p q)) (sym (shards-append old.runs w.runs)) ∙ ap (λ rs. map (task_number p q) (shards_in rs)) (sym same.runs);
    failed = λ h. same.failed (or-cases (IsTrue (has_failed (with_work w old))) l.failed (has_failed_work w) h
        (λ f. failed-first old.refused w.refused old.memory w.memory (before.failed f)) (λ f. failed-second old.refused w.refused old.memory w.memory f));
    skipped = same.skipped ∙ (λ i. before.skipped i || w.skipped);
  }

  -- no task of it was gathered before
  pub shards-new : (old : Taken) (l : Label) → IsLabelOf p q old l → ((k : ℕ) → times k l.tasks + times k (label_of p w).tasks ≤ 1) → (s : ℕ) → times s (shards_in old.runs) + times s (shards_in w.runs) ≤ 1
  shards-new old l before new s =
      let k : ℕ = task_number p q s in
      let top = new k in
      let a = times-shard p q s (shards_in old.runs) in
      let b = times-shard p q s (shards_in w.runs) in
      let c = ap (times k) before.tasks in
      let d = ap (times k) label-tasks in
      omega (arith, top, a, b, c, d)

  pub one-run : length (label_of p w).tasks ≡ 1 → length w.runs ≡ 1
  one-run e = sym (length-map (shards_in w.runs) (task_number p w.search) ∙ length-map w.runs (λ (r : ShardRun). r.shard)) ∙ e

pub runs-begun : (w : Work) (t : Taken) → IsKept w.part (taken_of w) t → t.runs ≡ w.runs
runs-begun w t k = (kept-same w.part (taken_of w) t k).runs

pub runs-added : (w : Work) (old t : Taken) → IsAdded w old t → t.runs ≡ old.runs ++ w.runs
runs-added w old t k = (kept-same w.part (with_work w old) t k).runs

-- the next ticket of the batch
module _ (plan : Plan) (q b from n : ℕ) (l : Label) (v : View) (hand : batch_hand q b from (suc n) l v) (at : from / plan.batch ≡ b) where
  pub has-batch : HasBatch q (from / plan.batch) v
  has-batch = subst (λ k. HasBatch q k v) (sym at) (batch_has q b (numbers_from from (suc n)) l v hand)

  pub is-due : IsDue plan q from v
  is-due = subst (λ k. IsTrue (contains from (due_tickets q k v))) (sym at) (subst (λ ns. IsTrue (contains from ns)) (sym (batch_due_is q b (numbers_from from (suc n)) l v hand)) (first_due from n).0)

  pub next-hand : (m : Label) → batch_hand q b (suc from) n (joined_label l m) (after_take_result plan v q from (found_item (is_batch q (from / plan.batch)) v) m)
  next-hand m = taken_hand q b (numbers_from from (suc n)) l v hand plan from m at
      ∙ ap (λ ns. Batch (record { search = q; batch = b; due = ns; taken = joined_label l m; at_slot = false }) ∷ []) (first_due from n).1

  pub new-tasks : (m : Label) → AreNew q (from / plan.batch) v m → (k : ℕ) → times k l.tasks + times k m.tasks ≤ 1
  new-tasks m new k = subst (λ (z : Label). times k z.tasks + times k m.tasks ≤ 1) (subst (λ j. taken_label q j v ≡ l) (sym at) (batch_taken_is q b (numbers_from from (suc n)) l v hand)) (new k)

-- a result of one task is of the search of that task
pub search-of-work : (plan : Plan) (p : Pool) (q : ℕ) (w : Work) → AllByRecursion (λ s. s < shard_count p) (shards_in w.runs) → w.search < length p.searches
    → ((r s : ℕ) → r < length p.searches → s < shard_count p → search_of plan (task_number p r s) ≡ r) → length (label_of p w).tasks ≡ 1 → IsOfSearch plan q (label_of p w) → w.search ≡ q
search-of-work plan p q w low there searches one of = by_runs w.runs one low of
  where
    one-time : (k : ℕ) → 1 ≤ times k (k ∷ [])
    one-time k = let e : one_if (k == k) ≡ 1 = ap one_if (eq-eqb k k refl) in omega (arith, e)

    by_runs : (rs : List ShardRun) → length (map (task_number p w.search) (shards_in rs)) ≡ 1 → AllByRecursion (λ s. s < shard_count p) (shards_in rs)
        → ((k : ℕ) → 1 ≤ times k (map (task_number p w.search) (shards_in rs)) → (k < task_count plan) × (search_of plan k ≡ q)) → w.search ≡ q
    by_runs [] e low of = absurd (omega (arith, e))
    by_runs (r ∷ []) e low of = sym (searches w.search r.shard there low.0) ∙ (of (task_number p w.search r.shard) (one-time (task_number p w.search r.shard))).1
    by_runs (r ∷ r' ∷ rs) e low of = absurd (omega (arith, e))

-- the result of one task stands for it
pub one-task : (p : Pool) (q s task : ℕ) (w : Work) → w.search ≡ q → shards_in w.runs ≡ s ∷ [] → task_number p q s ≡ task → (label_of p w).tasks ≡ task ∷ []
one-task p q s task w is shards same = (λ i. map (task_number p (is i)) (shards i)) ∙ (λ i. same i ∷ [])

-- between two results: what is in hand, what was gathered, and how much of it
pub record IsGathering (p : Pool) (q b first count ticket : ℕ) (t : Taken) (v : View) : Type 0 where
  pub label : Label
  pub of : IsLabelOf p q t label
  pub hand : batch_hand q b ticket (first + count - ticket) label v
  pub many : first + length t.runs ≡ ticket

module _ (plan : Plan) (p : Pool) (q b first count : ℕ) where
  -- with at least one ticket left
  some-left : (ticket : ℕ) (l : Label) (v : View) → ticket < first + count → batch_hand q b ticket (first + count - ticket) l v → batch_hand q b ticket (suc (first + count - (ticket + 1))) l v
  some-left ticket l v more hand = subst (λ n. batch_hand q b ticket n l v) (let e : first + count - ticket ≡ suc (first + count - (ticket + 1)) = omega (arith, more) in e) hand

  fewer : (ticket : ℕ) (l : Label) (v : View) → batch_hand q b (suc ticket) (first + count - (ticket + 1)) l v → batch_hand q b (ticket + 1) (first + count - (ticket + 1)) l v
  fewer ticket l v hand = subst (λ n. batch_hand q b n (first + count - (ticket + 1)) l v) (let e : suc ticket ≡ ticket + 1 = omega arith in e) hand

  pub gathering-begun : (v u : View) (w : Work) (t : Taken) → batch_hand q b first count no_label v → 1 ≤ count → first / plan.batch ≡ b
      → u ≡ after_take_result plan v q first (found_item (is_batch q (first / plan.batch)) v) (label_of p w) → w.search ≡ q → IsKept w.part (taken_of w) t → length w.runs ≡ 1 → IsGathering p q b first count (first + 1) t u
  gathering-begun v u w t hand some at taken is kept one = record {
    label = joined_label no_label (label_of p w);
    of = label-begun p q w is t kept;
    hand = subst (batch_hand q b (first + 1) (first + count - (first + 1)) (joined_label no_label (label_of p w))) (sym taken)
        (fewer first (joined_label no_label (label_of p w)) (after_take_result plan v q first (found_item (is_batch q (first / plan.batch)) v) (label_of p w)) (next-hand plan q b first (first + count - (first + 1)) no_label v
        (some-left first no_label v (omega (arith, some)) (subst (λ n. batch_hand q b first n no_label v) (let e : count ≡ first + count - first = omega arith in e) hand)) at (label_of p w)));
    many = (let e = ap length (runs-begun w t kept) in omega (arith, e, one));
  }

  module _ (ticket : ℕ) (old : Taken) (v : View) (g : IsGathering p q b first count ticket old v) (more : ticket < first + count) (at : ticket / plan.batch ≡ b) where
    left-hand : batch_hand q b ticket (suc (first + count - (ticket + 1))) g.label v
    left-hand = some-left ticket g.label v more g.hand

    pub gathering-has : HasBatch q (ticket / plan.batch) v
    gathering-has = has-batch plan q b ticket (first + count - (ticket + 1)) g.label v left-hand at

    pub gathering-due : IsDue plan q ticket v
    gathering-due = is-due plan q b ticket (first + count - (ticket + 1)) g.label v left-hand at

    pub gathering-new : (w : Work) → w.search ≡ q → AreNew q (ticket / plan.batch) v (label_of p w) → (s : ℕ) → times s (shards_in old.runs) + times s (shards_in w.runs) ≤ 1
    gathering-new w is new = shards-new p q w is old g.label g.of (new-tasks plan q b ticket (first + count - (ticket + 1)) g.label v left-hand at (label_of p w) new)

    pub gathering-next : (u : View) (w : Work) (t : Taken) → u ≡ after_take_result plan v q ticket (found_item (is_batch q (ticket / plan.batch)) v) (label_of p w) → w.search ≡ q → IsAdded w old t → length w.runs ≡ 1
        → IsGathering p q b first count (ticket + 1) t u
    gathering-next u w t taken is added one = record {
      label = joined_label g.label (label_of p w);
      of = label-added p q w is old t g.label g.of added;
      hand = subst (batch_hand q b (ticket + 1) (first + count - (ticket + 1)) (joined_label g.label (label_of p w))) (sym taken)
          (fewer ticket (joined_label g.label (label_of p w)) (after_take_result plan v q ticket (found_item (is_batch q (ticket / plan.batch)) v) (label_of p w)) (next-hand plan q b ticket (first + count - (ticket + 1)) g.label v left-hand at (label_of p w)));
      many = (let e = ap length (runs-added w old t added) in let k = length-append old.runs w.runs in let m = g.many in omega (arith, e, k, m, one));
    }

-- all results were taken: the merged one may be put
module _ (p : Pool) (q b first count : ℕ) (t : Taken) (v : View) (g : IsGathering p q b first count (first + count) t v) where
  abbrev none-left : ℕ
  none-left = first + count - (first + count)

  end-hand : batch_hand q b (first + count) 0 g.label v
  end-hand = subst (λ n. batch_hand q b (first + count) n g.label v) (let e : none-left ≡ 0 = omega arith in e) g.hand

  pub whole-has : HasBatch q b v
  whole-has = batch_has q b [] g.label v end-hand

  pub whole-due : due_tickets q b v ≡ []
  whole-due = batch_due_is q b [] g.label v end-hand

  -- and then the hand is empty
  pub whole-empty : (after_put_merged v q b).hand ≡ []
  whole-empty = merged_hand q b [] g.label v end-hand

  pub whole-label : (w : Work) → w.search ≡ t.search → w.runs ≡ t.runs → (IsTrue (has_failed t) → IsTrue (has_failed_work w)) → w.skipped ≡ t.skipped → IsMergedOf q b v (label_of p w)
  whole-label w search runs failed skipped =
      let is : taken_label q b v ≡ g.label = batch_taken_is q b [] g.label v end-hand in (
        (λ i. map (task_number p (search i)) (shards_in (runs i))) ∙ (λ i. map (task_number p (g.of.search i)) (shards_in t.runs)) ∙ sym g.of.tasks ∙ sym (ap (λ (l : Label). l.tasks) is),
        λ h. failed (g.of.failed (subst (λ (l : Label). IsTrue l.failed) is h)),
        skipped ∙ g.of.skipped ∙ sym (ap (λ (l : Label). l.skipped) is),
      )

-- the tickets of a batch
pub batch-at : (plan : Plan) (size b j : ℕ) → plan.batch ≡ size → j < size → (b * size + j) / plan.batch ≡ b
batch-at plan size b j e h = ap (λ n. (b * size + j) / n) e ∙ div-mul-add b size j h

-- in the middle of a batch, at the ticket that is taken next
pub record IsMidway (p : Pool) (table : ArrivalsModel) (q b first count ticket : ℕ) (t : Taken) (start now : DeskModel) : Type 0 where
  pub of : IsOf table now
  pub gathering : IsGathering p q b first count ticket t now.view
  pub left : now.view.left ≡ start.view.left
  pub drawn : now.view.drawn ≡ start.view.drawn
  pub ended : now.view.ended ≡ start.view.ended
  pub within : ticket ≤ first + count
