-- How a task ends by whether its answer was kept.
use Rattle.std.specs.Prelude.{◌≡◌, refl, ◌≤◌, ◌==◌, ℕ, Bool, true, false, List, Option, Some, None}
use Rattle.std.proofs.Common.{◌∙◌, sym, ap, subst}
use Rattle.lru.specs.LruCache.{LruCache}
use Rattle.agg_evaluation.specs.Cost.{cost}
use Rattle.agg_evaluation.specs.Rows.{PlacedRow}
use Rattle.agg_evaluation.specs.Shard.{shard_answer}
use Rattle.agg_evaluation.specs.Trace.{trace}
use Rattle.agg_model.specs.declared.aggregation.Search.{Search}
use Rattle.agg_model.specs.declared.breaker.Child.TheVariants.{Request}
use Rattle.agg_model.specs.declared.breaker.Limits.{Limits}
use Rattle.agg_model.specs.declared.breaker.Tripped.{Tripped}
use Rattle.agg_model.specs.declared.partial.Partial.{Partial}
use Rattle.agg_spec.specs.Index.{Index, rows_in}
use Rattle.breaker_tree.specs.Charge.{IsTripped}
use Rattle.breaker_words.specs.declared.view.View.{View}
use Rattle.cache_spec.specs.Cache.{added, entries_after, entry_of, used}
use Rattle.cache_spec.specs.declared.shard_search.ShardSearch.{ShardSearch}
use Rattle.collect_tree.specs.Ends.{IfDone, IfMemory, IfRefused}
use Rattle.collect_tree.specs.declared.ending.TaskEnd.{TaskEnd}
use Rattle.collect_tree.specs.declared.ending.TaskEnd.TheVariants as end
use Rattle.task_charges.specs.Ended.{IsDone, IsRefused}
use Rattle.request_cache.specs.Entries.{answer_in, entries_found, entries_in, found_in, has_entry}
use Rattle.request_cache.specs.Tasks.{ChargesAtOnce, GivesUp, IsTaskDone, IsTaskRefused}
use Rattle.request_cache.proofs.AnswersKept.{absent-then, found-then}

-- what holds anyway holds at an end
pub if-done : {P : Type 0} (r : TaskEnd) → P → IfDone r (λ p. P)
if-done (end.Done p) x = x
if-done (end.Refused t) x = tt
if-done end.Memory x = tt

pub if-refused : {P : Tripped → Type 0} (r : TaskEnd) → ((t : Tripped) → P t) → IfRefused r P
if-refused (end.Done p) x = tt
if-refused (end.Refused t) x = x t
if-refused end.Memory x = tt

-- the entry of a search on a shard
pub entry-is : (e : ShardSearch) (search : Search) (shard : ℕ) → e.shard ≡ shard → e.search ≡ record search { body_bytes = 0 } → e ≡ entry_of search shard
entry-is e search shard number asked = λ i. (record { shard = number i; search = asked i })

module _ (index : Index) (cache : LruCache ShardSearch Partial) (search : Search) (shard : ℕ) (e : ShardSearch) (is : e ≡ entry_of search shard)
    (o : Option Partial) (found : o ≡ found_in cache index e) where
  told : o ≡ found_in cache index (entry_of search shard)
  told = subst (λ (f : ShardSearch). o ≡ found_in cache index f) is found

  pub is-kept : (p : Partial) → o ≡ Some p → (has_entry cache (entry_of search shard) ≡ true) × (p ≡ shard_answer search (rows_in index shard))
  is-kept p some = found-then (has_entry cache (entry_of search shard)) (answer_in index (entry_of search shard)) o told p some

  pub is-not-kept : o ≡ None → has_entry cache (entry_of search shard) ≡ false
  is-not-kept none = absent-then (has_entry cache (entry_of search shard)) (answer_in index (entry_of search shard)) o told none

module _ (l : Limits) (v u : View) (search : Search) (all : List PlacedRow) where
  both-refused : (r : TaskEnd) (n : ℕ) → IfRefused r (λ t. IsTripped l v Request n t u) → IfRefused r (λ t. 1 ≤ n) → IfRefused r (λ t. (1 ≤ n) × IsTripped l v Request n t u)
  both-refused (end.Done p) n tripped some = tt
  both-refused (end.Refused t) n tripped some = (some, tripped)
  both-refused end.Memory n tripped some = tt

  module _ (b : Bool) (p : Partial) (kept : (b ≡ true) × (p ≡ shard_answer search all)) (r : TaskEnd) where
    pub kept-done : IfDone r (λ q. ChargesAtOnce (cost p == 0) l v (cost p) u) → IfDone r (λ q. IsTaskDone l v u search all b)
    kept-done done =
        subst (λ (c : Bool). IfDone r (λ q. IsTaskDone l v u search all c)) (sym kept.0)
        (subst (λ (x : Partial). IfDone r (λ q. ChargesAtOnce (cost x == 0) l v (cost x) u)) kept.1 done)

    pub kept-refused : IfRefused r (λ t. IsTripped l v Request (cost p) t u) → IfRefused r (λ t. 1 ≤ cost p)
        → IfRefused r (λ t. IsTaskRefused l v u search all b t)
    kept-refused tripped some =
        subst (λ (c : Bool). IfRefused r (λ t. IsTaskRefused l v u search all c t)) (sym kept.0)
        (subst (λ (x : Partial). IfRefused r (λ t. (1 ≤ cost x) × IsTripped l v Request (cost x) t u)) kept.1 (both-refused r (cost p) tripped some))

  module _ (b : Bool) (absent : b ≡ false) (rows : List PlacedRow) (here : rows ≡ all) (r : TaskEnd) where
    pub run-done : IfDone r (λ q. IsDone l v u search rows) → IfDone r (λ q. IsTaskDone l v u search all b)
    run-done done =
        subst (λ (c : Bool). IfDone r (λ q. IsTaskDone l v u search all c)) (sym absent)
        (subst (λ (rs : List PlacedRow). IfDone r (λ q. IsDone l v u search rs)) here done)

    pub run-refused : IfRefused r (λ t. IsRefused l v u (trace search rows) t) → IfRefused r (λ t. IsTaskRefused l v u search all b t)
    run-refused refused =
        subst (λ (c : Bool). IfRefused r (λ t. IsTaskRefused l v u search all c t)) (sym absent)
        (subst (λ (rs : List PlacedRow). IfRefused r (λ t. IsRefused l v u (trace search rs) t)) here refused)

    pub run-memory : IfMemory r (GivesUp v u search rows) → IfMemory r (GivesUp v u search all)
    run-memory memory = subst (λ (rs : List PlacedRow). IfMemory r (GivesUp v u search rs)) here memory

-- the entries after a task whose answer was kept
module _ (cache : LruCache ShardSearch Partial) (e f : ShardSearch) (is : e ≡ f) (now : List ShardSearch) (found : now ≡ entries_found cache e) where
  pub kept-entries : has_entry cache f ≡ true → (t : Option Tripped) → now ≡ entries_after cache.cap (has_entry cache f) t f (entries_in cache)
  kept-entries there t =
      let at : now ≡ entries_found cache f = subst (λ (g : ShardSearch). now ≡ entries_found cache g) is found in
      let shown : entries_found cache f ≡ used f (entries_in cache) = rw there refl in
      at ∙ shown ∙ sym (ap (λ (b : Bool). entries_after cache.cap b t f (entries_in cache)) there)

  -- a task whose answer was not kept began with the same entries
  same-entries : has_entry cache f ≡ false → now ≡ entries_in cache
  same-entries absent =
      let at : now ≡ entries_found cache f = subst (λ (g : ShardSearch). now ≡ entries_found cache g) is found in
      let shown : entries_found cache f ≡ entries_in cache = rw absent refl in
      at ∙ shown

  module _ (absent : has_entry cache f ≡ false) (r : TaskEnd) (cap : ℕ) (capacity : cap ≡ cache.cap) (after : List ShardSearch) where
    pub run-kept : IfDone r (λ p. after ≡ added cap e now) → IfDone r (λ p. after ≡ entries_after cache.cap (has_entry cache f) None f (entries_in cache))
    run-kept kept =
        subst (λ (b : Bool). IfDone r (λ p. after ≡ entries_after cache.cap b None f (entries_in cache))) (sym absent)
        (subst (λ (n : ℕ). IfDone r (λ p. after ≡ added n f (entries_in cache))) capacity
        (subst (λ (g : ShardSearch). IfDone r (λ p. after ≡ added cap g (entries_in cache))) is
        (subst (λ (es : List ShardSearch). IfDone r (λ p. after ≡ added cap e es)) (same-entries absent) kept)))

    pub run-not-kept : IfRefused r (λ t. after ≡ now) → IfRefused r (λ t. after ≡ entries_after cache.cap (has_entry cache f) (Some t) f (entries_in cache))
    run-not-kept same =
        subst (λ (b : Bool). IfRefused r (λ t. after ≡ entries_after cache.cap b (Some t) f (entries_in cache))) (sym absent)
        (subst (λ (es : List ShardSearch). IfRefused r (λ t. after ≡ es)) (same-entries absent) same)
