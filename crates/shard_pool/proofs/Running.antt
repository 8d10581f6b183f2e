-- What the opening of a pool leaves to its workers, and what they leave to its close.
use Rattle.std.specs.Prelude.{◌≡◌, refl, ◌<◌, ℕ, suc, ◌+◌, ◌*◌, All, IsTrue, List, [], ◌∷◌, ◌++◌, drop, flat_map, length, map, slice_index_or, sum, sum_by, take}
use Rattle.std.specs.List.{list_all}
use Rattle.std.proofs.Common.{◌∙◌, sym, ap, subst, arith, length-append}
use Rattle.std.proofs.Math.Nat.{suc-mul}
use Rattle.std.proofs.Math.Seq.{take-append_seam}
use Rattle.std.proofs.lemmas.List.{length-map}
use Rattle.std.proofs.lemmas.List.Sums.{sum_by-cons}
use Rattle.agg_cost.proofs.EachRoom.{rooms-number}
use Rattle.agg_cost.specs.Searches.{AreRoomsFor, kinds_of, task_ceilings}
use Rattle.agg_evaluation.specs.Ceiling.{ceiling}
use Rattle.agg_evaluation.specs.SearchFits.{search_fits}
use Rattle.agg_model.specs.declared.aggregation.Search.{Search}
use Rattle.arrival_table.specs.Models.{ArrivalsModel, DeskModel}
use Rattle.breaker_words.specs.AfterStep.{after_split}
use Rattle.breaker_words.specs.Passes.{PassModel, WordsModel, with_view}
use Rattle.shard_pool.proofs.Sums.{all-numbers}
use Rattle.shard_pool.specs.Desks.{HasEnded, claims_of}
use Rattle.shard_pool.specs.Ends.{HasRun, over_tasks}
use Rattle.shard_pool.specs.declared.search_end.SearchEnd.{SearchEnd}
use Rattle.pool_results.specs.Pools.{Pool, ceiling_at, shard_count}
use Rattle.pool_results.proofs.Pooling.{shards-are}
use Rattle.pool_results.specs.Pooled.{IsPoolOf}
use Rattle.pool_worker.specs.Workers.{HasWorked}
use Rattle.shard_columns.specs.Columns.{Columns}
use Rattle.shard_columns.specs.Index.{rows_by_shard}
use Rattle.shard_columns.specs.declared.index.Index.{Index as ShardIndex}
use Rattle.shard_pool.specs.PoolOf.{pool_of}

rows-length : {A B : Type 0} (f : A → List B) (n : ℕ) → ((x : A) → length (f x) ≡ n) → (xs : List A) → length (flat_map f xs) ≡ length xs * n
rows-length f n each [] = let none : 0 ≡ 0 * n = omega arith in none
rows-length f n each (x ∷ xs) =
    let here = each x in let rest = rows-length f n each xs in
    let all : length (f x ++ flat_map f xs) ≡ length (f x) + length (flat_map f xs) = length-append (f x) (flat_map f xs) in
    let next : suc (length xs) * n ≡ length xs * n + n = suc-mul (length xs) n in
    omega (arith, here, rest, all, next)

-- the searches over the index are a pool
pub pool-over : (words : WordsModel) (index : ShardIndex) (searches : List Search) (ceilings : List ℕ) (p : Pool) → p ≡ pool_of words index searches ceilings
    → IsTrue (list_all (search_fits index.mapping) searches) → AreRoomsFor ceilings (task_ceilings (kinds_of index.mapping) searches (rows_by_shard index.shards)) → IsPoolOf index p
pool-over words index searches ceilings p same made bounds = subst (IsPoolOf index) (sym same) (record { index_is = refl; made = made; ceilings = bounds })

-- a ceiling for the pass of each task
pub ceiling-count : (index : ShardIndex) (p : Pool) → IsPoolOf index p → length p.ceilings ≡ length p.searches * length index.shards
ceiling-count index p pool =
    rooms-number p.ceilings (task_ceilings (kinds_of index.mapping) p.searches (rows_by_shard index.shards)) pool.ceilings
    ∙ rows-length (λ (z : Search). map (ceiling (kinds_of index.mapping) z) (rows_by_shard index.shards)) (length index.shards)
    (λ z. length-map (rows_by_shard index.shards) (ceiling (kinds_of index.mapping) z) ∙ length-map index.shards (λ (c : Columns). c.rows)) p.searches

pub ceilings-over-tasks : (index : ShardIndex) (p : Pool) → IsPoolOf index p → over_tasks p (ceiling_at p) ≡ sum p.ceilings
ceilings-over-tasks index p pool = all-numbers p.ceilings (length p.searches) (shard_count p) (ceiling-count index p pool ∙ ap (λ n. length p.searches * n) (sym (shards-are index p pool)))

-- what is known behind the split that opened the pool is known from before it
pub run-from : (p : Pool) (size : ℕ) (old new : PassModel) (k : ℕ) (ends : List SearchEnd) → HasRun p size (with_view old (after_split old.view k)) new ends → HasRun p size old new ends
run-from p size old new k ends run = record {
  of = run.of;
  rest = run.rest;
  total = run.total;
  whole = run.whole;
  holds = run.holds;
  most = run.most;
  trips = run.trips;
  granted = λ quiet. (let all = run.granted quiet in record { more = all.more; least = all.least; exactly = all.exactly; is = all.is });
  risen = run.risen;
  other_trips = run.other_trips;
  other_granted = run.other_granted;
}

-- the desks as they come back
pub desks-back : {A : Type 0} (n : ℕ) (items news : List A) → length news ≡ n → take n (news ++ drop (length news) items) ≡ news
desks-back n items news e = ap (λ k. take k (news ++ drop (length news) items)) (sym e) ∙ take-append_seam news (drop (length news) items)

-- desks that worked have ended
pub all-ended : (table : ArrivalsModel) (olds news : List DeskModel) → length news ≡ length olds
    → ((k : ℕ) (d : DeskModel) → k < length olds → HasWorked table (slice_index_or olds k d) (slice_index_or news k d)) → All (HasEnded table) news
all-ended table olds news same worked k d low =
    let one = worked k d (omega (arith, same, low)) in
    record { of = one.of; ended = one.ended; empty = one.empty }

-- and have the claims that they had
pub same-claims : (table : ArrivalsModel) (olds news : List DeskModel) → length news ≡ length olds
    → ((k : ℕ) (d : DeskModel) → k < length olds → HasWorked table (slice_index_or olds k d) (slice_index_or news k d)) → sum_by claims_of news ≡ sum_by claims_of olds
same-claims table [] [] same worked = refl
same-claims table [] (n ∷ ns) same worked = absurd (let e : suc (length ns) ≡ 0 = same in omega (arith, e))
same-claims table (o ∷ os) [] same worked = absurd (let e : 0 ≡ suc (length os) = same in omega (arith, e))
same-claims table (o ∷ os) (n ∷ ns) same worked =
    let one = worked 0 o (omega arith) in
    let here : claims_of n ≡ claims_of o = one.claims in
    let shorter : length ns ≡ length os = let e : suc (length ns) ≡ suc (length os) = same in omega (arith, e) in
    let rest = same-claims table os ns shorter (λ k d low. worked (suc k) d (omega (arith, low))) in
    let a = sum_by-cons claims_of n ns in let b = sum_by-cons claims_of o os in
    omega (arith, here, rest, a, b)
