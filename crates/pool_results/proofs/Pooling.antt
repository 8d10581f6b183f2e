-- The tasks of a pool: each has room for its ceiling, and the numbers of its answers fit.
use Rattle.std.specs.Prelude.{◌≡◌, refl, ◌≤◌, ℕ, zero, suc, ◌+◌, ◌*◌, true, Bool, List, [], ◌∷◌, ◌++◌, map, flat_map, length, Some, slice_get, slice_index, slice_index_or, IsTrue}
use Rattle.std.proofs.Common.{sym, ◌∙◌, ap, subst, arith}
use Rattle.std.proofs.Math.Nat.{suc-mul}
use Rattle.agg_cost.proofs.EachRoom.{HasRoomAt, room-at}
use Rattle.agg_cost.proofs.EachTask.{all-at}
use Rattle.agg_cost.proofs.Summing.{by-mapping, get-map, one-shard, search-made}
use Rattle.agg_cost.specs.Searches.{kinds_of, task_ceilings}
use Rattle.agg_evaluation.specs.Ceiling.{ceiling}
use Rattle.agg_evaluation.specs.Cost.{cost}
use Rattle.agg_evaluation.specs.SearchFits.{search_fits}
use Rattle.agg_evaluation.specs.Shard.{shard_answer}
use Rattle.agg_model.specs.declared.aggregation.Search.{Search}
use Rattle.agg_model.specs.declared.mapping.FieldKind.{FieldKind}
use Rattle.agg_spec.specs.Index.{rows_in}
use Rattle.collect_tree.proofs.Rooms.{answer-room, tree-room}
use Rattle.pool_results.specs.Pools.{Pool, ceiling_at, cost_at, no_search, search_at, shard_count}
use Rattle.pool_results.specs.Pooled.{IsPoolOf}
use Rattle.shard_columns.specs.Columns.{Columns}
use Rattle.shard_columns.specs.Index.{rows_by_shard}
use Rattle.shard_columns.specs.Made.{IsSearchFor}
use Rattle.shard_columns.specs.declared.index.Index.{Index as ShardIndex}

-- the item at a place
pub get-index : {A : Type 0} (d : A) (xs : List A) (i : ℕ) (x : A) → slice_get xs i ≡ Some x → slice_index_or xs i d ≡ x
get-index d [] zero x e = absurd (let no : ⊥ = cc in no)
get-index d [] (suc i) x e = absurd (let no : ⊥ = cc in no)
get-index d (y ∷ ys) zero x e = let same : y ≡ x = cc in same
get-index d (y ∷ ys) (suc i) x e = get-index d ys i x e

get-front : {A : Type 0} (xs ys : List A) (i : ℕ) (x : A) → slice_get xs i ≡ Some x → slice_get (xs ++ ys) i ≡ Some x
get-front [] ys zero x e = absurd (let no : ⊥ = cc in no)
get-front [] ys (suc i) x e = absurd (let no : ⊥ = cc in no)
get-front (y ∷ zs) ys zero x e = e
get-front (y ∷ zs) ys (suc i) x e = get-front zs ys i x e

get-behind : {A : Type 0} (xs ys : List A) (i : ℕ) → slice_get (xs ++ ys) (length xs + i) ≡ slice_get ys i
get-behind [] ys i = ap (slice_get ys) (let z : 0 + i ≡ i = omega arith in z)
get-behind (x ∷ xs) ys i = ap (slice_get (x ∷ (xs ++ ys))) (let z : suc (length xs) + i ≡ suc (length xs + i) = omega arith in z) ∙ get-behind xs ys i

-- in a list of rows of equal length, the item of a row
get-row : {A B : Type 0} (f : A → List B) (n : ℕ) → ((x : A) → length (f x) ≡ n) → (xs : List A) (q s : ℕ) (x : A) (y : B) → slice_get xs q ≡ Some x → slice_get (f x) s ≡ Some y → slice_get (flat_map f xs) (q * n + s) ≡ Some y
get-row f n each [] zero s x y e g = absurd (let no : ⊥ = cc in no)
get-row f n each [] (suc q) s x y e g = absurd (let no : ⊥ = cc in no)
get-row f n each (z ∷ xs) zero s x y e g =
    let same : z ≡ x = cc in
    ap (slice_get (f z ++ flat_map f xs)) (let k : 0 * n + s ≡ s = omega arith in k) ∙ get-front (f z) (flat_map f xs) s y (ap (λ w. slice_get (f w) s) same ∙ g)
get-row f n each (z ∷ xs) (suc q) s x y e g =
    let size = each z in
    ap (slice_get (f z ++ flat_map f xs)) (let k : suc q * n + s ≡ length (f z) + (q * n + s) = next q size in k)
    ∙ get-behind (f z) (flat_map f xs) (q * n + s) ∙ get-row f n each xs q s x y e g
  where
    next : (q : ℕ) → length (f z) ≡ n → suc q * n + s ≡ length (f z) + (q * n + s)
    next q size = let m : ℕ = q * n in let e : suc q * n ≡ m + n = suc-mul q n in omega (arith, e, size)

length-rows : {A B : Type 0} (f : A → B) (xs : List A) → length (map f xs) ≡ length xs
length-rows f [] = refl
length-rows f (x ∷ xs) = ap suc (length-rows f xs)

-- as many shards
pub shards-are : (index : ShardIndex) (p : Pool) → IsPoolOf index p → shard_count p ≡ length index.shards
shards-are index p pool = ap (λ ix. length ix.shards) pool.index_is ∙ length-rows (λ (c : Columns). c.rows) index.shards

module _ (index : ShardIndex) (p : Pool) (pool : IsPoolOf index p) (q s : ℕ) (search : Search) (shard : Columns) (asked : slice_get p.searches q ≡ Some search) (at : slice_get index.shards s ≡ Some shard) where
  abbrev kinds : List FieldKind
  kinds = kinds_of index.mapping

  pub search-is : search_at p q ≡ search
  search-is = get-index no_search p.searches q search asked

  pub rows-are : rows_in p.index s ≡ shard.rows
  rows-are = ap (λ ix. rows_in ix s) pool.index_is ∙ get-index [] (rows_by_shard index.shards) s shard.rows (get-map (λ (c : Columns). c.rows) index.shards s shard at)

  fits-one : IsTrue (search_fits index.mapping search)
  fits-one = is-true (all-at (search_fits index.mapping) p.searches q search (true-is pool.made) asked)
    where
      is-true : {b : Bool} → b ≡ true → IsTrue b
      is-true {b} e = e

      true-is : {b : Bool} → IsTrue b → b ≡ true
      true-is {b} e = e

  pub search-fits : IsSearchFor shard search
  search-fits = search-made index.mapping shard search fits-one (one-shard index.mapping index.shards s shard at index.built)

  -- the task has a ceiling, and the pool has at least that for it
  pub room-is : HasRoomAt p.ceilings (q * shard_count p + s) (ceiling shard.kinds search shard.rows)
  room-is =
      let row = get-row (λ (z : Search). map (ceiling kinds z) (rows_by_shard index.shards)) (length index.shards) (λ z. length-rows (ceiling kinds z) (rows_by_shard index.shards) ∙ length-rows (λ (c : Columns). c.rows) index.shards) p.searches q s search (ceiling kinds search shard.rows) asked
      (get-map (ceiling kinds search) (rows_by_shard index.shards) s shard.rows (get-map (λ (c : Columns). c.rows) index.shards s shard at)) in
      let there = room-at p.ceilings (task_ceilings kinds p.searches (rows_by_shard index.shards)) (q * length index.shards + s) (ceiling kinds search shard.rows) pool.ceilings row in
      record {
        bytes = there.bytes;
        is = by-mapping index.mapping shard search (one-shard index.mapping index.shards s shard at index.built) ∙ there.is;
        low = subst (λ n. there.bytes ≤ slice_index p.ceilings (q * n + s)) (sym (shards-are index p pool)) there.low;
      }

  pub ceiling-some : 1 ≤ ceiling_at p q s
  ceiling-some =
      let room = room-is in
      let low = tree-room shard search search-fits room.bytes room.is 0 in
      let within = room.low in
      omega (arith, low, within)

  -- twice what the answer costs is within it
  pub ceiling-answer : 2 * cost_at p q s ≤ ceiling_at p q s
  ceiling-answer =
      let room = room-is in
      let low = answer-room shard search search-fits room.bytes room.is in
      let within = room.low in
      let same : cost_at p q s ≡ cost (shard_answer search shard.rows) = (λ i. cost (shard_answer (search-is i) (rows-are i))) in
      omega (arith, low, within, same)
