-- More rows, group by group, make of the buckets of some rows those of these rows and more.
use Rattle.std.specs.Prelude.{◌≡◌, refl, true, false, cond, ◌||◌, ◌++◌, T, List, [], ◌∷◌, flat_map, length, map}
use Rattle.std.specs.declared.cmp.Ordering.TheVariants.{Less, Equal, Greater}
use Rattle.std.specs.Ordering.{is_eq, is_lt, match_ordering}
use Rattle.std.proofs.Common.{sym, ◌∙◌, ap, subst, length-append}
use Rattle.std.proofs.lemmas.Bool.{or_parts, true≢false}
use Rattle.agg_model.specs.declared.aggregation.Kind.{Kind}
use Rattle.agg_model.specs.declared.key.Key.{Key}
use Rattle.agg_model.specs.declared.partial.Bucket.{Bucket}
use Rattle.agg_evaluation.specs.Groups.{all_keys, group}
use Rattle.agg_evaluation.specs.KeyOrder.{has_key, key_cmp, key_eq}
use Rattle.agg_evaluation.specs.Keys.{distinct_keys, keys}
use Rattle.agg_evaluation.specs.Rows.{PlacedRow}
use Rattle.agg_evaluation.specs.Shard.{Collector}
use Rattle.agg_evaluation.specs.Trees.{is_ascending}
use Rattle.agg_evaluation.proofs.KeyExact.{exact_keys}
use Rattle.agg_evaluation.proofs.DistinctKeys.{ascending-keys}
use Rattle.agg_evaluation.proofs.KeyLists.{key_eq-sym, distinct_keys-ascending, ascending-distinct_keys, ascending-insert_once, below-absent, below-trans, has_key-distinct_keys, has_key-insert_once, is_below, key_eq-exact, key_eq-self, same_keys}
use Rattle.agg_evaluation.proofs.UnionLaws.{has_key-append}
use Rattle.list_laws.specs.Sorting.{insert_once}
use Rattle.list_laws.proofs.Booleans.{and_left, and_right, both, holds}
use Rattle.list_laws.proofs.Lists.{append-nil, filter-append, flat_map-append}
use Rattle.growth_laws.specs.Gathering.{Gatherer, empty_bucket, gathered_bucket, gathered_children, kept_buckets, put_groups, put_rows}
use Rattle.growth_laws.proofs.InsertedKeys.{ascending-insert_all, has_key-insert_all, insert_all, no_group}
use Rattle.std.proofs.Math.Bool.{or-true}
use Rattle.list_laws.proofs.Booleans.{or_comm}

-- the rows so far and those that come
module _ (First Then : List PlacedRow → Type 0) where
  -- each collector with what makes of its trees those of more rows
  abbrev pub Gathers : List Gatherer → List Collector → Type 0
  Gathers [] [] = Unit {0}
  Gathers (g ∷ gs) (c ∷ cs) = ((c.collect [] ≡ g.empty)
      × ((rows more : List PlacedRow) → First rows → Then more → c.collect (rows ++ more) ≡ g.gather more (c.collect rows))) × Gathers gs cs
  Gathers _ _ = ⊥

  -- child by child
  children-gather : (gs : List Gatherer) (cs : List Collector) → Gathers gs cs → (rows more : List PlacedRow) → First rows → Then more
      → map (λ c. c.collect (rows ++ more)) cs ≡ gathered_children gs more (map (λ c. c.collect rows) cs)
  children-gather [] [] h rows more f t = refl
  children-gather [] (c ∷ cs) h rows more f t = absurd h
  children-gather (g ∷ gs) [] h rows more f t = absurd h
  children-gather (g ∷ gs) (c ∷ cs) h rows more f t = λ i. h.0.1 rows more f t i ∷ children-gather gs cs h.1 rows more f t i

  -- the children over no row are the empty ones
  children-start : (gs : List Gatherer) (cs : List Collector) → Gathers gs cs → map (λ c. c.collect []) cs ≡ map (λ g. g.empty) gs
  children-start [] [] h = refl
  children-start [] (c ∷ cs) h = absurd h
  children-start (g ∷ gs) [] h = absurd h
  children-start (g ∷ gs) (c ∷ cs) h = λ i. h.0.0 i ∷ children-start gs cs h.1 i

  module _ (gs : List Gatherer) (cs : List Collector) (gathers : Gathers gs cs) where
    -- the bucket of a key and these rows
    abbrev bucket_with : Key → List PlacedRow → Bucket
    bucket_with q rows = record { key = q; count = length rows; covered = 0; children = map (λ c. c.collect rows) cs }

    -- the bucket of a key that has its rows
    abbrev pub bucket_at : (Key → List PlacedRow) → Key → Bucket
    bucket_at h q = bucket_with q (h q)

    -- the rows of each key, where one key has more
    abbrev pub with_one : Key → List PlacedRow → (Key → List PlacedRow) → Key → List PlacedRow
    with_one k rows h q = cond (key_eq q k) (h q ++ rows) (h q)

    -- the rows of each key, where these keys have more
    abbrev pub with_all : List Key → (Key → List PlacedRow) → (Key → List PlacedRow) → Key → List PlacedRow
    with_all js g h q = cond (has_key q js) (h q ++ g q) (h q)

    -- the bucket of the key with more rows
    grown-at : (h : Key → List PlacedRow) (k q : Key) (rows : List PlacedRow) → First (h q) → Then rows → key_eq q k ≡ true → gathered_bucket gs rows (bucket_at h q) ≡ bucket_at (with_one k rows h) q
    grown-at h k q rows f t e =
        (λ i. record { key = q; count = sym (length-append (h q) rows) i; covered = 0; children = sym (children-gather gs cs gathers (h q) rows f t) i })
        ∙ ap (λ b. bucket_with q (cond b (h q ++ rows) (h q))) (sym e)

    -- the bucket of another key
    other-at : (h : Key → List PlacedRow) (k q : Key) (rows : List PlacedRow) → key_eq q k ≡ false → bucket_at h q ≡ bucket_at (with_one k rows h) q
    other-at h k q rows e = ap (λ b. bucket_with q (cond b (h q ++ rows) (h q))) (sym e)

    -- the bucket of a key that has no row yet
    started-at : (h : Key → List PlacedRow) (k : Key) → h k ≡ [] → empty_bucket gs k ≡ bucket_at h k
    started-at h k e = (λ i. record { key = k; count = 0; covered = 0; children = sym (children-start gs cs gathers) i }) ∙ ap (bucket_with k) (sym e)

    -- the buckets of other keys stay
    others : (h : Key → List PlacedRow) (k : Key) (rows : List PlacedRow) (ks : List Key) → has_key k ks ≡ false → map (bucket_at h) ks ≡ map (bucket_at (with_one k rows h)) ks
    others h k rows [] e = refl
    others h k rows (j ∷ ks) e =
        let parts = or_parts _ _ e in
        λ i. other-at h k j rows (key_eq-sym j k ∙ parts.0) i ∷ others h k rows ks parts.1 i

    -- one key's rows
    pub put-rows : (h : Key → List PlacedRow) (k : Key) (rows : List PlacedRow) (ks : List Key) → T (is_ascending ks) → First (h k) → Then rows → (has_key k ks ≡ false → h k ≡ [])
        → put_rows gs rows k (map (bucket_at h) ks) ≡ map (bucket_at (with_one k rows h)) (insert_once key_cmp k ks)
    put-rows h k rows [] up f t none = ap (λ b. b ∷ []) (ap (gathered_bucket gs rows) (started-at h k (none refl)) ∙ grown-at h k k rows f t (key_eq-self k))
    put-rows h k rows (j ∷ ks) up f t none =
        elim (key_cmp k j) as (λ r. key_cmp k j ≡ r → match_ordering r (gathered_bucket gs rows (empty_bucket gs k) ∷ map (bucket_at h) (j ∷ ks)) (gathered_bucket gs rows (bucket_at h j) ∷ map (bucket_at h) ks)
        (bucket_at h j ∷ put_rows gs rows k (map (bucket_at h) ks)) ≡ map (bucket_at (with_one k rows h)) (match_ordering r (k ∷ j ∷ ks) (j ∷ ks) (j ∷ insert_once key_cmp k ks))) [
          | Less ↦ λ p.
              let below : T (is_below k (j ∷ ks)) = both _ _ (subst (λ r. T (is_lt r)) (sym p) tt) (below-trans k j ks p (and_left _ _ up)) in
              let absent = below-absent k (j ∷ ks) below in
              λ i. (ap (gathered_bucket gs rows) (started-at h k (none absent)) ∙ grown-at h k k rows f t (key_eq-self k)) i ∷ others h k rows (j ∷ ks) absent i
          | Equal ↦ λ p.
              let same = exact_keys k j p in
              let absent : has_key k ks ≡ false = ap (λ q. has_key q ks) same ∙ below-absent j ks (and_left _ _ up) in
              λ i. grown-at h k j rows (subst (λ q. First (h q)) same f) t (key_eq-sym j k ∙ ap is_eq p) i ∷ others h k rows ks absent i
          | Greater ↦ λ p.
              λ i. other-at h k j rows (key_eq-sym j k ∙ ap is_eq p) i ∷ put-rows h k rows ks (and_right _ _ up) f t (λ e. none (ap (λ r. is_eq r || has_key k ks) p ∙ e)) i
        ] refl

    -- a key at a time, where the first is none of the others
    pub one_by_one : (g h : Key → List PlacedRow) (j : Key) (js : List Key) → T (is_below j js) → (q : Key) → with_all js g (with_one j (g j) h) q ≡ with_all (j ∷ js) g h q
    one_by_one g h j js below q =
        elim (key_eq q j) as (λ b. key_eq q j ≡ b → cond (has_key q js) (cond b (h q ++ g j) (h q) ++ g q) (cond b (h q ++ g j) (h q)) ≡ cond (b || has_key q js) (h q ++ g q) (h q)) [
          | true ↦ λ e.
              let same = key_eq-exact q j (holds _ e) in
              ap (λ b. cond b ((h q ++ g j) ++ g q) (h q ++ g j)) (ap (λ k. has_key k js) same ∙ below-absent j js below) ∙ ap (λ k. h q ++ g k) (sym same)
          | false ↦ λ e. refl
        ] refl

    -- the rows of a later key are as before
    pub later-first : (h : Key → List PlacedRow) (j : Key) (rows : List PlacedRow) (js : List Key) → T (is_below j js) → ((q : Key) → has_key q (j ∷ js) ≡ true → First (h q)) → (q : Key) → has_key q js ≡ true → First (with_one j rows h q)
    later-first h j rows js below f q e =
        elim (key_eq q j) as (λ b. key_eq q j ≡ b → First (cond b (h q ++ rows) (h q))) [
          | true ↦ λ same. absurd (true≢false (sym e ∙ ap (λ k. has_key k js) (key_eq-exact q j (holds _ same)) ∙ below-absent j js below))
          | false ↦ λ other. f q (ap (λ b. key_eq q j || b) e ∙ or-true (key_eq q j))
        ] refl

    -- a key that is not there has no rows yet
    pub later-none : (h : Key → List PlacedRow) (j : Key) (rows : List PlacedRow) (ks : List Key) → ((q : Key) → has_key q ks ≡ false → h q ≡ []) → (q : Key) → has_key q (insert_once key_cmp j ks) ≡ false → with_one j rows h q ≡ []
    later-none h j rows ks none q e =
        let parts = or_parts _ _ (sym (has_key-insert_once q j ks) ∙ e) in
        ap (λ b. cond b (h q ++ rows) (h q)) parts.0 ∙ none q parts.1

    -- the keys one after another, where all buckets are kept
    pub put-groups : (k : Kind) → ((bs : List Bucket) → kept_buckets k bs ≡ bs) → (g : Key → List PlacedRow) → ((q : Key) → Then (g q)) → (js : List Key) (h : Key → List PlacedRow) (ks : List Key) → T (is_ascending js) → T (is_ascending ks)
        → ((q : Key) → has_key q js ≡ true → First (h q)) → ((q : Key) → has_key q ks ≡ false → h q ≡ []) → put_groups g gs k js (map (bucket_at h) ks) ≡ map (bucket_at (with_all js g h)) (insert_all js ks)
    put-groups k keeps g t [] h ks rise up f none = refl
    put-groups k keeps g t (j ∷ js) h ks rise up f none =
        ap (put_groups g gs k js) (keeps (put_rows gs (g j) j (map (bucket_at h) ks)) ∙ put-rows h j (g j) ks up (f j (ap (λ b. b || has_key j js) (key_eq-self j))) (t j) (none j))
        ∙ put-groups k keeps g t js (with_one j (g j) h) (insert_once key_cmp j ks) (and_right _ _ rise) (ascending-insert_once j ks up)
        (later-first h j (g j) js (and_left _ _ rise) f) (later-none h j (g j) ks none)
        ∙ (λ i. map (bucket_at (λ q. one_by_one g h j js (and_left _ _ rise) q i)) (insert_all (j ∷ js) ks))

module _ (all : List PlacedRow) (k : Kind) (rows more : List PlacedRow) where
  -- the rows of a key are those of the first rows and then those of the others
  pub group-append : (q : Key) → group all k (rows ++ more) q ≡ group all k rows q ++ group all k more q
  group-append q = filter-append (λ r. has_key q (keys all k r)) rows more

  -- the keys of all are those of the others or of the first rows
  pub has_key-more : (q : Key) → has_key q (all_keys all k (rows ++ more)) ≡ (has_key q (all_keys all k more) || has_key q (all_keys all k rows))
  has_key-more q =
      has_key-distinct_keys q (flat_map (keys all k) (rows ++ more)) ∙ ap (has_key q) (flat_map-append (keys all k) rows more)
      ∙ has_key-append q (flat_map (keys all k) rows) (flat_map (keys all k) more)
      ∙ or_comm (has_key q (flat_map (keys all k) rows)) (has_key q (flat_map (keys all k) more))
      ∙ (λ i. sym (has_key-distinct_keys q (flat_map (keys all k) more)) i || sym (has_key-distinct_keys q (flat_map (keys all k) rows)) i)

  -- the keys of all are those of the first rows with those of the others put in
  pub keys-more : all_keys all k (rows ++ more) ≡ insert_all (all_keys all k more) (all_keys all k rows)
  keys-more = same_keys _ _ (ascending-distinct_keys (flat_map (keys all k) (rows ++ more)))
      (ascending-insert_all (all_keys all k more) _ (ascending-distinct_keys (flat_map (keys all k) rows)))
      (λ q. has_key-more q ∙ sym (has_key-insert_all q (all_keys all k more) (all_keys all k rows)))

  -- where no row has a key, its group is empty
  pub no_rows : (rows : List PlacedRow) (q : Key) → has_key q (all_keys all k rows) ≡ false → group all k rows q ≡ []
  no_rows rows q e = no_group all k q rows (sym (has_key-distinct_keys q (flat_map (keys all k) rows)) ∙ e)

  -- the rows of a key, put together
  pub group-more : (q : Key) → cond (has_key q (all_keys all k more)) (group all k rows q ++ group all k more q) (group all k rows q) ≡ group all k (rows ++ more) q
  group-more q =
      elim (has_key q (all_keys all k more)) as (λ b. has_key q (all_keys all k more) ≡ b → cond b (group all k rows q ++ group all k more q) (group all k rows q) ≡ group all k (rows ++ more) q) [
        | true ↦ λ e. sym (group-append q)
        | false ↦ λ e. sym (group-append q ∙ ap (λ rs. group all k rows q ++ rs) (no_rows more q e) ∙ append-nil (group all k rows q))
      ] refl

module _ (all : List PlacedRow) (k : Kind) (row : PlacedRow) where
  -- the keys of one row are its own
  pub keys-one : all_keys all k (row ∷ []) ≡ keys all k row
  keys-one = ap distinct_keys (append-nil (keys all k row)) ∙ distinct_keys-ascending (keys all k row) (ascending-keys all k row)

  -- and the row is all that has them
  pub group-one : (q : Key) → has_key q (keys all k row) ≡ true → group all k (row ∷ []) q ≡ row ∷ []
  group-one q e = ap (λ b. cond b (row ∷ []) []) e
