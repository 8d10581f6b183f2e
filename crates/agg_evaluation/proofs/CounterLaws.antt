-- Counters that are raised key by key come to the sizes of the groups.
use Rattle.std.specs.Prelude.{◌≡◌, refl, ℕ, zero, suc, ◌+◌, true, false, cond, ◌||◌, T, List, [], ◌∷◌, ◌++◌, map, flat_map, filter, length, Option, Some, None, sum_by}
use Rattle.std.specs.declared.cmp.Ordering.TheVariants.{Less, Equal, Greater}
use Rattle.std.specs.Ordering.{is_eq, is_lt, match_ordering}
use Rattle.std.specs.FinMap.Entries.{find, put, by_order, is_sorted, is_sorted-put, find-put, find_tied, below_all, same_entries}
use Rattle.std.proofs.Common.{sym, ◌∙◌, ap, subst, arith, zero-add}
use Rattle.std.proofs.lemmas.List.Sums.{sum_by-cons}
use Rattle.agg_model.specs.declared.key.Key.{Key}
use Rattle.agg_model.specs.declared.aggregation.Kind.{Kind}
use Rattle.agg_evaluation.specs.KeyOrder.{key_cmp, key_eq, has_key}
use Rattle.list_laws.specs.Sorting.{insert_once}
use Rattle.agg_evaluation.specs.Rows.{PlacedRow}
use Rattle.agg_evaluation.specs.Keys.{keys, distinct_keys}
use Rattle.agg_evaluation.specs.Groups.{group, all_keys}
use Rattle.agg_evaluation.specs.Counters.{raised, raised_by}
use Rattle.agg_evaluation.proofs.KeyCompare.{key_cmp_total}
use Rattle.agg_evaluation.proofs.KeyExact.{exact_keys}
use Rattle.agg_evaluation.proofs.KeyLists.{filter-ascending}
use Rattle.list_laws.proofs.Booleans.{and_left, and_right, both}
use Rattle.list_laws.proofs.Orders.{less_is}
use Rattle.agg_evaluation.proofs.DistinctKeys.{ascending-keys}

-- how often a key stands in a list
abbrev pub times : Key → List Key → ℕ
times q ks = length (filter (key_eq q) ks)

-- what is below a key that is below all of a list is below all of it
below_from : (k j : Key) (cs : List (Key × ℕ)) → key_cmp k j ≡ Less → T (below_all key_cmp j cs) → T (below_all key_cmp k cs)
below_from k j [] p h = tt
below_from k j (c ∷ cs) p h =
    both _ _ (subst (λ r. T (is_lt r)) (sym (key_cmp_total.trans k j c.0 p (less_is _ (and_left _ _ h)))) tt) (below_from k j cs p (and_right _ _ h))

-- a key below all of a list is not in it
absent : (k : Key) (cs : List (Key × ℕ)) → T (below_all key_cmp k cs) → find key_cmp k cs ≡ None
absent k [] h = refl
absent k (c ∷ cs) h = ap (λ r. cond (is_eq r) (Some c.1) (find key_cmp k cs)) (less_is _ (and_left _ _ h)) ∙ absent k cs (and_right _ _ h)

-- one more than there was
abbrev more : Option ℕ → ℕ
more None = 1
more (Some m) = m + 1

raised-put : (k : Key) (cs : List (Key × ℕ)) → T (is_sorted key_cmp cs) → raised k cs ≡ put key_cmp k (more (find key_cmp k cs)) cs
raised-put k [] h = refl
raised-put k (c ∷ cs) h =
    elim (key_cmp k c.0) as (λ r. key_cmp k c.0 ≡ r → match_ordering r ((k, 1) ∷ c ∷ cs) ((c.0, c.1 + 1) ∷ cs) (c ∷ raised k cs)
    ≡ by_order r ((k, more (cond (is_eq r) (Some c.1) (find key_cmp k cs))) ∷ c ∷ cs) ((c.0, more (cond (is_eq r) (Some c.1) (find key_cmp k cs))) ∷ cs)
    (c ∷ put key_cmp k (more (cond (is_eq r) (Some c.1) (find key_cmp k cs))) cs)) [
      | Less ↦ λ p. ap (λ x. (k, more x) ∷ c ∷ cs) (sym (absent k cs (below_from k c.0 cs p (and_left _ _ h))))
      | Equal ↦ λ p. refl
      | Greater ↦ λ p. ap (λ xs. c ∷ xs) (raised-put k cs (and_right _ _ h))
    ] refl

sorted-raised : (k : Key) (cs : List (Key × ℕ)) → T (is_sorted key_cmp cs) → T (is_sorted key_cmp (raised k cs))
sorted-raised k cs h = subst (λ cs. T (is_sorted key_cmp cs)) (sym (raised-put k cs h)) (is_sorted-put key_cmp key_cmp_total k _ _ h)

pub sorted-raised_by : (ks : List Key) (cs : List (Key × ℕ)) → T (is_sorted key_cmp cs) → T (is_sorted key_cmp (raised_by ks cs))
sorted-raised_by [] cs h = h
sorted-raised_by (k ∷ ks) cs h = sorted-raised_by ks _ (sorted-raised k cs h)

-- the number, where it is above 0
abbrev positive : ℕ → Option ℕ
positive zero = None
positive (suc n) = Some (suc n)

-- so many more
abbrev plus : ℕ → Option ℕ → Option ℕ
plus n None = positive n
plus n (Some m) = Some (m + n)

plus-zero : (x : Option ℕ) → x ≡ plus 0 x
plus-zero None = refl
plus-zero (Some m) = ap Some (omega arith)

plus-more : (n : ℕ) (x : Option ℕ) → plus n (Some (more x)) ≡ plus (suc n) x
plus-more n None = ap Some (omega arith)
plus-more n (Some m) = ap Some (omega arith)

find-raised_by : (ks : List Key) (cs : List (Key × ℕ)) (q : Key) → T (is_sorted key_cmp cs) → find key_cmp q (raised_by ks cs) ≡ plus (times q ks) (find key_cmp q cs)
find-raised_by [] cs q h = plus-zero (find key_cmp q cs)
find-raised_by (k ∷ ks) cs q h =
    find-raised_by ks (raised k cs) q (sorted-raised k cs h)
    ∙ ap (plus (times q ks)) (ap (find key_cmp q) (raised-put k cs h) ∙ find-put key_cmp key_cmp_total q k _ _)
    ∙ elim (key_cmp q k) as (λ r. key_cmp q k ≡ r → plus (times q ks) (cond (is_eq r) (Some (more (find key_cmp k cs))) (find key_cmp q cs))
    ≡ plus (length (cond (is_eq r) (k ∷ filter (key_eq q) ks) (filter (key_eq q) ks))) (find key_cmp q cs)) [
      | Less ↦ λ p. refl
      | Equal ↦ λ p. ap (λ x. plus (times q ks) (Some (more x))) (find_tied key_cmp key_cmp_total q k p cs) ∙ plus-more (times q ks) (find key_cmp q cs)
      | Greater ↦ λ p. refl
    ] refl

numbered-put : (g : Key → ℕ) (k : Key) (ks : List Key) → map (λ k. (k, g k)) (insert_once key_cmp k ks) ≡ put key_cmp k (g k) (map (λ k. (k, g k)) ks)
numbered-put g k [] = refl
numbered-put g k (j ∷ ks) =
    elim (key_cmp k j) as (λ r. key_cmp k j ≡ r → map (λ k. (k, g k)) (match_ordering r (k ∷ j ∷ ks) (j ∷ ks) (j ∷ insert_once key_cmp k ks))
    ≡ by_order r ((k, g k) ∷ (j, g j) ∷ map (λ k. (k, g k)) ks) ((j, g k) ∷ map (λ k. (k, g k)) ks) ((j, g j) ∷ put key_cmp k (g k) (map (λ k. (k, g k)) ks))) [
      | Less ↦ λ p. refl
      | Equal ↦ λ p. ap (λ i. (j, g i) ∷ map (λ k. (k, g k)) ks) (sym (exact_keys k j p))
      | Greater ↦ λ p. ap (λ xs. (j, g j) ∷ xs) (numbered-put g k ks)
    ] refl

-- the distinct keys of a list, each with a number of its own
abbrev numbered : (Key → ℕ) → List Key → List (Key × ℕ)
numbered g ks = map (λ k. (k, g k)) (distinct_keys ks)

sorted-numbered : (g : Key → ℕ) (ks : List Key) → T (is_sorted key_cmp (numbered g ks))
sorted-numbered g [] = tt
sorted-numbered g (k ∷ ks) = subst (λ cs. T (is_sorted key_cmp cs)) (sym (numbered-put g k (distinct_keys ks))) (is_sorted-put key_cmp key_cmp_total k _ _ (sorted-numbered g ks))

find-numbered : (g : Key → ℕ) (ks : List Key) (q : Key) → find key_cmp q (numbered g ks) ≡ cond (has_key q ks) (Some (g q)) None
find-numbered g [] q = refl
find-numbered g (k ∷ ks) q =
    ap (find key_cmp q) (numbered-put g k (distinct_keys ks)) ∙ find-put key_cmp key_cmp_total q k _ _
    ∙ elim (key_cmp q k) as (λ r. key_cmp q k ≡ r → cond (is_eq r) (Some (g k)) (find key_cmp q (numbered g ks)) ≡ cond (is_eq r || has_key q ks) (Some (g q)) None) [
      | Less ↦ λ p. find-numbered g ks q
      | Equal ↦ λ p. ap (λ k. Some (g k)) (sym (exact_keys q k p))
      | Greater ↦ λ p. find-numbered g ks q
    ] refl

-- a key stands in a list as often as at least once
has_key-times : (q : Key) (ks : List Key) → cond (has_key q ks) (Some (times q ks)) None ≡ positive (times q ks)
has_key-times q [] = refl
has_key-times q (k ∷ ks) =
    elim (key_eq q k) as (λ b. cond (b || has_key q ks) (Some (length (cond b (k ∷ filter (key_eq q) ks) (filter (key_eq q) ks)))) None
    ≡ positive (length (cond b (k ∷ filter (key_eq q) ks) (filter (key_eq q) ks)))) [
      | true ↦ refl
      | false ↦ has_key-times q ks
    ]

-- The counters are how often each distinct key stands in the list.
raised-numbered : (ks : List Key) → raised_by ks [] ≡ numbered (λ q. times q ks) ks
raised-numbered ks = same_entries key_cmp key_cmp_total exact_keys _ _ (sorted-raised_by ks [] tt) (sorted-numbered _ ks)
    (λ q. find-raised_by ks [] q tt ∙ sym (find-numbered (λ q. times q ks) ks q ∙ has_key-times q ks))

times-append : (q : Key) (js ks : List Key) → times q (js ++ ks) ≡ times q js + times q ks
times-append q [] ks = sym (zero-add _)
times-append q (j ∷ js) ks =
    elim (key_eq q j) as (λ b. length (cond b (j ∷ filter (key_eq q) (js ++ ks)) (filter (key_eq q) (js ++ ks))) ≡ length (cond b (j ∷ filter (key_eq q) js) (filter (key_eq q) js)) + times q ks) [
      | true ↦ ap suc (times-append q js ks) ∙ omega arith
      | false ↦ times-append q js ks
    ]

module _ (all : List PlacedRow) (kind : Kind) where
  -- a row has each key once
  once : (q : Key) (row : PlacedRow) → times q (keys all kind row) ≡ cond (has_key q (keys all kind row)) 1 0
  once q row = ap length (filter-ascending q (keys all kind row) (ascending-keys all kind row))
      ∙ elim (has_key q (keys all kind row)) as (λ b. length (cond b (q ∷ []) []) ≡ cond b 1 0) [ true ↦ refl | false ↦ refl ]

  times-group : (q : Key) (rows : List PlacedRow) → times q (flat_map (keys all kind) rows) ≡ length (group all kind rows q)
  times-group q [] = refl
  times-group q (row ∷ rows) =
      times-append q (keys all kind row) (flat_map (keys all kind) rows) ∙ ap (λ n. n + times q (flat_map (keys all kind) rows)) (once q row) ∙ ap (λ n. cond (has_key q (keys all kind row)) 1 0 + n) (times-group q rows)
      ∙ elim (has_key q (keys all kind row)) as (λ b. cond b 1 0 + length (group all kind rows q) ≡ length (cond b (row ∷ group all kind rows q) (group all kind rows q))) [ true ↦ omega arith | false ↦ zero-add _ ]

  -- raising a counter for each key of each row counts the groups
  pub counters-groups : (rows : List PlacedRow) → raised_by (flat_map (keys all kind) rows) [] ≡ map (λ k. (k, length (group all kind rows k))) (all_keys all kind rows)
  counters-groups rows = raised-numbered (flat_map (keys all kind) rows) ∙ ap (λ (g : Key → ℕ). map (λ k. (k, g k)) (all_keys all kind rows)) (λ i q. times-group q rows i)

-- what a counter has come to
abbrev number : Key × ℕ → ℕ
number c = c.1

-- a key adds one to all counters together
raised-sum : (k : Key) (cs : List (Key × ℕ)) → sum_by number (raised k cs) ≡ 1 + sum_by number cs
raised-sum k [] = refl
raised-sum k (c ∷ cs) =
    elim (key_cmp k c.0) as (λ r. sum_by number (match_ordering r ((k, 1) ∷ c ∷ cs) ((c.0, c.1 + 1) ∷ cs) (c ∷ raised k cs)) ≡ 1 + sum_by number (c ∷ cs)) [
      | Less ↦ sum_by-cons number (k, 1) (c ∷ cs)
      | Equal ↦ omega (arith, sum_by-cons number (c.0, c.1 + 1) cs, sum_by-cons number c cs)
      | Greater ↦ omega (arith, sum_by-cons number c (raised k cs), raised-sum k cs, sum_by-cons number c cs)
    ]

-- each key adds one to all counters together
pub raised_by-sum : (ks : List Key) (cs : List (Key × ℕ)) → sum_by number (raised_by ks cs) ≡ length ks + sum_by number cs
raised_by-sum [] cs = omega arith
raised_by-sum (k ∷ ks) cs = omega (arith, raised_by-sum ks (raised k cs), raised-sum k cs)
