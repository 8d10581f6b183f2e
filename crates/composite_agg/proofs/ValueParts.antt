-- The parts that a row's values give at a source, one value after another.
use Rattle.std.proofs.Common.{◌≡◌, refl, ℕ, ℤ, ◌+◌, ◌-◌, ◌<◌, ◌≤◌, length, zero, suc, Bool, true, false, cond, List, [], ◌∷◌, ◌++◌, take, map, Option, Some, None, sym, ◌∙◌, ap, subst, arith, add-one, inl, inr, ⊎_elim}
use Rattle.std.specs.Prelude.{◌⊎◌, ◌≤ℤ◌, ◌&&◌, T, filter, flat_map, option_map, option_to_list, IfSome}
use Rattle.std.specs.List.{slice_get, last_or, AllByRecursion}
use Rattle.std.specs.Option.{option_map_or}
use Rattle.std.specs.Cmp.{int_cmp_is}
use Rattle.std.specs.Cmp.Lexicographic.{slice_cmp}
use Rattle.std.specs.Ordering.{int_cmp, nat_cmp, is_le, is_lt, match_ordering}
use Rattle.std.specs.declared.cmp.Ordering.{Ordering}
use Rattle.std.specs.declared.cmp.Ordering.TheVariants.{Less, Equal, Greater}
use Rattle.std.proofs.lemmas.Int.{ints, by_lt_z}
use Rattle.std.proofs.lemmas.Bool.{false≢true, and_parts}
use Rattle.agg_model.specs.declared.aggregation.Spacing.TheVariants.{Numbers}
use Rattle.agg_model.specs.declared.key.Key.{Key}
use Rattle.agg_model.specs.declared.key.Key.TheVariants as key
use Rattle.agg_model.specs.declared.row.Scalar.{Scalar}
use Rattle.agg_model.specs.declared.row.Scalar.TheVariants.{Whole, Word, Flag}
use Rattle.agg_model.specs.declared.aggregation.CompositeSource.{CompositeSource}
use Rattle.agg_model.specs.ValueKeys.{scalar_key}
use Rattle.agg_evaluation.specs.DocumentFits.{follows, ascend, ascend_from}
use Rattle.agg_evaluation.specs.KeyOrder.{key_cmp}
use Rattle.agg_evaluation.specs.Keys.{distinct_keys, interval_key, is_between, is_included, no_bounds, or_missing, or_null, source_keys, histogram_keys, term_keys, values_or}
use Rattle.agg_evaluation.specs.Rows.{PlacedRow, values_of}
use Rattle.agg_evaluation.specs.Spacings.{interval_start}
use Rattle.agg_evaluation.proofs.Computing.{computing}
use Rattle.list_laws.specs.Sorting.{insert_once}
use Rattle.list_laws.proofs.Booleans.{holds}
use Rattle.list_laws.proofs.Lists.{append-nil, flat_map-append}
use Rattle.composite_agg.specs.Sources.{IsPositive, part_keys}
use Rattle.composite_agg.proofs.Rising.{Rises, RisesFrom, repeated, another, last-of}
use Rattle.histogram_agg.proofs.Starts.{rising}

whole_cmp : (j k : ℤ) → key_cmp (key.Whole j) (key.Whole k) ≡ int_cmp j k
unfolding computing
whole_cmp j k = refl

at_most : (m n : ℤ) → is_le (int_cmp m n) ≡ true → m ≤ℤ n
at_most m n h = by_lt_z n m (λ less. absurd (false≢true (ap is_le (int_cmp_is m n Greater less) ∙ h))) (λ le. le)

at_most-back : (m n : ℤ) → m ≤ℤ n → T (is_le (int_cmp m n))
at_most-back m n le = by_lt_z m n
    (λ less. subst (λ o. T (is_le o)) (int_cmp_is m n Less less) tt)
    (λ back. let same : m ≡ n = omega (arith, ints) in subst (λ o. T (is_le o)) (int_cmp_is m n Equal same) tt)

less_at_most : (o : Ordering) → is_lt o ≡ true → T (is_le o)
less_at_most Less e = tt
less_at_most Equal e = absurd (false≢true e)
less_at_most Greater e = absurd (false≢true e)

-- values that may stand side by side, as keys
follows-keys : (v w : Scalar) → follows v w ≡ true → T (is_le (key_cmp (scalar_key v) (scalar_key w)))
unfolding computing
follows-keys (Whole m) (Whole n) h = holds _ h
follows-keys (Word v) (Word w) h = less_at_most (slice_cmp nat_cmp v w) h
follows-keys (Flag a) (Flag b) h = holds _ h
follows-keys (Whole m) (Word w) h = absurd (false≢true h)
follows-keys (Whole m) (Flag b) h = absurd (false≢true h)
follows-keys (Word v) (Whole n) h = absurd (false≢true h)
follows-keys (Word v) (Flag b) h = absurd (false≢true h)
follows-keys (Flag a) (Whole n) h = absurd (false≢true h)
follows-keys (Flag a) (Word w) h = absurd (false≢true h)

rise-values : (v : Scalar) (vs : List Scalar) → ascend_from v vs ≡ true → RisesFrom (scalar_key v) (flat_map (λ w. scalar_key w ∷ []) vs)
rise-values v [] h = tt
rise-values v (w ∷ vs) h = let parts = and_parts (follows v w) (ascend_from w vs) h in (follows-keys v w parts.0, rise-values w vs parts.1)

no_words : (interval : ℕ) (w : List ℕ) (vs : List Scalar) → ascend_from (Word w) vs ≡ true → flat_map (interval_key (Numbers interval 0)) vs ≡ []
no_words i w [] h = refl
no_words i w (Whole n ∷ vs) h = absurd (false≢true h)
no_words i w (Word x ∷ vs) h = no_words i x vs (and_parts (follows (Word w) (Word x)) (ascend_from (Word x) vs) h).1
no_words i w (Flag b ∷ vs) h = absurd (false≢true h)

no_flags : (interval : ℕ) (b : Bool) (vs : List Scalar) → ascend_from (Flag b) vs ≡ true → flat_map (interval_key (Numbers interval 0)) vs ≡ []
no_flags i b [] h = refl
no_flags i b (Whole n ∷ vs) h = absurd (false≢true h)
no_flags i b (Word x ∷ vs) h = absurd (false≢true h)
no_flags i b (Flag c ∷ vs) h = no_flags i c vs (and_parts (follows (Flag b) (Flag c)) (ascend_from (Flag c) vs) h).1

rise-starts : (interval : ℕ) → 0 < interval → (n : ℤ) (vs : List Scalar) → ascend_from (Whole n) vs ≡ true → RisesFrom (key.Whole (interval_start (Numbers interval 0) n)) (flat_map (interval_key (Numbers interval 0)) vs)
rise-starts i positive n [] h = tt
rise-starts i positive n (Whole m ∷ vs) h =
    let parts = and_parts (is_le (int_cmp n m)) (ascend_from (Whole m) vs) h in
    (subst (λ o. T (is_le o)) (sym (whole_cmp (interval_start (Numbers i 0) n) (interval_start (Numbers i 0) m))) (at_most-back _ _ (rising i 0 positive n m (at_most n m parts.0))), rise-starts i positive m vs parts.1)
rise-starts i positive n (Word w ∷ vs) h = absurd (false≢true h)
rise-starts i positive n (Flag b ∷ vs) h = absurd (false≢true h)

rise-by : (o : Option ℕ) → IfSome o (λ interval. 0 < interval) → (vs : List Scalar) → ascend vs ≡ true → Rises (flat_map (λ v. option_map_or (λ interval. interval_key (Numbers interval 0) v) o (scalar_key v ∷ [])) vs)
rise-by o positive [] h = tt
rise-by None positive (v ∷ vs) h = rise-values v vs h
rise-by (Some i) positive (Whole n ∷ vs) h = rise-starts i positive n vs h
rise-by (Some i) positive (Word w ∷ vs) h = subst Rises (sym (no_words i w vs h)) tt
rise-by (Some i) positive (Flag b ∷ vs) h = subst Rises (sym (no_flags i b vs h)) tt

from-take : (v : Scalar) (vs : List Scalar) (n : ℕ) → ascend_from v vs ≡ true → ascend_from v (take n vs) ≡ true
from-take v [] zero h = refl
from-take v [] (suc n) h = refl
from-take v (w ∷ vs) zero h = refl
from-take v (w ∷ vs) (suc n) h = let parts = and_parts (follows v w) (ascend_from w vs) h in both_true _ _ parts.0 (from-take w vs n parts.1)
  where
    both_true : (a b : Bool) → a ≡ true → b ≡ true → (a && b) ≡ true
    both_true true b e f = f
    both_true false b e f = absurd (false≢true e)

ascend-take : (vs : List Scalar) (n : ℕ) → ascend vs ≡ true → ascend (take n vs) ≡ true
ascend-take [] zero h = refl
ascend-take [] (suc n) h = refl
ascend-take (v ∷ vs) zero h = refl
ascend-take (v ∷ vs) (suc n) h = from-take v vs n h

take-next : (vs : List Scalar) (n : ℕ) (v : Scalar) → slice_get vs n ≡ Some v → take (suc n) vs ≡ take n vs ++ v ∷ []
take-next [] n v is = absurd (cc is)
take-next (w ∷ vs) zero v is = let same : w ≡ v = cc is in ap (λ (x : Scalar). x ∷ []) same
take-next (w ∷ vs) (suc n) v is = ap (λ (xs : List Scalar). w ∷ xs) (take-next vs n v is)

take-more : (vs : List Scalar) (n : ℕ) (v : Scalar) → slice_get vs n ≡ Some v → take (n + 1) vs ≡ take n vs ++ v ∷ []
take-more vs n v is = subst (λ (k : ℕ). take k vs ≡ take n vs ++ v ∷ []) (sym (add-one n)) (take-next vs n v is)

-- what stands side by side
from-at : (s : Scalar) (vs : List Scalar) (n : ℕ) (u v : Scalar) → ascend_from s vs ≡ true → slice_get vs n ≡ Some u → slice_get vs (suc n) ≡ Some v → follows u v ≡ true
from-at s [] n u v h is next = absurd (cc is)
from-at s (w ∷ []) zero u v h is next = absurd (cc next)
from-at s (w ∷ x ∷ vs) zero u v h is next =
    let first : w ≡ u = cc is in
    let second : x ≡ v = cc next in
    ap (λ y. follows y v) (sym first) ∙ ap (follows w) (sym second) ∙ (and_parts (follows w x) (ascend_from x vs) (and_parts (follows s w) (ascend_from w (x ∷ vs)) h).1).0
from-at s (w ∷ vs) (suc n) u v h is next = from-at w vs n u v (and_parts (follows s w) (ascend_from w vs) h).1 is next

side_by_side : (vs : List Scalar) (n : ℕ) (u v : Scalar) → ascend vs ≡ true → slice_get vs n ≡ Some u → slice_get vs (suc n) ≡ Some v → follows u v ≡ true
side_by_side [] n u v h is next = absurd (cc is)
side_by_side (w ∷ []) zero u v h is next = absurd (cc next)
side_by_side (w ∷ x ∷ vs) zero u v h is next =
    let first : w ≡ u = cc is in
    let second : x ≡ v = cc next in
    ap (λ y. follows y v) (sym first) ∙ ap (follows w) (sym second) ∙ (and_parts (follows w x) (ascend_from x vs) h).0
side_by_side (w ∷ vs) (suc n) u v h is next = from-at w vs n u v h is next

none_or_one : (o : Option ℕ) (v : Scalar) → (option_map_or (λ interval. interval_key (Numbers interval 0) v) o (scalar_key v ∷ []) ≡ []) ⊎ ((k : Key) × (option_map_or (λ interval. interval_key (Numbers interval 0) v) o (scalar_key v ∷ []) ≡ k ∷ []))
none_or_one None v = inr (scalar_key v, refl)
none_or_one (Some i) (Whole n) = inr (key.Whole (interval_start (Numbers i 0) n), refl)
none_or_one (Some i) (Word w) = inl refl
none_or_one (Some i) (Flag b) = inl refl

-- where a value gives no part, neither does the next
none_after : (o : Option ℕ) (u v : Scalar) → follows u v ≡ true → option_map_or (λ interval. interval_key (Numbers interval 0) u) o (scalar_key u ∷ []) ≡ [] → option_map_or (λ interval. interval_key (Numbers interval 0) v) o (scalar_key v ∷ []) ≡ []
none_after None u v h e = absurd (cc e)
none_after (Some i) (Whole m) v h e = absurd (cc e)
none_after (Some i) (Word w) (Whole n) h e = absurd (false≢true h)
none_after (Some i) (Word w) (Word x) h e = refl
none_after (Some i) (Word w) (Flag b) h e = refl
none_after (Some i) (Flag b) (Whole n) h e = absurd (false≢true h)
none_after (Some i) (Flag b) (Word x) h e = refl
none_after (Some i) (Flag b) (Flag c) h e = refl

module _ (s : CompositeSource) (positive : IsPositive s) (values : List Scalar) (ascends : ascend values ≡ true) where
  -- the parts of the values before this place
  abbrev pub before : ℕ → List Key
  before n = flat_map (part_keys s) (take n values)

  more : (n : ℕ) (v : Scalar) → slice_get values n ≡ Some v → before (n + 1) ≡ before n ++ part_keys s v
  more n v is = ap (flat_map (part_keys s)) (take-more values n v is) ∙ flat_map-append (part_keys s) (take n values) (v ∷ []) ∙ ap (λ ks. before n ++ ks) (append-nil (part_keys s v))

  rises : (n : ℕ) → Rises (before n)
  rises n = rise-by s.interval positive (take n values) (ascend-take values n ascends)

  -- the first value
  pub first_part : (v : Scalar) → slice_get values 0 ≡ Some v → distinct_keys (before (0 + 1)) ≡ distinct_keys (before 0) ++ part_keys s v
  first_part v is = ap distinct_keys (more 0 v is) ∙ ⊎_elim (λ (e : part_keys s v ≡ []). ap distinct_keys e ∙ sym e) (λ (one : (k : Key) × (part_keys s v ≡ k ∷ [])). ap distinct_keys one.1 ∙ sym one.1) (none_or_one s.interval v)

  -- one that gives the same part as the value before
  pub same_part : (n : ℕ) (u v : Scalar) → slice_get values n ≡ Some u → slice_get values (n + 1) ≡ Some v → part_keys s u ≡ part_keys s v → distinct_keys (before (n + 1 + 1)) ≡ distinct_keys (before (n + 1))
  same_part n u v is next same =
      ap distinct_keys (more (n + 1) v next) ∙ ⊎_elim
      (λ (e : part_keys s v ≡ []). ap (λ ks. distinct_keys (before (n + 1) ++ ks)) e ∙ ap distinct_keys (append-nil (before (n + 1))))
      (λ (one : (k : Key) × (part_keys s v ≡ k ∷ [])).
      let last : last_or None (before (n + 1)) ≡ Some one.0 = ap (last_or None) (more n u is ∙ ap (λ ks. before n ++ ks) (same ∙ one.1)) ∙ last-of None (before n) one.0 in
      ap (λ ks. distinct_keys (before (n + 1) ++ ks)) one.1 ∙ repeated (before (n + 1)) one.0 last)
      (none_or_one s.interval v)

  -- one that gives another
  pub other_part : (n : ℕ) (u v : Scalar) → slice_get values n ≡ Some u → slice_get values (n + 1) ≡ Some v → (part_keys s u ≡ part_keys s v → ⊥) → distinct_keys (before (n + 1 + 1)) ≡ distinct_keys (before (n + 1)) ++ part_keys s v
  other_part n u v is next differs =
      ap distinct_keys (more (n + 1) v next) ∙ ⊎_elim
      (λ (e : part_keys s v ≡ []). ap (λ ks. distinct_keys (before (n + 1) ++ ks)) e ∙ ap distinct_keys (append-nil (before (n + 1))) ∙ sym (append-nil (distinct_keys (before (n + 1)))) ∙ ap (λ ks. distinct_keys (before (n + 1)) ++ ks) (sym e))
      (λ (one : (k : Key) × (part_keys s v ≡ k ∷ [])).
      ap (λ ks. distinct_keys (before (n + 1) ++ ks)) one.1
      ∙ another (before (n + 1)) one.0 (subst Rises (more (n + 1) v next ∙ ap (λ ks. before (n + 1) ++ ks) one.1) (rises (n + 1 + 1))) (λ last. differs (⊎_elim
      (λ (none : part_keys s u ≡ []). none ∙ sym (none_after s.interval u v (side_by_side values n u v ascends is (subst (λ i. slice_get values i ≡ Some v) (add-one n) next)) none))
      (λ (before_one : (k : Key) × (part_keys s u ≡ k ∷ [])).
      let old : Some before_one.0 ≡ Some one.0 = sym (last-of None (before n) before_one.0) ∙ ap (last_or None) (sym (more n u is ∙ ap (λ ks. before n ++ ks) before_one.1)) ∙ last in
      before_one.1 ∙ ap (λ k. k ∷ []) (some_is before_one.0 one.0 old) ∙ sym one.1)
      (none_or_one s.interval u)))
      ∙ ap (λ ks. distinct_keys (before (n + 1)) ++ ks) (sym one.1))
      (none_or_one s.interval v)
    where
      some_is : (j k : Key) → Some j ≡ Some k → j ≡ k
      some_is j k e = cc e

  -- the same at a place behind another
  pub same_at : (place : ℕ) → 0 < place → (u v : Scalar) → slice_get values (place - 1) ≡ Some u → slice_get values place ≡ Some v → part_keys s u ≡ part_keys s v → distinct_keys (before (place + 1)) ≡ distinct_keys (before place) ++ []
  same_at place behind u v is next same =
      let e : place ≡ (place - 1) + 1 = omega (arith, behind) in
      subst (λ (p : ℕ). slice_get values p ≡ Some v → distinct_keys (before (p + 1)) ≡ distinct_keys (before p) ++ []) (sym e) (λ there. same_part (place - 1) u v is there same ∙ sym (append-nil _)) next

  pub other_at : (place : ℕ) → 0 < place → (u v : Scalar) → slice_get values (place - 1) ≡ Some u → slice_get values place ≡ Some v → (part_keys s u ≡ part_keys s v → ⊥) → distinct_keys (before (place + 1)) ≡ distinct_keys (before place) ++ part_keys s v
  other_at place behind u v is next differs =
      let e : place ≡ (place - 1) + 1 = omega (arith, behind) in
      subst (λ (p : ℕ). slice_get values p ≡ Some v → distinct_keys (before (p + 1)) ≡ distinct_keys (before p) ++ part_keys s v) (sym e) (λ there. other_part (place - 1) u v is there differs) next

  pub first_at : (place : ℕ) → place ≤ 0 → (v : Scalar) → slice_get values place ≡ Some v → distinct_keys (before (place + 1)) ≡ distinct_keys (before place) ++ part_keys s v
  first_at place low v is =
      let e : place ≡ 0 = omega (arith, low) in
      subst (λ (p : ℕ). slice_get values p ≡ Some v → distinct_keys (before (p + 1)) ≡ distinct_keys (before p) ++ part_keys s v) (sym e) (first_part v) is

-- what stands at a place of a list
pub there : {A : Type 0} (xs : List A) (n : ℕ) → n < length xs → (x : A) × (slice_get xs n ≡ Some x)
there [] n below = absurd (omega (arith, below))
there (x ∷ xs) zero below = (x, refl)
there (x ∷ xs) (suc n) below = there xs n (omega (arith, below))

-- at most one part, as a list and as an option
pub as_list : {A B : Type 0} (f : A → B) (a b : Option A) → option_map f a ≡ option_map f b → map f (option_to_list a) ≡ map f (option_to_list b)
as_list f None None e = refl
as_list f None (Some b) e = absurd (cc e)
as_list f (Some a) None e = absurd (cc e)
as_list f (Some a) (Some b) e = ap option_to_list e

pub as_option : {A B : Type 0} (f : A → B) (a b : Option A) → map f (option_to_list a) ≡ map f (option_to_list b) → option_map f a ≡ option_map f b
as_option f None None e = refl
as_option f None (Some b) e = absurd (cc e)
as_option f (Some a) None e = absurd (cc e)
as_option f (Some a) (Some b) e = let same : f a ≡ f b = cc e in ap (λ x. Some x) same

-- null stands for no key
pub with_null : (missing : Bool) (ks : List Key) → missing ≡ true → ks ≡ [] → or_null missing ks ≡ ks ++ key.Null ∷ []
with_null missing [] e f = ap (λ b. cond b (key.Null ∷ []) []) e
with_null missing (k ∷ ks) e f = absurd (cc f)

pub without_null : (missing : Bool) (ks : List Key) → missing ≡ false → or_null missing ks ≡ ks
without_null missing [] e = ap (λ b. cond b (key.Null ∷ []) []) e
without_null missing (k ∷ ks) e = refl

pub with_keys : (missing : Bool) (ks : List Key) → (ks ≡ [] → ⊥) → or_null missing ks ≡ ks
with_keys missing [] some = absurd (some refl)
with_keys missing (k ∷ ks) some = refl

pub no_items : {A : Type 0} (xs : List A) → length xs ≡ 0 → xs ≡ []
no_items [] e = refl
no_items (x ∷ xs) e = absurd (omega (arith, e))

-- the keys of a source are the distinct parts, or null
all_pass : (p : Key → Bool) (ks : List Key) → AllByRecursion (λ k. p k ≡ true) ks → filter p ks ≡ ks
all_pass p [] all = refl
all_pass p (k ∷ ks) all = ap (λ b. cond b (k ∷ filter p ks) (filter p ks)) all.0 ∙ ap (λ js. k ∷ js) (all_pass p ks all.1)

each_insert : (P : Key → Type 0) (k : Key) (ks : List Key) → P k → AllByRecursion P ks → AllByRecursion P (insert_once key_cmp k ks)
each_insert P k [] first all = (first, tt)
each_insert P k (j ∷ js) first all = elim (key_cmp k j) as (λ r. AllByRecursion P (match_ordering r (k ∷ j ∷ js) (j ∷ js) (j ∷ insert_once key_cmp k js))) [
  | Less ↦ (first, all)
  | Equal ↦ all
  | Greater ↦ (all.0, each_insert P k js first all.1)
]

each_distinct : (P : Key → Type 0) (ks : List Key) → AllByRecursion P ks → AllByRecursion P (distinct_keys ks)
each_distinct P [] all = tt
each_distinct P (k ∷ ks) all = each_insert P k (distinct_keys ks) all.0 (each_distinct P ks all.1)

each_included : (ks : List Key) → AllByRecursion (λ k. is_included None [] k ≡ true) ks
each_included [] = tt
each_included (k ∷ ks) = (refl, each_included ks)

between : (n : ℤ) → is_between no_bounds (key.Whole n) ≡ true
unfolding computing
between n = refl

each_between : (interval : ℕ) (vs : List Scalar) → AllByRecursion (λ k. is_between no_bounds k ≡ true) (flat_map (interval_key (Numbers interval 0)) vs)
each_between i [] = tt
each_between i (Whole n ∷ vs) = (between (interval_start (Numbers i 0) n), each_between i vs)
each_between i (Word w ∷ vs) = each_between i vs
each_between i (Flag b ∷ vs) = each_between i vs

no_missing : (vs : List Scalar) → or_missing None vs ≡ vs
no_missing [] = refl
no_missing (v ∷ vs) = refl

mapped : (vs : List Scalar) → map scalar_key vs ≡ flat_map (λ v. scalar_key v ∷ []) vs
mapped [] = refl
mapped (v ∷ vs) = ap (λ ks. scalar_key v ∷ ks) (mapped vs)

by_source : (row : PlacedRow) (field : ℕ) (o : Option ℕ)
    → option_map_or (λ interval. histogram_keys field (Numbers interval 0) no_bounds None row) o (term_keys field None [] None row)
    ≡ distinct_keys (flat_map (λ v. option_map_or (λ interval. interval_key (Numbers interval 0) v) o (scalar_key v ∷ [])) (values_of field row))
by_source row field None =
    all_pass (is_included None []) (distinct_keys (map scalar_key (values_or field None row))) (each_included _)
    ∙ ap (λ vs. distinct_keys (map scalar_key vs)) (no_missing (values_of field row)) ∙ ap distinct_keys (mapped (values_of field row))
by_source row field (Some i) =
    all_pass (is_between no_bounds) (distinct_keys (flat_map (interval_key (Numbers i 0)) (values_or field None row))) (each_distinct _ (flat_map (interval_key (Numbers i 0)) (values_or field None row)) (each_between i (values_or field None row)))
    ∙ ap (λ vs. distinct_keys (flat_map (interval_key (Numbers i 0)) vs)) (no_missing (values_of field row))

pub source-is : (row : PlacedRow) (s : CompositeSource) → source_keys row s ≡ or_null s.missing_bucket (distinct_keys (flat_map (part_keys s) (values_of s.field row)))
source-is row s = ap (or_null s.missing_bucket) (by_source row s.field s.interval)

-- one value gives one part where the source has no interval
pub few-parts : (s : CompositeSource) (vs : List Scalar) → s.interval ≡ None → length vs < 2 → length vs ≡ length (distinct_keys (flat_map (part_keys s) vs))
few-parts s [] none few = refl
few-parts s (v ∷ []) none few = sym (ap (λ (o : Option ℕ). length (distinct_keys (option_map_or (λ interval. interval_key (Numbers interval 0) v) o (scalar_key v ∷ []) ++ []))) none)
few-parts s (v ∷ w ∷ vs) none few = absurd (omega (arith, few))
