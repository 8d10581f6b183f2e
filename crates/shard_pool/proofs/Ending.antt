-- How one search ends, by what its results are.
use Rattle.std.specs.Prelude.{◌≡◌, refl, ◌≤◌, ℕ, Bool, false, ◌||◌, List, [], ◌∷◌, ◌++◌, map, flat_map, length, option_to_list, is_some, Option, Some, None, IsPermutation}
use Rattle.std.specs.List.{AllByRecursion}
use Rattle.std.proofs.Common.{sym, ap, subst, ◌∙◌, arith, length-append}
use Rattle.std.proofs.lemmas.Grind.{flat_map-append}
use Rattle.std.proofs.lemmas.List.Elements.{All-from_recursion, recursion_from_All}
use Rattle.std.proofs.lemmas.List.Sorted.{All-permutation, IsPermutation-sym, length_permutation}
use Rattle.agg_model.specs.declared.aggregation.Search.{Search}
use Rattle.agg_model.specs.declared.breaker.Tripped.{Tripped}
use Rattle.agg_model.specs.declared.outcome.Failure.{Failure}
use Rattle.agg_spec.specs.Charges.{or_else}
use Rattle.agg_spec.specs.Index.{Index}
use Rattle.agg_spec.specs.Failures.{AreFailures, unfailed}
use Rattle.agg_spec.specs.Outcome.{whole_of, whole_unless_none}
use Rattle.breaker_words.specs.declared.view.View.{View}
use Rattle.shard_pool.specs.Batches.{batch_count}
use Rattle.pool_results.specs.Carried.{PeakFits, has_failed, is_stopped as is_stopped_work}
use Rattle.pool_results.specs.Pools.{Pool, search_at, shard_count}
use Rattle.pool_results.specs.Runs.{failures_in, failure_by, left_by, left_in, told_by}
use Rattle.pool_results.specs.declared.shard_run.ShardRun.{ShardRun}
use Rattle.pool_results.specs.declared.work.Work.{Work}
use Rattle.shard_pool.specs.Ends.{IsTold, MayEnd, is_stopped}
use Rattle.shard_pool.specs.Gathered.{IsGathered, all_failures, first_refusal, is_stopped as is_stopped_gathered, parts_in}
use Rattle.shard_pool.specs.Settled.{IsEndOf}
use Rattle.shard_pool.specs.declared.gathered.Gathered.{Gathered}
use Rattle.shard_pool.specs.declared.search_end.SearchEnd.{SearchEnd}
use Rattle.shard_pool.proofs.Passes.{all-append, all-weaker}

-- what is known of a result of the search q
pub record IsResultOf (p : Pool) (q : ℕ) (view : View) (w : Work) : Type 0 where
  pub allowed : (search_at p q).partial ≡ false → failures_in w.runs ≡ []
  pub told : AllByRecursion (IsTold p.words.limits view) (told_by w.refused w.runs)
  pub whole : is_stopped_work w ≡ false → w.part ≡ whole_unless_none p.index (search_at p q) (left_in w.runs)
  pub fits : is_stopped_work w ≡ false → AllByRecursion (PeakFits p q) (left_in w.runs)

-- lists of nothing
pub all-flat : {A B : Type 0} (P : B → Type 0) (f : A → List B) (xs : List A) → AllByRecursion (λ x. AllByRecursion P (f x)) xs → AllByRecursion P (flat_map f xs)
all-flat P f [] h = tt
all-flat P f (x ∷ xs) h = all-append P (f x) (flat_map f xs) h.0 (all-flat P f xs h.1)

flat-none : {A B : Type 0} (f : A → List B) (xs : List A) → AllByRecursion (λ x. f x ≡ []) xs → flat_map f xs ≡ []
flat-none f [] h = refl
flat-none f (x ∷ xs) h = ap (λ ys. ys ++ flat_map f xs) h.0 ∙ flat-none f xs h.1

pub none-flat : {A B : Type 0} (f : A → List B) (xs : List A) → flat_map f xs ≡ [] → AllByRecursion (λ x. f x ≡ []) xs
none-flat f [] e = tt
none-flat f (x ∷ xs) e = (front-none (f x) (flat_map f xs) e, none-flat f xs (back-none (f x) (flat_map f xs) e))
  where
    front-none : {B : Type 0} (ys zs : List B) → ys ++ zs ≡ [] → ys ≡ []
    front-none [] zs e = refl
    front-none (y ∷ ys) zs e = absurd (let no : ⊥ = cc in no)

    back-none : {B : Type 0} (ys zs : List B) → ys ++ zs ≡ [] → zs ≡ []
    back-none [] zs e = e
    back-none (y ∷ ys) zs e = absurd (let no : ⊥ = cc in no)

none-long : {A : Type 0} (xs : List A) → length xs ≡ 0 → xs ≡ []
none-long [] e = refl
none-long (x ∷ xs) e = absurd (omega (arith, e))

pub none-permuted : {A : Type 0} (xs ys : List A) → IsPermutation xs ys → xs ≡ [] → ys ≡ []
none-permuted xs ys p e = none-long ys (length_permutation xs ys p ∙ ap length e)

pub permuted-none : {A : Type 0} (xs ys : List A) → IsPermutation xs ys → ys ≡ [] → xs ≡ []
permuted-none xs ys p e = none-long xs (sym (length_permutation xs ys p) ∙ ap length e)

all-permuted : {A : Type 0} (P : A → Type 0) (xs ys : List A) → IsPermutation xs ys → AllByRecursion P xs → AllByRecursion P ys
all-permuted P xs ys p h = recursion_from_All P ys (All-permutation P xs ys p (All-from_recursion P xs h))

all-front : {A : Type 0} (P : A → Type 0) (xs ys : List A) → AllByRecursion P (xs ++ ys) → AllByRecursion P xs
all-front P [] ys h = tt
all-front P (x ∷ xs) ys h = (h.0, all-front P xs ys h.1)

all-back : {A : Type 0} (P : A → Type 0) (xs ys : List A) → AllByRecursion P (xs ++ ys) → AllByRecursion P ys
all-back P [] ys h = h
all-back P (x ∷ xs) ys h = all-back P xs ys h.1

front-of-none : {A : Type 0} (xs ys : List A) → xs ++ ys ≡ [] → xs ≡ []
front-of-none [] ys e = refl
front-of-none (x ∷ xs) ys e = absurd (let no : ⊥ = cc in no)

all-mapped : {A B : Type 0} (P : B → Type 0) (f : A → B) (xs : List A) → AllByRecursion (λ x. P (f x)) xs → AllByRecursion P (map f xs)
all-mapped P f [] h = tt
all-mapped P f (x ∷ xs) h = (h.0, all-mapped P f xs h.1)

mapped-all : {A B : Type 0} (P : B → Type 0) (f : A → B) (xs : List A) → AllByRecursion P (map f xs) → AllByRecursion (λ x. P (f x)) xs
mapped-all P f [] h = tt
mapped-all P f (x ∷ xs) h = (h.0, mapped-all P f xs h.1)

pub both-all : {A : Type 0} (P Q R : A → Type 0) → ((x : A) → P x → Q x → R x) → (xs : List A) → AllByRecursion P xs → AllByRecursion Q xs → AllByRecursion R xs
both-all P Q R w [] h g = tt
both-all P Q R w (x ∷ xs) h g = (w x h.0 g.0, both-all P Q R w xs h.1 g.1)

-- where no result was refused, none failed
none-refused : (ws : List Work) → first_refusal ws ≡ None → AllByRecursion (λ (w : Work). w.refused ≡ None) ws
none-refused [] e = tt
none-refused (w ∷ ws) e = by_one (none-refused ws) w.refused refl
  where
    by_one : (first_refusal ws ≡ None → AllByRecursion (λ (v : Work). v.refused ≡ None) ws) → (o : Option Tripped) → w.refused ≡ o → (w.refused ≡ None) × AllByRecursion (λ (v : Work). v.refused ≡ None) ws
    by_one rest None is = (is, rest (sym (ap (λ o. or_else o (first_refusal ws)) is) ∙ e))
    by_one rest (Some t) is = absurd (let k : Some t ≡ None = sym (ap (λ o. or_else o (first_refusal ws)) is) ∙ e in let no : ⊥ = cc in no)

-- a refusal that is the first is told of
refusal-told : (P : Tripped → Type 0) (ws : List Work) → AllByRecursion (λ (w : Work). AllByRecursion P (option_to_list w.refused)) ws → AllByRecursion P (option_to_list (first_refusal ws))
refusal-told P [] h = tt
refusal-told P (w ∷ ws) h = by_one (refusal-told P ws h.1) w.refused h.0
  where
    by_one : AllByRecursion P (option_to_list (first_refusal ws)) → (o : Option Tripped) → AllByRecursion P (option_to_list o) → AllByRecursion P (option_to_list (or_else o (first_refusal ws)))
    by_one rest None k = rest
    by_one rest (Some t) k = k

pub no-failure : (o : Option Tripped) (m : Bool) → (is_some o || m) ≡ false → (o ≡ None) × (m ≡ false)
no-failure None m e = (refl, e)
no-failure (Some t) m e = absurd (let no : ⊥ = cc in no)

-- the groups of shards, none empty
abbrev group_of : List ℕ → List (List ℕ)
group_of [] = []
group_of (n ∷ ns) = (n ∷ ns) ∷ []

group-whole : (index : Index) (search : Search) (ns : List ℕ) → option_to_list (whole_unless_none index search ns) ≡ map (whole_of index search) (group_of ns)
group-whole index search [] = refl
group-whole index search (n ∷ ns) = refl

group-some : (ns : List ℕ) → AllByRecursion (λ (g : List ℕ). 1 ≤ length g) (group_of ns)
group-some [] = tt
group-some (n ∷ ns) = (omega arith, tt)

group-each : (ns : List ℕ) → flat_map (λ (g : List ℕ). g) (group_of ns) ≡ ns
group-each [] = refl
group-each (n ∷ ns) = nothing-after (n ∷ ns)
  where
    nothing-after : {A : Type 0} (xs : List A) → xs ++ [] ≡ xs
    nothing-after [] = refl
    nothing-after (x ∷ xs) = ap (λ ys. x ∷ ys) (nothing-after xs)

group-one : (ns : List ℕ) → 1 ≤ length ns → length (group_of ns) ≡ 1
group-one [] h = absurd (omega (arith, h))
group-one (n ∷ ns) h = refl

abbrev groups_in : List Work → List (List ℕ)
groups_in ws = flat_map (λ (w : Work). group_of (left_in w.runs)) ws

map-joined : {A B : Type 0} (f : A → B) (xs ys : List A) → map f (xs ++ ys) ≡ map f xs ++ map f ys
map-joined f [] ys = refl
map-joined f (x ∷ xs) ys = ap (λ zs. f x ∷ zs) (map-joined f xs ys)

flat-joined : (xs ys : List (List ℕ)) → flat_map (λ (g : List ℕ). g) (xs ++ ys) ≡ flat_map (λ (g : List ℕ). g) xs ++ flat_map (λ (g : List ℕ). g) ys
flat-joined xs ys = flat_map-append (λ (g : List ℕ). g) xs ys

groups-each : (ws : List Work) → flat_map (λ (g : List ℕ). g) (groups_in ws) ≡ flat_map (λ (w : Work). left_in w.runs) ws
groups-each [] = refl
groups-each (w ∷ ws) = flat-joined (group_of (left_in w.runs)) (groups_in ws) ∙ (λ i. group-each (left_in w.runs) i ++ groups-each ws i)

groups-some : (ws : List Work) → AllByRecursion (λ (g : List ℕ). 1 ≤ length g) (groups_in ws)
groups-some ws = all-flat (λ (g : List ℕ). 1 ≤ length g) (λ (w : Work). group_of (left_in w.runs)) ws (every ws)
  where
    every : (vs : List Work) → AllByRecursion (λ (w : Work). AllByRecursion (λ (g : List ℕ). 1 ≤ length g) (group_of (left_in w.runs))) vs
    every [] = tt
    every (v ∷ vs) = (group-some (left_in v.runs), every vs)

groups-parts : (p : Pool) (q : ℕ) (ws : List Work) → AllByRecursion (λ (w : Work). w.part ≡ whole_unless_none p.index (search_at p q) (left_in w.runs)) ws → parts_in ws ≡ map (whole_of p.index (search_at p q)) (groups_in ws)
groups-parts p q [] h = refl
groups-parts p q (w ∷ ws) h =
    (λ i. (ap option_to_list h.0 ∙ group-whole p.index (search_at p q) (left_in w.runs)) i ++ groups-parts p q ws h.1 i)
    ∙ sym (map-joined (whole_of p.index (search_at p q)) (group_of (left_in w.runs)) (groups_in ws))

-- where no shard is left out, all are left
left-all : (rs : List ShardRun) → failures_in rs ≡ [] → length (left_in rs) ≡ length rs
left-all [] e = refl
left-all (r ∷ rs) e = by_refusal (left-all rs) r.refused e
  where
    by_refusal : (failures_in rs ≡ [] → length (left_in rs) ≡ length rs) → (o : Option Tripped) → failure_by r.shard o ++ failures_in rs ≡ [] → length (left_by r.shard o ++ left_in rs) ≡ length (r ∷ rs)
    by_refusal rest None e = let k = rest e in omega (arith, k)
    by_refusal rest (Some t) e = absurd (let no : ⊥ = cc in no)

groups-number : (ws : List Work) → AllByRecursion (λ (w : Work). failures_in w.runs ≡ []) ws → AllByRecursion (λ (w : Work). 1 ≤ length w.runs) ws → length (groups_in ws) ≡ length ws
groups-number [] h g = refl
groups-number (w ∷ ws) h g =
    let rest = groups-number ws h.1 g.1 in
    let all = left-all w.runs h.0 in
    let some = g.0 in
    let one = group-one (left_in w.runs) (omega (arith, all, some)) in
    let both = length-append (group_of (left_in w.runs)) (groups_in ws) in
    omega (arith, rest, one, both)

module _ (p : Pool) (q size : ℕ) (view : View) (ws : List Work) (known : AllByRecursion (IsResultOf p q view) ws)
    (some : AllByRecursion (λ (w : Work). 1 ≤ length w.runs) ws) (count : length ws ≡ batch_count (shard_count p) size)
    (skipped : AllByRecursion (λ w. has_failed w ≡ false) ws → AllByRecursion (λ (w : Work). w.skipped ≡ false) ws)
    (g : Gathered) (is : IsGathered ws g) (e : SearchEnd) (end : IsEndOf g e) where
  same-stopped : is_stopped e ≡ is_stopped_gathered g
  same-stopped = λ i. is_some (end.refused i) || end.memory i

  -- no result of a search that was not stopped was
  going : is_stopped e ≡ false → AllByRecursion (λ w. is_stopped_work w ≡ false) ws
  going h = both-all (λ w. has_failed w ≡ false) (λ (w : Work). w.skipped ≡ false) (λ w. is_stopped_work w ≡ false) (λ w a b. λ i. (a i) || (b i)) ws unfailing (skipped unfailing)
    where
      none : (g.refused ≡ None) × (g.memory ≡ false)
      none = no-failure g.refused g.memory (sym same-stopped ∙ h)

      unfailing : AllByRecursion (λ w. has_failed w ≡ false) ws
      unfailing = both-all (λ (w : Work). w.refused ≡ None) (λ (w : Work). w.memory ≡ false) (λ w. has_failed w ≡ false) (λ w a b. λ i. is_some (a i) || (b i)) ws (none-refused ws (sym is.refused ∙ none.0)) (is.memory none.1)

  pub no-memory : is_stopped e ≡ false → g.memory ≡ false
  no-memory h = (no-failure g.refused g.memory (sym same-stopped ∙ h)).1

  pub all-going : is_stopped e ≡ false → AllByRecursion (λ w. is_stopped_work w ≡ false) ws
  all-going = going

  -- the failures are some of those of the results
  end-failures : (P : Failure → Type 0) → AllByRecursion P (all_failures ws) → AllByRecursion P e.failures
  end-failures P h = all-permuted P g.failures e.failures end.failures (all-front P g.failures is.front.0 (subst (AllByRecursion P) (sym is.front.1) h))

  pub same-failures : is_stopped e ≡ false → IsPermutation (all_failures ws) e.failures
  same-failures h = subst (λ fs. IsPermutation fs e.failures) (is.failures (no-memory h)) end.failures

  -- where it tells of none there is none
  pub none-left-out : is_stopped e ≡ false → e.failures ≡ [] → AllByRecursion (λ (w : Work). failures_in w.runs ≡ []) ws
  none-left-out h none = none-flat (λ (w : Work). failures_in w.runs) ws (permuted-none (all_failures ws) e.failures (same-failures h) none)

  abbrev Told : Tripped → Type 0
  Told t = IsTold p.words.limits view t

  pub may-end : AreFailures (shard_count p) e.failures → (is_stopped e ≡ false → IsPermutation (unfailed p.index e.failures) (flat_map (λ (w : Work). left_in w.runs) ws)) → MayEnd p q size view e
  may-end ascending left = record {
    allowed = λ h. none-permuted g.failures e.failures end.failures (front-of-none g.failures is.front.0 (is.front.1 ∙ flat-none (λ (w : Work). failures_in w.runs) ws (all-weaker (IsResultOf p q view) (λ (w : Work). failures_in w.runs ≡ []) (λ w k. k.allowed h) ws known)));
    ascending = ascending;
    told = all-append Told (option_to_list e.refused) (map (λ (f : Failure). f.tripped) e.failures)
        (subst (λ o. AllByRecursion Told (option_to_list o)) (sym (end.refused ∙ is.refused)) (refusal-told Told ws (all-weaker (IsResultOf p q view) (λ (w : Work). AllByRecursion Told (option_to_list w.refused)) (λ w k. all-front Told (option_to_list w.refused) (map (λ (f : Failure). f.tripped) (failures_in w.runs)) k.told) ws known)))
        (all-mapped Told (λ (f : Failure). f.tripped) e.failures (end-failures (λ (f : Failure). Told f.tripped) (all-flat (λ (f : Failure). Told f.tripped) (λ (w : Work). failures_in w.runs) ws
        (all-weaker (IsResultOf p q view) (λ (w : Work). AllByRecursion (λ (f : Failure). Told f.tripped) (failures_in w.runs))
        (λ w k. mapped-all Told (λ (f : Failure). f.tripped) (failures_in w.runs) (all-back Told (option_to_list w.refused) (map (λ (f : Failure). f.tripped) (failures_in w.runs)) k.told)) ws known))));
    stopped = λ h. end.stopped (sym same-stopped ∙ h);
    parts = λ h. record {
      groups = groups_in ws;
      some = groups-some ws;
      parts = end.parts (sym same-stopped ∙ h) ∙ is.parts (no-memory h) ∙ groups-parts p q ws (both-all (IsResultOf p q view) (λ w. is_stopped_work w ≡ false) (λ (w : Work). w.part ≡ whole_unless_none p.index (search_at p q) (left_in w.runs)) (λ w k n. k.whole n) ws known (going h));
      each = subst (IsPermutation (unfailed p.index e.failures)) (sym (groups-each ws)) (left h);
      number = λ none. groups-number ws (none-left-out h none) some ∙ count;
    };
    fits = λ h. all-permuted (PeakFits p q) (flat_map (λ (w : Work). left_in w.runs) ws) (unfailed p.index e.failures) (IsPermutation-sym (unfailed p.index e.failures) (flat_map (λ (w : Work). left_in w.runs) ws) (left h))
        (all-flat (PeakFits p q) (λ (w : Work). left_in w.runs) ws (both-all (IsResultOf p q view) (λ w. is_stopped_work w ≡ false) (λ (w : Work). AllByRecursion (PeakFits p q) (left_in w.runs)) (λ w k n. k.fits n) ws known (going h)));
  }
