-- A close takes the value of each slot, and the merged results as they come, search by search.
use Rattle.std.proofs.Common.{◌≡◌, ◌≢◌, ℕ, zero, suc, ◌+◌, ◌*◌, ◌<◌, ◌≤◌, Bool, true, false, cond, ltb, List, [], ◌∷◌, ◌++◌, length, map, set, get_or, take, sym, refl, ap, ◌∙◌, subst, arith}
use Rattle.std.specs.Prelude.{IsTrue, All, Contains, filter, flat_map}
use Rattle.std.specs.List.{sum_by}
use Rattle.std.proofs.lemmas.Bool.{lt-ltb, ltb-true, false≢true}
use Rattle.std.proofs.lemmas.List.{map-append, take_all}
use Rattle.std.proofs.lemmas.List.Elements.{filter-append}
use Rattle.std.proofs.lemmas.List.Sums.{sum_by-cons, sum_by-append}
use Rattle.std.proofs.lemmas.Grind.{flat_map-append}
use mathlib.Core.Option.{some, some-injective, some-ne-none}
use mathlib.Core.Logic.{dite}
use native.Mathlib.Decide.{ℕ_discrete}
use lib.ListN.{get_elem?}
use Rattle.arrival_moves.specs.declared.label.Label.{Label}
use Rattle.arrival_moves.specs.declared.plan.Plan.{Plan}
use Rattle.arrival_moves.specs.declared.view.View.{View}
use Rattle.arrival_moves.specs.Closing.{IsAllMerged, IsAtEnd}
use Rattle.arrival_moves.specs.Labels.{task_times}
use Rattle.arrival_moves.specs.Lists.{one_if, numbers_from}
use Rattle.arrival_moves.specs.Moves.{ArrivalState, run}
use Rattle.arrival_moves.specs.Plans.{IsPlan, task_count, tasks_of, first_of, place_of}
use Rattle.arrival_moves.specs.Slots.{Slot, fresh, reached, holds, emptied, in_slot, in_slots}
use Rattle.arrival_table.specs.declared.cell.Cell.{Cell}
use Rattle.arrival_table.specs.declared.cell.Cell.TheVariants.{Outcome}
use Rattle.atomic_table.specs.Table.{State, Final, Seen}
use Rattle.arrival_table.specs.declared.known.Known.{Known}
use Rattle.arrival_table.specs.declared.table.Merged.{Merged}
use Rattle.arrival_table.specs.Outs.{knows}
use Rattle.arrival_table.specs.Steps.{IsReached}
use Rattle.arrival_table.specs.Closing.{batch_numbers, batches_of, all_batches, batch_of, IsWholeBatch, IsBesideFailed}
use Rattle.arrival_moves.proofs.LabelsFit.{IsBatch, batch_first, holds_same}
use Rattle.arrival_moves.proofs.TaskPlaces.{all_below, place_within}
use Rattle.arrival_moves.proofs.Quiet.{lt_none}
use Rattle.arrival_moves.proofs.Closing.{merged_there, merged_once, merged_failed}
use Rattle.arrival_moves.proofs.Runs.{IsKept, kept_run}
use Rattle.arrival_moves.proofs.SlotStates.{has_slot}
use Rattle.list_laws.proofs.Places.{there_below}
use Rattle.list_laws.proofs.PlaceSums.{Each, each_snoc}
use Rattle.arrival_table.proofs.Allowed.{desk_there}
use Rattle.arrival_table.proofs.Filled.{take_more, something, at_or}
use Rattle.arrival_moves.proofs.Starts.{next_start, first_start, search_valid}

-- of n slots, those below i were taken and the others not
pub record IsTakenBelow (i n : ℕ) (flags : List Bool) : Type 0 where
  pub empty : (j : ℕ) → j < i → get_or flags j false ≡ false
  pub full : (j : ℕ) → i ≤ j → j < n → get_or flags j false ≡ true

flag_here : (flags : List Bool) (i : ℕ) → get_or (set flags i false) i false ≡ false
flag_here [] i = refl
flag_here (x ∷ xs) zero = refl
flag_here (x ∷ xs) (suc i) = flag_here xs i

flag_else : (flags : List Bool) (i j : ℕ) → j ≢ i → get_or (set flags i false) j false ≡ get_or flags j false
flag_else [] i j h = refl
flag_else (x ∷ xs) zero zero h = absurd (h refl)
flag_else (x ∷ xs) zero (suc j) h = refl
flag_else (x ∷ xs) (suc i) zero h = refl
flag_else (x ∷ xs) (suc i) (suc j) h = flag_else xs i j (λ e. h (ap suc e))

pub taken_next : (i n : ℕ) (flags : List Bool) → IsTakenBelow i n flags → IsTakenBelow (i + 1) n (set flags i false)
taken_next i n flags t = record {
  empty = λ j h. dite (ℕ_discrete j i) (λ e. ap (λ k. get_or (set flags i false) k false) e ∙ flag_here flags i) (λ e. flag_else flags i j e ∙ t.empty j (omega arith));
  full = λ j h k. flag_else flags i j (λ e. omega arith) ∙ t.full j (omega arith) k;
}

pub taken_next_at : (i n m : ℕ) (flags gs : List Bool) → m ≡ n → gs ≡ set flags i false → IsTakenBelow i n flags → IsTakenBelow (i + 1) m gs
taken_next_at i n m flags gs e g t = subst (λ (z : ℕ × List Bool). IsTakenBelow (i + 1) z.0 z.1) (λ j. (sym e j, sym g j)) (taken_next i n flags t)

-- one number more
pub numbers_more : (t n : ℕ) → numbers_from t (suc n) ≡ numbers_from t n ++ (t + n) ∷ []
numbers_more t zero = ap (λ k. k ∷ []) (let s : t ≡ t + 0 = omega arith in s)
numbers_more t (suc n) = ap (λ xs. t ∷ xs) (numbers_more (suc t) n ∙ ap (λ k. numbers_from (suc t) n ++ k ∷ []) (let s : suc t + n ≡ t + suc n = omega arith in s))

first_numbers : (n : ℕ) → numbers_from 0 (suc n) ≡ numbers_from 0 n ++ n ∷ []
first_numbers n = numbers_more 0 n ∙ ap (λ k. numbers_from 0 n ++ k ∷ []) (let s : 0 + n ≡ n = omega arith in s)

joined : {X : Type 0} (xs ys zs : List X) → (xs ++ ys) ++ zs ≡ xs ++ (ys ++ zs)
joined [] ys zs = refl
joined (x ∷ xs) ys zs = ap (λ l. x ∷ l) (joined xs ys zs)

with_none : {X : Type 0} (xs : List X) → xs ++ [] ≡ xs
with_none [] = refl
with_none (x ∷ xs) = ap (λ l. x ∷ l) (with_none xs)

pub no_items : {X : Type 0} (xs : List X) → length xs ≡ 0 → xs ≡ []
no_items [] h = refl
no_items (x ∷ xs) h = absurd (omega arith)

longer : {X : Type 0} (xs : List X) (x : X) → length (xs ++ x ∷ []) ≡ length xs + 1
longer [] x = refl
longer (y ∷ ys) x = let a = longer ys x in omega arith

-- a slot whose label is none counts nothing
bare : (x : Slot) → ((l : Label) → x ≡ holds l → ⊥) → (f : Label → ℕ) → in_slot f x ≡ 0
bare fresh h f = refl
bare reached h f = refl
bare emptied h f = refl
bare (holds l) h f = absurd (h l refl)

-- sums over the first slots, one of them more
sum_next : (f : Label → ℕ) (xs : List Slot) (j n : ℕ) (x : Slot) → n ≡ suc j → get_elem? xs j ≡ some x → in_slots f (take n xs) ≡ in_slots f (take j xs) + in_slot f x
sum_next f xs j n x is e = ap (λ k. in_slots f (take k xs)) is ∙ (ap (in_slots f) (sym (take_more xs j x e)) ∙ (sum_by-append (in_slot f) (take j xs) (x ∷ []) ∙ (let a = sum_by-cons (in_slot f) x [] in omega arith)))

module _ {R : Type 0} (outcome : R → Label) (p : Plan) where
  -- the batches of the searches before q, and of q those below m
  abbrev pairs : ℕ → List ℕ → List (ℕ × ℕ)
  pairs q bs = map (λ b. (q, b)) bs

  abbrev below : ℕ → ℕ → List ℕ
  below q m = filter (λ b. ltb (b * p.batch) (tasks_of p q)) (numbers_from 0 m)

  abbrev batches_to : ℕ → ℕ → List (ℕ × ℕ)
  batches_to q m = flat_map (batches_of p) (numbers_from 0 q) ++ pairs q (below q m)

  below_more : (q m : ℕ) (c : Bool) → ltb (m * p.batch) (tasks_of p q) ≡ c → below q m ++ cond c (m ∷ []) [] ≡ below q (m + 1)
  below_more q m c h = ap (λ d. below q m ++ cond d (m ∷ []) []) (sym h) ∙ (sym (filter-append (λ b. ltb (b * p.batch) (tasks_of p q)) (numbers_from 0 m) (m ∷ []))
      ∙ (ap (filter (λ b. ltb (b * p.batch) (tasks_of p q))) (sym (first_numbers m)) ∙ ap (below q) (let s : suc m ≡ m + 1 = omega arith in s)))

  batches_next : (q m : ℕ) → ltb (m * p.batch) (tasks_of p q) ≡ true → batches_to q m ++ pairs q (m ∷ []) ≡ batches_to q (m + 1)
  batches_next q m h = joined (flat_map (batches_of p) (numbers_from 0 q)) (pairs q (below q m)) (pairs q (m ∷ []))
      ∙ ap (λ bs. flat_map (batches_of p) (numbers_from 0 q) ++ bs) (sym (map-append (λ b. (q, b)) (below q m) (m ∷ [])) ∙ ap (pairs q) (below_more q m true h))

  batches_same : (q m : ℕ) → ltb (m * p.batch) (tasks_of p q) ≡ false → batches_to q m ≡ batches_to q (m + 1)
  batches_same q m h = ap (λ bs. flat_map (batches_of p) (numbers_from 0 q) ++ pairs q bs) (sym (with_none (below q m)) ∙ below_more q m false h)

  batches_search : (q : ℕ) → batches_to q (tasks_of p q) ≡ batches_to (q + 1) 0
  batches_search q = ap (λ bs. flat_map (batches_of p) (numbers_from 0 q) ++ bs) (sym (with_none (batches_of p q))) ∙ (sym (flat_map-append (batches_of p) (numbers_from 0 q) (q ∷ []))
      ∙ (ap (flat_map (batches_of p)) (sym (first_numbers q) ∙ ap (numbers_from 0) (let s : suc q ≡ q + 1 = omega arith in s)) ∙ sym (with_none (flat_map (batches_of p) (numbers_from 0 (q + 1))))))

  -- the merged result lies in the slot of its batch
  abbrev IsFrom : List Slot → Merged R → Type 0
  IsFrom xs n = IsBatch p n.search n.batch × (get_elem? xs (place_of p n.search n.batch) ≡ some (holds (outcome n.result)))

  -- the merged results that were taken so far from the slots xs: those of the searches before q, and of q those below m
  pub record AreTakenTo (xs : List Slot) (q m : ℕ) (ns : List (Merged R)) : Type 0 where
    pub batches : map batch_of ns ≡ batches_to q m
    pub each : Each (IsFrom xs) ns
    pub sums : (k : ℕ) → sum_by (λ (n : Merged R). task_times k (outcome n.result)) ns ≡ in_slots (task_times k) (take (place_of p q m) xs)
    pub few : length ns ≤ place_of p q m

  pub none_taken : (xs : List Slot) → AreTakenTo xs 0 0 []
  none_taken xs = record {
    batches = refl;
    each = λ i v e. absurd (some-ne-none v (sym e));
    sums = λ k. let a : in_slots (task_times k) (take (place_of p 0 0) xs) ≡ 0 = ap (λ j. in_slots (task_times k) (take j xs)) none_before in sym a;
    few = omega arith;
  }
    where
      none_in : (ts : List ℕ) → sum_by (λ x. one_if (ltb x 0)) ts ≡ 0
      none_in [] = refl
      none_in (t ∷ ts) = let a = none_in ts in let b = sum_by-cons (λ x. one_if (ltb x 0)) t ts in let c = lt_none t 0 (omega arith) in omega arith

      none_before : place_of p 0 0 ≡ 0
      none_before = let a = none_in p.tasks in omega arith

  module _ (xs : List Slot) (q m : ℕ) (ns : List (Merged R)) (t : AreTakenTo xs q m ns) where
    -- the batch m of q is there, and comes to the others
    pub taken_more : (y : R) → ltb (m * p.batch) (tasks_of p q) ≡ true → get_elem? xs (place_of p q m) ≡ some (holds (outcome y)) → AreTakenTo xs q (m + 1) (ns ++ record { search = q; batch = m; result = y } ∷ [])
    taken_more y real e = let n : Merged R = record { search = q; batch = m; result = y } in record {
      batches = map-append batch_of ns (n ∷ []) ∙ (ap (λ bs. bs ++ pairs q (m ∷ [])) t.batches ∙ batches_next q m real);
      each = each_snoc (IsFrom xs) ns n t.each (ltb-true (m * p.batch) (tasks_of p q) real, e);
      sums = λ k. let f : Merged R → ℕ = λ (n : Merged R). task_times k (outcome n.result) in let a = sum_by-append f ns (n ∷ []) in let b = sum_by-cons f n [] in let c = t.sums k in
          let d = sum_next (task_times k) xs (place_of p q m) (place_of p q (m + 1)) (holds (outcome y)) (omega arith) e in omega arith;
      few = let a = t.few in let b = longer ns n in omega arith;
    }

    -- the search has no batch m
    pub taken_none : (x : Slot) → ltb (m * p.batch) (tasks_of p q) ≡ false → get_elem? xs (place_of p q m) ≡ some x → ((l : Label) → x ≡ holds l → ⊥) → AreTakenTo xs q (m + 1) ns
    taken_none x none e empty = record {
      batches = t.batches ∙ batches_same q m none;
      each = t.each;
      sums = λ k. let c = t.sums k in let d = sum_next (task_times k) xs (place_of p q m) (place_of p q (m + 1)) x (omega arith) e in let z = bare x empty (task_times k) in omega arith;
      few = let a = t.few in omega arith;
    }

  -- all of q were taken
  pub taken_search : (xs : List Slot) (q : ℕ) (ns : List (Merged R)) → AreTakenTo xs q (tasks_of p q) ns → AreTakenTo xs (q + 1) 0 ns
  taken_search xs q ns t = let a = next_start p q in let at : place_of p q (tasks_of p q) ≡ place_of p (q + 1) 0 = omega arith in record {
    batches = t.batches ∙ batches_search q;
    each = t.each;
    sums = λ k. t.sums k ∙ ap (λ j. in_slots (task_times k) (take j xs)) at;
    few = let b = t.few in omega arith;
  }

-- what a close finds in the slots: those of a state in which all is merged
pub record IsEnd {A R : Type 0} (outcome : R → Label) (p : Plan) (k : ArrivalState) (cells : List (Cell A R)) : Type 0 where
  pub kept : IsKept p k
  pub merged : IsAllMerged p k
  pub outcomes : (j : ℕ) (l : Label) → get_elem? k.batches j ≡ some (holds l) → (y : R) × (get_elem? cells (task_count p + task_count p + j) ≡ some (Outcome y)) × (outcome y ≡ l)

-- of a list whose pairs are known, the item of one of them
item_of : {X Y : Type 0} (f : X → Y) (xs : List X) (i : ℕ) (y : Y) → get_elem? (map f xs) i ≡ some y → (x : X) × (get_elem? xs i ≡ some x) × (f x ≡ y)
item_of f [] i y e = absurd (some-ne-none y (sym e))
item_of f (x ∷ xs) zero y e = (x, refl, some-injective (f x) y e)
item_of f (x ∷ xs) (suc i) y e = item_of f xs i y e

at_left : {X : Type 0} (xs ys : List X) (i : ℕ) (x : X) → get_elem? xs i ≡ some x → get_elem? (xs ++ ys) i ≡ some x
at_left [] ys i x e = absurd (some-ne-none x (sym e))
at_left (z ∷ zs) ys zero x e = e
at_left (z ∷ zs) ys (suc i) x e = at_left zs ys i x e

at_right : {X : Type 0} (xs ys : List X) (i : ℕ) (x : X) → get_elem? ys i ≡ some x → get_elem? (xs ++ ys) (length xs + i) ≡ some x
at_right [] ys i x e = ap (get_elem? ys) (let s : 0 + i ≡ i = omega arith in s) ∙ e
at_right (z ∷ zs) ys i x e = ap (get_elem? (z ∷ (zs ++ ys))) (let s : suc (length zs) + i ≡ suc (length zs + i) = omega arith in s) ∙ at_right zs ys i x e

at_mapped : {X Y : Type 0} (f : X → Y) (xs : List X) (i : ℕ) (x : X) → get_elem? xs i ≡ some x → get_elem? (map f xs) i ≡ some (f x)
at_mapped f [] i x e = absurd (some-ne-none x (sym e))
at_mapped f (z ∷ zs) zero x e = ap some (ap f (some-injective z x e))
at_mapped f (z ∷ zs) (suc i) x e = at_mapped f zs i x e

-- the place of a number of a range, of one that passes a test, and of an item of one of its lists
in_numbers : (t n k : ℕ) → t ≤ k → k < t + n → (i : ℕ) × (get_elem? (numbers_from t n) i ≡ some k)
in_numbers t zero k low high = absurd (omega arith)
in_numbers t (suc n) k low high = dite (ℕ_discrete t k) (λ e. (0, ap some e)) (λ e. let r = in_numbers (suc t) n k (omega arith) (omega arith) in (suc r.0, r.1))

in_filter : (test : ℕ → Bool) (xs : List ℕ) (i x : ℕ) → get_elem? xs i ≡ some x → test x ≡ true → (j : ℕ) × (get_elem? (filter test xs) j ≡ some x)
in_filter test [] i x e h = absurd (some-ne-none x (sym e))
in_filter test (z ∷ zs) zero x e h = let same : z ≡ x = some-injective z x e in (0, ap (λ c. get_elem? (cond c (z ∷ filter test zs) (filter test zs)) 0) (ap test same ∙ h) ∙ ap some same)
in_filter test (z ∷ zs) (suc i) x e h = let r = in_filter test zs i x e h in passed (test z) r.0 r.1
  where
    passed : (c : Bool) (j : ℕ) → get_elem? (filter test zs) j ≡ some x → (k : ℕ) × (get_elem? (cond c (z ∷ filter test zs) (filter test zs)) k ≡ some x)
    passed true j e = (suc j, e)
    passed false j e = (j, e)

in_flat : {X Y : Type 0} (f : X → List Y) (xs : List X) (i j : ℕ) (x : X) (y : Y) → get_elem? xs i ≡ some x → get_elem? (f x) j ≡ some y → (k : ℕ) × (get_elem? (flat_map f xs) k ≡ some y)
in_flat f [] i j x y e d = absurd (some-ne-none x (sym e))
in_flat f (z ∷ zs) zero j x y e d = (j, at_left (f z) (flat_map f zs) j y (ap (λ w. get_elem? (f w) j) (some-injective z x e) ∙ d))
in_flat f (z ∷ zs) (suc i) j x y e d = let r = in_flat f zs i j x y e d in (length (f z) + r.0, at_right (f z) (flat_map f zs) r.0 y r.1)

-- an item at a place is one of the items, and what holds of each at its place holds of all
pub is_there : {X : Type 0} (xs : List X) (i : ℕ) (x : X) → get_elem? xs i ≡ some x → Contains xs x
is_there xs i x e = (i, there_below xs i x e, at_or xs i x x e)

pub all_of : {X : Type 0} (F : X → Type 0) (xs : List X) → Each F xs → All F xs
all_of F xs h k d l = let x = something xs k l in subst F (sym (at_or xs k x.0 d x.1)) (h k x.0 x.1)

module _ {A R : Type 0} (outcome : R → Label) (p : Plan) (good : IsPlan p) (k : ArrivalState) (cells : List (Cell A R)) (f : IsEnd outcome p k cells) where
  -- every batch's merged result is in its slot
  pub end_there : (q b : ℕ) → IsBatch p q b → (y : R) × (get_elem? cells (task_count p + task_count p + place_of p q b) ≡ some (Outcome y)) × (get_elem? k.batches (place_of p q b) ≡ some (holds (outcome y)))
  end_there q b real = let m = f.merged.whole q b real in let o = f.outcomes (place_of p q b) m.0 m.1 in (o.0, o.1, m.1 ∙ ap (λ l. some (holds l)) (sym o.2))

  -- and in no other slot is any
  pub end_none : (q b : ℕ) → b < tasks_of p q → ltb (b * p.batch) (tasks_of p q) ≡ false → (x : Slot) × (get_elem? k.batches (place_of p q b) ≡ some x) × ((l : Label) → x ≡ holds l → ⊥)
  end_none q b low none = let x = has_slot k.batches (place_of p q b) (subst (λ n. place_of p q b < n) (sym f.kept.shape.batches) (place_within p q b low)) in
      (x.0, x.1, (λ l e. false≢true (sym none ∙ lt-ltb _ _ (f.kept.labels.real q b l low (x.1 ∙ ap some e)))))

  module _ (ns : List (Merged R)) (t : AreTakenTo outcome p k.batches p.searches 0 ns) where
    pub end_batches : map batch_of ns ≡ all_batches p
    end_batches = t.batches ∙ with_none _

    pub end_whole : All (IsWholeBatch outcome p) ns
    end_whole = all_of (IsWholeBatch outcome p) ns (λ i n e. let h = t.each i n e in f.kept.labels.batches n.search n.batch (outcome n.result) h.0 h.1)

    pub end_once : (j : ℕ) → j < task_count p → sum_by (λ (n : Merged R). task_times j (outcome n.result)) ns ≡ 1
    end_once j low = let a = all_below p.searches p.tasks good.tasks in let n = f.kept.shape.batches in let all : take (place_of p p.searches 0) k.batches ≡ k.batches = take_all (place_of p p.searches 0) k.batches (omega arith) in
        t.sums j ∙ (ap (in_slots (task_times j)) all ∙ f.merged.once j low)

    pub end_skipped : All (λ (n : Merged R). IsTrue (outcome n.result).skipped → IsBesideFailed outcome ns n) ns
    end_skipped = all_of (λ (n : Merged R). IsTrue (outcome n.result).skipped → IsBesideFailed outcome ns n) ns (λ i n e skipped. let h = t.each i n e in let r = f.merged.failed n.search n.batch (outcome n.result) h.0 h.1 skipped in beside n r.0 r.1 r.2 r.3 r.4)
      where
        beside : (n : Merged R) (c : ℕ) (m : Label) → IsBatch p n.search c → get_elem? k.batches (place_of p n.search c) ≡ some (holds m) → IsTrue m.failed → IsBesideFailed outcome ns n
        beside n c m real there failed = let q = n.search in let low = batch_first p good q c real in let valid = search_valid p good q c low in
            let i = in_numbers 0 (tasks_of p q) c (omega arith) (omega arith) in let j = in_filter (λ b. ltb (b * p.batch) (tasks_of p q)) (numbers_from 0 (tasks_of p q)) i.0 c i.1 (lt-ltb _ _ real) in
            let s = in_numbers 0 p.searches q (omega arith) (omega arith) in
            let at = in_flat (batches_of p) (numbers_from 0 p.searches) s.0 j.0 q (q, c) s.1 (at_mapped (λ b. (q, b)) (batch_numbers p q) j.0 c j.1) in
            let o = item_of batch_of ns at.0 (q, c) (ap (λ bs. get_elem? bs at.0) end_batches ∙ at.1) in let h = t.each at.0 o.0 o.1 in
            let same : holds (outcome o.0.result) ≡ holds m = some-injective _ _ (sym h.1 ∙ ((λ i. get_elem? k.batches (place_of p (o.2 i).0 (o.2 i).1)) ∙ there)) in
            (o.0, is_there ns at.0 o.0 o.1, ap (λ (z : ℕ × ℕ). z.0) o.2, subst (λ (l : Label). IsTrue l.failed) (sym (holds_same (outcome o.0.result) m same)) failed)

-- the slots at the end, under a desk that is whole and ended and has nothing in hand
module _ {A R : Type 0} (load : A → Label) (outcome : R → Label) (p : Plan) (good : IsPlan p) where
  closed_end : (s : State (Cell A R) Known) (id : ℕ) (d : Known) (cells : List (Cell A R)) → IsReached load outcome p s → get_elem? s.views id ≡ some d → IsAtEnd d.view
      → ((j : ℕ) (y : Cell A R) → get_elem? s.homes j ≡ some (some y) → get_elem? cells j ≡ some y) → (k : ArrivalState) × IsEnd outcome p k cells
  closed_end s id d cells r here at stay = let k : ArrivalState = run p r.0 in let f = kept_run p good r.0 in let there = desk_there load outcome p good s k id d r.1 here in (
    k,
    record {
      kept = f;
      merged = record { whole = merged_there p good k f id d.view there at; once = merged_once p good k f id d.view there at; failed = merged_failed p good k f id d.view there at };
      outcomes = λ j l e. let y = r.1.batches j (holds l) e in (y.0, stay (task_count p + task_count p + j) (Outcome y.0) y.1, y.2);
    },
  )

abbrev result_of : {A R : Type 0} → R → Cell A R → R
result_of d (Outcome y) = y
result_of d _ = d

same_outcome : {A R : Type 0} (x y : R) → let z : Cell A R = Outcome x in z ≡ Outcome y → x ≡ y
same_outcome x y e = ap (result_of x) e

-- how far a close has come: of the search q, the slots of the batches below m were taken, and so were all slots before
pub record IsClosing {A R : Type 0} (outcome : R → Label) (p : Plan) (q m : ℕ) (cells : List (Cell A R)) (flags : List Bool) (slots : ℕ) (ns : List (Merged R)) (room : ℕ) : Type 0 where
  pub state : ArrivalState
  pub end : IsEnd outcome p state cells
  pub taken : AreTakenTo outcome p state.batches q m ns
  pub gone : IsTakenBelow (task_count p + task_count p + place_of p q m) slots flags
  pub wide : slots ≡ task_count p + task_count p + task_count p
  pub fits : task_count p ≤ room

module _ {A R : Type 0} (load : A → Label) (outcome : R → Label) where
  -- the loads and results were dropped
  pub closing_first : (l p : Plan) (ws : List ℕ) (was cells : List (Cell A R)) (flags : List Bool) (id : ℕ) (d : Known) (v : View) (slots room n : ℕ) → l ≡ p → IsPlan p → d ≡ knows v → IsAtEnd v → Final (Seen (IsReached load outcome l) id d) ws was → cells ≡ was → n ≡ task_count p + task_count p
      → IsTakenBelow n slots flags → slots ≡ task_count p + task_count p + task_count p → task_count p ≤ room → IsClosing outcome p 0 0 cells flags slots [] room
  closing_first l p ws was cells flags id d v slots room n is good known at f same below t wide fits = let s = f.0 in
      let r : IsReached load outcome p s = subst (λ z. IsReached load outcome z s) is f.1.0 in let here : get_elem? s.views id ≡ some (knows v) = f.1.1 ∙ ap some known in
      let k = closed_end load outcome p good s id (knows v) cells r here at (λ j y h. ap (λ xs. get_elem? xs j) same ∙ f.4 j y h) in record {
        state = k.0;
        end = k.1;
        taken = none_taken outcome p k.0.batches;
        gone = subst (λ j. IsTakenBelow j slots flags) (let a = first_start p in omega arith) t;
        wide = wide;
        fits = fits;
      }

module _ {A R : Type 0} (outcome : R → Label) (p : Plan) (good : IsPlan p) (q m : ℕ) (cells : List (Cell A R)) (flags : List Bool) (slots : ℕ) (ns : List (Merged R)) (room : ℕ) (c : IsClosing outcome p q m cells flags slots ns room) where
  -- the next slot is there and was not taken
  pub closing_slot : (j : ℕ) → m < tasks_of p q → j ≡ task_count p + task_count p + place_of p q m → (j < slots) × IsTrue (get_or flags j false)
  closing_slot j low at = let a = place_within p q m low in let s = c.wide in let low_slot : j < slots = omega arith in (low_slot, c.gone.full j (omega arith) low_slot)

  -- what lies in the slot of a batch
  pub closing_outcome : (j : ℕ) (cell : Cell A R) → ltb (m * p.batch) (tasks_of p q) ≡ true → j ≡ task_count p + task_count p + place_of p q m → get_elem? cells j ≡ some cell → (y : R) × (cell ≡ Outcome y)
  closing_outcome j cell real at found = let y = end_there outcome p good c.state cells c.end q m (ltb-true _ _ real) in (y.0, some-injective cell (Outcome y.0) (sym found ∙ (ap (get_elem? cells) at ∙ y.1)))

  -- there is room for one more
  pub closing_room : m < tasks_of p q → length ns < room
  closing_room low = let a = place_within p q m low in let b = c.taken.few in let d = c.fits in omega arith

  pub closing_more : (j : ℕ) (y : R) → m < tasks_of p q → ltb (m * p.batch) (tasks_of p q) ≡ true → j ≡ task_count p + task_count p + place_of p q m → get_elem? cells j ≡ some (Outcome y)
      → IsClosing outcome p q (m + 1) cells (set flags j false) slots (ns ++ record { search = q; batch = m; result = y } ∷ []) room
  closing_more j y low real at found = let o = end_there outcome p good c.state cells c.end q m (ltb-true _ _ real) in let same : o.0 ≡ y = same_outcome o.0 y (some-injective _ _ (sym o.1 ∙ (ap (get_elem? cells) (sym at) ∙ found))) in record {
    state = c.state;
    end = c.end;
    taken = taken_more outcome p c.state.batches q m ns c.taken y real (o.2 ∙ ap (λ z. some (holds (outcome z))) same);
    gone = next_flags j at;
    wide = c.wide;
    fits = c.fits;
  }
    where
      next_flags : (j : ℕ) → j ≡ task_count p + task_count p + place_of p q m → IsTakenBelow (task_count p + task_count p + place_of p q (m + 1)) slots (set flags j false)
      next_flags j at = subst (λ i. IsTakenBelow i slots (set flags j false)) (omega arith) (taken_next j slots flags (subst (λ i. IsTakenBelow i slots flags) (sym at) c.gone))

  pub closing_none : (j : ℕ) → m < tasks_of p q → ltb (m * p.batch) (tasks_of p q) ≡ false → j ≡ task_count p + task_count p + place_of p q m → IsClosing outcome p q (m + 1) cells (set flags j false) slots ns room
  closing_none j low none at = let x = end_none outcome p good c.state cells c.end q m low none in record {
    state = c.state;
    end = c.end;
    taken = taken_none outcome p c.state.batches q m ns c.taken x.0 none x.1 x.2;
    gone = subst (λ i. IsTakenBelow i slots (set flags j false)) (omega arith) (taken_next j slots flags (subst (λ i. IsTakenBelow i slots flags) (sym at) c.gone));
    wide = c.wide;
    fits = c.fits;
  }

module _ {A R : Type 0} (outcome : R → Label) (p : Plan) (good : IsPlan p) (q m : ℕ) (cells : List (Cell A R)) (flags : List Bool) (slots : ℕ) (ns : List (Merged R)) (room : ℕ) (c : IsClosing outcome p q m cells flags slots ns room) where
  -- all of a search, and then all searches
  pub closing_search : m ≡ tasks_of p q → IsClosing outcome p (q + 1) 0 cells flags slots ns room
  closing_search all = let a = next_start p q in record {
    state = c.state;
    end = c.end;
    taken = taken_search outcome p c.state.batches q ns (subst (λ i. AreTakenTo outcome p c.state.batches q i ns) all c.taken);
    gone = subst (λ i. IsTakenBelow i slots flags) (omega arith) c.gone;
    wide = c.wide;
    fits = c.fits;
  }

  pub closing_empty : q ≡ p.searches → (j : ℕ) → j < slots → get_or flags j false ≡ false
  closing_empty all j low = let a = all_below p.searches p.tasks good.tasks in let s = c.wide in let b : first_of p q ≡ first_of p p.searches = ap (first_of p) all in c.gone.empty j (omega arith)

  pub closing_end : q ≡ p.searches → m ≡ 0 → AreTakenTo outcome p c.state.batches p.searches 0 ns
  closing_end all none = subst (λ (z : ℕ × ℕ). AreTakenTo outcome p c.state.batches z.0 z.1 ns) (λ i. (all i, none i)) c.taken

-- the same under other names
pub closing_at : {A R : Type 0} (outcome : R → Label) (p : Plan) (q m : ℕ) (cells ds : List (Cell A R)) (flags gs : List Bool) (slots more : ℕ) (ns os : List (Merged R)) (room space : ℕ) → ds ≡ cells → gs ≡ flags → more ≡ slots → os ≡ ns → space ≡ room
    → IsClosing outcome p q m cells flags slots ns room → IsClosing outcome p q m ds gs more os space
closing_at {A} {R} outcome p q m cells ds flags gs slots more ns os room space a b c d e h = let Q : List (Cell A R) × List Bool × ℕ × List (Merged R) × ℕ → Type 0 = λ z. IsClosing outcome p q m z.0 z.1 z.2 z.3 z.4 in
    subst Q (λ i. (sym a i, sym b i, sym c i, sym d i, sym e i)) h
