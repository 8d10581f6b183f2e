-- Rooms for tasks, and what they say of the tasks' ceilings.
use Rattle.std.specs.Prelude.{◌≡◌, refl, ℕ, zero, suc, ◌+◌, ◌^◌, ◌≤◌, nat_lt, if◌then◌else◌, Bool, true, false, List, [], ◌∷◌, ◌++◌, take, length, map, sum, Option, Some, None, IfSome, is_none, option_and_then, option_map, slice_get, slice_index}
use Rattle.std.proofs.Common.{◌∙◌, sym, ap, subst, arith}
use Rattle.std.proofs.lemmas.Bool.{ltb-false}
use Rattle.std.proofs.lemmas.Bool.Decides.{nat_tests}
use Rattle.std.proofs.lemmas.List.{map-append}
use Rattle.std.proofs.lemmas.List.Sums.{sum_by-append, sum_by-cons}
use Rattle.agg_cost.specs.Searches.{AreRoomsFor}
use Rattle.agg_cost.specs.Widths.{HasCeilingAtMost}
use Rattle.agg_cost.proofs.Summing.{take-next}
use Rattle.agg_evaluation.specs.Ceiling.{ceiling, greatest_ceiling, search_ceiling, sum_of_all, within_greatest}
use Rattle.agg_evaluation.specs.Rows.{PlacedRow}
use Rattle.agg_model.specs.declared.aggregation.Search.{Search}
use Rattle.agg_model.specs.declared.mapping.FieldKind.{FieldKind}
use Rattle.shard_columns.specs.Columns.{Columns}
use Rattle.shard_columns.specs.Index.{rows_by_shard}

-- ceilings are rooms for their tasks
pub ceilings-are-rooms : (cs : List ℕ) (os : List (Option ℕ)) → map (λ (c : ℕ). Some c) cs ≡ os → AreRoomsFor cs os
ceilings-are-rooms cs os same = subst (AreRoomsFor cs) same (each cs)
  where
    each : (cs : List ℕ) → AreRoomsFor cs (map (λ (c : ℕ). Some c) cs)
    each [] = tt
    each (c ∷ cs) = (omega arith, each cs)

-- the rooms of some tasks, and those of the tasks behind them
pub rooms-append : (rooms more : List ℕ) (os later : List (Option ℕ)) → AreRoomsFor rooms os → AreRoomsFor more later → AreRoomsFor (rooms ++ more) (os ++ later)
rooms-append [] more [] later are behind = behind
rooms-append (r ∷ rooms) more (Some c ∷ os) later are behind = (are.0, rooms-append rooms more os later are.1 behind)
rooms-append [] more (o ∷ os) later are behind = absurd are
rooms-append (r ∷ rooms) more [] later are behind = absurd are
rooms-append (r ∷ rooms) more (None ∷ os) later are behind = absurd are

-- as many rooms as tasks
pub rooms-number : (rooms : List ℕ) (os : List (Option ℕ)) → AreRoomsFor rooms os → length rooms ≡ length os
rooms-number [] [] are = refl
rooms-number (r ∷ rooms) (Some c ∷ os) are = (λ i. suc (rooms-number rooms os are.1 i))
rooms-number [] (o ∷ os) are = absurd are
rooms-number (r ∷ rooms) [] are = absurd are
rooms-number (r ∷ rooms) (None ∷ os) are = absurd are

-- the task at a place has a ceiling, and its room has place for that
pub record HasRoomAt (rooms : List ℕ) (place : ℕ) (task : Option ℕ) : Type 0 where
  pub bytes : ℕ
  pub is : task ≡ Some bytes
  pub low : bytes ≤ slice_index rooms place

pub room-at : (rooms : List ℕ) (os : List (Option ℕ)) (place : ℕ) (o : Option ℕ) → AreRoomsFor rooms os → slice_get os place ≡ Some o → HasRoomAt rooms place o
room-at [] [] place o are at = absurd (nothing place at)
  where
    nothing : (k : ℕ) → slice_get [] k ≡ Some o → ⊥
    nothing zero e = let no : ⊥ = cc in no
    nothing (suc k) e = let no : ⊥ = cc in no
room-at (r ∷ rooms) (Some c ∷ os) zero o are at = record { bytes = c; is = (let same : Some c ≡ o = cc in sym same); low = are.0 }
room-at (r ∷ rooms) (Some c ∷ os) (suc place) o are at =
    let later = room-at rooms os place o are.1 at in
    record { bytes = later.bytes; is = later.is; low = later.low }
room-at [] (p ∷ os) place o are at = absurd are
room-at (r ∷ rooms) [] place o are at = absurd are
room-at (r ∷ rooms) (None ∷ os) place o are at = absurd are

-- all tasks that have rooms have ceilings, which come to no more
record SumsTo (rooms : List ℕ) (os : List (Option ℕ)) : Type 0 where
  bytes : ℕ
  is : sum_of_all os ≡ Some bytes
  low : bytes ≤ sum rooms

sums-to : (rooms : List ℕ) (os : List (Option ℕ)) → AreRoomsFor rooms os → SumsTo rooms os
sums-to [] [] are = record { bytes = 0; is = refl; low = omega arith }
sums-to (r ∷ rooms) (Some c ∷ os) are =
    let rest = sums-to rooms os are.1 in
    let all = sum_by-cons (λ (n : ℕ). n) r rooms in
    let here = are.0 in
    let later = rest.low in
    record { bytes = c + rest.bytes; is = ap (option_map (λ n. c + n)) rest.is; low = omega (arith, all, here, later) }
sums-to [] (o ∷ os) are = absurd are
sums-to (r ∷ rooms) [] are = absurd are
sums-to (r ∷ rooms) (None ∷ os) are = absurd are

-- a search whose tasks have rooms of at most 2 ^ 50 together has a ceiling
pub rooms-settle : (kinds : List FieldKind) (search : Search) (shards : List (List PlacedRow)) (rooms : List ℕ) → AreRoomsFor rooms (map (ceiling kinds search) shards) → sum rooms ≤ 2 ^ 50
    → false ≡ is_none (search_ceiling kinds search shards)
rooms-settle kinds search shards rooms are low =
    let sums = sums-to rooms (map (ceiling kinds search) shards) are in
    let fewer = sums.low in
    let under : nat_lt greatest_ceiling sums.bytes ≡ false = grind (arith, nat_tests, low, fewer) in
    sym (ap (λ o. is_none (option_and_then within_greatest o)) sums.is ∙ ap (λ (b : Bool). is_none (if b then None else Some sums.bytes)) under)

-- a sum that a search may have
pub within-low : (o : Option ℕ) (n : ℕ) → Some n ≡ option_and_then within_greatest o → n ≤ 2 ^ 50
within-low None n e = absurd (let no : ⊥ = cc in no)
within-low (Some m) n e = by_test (nat_lt greatest_ceiling m) refl
  where
    by_test : (b : Bool) → nat_lt greatest_ceiling m ≡ b → n ≤ 2 ^ 50
    by_test true same = absurd (let no : Some n ≡ None = e ∙ ap (λ b. if b then None else Some m) same in (let none : ⊥ = cc in none))
    by_test false same =
        let is : Some n ≡ Some m = e ∙ ap (λ b. if b then None else Some m) same in
        let number : n ≡ m = cc in
        let low = ltb-false greatest_ceiling m same in
        omega (arith, low, number)

-- one shard more
pub room-more : (kinds : List FieldKind) (search : Search) (shards : List Columns) (i : ℕ) (s : Columns) (rooms : List ℕ) (room : ℕ) → slice_get shards i ≡ Some s
    → HasCeilingAtMost room kinds search s.rows → AreRoomsFor rooms (map (ceiling kinds search) (rows_by_shard (take i shards)))
    → AreRoomsFor (rooms ++ room ∷ []) (map (ceiling kinds search) (rows_by_shard (take (i + 1) shards)))
room-more kinds search shards i s rooms room at here before =
    let one : AreRoomsFor (room ∷ []) (ceiling kinds search s.rows ∷ []) = subst (λ (o : Option ℕ). AreRoomsFor (room ∷ []) (o ∷ [])) (sym here.is) (here.low, tt) in
    let rows : rows_by_shard (take (i + 1) shards) ≡ rows_by_shard (take i shards) ++ s.rows ∷ [] =
    ap rows_by_shard (take-next shards i s at) ∙ map-append (λ (c : Columns). c.rows) (take i shards) (s ∷ []) in
    subst (AreRoomsFor (rooms ++ room ∷ [])) (sym (ap (map (ceiling kinds search)) rows ∙ map-append (ceiling kinds search) (rows_by_shard (take i shards)) (s.rows ∷ [])))
    (rooms-append rooms (room ∷ []) (map (ceiling kinds search) (rows_by_shard (take i shards))) (ceiling kinds search s.rows ∷ []) before one)

-- what those rooms come to
pub sum-room : (rooms : List ℕ) (room : ℕ) → sum (rooms ++ room ∷ []) ≡ sum rooms + room
sum-room rooms room = sum_by-append (λ (n : ℕ). n) rooms (room ∷ []) ∙ omega arith

pub if-some-weaker : {A : Type 0} (o : Option A) (P Q : A → Type 0) → ((a : A) → P a → Q a) → IfSome o P → IfSome o Q
if-some-weaker None P Q f p = tt
if-some-weaker (Some a) P Q f p = f a p
