-- Ids that ascend, and the places of ids.
use Rattle.std.proofs.Common.{◌≡◌, refl, zero, suc, ℕ, ◌<◌, ◌-◌, Bool, true, false, List, [], ◌∷◌, ◌++◌, length, take, get_or, set, Option, None, Some, Ok, Err, if◌then◌else◌, sym, ◌∙◌, ap, subst, arith}
use Rattle.std.specs.Prelude.{Result, OnErr, OnOk, slice_get, cond, string_bytes}
use Rattle.std.specs.BTreeMap.{BTreeMap, is_at}
use Rattle.std.specs.Cmp.{IsTotalOrder}
use Rattle.std.specs.Map.{lookup, update}
use Rattle.std.specs.declared.alloc.Global.{Global}
use Rattle.std.specs.declared.string.String.{String}
use Rattle.std.specs.Cmp.Lexicographic.{bytes_decides, nat_list_cmp_total, slice_cmp}
use Rattle.std.specs.List.{list_all}
use Rattle.std.specs.Option.{option_map, option_map_or}
use Rattle.std.specs.Ordering.{is_lt, nat_cmp}
use Rattle.std.specs.Str.{bytes_eq}
use Rattle.std.specs.declared.cmp.Ordering.{Ordering}
use Rattle.std.specs.declared.cmp.Ordering.TheVariants.{Less, Equal, Greater}
use Rattle.std.proofs.lemmas.Bool.{and_parts, and_from, false≢true}
use Rattle.std.proofs.lemmas.Cmp.{nat_cmp_total, on_total, then_total, tied_itself}
use Rattle.std.proofs.lemmas.List.{map-append, map-set}
use Rattle.agg_model.specs.declared.mapping.Mapping.{Mapping}
use Rattle.agg_documents.specs.Slots.{ids, place_of}
use Rattle.agg_documents.proofs.Places.{place-push}
use Rattle.column_loading.specs.Loadings.{entries_of}
use Rattle.column_loading.specs.Slots.{IsAscending, IsIndexed, id_cmp, is_behind, slot_ids}
use Rattle.column_loading.specs.declared.slot.Slot.{Slot}

-- what follows from either outcome
pub either-way : {T E P Q R : Type 0} (result : Result T E) → OnOk result P → OnErr result Q → (P → R) → (Q → R) → R
either-way (Ok x) p q one two = one p
either-way (Err e) p q one two = two q

-- the place of an id among the entries of a map
abbrev pub place_among : List (String Global × ℕ) → List ℕ → Option ℕ
place_among entries id = lookup (is_at (λ k. slice_cmp nat_cmp id (string_bytes k))) entries

-- the ids of slots are those of what they stand for
pub ids-are : (m : Mapping) (slots : List Slot) → ids (entries_of m slots) ≡ slot_ids slots
ids-are m [] = refl
ids-are m (s ∷ ss) = ap (λ (rest : List (List ℕ)). s.id ∷ rest) (ids-are m ss)

id_total : IsTotalOrder id_cmp
id_total = then_total (on_total (λ (id : List ℕ). length id) nat_cmp_total) nat_list_cmp_total

less : (o : Ordering) → is_lt o ≡ true → o ≡ Less
less Less e = refl
less Equal e = absurd (cc e)
less Greater e = absurd (cc e)

before-all : (x y id : List ℕ) → is_lt (id_cmp x y) ≡ true → is_lt (id_cmp y id) ≡ true → is_lt (id_cmp x id) ≡ true
before-all x y id one two = ap is_lt (id_total.trans x y id (less (id_cmp x y) one) (less (id_cmp y id) two))

behind-rest : (id x y : List ℕ) (others : List (List ℕ)) → is_behind id (x ∷ y ∷ others) ≡ is_behind id (y ∷ others)
behind-rest id x y others =
    let one : length (x ∷ y ∷ others) - 1 ≡ suc (length others) = omega arith in
    let two : length (y ∷ others) - 1 ≡ length others = omega arith in
    ap (λ (k : ℕ). option_map_or (λ last. is_lt (id_cmp last id)) (slice_get (x ∷ y ∷ others) k) true) one
    ∙ sym (ap (λ (k : ℕ). option_map_or (λ last. is_lt (id_cmp last id)) (slice_get (y ∷ others) k) true) two)

-- an id behind the last of ids that ascend is behind each of them
pub behind-all : (id : List ℕ) (others : List (List ℕ)) → IsAscending others → is_behind id others ≡ true → list_all (λ other. is_lt (id_cmp other id)) others ≡ true
unfolding IsAscending
behind-all id [] ascending last = refl
behind-all id (x ∷ []) ascending last = and_from _ _ last refl
behind-all id (x ∷ y ∷ others) ascending last =
    let rest = behind-all id (y ∷ others) ascending.1 (sym (behind-rest id x y others) ∙ last) in
    let first = and_parts (is_lt (id_cmp x y)) (list_all (λ later. is_lt (id_cmp x later)) others) ascending.0 in
    let second = and_parts (is_lt (id_cmp y id)) (list_all (λ other. is_lt (id_cmp other id)) others) rest in
    and_from _ _ (before-all x y id first.0 second.0) rest

itself : (id : List ℕ) → is_lt (id_cmp id id) ≡ false
itself id = ap is_lt (tied_itself id_total id)

apart : (b : Bool) (other id : List ℕ) → bytes_eq other id ≡ b → is_lt (id_cmp other id) ≡ true → b ≡ false
apart true other id same less = absurd (false≢true (sym (itself id) ∙ (ap (λ (x : List ℕ). is_lt (id_cmp x id)) (sym ((bytes_decides other id).0 same)) ∙ less)))
apart false other id same less = refl

-- and stands nowhere among them
pub behind-absent : (id : List ℕ) (others : List (List ℕ)) → list_all (λ other. is_lt (id_cmp other id)) others ≡ true → place_of id others ≡ None
unfolding place_of
behind-absent id [] all = refl
behind-absent id (x ∷ others) all =
    let parts = and_parts (is_lt (id_cmp x id)) (list_all (λ other. is_lt (id_cmp other id)) others) all in
    ap (λ (b : Bool). if b then Some 0 else option_map suc (place_of id others)) (apart (bytes_eq x id) x id refl parts.0)
    ∙ ap (option_map suc) (behind-absent id others parts.1)

all-push : (p : List ℕ → Bool) (xs : List (List ℕ)) (id : List ℕ) → list_all p xs ≡ true → p id ≡ true → list_all p (xs ++ id ∷ []) ≡ true
all-push p [] id all one = and_from _ _ one refl
all-push p (x ∷ xs) id all one = let parts = and_parts (p x) (list_all p xs) all in and_from _ _ parts.0 (all-push p xs id parts.1 one)

-- such an id goes to the end
pub ascending-push : (id : List ℕ) (others : List (List ℕ)) → IsAscending others → list_all (λ other. is_lt (id_cmp other id)) others ≡ true → IsAscending (others ++ id ∷ [])
unfolding IsAscending
ascending-push id [] ascending all = (refl, tt)
ascending-push id (x ∷ others) ascending all =
    let parts = and_parts (is_lt (id_cmp x id)) (list_all (λ other. is_lt (id_cmp other id)) others) all in
    (all-push (λ later. is_lt (id_cmp x later)) others id ascending.0 parts.0, ascending-push id others ascending.1 parts.1)

all-at : (p : List ℕ → Bool) (xs : List (List ℕ)) (k : ℕ) (id : List ℕ) → list_all p xs ≡ true → k < length xs → id ≡ get_or xs k id → p id ≡ true
all-at p [] k id all below at = absurd (omega (arith, below))
all-at p (x ∷ xs) zero id all below at = ap p at ∙ (and_parts (p x) (list_all p xs) all).0
all-at p (x ∷ xs) (suc k) id all below at = all-at p xs k id (and_parts (p x) (list_all p xs) all).1 (omega (arith, below)) at

-- each id that ascends is behind those before it
pub front-all : (others : List (List ℕ)) (k : ℕ) (id : List ℕ) → IsAscending others → k < length others → id ≡ get_or others k id → list_all (λ other. is_lt (id_cmp other id)) (take k others) ≡ true
unfolding IsAscending
front-all [] k id ascending below at = absurd (omega (arith, below))
front-all (x ∷ others) zero id ascending below at = refl
front-all (x ∷ others) (suc k) id ascending below at =
    and_from _ _ (all-at (λ later. is_lt (id_cmp x later)) others k id ascending.0 (omega (arith, below)) at) (front-all others k id ascending.1 (omega (arith, below)) at)

set-case : (b : Bool) (rest : Option ℕ) (p : ℕ) (P : Bool → ℕ → Type 0) → (if b then Some 0 else option_map suc rest) ≡ Some p → P true 0 → ((n : ℕ) → rest ≡ Some n → P false (suc n)) → P b p
set-case true rest p P h here later = subst (P true) (cc) here
set-case false None p P h here later = absurd (cc)
set-case false (Some n) p P h here later = subst (P false) (cc) (later n refl)

found-set : (id : List ℕ) (others : List (List ℕ)) (p : ℕ) → place_of id others ≡ Some p → set others p id ≡ others
unfolding place_of
found-set id [] p h = absurd (cc)
found-set id (x ∷ others) p h =
    set-case (bytes_eq x id) (place_of id others) p (λ b q. (b ≡ true → id ≡ x) → set (x ∷ others) q id ≡ x ∷ others) h
    (λ here. ap (λ (y : List ℕ). y ∷ others) (here refl))
    (λ n is here. ap (λ (rest : List (List ℕ)). x ∷ rest) (found-set id others n is))
    (λ same. sym ((bytes_decides x id).0 same))

-- a slot in the place of its id leaves the ids as they are
pub set-ids : (slots : List Slot) (s : Slot) (p : ℕ) → place_of s.id (slot_ids slots) ≡ Some p → slot_ids (set slots p s) ≡ slot_ids slots
set-ids slots s p found = map-set (λ (t : Slot). t.id) slots p s ∙ found-set s.id (slot_ids slots) p found

pub place-within : (id : List ℕ) (others : List (List ℕ)) (p : ℕ) → place_of id others ≡ Some p → p < length others
unfolding place_of
place-within id [] p h = absurd (cc)
place-within id (x ∷ others) p h =
    set-case (bytes_eq x id) (place_of id others) p (λ b q. q < length (x ∷ others)) h (omega arith) (λ n is. omega (arith, place-within id others n is))

pub ascending-none : IsAscending []
unfolding IsAscending
ascending-none = tt

-- slots with the same ids have the same places
pub indexed-same : (old new : List Slot) (places : Option (BTreeMap (String Global) ℕ)) → slot_ids new ≡ slot_ids old → IsIndexed old places → IsIndexed new places
indexed-same old new None same held = subst IsAscending (sym same) held
indexed-same old new (Some places) same held = λ id. held id ∙ ap (place_of id) (sym same)

-- the places after a new id at the end
pub places-more : (id : List ℕ) (others : List (List ℕ)) (old next : List ℕ → Option ℕ) (n : ℕ) → place_of id others ≡ None → n ≡ length others → ((j : List ℕ) → old j ≡ place_of j others) →
    ((j : List ℕ) → next j ≡ update bytes_eq old id (Some n) j) → (j : List ℕ) → next j ≡ place_of j (others ++ id ∷ [])
places-more id others old next n new last was is j =
    is j
    ∙ (ap (λ (o : Option ℕ). cond (bytes_eq id j) (Some n) o) (was j)
    ∙ (ap (λ (k : ℕ). cond (bytes_eq id j) (Some k) (place_of j others)) last
    ∙ sym (place-push id j others new)))

pub none-placed : (id : List ℕ) → place_of id [] ≡ None
unfolding place_of
none-placed id = refl

module _ (slots : List Slot) (places : Option (BTreeMap (String Global) ℕ)) (none : (p : BTreeMap (String Global) ℕ) → places ≡ Some p → ⊥) (held : IsIndexed slots places) where
  -- without a map of their places, ids ascend
  pub ascending : IsAscending (slot_ids slots)
  ascending = elim places as (λ o. ((p : BTreeMap (String Global) ℕ) → o ≡ Some p → ⊥) → IsIndexed slots o → IsAscending (slot_ids slots)) [ Some p ↦ λ n h. absurd (n p refl) | None ↦ λ n h. h ] none held

  -- an id behind the last is new
  pub behind-new : (id : List ℕ) → is_behind id (slot_ids slots) ≡ true → place_of id (slot_ids slots) ≡ None
  behind-new id last = behind-absent id (slot_ids slots) (behind-all id (slot_ids slots) ascending last)

  -- and its slot goes to the end
  pub indexed-push : (s : Slot) (new : List Slot) → is_behind s.id (slot_ids slots) ≡ true → new ≡ slots ++ s ∷ [] → IsIndexed new places
  indexed-push s new last is =
      elim places as (λ o. ((p : BTreeMap (String Global) ℕ) → o ≡ Some p → ⊥) → IsIndexed new o) [
        | Some p ↦ λ n. absurd (n p refl)
        | None ↦ λ n.
            subst (λ (ss : List Slot). IsAscending (slot_ids ss)) (sym is)
            (subst IsAscending (sym (map-append (λ (t : Slot). t.id) slots (s ∷ []))) (ascending-push s.id (slot_ids slots) ascending (behind-all s.id (slot_ids slots) ascending last)))
      ] none
