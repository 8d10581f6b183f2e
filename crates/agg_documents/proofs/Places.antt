-- Where ids stand in a store, and what a put does to an id with a place and to a new one.
use Rattle.std.proofs.Common.{◌≡◌, ◌≢◌, refl, zero, suc, get_or, set, ℕ, ◌||◌, ◌<◌, Bool, true, false, cond, if◌then◌else◌, length, List, [], ◌∷◌, ◌++◌, map, Option, None, Some, sym, ◌∙◌, ap, subst, arith}
use Rattle.std.specs.List.{list_any, IsDistinct}
use Rattle.std.specs.Option.{option_map}
use Rattle.std.specs.Str.{bytes_eq}
use Rattle.std.specs.Cmp.Lexicographic.{bytes_decides, nat_list_eq_equiv}
use Rattle.std.specs.Map.{update}
use Rattle.std.proofs.lemmas.Bool.{false≢true}
use Rattle.std.proofs.lemmas.List.{length-map, map-append, map-set}
use Rattle.std.proofs.lemmas.Map.Keys.{IsDistinct-push}
use Rattle.agg_model.specs.declared.row.Document.{Document}
use Rattle.agg_reading.specs.Store.{Store, live_at, with_document}
use Rattle.agg_documents.specs.declared.slot.Slot.{Slot}
use Rattle.agg_documents.specs.Slots.{id_of, document_in, entries_of, ids, place_of}

either_way : (a b : List ℕ) → bytes_eq a b ≡ bytes_eq b a
either_way = nat_list_eq_equiv.symm

-- ---- a new id

absent_step : (b : Bool) (rest : Option ℕ) → (if b then Some 0 else option_map suc rest) ≡ None → (b ≡ false) × (rest ≡ None)
absent_step true rest h = absurd (cc)
absent_step false None h = (refl, refl)
absent_step false (Some n) h = absurd (cc)

pub new-live : (id : List ℕ) (es : Store) → place_of id (ids es) ≡ None → live_at id es ≡ None
unfolding place_of live_at
new-live id [] h = refl
new-live id (e ∷ es) h =
    let apart = absent_step (bytes_eq e.0 id) (place_of id (ids es)) h in
    ap (λ (b : Bool). if b then e.1 else live_at id es) apart.0 ∙ new-live id es apart.1

pub new-put : (id : List ℕ) (o : Option Document) (es : Store) → place_of id (ids es) ≡ None → with_document id o es ≡ es ++ (id, o) ∷ []
unfolding place_of with_document
new-put id o [] h = refl
new-put id o (e ∷ es) h =
    let apart = absent_step (bytes_eq e.0 id) (place_of id (ids es)) h in
    ap (λ (b : Bool). if b then (id, o) ∷ es else e ∷ with_document id o es) apart.0 ∙ ap (λ (rest : Store). e ∷ rest) (new-put id o es apart.1)

new_any : (id : List ℕ) (others : List (List ℕ)) → place_of id others ≡ None → list_any (bytes_eq id) others ≡ false
unfolding place_of
new_any id [] h = refl
new_any id (other ∷ others) h =
    let apart = absent_step (bytes_eq other id) (place_of id others) h in
    ap (λ (b : Bool). b || list_any (bytes_eq id) others) (either_way id other ∙ apart.0) ∙ new_any id others apart.1

not_both : (a b c : List ℕ) → bytes_eq a b ≡ false → bytes_eq a c ≡ true → bytes_eq b c ≡ true → false ≡ true
not_both a b c apart one two =
    let same : a ≡ b = (bytes_decides a c).0 one ∙ sym ((bytes_decides b c).0 two) in
    sym apart ∙ (bytes_decides a b).1 same

push_step : (here there : Bool) (rest : Option ℕ) (n : ℕ) → (here ≡ true → there ≡ true → false ≡ true) →
    (if here then Some 0 else option_map suc (cond there (Some n) rest)) ≡ cond there (Some (suc n)) (if here then Some 0 else option_map suc rest)
push_step true true rest n apart = absurd (false≢true (apart refl refl))
push_step true false rest n apart = refl
push_step false true rest n apart = refl
push_step false false rest n apart = refl

-- the places after a new id at the end
pub place-push : (id j : List ℕ) (others : List (List ℕ)) → place_of id others ≡ None → place_of j (others ++ id ∷ []) ≡ cond (bytes_eq id j) (Some (length others)) (place_of j others)
unfolding place_of
place-push id j [] h = refl
place-push id j (other ∷ others) h =
    let apart = absent_step (bytes_eq other id) (place_of id others) h in
    ap (λ (rest : Option ℕ). if bytes_eq other j then Some 0 else option_map suc rest) (place-push id j others apart.1)
    ∙ push_step (bytes_eq other j) (bytes_eq id j) (place_of j others) (length others) (not_both other id j apart.0)

pub distinct-push : (id : List ℕ) (others : List (List ℕ)) → place_of id others ≡ None → IsDistinct bytes_eq others → IsDistinct bytes_eq (others ++ id ∷ [])
distinct-push id others h distinct = IsDistinct-push nat_list_eq_equiv others id distinct (new_any id others h)

-- ---- an id with a place

found_case : (b : Bool) (rest : Option ℕ) (p : ℕ) (P : Bool → ℕ → Type 0) → (if b then Some 0 else option_map suc rest) ≡ Some p →
    P true 0 → ((n : ℕ) → rest ≡ Some n → P false (suc n)) → P b p
found_case true rest p P h here later = subst (P true) (cc) here
found_case false None p P h here later = absurd (cc)
found_case false (Some n) p P h here later = subst (P false) (cc) (later n refl)

pub found-below : (id : List ℕ) (es : Store) (p : ℕ) → place_of id (ids es) ≡ Some p → p < length es
unfolding place_of
found-below id [] p h = absurd (cc)
found-below id (e ∷ es) p h =
    found_case (bytes_eq e.0 id) (place_of id (ids es)) p (λ b q. q < length (e ∷ es)) h (omega arith) (λ n is. omega (arith, found-below id es n is))

pub found-live : (id : List ℕ) (es : Store) (p : ℕ) (d : List ℕ × Option Document) → place_of id (ids es) ≡ Some p → live_at id es ≡ (get_or es p d).1
unfolding place_of live_at
found-live id [] p d h = absurd (cc)
found-live id (e ∷ es) p d h =
    found_case (bytes_eq e.0 id) (place_of id (ids es)) p (λ b q. (if b then e.1 else live_at id es) ≡ (get_or (e ∷ es) q d).1) h refl (λ n is. found-live id es n d is)

pub found-put : (id : List ℕ) (o : Option Document) (es : Store) (p : ℕ) → place_of id (ids es) ≡ Some p → with_document id o es ≡ set es p (id, o)
unfolding place_of with_document
found-put id o [] p h = absurd (cc)
found-put id o (e ∷ es) p h =
    found_case (bytes_eq e.0 id) (place_of id (ids es)) p (λ b q. (if b then (id, o) ∷ es else e ∷ with_document id o es) ≡ set (e ∷ es) q (id, o)) h
    refl (λ n is. ap (λ (rest : Store). e ∷ rest) (found-put id o es n is))

-- the ids stay
pub found-ids : (id : List ℕ) (o : Option Document) (es : Store) (p : ℕ) → place_of id (ids es) ≡ Some p → ids (with_document id o es) ≡ ids es
unfolding place_of with_document
found-ids id o [] p h = absurd (cc)
found-ids id o (e ∷ es) p h =
    found_case (bytes_eq e.0 id) (place_of id (ids es)) p (λ b q. (b ≡ true → id ≡ e.0) → ids (if b then (id, o) ∷ es else e ∷ with_document id o es) ≡ ids (e ∷ es)) h
    (λ here. ap (λ (i : List ℕ). i ∷ ids es) (here refl))
    (λ n is here. ap (λ (rest : List (List ℕ)). e.0 ∷ rest) (found-ids id o es n is))
    (λ same. sym ((bytes_decides e.0 id).0 same))

-- ---- a slot at the end, beside the map of places

ids-push : (slots : List Slot) (s : Slot) → ids (entries_of (slots ++ s ∷ [])) ≡ ids (entries_of slots) ++ id_of s ∷ []
ids-push [] s = refl
ids-push (t ∷ ts) s = ap (λ (rest : List (List ℕ)). id_of t ∷ rest) (ids-push ts s)

pub length-ids : (slots : List Slot) → length (ids (entries_of slots)) ≡ length slots
length-ids [] = refl
length-ids (t ∷ ts) = ap suc (length-ids ts)

module _ (slots : List Slot) (s : Slot) (new : place_of (id_of s) (ids (entries_of slots)) ≡ None) where
  pub places-push : (old next : List ℕ → Option ℕ) → ((j : List ℕ) → old j ≡ place_of j (ids (entries_of slots))) →
      ((j : List ℕ) → next j ≡ update bytes_eq old (id_of s) (Some (length slots)) j) → (j : List ℕ) → next j ≡ place_of j (ids (entries_of (slots ++ s ∷ [])))
  places-push old next was is j =
      is j
      ∙ (ap (λ (o : Option ℕ). cond (bytes_eq (id_of s) j) (Some (length slots)) o) (was j)
      ∙ (ap (λ (n : ℕ). cond (bytes_eq (id_of s) j) (Some n) (place_of j (ids (entries_of slots)))) (sym (length-ids slots))
      ∙ (sym (place-push (id_of s) j (ids (entries_of slots)) new)
      ∙ ap (place_of j) (sym (ids-push slots s)))))

  pub apart-push : IsDistinct bytes_eq (ids (entries_of slots)) → IsDistinct bytes_eq (ids (entries_of (slots ++ s ∷ [])))
  apart-push distinct = subst (IsDistinct bytes_eq) (sym (ids-push slots s)) (distinct-push (id_of s) (ids (entries_of slots)) new distinct)

  pub entries-push : entries_of (slots ++ s ∷ []) ≡ with_document (id_of s) (document_in s) (entries_of slots)
  entries-push = map-append (λ (t : Slot). (id_of t, document_in t)) slots (s ∷ []) ∙ sym (new-put (id_of s) (document_in s) (entries_of slots) new)

-- ---- a slot in the place of its id

module _ (slots : List Slot) (s : Slot) (p : ℕ) (found : place_of (id_of s) (ids (entries_of slots)) ≡ Some p) where
  pub below : p < length slots
  below = subst (λ (n : ℕ). p < n) (length-map slots (λ (t : Slot). (id_of t, document_in t))) (found-below (id_of s) (entries_of slots) p found)

  pub entries-set : entries_of (set slots p s) ≡ with_document (id_of s) (document_in s) (entries_of slots)
  entries-set = map-set (λ (t : Slot). (id_of t, document_in t)) slots p s ∙ sym (found-put (id_of s) (document_in s) (entries_of slots) p found)

  pub ids-set : ids (entries_of (set slots p s)) ≡ ids (entries_of slots)
  ids-set = ap ids entries-set ∙ found-ids (id_of s) (document_in s) (entries_of slots) p found
