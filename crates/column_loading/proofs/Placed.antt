-- Slots with the sources of documents: one more at the end, and one in the place of its id.
use Rattle.std.proofs.Common.{◌≡◌, refl, zero, suc, ℕ, ◌<◌, List, [], ◌∷◌, ◌++◌, length, get_or, set, Option, None, Some, Ok, sym, ◌∙◌, ap, subst, arith}
use Rattle.std.specs.Prelude.{IfSome}
use Rattle.std.specs.List.{IsDistinct}
use Rattle.std.specs.Option.{option_map, unwrap_or}
use Rattle.std.specs.Str.{bytes_eq}
use Rattle.std.proofs.lemmas.List.{map-append, map-set, get_or-map}
use Rattle.agg_model.specs.declared.mapping.Mapping.{Mapping}
use Rattle.agg_model.specs.declared.row.Document.{Document}
use Rattle.agg_reading.specs.Document.{document_at}
use Rattle.agg_reading.specs.Store.{weight, with_document}
use Rattle.agg_documents.specs.Slots.{ids, place_of}
use Rattle.agg_documents.proofs.Places.{new-put, distinct-push, found-put, found-ids}
use Rattle.column_loading.specs.Loadings.{row_in, document_of, entry_of, entries_of, IsRead, AreRead}
use Rattle.column_loading.specs.declared.slot.Kept.{Kept}
use Rattle.column_loading.specs.declared.slot.Slot.{Slot}

-- ---- what was read

module _ (m : Mapping) where
  pub read-at : (slots : List Slot) (p : ℕ) (s : Slot) → p < length slots → s ≡ get_or slots p s → AreRead m slots → IfSome s.live (IsRead m)
  unfolding AreRead
  read-at [] p s below is read = absurd (omega (arith, below))
  read-at (t ∷ ts) zero s below is read = subst (λ (x : Slot). IfSome x.live (IsRead m)) (sym is) read.0
  read-at (t ∷ ts) (suc p) s below is read = read-at ts p s (omega (arith, below)) is read.1

  pub read-push : (slots : List Slot) (s : Slot) → AreRead m slots → IfSome s.live (IsRead m) → AreRead m (slots ++ s ∷ [])
  unfolding AreRead
  read-push [] s read one = (one, tt)
  read-push (t ∷ ts) s read one = (read.0, read-push ts s read.1 one)

  pub read-set : (slots : List Slot) (p : ℕ) (s : Slot) → AreRead m slots → IfSome s.live (IsRead m) → AreRead m (set slots p s)
  unfolding AreRead
  read-set [] p s read one = tt
  read-set (t ∷ ts) zero s read one = (one, read.1)
  read-set (t ∷ ts) (suc p) s read one = (read.0, read-set ts p s read.1 one)

  entry-at : (slots : List Slot) (p : ℕ) (s : Slot) → p < length slots → s ≡ get_or slots p s → get_or (entries_of m slots) p ([], None) ≡ entry_of m s
  entry-at slots p s below is = get_or-map (entry_of m) slots p s ([], None) below ∙ ap (entry_of m) (sym is)

  weighed : (id : List ℕ) (live : Option Kept) → IfSome live (IsRead m) → option_map (λ k. k.weight) live ≡ option_map weight (option_map (document_of m id) live)
  weighed id None read = refl
  weighed id (Some k) read = ap Some read.weighs

  -- the weight of the document of a place, as it is kept there
  pub weight-at : (slots : List Slot) (p : ℕ) (s : Slot) → p < length slots → s ≡ get_or slots p s → AreRead m slots → option_map (λ k. k.weight) s.live ≡ option_map weight (get_or (entries_of m slots) p ([], None)).1
  weight-at slots p s below is read =
      weighed s.id s.live (read-at slots p s below is read) ∙ sym (ap (λ (e : List ℕ × Option Document). option_map weight e.1) (entry-at slots p s below is))

  -- a document by its source
  pub document-is : (d : Document) (k : Kept) → unwrap_or k.routing d.id ≡ d.routing → document_at m k.source ≡ Ok d.root → document_of m d.id k ≡ d
  document-is d k routing read = λ i. record { id = d.id; routing = routing i; root = row_in (read i) }

  -- ---- a slot at the end

  ids-push : (slots : List Slot) (s : Slot) → ids (entries_of m (slots ++ s ∷ [])) ≡ ids (entries_of m slots) ++ s.id ∷ []
  ids-push [] s = refl
  ids-push (t ∷ ts) s = ap (λ (rest : List (List ℕ)). t.id ∷ rest) (ids-push ts s)

  module _ (slots : List Slot) (s : Slot) (new : place_of s.id (ids (entries_of m slots)) ≡ None) where
    pub apart-push : IsDistinct bytes_eq (ids (entries_of m slots)) → IsDistinct bytes_eq (ids (entries_of m (slots ++ s ∷ [])))
    apart-push distinct = subst (IsDistinct bytes_eq) (sym (ids-push slots s)) (distinct-push s.id (ids (entries_of m slots)) new distinct)

    pub entries-push : entries_of m (slots ++ s ∷ []) ≡ with_document s.id (option_map (document_of m s.id) s.live) (entries_of m slots)
    entries-push = map-append (entry_of m) slots (s ∷ []) ∙ sym (new-put s.id (option_map (document_of m s.id) s.live) (entries_of m slots) new)

  -- ---- a slot in the place of its id

  module _ (slots : List Slot) (s : Slot) (p : ℕ) (found : place_of s.id (ids (entries_of m slots)) ≡ Some p) where
    pub entries-set : entries_of m (set slots p s) ≡ with_document s.id (option_map (document_of m s.id) s.live) (entries_of m slots)
    entries-set = map-set (entry_of m) slots p s ∙ sym (found-put s.id (option_map (document_of m s.id) s.live) (entries_of m slots) p found)

    pub ids-set : ids (entries_of m (set slots p s)) ≡ ids (entries_of m slots)
    ids-set = ap ids entries-set ∙ found-ids s.id (option_map (document_of m s.id) s.live) (entries_of m slots) p found
