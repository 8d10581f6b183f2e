-- The live documents of slots, one after another.
use Rattle.std.proofs.Common.{◌≡◌, refl, ℕ, ◌+◌, List, [], ◌∷◌, ◌++◌, take, drop, Option, None, Some, sym, ◌∙◌, ap, subst, arith}
use Rattle.std.specs.Prelude.{flat_map}
use Rattle.std.specs.Option.{option_map, option_to_list}
use Rattle.std.proofs.lemmas.Bool.{and_parts}
use Rattle.std.proofs.lemmas.Grind.{flat_map-append}
use Rattle.std.proofs.lemmas.List.{append-nil, map-append, take-append-drop}
use Rattle.std.proofs.lemmas.List.Folds.{list_all-append}
use Rattle.std.proofs.lemmas.List.Sums.{sum_by-append}
use Rattle.agg_model.specs.declared.mapping.Mapping.{Mapping}
use Rattle.agg_model.specs.declared.row.Document.{Document}
use Rattle.agg_evaluation.specs.DocumentFits.{fits, all_fit}
use Rattle.agg_reading.specs.Store.{live_documents, weight}
use Rattle.column_loading.specs.Drafts.{AreLight}
use Rattle.column_loading.specs.Loadings.{document_of, entry_of, entries_of}
use Rattle.column_loading.specs.declared.slot.Kept.{Kept}
use Rattle.column_loading.specs.declared.slot.Slot.{Slot}

module _ (m : Mapping) where
  abbrev live : List Slot → List Document
  live slots = live_documents (entries_of m slots)

  live-append : (xs ys : List Slot) → live (xs ++ ys) ≡ live xs ++ live ys
  unfolding live_documents
  live-append xs ys = ap (flat_map (λ (e : List ℕ × Option Document). option_to_list e.1)) (map-append (entry_of m) xs ys) ∙ flat_map-append (λ (e : List ℕ × Option Document). option_to_list e.1) (entries_of m xs) (entries_of m ys)

  live-one : (s : Slot) (o : Option Document) → option_map (document_of m s.id) s.live ≡ o → live (s ∷ []) ≡ option_to_list o
  unfolding live_documents
  live-one s o is = append-nil (option_to_list (option_map (document_of m s.id) s.live)) ∙ ap (λ (x : Option Document). option_to_list x) is

  pub live-none : live [] ≡ []
  unfolding live_documents
  live-none = refl

  -- the live document of one more slot, if it has one
  pub live-next : (slots : List Slot) (k : ℕ) (s : Slot) (o : Option Kept) → take (k + 1) slots ≡ take k slots ++ s ∷ [] → s.live ≡ o → live (take (k + 1) slots) ≡ live (take k slots) ++ option_to_list (option_map (document_of m s.id) o)
  live-next slots k s o next is =
      ap live next ∙ (live-append (take k slots) (s ∷ []) ∙ ap (λ (ds : List Document). live (take k slots) ++ ds) (live-one s (option_map (document_of m s.id) o) (ap (option_map (document_of m s.id)) is)))

  light-front : (front back : List Document) → AreLight m (front ++ back) → AreLight m front
  light-front front back light =
      let parts = and_parts (all_fit m front) (all_fit m back) (sym (list_all-append (λ (d : Document). fits m d.root) front back) ∙ light.fit) in
      let below = light.light in
      record { fit = parts.0; light = omega (arith, below, sum_by-append weight front back) }

  -- those of the first slots are light where all are
  pub light-first : (slots : List Slot) (k : ℕ) → AreLight m (live slots) → AreLight m (live (take k slots))
  light-first slots k light = light-front (live (take k slots)) (live (drop k slots)) (subst (AreLight m) (sym (ap live (take-append-drop k slots)) ∙ live-append (take k slots) (drop k slots)) light)

pub not-some : (o : Option Kept) → ((k : Kept) → o ≡ Some k → ⊥) → o ≡ None
not-some None none = refl
not-some (Some k) none = absurd (none k refl)
