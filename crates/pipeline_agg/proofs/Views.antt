-- What prints under the names of an object, and the remarks that it is told of.
use Rattle.std.specs.Prelude.{◌≡◌, refl, ℕ, List, [], ◌∷◌, ◌++◌, map, filter_map, flat_map, Option, Some, None}
use Rattle.std.specs.List.{AllByRecursion, cons_option}
use Rattle.std.specs.Option.{option_map_or}
use Rattle.std.specs.declared.cmp.Ordering.{Ordering}
use Rattle.std.proofs.Common.{◌∙◌, sym, ap}
use Rattle.agg_model.specs.declared.pipeline.Note.{Note}
use Rattle.agg_spec.specs.Notes.{Named, named_cmp}
use Rattle.agg_spec.specs.RangeCheck.{first_path}
use Rattle.agg_spec.specs.Remarks.{Remark}
use Rattle.list_laws.proofs.Lists.{flat_map-map, map-append}
use Rattle.list_laws.specs.Sorting.{sorted}
use Rattle.pipeline_agg.specs.Entries.{AreFit, View, entry_cmp, first_said_wide, path_said, said_notes, said_of}
use Rattle.pipeline_agg.specs.Told.{IsFit, first_wide, notes_of}
use Rattle.pipeline_agg.specs.declared.remarked.Said.{Said}
use Rattle.pipeline_agg.specs.declared.remarked.Said.TheVariants as said
use Rattle.pipeline_agg.proofs.EntryLaws.{map-sorted}
use Rattle.pipeline_agg.proofs.Wides.{first-append, first-cons, wide-append, wide-none, wides}

-- a name, with the remarks there that are looked at and those that are kept
pub record Printed : Type 0 where
  pub name : List ℕ
  pub looked_at : List Remark
  pub kept : List Remark

abbrev pub told : Printed → View
told p = (p.name, said_of p.looked_at p.kept)

abbrev pub looked_named : Printed → Named
looked_named p = (p.name, p.looked_at)

abbrev pub kept_named : Printed → Named
kept_named p = (p.name, p.kept)

abbrev pub printed_cmp : Printed → Printed → Ordering
printed_cmp p q = entry_cmp (told p) (told q)

module _ (ns : List Note) where
  abbrev made : Option (List ℕ) → Said
  made w = option_map_or said.Wide w (said.Notes ns)

  path-made : (w : Option (List ℕ)) → path_said (made w) ≡ w
  path-made None = refl
  path-made (Some path) = refl

  fit-none : (w : Option (List ℕ)) → IsFit (made w) → w ≡ None
  fit-none None h = refl
  fit-none (Some path) h = absurd h

  notes-made : (w : Option (List ℕ)) → w ≡ None → said_notes (made w) ≡ ns
  notes-made w e = ap (λ v. said_notes (made v)) e

-- nothing out of range is looked at where what is told is fit
pub fit-looked : (looked kept : List Remark) → IsFit (said_of looked kept) → first_wide looked ≡ None
fit-looked looked kept h = fit-none (notes_of kept) (first_wide looked) h

-- the first path among entries is that among the remarks
pub told-wide : (ps : List Printed) → first_said_wide (map told ps) ≡ first_wide (flat_map (λ p. p.looked_at) ps)
told-wide [] = refl
told-wide (p ∷ ps) =
    let more = flat_map (λ (q : Printed). q.looked_at) ps in
    let says = filter_map (λ (e : View). path_said e.1) (map told ps) in
    ap (λ o. first_path (cons_option o says)) (path-made (notes_of p.kept) (first_wide p.looked_at))
    ∙ first-cons (first_wide p.looked_at) says (wides more) (told-wide ps)
    ∙ sym (wide-append p.looked_at more)

-- all notes of entries that are fit are those of the remarks
pub told-notes : (ps : List Printed) → AreFit (map told ps) → flat_map (λ e. said_notes e.1) (map told ps) ≡ notes_of (flat_map (λ p. p.kept) ps)
told-notes [] h = refl
told-notes (p ∷ ps) h =
    (λ i. notes-made (notes_of p.kept) (first_wide p.looked_at) (fit-looked p.looked_at p.kept h.0) i ++ told-notes ps h.1 i)
    ∙ sym (map-append (λ r. r.note) p.kept (flat_map (λ (q : Printed). q.kept) ps))

pub told-fit : (ps : List Printed) → AreFit (map told ps) → first_wide (flat_map (λ p. p.looked_at) ps) ≡ None
told-fit [] h = refl
told-fit (p ∷ ps) h = wide-none p.looked_at (flat_map (λ (q : Printed). q.looked_at) ps) (fit-looked p.looked_at p.kept h.0) ∙ told-fit ps h.1

-- sorted entries are what is told of the sorted names
pub told-sorted : (ps : List Printed) → map told (sorted printed_cmp ps) ≡ sorted entry_cmp (map told ps)
told-sorted ps = map-sorted told entry_cmp ps

pub looked-sorted : (ps : List Printed) → flat_map (λ p. p.looked_at) (sorted printed_cmp ps) ≡ flat_map (λ e. e.1) (sorted named_cmp (map looked_named ps))
looked-sorted ps = sym (flat_map-map looked_named (λ e. e.1) (sorted printed_cmp ps)) ∙ ap (flat_map (λ e. e.1)) (map-sorted looked_named named_cmp ps)

pub kept-sorted : (ps : List Printed) → flat_map (λ p. p.kept) (sorted printed_cmp ps) ≡ flat_map (λ e. e.1) (sorted named_cmp (map kept_named ps))
kept-sorted ps = sym (flat_map-map kept_named (λ e. e.1) (sorted printed_cmp ps)) ∙ ap (flat_map (λ e. e.1)) (map-sorted kept_named named_cmp ps)
