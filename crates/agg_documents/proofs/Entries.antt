-- What the live documents of a store weigh and how many there are, after a put too, and the live documents from a place on.
use Rattle.std.proofs.Common.{add-one, ◌≡◌, ◌≢◌, refl, zero, suc, get_or, drop, slice_get, ℕ, ◌+◌, ◌-◌, ◌^◌, ◌<◌, ◌≤◌, Bool, true, false, ◌||◌, cond, if◌then◌else◌, min, length, List, [], ◌∷◌, ◌++◌, map, Option, None, Some, sym, ◌∙◌, ap, subst, arith}
use Rattle.std.specs.List.{sum_by}
use Rattle.std.specs.Option.{option_map, option_map_or, option_and_then, option_to_list}
use Rattle.std.specs.Str.{bytes_eq}
use Rattle.std.proofs.Math.Seq.{drop-cons}
use Rattle.std.proofs.lemmas.List.{drop_all, get_or-map, length-map}
use Rattle.std.proofs.lemmas.List.Sums.{sum_by-append, sum_by-cons}
use Rattle.agg_model.specs.declared.row.Document.{Document}
use Rattle.agg_reading.specs.Store.{Store, live_at, with_document, live_documents, weight, store_weight}
use Rattle.agg_documents.specs.declared.slot.Slot.{Slot}
use Rattle.agg_documents.specs.Slots.{id_of, document_in, entries_of}
use Rattle.agg_documents.proofs.Weighing.{row_weighs}

-- ---- sums over the live documents

module _ (f : Document → ℕ) where
  pub measure : Store → ℕ
  measure es = sum_by f (live_documents es)

  measure-one : (o : Option Document) → sum_by f (option_to_list o) ≡ option_map_or f o 0
  measure-one None = refl
  measure-one (Some d) = omega arith

  pub measure-cons : (id : List ℕ) (o : Option Document) (es : Store) → measure ((id, o) ∷ es) ≡ option_map_or f o 0 + measure es
  unfolding measure live_documents
  measure-cons id o es = sum_by-append f (option_to_list o) (live_documents es) ∙ ap (λ (n : ℕ). n + sum_by f (live_documents es)) (measure-one o)

  measure_step : (b : Bool) (id own : List ℕ) (o held live : Option Document) (es put : Store) → measure put + option_map_or f live 0 ≡ measure es + option_map_or f o 0 →
      measure (if b then (id, o) ∷ es else (own, held) ∷ put) + option_map_or f (if b then held else live) 0 ≡ measure ((own, held) ∷ es) + option_map_or f o 0
  measure_step true id own o held live es put h = omega (arith, measure-cons id o es, measure-cons own held es)
  measure_step false id own o held live es put h = omega (arith, h, measure-cons own held put, measure-cons own held es)

  -- what a put adds, and what was in its place
  pub measure-put : (id : List ℕ) (o : Option Document) (es : Store) → measure (with_document id o es) + option_map_or f (live_at id es) 0 ≡ measure es + option_map_or f o 0
  unfolding with_document live_at
  measure-put id o [] = omega (arith, measure-cons id o [])
  measure-put id o (e ∷ es) = measure_step (bytes_eq e.0 id) id e.0 o e.1 (live_at id es) es (with_document id o es) (measure-put id o es)

  live_step : (b : Bool) (own : List ℕ) (held live : Option Document) (es : Store) → option_map_or f live 0 ≤ measure es → option_map_or f (if b then held else live) 0 ≤ measure ((own, held) ∷ es)
  live_step true own held live es h = omega (arith, measure-cons own held es)
  live_step false own held live es h = omega (arith, h, measure-cons own held es)

  -- a live document is among those that are summed
  pub live-within : (id : List ℕ) (es : Store) → option_map_or f (live_at id es) 0 ≤ measure es
  unfolding live_at
  live-within id [] = omega arith
  live-within id (e ∷ es) = live_step (bytes_eq e.0 id) e.0 e.1 (live_at id es) es (live-within id es)

  pub at-within : (es : Store) (p : ℕ) (e : List ℕ × Option Document) → p < length es → option_map_or f (get_or es p e).1 0 ≤ measure es
  at-within [] p e below = absurd (omega (arith, below))
  at-within (x ∷ es) zero e below = omega (arith, measure-cons x.0 x.1 es)
  at-within (x ∷ es) (suc p) e below = omega (arith, at-within es p e (omega (arith, below)), measure-cons x.0 x.1 es)

-- ---- the weight and the number of live documents

abbrev pub one : Document → ℕ
one d = 1

pub weight-measure : (es : Store) → store_weight es ≡ measure weight es
unfolding store_weight measure
weight-measure es = refl

count_ones : (ds : List Document) → length ds ≡ sum_by one ds
count_ones [] = refl
count_ones (d ∷ ds) = omega (arith, count_ones ds, sum_by-cons one d ds)

pub count-measure : (es : Store) → length (live_documents es) ≡ measure one es
unfolding measure
count-measure es = count_ones (live_documents es)

each_weighs : (ds : List Document) → length ds ≤ sum_by weight ds
each_weighs [] = omega arith
each_weighs (d ∷ ds) = omega (arith, each_weighs ds, sum_by-cons weight d ds, row_weighs d.root)

-- no store has more live documents than weight
pub count-weight : (es : Store) → length (live_documents es) ≤ store_weight es
unfolding store_weight
count-weight es = each_weighs (live_documents es)

-- the weight after a put
pub weight-put : (id : List ℕ) (o : Option Document) (es : Store) → store_weight (with_document id o es) + option_map_or weight (live_at id es) 0 ≡ store_weight es + option_map_or weight o 0
weight-put id o es = omega (arith, weight-measure (with_document id o es), weight-measure es, measure-put weight id o es)

-- the number of live documents after a put
pub count-put : (id : List ℕ) (o : Option Document) (es : Store) → length (live_documents (with_document id o es)) + option_map_or one (live_at id es) 0 ≡ length (live_documents es) + option_map_or one o 0
count-put id o es = omega (arith, count-measure (with_document id o es), count-measure es, measure-put one id o es)

-- a live document weighs no more than the store
pub weight-within : (id : List ℕ) (es : Store) → option_map_or weight (live_at id es) 0 ≤ store_weight es
weight-within id es = omega (arith, weight-measure es, live-within weight id es)

-- the document at a place weighs no more than the store
pub weight-at : (es : Store) (p : ℕ) (e : List ℕ × Option Document) → p < length es → option_map_or weight (get_or es p e).1 0 ≤ store_weight es
weight-at es p e below = omega (arith, weight-measure es, at-within weight es p e below)

-- the weight of the document of a place, as it is read there
pub weight-found : (slots : List Slot) (s : Slot) (d : Document) (p n : ℕ) → p < length (entries_of slots) → s ≡ get_or slots p s → Some d ≡ document_in s → n ≡ min (weight d) (2 ^ 64 - 1) →
    store_weight (entries_of slots) < 2 ^ 32 → Some n ≡ option_map weight (get_or (entries_of slots) p ([], None)).1
weight-found slots s d p n below is live read light =
    let entry : Slot → List ℕ × Option Document = λ t. (id_of t, document_in t) in
    let at : get_or (entries_of slots) p ([], None) ≡ entry s = get_or-map entry slots p s ([], None) (subst (λ (m : ℕ). p < m) (length-map slots entry) below) ∙ ap entry (sym is) in
    let here : (get_or (entries_of slots) p ([], None)).1 ≡ Some d = ap (λ (e : List ℕ × Option Document). e.1) at ∙ sym live in
    let within : weight d ≤ store_weight (entries_of slots) = subst (λ (o : Option Document). option_map_or weight o 0 ≤ store_weight (entries_of slots)) here (weight-at (entries_of slots) p ([], None) below) in
    let exact : n ≡ weight d = omega arith in
    ap Some exact ∙ sym (ap (option_map weight) here)

-- ---- the live documents from a place on

from_next : (slots : List Slot) (i : ℕ) (s : Slot) → i < length slots → s ≡ get_or slots i s → drop i slots ≡ s ∷ drop (i + 1) slots
from_next slots i s below is = drop-cons slots i s below ∙ (ap (λ (t : Slot). t ∷ drop (suc i) slots) (sym is) ∙ ap (λ (n : ℕ). s ∷ drop n slots) (sym (add-one i)))

live_next : (slots : List Slot) (i : ℕ) (s : Slot) → i < length slots → s ≡ get_or slots i s → live_documents (entries_of (drop i slots)) ≡ option_to_list (document_in s) ++ live_documents (entries_of (drop (i + 1) slots))
unfolding live_documents
live_next slots i s below is = ap (λ (ss : List Slot). live_documents (entries_of ss)) (from_next slots i s below is)

later : (d : Document) (rest : List Document) (n : ℕ) → n ≢ 0 → slice_get rest (n - 1) ≡ slice_get (d ∷ rest) n
later d rest zero apart = absurd (apart refl)
later d rest (suc n) apart = ap (slice_get rest) (omega arith)

pub get-none : (slots : List Slot) (i : ℕ) (s : Slot) (n : ℕ) → i < length slots → s ≡ get_or slots i s → document_in s ≡ None →
    slice_get (live_documents (entries_of (drop (i + 1) slots))) n ≡ slice_get (live_documents (entries_of (drop i slots))) n
get-none slots i s n below is none =
    sym (ap (λ (ds : List Document). slice_get ds n) (live_next slots i s below is ∙ ap (λ (o : Option Document). option_to_list o ++ live_documents (entries_of (drop (i + 1) slots))) none))

pub get-some : (slots : List Slot) (i : ℕ) (s : Slot) (d : Document) (n : ℕ) → i < length slots → s ≡ get_or slots i s → document_in s ≡ Some d → n ≢ 0 →
    slice_get (live_documents (entries_of (drop (i + 1) slots))) (n - 1) ≡ slice_get (live_documents (entries_of (drop i slots))) n
get-some slots i s d n below is some apart =
    later d (live_documents (entries_of (drop (i + 1) slots))) n apart
    ∙ sym (ap (λ (ds : List Document). slice_get ds n) (live_next slots i s below is ∙ ap (λ (o : Option Document). option_to_list o ++ live_documents (entries_of (drop (i + 1) slots))) some))

pub get-here : (slots : List Slot) (i : ℕ) (s : Slot) (d : Document) → i < length slots → s ≡ get_or slots i s → document_in s ≡ Some d →
    Some d ≡ slice_get (live_documents (entries_of (drop i slots))) 0
get-here slots i s d below is some =
    sym (ap (λ (ds : List Document). slice_get ds 0) (live_next slots i s below is ∙ ap (λ (o : Option Document). option_to_list o ++ live_documents (entries_of (drop (i + 1) slots))) some))

pub get-end : (slots : List Slot) (i n : ℕ) → length slots ≤ i → None ≡ slice_get (live_documents (entries_of (drop i slots))) n
unfolding live_documents
get-end slots i n past = sym (ap (λ (ss : List Slot). slice_get (live_documents (entries_of ss)) n) (drop_all i slots past))
