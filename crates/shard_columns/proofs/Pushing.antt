-- Documents behind those that a draft holds.
use Rattle.std.proofs.Common.{T, ◌≡◌, ◌∷◌, ◌++◌, ◌+◌, ◌<◌, ◌≤◌, ℕ, refl, true, [], List, map, take, drop, length, sym, ◌∙◌, ap, subst, arith, length-append, append_assoc}
use Rattle.std.specs.Prelude.{◌^◌}
use Rattle.std.specs.List.{zip}
use Rattle.std.proofs.lemmas.Bool.{and_parts}
use Rattle.std.proofs.lemmas.List.{append-nil, map-append, length-map, take-append-drop}
use Rattle.std.proofs.lemmas.List.Sums.{sum_by-append}
use Rattle.agg_model.specs.declared.limits.TheConstants.{WEIGHT_LIMIT}
use Rattle.agg_model.specs.declared.mapping.FieldKind.{FieldKind}
use Rattle.agg_model.specs.declared.mapping.Mapping.{Mapping}
use Rattle.agg_model.specs.declared.row.Document.{Document}
use Rattle.agg_evaluation.specs.DocumentFits.{fits, all_fit}
use Rattle.agg_evaluation.specs.Rows.{rows_of, rows_of_documents}
use Rattle.agg_evaluation.specs.RowsWeight.{row_weight, rows_weight}
use Rattle.shard_columns.specs.declared.columns.Column.{Column}
use Rattle.shard_columns.specs.declared.draft.ShardDraft.{ShardDraft}
use Rattle.shard_columns.specs.declared.homes.Homes.{Homes}
use Rattle.shard_columns.specs.declared.layout.Entry.{Entry}
use Rattle.shard_columns.specs.declared.layout.Laid.{Laid}
use Rattle.shard_columns.specs.declared.layout.Origin.TheVariants.{Root}
use Rattle.shard_columns.specs.Contexts.{ContextsBelow}
use Rattle.shard_columns.specs.Drafted.{RootsLaid, Holds, HoldsBehind, CanHold, IsStoredFrom, IsDraftOf, Admits}
use Rattle.shard_columns.specs.Ends.{each, root_ends, row_ends}
use Rattle.shard_columns.specs.Given.{IsGiven}
use Rattle.shard_columns.specs.Homes.{home_count}
use Rattle.shard_columns.specs.Layout.{AddsRow, AddsRowBehind, flat_rows, placed, ids_of, entries_of_laid, values_of_laid}
use Rattle.shard_columns.specs.Stored.{AreStorable}
use Rattle.shard_columns.specs.Values.{Words, row_values, by_words}
use Rattle.shard_columns.proofs.Building.{rows-stored, sizes-stored}
use Rattle.shard_columns.proofs.Enclosing.{all-rows-laid}
use Rattle.shard_columns.proofs.Givens.{documents_given}
use Rattle.shard_columns.proofs.Laying.{RootsLaid-push, root_ends-push, rows-push, few-documents}
use Rattle.shard_columns.proofs.Making.{contexts-below, storable-laid}
use Rattle.shard_columns.proofs.Weighing.{rows-light}

-- documents in front of others weigh no more than all

heavier : (documents : List Document) (d : Document) → rows_weight (rows_of_documents documents) ≤ rows_weight (rows_of_documents (documents ++ d ∷ []))
heavier documents d =
    let last = rows_of d.root 0 d.id (length documents ∷ []) in
    omega (arith, ap rows_weight (rows-push documents d), sum_by-append row_weight (rows_of_documents documents) last)

no-lighter : (front back : List Document) → rows_weight (rows_of_documents front) ≤ rows_weight (rows_of_documents (front ++ back))
no-lighter front [] = omega (arith, ap (λ (ds : List Document). rows_weight (rows_of_documents ds)) (append-nil front))
no-lighter front (d ∷ back) =
    omega (arith, heavier front d, no-lighter (front ++ d ∷ []) back, ap (λ (ds : List Document). rows_weight (rows_of_documents ds)) (append_assoc front (d ∷ []) back))

all-front : (m : Mapping) (front back : List Document) → all_fit m (front ++ back) ≡ true → all_fit m front ≡ true
all-front m [] back fit = refl
all-front m (d ∷ front) back fit =
    let parts = and_parts (fits m d.root) (all_fit m (front ++ back)) fit in
    cc (parts.0, all-front m front back parts.1)

-- of documents that fit and are light together, each is admitted behind those before it
pub admitted : (m : Mapping) (documents : List Document) (n : ℕ) (d : Document) → all_fit m documents ≡ true → rows_weight (rows_of_documents documents) < WEIGHT_LIMIT → take (n + 1) documents ≡ take n documents ++ d ∷ [] → Admits m (take n documents) d
admitted m documents n d fit light next =
    let split = take-append-drop (n + 1) documents in
    let rest = drop (n + 1) documents in
    record {
      fit = subst (λ (ds : List Document). all_fit m ds ≡ true) next (all-front m (take (n + 1) documents) rest (subst (λ (ds : List Document). all_fit m ds ≡ true) (sym split) fit));
      light = subst (λ (ds : List Document). rows_weight (rows_of_documents ds) < WEIGHT_LIMIT) next
          (omega (arith, light, no-lighter (take (n + 1) documents) rest, ap (λ (ds : List Document). rows_weight (rows_of_documents ds)) split));
    }

-- there is room for one more document
pub room-for : (m : Mapping) (documents : List Document) (d : Document) (draft : ShardDraft) → IsDraftOf m documents draft → Admits m documents d →
    (length documents < 2 ^ 32) × (length draft.ends.items + length (row_ends d.root (length draft.ends.items)) < 2 ^ 32)
room-for m documents d draft held admits =
    let all = documents ++ d ∷ [] in
    let given : IsGiven m all = documents_given m all held.few admits.light admits.fit in
    let laid = all-rows-laid all (subst T (sym given.paths) tt) in
    let size : length (each (map root_ends all) 0) ≡ length (rows_of_documents all) = laid.sizes in
    let light = admits.light in
    let before = each (map root_ends documents) 0 in
    let whole : length (each (map root_ends all) 0) ≡ length before + length (row_ends d.root (length before)) = ap length (root_ends-push documents d) ∙ length-append before (row_ends d.root (length before)) in
    let ends : length draft.ends.items ≡ length before = ap length held.roots.ends_are in
    let last : length (row_ends d.root (length draft.ends.items)) ≡ length (row_ends d.root (length before)) = ap (λ (k : ℕ). length (row_ends d.root k)) ends in
    (omega (arith, light, rows-light (rows_of_documents all), size, whole, few-documents documents), omega (arith, light, rows-light (rows_of_documents all), size, whole, ends, last))

flat : (documents : List Document) (laid : List Laid) (ends : List ℕ) → RootsLaid laid ends documents → flat_rows (ids_of documents) laid ≡ rows_of_documents documents
flat documents laid ends roots = ap (λ (ids : List (List ℕ)). flat_rows ids laid) (sym (append-nil (ids_of documents))) ∙ roots.rows_are []

-- the rows of one more document
roots-push : (documents : List Document) (d : Document) (laid added : List Laid) (ends more : List ℕ) (count : ℕ) → RootsLaid laid ends documents → count ≡ length documents →
    AddsRowBehind (length ends) [] added d.root (record { document = count; origin = Root }) → more ≡ ends ++ row_ends d.root (length ends) → length added + length ends ≡ length {A = Laid} [] + length more → RootsLaid (laid ++ added) more (documents ++ d ∷ [])
roots-push documents d laid added ends more count roots count_is adds more_is grown =
    let aligned = roots.aligned in
    let whole = append-nil laid in
    let here : AddsRow laid (laid ++ added) d.root (record { document = length documents; origin = Root }) =
    subst (λ (k : ℕ). AddsRow laid (laid ++ added) d.root (record { document = k; origin = Root })) count_is
    (subst (λ (ls : List Laid). AddsRow ls (laid ++ added) d.root (record { document = count; origin = Root })) whole (adds laid (ap length whole ∙ aligned))) in
    RootsLaid-push laid (laid ++ added) ends more documents d roots here more_is (omega (arith, aligned, grown, length-append laid added))

module _ (m : Mapping) (documents : List Document) (d : Document) (old : ShardDraft) (added : List Laid) (more : List ℕ) (count first : ℕ) (held : IsDraftOf m documents old) (admits : Admits m documents d) (count_is : count ≡ length documents) (first_is : first ≡ length old.rows)
    (adds : AddsRowBehind (length old.ends.items) [] added d.root (record { document = count; origin = Root })) (more_is : more ≡ old.ends.items ++ row_ends d.root (length old.ends.items)) (grown : length added + length old.ends.items ≡ length {A = Laid} [] + length more) where
  roots : RootsLaid (held.laid ++ added) more (documents ++ d ∷ [])
  roots = roots-push documents d held.laid added old.ends.items more count held.roots count_is adds more_is grown

  first-laid : first ≡ length held.laid
  first-laid = first_is ∙ (ap length held.entries ∙ length-map held.laid (λ (l : Laid). l.entry))

  pub can-hold : CanHold first added old.numbers old.drafts
  can-hold = record {
    kinds = old.kinds.items;
    before = held.laid;
    first_is = first-laid;
    holds = held.holds;
    storable =
        let all = documents ++ d ∷ [] in
        subst (λ (ks : List FieldKind). AreStorable ks (held.laid ++ added)) (sym held.kinds_are)
        (storable-laid m all (held.laid ++ added) (documents_given m all held.few admits.light admits.fit) admits.fit (flat all (held.laid ++ added) more roots));
  }

  -- the draft with one more document
  pub draft-push : (new : ShardDraft) → new.kinds.items ≡ old.kinds.items → new.ends.items ≡ more → new.rows ≡ old.rows ++ entries_of_laid added → new.ids ≡ old.ids ++ d.id ∷ [] →
      HoldsBehind first added old.numbers old.drafts new.numbers new.drafts → IsDraftOf m (documents ++ d ∷ []) new
  draft-push new kinds ends rows ids holds = record {
    few = held.few;
    paths = held.paths;
    fit = admits.fit;
    light = admits.light;
    kinds_are = kinds ∙ held.kinds_are;
    laid = held.laid ++ added;
    roots = subst (λ (es : List ℕ). RootsLaid (held.laid ++ added) es (documents ++ d ∷ [])) (sym ends) roots;
    entries = rows ∙ (ap (λ (es : List Entry). es ++ entries_of_laid added) held.entries ∙ sym (map-append (λ (l : Laid). l.entry) held.laid added));
    ids = ids ∙ (ap (λ (is : List (List ℕ)). is ++ d.id ∷ []) held.ids ∙ sym (map-append (λ (e : Document). e.id) documents (d ∷ [])));
    holds = subst (λ (ks : List FieldKind). Holds ks (held.laid ++ added) new.numbers new.drafts) (sym kinds) (holds old.kinds.items held.laid first-laid held.holds);
  }

-- what stands in the columns of the documents
pub flat-draft : (m : Mapping) (documents : List Document) (draft : ShardDraft) (held : IsDraftOf m documents draft) → flat_rows (ids_of documents) held.laid ≡ rows_of_documents documents
flat-draft m documents draft held = flat documents held.laid draft.ends.items held.roots

-- the contexts of the rows of a draft are those of its mapping, and the rows are few
pub contexts-draft : (m : Mapping) (documents : List Document) (draft : ShardDraft) (held : IsDraftOf m documents draft) (count : ℕ) → count ≡ length m.nested → ContextsBelow (count + 1) draft.rows
contexts-draft m documents draft held count size =
    contexts-below (ids_of documents) held.laid draft.rows (rows_of_documents documents) (count + 1) held.entries (flat-draft m documents draft held)
    (λ n. omega (arith, (documents_given m documents held.few held.light held.fit).contexts n, size))

pub few-draft : (m : Mapping) (documents : List Document) (draft : ShardDraft) → IsDraftOf m documents draft → length draft.rows < 2 ^ 32
few-draft m documents draft held =
    let light = held.light in
    omega (arith, light, rows-light (rows_of_documents documents), sizes-stored (ids_of documents) held.laid draft.rows (rows_of_documents documents) held.entries (flat-draft m documents draft held))

pub storable-draft : (m : Mapping) (documents : List Document) (draft : ShardDraft) (held : IsDraftOf m documents draft) → AreStorable draft.kinds.items held.laid
storable-draft m documents draft held =
    subst (λ (ks : List FieldKind). AreStorable ks held.laid) (sym held.kinds_are)
    (storable-laid m documents held.laid (documents_given m documents held.few held.light held.fit) held.fit (flat-draft m documents draft held))

pub count-laid : (m : Mapping) (documents : List Document) (draft : ShardDraft) (held : IsDraftOf m documents draft) → length draft.rows ≡ length held.laid
count-laid m documents draft held = ap length held.entries ∙ length-map held.laid (λ (l : Laid). l.entry)

pub rows-draft : (m : Mapping) (documents : List Document) (draft : ShardDraft) (homes : Homes) (words : List Words) (columns : List Column) (held : IsDraftOf m documents draft) → home_count homes ≡ length draft.rows →
    IsStoredFrom homes draft.numbers draft.drafts words columns → placed draft.ids [] (zip draft.rows (row_values homes (by_words words) columns (length draft.rows))) ≡ rows_of_documents documents
rows-draft m documents draft homes words columns held homed stored =
    let entries = draft.rows in
    let values = row_values homes (by_words words) columns (length entries) in
    let values_are : values ≡ values_of_laid held.laid =
    ap (row_values homes (by_words words) columns) (count-laid m documents draft held)
    ∙ stored.rows_are draft.kinds.items held.laid held.holds (storable-draft m documents draft held) (sym (homed ∙ count-laid m documents draft held)) in
    ap (λ (ids : List (List ℕ)). placed ids [] (zip entries values)) held.ids
    ∙ (rows-stored (ids_of documents) held.laid entries values held.entries values_are ∙ flat-draft m documents draft held)
