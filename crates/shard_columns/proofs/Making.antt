-- What holds of a shard that is made from documents.
use Rattle.std.proofs.Common.{◌≡◌, refl, ℕ, ◌+◌, ◌<◌, ◌≤◌, List, [], ◌∷◌, ◌++◌, map, length, get_or, flat_map, sym, ◌∙◌, ap, subst, arith, inl, inr}
use Rattle.std.specs.Prelude.{◌&&◌, nat_le, nat_lt, slice_get, Some, true, sum_by}
use Rattle.std.proofs.lemmas.Option.{slice_get_within, get_or_from_slice_get}
use Rattle.std.specs.List.Sorted.{IsStrictlyIncreasing}
use Rattle.agg_model.specs.declared.row.FieldValues.{FieldValues}
use Rattle.agg_model.specs.declared.row.Document.{Document}
use Rattle.agg_model.specs.declared.mapping.Mapping.{Mapping}
use Rattle.agg_model.specs.declared.mapping.Field.{Field}
use Rattle.agg_evaluation.specs.DocumentFits.{all_fit}
use Rattle.agg_evaluation.specs.Rows.{rows_of_documents}
use Rattle.shard_columns.specs.Given.{IsGiven, RowsBelow}
use Rattle.shard_columns.specs.Stored.{AreSound, AreStorable}
use Rattle.shard_columns.specs.Layout.{ids_of}
use Rattle.shard_columns.specs.Values.{total_count}
use Rattle.shard_columns.proofs.Givens.{sound_rows}
use Rattle.shard_columns.proofs.Weighing.{rows-light, counts-light}
use Rattle.shard_columns.proofs.Building.{AllFieldsBelow-given, total-values}
use Rattle.std.specs.Ordering.{nat_cmp}
use Rattle.std.specs.Cmp.Lexicographic.{slice_cmp}
use Rattle.std.proofs.lemmas.List.{length-map, get_or-map, get_or_past}
use Rattle.std.proofs.lemmas.Bool.{cases_lt}
use Rattle.agg_evaluation.specs.Rows.{PlacedRow, no_row, row_of}
use Rattle.list_laws.specs.Sorting.{ascending}
use Rattle.shard_columns.specs.declared.layout.Entry.{Entry}
use Rattle.shard_columns.specs.declared.layout.Laid.{Laid}
use Rattle.shard_columns.specs.Contexts.{ContextsBelow, AreEnclosed}
use Rattle.shard_columns.specs.Dictionary.{words_of}
use Rattle.shard_columns.specs.Given.{FieldsRise}
use Rattle.shard_columns.specs.Layout.{flat_rows, values_of_laid, entries_of_laid, context_of}
use Rattle.shard_columns.specs.Values.{Words}
use Rattle.shard_columns.specs.Words.{AllFieldsBelow, AreDictionaries, row_words}
use Rattle.shard_columns.proofs.Building.{values-placed, pair, pairs-values, rows-stored, contexts-are, words_for-none}
use Rattle.shard_columns.proofs.Dictionaries.{SameWords-ascending, row_words-all}
use Rattle.shard_columns.proofs.Enclosing.{IsLaid}
use Rattle.shard_columns.proofs.Placing.{length-flat_rows}

pub values-laid : (ids : List (List ℕ)) (laid : List Laid) (rows : List PlacedRow) → flat_rows ids laid ≡ rows → map (λ r. r.values) rows ≡ values_of_laid laid
values-laid ids laid rows is = ap (map (λ (r : PlacedRow). r.values)) (sym is) ∙ (values-placed ids [] (map pair laid) ∙ pairs-values laid)

-- the contexts of entries are those of their rows
pub contexts-below : (ids : List (List ℕ)) (laid : List Laid) (entries : List Entry) (rows : List PlacedRow) (count : ℕ) → entries ≡ entries_of_laid laid → flat_rows ids laid ≡ rows →
    ((n : ℕ) → (row_of rows n).context < count) → ContextsBelow count entries
contexts-below ids laid entries rows count entries_are is low n d below =
    let values = values_of_laid laid in
    let sizes : length values ≡ length entries = length-map laid (λ (l : Laid). l.values.now) ∙ (sym (length-map laid (λ (l : Laid). l.entry)) ∙ sym (ap length entries_are)) in
    let same : map (λ (r : PlacedRow). r.context) rows ≡ map (λ (e : Entry). context_of e.origin) entries =
    ap (map (λ (r : PlacedRow). r.context)) (sym (rows-stored ids laid entries values entries_are refl ∙ is)) ∙ contexts-are ids entries values sizes in
    let n_rows : n < length rows = omega (arith, below, ap length is, length-flat_rows ids laid, ap length entries_are, length-map laid (λ (l : Laid). l.entry)) in
    let at : context_of (get_or entries n d).origin ≡ (row_of rows n).context =
    sym (get_or-map (λ (e : Entry). context_of e.origin) entries n d 0 below) ∙ (ap (λ (xs : List ℕ). get_or xs n 0) (sym same) ∙ get_or-map (λ (r : PlacedRow). r.context) rows n no_row 0 n_rows) in
    subst (λ (k : ℕ). k < count) (sym at) (low n)

pub AreEnclosed-laid : (p : List ℕ) (K : ℕ → Type 0) (rows : List PlacedRow) (ends : List ℕ) → IsLaid p K 0 rows ends → AreEnclosed rows ends
AreEnclosed-laid p K rows ends laid = record {
  sizes = laid.sizes;
  after = λ n below. let r = laid.reach n below in omega (arith, r.0);
  before = λ n below. let r = laid.reach n below in omega (arith, r.1);
  within = λ n j n_below j_below. laid.within n j n_below j_below ∙ ap (λ (k : ℕ). nat_le n j && nat_lt k (get_or ends n 0)) (let e : 0 + j ≡ j = omega arith in e);
}

-- no words of a field beyond the mapping
none-beyond : (count f : ℕ) (laid : List Laid) → AllFieldsBelow count laid → count ≤ f → flat_map (row_words f) laid ≡ []
unfolding AllFieldsBelow
none-beyond count f [] below beyond = refl
none-beyond count f (l ∷ ls) below beyond =
    ap (λ (ws : Words). ws ++ flat_map (row_words f) ls) (words_for-none count f l.values.now below.0 beyond) ∙ none-beyond count f ls below.1 beyond

pub dictionaries-are : (count : ℕ) (ids : List (List ℕ)) (laid : List Laid) (rows : List PlacedRow) (words : List Words) → flat_rows ids laid ≡ rows → FieldsRise rows → AllFieldsBelow count laid → AreDictionaries count laid words →
    (f : ℕ) → get_or words f [] ≡ words_of f rows
dictionaries-are count ids laid rows words is rising below are f =
    let all = row_words-all f laid rows no_row (values-laid ids laid rows is) (λ n _. rising n) in
    elim (cases_lt f count) [
      | inl inside ↦ SameWords-ascending (flat_map (row_words f) laid) (get_or words f []) (are.same f inside) ∙ ap (ascending (slice_cmp nat_cmp)) all
      | inr beyond ↦ get_or_past words f [] (omega (arith, are.sizes)) ∙ ap (ascending (slice_cmp nat_cmp)) (sym (none-beyond count f laid below beyond) ∙ all)
    ]

laid-values : (ids : List (List ℕ)) (laid : List Laid) (rows : List PlacedRow) (n : ℕ) (l : Laid) → flat_rows ids laid ≡ rows → slice_get laid n ≡ Some l → (row_of rows n).values ≡ l.values.now
laid-values ids laid rows n l is at =
    let low = slice_get_within laid n l at in
    let n_rows : n < length rows = omega (arith, low, ap length is, length-flat_rows ids laid) in
    sym (get_or-map (λ (r : PlacedRow). r.values) rows n no_row [] n_rows)
    ∙ (ap (λ (vs : List (List FieldValues)). get_or vs n []) (values-laid ids laid rows is)
    ∙ (get_or-map (λ (x : Laid). x.values.now) laid n l [] low ∙ ap (λ (x : Laid). x.values.now) (get_or_from_slice_get laid n l l at)))

pub storable-laid : (m : Mapping) (documents : List Document) (laid : List Laid) → IsGiven m documents → all_fit m documents ≡ true → flat_rows (ids_of documents) laid ≡ rows_of_documents documents → AreStorable (map (λ f. f.kind) m.fields) laid
storable-laid m documents laid given fit is =
    let rows = rows_of_documents documents in
    let size : length m.fields ≡ length (map (λ f. f.kind) m.fields) = sym (length-map m.fields (λ (f : Field). f.kind)) in
    record {
      below = AllFieldsBelow-given (length (map (λ f. f.kind) m.fields)) (ids_of documents) laid rows is (subst (λ (n : ℕ). RowsBelow n rows) size given.fields);
      rising = λ n l at. subst (λ (vs : List FieldValues). IsStrictlyIncreasing (map (λ v. v.field) vs)) (laid-values (ids_of documents) laid rows n l is at) (given.rising n);
      sound = λ n l at. subst (AreSound (map (λ f. f.kind) m.fields) 0) (laid-values (ids_of documents) laid rows n l is at) (sound_rows m documents fit n);
      few_values = (let light = given.light in omega (arith, light, counts-light rows, total-values rows, ap (sum_by total_count) (values-laid (ids_of documents) laid rows is)));
      few_rows = (let light = given.light in omega (arith, light, rows-light rows, ap length is, length-flat_rows (ids_of documents) laid));
    }
