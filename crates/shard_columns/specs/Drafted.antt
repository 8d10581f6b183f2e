-- A shard that grows document by document: what it holds of the documents so far.
use Rattle.std.specs.Prelude.{◌≡◌, ℕ, ◌+◌, ◌<◌, ◌≤◌, List, [], ◌∷◌, ◌++◌, map, flat_map, length, slice_index_or, IsTrue}
use Rattle.agg_model.specs.declared.limits.TheConstants.{MAX_PATHS, WEIGHT_LIMIT}
use Rattle.agg_model.specs.declared.mapping.FieldKind.{FieldKind}
use Rattle.agg_model.specs.declared.mapping.Mapping.{Mapping}
use Rattle.agg_model.specs.declared.row.Document.{Document}
use Rattle.agg_model.specs.Contexts.{parents_before}
use Rattle.agg_evaluation.specs.Ceiling.{greatest_of}
use Rattle.agg_evaluation.specs.DocumentFits.{all_fit}
use Rattle.agg_evaluation.specs.Rows.{rows_of_documents}
use Rattle.agg_evaluation.specs.RowsWeight.{rows_weight}
use Rattle.shard_columns.specs.declared.layout.Laid.{Laid}
use Rattle.shard_columns.specs.declared.draft.ShardDraft.{ShardDraft}
use Rattle.shard_columns.specs.declared.values.Drafts.{Drafts}
use Rattle.shard_columns.specs.declared.words.WordNumbers.{WordNumbers}
use Rattle.shard_columns.specs.declared.columns.Column.{Column}
use Rattle.shard_columns.specs.declared.homes.Homes.{Homes}
use Rattle.shard_columns.specs.Built.{columns_from}
use Rattle.shard_columns.specs.Columns.{Columns}
use Rattle.shard_columns.specs.Ends.{each, root_ends}
use Rattle.shard_columns.specs.Homes.{home_count}
use Rattle.shard_columns.specs.Layout.{flat_rows, entries_of_laid, ids_of}
use Rattle.shard_columns.specs.Stored.{AreStorable, AreDrafts, AreStored, AreColumns}
use Rattle.shard_columns.specs.Values.{Words, found_values}
use Rattle.shard_columns.specs.Words.{HasNoWords, Notes, row_words, AreDictionaries}

-- The rows of these documents one after another, with their ends. They stay when further documents come behind them.
pub record RootsLaid (laid : List Laid) (ends : List ℕ) (documents : List Document) : Type 0 where
  pub rows_are : (more : List (List ℕ)) → flat_rows (ids_of documents ++ more) laid ≡ rows_of_documents documents
  pub ends_are : ends ≡ each (map root_ends documents) 0
  pub aligned : length laid ≡ length ends

-- the values of these rows, whose words have numbers
pub record Holds (kinds : List FieldKind) (rows : List Laid) (numbers : WordNumbers) (drafts : Drafts) : Type 0 where
  pub none : WordNumbers
  pub empty : HasNoWords none
  pub sizes : length none.by_field.items ≡ length kinds
  pub notes : Notes none numbers (λ f. flat_map (row_words f) rows)
  pub values : AreDrafts kinds numbers rows drafts

-- what is held of some rows, so many, has room for these behind them
pub record CanHold (first : ℕ) (rows : List Laid) (numbers : WordNumbers) (drafts : Drafts) : Type 0 where
  pub kinds : List FieldKind
  pub before : List Laid
  pub first_is : first ≡ length before
  pub holds : Holds kinds before numbers drafts
  pub storable : AreStorable kinds (before ++ rows)

-- whatever rows, so many, are held, these come to be held behind them
abbrev pub HoldsBehind : ℕ → List Laid → WordNumbers → Drafts → WordNumbers → Drafts → Type 0
HoldsBehind first rows numbers drafts new_numbers new =
    (kinds : List FieldKind) (before : List Laid) → first ≡ length before → Holds kinds before numbers drafts → Holds kinds (before ++ rows) new_numbers new

-- some rows are held, so many
pub record HoldsSome (count : ℕ) (numbers : WordNumbers) (drafts : Drafts) : Type 0 where
  pub kinds : List FieldKind
  pub rows : List Laid
  pub count_is : count ≡ length rows
  pub holds : Holds kinds rows numbers drafts

-- these are the dictionaries and columns of what is held, of rows that have these homes
pub record IsStoredFrom (homes : Homes) (numbers : WordNumbers) (drafts : Drafts) (words : List Words) (columns : List Column) : Type 0 where
  pub words_are : (kinds : List FieldKind) (rows : List Laid) → Holds kinds rows numbers drafts → AreDictionaries (length kinds) rows words
  pub rows_are : (kinds : List FieldKind) (rows : List Laid) → Holds kinds rows numbers drafts → AreStorable kinds rows → length rows ≡ home_count homes → AreStored homes rows words columns
  pub columns_are : (kinds : List FieldKind) (rows : List Laid) → Holds kinds rows numbers drafts → AreColumns homes kinds columns

-- for each field the greatest number of values that one of the rows has that are held
abbrev pub AreMostFrom : WordNumbers → Drafts → List ℕ → Type 0
AreMostFrom numbers drafts most =
    (kinds : List FieldKind) (rows : List Laid) → Holds kinds rows numbers drafts → AreStorable kinds rows → (f : ℕ) → slice_index_or most f 0 ≡ greatest_of (map (λ l. length (found_values f l.values.now)) rows)

-- The draft holds exactly these documents, in their order: they fit the mapping, which has at most MAX_PATHS fields and nested
-- paths, each path behind the one around it, and their rows, values and bytes of words are fewer than WEIGHT_LIMIT together.
pub record IsDraftOf (m : Mapping) (documents : List Document) (draft : ShardDraft) : Type 0 where
  pub few : length m.fields + length m.nested ≤ MAX_PATHS
  pub paths : IsTrue (parents_before m)
  pub fit : IsTrue (all_fit m documents)
  pub light : rows_weight (rows_of_documents documents) < WEIGHT_LIMIT
  pub kinds_are : draft.kinds.items ≡ map (λ f. f.kind) m.fields
  pub laid : List Laid
  pub roots : RootsLaid laid draft.ends.items documents
  pub entries : draft.rows ≡ entries_of_laid laid
  pub ids : draft.ids ≡ ids_of documents
  pub holds : Holds draft.kinds.items laid draft.numbers draft.drafts

-- one more document behind these fits the mapping as they do, and together they are light enough
pub record Admits (m : Mapping) (documents : List Document) (document : Document) : Type 0 where
  pub fit : IsTrue (all_fit m (documents ++ document ∷ []))
  pub light : rows_weight (rows_of_documents (documents ++ document ∷ [])) < WEIGHT_LIMIT

-- the draft holds some documents that admit this one
abbrev pub CanTake : ShardDraft → Document → Type 0
CanTake draft document = (m : Mapping) × ((documents : List Document) × (IsDraftOf m documents draft × Admits m documents document))

-- the draft takes one more document behind those that it holds, whichever they are
abbrev pub Takes : ShardDraft → ShardDraft → Document → Type 0
Takes old new document =
    (m : Mapping) (documents : List Document) → IsDraftOf m documents old → Admits m documents document → IsDraftOf m (documents ++ document ∷ []) new

-- the draft's documents as columns, whichever they are
abbrev pub IsFinishedFrom : Mapping → ShardDraft → Columns → Type 0
IsFinishedFrom m draft columns = (documents : List Document) → IsDraftOf m documents draft → columns ≡ columns_from m documents

-- the draft holds some documents under this mapping
abbrev pub IsDraftFor : Mapping → ShardDraft → Type 0
IsDraftFor m draft = (documents : List Document) × IsDraftOf m documents draft
