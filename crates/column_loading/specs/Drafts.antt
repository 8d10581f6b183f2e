-- A growing shard for each shard of an index ('_routing field' of Elasticsearch Reference 8).
use Rattle.std.specs.Prelude.{◌≡◌, ℕ, ◌<◌, ◌≤◌, ◌^◌, Option, None, Vec, List, [], ◌∷◌, ◌++◌, map, length, slice_get, slice_index_or, Some, sum_by, IsTrue}
use Rattle.std.specs.declared.alloc.Global.{Global}
use Rattle.agg_model.specs.declared.limits.TheConstants.{WEIGHT_LIMIT}
use Rattle.agg_model.specs.declared.mapping.Mapping.{Mapping}
use Rattle.agg_model.specs.declared.row.Document.{Document}
use Rattle.agg_evaluation.specs.DocumentFits.{all_fit}
use Rattle.agg_reading.specs.Store.{weight}
use Rattle.agg_documents.specs.Shards.{cut}
use Rattle.shard_columns.specs.Built.{columns_from}
use Rattle.shard_columns.specs.Columns.{Columns}
use Rattle.shard_columns.specs.Drafted.{IsDraftOf}
use Rattle.shard_columns.specs.declared.draft.ShardDraft.{ShardDraft}

-- the documents of each list are held by its draft
pub record AreDraftsOf (m : Mapping) (lists : List (List Document)) (drafts : List ShardDraft) : Type 0 where
  pub sizes : length drafts ≡ length lists
  pub each : (j : ℕ) (draft : ShardDraft) → slice_get drafts j ≡ Some draft → IsDraftOf m (slice_index_or lists j []) draft

-- documents fit the mapping, and weigh less than WEIGHT_LIMIT together
pub record AreLight (m : Mapping) (documents : List Document) : Type 0 where
  pub fit : IsTrue (all_fit m documents)
  pub light : sum_by weight documents < WEIGHT_LIMIT

-- the drafts hold some documents by their routings, and have room for this one
abbrev pub CanDeal : List ShardDraft → Document → Type 0
CanDeal drafts document =
    (m : Mapping) × ((documents : List Document) × (AreDraftsOf m (cut documents (length drafts)) drafts × AreLight m (documents ++ document ∷ [])))

-- one more document is put behind those that the drafts hold, whichever they are
abbrev pub Deals : List ShardDraft → List ShardDraft → Document → Type 0
Deals old new document =
    (m : Mapping) (documents : List Document) → AreDraftsOf m (cut documents (length old)) old →
    AreLight m (documents ++ document ∷ []) → AreDraftsOf m (cut (documents ++ document ∷ []) (length old)) new

-- the drafts hold some documents under this mapping
abbrev pub AreDraftsFor : Mapping → List ShardDraft → Type 0
AreDraftsFor m drafts = (lists : List (List Document)) × AreDraftsOf m lists drafts

-- the drafts' documents as columns, whichever they are
abbrev pub AreFinishedFrom : Mapping → List ShardDraft → List Columns → Type 0
AreFinishedFrom m drafts shards = (lists : List (List Document)) → AreDraftsOf m lists drafts → shards ≡ map (columns_from m) lists

-- growing shards, if there are any, hold these documents
abbrev pub AreGrowing : Mapping → List Document → ℕ → Option (Vec ShardDraft Global) → Type 0
AreGrowing m documents shards None = Unit {0}
AreGrowing m documents shards (Some drafts) = AreDraftsOf m (cut documents shards) drafts.items

-- growing shards, if there are any, have room for this document
pub record CanGrow (drafts : Option (Vec ShardDraft Global)) (document : Document) : Type 0 where
  pub mapping : Mapping
  pub documents : List Document
  pub shards : ℕ
  pub some : 1 ≤ shards
  pub in_range : shards < 2 ^ 32
  pub growing : AreGrowing mapping documents shards drafts
  pub light : AreLight mapping (documents ++ document ∷ [])

-- they hold one more document, whichever they held
abbrev pub Grows : Option (Vec ShardDraft Global) → Option (Vec ShardDraft Global) → Document → Type 0
Grows old new document =
    (m : Mapping) (documents : List Document) (shards : ℕ) → 1 ≤ shards → AreGrowing m documents shards old →
    AreLight m (documents ++ document ∷ []) → AreGrowing m (documents ++ document ∷ []) shards new
