-- The shards of drafts, one after another.
use Rattle.std.proofs.Common.{◌≡◌, ◌<◌, ◌++◌, ◌∷◌, ◌+◌, ℕ, List, [], Some, map, take, length, get_or, sym, ◌∙◌, ap, arith, length-append}
use Rattle.std.specs.Prelude.{slice_get}
use Rattle.std.proofs.lemmas.List.{map-append}
use Rattle.std.proofs.lemmas.Option.{slice_get_within}
use Rattle.agg_model.specs.declared.mapping.Mapping.{Mapping}
use Rattle.agg_model.specs.declared.row.Document.{Document}
use Rattle.shard_columns.specs.Built.{columns_from}
use Rattle.shard_columns.specs.Columns.{Columns}
use Rattle.shard_columns.specs.Drafted.{IsFinishedFrom}
use Rattle.shard_columns.specs.declared.draft.ShardDraft.{ShardDraft}
use Rattle.shard_columns.proofs.Laying.{take-next, all-taken}
use Rattle.shard_columns.proofs.Storing.{get_or-any}
use Rattle.column_loading.specs.Drafts.{AreDraftsOf}

-- one more of them
pub finished-next : (m : Mapping) (lists : List (List Document)) (all yielded : List ShardDraft) (draft : ShardDraft) (shards : List Columns) (shard : Columns) → AreDraftsOf m lists all → slice_get all (length yielded) ≡ Some draft →
    IsFinishedFrom m draft shard → shards ≡ map (columns_from m) (take (length yielded) lists) → shards ++ shard ∷ [] ≡ map (columns_from m) (take (length (yielded ++ draft ∷ [])) lists)
finished-next m lists all yielded draft shards shard are at finished so_far =
    let k = length yielded in
    let sizes = are.sizes in
    let low : k < length lists = (let below = slice_get_within all k draft at in omega (arith, below, sizes)) in
    let documents = get_or lists k [] in
    let next : take (k + 1) lists ≡ take k lists ++ documents ∷ [] = take-next lists k documents low (get_or-any lists k [] documents low) in
    (λ i. so_far i ++ finished documents (are.each k draft at) i ∷ [])
    ∙ (sym (map-append (columns_from m) (take k lists) (documents ∷ []))
    ∙ (ap (map (columns_from m)) (sym next) ∙ ap (λ (n : ℕ). map (columns_from m) (take n lists)) (sym (length-append yielded (draft ∷ [])))))

-- all of them
pub finished-all : (m : Mapping) (lists : List (List Document)) (all yielded : List ShardDraft) (shards : List Columns) → AreDraftsOf m lists all → yielded ≡ all → shards ≡ map (columns_from m) (take (length yielded) lists) → shards ≡ map (columns_from m) lists
finished-all m lists all yielded shards are whole so_far = so_far ∙ ap (map (columns_from m)) (all-taken lists (length yielded) (omega (arith, are.sizes, ap length whole)))
