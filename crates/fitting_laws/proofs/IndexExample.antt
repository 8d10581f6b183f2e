-- One small index from the bytes of its script, computed: what is loaded is what an index is built from.
use Rattle.std.specs.Prelude.{◌≡◌, refl, ℕ, pos, negsuc, List, [], ◌∷◌, map, Ok, IfOk, codes}
use Rattle.agg_model.specs.Lines.{lines}
use Rattle.agg_model.specs.declared.row.Scalar.{Scalar}
use Rattle.agg_model.specs.declared.row.Scalar.TheVariants.{Whole, Word}
use Rattle.agg_reading.specs.Lines.{Script}
use Rattle.agg_reading.specs.Reading.{◌>>=◌}
use Rattle.agg_reading.specs.Script.{loaded}
use Rattle.agg_reading.specs.Store.{shards_of}
use Rattle.agg_reading.proofs.Computing.{computing}
use Rattle.agg_evaluation.specs.Rows.{PlacedRow, rows_of_documents}
use Rattle.fitting_laws.specs.Stores.{IsIndexed}
use Rattle.fitting_laws.proofs.Loads.{loaded_indexed}

-- two shards, a byte and a nested keyword
abbrev script : List ℕ
script = codes "{\"index\":\"i\",\"mappings\":{\"properties\":{\"items\":{\"type\":\"nested\",\"properties\":{\"s\":{\"type\":\"keyword\"}}},\"n\":{\"type\":\"byte\"}}},\"settings\":{\"number_of_shards\":2}}\n\n{\"index\":{\"_id\":\"a\",\"routing\":\"1\"}}\n{\"n\":[5,-128,5],\"items\":[{\"s\":\"k\"},{\"s\":\"mm\"}]}\n{\"index\":{\"_id\":\"b\",\"routing\":\"0\"}}\n{\"n\":127}\n{\"index\":{\"_id\":\"c\",\"routing\":\"0\"}}\n{\"n\":128}\n\n"

abbrev rows_of_script : Script (List (List PlacedRow))
rows_of_script = loaded (lines script) >>= λ l. Ok (map rows_of_documents (shards_of l.store l.index.shards))

abbrev row : List ℕ → ℕ → List ℕ → ℕ → List Scalar → PlacedRow
row place context id field values = record { place = place; context = context; id = id; values = record { field = field; values = values } ∷ [] }

-- the third document is refused, since 128 is no byte
its_rows_by_shard : rows_of_script ≡ Ok (
    (row (0 ∷ []) 0 (codes "a") 1 (Whole (negsuc 127) ∷ Whole (pos 5) ∷ Whole (pos 5) ∷ [])
    ∷ row (0 ∷ 0 ∷ 0 ∷ []) 1 (codes "a") 0 (Word (codes "k") ∷ [])
    ∷ row (0 ∷ 0 ∷ 1 ∷ []) 1 (codes "a") 0 (Word (codes "mm") ∷ []) ∷ [])
    ∷ (row (0 ∷ []) 0 (codes "b") 1 (Whole (pos 127) ∷ []) ∷ []) ∷ [])
unfolding computing
its_rows_by_shard = refl

it_is_what_an_index_is_built_from : IfOk (loaded (lines script)) IsIndexed
it_is_what_an_index_is_built_from = loaded_indexed (lines script)
