-- An index and a search that are read from bytes: all that the laws of wholes ask for is there, and their whole is computed.
use Rattle.std.specs.Prelude.{◌≡◌, refl, ℕ, List, [], ◌∷◌, ◌++◌, map, length, sum_by, Bool, true, false, ◌&&◌, nat_le, nat_lt, Ok, Err, codes}
use Rattle.std.specs.List.{list_all}
use Rattle.agg_model.specs.Contexts.{parents_before}
use Rattle.agg_model.specs.Lines.{lines}
use Rattle.agg_model.specs.declared.aggregation.Search.{Search}
use Rattle.agg_model.specs.declared.limits.TheConstants.{MAX_SHARDS, WEIGHT_LIMIT}
use Rattle.agg_model.specs.declared.mapping.Mapping.{Mapping}
use Rattle.agg_model.specs.declared.row.Document.{Document}
use Rattle.agg_reading.specs.Reading.{Reading, ◌>>=◌}
use Rattle.agg_reading.specs.Request.{search_of}
use Rattle.agg_reading.specs.Script.{Loaded, loaded}
use Rattle.agg_reading.specs.Store.{weight, shards_of}
use Rattle.agg_evaluation.specs.DocumentFits.{all_fit}
use Rattle.agg_evaluation.specs.Finishable.{can_finish}
use Rattle.agg_evaluation.specs.SearchFits.{search_fits}
use Rattle.agg_evaluation.specs.Trees.{numbers_fit}
use Rattle.agg_evaluation.specs.Whole.{whole}
use Rattle.agg_evaluation.proofs.Computing as evaluation
use Rattle.agg_reading.proofs.Computing as reading
use Rattle.fitting_laws.specs.Wholes.{answers_of}

abbrev lined : List (List ℕ) → List ℕ
lined [] = []
lined (l ∷ ls) = l ++ 10 ∷ lined ls

-- two shards, a long and a keyword at the root, and a long in a nested path
abbrev script : List (List ℕ)
script =
    codes "{\"index\":\"i\",\"mappings\":{\"properties\":{\"c\":{\"type\":\"nested\",\"properties\":{\"n\":{\"type\":\"long\"}}},\"n\":{\"type\":\"long\"},\"t\":{\"type\":\"keyword\"}}},\"settings\":{\"number_of_shards\":2}}"
    ∷ []
    ∷ codes "{\"index\":{\"_id\":\"1\"}}" ∷ codes "{\"t\":[\"b\",\"a\"],\"n\":-7,\"c\":[{\"n\":3},{\"n\":4}]}"
    ∷ codes "{\"index\":{\"_id\":\"2\"}}" ∷ codes "{\"t\":\"a\",\"n\":9223372036854775807}"
    ∷ codes "{\"index\":{\"_id\":\"3\"}}" ∷ codes "{\"n\":5}"
    ∷ [] ∷ []

abbrev body : List ℕ
body = codes "{\"aggs\":{\"t\":{\"terms\":{\"field\":\"t\"},\"aggs\":{\"s\":{\"sum\":{\"field\":\"n\"}}}},\"c\":{\"nested\":{\"path\":\"c\"},\"aggs\":{\"h\":{\"histogram\":{\"field\":\"c.n\",\"interval\":2}}}}}}"

-- whether the shards are chosen ones of a mapping whose paths stand in order
abbrev are_chosen : Mapping → List (List Document) → Bool
are_chosen m shards = parents_before m && (list_all (all_fit m) shards && (nat_le (length shards) MAX_SHARDS && nat_lt (sum_by (sum_by weight) shards) WEIGHT_LIMIT))

-- whether the search that is read fits, and what its whole comes to
abbrev finishes : Mapping → List (List Document) → Reading Search → Bool
finishes m shards (Ok search) = search_fits m search && (numbers_fit (whole search (answers_of search shards)) && can_finish search (whole search (answers_of search shards)))
finishes m shards (Err e) = false

abbrev shards : Loaded → List (List Document)
shards l = shards_of l.store l.index.shards

documents_stand_in_both_shards : (loaded (lines (lined script)) >>= λ l. Ok (map length (shards l))) ≡ Ok (2 ∷ 1 ∷ [])
unfolding reading.computing
documents_stand_in_both_shards = refl

its_shards_are_chosen : (loaded (lines (lined script)) >>= λ l. Ok (are_chosen l.index.mapping (shards l))) ≡ Ok true
unfolding reading.computing
its_shards_are_chosen = refl

its_whole_can_be_finished : (loaded (lines (lined script)) >>= λ l. Ok (finishes l.index.mapping (shards l) (search_of l.index.mapping body))) ≡ Ok true
unfolding reading.computing evaluation.computing
its_whole_can_be_finished = refl
