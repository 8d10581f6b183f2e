-- The hits of some shards are fewer than 2^32.
use Rattle.std.specs.Prelude.{◌≡◌, refl, ℕ, ◌^◌, ◌<◌, ◌≤◌, List, [], ◌∷◌, length, sum_by}
use Rattle.std.proofs.Common.{arith}
use Rattle.std.proofs.lemmas.List.Sums.{sum_by-cons}
use Rattle.agg_model.specs.declared.aggregation.Search.{Search}
use Rattle.agg_model.specs.declared.partial.Partial.{Partial}
use Rattle.agg_model.specs.declared.row.Document.{Document}
use Rattle.agg_model.specs.declared.mapping.Mapping.{Mapping}
use Rattle.agg_evaluation.specs.Matching.{matches, matched_roots}
use Rattle.agg_evaluation.specs.Rows.{PlacedRow, roots, rows_of_documents}
use Rattle.agg_evaluation.specs.Shard.{shard_answer}
use Rattle.agg_evaluation.specs.Whole.{whole}
use Rattle.list_laws.proofs.Sums.{sum_by-at_most}
use Rattle.agg_reading.specs.Store.{weight}
use Rattle.agg_evaluation.specs.RowsWeight.{row_weight, rows_weight}
use Rattle.agg_evaluation.specs.Counted.{IsCounted}
use Rattle.fitting_laws.specs.Wholes.{answers_of, AreChosen}
use Rattle.fitting_laws.proofs.Counting.{filter_counted, roots_counted}
use Rattle.fitting_laws.proofs.Weights.{weights_agree}

pub length_is : (rows : List PlacedRow) → length rows ≡ sum_by (λ (r : PlacedRow). 1) rows
length_is [] = refl
length_is (r ∷ rows) = let cons = sum_by-cons (λ (r : PlacedRow). 1) r rows in omega (arith, cons, length_is rows)

-- counted rows are no more than the shard weighs
pub counted_light : (all : List PlacedRow) (context : ℕ) (rows : List PlacedRow) → IsCounted all context rows → length rows ≤ rows_weight all
counted_light all context rows h =
    let a = h.within (λ (r : PlacedRow). 1) in
    let b = sum_by-at_most (λ (r : PlacedRow). 1) row_weight all (λ r. omega arith) in
    omega (arith, length_is rows, a, b)

hits_light : (search : Search) (shards : List (List Document)) → sum_by (λ (t : Partial). t.hits) (answers_of search shards) ≤ sum_by (sum_by weight) shards
hits_light search [] = omega arith
hits_light search (ds ∷ rest) =
    let all = rows_of_documents ds in
    let counted = filter_counted all 0 (roots all) (matches all search.query) (roots_counted all) in
    let a = counted_light all 0 (matched_roots all search.query) counted in
    let b = weights_agree ds in
    let first = sum_by-cons (sum_by weight) ds rest in
    let answers = answers_of search (ds ∷ rest) in
    let second = sum_by-cons (λ (t : Partial). t.hits) (shard_answer search all) (answers_of search rest) in
    omega (arith, a, b, first, second, hits_light search rest)

pub hits_fit : (m : Mapping) (search : Search) (shards : List (List Document)) → AreChosen m shards → (whole search (answers_of search shards)).hits < 2 ^ 32
hits_fit m search shards h = omega (arith, hits_light search shards, h.light)
