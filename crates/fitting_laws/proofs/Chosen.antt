-- Any shards of an index, each once and in any order, are chosen ones.
use Rattle.std.specs.Prelude.{◌≡◌, ℕ, List, ◌++◌, length, sum_by, IsPermutation}
use Rattle.std.proofs.Common.{arith, length-append}
use Rattle.std.proofs.lemmas.List.FromFn.{length-map-range_with_len}
use Rattle.std.proofs.lemmas.List.Sorted.{sum_by-IsPermutation, length_permutation}
use Rattle.std.proofs.lemmas.List.Sums.{sum_by-append}
use Rattle.agg_model.specs.declared.mapping.Mapping.{Mapping}
use Rattle.agg_model.specs.declared.row.Document.{Document}
use Rattle.agg_reading.specs.Script.{Loaded}
use Rattle.agg_reading.specs.Store.{Store, weight, shards_of}
use Rattle.agg_evaluation.specs.DocumentFits.{all_fit}
use Rattle.fitting_laws.specs.Stores.{IsIndexed}
use Rattle.fitting_laws.specs.Wholes.{AreChosen}
use Rattle.fitting_laws.proofs.Measures.{missing_one, no_miss, none_left}
use Rattle.agg_reading.proofs.ShardWeights.{shards_weigh}
use Rattle.fitting_laws.proofs.Stores.{shards_fit}

pub any_chosen : (m : Mapping) (shards chosen others : List (List Document)) → AreChosen m shards → IsPermutation shards (chosen ++ others) → AreChosen m chosen
any_chosen m shards chosen others h moved =
    let miss = λ (ds : List Document). missing_one (all_fit m ds) in
    let none = no_miss (all_fit m) shards h.fit in
    let same = sum_by-IsPermutation miss shards (chosen ++ others) moved in
    let split = sum_by-append miss chosen others in
    let lengths = length_permutation shards (chosen ++ others) moved in
    let both = length-append chosen others in
    let few = h.few in
    let weights = sum_by-IsPermutation (sum_by weight) shards (chosen ++ others) moved in
    let added = sum_by-append (sum_by weight) chosen others in
    let light = h.light in
    record {
      fit = none_left (all_fit m) chosen (omega (arith, none, same, split));
      few = omega (arith, lengths, both, few);
      light = omega (arith, weights, added, light);
    }

lengths_of : (store : Store) (n : ℕ) → length (shards_of store n) ≡ n
unfolding shards_of
lengths_of store n = length-map-range_with_len _ 0 n

-- all of them
pub index_chosen : (l : Loaded) → IsIndexed l → AreChosen l.index.mapping (shards_of l.store l.index.shards)
index_chosen l h =
    let n = l.index.shards in
    let all = shards_weigh l.store n h.some in
    let many = lengths_of l.store n in
    let light = h.fitting.1 in
    let most = h.at_most in
    record { fit = shards_fit l.index.mapping l.store n h.fitting.0; few = omega (arith, many, most); light = omega (arith, all, light) }
