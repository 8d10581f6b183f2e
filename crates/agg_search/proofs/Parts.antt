-- Results of some shards of an index, which are parts of a merge.
use Rattle.std.specs.Prelude.{◌≡◌, refl, ℕ, ◌&&◌, true, List, [], ◌∷◌, ◌++◌, length, map, IsTrue}
use Rattle.std.specs.List.{list_all, range_with_len}
use Rattle.std.proofs.Common.{◌∙◌, sym, ap, subst, append_assoc}
use Rattle.std.proofs.lemmas.List.{map-append}
use Rattle.list_laws.proofs.Booleans.{true_is}
use Rattle.list_laws.proofs.Lists.{joined, map-map, map-apart}
use Rattle.agg_evaluation.proofs.SearchLaws.{whole-is_result, whole-unites}
use Rattle.agg_evaluation.proofs.TreeLaws.{shard_answer-is_result}
use Rattle.agg_evaluation.specs.SearchFits.{search_fits}
use Rattle.agg_evaluation.specs.Shard.{shard_answer}
use Rattle.agg_evaluation.specs.Trees.{is_result_of, numbers_fit}
use Rattle.agg_evaluation.specs.Whole.{whole}
use Rattle.agg_model.specs.declared.aggregation.Search.{Search}
use Rattle.agg_model.specs.declared.outcome.Failure.{Failure}
use Rattle.agg_spec.specs.Index.{rows_in}
use Rattle.agg_spec.specs.Outcome.{shard_answers, whole_of}
use Rattle.batch_reduce.specs.Parts.{AreParts}
use Rattle.shard_columns.specs.declared.index.Index.{Index as ShardIndex}
use Rattle.list_laws.specs.Among.{AreAmong}
use Rattle.list_laws.proofs.Among.{among-part, sum-filter}
use Rattle.fitting_laws.specs.Indexes.{index_of}
use Rattle.fitting_laws.proofs.SomeShards.{fit-some}
use Rattle.agg_search.proofs.Numbers.{left_before}

pub among-left : (fs : List Failure) (n : ℕ) → AreAmong n (left_before fs n)
among-left fs n f = sum-filter f _ (range_with_len 0 n)

module _ (index : ShardIndex) (search : Search) (made : IsTrue (search_fits index.mapping search)) where
  all-results : (ns : List ℕ) → list_all (is_result_of search) (shard_answers (index_of index) search ns) ≡ true
  all-results [] = refl
  all-results (n ∷ ns) =
      ap (λ b. b && list_all (is_result_of search) (shard_answers (index_of index) search ns)) (true_is _ (shard_answer-is_result search (rows_in (index_of index) n))) ∙ all-results ns

  -- the results of a batch
  pub batch-parts : (ns : List ℕ) → AreAmong (length index.shards) ns → AreParts search (shard_answers (index_of index) search ns)
  batch-parts ns among = record {
    results = all-results ns;
    fit = λ before some after e.
        (let f = λ (shard : ℕ). shard_answer search (rows_in (index_of index) shard) in
        let two = map-apart f ns (before ++ some) after e in
        let one = map-apart f two.0 before some (sym two.1.1.1.0) in
        let within = subst (AreAmong (length index.shards)) (two.1.1.0 ∙ ap (λ xs. xs ++ two.1.0) one.1.1.0) among in
        subst (λ ps. IsTrue (numbers_fit (whole search ps))) (sym one.1.1.1.1)
        (fit-some index search made one.1.0 (among-part (length index.shards) one.0 one.1.0 two.1.0 within)));
  }

  wholes-results : (groups : List (List ℕ)) → list_all (is_result_of search) (map (whole_of (index_of index) search) groups) ≡ true
  wholes-results [] = refl
  wholes-results (g ∷ gs) =
      ap (λ b. b && list_all (is_result_of search) (map (whole_of (index_of index) search) gs)) (true_is _ (whole-is_result search (shard_answers (index_of index) search g))) ∙ wholes-results gs

  joined-answers : (groups : List (List ℕ)) → joined (map (shard_answers (index_of index) search) groups) ≡ shard_answers (index_of index) search (joined groups)
  joined-answers [] = refl
  joined-answers (g ∷ gs) =
      ap (λ ps. shard_answers (index_of index) search g ++ ps) (joined-answers gs)
      ∙ sym (map-append (λ (shard : ℕ). shard_answer search (rows_in (index_of index) shard)) g (joined gs))

  -- the whole of wholes
  pub whole-joined : (groups : List (List ℕ)) → whole search (map (whole_of (index_of index) search) groups) ≡ whole_of (index_of index) search (joined groups)
  whole-joined groups =
      ap (whole search) (sym (map-map (whole search) (shard_answers (index_of index) search) groups))
      ∙ whole-unites search (map (shard_answers (index_of index) search) groups)
      ∙ ap (whole search) (joined-answers groups)

  joined-append : (a b : List (List ℕ)) → joined (a ++ b) ≡ joined a ++ joined b
  joined-append [] b = refl
  joined-append (x ∷ xs) b = ap (λ ns. x ++ ns) (joined-append xs b) ∙ sym (append_assoc x (joined xs) (joined b))

  -- the results of all batches
  pub result-parts : (groups : List (List ℕ)) → AreAmong (length index.shards) (joined groups) → AreParts search (map (whole_of (index_of index) search) groups)
  result-parts groups among = record {
    results = wholes-results groups;
    fit = λ before some after e.
        (let two = map-apart (whole_of (index_of index) search) groups (before ++ some) after e in
        let one = map-apart (whole_of (index_of index) search) two.0 before some (sym two.1.1.1.0) in
        let parts : groups ≡ (one.0 ++ one.1.0) ++ two.1.0 = two.1.1.0 ∙ ap (λ xs. xs ++ two.1.0) one.1.1.0 in
        let flat : joined groups ≡ (joined one.0 ++ joined one.1.0) ++ joined two.1.0 =
        ap joined parts ∙ joined-append (one.0 ++ one.1.0) two.1.0 ∙ ap (λ xs. xs ++ joined two.1.0) (joined-append one.0 one.1.0) in
        subst (λ ps. IsTrue (numbers_fit (whole search ps))) (sym one.1.1.1.1)
        (subst (λ p. IsTrue (numbers_fit p)) (sym (whole-joined one.1.0))
        (fit-some index search made (joined one.1.0) (among-part (length index.shards) (joined one.0) (joined one.1.0) (joined two.1.0) (subst (AreAmong (length index.shards)) flat among)))));
  }
