-- The whole of the answers of some shards of an index has numbers that fit, and can be finished.
use Rattle.std.specs.Prelude.{◌≡◌, refl, ℕ, zero, suc, ◌+◌, ◌&&◌, Bool, true, List, [], ◌∷◌, length, map, sum_by, slice_index_or, IsTrue}
use Rattle.std.specs.List.{list_all, range_with_len}
use Rattle.std.proofs.Common.{◌∙◌, sym, ap, subst, arith}
use Rattle.std.proofs.Math.Bool.{Bool-set}
use Rattle.std.proofs.Math.Logic.{∥∥₁_elim, ∥∥₁_map, ∥∥₁_prop}
use Rattle.std.proofs.lemmas.List.{length-map}
use Rattle.std.proofs.lemmas.List.Sums.{sum_by-cons}
use Rattle.agg_evaluation.specs.DocumentFits.{all_fit}
use Rattle.agg_evaluation.specs.Finishable.{can_finish}
use Rattle.agg_evaluation.specs.Rows.{rows_of_documents}
use Rattle.agg_evaluation.specs.RowsWeight.{rows_weight}
use Rattle.agg_evaluation.specs.SearchFits.{search_fits}
use Rattle.agg_evaluation.specs.Shard.{shard_answer}
use Rattle.agg_evaluation.specs.Trees.{numbers_fit}
use Rattle.agg_evaluation.specs.Whole.{whole}
use Rattle.agg_model.specs.declared.aggregation.Search.{Search}
use Rattle.agg_model.specs.declared.mapping.Mapping.{Mapping}
use Rattle.agg_model.specs.declared.row.Document.{Document}
use Rattle.agg_reading.specs.Store.{weight}
use Rattle.agg_spec.specs.Index.{Index}
use Rattle.agg_spec.specs.Outcome.{shard_answers, whole_of}
use Rattle.fitting_laws.proofs.Weights as weights
use Rattle.fitting_laws.proofs.Wholes.{wholes_fit}
use Rattle.fitting_laws.proofs.WholesFinish.{wholes_finish}
use Rattle.fitting_laws.specs.Wholes.{AreChosen, answers_of}
use Rattle.shard_columns.proofs.Indexing.{fits-at}
use Rattle.shard_columns.specs.Built.{IsBuiltFrom}
use Rattle.shard_columns.specs.Columns.{Columns}
use Rattle.shard_columns.specs.Index.{AreShardsOf, rows_by_shard, shards_weight}
use Rattle.shard_columns.specs.declared.index.Index.{Index as ShardIndex}
use Rattle.list_laws.specs.Among.{AreAmong}
use Rattle.fitting_laws.specs.Indexes.{index_of}

-- the documents of the shards
pub record AreDocuments (m : Mapping) (shards : List Columns) (documents : List (List Document)) : Type 0 where
  pub rows : rows_by_shard shards ≡ map rows_of_documents documents
  pub fit : list_all (all_fit m) documents ≡ true

documents-of : (m : Mapping) (shards : List Columns) → AreShardsOf m shards → ∥ ((documents : List (List Document)) × AreDocuments m shards documents) ∥₁
documents-of m [] are = ∣ ([], record { rows = refl; fit = refl }) ∣₁
documents-of m (s ∷ ss) are = ∥∥₁_elim are.0 ∥∥₁_prop (λ (one : (d : List Document) × IsBuiltFrom m d s). ∥∥₁_map (documents-of m ss are.1) (λ (more : (documents : List (List Document)) × AreDocuments m ss documents). (
  one.0 ∷ more.0,
  (record {
    rows = ap (λ (c : Columns). c.rows ∷ rows_by_shard ss) one.1.columns_are ∙ ap (λ rs. rows_of_documents one.0 ∷ rs) more.1.rows;
    fit = both (all_fit m one.0) (list_all (all_fit m) more.0) one.1.fit more.1.fit;
  }),
)))
  where
    both : (a b : Bool) → a ≡ true → b ≡ true → (a && b) ≡ true
    both a b ea eb = ap (λ x. x && b) ea ∙ eb

abbrev shards_weight_of : List (List Document) → ℕ
shards_weight_of documents = sum_by (λ (l : List Document). rows_weight (rows_of_documents l)) documents

abbrev at : List (List Document) → ℕ → List Document
at documents n = slice_index_or documents n []

rows-at : (documents : List (List Document)) (n : ℕ) → slice_index_or (map rows_of_documents documents) n [] ≡ rows_of_documents (at documents n)
rows-at [] n = refl
rows-at (d ∷ ds) zero = refl
rows-at (d ∷ ds) (suc n) = rows-at ds n

sum-map : (f : List Document → ℕ) (documents : List (List Document)) (ns : List ℕ) → sum_by f (map (at documents) ns) ≡ sum_by (λ n. f (at documents n)) ns
sum-map f documents [] = refl
sum-map f documents (n ∷ ns) =
    sum_by-cons f (at documents n) (map (at documents) ns)
    ∙ ap (λ k. f (at documents n) + k) (sum-map f documents ns)
    ∙ sym (sum_by-cons (λ n. f (at documents n)) n ns)

-- all of them, one after another
sum-from : (f : List Document → ℕ) (d : List Document) (documents : List (List Document)) (a m : ℕ)
    → sum_by (λ n. f (at (d ∷ documents) n)) (range_with_len (a + 1) m) ≡ sum_by (λ n. f (at documents n)) (range_with_len a m)
sum-from f d documents a zero = refl
sum-from f d documents a (suc m) =
    sum_by-cons (λ n. f (at (d ∷ documents) n)) (a + 1) (range_with_len (a + 1 + 1) m)
    ∙ ap (λ k. f (at (d ∷ documents) (a + 1)) + k) (sum-from f d documents (a + 1) m)
    ∙ ap (λ k. f k + sum_by (λ n. f (at documents n)) (range_with_len (a + 1) m)) (ap (at (d ∷ documents)) (let e : a + 1 ≡ suc a = omega arith in e))
    ∙ sym (sum_by-cons (λ n. f (at documents n)) a (range_with_len (a + 1) m))

sum-range : (f : List Document → ℕ) (documents : List (List Document)) → sum_by (λ n. f (at documents n)) (range_with_len 0 (length documents)) ≡ sum_by f documents
sum-range f [] = refl
sum-range f (d ∷ ds) =
    sum_by-cons (λ n. f (at (d ∷ ds) n)) 0 (range_with_len (0 + 1) (length ds))
    ∙ ap (λ k. f d + k) (sum-from f d ds 0 (length ds) ∙ sum-range f ds)
    ∙ sym (sum_by-cons f d ds)

ones : (a m : ℕ) → sum_by (λ (n : ℕ). 1) (range_with_len a m) ≡ m
ones a zero = refl
ones a (suc m) = let all = sum_by-cons (λ (n : ℕ). 1) a (range_with_len (a + 1) m) in let rest = ones (a + 1) m in omega (arith, all, rest)

ones-length : (ns : List ℕ) → sum_by (λ (n : ℕ). 1) ns ≡ length ns
ones-length [] = refl
ones-length (n ∷ ns) = let all = sum_by-cons (λ (n : ℕ). 1) n ns in let rest = ones-length ns in omega (arith, all, rest)

all-at : (m : Mapping) (documents : List (List Document)) (ns : List ℕ) → list_all (all_fit m) documents ≡ true → list_all (all_fit m) (map (at documents) ns) ≡ true
all-at m documents [] fit = refl
all-at m documents (n ∷ ns) fit = ap (λ b. b && list_all (all_fit m) (map (at documents) ns)) (fits-at m documents n fit) ∙ all-at m documents ns fit

weight-same : (documents : List (List Document)) → shards_weight_of documents ≡ sum_by (sum_by weight) documents
weight-same [] = refl
weight-same (d ∷ ds) =
    sum_by-cons (λ (l : List Document). rows_weight (rows_of_documents l)) d ds
    ∙ ap (λ k. k + shards_weight_of ds) (weights.weights_agree d)
    ∙ ap (λ k. sum_by weight d + k) (weight-same ds)
    ∙ sym (sum_by-cons (sum_by weight) d ds)

weigh-rows : (shards : List Columns) → shards_weight shards ≡ sum_by rows_weight (rows_by_shard shards)
weigh-rows [] = refl
weigh-rows (s ∷ ss) =
    sum_by-cons (λ (c : Columns). rows_weight c.rows) s ss
    ∙ ap (λ k. rows_weight s.rows + k) (weigh-rows ss)
    ∙ sym (sum_by-cons rows_weight s.rows (rows_by_shard ss))

weigh-documents : (documents : List (List Document)) → sum_by rows_weight (map rows_of_documents documents) ≡ shards_weight_of documents
weigh-documents [] = refl
weigh-documents (d ∷ ds) =
    sum_by-cons rows_weight (rows_of_documents d) (map rows_of_documents ds)
    ∙ ap (λ k. rows_weight (rows_of_documents d) + k) (weigh-documents ds)
    ∙ sym (sum_by-cons (λ (l : List Document). rows_weight (rows_of_documents l)) d ds)

length-rows : (shards : List Columns) (documents : List (List Document)) → rows_by_shard shards ≡ map rows_of_documents documents → length shards ≡ length documents
length-rows shards documents e = sym (length-map shards (λ (s : Columns). s.rows)) ∙ ap length e ∙ length-map documents rows_of_documents

answers-same : (index : Index) (search : Search) (documents : List (List Document)) (ns : List ℕ) → index.shards ≡ map rows_of_documents documents
    → shard_answers index search ns ≡ answers_of search (map (at documents) ns)
answers-same index search documents [] e = refl
answers-same index search documents (n ∷ ns) e =
    ap (λ rs. shard_answer search (slice_index_or rs n []) ∷ shard_answers index search ns) e
    ∙ ap (λ rs. shard_answer search rs ∷ shard_answers index search ns) (rows-at documents n)
    ∙ ap (λ ps. shard_answer search (rows_of_documents (at documents n)) ∷ ps) (answers-same index search documents ns e)

module _ (index : ShardIndex) (search : Search) (made : IsTrue (search_fits index.mapping search)) where
  abbrev shards : List Columns
  shards = index.shards

  abbrev m : Mapping
  m = index.mapping

  chosen : (documents : List (List Document)) → AreDocuments m shards documents → (ns : List ℕ) → AreAmong (length shards) ns → AreChosen m (map (at documents) ns)
  chosen documents are ns among =
      let size = length-rows shards documents are.rows in
      let count = among (λ (n : ℕ). 1) in
      let all = ones 0 (length shards) in
      let some = ones-length ns in
      let few = index.few_shards in
      let length_is = length-map ns (at documents) in
      let weight_all = among (λ n. sum_by weight (at documents n)) in
      let range = ap (λ k. sum_by (λ n. sum_by weight (at documents n)) (range_with_len 0 k)) size ∙ sum-range (sum_by weight) documents in
      let some_weight = sum-map (sum_by weight) documents ns in
      let total = weigh-rows shards ∙ ap (sum_by rows_weight) are.rows ∙ weigh-documents documents ∙ weight-same documents in
      let light = index.light in
      record {
        fit = true_is-fit (all-at m documents ns are.fit);
        few = omega (arith, count, all, some, few, length_is);
        light = omega (arith, weight_all, range, some_weight, total, light);
      }
    where
      true_is-fit : {b : Bool} → b ≡ true → IsTrue b
      true_is-fit {b} e = e

  pub fit-some : (ns : List ℕ) → AreAmong (length shards) ns → IsTrue (numbers_fit (whole_of (index_of index) search ns))
  fit-some ns among =
      ∥∥₁_elim index.built (Bool-set _ _) (λ (are : AreShardsOf m shards). ∥∥₁_elim (documents-of m shards are) (Bool-set _ _) (λ (found : (documents : List (List Document)) × AreDocuments m shards documents).
      subst (λ ps. IsTrue (numbers_fit (whole search ps))) (sym (answers-same (index_of index) search found.0 ns found.1.rows))
      (wholes_fit search m index.paths (map (at found.0) ns) made (chosen found.0 found.1 ns among))))

  pub finish-some : (ns : List ℕ) → AreAmong (length shards) ns → IsTrue (can_finish search (whole_of (index_of index) search ns))
  finish-some ns among =
      ∥∥₁_elim index.built (Bool-set _ _) (λ (are : AreShardsOf m shards). ∥∥₁_elim (documents-of m shards are) (Bool-set _ _) (λ (found : (documents : List (List Document)) × AreDocuments m shards documents).
      subst (λ ps. IsTrue (can_finish search (whole search ps))) (sym (answers-same (index_of index) search found.0 ns found.1.rows))
      (wholes_finish search m index.paths (map (at found.0) ns) made (chosen found.0 found.1 ns among))))
