-- An answer to terms of some rows of each shard: its counts are those of all keys.
use Rattle.std.specs.Prelude.{◌≡◌, ℕ, ◌+◌, true, List, map, sum_by, Some}
use Rattle.std.proofs.Common.{◌∙◌, subst}
use Rattle.agg_model.specs.declared.aggregation.Kind.TheVariants as kind
use Rattle.agg_model.specs.declared.aggregation.Agg.{Agg, Agg', out-Agg}
use Rattle.agg_evaluation.specs.Folds.{fold_aggs}
use Rattle.agg_evaluation.specs.Rows.{PlacedRow, roots}
use Rattle.agg_evaluation.specs.Groups.{total_key_count}
use Rattle.agg_evaluation.specs.Shard.{shard_node, collector_of}
use Rattle.agg_evaluation.specs.Whole.{parts, whole_by, shape_of}
use Rattle.list_laws.proofs.Lists.{sum_by-map}
use Rattle.agg_spec.specs.Final.{finisher_of}
use Rattle.count_laws.specs.TermsSums.{returned_count, other_count, below_minimum_count, minimum_of_terms, whole_of_rows, answer_of_rows}
use Rattle.count_laws.proofs.SumLaws.{terms_answer-sums}
use Rattle.count_laws.proofs.TermsTotals.{tree_count, whole_by-count, trimmed_node-count}
use Rattle.agg_evaluation.proofs.Computing.{computing}

-- how many keys the rows of all shards have
abbrev pub all_key_count : Agg → List (List PlacedRow × List PlacedRow) → ℕ
all_key_count a shards = sum_by (λ s. total_key_count s.0 (out-Agg a).kind s.1) shards

abbrev AddsUp : Agg → ℕ → List (List PlacedRow × List PlacedRow) → Type 0
AddsUp a min shards =
    returned_count (answer_of_rows a shards) + other_count (answer_of_rows a shards) + below_minimum_count min (parts (whole_of_rows a shards)).buckets ≡ all_key_count a shards

pub answer_of_rows-adds_up : (a : Agg) (min : ℕ) (shards : List (List PlacedRow × List PlacedRow)) → minimum_of_terms (out-Agg a).kind ≡ Some min → AddsUp a min shards
unfolding computing
answer_of_rows-adds_up (Agg' name (kind.Terms field size shard_size min_doc_count order include exclude missing show_error) n children) min shards e =
    let k = kind.Terms field size shard_size min_doc_count order include exclude missing show_error in
    let a = Agg' name k n children in
    let collectors = λ (all : List PlacedRow). fold_aggs (collector_of true all (roots all)) children in
    let sums : AddsUp a min_doc_count shards =
    (terms_answer-sums name (fold_aggs finisher_of children) size min_doc_count order (parts (whole_of_rows a shards))
    ∙ whole_by-count (fold_aggs (λ a. whole_by a.children a.kind (shape_of a.kind)) children) k (map (λ s. shard_node s.0 a s.1) shards)
    ∙ sum_by-map (λ t. tree_count (parts t)) (λ s. shard_node s.0 a s.1) shards
    ∙ (λ i. sum_by (λ s. trimmed_node-count (map (λ c. c.kind) (collectors s.0)) shard_size order true s.0 (roots s.0) k (collectors s.0) s.1 i) shards)) in
    subst (λ m. AddsUp a m shards) (let same : min_doc_count ≡ min = cc in same) sums
answer_of_rows-adds_up (Agg' name (kind.Histogram field interval offset min_doc_count extended hard keyed order missing) n children) min shards e = absurd (let no : ⊥ = cc in no)
answer_of_rows-adds_up (Agg' name (kind.DateHistogram field period zone min_doc_count extended hard keyed order missing) n children) min shards e = absurd (let no : ⊥ = cc in no)
answer_of_rows-adds_up (Agg' name (kind.Filters names filters other) n children) min shards e = absurd (let no : ⊥ = cc in no)
answer_of_rows-adds_up (Agg' name (kind.Filter query) n children) min shards e = absurd (let no : ⊥ = cc in no)
answer_of_rows-adds_up (Agg' name (kind.Missing field) n children) min shards e = absurd (let no : ⊥ = cc in no)
answer_of_rows-adds_up (Agg' name kind.Global n children) min shards e = absurd (let no : ⊥ = cc in no)
answer_of_rows-adds_up (Agg' name (kind.Nested context) n children) min shards e = absurd (let no : ⊥ = cc in no)
answer_of_rows-adds_up (Agg' name (kind.ReverseNested context) n children) min shards e = absurd (let no : ⊥ = cc in no)
answer_of_rows-adds_up (Agg' name (kind.Composite sources size after) n children) min shards e = absurd (let no : ⊥ = cc in no)
answer_of_rows-adds_up (Agg' name (kind.Sum field missing) n children) min shards e = absurd (let no : ⊥ = cc in no)
answer_of_rows-adds_up (Agg' name (kind.Min field missing) n children) min shards e = absurd (let no : ⊥ = cc in no)
answer_of_rows-adds_up (Agg' name (kind.Max field missing) n children) min shards e = absurd (let no : ⊥ = cc in no)
answer_of_rows-adds_up (Agg' name (kind.Avg field missing) n children) min shards e = absurd (let no : ⊥ = cc in no)
answer_of_rows-adds_up (Agg' name (kind.ValueCount field missing) n children) min shards e = absurd (let no : ⊥ = cc in no)
