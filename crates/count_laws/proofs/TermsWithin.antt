-- An answer to terms by descending count: each returned term is within its error, and each term within that of the answer.
use Rattle.std.specs.Prelude.{◌≡◌, ◌≤◌, ℕ, pos, ◌+◌, ◌-◌, true, false, List, [], ◌∷◌, map, length, take, sum_by, drop, Some}
use Rattle.std.specs.List.{AllByRecursion}
use Rattle.std.proofs.Common.{sym, ap, subst, arith}
use Rattle.agg_model.specs.declared.key.Key.{Key}
use Rattle.agg_model.specs.declared.partial.Bucket.{Bucket}
use Rattle.agg_model.specs.declared.answer.BucketAnswer.{BucketAnswer, out-BucketAnswer, out-roll-BucketAnswer}
use Rattle.agg_model.specs.declared.answer.BucketAnswer.TheOpen.{NodeAnswer-F, BucketAnswer-F}
use Rattle.agg_model.specs.declared.answer.NodeAnswer.{NodeAnswer, out-NodeAnswer, out-roll-NodeAnswer}
use Rattle.agg_model.specs.declared.aggregation.Order.{Order}
use Rattle.agg_model.specs.declared.aggregation.OrderBy.TheVariants.{Count}
use Rattle.agg_model.specs.declared.aggregation.Kind.TheVariants as kind
use Rattle.agg_model.specs.declared.aggregation.Agg.{Agg, Agg', out-Agg}
use Rattle.agg_evaluation.specs.Folds.{fold_aggs}
use Rattle.agg_evaluation.specs.Rows.{PlacedRow, roots}
use Rattle.agg_evaluation.specs.Groups.{group}
use Rattle.agg_evaluation.specs.KeyOrder.{has_key}
use Rattle.agg_evaluation.specs.Orders.{bucket_cmp, bucket_count, bucket_key}
use Rattle.list_laws.specs.Sorting.{sorted}
use Rattle.agg_evaluation.specs.Shard.{shard_node, collector_of}
use Rattle.agg_evaluation.specs.Whole.{Parts, parts, whole_by, shape_of}
use Rattle.agg_spec.specs.Filling.{frequent}
use Rattle.agg_spec.specs.Final.{Finisher, finish_each, finish_bucket, no_metric, terms_answer, finisher_of}
use Rattle.count_laws.specs.TermsSums.{answer_of_rows, whole_of_rows}
use Rattle.count_laws.specs.TermsErrors.{IsBoundOfAll, IsTermsByCount, IsWithinError}
use Rattle.count_laws.proofs.ShardBounds.{trimmed_node-bounds}
use Rattle.list_laws.proofs.Each.{each-filter, each-take, each-sorted, each-mapped}
use Rattle.count_laws.proofs.TermsBounds.{Within, whole_by-lost, whole_by-within}
use Rattle.agg_evaluation.proofs.Computing.{computing}

module _ (truth : Key → ℕ) (name : List ℕ) (children : List Finisher) (size min_doc_count : ℕ) (later : List Order) (p : Parts) where
  abbrev order : List Order
  order = record { by = Count; descending = true } ∷ later

  abbrev kept : List Bucket
  kept = take size (sorted (bucket_cmp (map (λ c. c.kind) children) order) (frequent min_doc_count p.buckets))

  abbrev finished : Bucket → BucketAnswer
  finished b = finish_bucket children (Some (pos (p.error - b.covered))) b

  finished-within : (b : Bucket) → Within truth p.error b → IsWithinError truth (finished b)
  finished-within b w =
      let level : BucketAnswer-F BucketAnswer NodeAnswer = record { key = b.key; count = b.count; error = Some (pos (p.error - b.covered)); children = finish_each children b.children } in
      let is = out-roll-BucketAnswer level in
      (record {
        error = p.error - b.covered;
        given = ap (λ (l : BucketAnswer-F BucketAnswer NodeAnswer). l.error) is;
        at_least = subst (λ (l : BucketAnswer-F BucketAnswer NodeAnswer). l.count ≤ truth l.key) (sym is) w.low;
        at_most = subst (λ (l : BucketAnswer-F BucketAnswer NodeAnswer). truth l.key ≤ l.count + (p.error - b.covered)) (sym is) w.high;
      })

  terms_answer-within : AllByRecursion (Within truth p.error) p.buckets → AllByRecursion (IsWithinError truth) (out-NodeAnswer (terms_answer name children size min_doc_count order p)).buckets
  terms_answer-within h =
      let ordered = sorted (bucket_cmp (map (λ c. c.kind) children) order) (frequent min_doc_count p.buckets) in
      let level : NodeAnswer-F BucketAnswer NodeAnswer =
      record { name = name; buckets = map finished kept; error = pos (p.error - 0); other = p.cut + sum_by bucket_count (drop size ordered); metric = no_metric } in
      subst (λ (l : NodeAnswer-F BucketAnswer NodeAnswer). AllByRecursion (IsWithinError truth) l.buckets) (sym (out-roll-NodeAnswer level))
      (each-mapped (Within truth p.error) (IsWithinError truth) finished finished-within kept
      (each-take (Within truth p.error) size ordered
      (each-sorted (Within truth p.error) (bucket_cmp (map (λ c. c.kind) children) order) (frequent min_doc_count p.buckets)
      (each-filter (Within truth p.error) _ p.buckets h))))

  -- by the answer's own error
  terms_answer-bound : AllByRecursion (Within truth p.error) p.buckets → ((q : Key) → has_key q (map bucket_key p.buckets) ≡ false → truth q ≤ p.error)
      → IsBoundOfAll truth p.buckets (terms_answer name children size min_doc_count order p)
  terms_answer-bound h lost =
      let ordered = sorted (bucket_cmp (map (λ c. c.kind) children) order) (frequent min_doc_count p.buckets) in
      let level : NodeAnswer-F BucketAnswer NodeAnswer =
      record { name = name; buckets = map finished kept; error = pos (p.error - 0); other = p.cut + sum_by bucket_count (drop size ordered); metric = no_metric } in
      let is = out-roll-NodeAnswer level in
      (record {
        error = p.error - 0;
        given = ap (λ (l : NodeAnswer-F BucketAnswer NodeAnswer). l.error) is;
        returned = subst (λ (l : NodeAnswer-F BucketAnswer NodeAnswer). AllByRecursion (λ b. truth (out-BucketAnswer b).key ≤ (out-BucketAnswer b).count + (p.error - 0)) l.buckets) (sym is)
            (each-mapped (Within truth p.error) (λ b. truth (out-BucketAnswer b).key ≤ (out-BucketAnswer b).count + (p.error - 0)) finished finished-bound kept
            (each-take (Within truth p.error) size ordered
            (each-sorted (Within truth p.error) (bucket_cmp (map (λ c. c.kind) children) order) (frequent min_doc_count p.buckets)
            (each-filter (Within truth p.error) _ p.buckets h))));
        lost = λ q absent. omega (arith, lost q absent);
      })
    where
      finished-bound : (b : Bucket) → Within truth p.error b → truth (out-BucketAnswer (finished b)).key ≤ (out-BucketAnswer (finished b)).count + (p.error - 0)
      finished-bound b w =
          let level : BucketAnswer-F BucketAnswer NodeAnswer = record { key = b.key; count = b.count; error = Some (pos (p.error - b.covered)); children = finish_each children b.children } in
          subst (λ (l : BucketAnswer-F BucketAnswer NodeAnswer). truth l.key ≤ l.count + (p.error - 0)) (sym (out-roll-BucketAnswer level)) (omega (arith, w.high))

-- how many rows of all shards have the key: for each shard all its rows, and those that the aggregation is handed
abbrev pub true_group_count : Agg → List (List PlacedRow × List PlacedRow) → Key → ℕ
true_group_count a shards key = sum_by (λ s. length (group s.0 (out-Agg a).kind s.1 key)) shards

abbrev AllWithin : Agg → List (List PlacedRow × List PlacedRow) → Type 0
AllWithin a shards =
    AllByRecursion (IsWithinError (true_group_count a shards)) (out-NodeAnswer (answer_of_rows a shards)).buckets
    × IsBoundOfAll (true_group_count a shards) (parts (whole_of_rows a shards)).buckets (answer_of_rows a shards)

pub answer_of_rows-within : (a : Agg) (shards : List (List PlacedRow × List PlacedRow)) → IsTermsByCount (out-Agg a).kind → AllWithin a shards
unfolding computing
answer_of_rows-within (Agg' name (kind.Terms field size shard_size min_doc_count [] include exclude missing show_error) n children) shards h = absurd h.1
answer_of_rows-within (Agg' name (kind.Terms field size shard_size min_doc_count (o ∷ later) include exclude missing show_error) n children) shards h =
    let k_of = λ (o : Order). kind.Terms field size shard_size min_doc_count (o ∷ later) include exclude missing show_error in
    let first : Order = record { by = Count; descending = true } in
    let k = k_of first in
    let a = Agg' name k n children in
    let collectors = λ (all : List PlacedRow). fold_aggs (collector_of true all (roots all)) children in
    let wholes = fold_aggs (λ a. whole_by a.children a.kind (shape_of a.kind)) children in
    let trees = λ (s : List PlacedRow × List PlacedRow). shard_node s.0 a s.1 in
    let truth = λ (s : List PlacedRow × List PlacedRow) (q : Key). length (group s.0 k s.1 q) in
    let bounds = λ (s : List PlacedRow × List PlacedRow) (q : Key). trimmed_node-bounds (map (λ c. c.kind) (collectors s.0)) later shard_size h.0 true s.0 (roots s.0) k (collectors s.0) s.1 q in
    let within = whole_by-within trees truth bounds wholes k shards in
    let all : AllWithin a shards = (
      terms_answer-within (true_group_count a shards) name (fold_aggs finisher_of children) size min_doc_count later (parts (whole_of_rows a shards)) within,
      terms_answer-bound (true_group_count a shards) name (fold_aggs finisher_of children) size min_doc_count later (parts (whole_of_rows a shards)) within (whole_by-lost trees truth bounds wholes k shards),
    ) in
    subst (λ o. AllWithin (Agg' name (k_of o) n children) shards) (sym h.1) all
answer_of_rows-within (Agg' name (kind.Histogram field interval offset min_doc_count extended hard keyed orders missing) n children) shards h = absurd h
answer_of_rows-within (Agg' name (kind.DateHistogram field period zone min_doc_count extended hard keyed orders missing) n children) shards h = absurd h
answer_of_rows-within (Agg' name (kind.Filters names filters other) n children) shards h = absurd h
answer_of_rows-within (Agg' name (kind.Filter query) n children) shards h = absurd h
answer_of_rows-within (Agg' name (kind.Missing field) n children) shards h = absurd h
answer_of_rows-within (Agg' name kind.Global n children) shards h = absurd h
answer_of_rows-within (Agg' name (kind.Nested context) n children) shards h = absurd h
answer_of_rows-within (Agg' name (kind.ReverseNested context) n children) shards h = absurd h
answer_of_rows-within (Agg' name (kind.Composite sources size after) n children) shards h = absurd h
answer_of_rows-within (Agg' name (kind.Sum field missing) n children) shards h = absurd h
answer_of_rows-within (Agg' name (kind.Min field missing) n children) shards h = absurd h
answer_of_rows-within (Agg' name (kind.Max field missing) n children) shards h = absurd h
answer_of_rows-within (Agg' name (kind.Avg field missing) n children) shards h = absurd h
answer_of_rows-within (Agg' name (kind.ValueCount field missing) n children) shards h = absurd h
