-- Sums over sorted lists, and the sums of an answer to terms.
use Rattle.std.specs.Prelude.{◌≡◌, refl, ℕ, ℤ, ◌+◌, not, nat_le, List, map, take, drop, sum_by, Option, Some}
use Rattle.std.proofs.Common.{◌∙◌, ap, arith}
use Rattle.std.proofs.lemmas.List.Sums.{sum_by-take-drop}
use Rattle.std.proofs.lemmas.List.Filters.{sum_by-filter_both}
use Rattle.agg_model.specs.declared.partial.Bucket.{Bucket}
use Rattle.agg_model.specs.declared.answer.BucketAnswer.{BucketAnswer, out-roll-BucketAnswer}
use Rattle.agg_model.specs.declared.answer.BucketAnswer.TheOpen.{NodeAnswer-F, BucketAnswer-F}
use Rattle.agg_model.specs.declared.answer.NodeAnswer.{NodeAnswer, out-roll-NodeAnswer}
use Rattle.agg_model.specs.declared.aggregation.Order.{Order}
use Rattle.list_laws.specs.Sorting.{sorted}
use Rattle.agg_evaluation.specs.Orders.{bucket_cmp, bucket_count}
use Rattle.agg_evaluation.specs.Whole.{Parts}
use Rattle.list_laws.proofs.Lists.{sum_by-map}
use Rattle.list_laws.proofs.Each.{sum_by-sorted}
use Rattle.agg_spec.specs.Filling.{frequent}
use Rattle.agg_spec.specs.Final.{Finisher, finish_each, finish_bucket, no_metric, terms_answer}
use Rattle.agg_spec.specs.CountErrors.{precision_of, count_error}
use Rattle.count_laws.specs.TermsSums.{answered_count, returned_count, other_count, below_minimum_count}

-- a finished bucket, and a finished node, as records
abbrev bucket_level : List Finisher → Option ℤ → Bucket → BucketAnswer-F BucketAnswer NodeAnswer
bucket_level children error b = record { key = b.key; count = b.count; error = error; children = finish_each children b.children }

module _ (name : List ℕ) (children : List Finisher) (size min_doc_count : ℕ) (order : List Order) (p : Parts) where
  abbrev ordered : List Bucket
  ordered = sorted (bucket_cmp (map (λ c. c.kind) children) order) (frequent min_doc_count p.buckets)

  abbrev error_of : ℕ → ℤ
  error_of covered = count_error (precision_of order) p.error covered p.full

  abbrev finished : Bucket → BucketAnswer
  finished b = finish_bucket children (Some (error_of b.covered)) b

  abbrev node_level : NodeAnswer-F BucketAnswer NodeAnswer
  node_level = record { name = name; buckets = map finished (take size ordered); error = error_of 0; other = p.cut + sum_by bucket_count (drop size ordered); metric = no_metric }

  abbrev answer : NodeAnswer
  answer = terms_answer name children size min_doc_count order p

  counted : (b : Bucket) → answered_count (finished b) ≡ bucket_count b
  counted b = ap (λ (l : BucketAnswer-F BucketAnswer NodeAnswer). l.count) (out-roll-BucketAnswer (bucket_level children (Some (error_of b.covered)) b))

  returned : returned_count answer ≡ sum_by bucket_count (take size ordered)
  returned =
      ap (λ (l : NodeAnswer-F BucketAnswer NodeAnswer). sum_by answered_count l.buckets) (out-roll-NodeAnswer node_level)
      ∙ sum_by-map answered_count finished (take size ordered)
      ∙ (λ i. sum_by (λ b. counted b i) (take size ordered))

  other : other_count answer ≡ p.cut + sum_by bucket_count (drop size ordered)
  other = ap (λ (l : NodeAnswer-F BucketAnswer NodeAnswer). l.other) (out-roll-NodeAnswer node_level)

  pub terms_answer-sums : returned_count answer + other_count answer + below_minimum_count min_doc_count p.buckets ≡ p.cut + sum_by bucket_count p.buckets
  terms_answer-sums =
      let both = sum_by-filter_both (λ b. nat_le min_doc_count (bucket_count b)) (λ b. not (nat_le min_doc_count (bucket_count b))) (λ b. refl) bucket_count p.buckets in
      omega (
        arith,
        returned,
        other,
        sum_by-take-drop bucket_count ordered size,
        sum_by-sorted (bucket_cmp (map (λ c. c.kind) children) order) bucket_count (frequent min_doc_count p.buckets),
        both,
      )
