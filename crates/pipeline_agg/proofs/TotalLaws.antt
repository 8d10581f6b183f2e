-- The order of a `bucket_sort` is total.
use Rattle.std.specs.Prelude.{refl, List, [], ◌∷◌}
use Rattle.std.specs.declared.cmp.Ordering.TheVariants.{Equal}
use Rattle.std.specs.Cmp.{IsTotalOrder}
use Rattle.std.proofs.lemmas.Cmp.{on_total, then_total}
use Rattle.agg_model.specs.declared.aggregation.Kind.{Kind}
use Rattle.agg_model.specs.declared.answer.BucketAnswer.{BucketAnswer}
use Rattle.agg_model.specs.declared.pipeline.PipeOrder.{PipeOrder}
use Rattle.agg_spec.specs.Pipelines.{bucket_sort_cmp, value_at}
use Rattle.bucket_order.proofs.TotalLaws.{value_cmp_total}
use Rattle.pipeline_agg.specs.declared.remarked.RemarkedBucket.{RemarkedBucket}

equal_total : {K : Type 0} → IsTotalOrder (λ (x y : K). Equal)
equal_total = record { antisymm = λ x y. refl; trans = λ x y z e f. e; congr = λ x y z e. refl }

pub bucket_sort_total : (kinds : List Kind) (sort : List PipeOrder) → IsTotalOrder (bucket_sort_cmp kinds sort)
bucket_sort_total kinds [] = equal_total
bucket_sort_total kinds (o ∷ os) = then_total (on_total (value_at kinds o.path) (value_cmp_total o.descending)) (bucket_sort_total kinds os)

-- the same, of buckets with their notes
pub remarked_total : (kinds : List Kind) (sort : List PipeOrder) → IsTotalOrder (λ (a b : RemarkedBucket). bucket_sort_cmp kinds sort a.bucket b.bucket)
remarked_total kinds sort = on_total (λ (b : RemarkedBucket). b.bucket) (bucket_sort_total kinds sort)
