-- What stays of buckets that are sorted and cut.
use Rattle.std.specs.Prelude.{ℕ, Bool, true, false, cond, List, [], ◌∷◌, drop, fold, filter, Option, Some, None}
use Rattle.std.specs.List.{AllByRecursion}
use Rattle.agg_model.specs.declared.aggregation.Kind.{Kind}
use Rattle.agg_model.specs.declared.pipeline.Pipe.{Pipe}
use Rattle.agg_model.specs.declared.pipeline.PipeKind.{PipeKind}
use Rattle.agg_model.specs.declared.pipeline.PipeKind.TheVariants as pipe
use Rattle.agg_spec.specs.Pipelines.{cut_from}
use Rattle.agg_spec.specs.Remarks.{RemarkedBucket, remarked_cmp, arranged_by, arranged, pipes_here}
use Rattle.list_laws.proofs.Each.{each-take, each-drop, each-sorted}

module _ {A : Type 0} (P : A → Type 0) where
  pub each-cut : (start : ℕ) (size : Option ℕ) (xs : List A) → AllByRecursion P xs → AllByRecursion P (cut_from start size xs)
  each-cut start None xs h = each-drop P start xs h
  each-cut start (Some n) xs h = each-take P n (drop start xs) (each-drop P start xs h)

module _ (P : RemarkedBucket → Type 0) (kinds : List Kind) where
  each-arranged_by : (k : PipeKind) (buckets : List RemarkedBucket) → AllByRecursion P buckets → AllByRecursion P (arranged_by kinds k buckets)
  each-arranged_by (pipe.CumulativeSum at) buckets h = h
  each-arranged_by (pipe.Derivative at) buckets h = h
  each-arranged_by (pipe.SumBucket i at) buckets h = h
  each-arranged_by (pipe.MinBucket i at) buckets h = h
  each-arranged_by (pipe.MaxBucket i at) buckets h = h
  each-arranged_by (pipe.BucketSort sort start size) buckets h = each-cut P start size _ (each-sorted P (remarked_cmp kinds sort) buckets h)

  each-arranged-all : (pipes : List Pipe) (buckets : List RemarkedBucket) → AllByRecursion P buckets → AllByRecursion P (fold (λ bs p. arranged_by kinds p.kind bs) buckets pipes)
  each-arranged-all [] buckets h = h
  each-arranged-all (p ∷ pipes) buckets h = each-arranged-all pipes (arranged_by kinds p.kind buckets) (each-arranged_by p.kind buckets h)

  pub each-arranged : (pipes : List Pipe) (buckets : List RemarkedBucket) → AllByRecursion P buckets → AllByRecursion P (arranged kinds pipes buckets)
  each-arranged pipes buckets h = each-arranged-all (pipes_here pipes) buckets h
