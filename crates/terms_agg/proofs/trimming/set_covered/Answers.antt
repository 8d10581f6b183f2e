use Rattle.std.proofs.Common.{sym, ◌∙◌, ap, arith}
use Rattle.std.specs.Prelude.{slice_set}
use Rattle.std.proofs.lemmas.List.Edits.{map_over_more}
use Rattle.agg_model.specs.declared.partial.Bucket.{Bucket}
use Rattle.agg_evaluation.specs.Shard.{with_covered}
use Rattle.terms_agg.proofs.trimming.set_covered.Goals as goal

pub loop-bucket-preserved : goal.loop-bucket-preserved
loop-bucket-preserved c =
    ap (λ (b : Bucket). slice_set c.loop-bucket.bucket-items c.loop-bucket.bucket-index (with_covered c.args.covered b)) (sym c.bucket-item.is)
    ∙ map_over_more (with_covered c.args.covered) c.args.buckets.now.items c.loop-bucket.bucket-items c.loop-bucket.bucket-index c.bucket-item.result (omega arith) c.loop-bucket.invariant c.bucket-item.is
