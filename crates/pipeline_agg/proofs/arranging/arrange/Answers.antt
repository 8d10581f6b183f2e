use Rattle.std.proofs.Common.{rules, ◌≡◌, refl, ap, sym, ◌∙◌, ◌<◌, Bool, true, false, cond, List, [], ◌∷◌, drop, length, get_or}
use Rattle.std.specs.Prelude.{ℕ, ◌+◌, ◌==◌, fold}
use Rattle.agg_model.specs.declared.aggregation.Kind.{Kind}
use Rattle.agg_spec.specs.Remarks.{are_no_places, pipes_here}
use Rattle.bucket_order.specs.Kinds.{child_kinds}
use Rattle.pipeline_agg.specs.Placed.{pipe_of, pipes_of}
use Rattle.pipeline_agg.specs.Told.{arranged_buckets, arranged_by}
use Rattle.pipeline_agg.specs.declared.placed.Placed.{Placed}
use Rattle.pipeline_agg.specs.declared.remarked.RemarkedBucket.{RemarkedBucket}
use Rattle.pipeline_agg.proofs.EntryLaws.{drop-more, no-places}
use Rattle.pipeline_agg.proofs.arranging.arrange.Goals.{then-is_empty+in_ok-arrange_by, else-is_empty}
use Rattle.pipeline_agg.proofs.arranging.arrange.Goals as goal

-- whether the next pipeline stands here, and what it makes of buckets
next-arranged : (kinds : List Kind) (p : Placed) (ps : List Placed) (here : Bool) (bs : List RemarkedBucket) → are_no_places p.at.now ≡ here
    → arranged_buckets kinds (pipes_of (p ∷ ps)) bs ≡ arranged_buckets kinds (pipes_of ps) (cond here (arranged_by kinds p.pipe.now.kind bs) bs)
next-arranged kinds p ps here bs e = made ∙ by here where
  made : arranged_buckets kinds (pipes_of (p ∷ ps)) bs ≡ fold (λ xs q. arranged_by kinds q.kind xs) bs (cond here (pipe_of p ∷ pipes_here (pipes_of ps)) (pipes_here (pipes_of ps)))
  made = ap (λ b. fold (λ xs q. arranged_by kinds q.kind xs) bs (cond b (pipe_of p ∷ pipes_here (pipes_of ps)) (pipes_here (pipes_of ps)))) e

  by : (b : Bool) → fold (λ xs q. arranged_by kinds q.kind xs) bs (cond b (pipe_of p ∷ pipes_here (pipes_of ps)) (pipes_here (pipes_of ps)))
      ≡ arranged_buckets kinds (pipes_of ps) (cond b (arranged_by kinds p.pipe.now.kind bs) bs)
  by true = refl
  by false = refl

pub loop-placed-preserved : goal.loop-placed-preserved
loop-placed-preserved c =
    let p = c.placed-item.result in
    let ps = c.args.pipes.now in
    let i = c.loop-placed.placed-index in
    let kinds = child_kinds c.args.children.now in
    let left = ap (λ (qs : List Placed). arranged_buckets kinds (pipes_of qs) c.loop-placed.buckets.items) (drop-more ps i p c.loop-placed-test.true c.placed-item.is) in
    elim c.if-is_empty.branch [
      | then-is_empty+in_ok-arrange_by w ↦
          ap (λ (bs : List RemarkedBucket). arranged_buckets kinds (pipes_of (drop (i + 1) ps)) bs) (ap (λ bs. bs.items) w.buckets-is ∙ w.in_ok-arrange_by.ensures)
          ∙ sym (left ∙ next-arranged kinds p (drop (i + 1) ps) true _ (no-places p.at.now ∙ sym w.if-is_empty.ensures)) ∙ c.loop-placed.invariant
      | else-is_empty w ↦
          ap (λ bs. arranged_buckets kinds (pipes_of (drop (i + 1) ps)) bs.items) w.buckets-is
          ∙ sym (left ∙ next-arranged kinds p (drop (i + 1) ps) false _ (no-places p.at.now ∙ sym w.if-is_empty.ensures)) ∙ c.loop-placed.invariant
    ]
