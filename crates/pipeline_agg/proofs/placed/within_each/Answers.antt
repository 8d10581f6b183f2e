use Rattle.std.proofs.Common.{ap, sym, ◌∙◌, arith, ◌<◌, Vec, Global, List, ◌++◌, length, take}
use Rattle.list_laws.proofs.Lists.{append-nil}
use Rattle.agg_spec.specs.Notes.{pipes_within}
use Rattle.pipeline_agg.specs.Placed.{part_of, pipes_of}
use Rattle.pipeline_agg.specs.declared.placed.Part.{Part}
use Rattle.pipeline_agg.proofs.PlacedLaws.{all-behind, inner-none, next-within, told-more}
use Rattle.pipeline_agg.proofs.placed.within_each.Goals.{in_default, in-len1-up+in_ok-push_at}
use Rattle.pipeline_agg.proofs.placed.within_each.Goals as goal

pub loop-placed-preserved : goal.loop-placed-preserved
loop-placed-preserved c =
    let p = c.placed-item.result in
    let ps = c.args.pipes.now in
    let i = c.loop-placed.placed-index in
    elim c.if-placed-lt1.branch [
      | in_default w ↦
          let parts = ap (λ (v : Vec Part Global). v.items) w.parts-is in (
            ap length parts ∙ c.loop-placed.invariant.0,
            λ j within. ap (λ (qs : List Part). part_of qs j) parts ∙ c.loop-placed.invariant.1 j within
                ∙ sym (next-within ps i p c.loop-placed-test.true c.placed-item.is j ∙ ap (λ qs. pipes_within j (pipes_of (take i ps)) ++ qs) (inner-none j p.at.now p.pipe.now w.in_default.len_below) ∙ append-nil _),
          )
      | in-len1-up+in_ok-push_at w ↦
          let parts = ap (λ (v : Vec Part Global). v.items) w.parts-is in
          let more = w.in_ok-push_at.ensures in (
            ap length parts ∙ more.0 ∙ c.loop-placed.invariant.0,
            λ j within. ap (λ (qs : List Part). part_of qs j) parts
                ∙ told-more c.loop-placed.parts.items w.push_at.new.parts.items ps i p _ j (more.1 j (let few : j < length c.loop-placed.parts.items = omega (arith, within, c.loop-placed.invariant.0) in few))
                (all-behind p.at.now) w.in-len1-up.len_at_least c.loop-placed-test.true c.placed-item.is (c.loop-placed.invariant.1 j within),
          )
    ]
