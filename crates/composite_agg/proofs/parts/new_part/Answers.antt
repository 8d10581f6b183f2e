use Rattle.std.proofs.Common.{◌-◌, ◌++◌, ◌∙◌, sym, ap, arith}
use Rattle.agg_evaluation.specs.Keys.{distinct_keys}
use Rattle.agg_evaluation.specs.Rows.{values_of, row_of}
use Rattle.composite_agg.specs.Parts.{key_of_part}
use Rattle.histogram_agg.proofs.Rows.{values_ascend}
use Rattle.composite_agg.proofs.ValueParts.{there, as_list, as_option, same_at, other_at, first_at, before}
use Rattle.std.proofs.lemmas.Bool.{false≢true}
use Rattle.composite_agg.proofs.parts.new_part.Goals as goal
use Rattle.composite_agg.proofs.parts.new_part.Goals.{else-place-gt0-via-then-place-gt0+else-is_same, else-place-gt0-via-else-place-gt0}

pub returns-then-is_same : goal.returns-then-is_same
returns-then-is_same c =
    let s = c.args.source.now in
    let values = values_of s.field (row_of c.args.shard.now.rows c.args.row) in
    let ascends = values_ascend c.args.shard.now c.requires.built s.field c.args.row in
    let v = there values c.args.place c.requires.there in
    let u = there values (c.args.place - 1) (omega (arith, c.requires.there)) in
    let same = as_list key_of_part _ _ (c.is_same.ensures.0 c.if-is_same.true) in
    same_at s c.requires.positive values ascends c.args.place c.if-place-gt0.true u.0 v.0 u.1 v.1 (sym (c.part_at.ensures u.0 u.1) ∙ same ∙ c.part_at-part.ensures v.0 v.1)

pub returns-else-place-gt0 : goal.returns-else-place-gt0
returns-else-place-gt0 c =
    let s = c.args.source.now in
    let values = values_of s.field (row_of c.args.shard.now.rows c.args.row) in
    let ascends = values_ascend c.args.shard.now c.requires.built s.field c.args.row in
    let v = there values c.args.place c.requires.there in
    elim c.else-place-gt0.branch [
      | else-place-gt0-via-then-place-gt0+else-is_same w ↦
          let u = there values (c.args.place - 1) (omega (arith, c.requires.there)) in
          other_at s c.requires.positive values ascends c.args.place w.if-place-gt0.true u.0 v.0 u.1 v.1 (λ same. absurd (false≢true (sym w.if-is_same.false
          ∙ w.is_same.ensures.1 (as_option key_of_part _ _ (w.part_at.ensures u.0 u.1 ∙ same ∙ sym (c.part_at-part.ensures v.0 v.1))))))
          ∙ ap (λ ks. distinct_keys (before s c.requires.positive values ascends c.args.place) ++ ks) (sym (c.part_at-part.ensures v.0 v.1))
      | else-place-gt0-via-else-place-gt0 w ↦
          first_at s c.requires.positive values ascends c.args.place w.if-place-gt0.false v.0 v.1
          ∙ ap (λ ks. distinct_keys (before s c.requires.positive values ascends c.args.place) ++ ks) (sym (c.part_at-part.ensures v.0 v.1))
    ]
