use Rattle.std.proofs.Common.{◌≡◌, ◌∙◌, sym, ap, subst, rules}
use Rattle.agg_model.specs.declared.key.Key.{Key}
use Rattle.agg_model.specs.declared.key.Key.TheVariants.{Word}
use Rattle.agg_evaluation.specs.KeyOrder.{directed}
use Rattle.agg_evaluation.specs.Keys.{source_keys}
use Rattle.agg_evaluation.specs.Rows.{row_of}
use Rattle.composite_agg.specs.OnlyParts.{IsOnlyPart}
use Rattle.composite_agg.proofs.WordPlaces.{part-by-place}
use Rattle.composite_agg.proofs.behind.compare_place.Goals as goal

pub returns : goal.returns
returns c =
    let s = c.args.source.now in
    let rows = c.args.shard.now.rows in
    let parts = source_keys (row_of rows c.args.row) s in
    let is : c.args.part.now ≡ Word c.as_bytes.result.now = search rules in
    let told = part-by-place s.field rows s c.as_bytes.result.now c.in_ok-place-in-Word.place c.in_ok-own.own parts c.in_ok-place-in-Word.ensures c.in_ok-own.ensures in
    subst (λ (k : Key). IsOnlyPart s k parts c.directed_by.result) (sym is)
    (subst (λ o. IsOnlyPart s (Word c.as_bytes.result.now) parts o) (sym (c.directed_by.ensures ∙ ap (directed s.descending) c.cmp.ensures)) told)
