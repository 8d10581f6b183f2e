use Rattle.std.proofs.Common.{◌≡◌, ℤ, rules, refl, arith, ap, ◌∙◌, ⊎_elim, to_z, of_z, None, ◌+ℤ◌}
use mir.Syntax.{w64, w128}
use Rattle.std.proofs.lemmas.Int.{to_z-of_z, ints}
use Rattle.std.specs.Int.{int_min, int_max}
use Rattle.std.specs.Option.{option_map_or}
use Rattle.agg_evaluation.specs.Shard.{integer_of}
use Rattle.shard_columns.specs.Cell.{scalar_of}
use Rattle.metric_agg.proofs.MoreValues.{with_whole, with_other}
use Rattle.metric_agg.proofs.taking.with_value.Goals as goal

pub returns-in-Whole-clause-values : goal.returns-in-Whole-clause-values
returns-in-Whole-clause-values c =
    let plain : to_z w64 (of_z w64 c.in-Whole.number) ≡ c.in-Whole.number = to_z-of_z w64 c.in-Whole.number (search rules) in
    let number : c.from.result ≡ c.in-Whole.number = c.from.ensures ∙ plain in
    let before : to_z w128 (of_z w128 c.args.metric.sum) ≡ c.args.metric.sum = to_z-of_z w128 c.args.metric.sum (search rules) in
    let more : to_z w128 (of_z w128 c.from.result) ≡ c.in-Whole.number = to_z-of_z w128 c.from.result (search rules) ∙ number in
    let few = c.requires.few in
    let bounded = c.requires.bounded in
    let sum = (λ i. to_z w128 (of_z w128 (before i +ℤ more i))) ∙ to_z-of_z w128 (c.args.metric.sum +ℤ c.in-Whole.number) (search rules) in
    with_whole c.args.metric (scalar_of c.args.cell) c.in-Whole.number _ _ _ (ap scalar_of c.in-Whole.is) sum
    (to_z-of_z w64 c.least.result (search rules) ∙ (c.least.ensures ∙ ap (λ (n : ℤ). option_map_or (λ before. int_min before n) c.args.metric.least n) plain))
    (to_z-of_z w64 c.greatest.result (search rules) ∙ (c.greatest.ensures ∙ ap (λ (n : ℤ). option_map_or (λ before. int_max before n) c.args.metric.greatest n) plain))

pub returns-in-Word : goal.returns-in-Word
returns-in-Word c =
    let same : to_z w128 (of_z w128 c.args.metric.sum) ≡ c.args.metric.sum = to_z-of_z w128 c.args.metric.sum (search rules) in
    let other : integer_of (scalar_of c.args.cell) ≡ None = ⊎_elim (λ h. ap (λ x. integer_of (scalar_of x)) h.1) (λ h. ap (λ x. integer_of (scalar_of x)) h.1) c.in-Word.is in
    let least = c.requires.bounded.least in
    let greatest = c.requires.bounded.greatest in
    record { values = with_other c.args.metric (scalar_of c.args.cell) _ other same; count = refl; bounded = record { least = omega (arith, ints); greatest = omega (arith, ints) } }
