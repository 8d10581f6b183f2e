use Rattle.std.proofs.Common.{◌≡◌, refl, ◌∙◌, ap, sym, arith, rules, true}
use Rattle.std.specs.Prelude.{ℤ, ◌≤ℤ◌, Option, Some, None, is_some, option_map, unwrap_or}
use Rattle.std.proofs.lemmas.Bool.{false≢true}
use Rattle.std.proofs.lemmas.Grind.{common_steps}
use Rattle.std.proofs.lemmas.Int.{ints, to_z-of_z}
use mir.Syntax.{w128}
use mir.Val.{SFits}
use Rattle.agg_evaluation.specs.Spacings.{number_at}
use Rattle.agg_spec.specs.Filling.{greatest_key, has_buckets, least_key}
use Rattle.final_reduce.specs.Steps.{first_from, key_numbers, last_to}
use Rattle.final_reduce.proofs.Grids.{near-between, spacing-is}
use Rattle.final_reduce.proofs.spans.filled_span.Goals as goal

-- where there is an image there is what has it
mapped : (f : ℤ → ℤ) (o : Option ℤ) (n : ℤ) → Some n ≡ option_map f o → (k : ℤ) × ((o ≡ Some k) × (n ≡ f k))
mapped f None n e = absurd (false≢true (ap is_some (sym e)))
mapped f (Some k) n e = (k, (refl, ap (λ o. unwrap_or o n) e))

pub returns-clause-span : goal.returns-clause-span
returns-clause-span c =
    let g = c.args.grid in
    let ns = key_numbers c.args.buckets.now in
    let least = mapped (number_at g.spacing) (least_key g.spacing g.extended ns) c.in_ok-least.least c.in_ok-least.ensures.number in
    let greatest = mapped (number_at g.spacing) (greatest_key g.spacing g.extended ns) c.in_ok-greatest.greatest c.in_ok-greatest.ensures.number in
    let least_fits : SFits w128 c.in_ok-least.least = search rules in
    let greatest_fits : SFits w128 c.in_ok-greatest.greatest = search rules in
    let first_fits : SFits w128 c.first_within.result = search rules in
    let last_fits : SFits w128 c.last_within.result = search rules in
    record {
      least = least.0;
      greatest = greatest.0;
      has = (let e : has_buckets g.extended ns ≡ true = first_of (search rules, grind (arith, common_steps)) in e);
      least_is = least.1.0;
      greatest_is = greatest.1.0;
      first_is = to_z-of_z w128 c.first_within.result first_fits ∙ c.first_within.ensures.number
          ∙ ap (first_from g.spacing g.hard) (to_z-of_z w128 c.in_ok-least.least least_fits ∙ least.1.1);
      last_is = to_z-of_z w128 c.last_within.result last_fits ∙ c.last_within.ensures.number
          ∙ ap (last_to g.spacing g.hard) (to_z-of_z w128 c.in_ok-greatest.greatest greatest_fits ∙ greatest.1.1);
    }

pub returns-clause-near : goal.returns-clause-near
returns-clause-near c = λ n low high.
    let g = c.args.grid in
    let least_fits : SFits w128 c.in_ok-least.least = search rules in
    let greatest_fits : SFits w128 c.in_ok-greatest.greatest = search rules in
    let first_fits : SFits w128 c.first_within.result = search rules in
    let last_fits : SFits w128 c.last_within.result = search rules in
    let from = c.first_within.ensures.low in
    let until = c.last_within.ensures.high in
    let first = to_z-of_z w128 c.first_within.result first_fits in
    let last = to_z-of_z w128 c.last_within.result last_fits in
    let least = to_z-of_z w128 c.in_ok-least.least least_fits in
    let greatest = to_z-of_z w128 c.in_ok-greatest.greatest greatest_fits in
    near-between g.spacing (spacing-is g.spacing g.extended g.hard c.requires.spaced) c.in_ok-least.least n c.in_ok-greatest.greatest c.in_ok-least.ensures.near c.in_ok-greatest.ensures.near
    (let e : c.in_ok-least.least ≤ℤ n = omega (arith, ints, low, from, first, least) in e) (let e : n ≤ℤ c.in_ok-greatest.greatest = omega (arith, ints, high, until, last, greatest) in e)
