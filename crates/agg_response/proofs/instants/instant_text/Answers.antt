-- What a clock shows is printed where it lies in the range of dates.
use Rattle.std.proofs.Common.{◌≡◌, ◌∙◌, ap, sym, subst, IfOk, string_bytes, arith, true}
use Rattle.std.specs.Prelude.{ℤ, ◌+ℤ◌, ◌-ℤ◌, ◌≤ℤ◌, ◌<ℤ◌}
use Rattle.std.specs.Fmt.{signed_decimal}
use Rattle.std.proofs.lemmas.Int.{ints, to_z-of_z}
use mir.Syntax.{w64, w128}
use mir.Val.{to_z, of_z}
use Rattle.date_spec.specs.declared.range.TheConstants.{GREATEST_INSTANT, LEAST_INSTANT}
use Rattle.date_spec.specs.DateTexts.{printed_with}
use Rattle.date_spec.specs.Instants.{is_in_range}
use Rattle.agg_spec.specs.InstantTexts.{instant_text, offset_text}
use Rattle.agg_response.proofs.InstantLaws.{before_range, behind_range, shown, shown-in_range}
use Rattle.agg_response.proofs.instants.instant_text.Goals as goal
use Rattle.agg_response.proofs.instants.instant_text.Goals.{else-from-ahead-via-then-from-ahead+else-n-from, else-from-ahead-via-else-from-ahead}

pub print-requires : goal.print-requires
print-requires c =
    let zone = to_z-of_z w64 c.args.zone c.ranges.zone in
    let n = to_z-of_z w128 c.args.n c.ranges.n in
    let low : (LEAST_INSTANT -ℤ c.args.zone) ≤ℤ c.args.n = omega (arith, ints, zone, n, c.from-ahead.ensures, c.from.ensures, c.if-from-ahead.true) in
    let high : c.args.n ≤ℤ (GREATEST_INSTANT -ℤ c.args.zone) =
    omega (arith, ints, zone, n, c.from-ahead.ensures, c.from-then-from-ahead.ensures, c.if-n-from.true) in
    let local : to_z w64 (of_z w64 (to_z w128 (of_z w128 (to_z w128 (of_z w128 c.args.n) +ℤ to_z w128 (of_z w128 c.from-ahead.result)))))
    ≡ c.args.n +ℤ c.args.zone = omega (arith, ints, zone, n, c.from-ahead.ensures, low, high) in
    subst (λ (z : ℤ). is_in_range z ≡ true) (sym local) (shown-in_range c.args.zone c.args.n low high)

pub returns-in_ok-offset : goal.returns-in_ok-offset
returns-in_ok-offset c =
    let zone = to_z-of_z w64 c.args.zone c.ranges.zone in
    let n = to_z-of_z w128 c.args.n c.ranges.n in
    let low : (LEAST_INSTANT -ℤ c.args.zone) ≤ℤ c.args.n = omega (arith, ints, zone, n, c.from-ahead.ensures, c.from.ensures, c.if-from-ahead.true) in
    let high : c.args.n ≤ℤ (GREATEST_INSTANT -ℤ c.args.zone) =
    omega (arith, ints, zone, n, c.from-ahead.ensures, c.from-then-from-ahead.ensures, c.if-n-from.true) in
    let local : to_z w64 (of_z w64 (to_z w128 (of_z w128 (to_z w128 (of_z w128 c.args.n) +ℤ to_z w128 (of_z w128 c.from-ahead.result)))))
    ≡ c.args.n +ℤ c.args.zone = omega (arith, ints, zone, n, c.from-ahead.ensures, low, high) in
    let offset = c.as_str.ensures.value ∙ c.in_ok-offset.ensures ∙ ap offset_text zone in
    subst (λ bs. IfOk c.print.result (λ s. string_bytes s ≡ bs))
    ((λ i. printed_with (offset i) (local i)) ∙ shown c.args.zone c.args.n (shown-in_range c.args.zone c.args.n low high)) c.print.ensures

pub returns-else-from-ahead : goal.returns-else-from-ahead
returns-else-from-ahead c =
    let zone = to_z-of_z w64 c.args.zone c.ranges.zone in
    let n = to_z-of_z w128 c.args.n c.ranges.n in
    let text : signed_decimal c.args.n ≡ instant_text c.args.zone c.args.n =
    elim c.else-from-ahead.branch [
      | else-from-ahead-via-then-from-ahead+else-n-from w ↦
          let low : (LEAST_INSTANT -ℤ c.args.zone) ≤ℤ c.args.n = omega (arith, ints, zone, n, c.from-ahead.ensures, c.from.ensures, w.if-from-ahead.true) in
          let high : (GREATEST_INSTANT -ℤ c.args.zone) <ℤ c.args.n =
          omega (arith, ints, zone, n, c.from-ahead.ensures, w.from-then-from-ahead.ensures, w.if-n-from.false) in
          behind_range c.args.zone c.args.n low high
      | else-from-ahead-via-else-from-ahead w ↦
          let low : c.args.n <ℤ (LEAST_INSTANT -ℤ c.args.zone) = omega (arith, ints, zone, n, c.from-ahead.ensures, c.from.ensures, w.if-from-ahead.false) in
          before_range c.args.zone c.args.n low
    ] in
    subst (λ bs. IfOk c.format.result (λ s. string_bytes s ≡ bs)) (ap signed_decimal n ∙ text) c.format.ensures.ok
