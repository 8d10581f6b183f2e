use Rattle.std.proofs.Common.{rules, ◌≡◌, ◌≤◌, [], sym, ap, subst, ◌∙◌, arith}
use Rattle.atomic_table.specs.Table.{Me}
use Rattle.breaker_words.specs.declared.view.View.{View}
use Rattle.breaker_words.specs.AfterStep.{after_join}
use Rattle.breaker_words.proofs.Allowed.{joins, allows_look}
use Rattle.breaker_words.proofs.LivePasses.{closes, fitting_joined}
use Rattle.breaker_words.proofs.words.join.Goals as goal

pub join_seat-requires : goal.join_seat-requires
join_seat-requires c = (
  search rules,
  search rules,
  search rules,
  omega (arith, c.words.invariant.0),
  joins _ _ _ c.pass.inside.known _ _ c.args.other.view (ap (λ m. m.0) c.pass.invariant.0) (ap (λ m. m.0) c.into_parts-seat.ensures.parts.2) (search rules) (search rules) (search rules) (search rules),
)

pub load-requires : goal.load-requires
load-requires c = (
  search rules,
  omega (arith, c.words.invariant.0),
  allows_look _ _ _ _ _ (after_join c.pass.inside.known c.args.other.view) (search rules) (search rules),
)

pub invariant_of-pass : goal.invariant_of-pass
invariant_of-pass c = let v = c.pass.inside.known in let w = c.args.other.view in let u = after_join v w in
    let j : c.join_seat.new.seat.me ≡ (u, []) = search rules in let fit : u.cap ≤ u.total = subst (λ (m : Me (Unit {0}) View). m.0.cap ≤ m.0.total) j c.load.ensures.2.1 in
    closes _ _ u _ (λ y. y) (c.load.ensures.2.0 ∙ (j ∙ (λ i. ((sym j i).0, [])))) j (c.with-pass-inside.ensures ∙ ap (λ y. after_join v y) c.into_parts-seat.ensures.parts.0) (fitting_joined v w c.pass.invariant.1 c.into_parts-seat.ensures.live (search rules) (search rules) fit)
