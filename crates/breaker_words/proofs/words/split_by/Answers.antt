use Rattle.std.proofs.Common.{rules, refl, ap, ◌∙◌, arith}
use Rattle.breaker_words.specs.AfterStep.{after_split}
use Rattle.breaker_words.proofs.Allowed.{splits}
use Rattle.breaker_words.proofs.LivePasses.{closes, fitting_cut}
use Rattle.breaker_words.proofs.words.split_by.Goals as goal

pub split_seat-seat-requires : goal.split_seat-seat-requires
split_seat-seat-requires g c = (
  search rules,
  omega (arith, c.words.invariant.0),
  splits _ _ _ c.pass.inside.known _ (ap (λ m. m.0) c.pass.invariant.0) (search rules) (search rules) (rw c.requires.size (search rules)),
)

pub invariant_of-pass : goal.invariant_of-pass
invariant_of-pass g c = let v = c.pass.inside.known in closes _ _ v _ (λ u. after_split u c.args.cap) (c.split_seat-seat.ensures.2 ∙ (λ i. (after_split c.pass.inside.seat.me.0 (c.requires.size i), (c.pass.invariant.0 i).1))) c.pass.invariant.0 refl (fitting_cut v c.args.cap c.pass.invariant.1 (search rules) (search rules))
