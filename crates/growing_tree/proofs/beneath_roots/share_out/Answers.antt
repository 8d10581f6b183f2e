use Rattle.std.proofs.Common.{◌<◌, ◌+◌, ◌∙◌, ℕ, sym, ap, arith, refl, length}
use Rattle.std.proofs.lemmas.List.{get_or_read, length-set}
use Rattle.growing_tree.proofs.Rises.{all-rose, rising-more, rising-none}
use Rattle.growing_tree.proofs.beneath_roots.share_out.Goals as goal

pub loop-place-init : goal.loop-place-init
loop-place-init c = record {
  start = λ end_of ends. sym ends.first;
  many = refl;
  rising = λ cost_at end_of h ends. rising-none (λ n. cost_at (end_of n)) c.args.added.now.items;
}

pub loop-place-preserved : goal.loop-place-preserved
loop-place-preserved c =
    let ends = c.args.ends.now in
    let i = c.loop-place.place in
    let now = c.loop-place.added.items in
    let more = c.in_ok-more.more in
    let below : i < length ends = omega (arith, c.loop-place-test.true) in
    let within : i < length now = omega (arith, c.loop-place.invariant.many, c.requires.many, below) in
    record {
      start = λ end_of are. are.each i below;
      many = length-set now i c.in_ok-next.next ∙ c.loop-place.invariant.many;
      rising = λ cost_at end_of h are.
          rising-more (λ n. cost_at (end_of n)) i more c.in_ok-next.next c.args.added.now.items now (c.loop-place.invariant.rising cost_at end_of h are) within
          (ap cost_at (sym (are.each i below)) ∙ c.in_ok-more.ensures cost_at h ∙ ap (λ m. cost_at m + more) (c.loop-place.invariant.start end_of are))
          (c.in_ok-next.ensures ∙ ap (λ (k : ℕ). k + more) (get_or_read now i c.index.result.now within c.index.ensures 0));
    }

pub returns : goal.returns
returns c = record {
  rises = λ cost_at end_of h ends. all-rose (λ n. cost_at (end_of n)) c.loop-place.place (length c.args.ends.now) c.args.added.now.items c.loop-place.added.items
      (c.loop-place.invariant.rising cost_at end_of h ends) (omega (arith, c.loop-place-test.false));
}
