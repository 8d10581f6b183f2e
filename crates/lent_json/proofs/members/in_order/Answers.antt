use Rattle.std.proofs.Common.{rules, ◌≡◌}
use Rattle.std.proofs.lemmas.Fn.{always_returns_same}
use Rattle.lent_json.proofs.Ordered.{below, rising_stay}
use Rattle.lent_json.proofs.members.in_order.Goals as goal

pub returns-then-is_sorted_by : goal.returns-then-is_sorted_by
returns-then-is_sorted_by c =
    let rising = c.if-is_sorted_by.ensures.cases below (always_returns_same _ (λ a r. r ≡ below a.0.now a.1.0.now) _ (λ a r f k. search rules)) in
    rising_stay c.args.members.items (rw c.as_slice.ensures.value at rising)
