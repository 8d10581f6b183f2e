use Rattle.std.specs.Prelude.{◌≡◌, refl, Bool, true, false, not, suc, zero, ◌-◌, IsTrue, drop, slice_get, List, [], ◌∷◌, ◌++◌, Some}
use Rattle.std.specs.Option.{option_copied}
use Rattle.std.specs.Ordering.{is_le}
use Rattle.std.proofs.Common.{sym, ◌∙◌, ap, arith, length, take, ◌<◌, ℕ}
use Rattle.agg_evaluation.specs.Orders.{bucket_cmp}
use Rattle.bucket_order.specs.Kinds.{child_kinds}
use Rattle.bucket_order.proofs.Firsts.{behind-last}
use Rattle.bucket_order.proofs.TotalLaws.{bucket_cmp_total}
use Rattle.bucket_order.proofs.first.is_last.Goals as goal

not-is : (b : Bool) → IsTrue (not b) → b ≡ false
not-is false h = refl
not-is true h = sym h

pub returns-in-Some : goal.returns-in-Some
returns-in-Some c = λ h.
    let kinds = child_kinds c.args.children.now in
    let cmp = bucket_cmp kinds c.args.orders.now in
    let last = c.in-Some.last.now in
    let behind : is_le (cmp c.args.bucket.now last) ≡ false = sym (c.is_le.ensures ∙ ap is_le c.compare_buckets.ensures) ∙ not-is c.is_le.result h in
    behind-last cmp (bucket_cmp_total kinds c.args.orders.now) c.args.bucket.now last c.args.kept.now c.requires.ordered (sym c.last.ensures.value ∙ ap option_copied c.in-Some.is) behind
