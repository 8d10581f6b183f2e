use Rattle.std.proofs.Common.{◌≡◌, ◌+◌, [], length, ap, ◌∙◌, arith}
use Rattle.list_laws.proofs.StableSort.{length-sorted}
use Rattle.agg_reading.specs.declared.parts.FoundField.{FoundField}
use Rattle.agg_reading.specs.declared.parts.FoundPath.{FoundPath}
use Rattle.agg_reading.specs.Properties.{by_path}
use Rattle.agg_mapping.specs.Arranged.{arranged}
use Rattle.agg_mapping.proofs.collected.Collected.into_found.Goals as goal

pub returns-clause-found : goal.returns-clause-found
unfolding arranged
returns-clause-found c = rw (c.in_ok-in_order.ensures.value, c.in_ok-in_order-2.ensures.value, c.in_ok-in_order-3.ensures.value)

pub returns-clause-ordered : goal.returns-clause-ordered
returns-clause-ordered c =
    let fields : length c.in_ok-in_order.field-0 ≡ length c.args.self.fields = ap length c.in_ok-in_order.ensures.value ∙ length-sorted (by_path (λ (f : FoundField). f.path)) c.args.self.fields in
    let nested : length c.in_ok-in_order-2.field-0 ≡ length c.args.self.nested = ap length c.in_ok-in_order-2.ensures.value ∙ length-sorted (by_path (λ (p : FoundPath). p.path)) c.args.self.nested in
    record {
      fields = c.in_ok-in_order.ensures.ascends;
      nested = c.in_ok-in_order-2.ensures.ascends;
      objects = c.in_ok-in_order-3.ensures.ascends;
      few = omega (arith, fields, nested, c.args.self.few);
    }
