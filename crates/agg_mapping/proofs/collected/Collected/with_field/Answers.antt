use Rattle.std.proofs.Common.{◌≡◌, ◌+◌, [], length, ap, ◌∙◌, arith}
use Rattle.std.proofs.lemmas.List.{length_push}
use Rattle.agg_reading.specs.declared.parts.FoundField.{FoundField}
use Rattle.agg_mapping.specs.Arranged.{arranged}
use Rattle.agg_mapping.proofs.CollectedLemmas.{room}
use Rattle.agg_reading.proofs.PathOrder.{sorted-last}
use Rattle.agg_mapping.proofs.collected.Collected.with_field.Goals as goal

pub invariant_of-result : goal.invariant_of-result
invariant_of-result c =
    let longer : length c.push.new.self ≡ length c.args.self.fields + 1 = ap length c.in_ok-push.ensures.ok ∙ length_push c.args.self.fields c.args.field in
    record { few = omega (arith, longer, room c.args.self c.requires) }

pub returns : goal.returns
unfolding arranged
returns c = rw (c.in_ok-push.ensures.ok, sorted-last (λ (f : FoundField). f.path) c.args.self.fields c.args.field)
