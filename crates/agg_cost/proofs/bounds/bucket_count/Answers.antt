use Rattle.std.proofs.Common.{◌≡◌, ◌+◌, ℕ, List, length, refl, sym, ◌∙◌, ap, arith}
use Rattle.std.specs.Prelude.{Option, Some, None, is_some}
use mir.Val.{bool_byte}
use Rattle.std.specs.Option.{option_map_or}
use Rattle.std.proofs.lemmas.List.FromFn.{length-map-range_with_len}
use Rattle.agg_model.specs.declared.key.Key.TheVariants as key
use Rattle.agg_model.specs.declared.aggregation.Kind.{Kind}
use Rattle.agg_model.specs.declared.aggregation.Kind.TheVariants as kind
use Rattle.agg_evaluation.specs.Ceiling.{bucket_bound}
use Rattle.agg_evaluation.specs.Shard.{fixed_keys}
use Rattle.agg_evaluation.specs.Whole.{shape_of}
use Rattle.agg_cost.specs.Capped.{capped, Alike}
use Rattle.agg_cost.proofs.Capping.{alike_capped, alike-mul}
use Rattle.agg_cost.proofs.bounds.bucket_count.Goals as goal

with_other : (n : ℕ) (other : Option (List ℕ)) → n + bool_byte (is_some other) ≡ option_map_or (λ name. n + 1) other n
with_other n (Some name) = refl
with_other n None = omega arith

pub returns-in-Filters : goal.returns-in-Filters
returns-in-Filters c =
    let filters = c.in-Filters.filters in
    let other = c.in-Filters.other in
    let nodes = c.args.nodes in
    let number : Alike c.saturating_add-number.result (length (fixed_keys (kind.Filters c.in-Filters.names filters other))) =
    ap capped (c.saturating_add-number.ensures ∙ (λ i. capped (c.len.ensures i + (c.from.ensures ∙ ap bool_byte c.is_some.ensures) i)))
    ∙ (alike_capped _ ∙ ap capped (with_other (length filters) other ∙ sym (length-map-range_with_len key.Fixed 0 _))) in
    λ kinds rows.
    c.saturating_mul.ensures
    ∙ (alike-mul nodes nodes c.saturating_add-number.result (length (fixed_keys (kind.Filters c.in-Filters.names filters other))) refl number
    ∙ ap (λ (k : Kind). capped (bucket_bound kinds rows k (shape_of k) nodes c.args.paths)) (sym c.in-Filters.is))
