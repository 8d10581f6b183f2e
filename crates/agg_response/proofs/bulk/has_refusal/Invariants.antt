use Rattle.std.proofs.Common.{◌≡◌, drop}
use Rattle.std.specs.List.{list_any}
use Rattle.agg_spec.specs.BulkLine.{is_refusal}
use Rattle.agg_response.proofs.bulk.has_refusal.Given as goal

-- what is left answers for all
abbrev pub invariant-loop-place : goal.invariant-loop-place
invariant-loop-place l = list_any (λ i. is_refusal i.end) (drop l.place l.items) ≡ list_any (λ i. is_refusal i.end) l.items
