use Rattle.std.proofs.Common.{◌≡◌, ◌++◌, map, drop}
use Rattle.agg_spec.specs.BulkLine.{item_value}
use Rattle.agg_response.specs.Tokens.{values_tokens}
use Rattle.agg_response.proofs.bulk.write_items.Given as goal

-- what stood before, and the tokens so far with those of the items that are left
abbrev pub invariant-loop-place : goal.invariant-loop-place
invariant-loop-place l = record {
  before : l.out.before ≡ l.initial.out.before;
  rest : l.out.tokens ++ values_tokens (map (item_value l.index) (drop l.place l.items))
      ≡ l.initial.out.tokens ++ values_tokens (map (item_value l.index) l.items);
}
