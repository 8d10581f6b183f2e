use Rattle.std.proofs.Common.{◌<◌, [], ◌++◌, List, flat_map, length, map, take, sym, ◌∙◌, ap, arith, rules, ◌≡◌, ◌+◌}
use Rattle.std.proofs.lemmas.List.Elements.{All-append, All-from_get_or, All-nil, All-same}
use Rattle.agg_evaluation.specs.Rows.{PlacedRow, beneath, row_of}
use Rattle.list_laws.proofs.Lists.{map-append}
use Rattle.nested_agg.proofs.Lists.{given_more, given_all}
use Rattle.nested_agg.proofs.beneath.rows_beneath.Goals as goal

pub loop-row-init : goal.loop-row-init
loop-row-init c = (
  ap (map (row_of c.args.shard.now.rows)) c.new-found.ensures.items,
  All-same (λ n. n < length c.args.shard.now.rows) c.new-found.result.items [] c.new-found.ensures.items (All-nil _),
)

pub loop-row-preserved : goal.loop-row-preserved
loop-row-preserved c =
    let rows = c.args.shard.now.rows in
    let items = c.args.rows.now in
    let before = flat_map (beneath rows (c.args.path + 1)) (map (row_of rows) (take c.loop-row.row-index items)) in
    let own = c.children.result.now in
    let more : c.extend_from_slice.new.self.items ≡ c.loop-row.found.items ++ own = search rules in (
      ap (map (row_of rows)) more ∙ map-append (row_of rows) c.loop-row.found.items own
          ∙ ap (λ (rs : List PlacedRow). rs ++ map (row_of rows) own) c.loop-row.invariant.0
          ∙ ap (λ (rs : List PlacedRow). before ++ rs) c.children.ensures.rows
          ∙ sym (given_more (row_of rows) (beneath rows (c.args.path + 1)) items c.loop-row.row-index 0 c.loop-row-test.true),
      All-same (λ n. n < length rows) c.extend_from_slice.new.self.items (c.loop-row.found.items ++ own) more
          (All-append (λ n. n < length rows) c.loop-row.found.items own c.loop-row.invariant.1 (All-from_get_or (λ n. n < length rows) own 0 c.children.ensures.numbers)),
    )

pub returns-clause-rows : goal.returns-clause-rows
returns-clause-rows c =
    let rows = c.args.shard.now.rows in
    ap (map (row_of rows)) c.from_vec.ensures ∙ c.loop-row.invariant.0
    ∙ given_all (row_of rows) (beneath rows (c.args.path + 1)) c.args.rows.now c.loop-row.row-index (omega (arith, c.loop-row-test.false))

pub returns-clause-in_range : goal.returns-clause-in_range
returns-clause-in_range c = All-same (λ n. n < length c.args.shard.now.rows) c.from_vec.result c.loop-row.found.items c.from_vec.ensures c.loop-row.invariant.1
