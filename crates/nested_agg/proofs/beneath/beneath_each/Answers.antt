use Rattle.std.proofs.Common.{◌≡◌, ◌<◌, ◌+◌, [], ◌∷◌, ◌++◌, ℕ, List, flat_map, get_or, length, map, take, sym, ◌∙◌, ap, subst, arith, rules}
use Rattle.std.proofs.lemmas.List.{length-map, take-map}
use Rattle.std.proofs.lemmas.List.Elements.{All-append, All-from_get_or, All-nil, All-same}
use Rattle.agg_evaluation.specs.Rows.{PlacedRow, beneath, row_of}
use Rattle.list_laws.proofs.Lists.{map-append}
use Rattle.nested_agg.specs.Ends.{beneath_first}
use Rattle.nested_agg.proofs.Ends.{ends-more}
use Rattle.nested_agg.proofs.Lists.{given_more, given_all}
use Rattle.nested_agg.proofs.beneath.beneath_each.Goals as goal

pub loop-row-init : goal.loop-row-init
loop-row-init c = record {
  rows = ap (map (row_of c.args.shard.now.rows)) c.new-found.ensures.items;
  in_range = All-same (λ n. n < length c.args.shard.now.rows) c.new-found.result.items [] c.new-found.ensures.items (All-nil _);
  many = search rules;
  ends = λ n below. absurd (omega arith);
}

pub loop-row-preserved : goal.loop-row-preserved
loop-row-preserved c =
    let rows = c.args.shard.now.rows in
    let items = c.args.rows.now in
    let i = c.loop-row.row-index in
    let inside = beneath rows (c.args.path + 1) in
    let before = flat_map inside (map (row_of rows) (take i items)) in
    let own = c.children-children.result.now in
    let found = c.extend_from_slice.new.self.items in
    let more : found ≡ c.loop-row.found.items ++ own = search rules in
    let found_is : map (row_of rows) found ≡ flat_map inside (map (row_of rows) (take (i + 1) items)) =
    ap (map (row_of rows)) more ∙ map-append (row_of rows) c.loop-row.found.items own
    ∙ ap (λ (rs : List PlacedRow). rs ++ map (row_of rows) own) c.loop-row.invariant.rows
    ∙ ap (λ (rs : List PlacedRow). before ++ rs) c.children-children.ensures.rows
    ∙ sym (given_more (row_of rows) inside items i 0 c.loop-row-test.true) in
    let counted : c.len.result ≡ length found = omega (arith, c.len.ensures, c.extend_from_slice.new.self.ok) in
    let end_is : c.len.result ≡ length (beneath_first rows (c.args.path + 1) (map (row_of rows) items) (i + 1)) =
    counted ∙ sym (length-map found (row_of rows)) ∙ ap length found_is ∙ ap (λ rs. length (flat_map inside rs)) (sym (take-map (row_of rows) (i + 1) items)) in
    record {
      rows = found_is;
      in_range = All-same (λ n. n < length rows) found (c.loop-row.found.items ++ own) more
          (All-append (λ n. n < length rows) c.loop-row.found.items own c.loop-row.invariant.in_range (All-from_get_or (λ n. n < length rows) own 0 c.children-children.ensures.numbers));
      many = search rules;
      ends = λ n below.
          let pushed : c.push.new.self.items ≡ c.loop-row.ends.items ++ c.len.result ∷ [] = search rules in
          ap (λ xs. get_or xs n 0) pushed ∙ ends-more (λ count. length (beneath_first rows (c.args.path + 1) (map (row_of rows) items) count)) c.loop-row.ends.items i c.len.result c.loop-row.invariant.many c.loop-row.invariant.ends end_is n below;
    }
