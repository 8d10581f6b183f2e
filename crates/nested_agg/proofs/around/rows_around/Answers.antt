use Rattle.std.proofs.Common.{◌<◌, ◌+◌, ◌++◌, ◌∷◌, ℕ, List, length, map, take, [], Some, None, sym, ◌∙◌, ap, subst}
use Rattle.std.proofs.lemmas.List.Elements.{All-nil, All-push, All-same}
use Rattle.agg_evaluation.specs.Rows.{enclosing, row_of}
use Rattle.nested_agg.proofs.Lists.{all_of}
use Rattle.nested_agg.proofs.Steps.{AreFound, found_none, found_are, are_these, is_last, is_other, found_no_more, found_again, found_one_more}
use Rattle.nested_agg.proofs.around.rows_around.Goals.{in-Some+then-ne+in_ok-push, in-Some+else-ne, in_default}
use Rattle.nested_agg.proofs.around.rows_around.Goals as goal

pub loop-row-init : goal.loop-row-init
loop-row-init c = record {
  found = subst (λ (ns : List ℕ). AreFound c.args.shard.now.rows c.args.context [] ns None) (sym c.new-found.ensures) (found_none c.args.shard.now.rows c.args.context);
  in_range = All-same (λ n. n < length c.args.shard.now.rows) c.new-found.result [] c.new-found.ensures (All-nil _);
}

pub loop-row-preserved : goal.loop-row-preserved
loop-row-preserved c =
    let s = c.args.shard.now in
    let items = c.args.rows.now in
    let i = c.loop-row.row-index in
    let context = c.args.context in
    let in_range = c.requires.in_range in
    let rising = c.requires.ascending in
    let found = c.loop-row.found in
    let last = c.loop-row.last in
    let was = c.loop-row.invariant.found in
    elim c.match-around.branch [
      | in-Some+then-ne+in_ok-push w ↦
          let outer = w.in-Some.outer in
          record {
            found = are_these s.rows context (take (i + 1) items) c.match-around.found (found ++ outer ∷ []) c.match-around.last (Some outer) (w.found-is ∙ w.in_ok-push.ensures.ok) w.last-is
                (found_one_more s c.requires.built c.requires.apart context items i c.loop-row-test.true in_range rising c.around.result c.around.ensures.number c.around.ensures.only outer w.in-Some.is found last was (is_other last outer w.if-ne.ensures));
            in_range = All-same (λ n. n < length s.rows) c.match-around.found (found ++ outer ∷ []) (w.found-is ∙ w.in_ok-push.ensures.ok)
                (All-push (λ n. n < length s.rows) found outer c.loop-row.invariant.in_range w.in-Some.ensures.number);
          }
      | in-Some+else-ne w ↦
          let outer = w.in-Some.outer in
          record {
            found = are_these s.rows context (take (i + 1) items) c.match-around.found found c.match-around.last last w.found-is w.last-is
                (found_again s c.requires.built c.requires.apart context items i c.loop-row-test.true in_range rising c.around.result c.around.ensures.number c.around.ensures.only outer w.in-Some.is found last was (is_last last outer w.if-ne.ensures));
            in_range = All-same (λ n. n < length s.rows) c.match-around.found found w.found-is c.loop-row.invariant.in_range;
          }
      | in_default w ↦ record {
        found = are_these s.rows context (take (i + 1) items) c.match-around.found found c.match-around.last last w.found-is w.last-is
            (found_no_more s c.requires.built c.requires.apart context items i c.loop-row-test.true in_range rising c.around.result c.around.ensures.number c.around.ensures.only found last was w.in_default.is);
        in_range = All-same (λ n. n < length s.rows) c.match-around.found found w.found-is c.loop-row.invariant.in_range;
      }
    ]

pub returns-clause-rows : goal.returns-clause-rows
returns-clause-rows c =
    let rows = c.args.shard.now.rows in
    found_are rows c.args.context _ c.loop-row.found c.loop-row.last c.loop-row.invariant.found
    ∙ ap (λ (ns : List ℕ). enclosing rows c.args.context (map (row_of rows) ns)) (all_of c.args.rows.now c.loop-row.row-index c.loop-row-test.false)

pub returns-clause-in_range : goal.returns-clause-in_range
returns-clause-in_range c = c.loop-row.invariant.in_range
