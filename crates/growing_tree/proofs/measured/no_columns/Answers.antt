use Rattle.std.proofs.Common.{◌≡◌, [], All, List, ap, arith, length, subst, sym}
use Rattle.std.proofs.lemmas.List.Elements.{All-nil, All-push}
use Rattle.std.specs.Global.{Vec}
use Rattle.agg_model.specs.declared.partial.Metric.{Metric}
use Rattle.growing_tree.proofs.measured.no_columns.Goals as goal

abbrev IsEmpty : Vec Metric → Type 0
IsEmpty column = column.items ≡ []

pub loop-column-init : goal.loop-column-init
loop-column-init c = record {
  many = ap (λ (columns : List (Vec Metric)). length columns) c.in_ok-columns.ensures.items;
  empty = subst (All IsEmpty) (sym c.in_ok-columns.ensures.items) (All-nil IsEmpty);
}

pub loop-column-preserved : goal.loop-column-preserved
loop-column-preserved c = record {
  many = let l = c.in_ok-push.ensures.len in let o = c.push.new.self.ok in let b = c.loop-column.columns.ok in omega (arith, l, o, b, c.loop-column.invariant.many);
  empty = subst (All IsEmpty) (sym c.in_ok-push.ensures.items) (All-push IsEmpty c.loop-column.columns.items c.new.result c.loop-column.invariant.empty c.new.ensures.items);
}
