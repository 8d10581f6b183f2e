use Rattle.std.proofs.Common.{rules, ◌≡◌, sym, ◌∙◌, ap}
use Rattle.std.specs.Ordering.{is_lt}
use Rattle.std.proofs.lemmas.Fn.{always_returns_same, dedup_same}
use Rattle.agg_reading.specs.Rows.{finished_values}
use Rattle.document_rows.specs.Scalars.{scalar_order, same_word}
use Rattle.document_rows.proofs.Order.{finished_from_rising, finished_from_sort}
use Rattle.document_rows.proofs.values.in_order.Goals as goal

pub returns-then-is_sorted_by : goal.returns-then-is_sorted_by
returns-then-is_sorted_by c =
    let rising = c.if-is_sorted_by.ensures.cases (λ x y. is_lt (scalar_order x y)) (always_returns_same _ (λ a r. r ≡ is_lt (scalar_order a.0.now a.1.0.now)) _ (λ a r f k. search rules)) in
    finished_from_rising c.args.values c.requires (rw c.as_slice.ensures at rising)

pub returns : goal.returns
returns c =
    let joined = dedup_same _ same_word _ (λ x y b f' x' y' k. search rules) _ _ c.dedup_by.ensures.filtered in
    let sorted = finished_from_sort _ _ (rw (sym c.into_vec-values.ensures) at c.requires) c.in_ok-sort_by.ensures.sorted c.sort_by.ensures.stable (λ a r f k. search rules) in
    c.from_vec.ensures ∙ joined ∙ sorted ∙ ap finished_values c.into_vec-values.ensures
