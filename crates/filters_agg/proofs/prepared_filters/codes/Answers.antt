use Rattle.std.proofs.Common.{◌≡◌, ◌++◌, ◌∷◌, [], ℕ, ℤ, List, length, map, pos, take, sym, ◌∙◌, ap, arith, rules, vec_len, eq-eqb}
use mir.Syntax.{w64}
use Rattle.std.proofs.lemmas.Int.{to_z_pos}
use Rattle.std.proofs.lemmas.Bool.{false≢true, eqb-true}
use Rattle.std.proofs.lemmas.List.{length-map, take_all}
use Rattle.list_laws.proofs.Lists.{map-append, map-map}
use Rattle.agg_model.specs.declared.key.Key.TheVariants.{Fixed}
use Rattle.agg_evaluation.specs.Rows.{row_of}
use Rattle.column_query.specs.Prepared.{says}
use Rattle.column_query.specs.declared.prepared.Prepared.{Prepared}
use Rattle.filters_agg.specs.Numbers.{true_places}
use Rattle.filters_agg.specs.PreparedFilters.{key_of}
use Rattle.filters_agg.proofs.Numbers.{places-hit, places-missed, numbers-some, numbers-alone, numbers-rest}
use Rattle.filters_agg.proofs.prepared_filters.codes.Goals as goal
use Rattle.filters_agg.proofs.prepared_filters.codes.Goals.{then-is_match+in_ok-push, else-is_match, else-prepared-via-then-prepared+else-is_empty, else-prepared-via-else-prepared}

pub loop-place-preserved : goal.loop-place-preserved
loop-place-preserved c =
    let rows = c.args.shard.now.rows in
    let items = c.as_slice-filter-items.result.now in
    let i = c.loop-place.place in
    let holds = λ (q : Prepared). says rows q (row_of rows c.args.row) in
    let x = c.filter-item.result in
    elim c.if-is_match.branch [
      | then-is_match+in_ok-push w ↦
          ap (λ (v : _). v.items) w.codes-is
          ∙ (w.in_ok-push.ensures.items
          ∙ ((λ j. c.loop-place.invariant j ++ to_z_pos w64 i (let long = ap length c.as_slice-filter-items.ensures in omega (arith, c.loop-place-test.true, c.requires.few)) j ∷ [])
          ∙ sym (ap (map pos) (places-hit holds items i x c.loop-place-test.true c.filter-item.is (sym c.is_match.ensures ∙ w.if-is_match.true)) ∙ map-append pos (true_places (map holds (take i items))) (i ∷ []))))
      | else-is_match w ↦
          ap (λ (v : _). v.items) w.codes-is
          ∙ (c.loop-place.invariant ∙ sym (ap (map pos) (places-missed holds items i x c.loop-place-test.true c.filter-item.is (sym c.is_match.ensures ∙ w.if-is_match.false))))
    ]

pub returns-in_ok-push-2-clause-numbers : goal.returns-in_ok-push-2-clause-numbers
returns-in_ok-push-2-clause-numbers c =
    let rows = c.args.shard.now.rows in
    let items = c.as_slice-filter-items.result.now in
    let holds = λ (q : Prepared). says rows q (row_of rows c.args.row) in
    let all = take_all c.loop-place.place items c.loop-place-test.false ∙ c.as_slice-filter-items.ensures in
    let places = c.loop-place.invariant ∙ ap (λ (qs : List Prepared). map pos (true_places (map holds qs))) all in
    let bs = map holds c.args.prepared.now.filters in
    let long : length c.loop-place.codes.items ≡ vec_len c.loop-place.codes = search rules in
    let short = long ∙ eqb-true (vec_len c.loop-place.codes) 0 (sym c.is_empty.ensures ∙ c.if-is_empty.true) in
    let number = to_z_pos w64 c.len.result (omega (arith, c.len.ensures, c.requires.few)) ∙ ap pos (c.len.ensures ∙ sym (length-map c.args.prepared.now.filters holds)) in
    let none : length (true_places bs) ≡ 0 = sym (ap length places ∙ length-map (true_places bs) pos) ∙ short in
    c.in_ok-push-2.ensures.items
    ∙ ((λ j. places j ++ number j ∷ [])
    ∙ sym (ap (map pos) (numbers-rest c.args.prepared.now.has_other bs c.if-prepared.true none) ∙ map-append pos (true_places bs) (length bs ∷ [])))

pub returns-else-prepared-clause-numbers : goal.returns-else-prepared-clause-numbers
returns-else-prepared-clause-numbers c =
    let rows = c.args.shard.now.rows in
    let items = c.as_slice-filter-items.result.now in
    let holds = λ (q : Prepared). says rows q (row_of rows c.args.row) in
    let all = take_all c.loop-place.place items c.loop-place-test.false ∙ c.as_slice-filter-items.ensures in
    let places = c.loop-place.invariant ∙ ap (λ (qs : List Prepared). map pos (true_places (map holds qs))) all in
    let bs = map holds c.args.prepared.now.filters in
    elim c.else-prepared.branch [
      | else-prepared-via-then-prepared+else-is_empty w ↦ places ∙ sym (ap (map pos) (numbers-some c.args.prepared.now.has_other bs (λ none.
          let long : length c.loop-place.codes.items ≡ vec_len c.loop-place.codes = search rules in
          let short = sym long ∙ (ap length places ∙ (length-map (true_places bs) pos ∙ none)) in
          false≢true (sym w.if-is_empty.false ∙ (w.is_empty.ensures ∙ eq-eqb (vec_len c.loop-place.codes) 0 short)))))
      | else-prepared-via-else-prepared w ↦ places ∙ sym (ap (map pos) (numbers-alone c.args.prepared.now.has_other bs w.if-prepared.false))
    ]

keys_of_codes : (codes : List ℤ) (ns : List ℕ) → codes ≡ map pos ns → map key_of codes ≡ map Fixed ns
keys_of_codes codes ns are = ap (map key_of) are ∙ map-map key_of pos ns

pub returns-in_ok-push-2-clause-keys : goal.returns-in_ok-push-2-clause-keys
returns-in_ok-push-2-clause-keys c = λ kind ready. keys_of_codes _ _ (returns-in_ok-push-2-clause-numbers c) ∙ ready.same c.args.row

pub returns-else-prepared-clause-keys : goal.returns-else-prepared-clause-keys
returns-else-prepared-clause-keys c = λ kind ready. keys_of_codes _ _ (returns-else-prepared-clause-numbers c) ∙ ready.same c.args.row
