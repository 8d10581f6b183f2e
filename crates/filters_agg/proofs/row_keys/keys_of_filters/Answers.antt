use Rattle.std.proofs.lemmas.Bool.{false≢true}
use Rattle.std.proofs.Common.{◌≡◌, refl, ◌++◌, ◌∷◌, [], ℕ, List, length, map, take, sym, ◌∙◌, ap, arith}
use Rattle.std.proofs.lemmas.List.{length-map, take_all}
use Rattle.list_laws.proofs.Lists.{map-append}
use Rattle.agg_model.specs.declared.key.Key.{Key}
use Rattle.agg_model.specs.declared.key.Key.TheVariants.{Fixed}
use Rattle.agg_model.specs.declared.query.Query.{Query}
use Rattle.agg_evaluation.specs.Matching.{matches}
use Rattle.agg_evaluation.specs.Rows.{row_of}
use Rattle.filters_agg.specs.Numbers.{true_places}
use Rattle.filters_agg.proofs.Numbers.{places-hit, places-missed, numbers-some, numbers-alone, numbers-rest}
use Rattle.filters_agg.proofs.row_keys.keys_of_filters.Goals as goal
use Rattle.filters_agg.proofs.row_keys.keys_of_filters.Goals.{then-matches+in_ok-push, else-matches, then-has_other+then-is_empty+in_ok-push-2, else-has_other, else-has_other-via-then-has_other+else-is_empty, else-has_other-via-else-has_other}

no_item : (ns : List ℕ) → length ns ≡ 0 → ns ≡ []
no_item [] e = refl
no_item (n ∷ ns) e = absurd (omega arith)

pub loop-place-preserved : goal.loop-place-preserved
loop-place-preserved c =
    let rows = c.args.shard.now.rows in
    let items = c.as_slice-filter-items.result.now in
    let i = c.loop-place.place in
    let holds = λ (q : Query). matches rows q (row_of rows c.args.row) in
    let x = c.filter-item.result in
    elim c.if-matches.branch [
      | then-matches+in_ok-push w ↦
          w.keys-is
          ∙ (w.in_ok-push.ensures.ok
          ∙ (ap (λ (ks : List Key). ks ++ Fixed i ∷ []) c.loop-place.invariant
          ∙ sym (ap (map Fixed) (places-hit holds items i x c.loop-place-test.true c.filter-item.is (sym c.matches.ensures ∙ w.if-matches.true)) ∙ map-append Fixed (true_places (map holds (take i items))) (i ∷ []))))
      | else-matches w ↦
          w.keys-is ∙ (c.loop-place.invariant ∙ sym (ap (map Fixed) (places-missed holds items i x c.loop-place-test.true c.filter-item.is (sym c.matches.ensures ∙ w.if-matches.false))))
    ]

pub returns : goal.returns
returns c =
    let rows = c.args.shard.now.rows in
    let items = c.as_slice-filter-items.result.now in
    let holds = λ (q : Query). matches rows q (row_of rows c.args.row) in
    let all = take_all c.loop-place.place items c.loop-place-test.false ∙ c.as_slice-filter-items.ensures in
    let places = c.loop-place.invariant ∙ ap (λ (qs : List Query). map Fixed (true_places (map holds qs))) all in
    let bs = map holds c.args.filters.now in
    elim c.if-has_other.branch [
      | then-has_other+then-is_empty+in_ok-push-2 w ↦
          let none : length (true_places bs) ≡ 0 = sym (ap length places ∙ length-map (true_places bs) Fixed) ∙ ap length (w.is_empty.ensures.0 w.if-is_empty.true) in
          w.keys-is
          ∙ (w.in_ok-push-2.ensures.ok
          ∙ ((λ j. places j ++ Fixed ((w.len.ensures ∙ sym (length-map c.args.filters.now holds)) j) ∷ [])
          ∙ sym (ap (map Fixed) (numbers-rest c.args.has_other bs w.if-has_other.true none) ∙ map-append Fixed (true_places bs) (length bs ∷ []))))
      | else-has_other w ↦ w.keys-is ∙ elim w.else-has_other.branch [
        | else-has_other-via-then-has_other+else-is_empty v ↦
            places ∙ sym (ap (map Fixed) (numbers-some c.args.has_other bs (λ none.
            false≢true (sym v.if-is_empty.false ∙ v.is_empty.ensures.1 (places ∙ ap (map Fixed) (no_item (true_places bs) none))))))
        | else-has_other-via-else-has_other v ↦ places ∙ sym (ap (map Fixed) (numbers-alone c.args.has_other bs v.if-has_other.false))
      ]
    ]
