-- The derived tests of kinds and of aggregations say that what passes is one and the same.
use Rattle.std.specs.Prelude.{◌≡◌, refl, Bool, true, List, [], ◌∷◌}
use Rattle.std.specs.Cmp.{first_so, second_so}
use Rattle.std.specs.Cmp.Lexicographic.{pointwise}
use Rattle.std.proofs.Common.{◌∙◌, sym, ap}
use Rattle.agg_model.specs.contracts.aggregation.AggPartialEq.TheImpl as agg_eq
use Rattle.agg_model.specs.contracts.aggregation.AggPartialEq.TheImpl.Laws as agg_laws
use Rattle.agg_model.specs.contracts.aggregation.BoundsPartialEq.TheImpl as bounds_eq
use Rattle.agg_model.specs.contracts.aggregation.CompositeSourcePartialEq.TheImpl as source_eq
use Rattle.agg_model.specs.contracts.aggregation.Kind as kind_type
use Rattle.agg_model.specs.contracts.aggregation.KindPartialEq.TheImpl as kind_eq
use Rattle.agg_model.specs.contracts.aggregation.OrderPartialEq.TheImpl as order_eq
use Rattle.agg_model.specs.contracts.aggregation.OrderBy as by_type
use Rattle.agg_model.specs.contracts.aggregation.OrderByPartialEq.TheImpl as by_eq
use Rattle.agg_model.specs.declared.aggregation.Agg.{Agg, Agg', Row_of-Agg, end_of-Agg, more_of-Agg, items-the_row-Agg, items_shown-the_row-Agg-0, roll-Agg, roll-out-Agg}
use Rattle.agg_model.specs.declared.aggregation.Agg.TheBlock.{shown-the_row-Agg-0}
use Rattle.date_spec.specs.contracts.period.Period as period_type
use Rattle.date_spec.specs.contracts.period.PeriodPartialEq.TheImpl as period_eq
use Rattle.agg_evaluation.proofs.Computing.{computing}
use Rattle.search_equality.proofs.EqualKeys.{key-one, probe-one, scalar-one}
use Rattle.search_equality.proofs.EqualParts.{AreOne, apart, field, flag-one, items-one, last, no_field, number-one, option-one, text-one, variants-one, whole-one}
use Rattle.search_equality.proofs.EqualQueries.{query-one}

by-one : AreOne (by_eq.ghosts).eq
by-one = variants-one by_type.the_type _ (λ a. refl) _ (no_field, (no_field, (last number-one, tt)))

order-one : AreOne (order_eq.ghosts).eq
order-one a b e =
    let by = by-one a.by b.by (first_so _ _ e) in
    let descending = flag-one a.descending b.descending (second_so _ _ e) in
    λ i. record { by = by i; descending = descending i }

bounds-one : AreOne (bounds_eq.ghosts).eq
bounds-one a b e =
    let least = option-one whole-one a.min b.min (first_so _ _ e) in
    let greatest = option-one whole-one a.max b.max (second_so _ _ e) in
    λ i. record { min = least i; max = greatest i }

period-one : AreOne (period_eq.ghosts).eq
period-one = variants-one period_type.the_type _ (λ a. refl) _ (last number-one, (no_field, (no_field, (no_field, (no_field, tt)))))

source-one : AreOne (source_eq.ghosts).eq
source-one a b e =
    let name = text-one a.name b.name (first_so _ _ e) in
    let rest = second_so _ _ e in
    let place = number-one a.field b.field (first_so _ _ rest) in
    let rest = second_so _ _ rest in
    let interval = option-one number-one a.interval b.interval (first_so _ _ rest) in
    let rest = second_so _ _ rest in
    let descending = flag-one a.descending b.descending (first_so _ _ rest) in
    let missing = flag-one a.missing_bucket b.missing_bucket (second_so _ _ rest) in
    λ i. record { name = name i; field = place i; interval = interval i; descending = descending i; missing_bucket = missing i }

-- kinds differ where their variants do, and else field by field
kind-one : AreOne (kind_eq.ghosts).eq
kind-one =
    let orders = items-one order-one in
    let missing = option-one scalar-one in
    let probes = items-one probe-one in
    let ends = field bounds-one (field bounds-one (field flag-one (field orders (last missing)))) in
    let metric = field number-one (last missing) in
    variants-one kind_type.the_type _ (λ a. refl) _ (
      field number-one (field number-one (field number-one (field number-one (field orders (field (option-one probes) (field probes (field missing (last flag-one)))))))),
      (
        field number-one (field number-one (field number-one (field number-one ends))),
        (
          field number-one (field period-one (field whole-one (field number-one ends))),
          (
            field (option-one (items-one text-one)) (field (items-one query-one) (last (option-one text-one))),
            (
              last query-one,
              (
                last number-one,
                (
                  no_field,
                  (
                    last number-one,
                    (
                      last number-one,
                      (
                        field (items-one source-one) (field number-one (last (option-one key-one))),
                        (metric, (metric, (metric, (metric, (metric, tt))))),
                      ),
                    ),
                  ),
                ),
              ),
            ),
          ),
        ),
      ),
    )

abbrev pub equal_aggs : Agg → Agg → Bool
equal_aggs = (agg_eq.ghosts).eq

mutual
  unfolding computing

  level-one : (a b : Agg) → agg_laws.unfolded a b ≡ true → a ≡ b
  level-one (Agg' name k n children) (Agg' other l m others) e =
      let named = text-one name other (first_so _ _ e) in
      let rest = second_so _ _ e in
      let kind = kind-one k l (first_so _ _ rest) in
      let shown = ap (λ xs. pointwise equal_aggs xs (shown-the_row-Agg-0 m others)) (items_shown-the_row-Agg-0 n children) in
      let parts = items_shown-the_row-Agg-0 n children ∙ parts-one children (shown-the_row-Agg-0 m others) (sym shown ∙ second_so _ _ rest) in
      sym (roll-out-Agg (Agg' name k n children))
      ∙ (λ i. roll-Agg (record { name = named i; kind = kind i; children = parts i }))
      ∙ roll-out-Agg (Agg' other l m others)

  parts-one : {m : _} (as' : Row_of-Agg m) (bs : List Agg) → pointwise equal_aggs (items-the_row-Agg m as') bs ≡ true → items-the_row-Agg m as' ≡ bs
  parts-one end_of-Agg [] e = refl
  parts-one end_of-Agg (b ∷ bs) e = apart e
  parts-one (more_of-Agg a as') [] e = apart e
  parts-one (more_of-Agg a as') (b ∷ bs) e =
      let first = level-one a b (sym (agg_laws.is a b) ∙ first_so _ _ e) in
      let rest = parts-one as' bs (second_so _ _ e) in
      λ i. first i ∷ rest i

pub agg-one : AreOne equal_aggs
agg-one a b e = level-one a b (sym (agg_laws.is a b) ∙ e)
