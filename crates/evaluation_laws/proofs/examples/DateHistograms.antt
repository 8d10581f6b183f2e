-- Date histograms of one shard. Field 1 is d (date).
use Rattle.std.specs.Prelude.{◌≡◌, refl, ℤ, pos, neg_ℤ, false, List, [], ◌∷◌, Some, None, codes}
use Rattle.date_spec.specs.declared.period.Period.{Period}
use Rattle.date_spec.specs.declared.period.Period.TheVariants.{Fixed, Week, Month}
use Rattle.date_spec.specs.Periods.{month_of_day, first_day}
use Rattle.date_spec.proofs.Computing.{computing as computing_dates}
use Rattle.agg_model.specs.declared.key.Key.TheVariants as key
use Rattle.agg_model.specs.declared.query.Query.TheVariants as query
use Rattle.agg_model.specs.declared.aggregation.Bounds.{Bounds}
use Rattle.agg_model.specs.declared.aggregation.Kind.TheVariants as kind
use Rattle.agg_model.specs.declared.aggregation.Search.{Search}
use Rattle.agg_evaluation.specs.Rows.{PlacedRow, shard_rows}
use Rattle.agg_evaluation.specs.Keys.{no_bounds}
use Rattle.agg_evaluation.specs.Shard.{shard_answer}
use Rattle.agg_evaluation.proofs.Computing.{computing}
use Rattle.evaluation_laws.proofs.Samples.{numbers, flat, document, by_key, bounds, agg, search_of, bucket, keyed, result}

-- the last millisecond before 1970, the last of 2024-02, and the first of 2024-03
abbrev three : List PlacedRow
three = shard_rows
    (document (codes "1") (flat (numbers 1 (neg_ℤ (pos 1) ∷ []) ∷ []))
    ∷ document (codes "2") (flat (numbers 1 (pos 1709251199999 ∷ []) ∷ []))
    ∷ document (codes "3") (flat (numbers 1 (pos 1709251200000 ∷ []) ∷ []))
    ∷ [])

abbrev periods : Period → ℤ → Bounds → Search
periods period zone hard = search_of query.All ((agg (codes "h") (kind.DateHistogram 1 period zone 0 no_bounds hard false by_key None) []) ∷ [])

months_end_with_their_last_day : shard_answer (periods Month (pos 0) no_bounds) three
    ≡ result 3 ((keyed (bucket (key.Whole (neg_ℤ (pos 2678400000))) 1 [] ∷ bucket (key.Whole (pos 1706745600000)) 1 [] ∷ bucket (key.Whole (pos 1709251200000)) 1 [] ∷ [])) ∷ [])
unfolding computing computing_dates month_of_day first_day
months_end_with_their_last_day = refl

-- an hour ahead of UTC the last millisecond before 1970 lies on its first day, and that of February in March
days_of_a_zone : shard_answer (periods (Fixed 86_400_000) (pos 3_600_000) no_bounds) three
    ≡ result 3 ((keyed (bucket (key.Whole (neg_ℤ (pos 3600000))) 1 [] ∷ bucket (key.Whole (pos 1709247600000)) 2 [] ∷ [])) ∷ [])
unfolding computing
days_of_a_zone = refl

-- the key is compared, not the value: the week of 2024-03-01 begins on Monday 2024-02-26
hard_bounds_drop_weeks : shard_answer (periods Week (pos 0) (bounds (Some (pos 0)) (Some (pos 1708905600000)))) three
    ≡ result 3 ((keyed (bucket (key.Whole (pos 1708905600000)) 2 [] ∷ [])) ∷ [])
unfolding computing
hard_bounds_drop_weeks = refl
