-- Codes of a date histogram, and the keys that they stand for.
use Rattle.std.specs.Prelude.{◌≡◌, ℕ, ℤ, pos, neg_ℤ, ◌^◌, ◌+ℤ◌, ◌-ℤ◌, ◌*ℤ◌, ◌≤ℤ◌, ◌<ℤ◌, Bool, true, false, if◌then◌else◌, map, filter, flat_map, option_to_list}
use Rattle.std.proofs.Common.{refl, sym, ◌∙◌, ap, arith}
use Rattle.std.proofs.lemmas.Int.{ints, by_lt_z}
use Rattle.date_spec.specs.Periods.{start_of}
use Rattle.date_periods.specs.Reach.{IsCode}
use Rattle.date_periods.proofs.ReachLemmas.{code-local, earliest-least}
use Rattle.agg_model.specs.declared.aggregation.Kind.{Kind}
use Rattle.agg_model.specs.declared.aggregation.Spacing.TheVariants.{Dates}
use Rattle.agg_evaluation.specs.Keys.{distinct_keys, interval_key, is_between, keys, or_missing}
use Rattle.agg_evaluation.specs.Rows.{PlacedRow, row_of, values_of}
use Rattle.agg_evaluation.proofs.SpacingLaws.{period-is}
use Rattle.shard_columns.specs.Built.{IsShard}
use Rattle.shard_columns.specs.Columns.{Columns}
use Rattle.histogram_agg.specs.RowCodes.{row_codes}
use Rattle.histogram_agg.proofs.RowKeys.{keys-of}
use Rattle.histogram_agg.proofs.Rows.{values_ascend}
use Rattle.date_agg.specs.declared.prepared.PreparedDateHistogram.{PreparedDateHistogram}
use Rattle.date_agg.specs.Codes.{IsReady, is_code, key_of, number_at, start_at}
use Rattle.date_agg.specs.Dates.{HoldsDates}
use Rattle.date_agg.proofs.Fields.{row-instants}
use Rattle.date_agg.proofs.Instants.{apart}
use Rattle.date_agg.proofs.Standing.{code-is, row-keys}

abbrev far : ℤ → ℤ
far code = (code *ℤ pos (2 ^ 64)) +ℤ pos (2 ^ 63)

abbrev key_where : Bool → PreparedDateHistogram → ℤ → ℤ
key_where b p code = if b then start_at p code else far code

-- instants have 63 bits
near-start : (start zone : ℤ) → neg_ℤ (pos (2 ^ 62)) ≤ℤ start → start ≤ℤ pos 253_402_300_799_999 → neg_ℤ (pos 64_800_000) ≤ℤ zone → zone ≤ℤ pos 64_800_000
    → (neg_ℤ (pos (2 ^ 63)) <ℤ (start -ℤ zone)) × ((start -ℤ zone) <ℤ pos (2 ^ 63))
near-start start zone low high least most = (omega (arith, ints), omega (arith, ints))

-- and the keys of numbers that are no codes have more
not-far : (start code : ℤ) → neg_ℤ (pos (2 ^ 63)) <ℤ start → start <ℤ pos (2 ^ 63) → start ≡ far code → ⊥
not-far start code low high same = omega (arith, ints)

far-apart : (c d : ℤ) → far c ≡ far d → c ≡ d
far-apart c d same = omega (arith, ints)

module _ (p : PreparedDateHistogram) where
  start-near : (c : ℤ) → IsCode p.period p.zone c → (neg_ℤ (pos (2 ^ 63)) <ℤ start_at p c) × (start_at p c <ℤ pos (2 ^ 63))
  start-near c is =
      let local = code-local p.period p.zone (period-is p.period p.has_period) p.has_zone c is in
      near-start (start_of p.period c) p.zone (earliest-least p.period (start_of p.period c) local.0) local.1 p.has_zone.0 p.has_zone.1

  starts-apart : (c d : ℤ) → IsCode p.period p.zone c → IsCode p.period p.zone d → start_at p c ≡ start_at p d → c ≡ d
  starts-apart c d is-c is-d same =
      by_lt_z c d (λ less. let later = apart p.period p.zone (period-is p.period p.has_period) p.has_zone c d is-c less in absurd (omega (arith, ints, same, later)))
      (λ most. by_lt_z d c (λ less. let later = apart p.period p.zone (period-is p.period p.has_period) p.has_zone d c is-d less in absurd (omega (arith, ints, same, later))) (λ least. omega (arith, ints, most, least)))

  by_cases : (c d : ℤ) (a b : Bool) → is_code p c ≡ a → is_code p d ≡ b → key_where a p c ≡ key_where b p d → c ≡ d
  by_cases c d true true e f same = starts-apart c d (code-is p c e) (code-is p d f) same
  by_cases c d true false e f same = let near = start-near c (code-is p c e) in absurd (not-far (start_at p c) d near.0 near.1 same)
  by_cases c d false true e f same = let near = start-near d (code-is p d f) in absurd (not-far (start_at p d) c near.0 near.1 (sym same))
  by_cases c d false false e f same = far-apart c d same

pub keys-apart : (p : PreparedDateHistogram) (c d : ℤ) → key_of p c ≡ key_of p d → c ≡ d
keys-apart p c d same = by_cases p c d (is_code p c) (is_code p d) refl refl (let wholes : key_where (is_code p c) p c ≡ key_where (is_code p d) p d = cc same in wholes)

module _ (shard : Columns) (is : IsShard shard) (p : PreparedDateHistogram) (dates : HoldsDates shard p.field) (kind : Kind) (r : IsReady kind p) (n : ℕ) where
  abbrev row : PlacedRow
  row = row_of shard.rows n

  missing-is : map (key_of p) (option_to_list p.missing) ≡ filter (is_between r.options.hard) (distinct_keys (flat_map (interval_key (Dates p.period p.zone)) (option_to_list r.options.missing)))
  missing-is = r.missing ∙ (λ i. filter (is_between r.options.hard) (distinct_keys (flat_map (interval_key (r.spacing_is i)) (option_to_list r.options.missing))))

  -- the codes of the row stand for its keys
  pub codes-stand : map (key_of p) (row_codes p.missing (number_at p) (is_code p) (values_of p.field row)) ≡ keys shard.rows kind row
  codes-stand =
      row-keys p (is_between r.options.hard) r.codes_are p.missing r.options.missing missing-is (values_of p.field row) (values_ascend shard is p.field n) (row-instants shard is p.field dates n)
      ∙ (λ i. filter (is_between r.options.hard) (distinct_keys (flat_map (interval_key (sym r.spacing_is i)) (or_missing r.options.missing (values_of (r.field_is i) row)))))
      ∙ sym (keys-of shard.rows r.options row) ∙ ap (λ (k : Kind). keys shard.rows k row) (sym r.kind_is)
