-- Codes of a histogram of numbers, and the keys that they stand for.
use Rattle.std.specs.Prelude.{◌≡◌, refl, ℕ, zero, suc, ◌+◌, ◌*◌, ◌<◌, ℤ, pos, negsuc, ◌+ℤ◌, ◌-ℤ◌, ◌*ℤ◌, ◌≤ℤ◌, ◌<ℤ◌, List, [], ◌∷◌, map, filter, flat_map, option_to_list}
use Rattle.std.specs.List.{AllByRecursion}
use Rattle.std.proofs.Common.{sym, ◌∙◌, ap, arith}
use Rattle.std.proofs.lemmas.Int.{ints, by_lt_z}
use Rattle.std.proofs.Math.IntN.{suc_ℤ, suc_ℤ-*ℤ, +ℤ-suc_ℤ}
use Rattle.agg_model.specs.declared.aggregation.Kind.{Kind}
use Rattle.agg_model.specs.declared.aggregation.Spacing.{Spacing}
use Rattle.agg_model.specs.declared.aggregation.Spacing.TheVariants.{Numbers}
use Rattle.agg_evaluation.specs.Keys.{keys, or_missing, is_between, distinct_keys, interval_key}
use Rattle.agg_evaluation.specs.Rows.{PlacedRow, row_of, values_of}
use Rattle.agg_evaluation.specs.Spacings.{number_at}
use Rattle.shard_columns.specs.Built.{IsShard}
use Rattle.shard_columns.specs.Columns.{Columns}
use Rattle.histogram_agg.specs.declared.prepared.PreparedHistogram.{PreparedHistogram}
use Rattle.histogram_agg.specs.Codes.{start_of, key_of, IsReady}
use Rattle.histogram_agg.specs.RowCodes.{row_codes}
use Rattle.histogram_agg.proofs.RowKeys.{keys-of, row-keys}
use Rattle.histogram_agg.proofs.Rows.{values_ascend}
use Rattle.histogram_agg.proofs.Starts.{rising}

-- n intervals more
scaled : (t : ℤ) (n i : ℕ) → (t +ℤ pos n) *ℤ pos i ≡ (t *ℤ pos i) +ℤ pos (n * i)
scaled t zero i = ap (λ m. m *ℤ pos i) (let e : t +ℤ pos zero ≡ t = omega (arith, ints) in e) ∙ (let e : t *ℤ pos i ≡ (t *ℤ pos i) +ℤ pos (0 * i) = omega (arith, ints) in e)
scaled t (suc n) i =
    let more : t +ℤ pos (suc n) ≡ suc_ℤ (t +ℤ pos n) = +ℤ-suc_ℤ t (pos n) in
    let product : suc n * i ≡ n * i + i = omega arith in
    let step = suc_ℤ-*ℤ (t +ℤ pos n) (pos i) in
    let before = scaled t n i in
    ap (λ m. m *ℤ pos i) more ∙ omega (arith, ints)

less-by : (i o : ℕ) → 0 < i → (c d : ℤ) → c <ℤ d → (distance : ℤ) → d ≡ c +ℤ distance → start_of i o c <ℤ start_of i o d
less-by i o positive c d less (pos zero) e = absurd (omega (arith, ints))
less-by i o positive c d less (pos (suc n)) e =
    let more = scaled c (suc n) i in
    let product : suc n * i ≡ n * i + i = omega arith in
    let at : d *ℤ pos i ≡ (c +ℤ pos (suc n)) *ℤ pos i = ap (λ m. m *ℤ pos i) e in
    omega (arith, ints)
less-by i o positive c d less (negsuc n) e = absurd (omega (arith, ints))

-- a greater code has a later start
pub starts-rise : (i o : ℕ) → 0 < i → (c d : ℤ) → c <ℤ d → start_of i o c <ℤ start_of i o d
starts-rise i o positive c d less = less-by i o positive c d less (d -ℤ c) (omega (arith, ints))

starts-apart : (i o : ℕ) → 0 < i → (c d : ℤ) → start_of i o c ≡ start_of i o d → c ≡ d
starts-apart i o positive c d same =
    by_lt_z c d (λ less. let later = starts-rise i o positive c d less in absurd (omega (arith, ints, same, later)))
    (λ most. by_lt_z d c (λ less. let later = starts-rise i o positive d c less in absurd (omega (arith, ints, same, later))) (λ least. omega (arith, ints, most, least)))

pub keys-apart : (p : PreparedHistogram) (c d : ℤ) → key_of p c ≡ key_of p d → c ≡ d
keys-apart p c d same =
    let below = p.below in
    starts-apart p.interval p.offset (omega arith) c d (let starts : start_of p.interval p.offset c ≡ start_of p.interval p.offset d = cc same in starts)

-- a greater number has no lower code
codes-rise : (i o : ℕ) → 0 < i → (m n : ℤ) → m ≤ℤ n → number_at (Numbers i o) m ≤ℤ number_at (Numbers i o) n
codes-rise i o positive m n most =
    by_lt_z (number_at (Numbers i o) n) (number_at (Numbers i o) m)
    (λ less.
    let later = starts-rise i o positive (number_at (Numbers i o) n) (number_at (Numbers i o) m) less in
    let start = rising i o positive m n most in
    absurd (omega (arith, ints, later, start)))
    (λ h. h)

all_numbers : (ns : List ℤ) → AllByRecursion (λ n. Unit {0}) ns
all_numbers [] = tt
all_numbers (n ∷ ns) = (tt, all_numbers ns)

module _ (shard : Columns) (is : IsShard shard) (kind : Kind) (p : PreparedHistogram) (r : IsReady kind p) (n : ℕ) where
  abbrev row : PlacedRow
  row = row_of shard.rows n

  abbrev spacing : Spacing
  spacing = Numbers p.interval p.offset

  missing-is : map (key_of p) (option_to_list p.missing) ≡ filter (is_between p.hard) (distinct_keys (flat_map (interval_key spacing) (option_to_list r.options.missing)))
  missing-is = r.missing ∙ (λ i. filter (is_between (sym r.hard_is i)) (distinct_keys (flat_map (interval_key (r.spacing_is i)) (option_to_list r.options.missing))))

  positive : 0 < p.interval
  positive = let below = p.below in omega arith

  -- the codes of the row stand for its keys
  pub codes-stand : map (key_of p) (row_codes p.missing (number_at spacing) (λ c. is_between p.hard (key_of p c)) (values_of p.field row)) ≡ keys shard.rows kind row
  codes-stand =
      row-keys spacing (λ m. Unit {0}) (λ c. Unit {0}) (λ m h. tt) (λ l m h most. codes-rise p.interval p.offset positive l m most) (λ c d h k less. starts-rise p.interval p.offset positive c d less)
      (is_between p.hard) (λ c. is_between p.hard (key_of p c)) (key_of p) (λ c h. refl) (λ c h e. refl) p.missing r.options.missing missing-is (values_of p.field row) (values_ascend shard is p.field n) (all_numbers _)
      ∙ (λ i. filter (is_between (r.hard_is i)) (distinct_keys (flat_map (interval_key (sym r.spacing_is i)) (or_missing r.options.missing (values_of (r.field_is i) row)))))
      ∙ sym (keys-of shard.rows r.options row) ∙ ap (λ (k : Kind). keys shard.rows k row) (sym r.kind_is)
