-- The start of an interval is the one multiple.
use Rattle.std.specs.Prelude.{◌≡◌, refl, ℕ, zero, suc, ◌+◌, ◌*◌, ◌<◌, ℤ, pos, negsuc, ◌+ℤ◌, ◌-ℤ◌, ◌*ℤ◌, ◌≤ℤ◌, ◌<ℤ◌}
use Rattle.std.specs.Int.{int_div_euclid}
use Rattle.std.proofs.Common.{sym, ◌∙◌, ap, subst, arith}
use Rattle.std.proofs.lemmas.Int.{ints}
use Rattle.std.proofs.Math.IntN.{suc_ℤ, suc_ℤ-*ℤ, +ℤ-suc_ℤ}
use Rattle.agg_model.specs.declared.aggregation.Spacing.TheVariants.{Numbers}
use Rattle.agg_evaluation.specs.Spacings.{interval_start}
use Rattle.agg_evaluation.specs.Intervals.{IsIntervalOf}

-- the quotient rounds down
quotient_at_most : (z : ℤ) (d : ℕ) → 0 < d → (int_div_euclid z (pos d) *ℤ pos d) ≤ℤ z
quotient_at_most (pos a) d h = omega (arith, ints)
quotient_at_most (negsuc a) d h = omega (arith, ints)

quotient_above : (z : ℤ) (d : ℕ) → 0 < d → z <ℤ ((int_div_euclid z (pos d) *ℤ pos d) +ℤ pos d)
quotient_above (pos a) d h = omega (arith, ints)
quotient_above (negsuc a) d h = omega (arith, ints)

pub interval_start-is : (interval offset : ℕ) (value : ℤ) → 0 < interval → IsIntervalOf interval offset value (interval_start (Numbers interval offset) value)
interval_start-is interval offset value h =
    let low = quotient_at_most (value -ℤ pos offset) interval h in
    let high = quotient_above (value -ℤ pos offset) interval h in
    (record { times = int_div_euclid (value -ℤ pos offset) (pos interval); multiple = refl; at_most = omega (arith, ints); above = omega (arith, ints) })

-- n times more
scaled : (t : ℤ) (n i : ℕ) → (t +ℤ pos n) *ℤ pos i ≡ (t *ℤ pos i) +ℤ pos (n * i)
scaled t zero i = ap (λ m. m *ℤ pos i) (let e : t +ℤ pos zero ≡ t = omega (arith, ints) in e) ∙ (let e : t *ℤ pos i ≡ (t *ℤ pos i) +ℤ pos (0 * i) = omega (arith, ints) in e)
scaled t (suc n) i =
    let more : t +ℤ pos (suc n) ≡ suc_ℤ (t +ℤ pos n) = +ℤ-suc_ℤ t (pos n) in
    let product : suc n * i ≡ n * i + i = omega arith in
    let step = suc_ℤ-*ℤ (t +ℤ pos n) (pos i) in
    let before = scaled t n i in
    ap (λ m. m *ℤ pos i) more ∙ omega (arith, ints)

-- a key that is more intervals up is above the value
too_high : (i o : ℕ) (v t : ℤ) (n : ℕ) → v <ℤ (((t *ℤ pos i) +ℤ pos o) +ℤ pos i) → (((t +ℤ pos (suc n)) *ℤ pos i) +ℤ pos o) ≤ℤ v → ⊥
too_high i o v t n high low =
    let more = scaled t (suc n) i in
    let product : suc n * i ≡ n * i + i = omega arith in
    absurd (omega (arith, ints))

same_times : (i o : ℕ) (v t u : ℤ) → v <ℤ (((t *ℤ pos i) +ℤ pos o) +ℤ pos i) → v <ℤ (((u *ℤ pos i) +ℤ pos o) +ℤ pos i)
    → ((t *ℤ pos i) +ℤ pos o) ≤ℤ v → ((u *ℤ pos i) +ℤ pos o) ≤ℤ v → (d : ℤ) → u ≡ t +ℤ d → t ≡ u
same_times i o v t u t_high u_high t_low u_low (pos zero) e = omega (arith, ints)
same_times i o v t u t_high u_high t_low u_low (pos (suc n)) e = absurd (too_high i o v t n t_high (subst (λ u. ((u *ℤ pos i) +ℤ pos o) ≤ℤ v) e u_low))
same_times i o v t u t_high u_high t_low u_low (negsuc n) e =
    let back : t ≡ u +ℤ pos (suc n) = omega (arith, ints) in
    absurd (too_high i o v u n u_high (subst (λ t. ((t *ℤ pos i) +ℤ pos o) ≤ℤ v) back t_low))

pub interval-unique : (interval offset : ℕ) (value j k : ℤ) → IsIntervalOf interval offset value j → IsIntervalOf interval offset value k → j ≡ k
interval-unique i o v j k p q =
    let at = same_times i o v p.times q.times (subst (λ j. v <ℤ (j +ℤ pos i)) p.multiple p.above) (subst (λ k. v <ℤ (k +ℤ pos i)) q.multiple q.above)
    (subst (λ j. j ≤ℤ v) p.multiple p.at_most) (subst (λ k. k ≤ℤ v) q.multiple q.at_most) (q.times -ℤ p.times) (omega (arith, ints)) in
    p.multiple ∙ ap (λ t. (t *ℤ pos i) +ℤ pos o) at ∙ sym q.multiple
