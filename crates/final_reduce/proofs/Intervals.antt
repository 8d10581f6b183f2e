-- Intervals follow one another by their numbers, and each value lies in the one of its number, over numbers and over dates.
use Rattle.std.specs.Prelude.{◌≡◌, refl, ℕ, zero, suc, ◌+◌, ◌<◌, ℤ, pos, negsuc, ◌+ℤ◌, ◌-ℤ◌, ◌*ℤ◌, ◌≤ℤ◌, ◌<ℤ◌, int_le, int_lt, true, false, cond, unsigned_abs}
use Rattle.std.specs.Int.{int_div_euclid}
use Rattle.std.proofs.Common.{sym, ◌∙◌, ap, subst, arith}
use Rattle.std.proofs.lemmas.Int.{ints, by_lt_z}
use Rattle.date_spec.specs.Periods.{IsPeriod, IsZone, number_of, start_of}
use Rattle.date_spec.proofs.KeyLemmas.{zone_back, zoned-most}
use Rattle.date_spec.proofs.PeriodLemmas as told
use Rattle.date_spec.proofs.PeriodLemmas.{less-most, less-next, most_least, next-less, quotient-high, quotient-low, same-most, times-next, times-rising}
use Rattle.agg_model.specs.declared.aggregation.Spacing.{Spacing}
use Rattle.agg_model.specs.declared.aggregation.Spacing.TheVariants.{Numbers, Dates}
use Rattle.agg_evaluation.specs.Spacings.{number_at, start_at, number_from}
use Rattle.agg_spec.specs.GapCount.{interval_count}

-- comparisons that the code makes
pub le-is : (a b : ℤ) → a ≤ℤ b → int_le a b ≡ true
le-is a b h = grind (arith, ints, h)

pub le-not : (a b : ℤ) → b <ℤ a → int_le a b ≡ false
le-not a b h = grind (arith, ints, h)

pub is-le : (a b : ℤ) → int_le a b ≡ true → a ≤ℤ b
is-le a b h = omega (arith, ints)

pub not-le : (a b : ℤ) → int_le a b ≡ false → b <ℤ a
not-le a b h = grind (arith, ints, h)

lt-is : (a b : ℤ) → a <ℤ b → int_lt a b ≡ true
lt-is a b h = grind (arith, ints, h)

lt-not : (a b : ℤ) → b ≤ℤ a → int_lt a b ≡ false
lt-not a b h = grind (arith, ints, h)

more_next : (a : ℤ) → a ≤ℤ (a +ℤ pos 1)
more_next a = omega (arith, ints)

crossed : (v a b : ℤ) → v <ℤ a → a ≤ℤ b → b ≤ℤ v → ⊥
crossed v a b h j k = omega (arith, ints, h, j, k)

crossed_far : (w a b v : ℤ) → w <ℤ a → a ≤ℤ b → b ≤ℤ v → v ≤ℤ w → ⊥
crossed_far w a b v h j k l = omega (arith, ints, h, j, k, l)

turned : (a b c : ℤ) → a ≤ℤ b → b <ℤ c → c ≤ℤ a → ⊥
turned a b c h j k = omega (arith, ints, h, j, k)

turned_back : (a b c : ℤ) → a ≤ℤ b → b ≤ℤ c → c <ℤ a → ⊥
turned_back a b c h j k = omega (arith, ints, h, j, k)

-- how many numbers there are from one to another
pub no_steps : (k g : ℤ) → g <ℤ k → interval_count k g ≡ 0
no_steps k g h = ap (λ b. cond b (unsigned_abs (g -ℤ k) + 1) 0) (le-not k g h)

count_by : (k : ℤ) (d : ℕ) → interval_count k (k +ℤ pos d) ≡ d + 1
count_by k d =
    let le : k ≤ℤ (k +ℤ pos d) = omega (arith, ints) in
    let difference : (k +ℤ pos d) -ℤ k ≡ pos d = omega (arith, ints) in
    ap (λ b. cond b (unsigned_abs ((k +ℤ pos d) -ℤ k) + 1) 0) (le-is k (k +ℤ pos d) le) ∙ ap (λ z. unsigned_abs z + 1) difference

step_by : (k : ℤ) (d : ℕ) → interval_count k (k +ℤ pos d) ≡ suc (interval_count (k +ℤ pos 1) (k +ℤ pos d))
step_by k zero = count_by k 0 ∙ ap suc (sym (no_steps (k +ℤ pos 1) (k +ℤ pos 0) (let less : (k +ℤ pos 0) <ℤ (k +ℤ pos 1) = omega (arith, ints) in less)))
step_by k (suc d) =
    let same : k +ℤ pos (suc d) ≡ (k +ℤ pos 1) +ℤ pos d = omega (arith, ints) in
    let more : suc d + 1 ≡ suc (d + 1) = omega arith in
    count_by k (suc d) ∙ more ∙ ap suc (sym (ap (interval_count (k +ℤ pos 1)) same ∙ count_by (k +ℤ pos 1) d))

above_by : (k g : ℤ) → k ≤ℤ g → (d : ℕ) × (g ≡ k +ℤ pos d)
above_by k g h = by_difference (g -ℤ k) refl
  where
    by_difference : (z : ℤ) → g -ℤ k ≡ z → (d : ℕ) × (g ≡ k +ℤ pos d)
    by_difference (pos d) e = (d, omega (arith, ints))
    by_difference (negsuc d) e = absurd (omega (arith, ints))

-- where there is one, there is one more than from the next on
pub one_step : (k g : ℤ) → k ≤ℤ g → interval_count k g ≡ suc (interval_count (k +ℤ pos 1) g)
one_step k g h =
    let by = above_by k g h in
    subst (λ (z : ℤ). interval_count k z ≡ suc (interval_count (k +ℤ pos 1) z)) (sym by.1) (step_by k by.0)

-- intervals have a length: an interval above 0; or a period and a zone that there are
abbrev pub IsSpacing : Spacing → Type 0
IsSpacing (Numbers interval offset) = 0 < interval
IsSpacing (Dates period zone) = IsPeriod period × IsZone zone

-- a value that an interval is known for, and the number of an interval whose start is known: over dates from the year -400 on
abbrev pub IsPlaced : Spacing → ℤ → Type 0
IsPlaced (Numbers interval offset) value = Unit {0}
IsPlaced (Dates period zone) value = told.IsPlace period (value +ℤ zone)

abbrev pub IsNumbered : Spacing → ℤ → Type 0
IsNumbered (Numbers interval offset) number = Unit {0}
IsNumbered (Dates period zone) number = told.IsNumber period number

pub number-is : (s : Spacing) (value : ℤ) → IsPlaced s value → IsNumbered s (number_at s value)
number-is (Numbers interval offset) value placed = tt
number-is (Dates period zone) value placed = told.number-is period (value +ℤ zone) placed

pub number-more : (s : Spacing) (m n : ℤ) → IsNumbered s m → m ≤ℤ n → IsNumbered s n
number-more (Numbers interval offset) m n numbered le = tt
number-more (Dates period zone) m n numbered le = told.number-more period m n numbered le

pub place-is : (s : Spacing) (number : ℤ) → IsNumbered s number → IsPlaced s (start_at s number)
place-is (Numbers interval offset) number numbered = tt
place-is (Dates period zone) number numbered = subst (told.IsPlace period) (sym (zone_back (start_of period number) zone)) (told.place-is period number numbered)

pub place-more : (s : Spacing) (value later : ℤ) → IsPlaced s value → value ≤ℤ later → IsPlaced s later
place-more (Numbers interval offset) value later placed le = tt
place-more (Dates period zone) value later placed le = told.place-more period (value +ℤ zone) (later +ℤ zone) placed (zoned-most value later zone le)

offset_back : (start value : ℤ) (offset : ℕ) → start ≤ℤ (value -ℤ pos offset) → (start +ℤ pos offset) ≤ℤ value
offset_back start value offset h = omega (arith, ints, h)

zone_off : (start value zone : ℤ) → start ≤ℤ (value +ℤ zone) → (start -ℤ zone) ≤ℤ value
zone_off start value zone h = omega (arith, ints, h)

-- a value lies in the interval of its number: that begins not after it, and the next one after it
pub begins : (s : Spacing) → IsSpacing s → (value : ℤ) → IsPlaced s value → start_at s (number_at s value) ≤ℤ value
begins (Numbers interval offset) is value placed =
    offset_back (int_div_euclid (value -ℤ pos offset) (pos interval) *ℤ pos interval) value offset (quotient-low (value -ℤ pos offset) interval is)
begins (Dates period zone) is value placed = zone_off (start_of period (number_of period (value +ℤ zone))) value zone (told.begins period is.0 (value +ℤ zone) placed)

offset_ahead : (value next end : ℤ) (offset : ℕ) → (value -ℤ pos offset) <ℤ end → next ≡ end → value <ℤ (next +ℤ pos offset)
offset_ahead value next end offset h e = omega (arith, ints, h, e)

zone_ahead : (value start zone : ℤ) → (value +ℤ zone) <ℤ start → value <ℤ (start -ℤ zone)
zone_ahead value start zone h = omega (arith, ints, h)

pub ends : (s : Spacing) → IsSpacing s → (value : ℤ) → IsPlaced s value → value <ℤ start_at s (number_at s value +ℤ pos 1)
ends (Numbers interval offset) is value placed =
    let number = int_div_euclid (value -ℤ pos offset) (pos interval) in
    offset_ahead value ((number +ℤ pos 1) *ℤ pos interval) ((number *ℤ pos interval) +ℤ pos interval) offset (quotient-high (value -ℤ pos offset) interval is) (times-next number interval)
ends (Dates period zone) is value placed = zone_ahead value (start_of period (number_of period (value +ℤ zone) +ℤ pos 1)) zone (told.ends period is.0 (value +ℤ zone) placed)

offset_more : (a b : ℤ) (offset : ℕ) → a <ℤ b → (a +ℤ pos offset) <ℤ (b +ℤ pos offset)
offset_more a b offset h = omega (arith, ints, h)

zone_less : (a b zone : ℤ) → a <ℤ b → (a -ℤ zone) <ℤ (b -ℤ zone)
zone_less a b zone h = omega (arith, ints, h)

-- a later interval begins later
pub start-rising : (s : Spacing) → IsSpacing s → (m n : ℤ) → IsNumbered s m → m <ℤ n → start_at s m <ℤ start_at s n
start-rising (Numbers interval offset) is m n numbered less = offset_more (m *ℤ pos interval) (n *ℤ pos interval) offset (times-rising m n interval is less)
start-rising (Dates period zone) is m n numbered less = zone_less (start_of period m) (start_of period n) zone (told.start-rising period is.0 m n numbered less)

module _ (s : Spacing) (is : IsSpacing s) where
  pub start-most : (m n : ℤ) → IsNumbered s m → m ≤ℤ n → start_at s m ≤ℤ start_at s n
  start-most m n numbered le =
      by_lt_z m n (λ less. less-most (start_at s m) (start_at s n) (start-rising s is m n numbered less))
      (λ most. same-most (start_at s m) (start_at s n) (ap (start_at s) (most_least m n le most)))

  next-numbered : (n : ℤ) → IsNumbered s n → IsNumbered s (n +ℤ pos 1)
  next-numbered n numbered = number-more s n (n +ℤ pos 1) numbered (more_next n)

  number-unique : (value n : ℤ) → IsPlaced s value → IsNumbered s n → start_at s n ≤ℤ value → value <ℤ start_at s (n +ℤ pos 1) → number_at s value ≡ n
  number-unique value n placed numbered low high =
      let own = number_at s value in
      by_lt_z own n
      (λ less.
      let before = start-most (own +ℤ pos 1) n (next-numbered own (number-is s value placed)) (less-next own n less) in
      absurd (crossed value (start_at s (own +ℤ pos 1)) (start_at s n) (ends s is value placed) before low))
      (λ most.
      by_lt_z n own
      (λ less.
      let behind = start-most (n +ℤ pos 1) own (next-numbered n numbered) (less-next n own less) in
      absurd (crossed value (start_at s (n +ℤ pos 1)) (start_at s own) high behind (begins s is value placed)))
      (λ least. most_least own n least most))

  -- the number of a start is that of its interval
  pub number-back : (n : ℤ) → IsNumbered s n → number_at s (start_at s n) ≡ n
  number-back n numbered =
      number-unique (start_at s n) n (place-is s n numbered) numbered (same-most (start_at s n) (start_at s n) refl) (start-rising s is n (n +ℤ pos 1) numbered (next-less n))

  -- a later value lies in no earlier interval
  pub number-rising : (value later : ℤ) → IsPlaced s value → value ≤ℤ later → number_at s value ≤ℤ number_at s later
  number-rising value later placed le =
      let m = number_at s value in
      let n = number_at s later in
      let placed' = place-more s value later placed le in
      by_lt_z n m
      (λ less.
      let before = start-most (n +ℤ pos 1) m (next-numbered n (number-is s later placed')) (less-next n m less) in
      absurd (crossed_far later (start_at s (n +ℤ pos 1)) (start_at s m) value (ends s is later placed') before (begins s is value placed) le))
      (λ most. most)

  -- the first interval that does not begin before a bound
  module _ (bound : ℤ) (placed : IsPlaced s bound) where
    pub from-inside : start_at s (number_at s bound) <ℤ bound → number_from s bound ≡ number_at s bound +ℤ pos 1
    from-inside less = ap (λ b. cond b (number_at s bound +ℤ pos 1) (number_at s bound)) (lt-is (start_at s (number_at s bound)) bound less)

    from-own : bound ≤ℤ start_at s (number_at s bound) → number_from s bound ≡ number_at s bound
    from-own most = ap (λ b. cond b (number_at s bound +ℤ pos 1) (number_at s bound)) (lt-not (start_at s (number_at s bound)) bound most)

    pub from-numbered : IsNumbered s (number_from s bound)
    from-numbered =
        by_lt_z (start_at s (number_at s bound)) bound
        (λ less. subst (IsNumbered s) (sym (from-inside less)) (next-numbered (number_at s bound) (number-is s bound placed)))
        (λ most. subst (IsNumbered s) (sym (from-own most)) (number-is s bound placed))

    pub from-start : bound ≤ℤ start_at s (number_from s bound)
    from-start =
        by_lt_z (start_at s (number_at s bound)) bound
        (λ less. subst (λ (n : ℤ). bound ≤ℤ start_at s n) (sym (from-inside less)) (less-most bound (start_at s (number_at s bound +ℤ pos 1)) (ends s is bound placed)))
        (λ most. subst (λ (n : ℤ). bound ≤ℤ start_at s n) (sym (from-own most)) most)

    pub from-least : (n : ℤ) → IsNumbered s n → bound ≤ℤ start_at s n → number_from s bound ≤ℤ n
    from-least n numbered low =
        let own = number_at s bound in
        by_lt_z (start_at s own) bound
        (λ less.
        subst (λ (m : ℤ). m ≤ℤ n) (sym (from-inside less))
        (by_lt_z own n (less-next own n) (λ most. absurd (turned (start_at s n) (start_at s own) bound (start-most n own numbered most) less low))))
        (λ most.
        subst (λ (m : ℤ). m ≤ℤ n) (sym (from-own most))
        (subst (λ (m : ℤ). own ≤ℤ m) (number-back n numbered) (number-rising bound (start_at s n) placed low)))

    -- the last interval that does not begin after it
    pub last-before : (n : ℤ) → IsNumbered s n → bound <ℤ start_at s n → number_at s bound <ℤ n
    last-before n numbered less =
        let own = number_at s bound in
        by_lt_z own n (λ h. h) (λ most. absurd (turned_back (start_at s n) (start_at s own) bound (start-most n own numbered most) (begins s is bound placed) less))

  pub last-greatest : (bound n : ℤ) → IsNumbered s n → start_at s n ≤ℤ bound → n ≤ℤ number_at s bound
  last-greatest bound n numbered high =
      subst (λ (m : ℤ). m ≤ℤ number_at s bound) (number-back n numbered) (number-rising (start_at s n) bound (place-is s n numbered) high)
