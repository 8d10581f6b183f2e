-- The keys of instants, and the steps between them.
use Rattle.std.proofs.Common.{◌≡◌, ◌↔◌, ℕ, zero, suc, ◌+◌, ◌-◌, ◌*◌, ◌%◌, refl, sym, ◌∙◌, ap, subst, arith, ℤ, pos, negsuc, neg_ℤ, ◌+ℤ◌, ◌-ℤ◌, ◌*ℤ◌, ◌≤ℤ◌, ◌<ℤ◌, unsigned_abs}
use Rattle.std.specs.Int.{int_rem_euclid}
use Rattle.std.proofs.lemmas.Int.{ints}
use Rattle.date_spec.specs.declared.range.TheConstants.{GREATEST_INSTANT, LEAST_INSTANT}
use Rattle.date_spec.specs.declared.period.Period.{Period}
use Rattle.date_spec.specs.declared.period.Period.TheVariants.{Fixed, Week, Month, Quarter, Year}
use Rattle.date_spec.specs.Periods.{IsBetweenKeys, IsInstant, IsPeriod, IsZone, day_at, key_after, midnight, number_of, period_key, start_of, steps_between}
use Rattle.date_spec.proofs.PeriodLemmas.{IsNumber, IsPlace, begins, ends, day_at-midnight, most_most, number-is, number-more, number-rising, number-unique, number_of-start_of, place-more, quotient-high, same-most, start-most, start-rising}

-- by a zone there and back
pub zone_back : (local zone : ℤ) → (local -ℤ zone) +ℤ zone ≡ local
zone_back local zone = omega (arith, ints)

local-most : (start instant zone : ℤ) → start ≤ℤ (instant +ℤ zone) → (start -ℤ zone) ≤ℤ instant
local-most start instant zone h = omega (arith, ints)

local-less : (start instant zone : ℤ) → (instant +ℤ zone) <ℤ start → instant <ℤ (start -ℤ zone)
local-less start instant zone h = omega (arith, ints)

less-local : (start instant zone : ℤ) → instant <ℤ (start -ℤ zone) → (instant +ℤ zone) <ℤ start
less-local start instant zone h = omega (arith, ints)

pub zoned-most : (a b zone : ℤ) → a ≤ℤ b → (a +ℤ zone) ≤ℤ (b +ℤ zone)
zoned-most a b zone h = omega (arith, ints)

unzoned-most : (a b zone : ℤ) → a ≤ℤ b → (a -ℤ zone) ≤ℤ (b -ℤ zone)
unzoned-most a b zone h = omega (arith, ints)

unzoned-less : (a b zone : ℤ) → a <ℤ b → (a -ℤ zone) <ℤ (b -ℤ zone)
unzoned-less a b zone h = omega (arith, ints)

more-by : (a : ℤ) (n : ℕ) → a ≤ℤ (a +ℤ pos n)
more-by a n = omega (arith, ints)

none-more : (a : ℤ) → a +ℤ pos 0 ≡ a
none-more a = omega (arith, ints)

one-more : (a : ℤ) (n : ℕ) → (a +ℤ pos n) +ℤ pos 1 ≡ a +ℤ pos (suc n)
one-more a n = omega (arith, ints)

less-by : (a : ℤ) (n : ℕ) → (a +ℤ pos n) <ℤ (a +ℤ pos (suc n))
less-by a n = omega (arith, ints)

difference-back : (a b : ℤ) → a ≤ℤ b → a +ℤ pos (unsigned_abs (b -ℤ a)) ≡ b
difference-back a b h = omega (arith, ints)

difference-of : (a : ℤ) (n : ℕ) → unsigned_abs ((a +ℤ pos n) -ℤ a) ≡ n
difference-of a n = omega (arith, ints)

-- an instant of a date field lies in a period, in each zone
day-in_reach : (day instant zone : ℤ) → neg_ℤ (pos 62_167_219_200_000) ≤ℤ instant → neg_ℤ (pos 64_800_000) ≤ℤ zone → (instant +ℤ zone) <ℤ ((day *ℤ pos 86_400_000) +ℤ pos 86_400_000)
    → neg_ℤ (pos 865_625) ≤ℤ day
day-in_reach day instant zone h k high = omega (arith, ints)

pub instant-place : (p : Period) (zone instant : ℤ) → IsZone zone → LEAST_INSTANT ≤ℤ instant → IsPlace p (instant +ℤ zone)
instant-place (Fixed millis) zone instant z h = tt
instant-place Week zone instant z h = tt
instant-place Month zone instant z h = day-in_reach (day_at (instant +ℤ zone)) instant zone h z.0 (quotient-high (instant +ℤ zone) 86_400_000 (omega arith))
instant-place Quarter zone instant z h = day-in_reach (day_at (instant +ℤ zone)) instant zone h z.0 (quotient-high (instant +ℤ zone) 86_400_000 (omega arith))
instant-place Year zone instant z h = day-in_reach (day_at (instant +ℤ zone)) instant zone h z.0 (quotient-high (instant +ℤ zone) 86_400_000 (omega arith))

module _ (p : Period) (zone : ℤ) (h : IsPeriod p) where
  -- the number of a start in local time is that of its period
  pub number-back : (n : ℤ) → IsNumber p n → number_of p ((start_of p n -ℤ zone) +ℤ zone) ≡ n
  number-back n number = ap (number_of p) (zone_back (start_of p n) zone) ∙ number_of-start_of p h n number

  module _ (instant : ℤ) (place : IsPlace p (instant +ℤ zone)) where
    pub number_of-key : number_of p (period_key p zone instant +ℤ zone) ≡ number_of p (instant +ℤ zone)
    number_of-key = number-back (number_of p (instant +ℤ zone)) (number-is p (instant +ℤ zone) place)

    pub key_after-is : (n : ℕ) → key_after p zone (period_key p zone instant) n ≡ start_of p (number_of p (instant +ℤ zone) +ℤ pos n) -ℤ zone
    key_after-is n = ap (λ (k : ℤ). start_of p (k +ℤ pos n) -ℤ zone) number_of-key

    pub number-after : (n : ℕ) → IsNumber p (number_of p (instant +ℤ zone) +ℤ pos n)
    number-after n =
        number-more p (number_of p (instant +ℤ zone)) (number_of p (instant +ℤ zone) +ℤ pos n) (number-is p (instant +ℤ zone) place) (more-by (number_of p (instant +ℤ zone)) n)

    pub number_of-key_after : (n : ℕ) → number_of p (key_after p zone (period_key p zone instant) n +ℤ zone) ≡ number_of p (instant +ℤ zone) +ℤ pos n
    number_of-key_after n =
        ap (λ (k : ℤ). number_of p (k +ℤ zone)) (key_after-is n) ∙ number-back (number_of p (instant +ℤ zone) +ℤ pos n) (number-after n)

    pub key-begun : period_key p zone instant ≤ℤ instant
    key-begun = local-most (start_of p (number_of p (instant +ℤ zone))) instant zone (begins p h (instant +ℤ zone) place)

    pub key-ahead : instant <ℤ key_after p zone (period_key p zone instant) 1
    key-ahead =
        subst (λ (k : ℤ). instant <ℤ k) (sym (key_after-is 1))
        (local-less (start_of p (number_of p (instant +ℤ zone) +ℤ pos 1)) instant zone (ends p h (instant +ℤ zone) place))

    pub key-own : period_key p zone (period_key p zone instant) ≡ period_key p zone instant
    key-own = ap (λ (k : ℤ). start_of p k -ℤ zone) number_of-key

    pub steps-count : (n : ℕ) → steps_between p zone (period_key p zone instant) (key_after p zone (period_key p zone instant) n) ≡ n
    steps-count n =
        ap (λ (k : ℤ). unsigned_abs (k -ℤ number_of p (period_key p zone instant +ℤ zone))) (number_of-key_after n)
        ∙ ap (λ (k : ℤ). unsigned_abs ((number_of p (instant +ℤ zone) +ℤ pos n) -ℤ k)) number_of-key
        ∙ difference-of (number_of p (instant +ℤ zone)) n

    pub after-own : (n : ℕ) → period_key p zone (key_after p zone (period_key p zone instant) n) ≡ key_after p zone (period_key p zone instant) n
    after-own n = ap (λ (k : ℤ). start_of p k -ℤ zone) (number_of-key_after n) ∙ sym (key_after-is n)

    pub after-none : key_after p zone (period_key p zone instant) 0 ≡ period_key p zone instant
    after-none = key_after-is 0 ∙ ap (λ (k : ℤ). start_of p k -ℤ zone) (none-more (number_of p (instant +ℤ zone)))

    pub after-next : (n : ℕ) → key_after p zone (key_after p zone (period_key p zone instant) n) 1 ≡ key_after p zone (period_key p zone instant) (suc n)
    after-next n =
        ap (λ (k : ℤ). start_of p (k +ℤ pos 1) -ℤ zone) (number_of-key_after n) ∙ ap (λ (k : ℤ). start_of p k -ℤ zone) (one-more (number_of p (instant +ℤ zone)) n)
        ∙ sym (key_after-is (suc n))

    pub after-rise : (n : ℕ) → key_after p zone (period_key p zone instant) n <ℤ key_after p zone (period_key p zone instant) (suc n)
    after-rise n =
        let number = number_of p (instant +ℤ zone) in
        let less = unzoned-less (start_of p (number +ℤ pos n)) (start_of p (number +ℤ pos (suc n))) zone
        (start-rising p h (number +ℤ pos n) (number +ℤ pos (suc n)) (number-after n) (less-by number n)) in
        subst (λ (k : ℤ). k <ℤ key_after p zone (period_key p zone instant) (suc n)) (sym (key_after-is n))
        (subst (λ (k : ℤ). (start_of p (number +ℤ pos n) -ℤ zone) <ℤ k) (sym (key_after-is (suc n))) less)

    module _ (later : ℤ) (le : instant ≤ℤ later) where
      number-later : number_of p (instant +ℤ zone) ≤ℤ number_of p (later +ℤ zone)
      number-later = number-rising p h (instant +ℤ zone) (later +ℤ zone) place (zoned-most instant later zone le)

      place-later : IsPlace p (later +ℤ zone)
      place-later = place-more p (instant +ℤ zone) (later +ℤ zone) place (zoned-most instant later zone le)

      pub key-rises : period_key p zone instant ≤ℤ period_key p zone later
      key-rises =
          unzoned-most (start_of p (number_of p (instant +ℤ zone))) (start_of p (number_of p (later +ℤ zone))) zone
          (start-most p h (number_of p (instant +ℤ zone)) (number_of p (later +ℤ zone)) (number-is p (instant +ℤ zone) place) number-later)

      -- a later instant before the next key has the same key
      pub key-same : later <ℤ key_after p zone (period_key p zone instant) 1 → period_key p zone later ≡ period_key p zone instant
      key-same before =
          let number = number_of p (instant +ℤ zone) in
          let low = most_most (start_of p number) (instant +ℤ zone) (later +ℤ zone) (begins p h (instant +ℤ zone) place) (zoned-most instant later zone le) in
          let high = less-local (start_of p (number +ℤ pos 1)) later zone (subst (λ (k : ℤ). later <ℤ k) (key_after-is 1) before) in
          ap (λ (k : ℤ). start_of p k -ℤ zone) (number-unique p h (later +ℤ zone) number place-later (number-is p (instant +ℤ zone) place) low high)

  pub same-key : (earlier later : ℤ) → IsPlace p (earlier +ℤ zone) → earlier ≤ℤ later → (period_key p zone later ≡ period_key p zone earlier) ↔ (later <ℤ key_after p zone (period_key p zone earlier) 1)
  same-key earlier later place le = (
    λ e. subst (λ (k : ℤ). later <ℤ key_after p zone k 1) e (key-ahead later (place-later earlier place later le)),
    λ before. key-same earlier place later le before,
  )

  -- the steps from a key to a later one lead there
  pub steps-arrive : (earlier later : ℤ) → IsPlace p (earlier +ℤ zone) → earlier ≤ℤ later
      → key_after p zone (period_key p zone earlier) (steps_between p zone (period_key p zone earlier) (period_key p zone later)) ≡ period_key p zone later
  steps-arrive earlier later place le =
      let from = number_of p (earlier +ℤ zone) in
      let to = number_of p (later +ℤ zone) in
      let steps : steps_between p zone (period_key p zone earlier) (period_key p zone later) ≡ unsigned_abs (to -ℤ from) =
      ap (λ (k : ℤ). unsigned_abs (k -ℤ number_of p (period_key p zone earlier +ℤ zone))) (number_of-key later (place-later earlier place later le))
      ∙ ap (λ (k : ℤ). unsigned_abs (to -ℤ k)) (number_of-key earlier place) in
      key_after-is earlier place (steps_between p zone (period_key p zone earlier) (period_key p zone later))
      ∙ ap (λ (n : ℕ). start_of p (from +ℤ pos n) -ℤ zone) steps
      ∙ ap (λ (k : ℤ). start_of p k -ℤ zone) (difference-back from to (number-later earlier place later le))

pub key-between : (p : Period) (zone instant : ℤ) → IsPeriod p → IsZone zone → IsInstant instant → IsBetweenKeys p zone (period_key p zone instant)
key-between p zone instant h z held =
    let place = instant-place p zone LEAST_INSTANT z (same-most LEAST_INSTANT LEAST_INSTANT refl) in
    let own = instant-place p zone instant z held.0 in
    (key-rises p zone h LEAST_INSTANT place instant held.0, most_most (period_key p zone instant) instant GREATEST_INSTANT (key-begun p zone h instant own) held.1)

-- weeks: so many weeks from a Monday on are so many days
week-midnight : (week zone : ℤ) → ((((week *ℤ pos 604_800_000) +ℤ midnight (neg_ℤ (pos 3))) -ℤ zone) +ℤ zone) ≡ midnight ((week *ℤ pos 7) +ℤ neg_ℤ (pos 3))
week-midnight week zone = omega (arith, ints)

a_monday : (week : ℤ) → int_rem_euclid ((week *ℤ pos 7) +ℤ neg_ℤ (pos 3)) (pos 7) ≡ pos 4
a_monday (pos zero) = refl
a_monday (pos (suc n)) =
    let day : (pos (suc n) *ℤ pos 7) +ℤ neg_ℤ (pos 3) ≡ pos (n * 7 + 4) = omega (arith, ints) in
    let rest : (n * 7 + 4) % 7 ≡ 4 = omega arith in
    ap (λ (d : ℤ). int_rem_euclid d (pos 7)) day ∙ ap pos rest
a_monday (negsuc n) =
    let day : (negsuc n *ℤ pos 7) +ℤ neg_ℤ (pos 3) ≡ negsuc (n * 7 + 9) = omega (arith, ints) in
    let rest : 7 - 1 - (n * 7 + 9) % 7 ≡ 4 = omega arith in
    ap (λ (d : ℤ). int_rem_euclid d (pos 7)) day ∙ ap pos rest

module _ (zone instant : ℤ) where
  abbrev week : ℤ
  week = number_of Week (instant +ℤ zone)

  week-day : day_at (period_key Week zone instant +ℤ zone) ≡ (week *ℤ pos 7) +ℤ neg_ℤ (pos 3)
  week-day = ap day_at (week-midnight week zone) ∙ day_at-midnight ((week *ℤ pos 7) +ℤ neg_ℤ (pos 3))

  pub week-at_midnight : period_key Week zone instant +ℤ zone ≡ midnight (day_at (period_key Week zone instant +ℤ zone))
  week-at_midnight = week-midnight week zone ∙ ap midnight (sym week-day)

  pub week-on_monday : int_rem_euclid (day_at (period_key Week zone instant +ℤ zone)) (pos 7) ≡ pos 4
  week-on_monday = ap (λ (d : ℤ). int_rem_euclid d (pos 7)) week-day ∙ a_monday week
