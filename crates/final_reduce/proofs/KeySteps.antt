-- The keys of a histogram whose gaps are filled are those of so many intervals from the first on.
use Rattle.std.specs.Prelude.{◌≡◌, refl, ℕ, zero, suc, ◌+◌, ℤ, pos, ◌+ℤ◌, ◌-ℤ◌, ◌≤ℤ◌, ◌<ℤ◌, int_le, Bool, true, false, ◌&&◌, cond, List, [], ◌∷◌, map, filter, Option, Some, None, unwrap_or, is_some, unsigned_abs}
use Rattle.std.specs.List.{range_with_len, reduce, fold, AllByRecursion}
use Rattle.std.specs.Option.{option_map_or}
use Rattle.std.specs.Int.{int_min, int_max}
use Rattle.std.proofs.Common.{sym, ◌∙◌, ap, subst, arith, ⊎_elim}
use Rattle.std.proofs.lemmas.Bool.{cases_Bool, false≢true}
use Rattle.std.proofs.lemmas.Int.{ints, clamps, by_lt_z}
use Rattle.agg_model.specs.declared.key.Key.{Key}
use Rattle.agg_model.specs.declared.key.Key.TheVariants.{Whole}
use Rattle.agg_model.specs.declared.aggregation.Bounds.{Bounds}
use Rattle.agg_model.specs.declared.aggregation.Spacing.{Spacing}
use Rattle.agg_evaluation.specs.Keys.{is_between}
use Rattle.agg_evaluation.specs.Spacings.{interval_start, number_at, number_from, start_after, start_at, steps_between}
use Rattle.agg_spec.specs.Filling.{starts_between, least_key, greatest_key, has_buckets, filled_keys}
use Rattle.agg_spec.specs.GapCount.{interval_count, keys_between, filled_count}
use Rattle.final_reduce.specs.Steps.{keys_from}
use Rattle.final_reduce.proofs.Intervals.{IsNumbered, IsPlaced, IsSpacing, from-least, from-numbered, from-start, is-le, last-before, last-greatest, le-is, le-not, no_steps, not-le, number-is, number-more, number-rising, one_step, start-most}
use Rattle.final_reduce.proofs.Grids.{IsPlacedBound}

max_own : (n m : ℤ) → m ≤ℤ n → int_max n m ≡ n
max_own n m h = omega (arith, ints, clamps, h)

max_next : (n m : ℤ) → m ≤ℤ n → int_max (n +ℤ pos 1) m ≡ n +ℤ pos 1
max_next n m h = omega (arith, ints, clamps, h)

max_past : (n m : ℤ) → n <ℤ m → int_max n m ≡ int_max (n +ℤ pos 1) m
max_past n m h = omega (arith, ints, clamps, h)

max_least : (n m : ℤ) → n ≤ℤ int_max n m
max_least n m = omega (arith, ints, clamps)

min_least : (n g m : ℤ) → n ≤ℤ g → n ≤ℤ m → n ≤ℤ int_min g m
min_least n g m h k = omega (arith, ints, clamps, h, k)

min_less : (n g m : ℤ) → m <ℤ n → int_min g m <ℤ n
min_less n g m h = omega (arith, ints, clamps, h)

min_most : (g m : ℤ) → int_min g m ≤ℤ g
min_most g m = omega (arith, ints, clamps)

itself : (n : ℤ) → n ≤ℤ n
itself n = omega (arith, ints)

between_them : (b a n m : ℤ) → b ≤ℤ a → a ≤ℤ n → n <ℤ b → ⊥
between_them b a n m h j k = omega (arith, ints, h, j, k)

less_of_both : (l f g k : ℤ) → l ≤ℤ g → g <ℤ k → k ≤ℤ f → l <ℤ f
less_of_both l f g k h j i = omega (arith, ints, h, j, i)

less_of_first : (l f k : ℤ) → l <ℤ k → k ≤ℤ f → l <ℤ f
less_of_first l f k h j = omega (arith, ints, h, j)

less_of_next : (l f k : ℤ) → l <ℤ k → (k +ℤ pos 1) ≤ℤ f → l <ℤ f
less_of_next l f k h j = omega (arith, ints, h, j)

more_next : (k : ℤ) → k ≤ℤ (k +ℤ pos 1)
more_next k = omega (arith, ints)

module _ (s : Spacing) (is : IsSpacing s) where
  abbrev low_passes : Option ℤ → ℤ → Bool
  low_passes low n = option_map_or (λ least. int_le least (start_at s n)) low true

  abbrev high_passes : Option ℤ → ℤ → Bool
  high_passes high n = option_map_or (λ greatest. int_le (start_at s n) greatest) high true

  -- the number of the first interval within the lower bound, and that of the last within the upper one
  abbrev pub first_at : Option ℤ → ℤ → ℤ
  first_at low n = option_map_or (λ bound. int_max n (number_from s bound)) low n

  abbrev pub last_at : Option ℤ → ℤ → ℤ
  last_at high g = option_map_or (λ bound. int_min g (number_at s bound)) high g

  low-kept : (low : Option ℤ) → IsPlacedBound s low → (n : ℤ) → IsNumbered s n → low_passes low n ≡ true → first_at low n ≡ n
  low-kept None placed n numbered passes = refl
  low-kept (Some b) placed n numbered passes = max_own n (number_from s b) (from-least s is b placed n numbered (is-le b (start_at s n) passes))

  low-next : (low : Option ℤ) → IsPlacedBound s low → (n : ℤ) → IsNumbered s n → low_passes low n ≡ true → first_at low (n +ℤ pos 1) ≡ n +ℤ pos 1
  low-next None placed n numbered passes = refl
  low-next (Some b) placed n numbered passes = max_next n (number_from s b) (from-least s is b placed n numbered (is-le b (start_at s n) passes))

  low-dropped : (low : Option ℤ) → IsPlacedBound s low → (n : ℤ) → low_passes low n ≡ false → first_at low n ≡ first_at low (n +ℤ pos 1)
  low-dropped None placed n passes = absurd (false≢true (sym passes))
  low-dropped (Some b) placed n passes =
      let from = number_from s b in
      by_lt_z n from (max_past n from)
      (λ most.
      let before = start-most s is from n (from-numbered s is b placed) most in
      absurd (between_them b (start_at s from) (start_at s n) n (from-start s is b placed) before (not-le b (start_at s n) passes)))

  pub low-least : (low : Option ℤ) (n : ℤ) → n ≤ℤ first_at low n
  low-least None n = itself n
  low-least (Some b) n = max_least n (number_from s b)

  high-kept : (high : Option ℤ) (n g : ℤ) → IsNumbered s n → n ≤ℤ g → high_passes high n ≡ true → n ≤ℤ last_at high g
  high-kept None n g numbered within passes = within
  high-kept (Some b) n g numbered within passes = min_least n g (number_at s b) within (last-greatest s is b n numbered (is-le (start_at s n) b passes))

  high-dropped : (high : Option ℤ) → IsPlacedBound s high → (n g : ℤ) → IsNumbered s n → high_passes high n ≡ false → last_at high g <ℤ n
  high-dropped None placed n g numbered passes = absurd (false≢true (sym passes))
  high-dropped (Some b) placed n g numbered passes = min_less n g (number_at s b) (last-before s is b placed n numbered (not-le (start_at s n) b passes))

  pub high-most : (high : Option ℤ) (g : ℤ) → last_at high g ≤ℤ g
  high-most None g = itself g
  high-most (Some b) g = min_most g (number_at s b)

  module _ (hard : Bounds) (low_placed : IsPlacedBound s hard.min) (high_placed : IsPlacedBound s hard.max) where
    abbrev first : ℤ → ℤ
    first n = first_at hard.min n

    abbrev last : ℤ → ℤ
    last g = last_at hard.max g

    abbrev kept : ℤ → ℤ → List Key
    kept n g = keys_from s (first n) (interval_count (first n) (last g))

    none-kept : (n g : ℤ) → last g <ℤ first n → kept n g ≡ []
    none-kept n g less = ap (keys_from s (first n)) (no_steps (first n) (last g) less)

    -- the bounds cut keys off at both ends
    pub kept-keys : (m : ℕ) (n g : ℤ) → IsNumbered s n → m ≡ interval_count n g → filter (is_between hard) (keys_from s n m) ≡ kept n g
    kept-keys zero n g numbered e =
        let below : g <ℤ n = by_lt_z g n (λ h. h) (λ h. absurd (omega (arith, e, one_step n g h))) in
        sym (none-kept n g (less_of_both (last g) (first n) g n (high-most hard.max g) below (low-least hard.min n)))
    kept-keys (suc m) n g numbered e =
        let within : n ≤ℤ g = by_lt_z g n (λ h. absurd (omega (arith, e, no_steps n g h))) (λ h. h) in
        let n' = n +ℤ pos 1 in
        let rest = filter (is_between hard) (keys_from s n' m) in
        let more : rest ≡ kept n' g = kept-keys m n' g (number-more s n n' numbered (more_next n)) (omega (arith, e, one_step n g within)) in
        let key = Whole (start_at s n) in
        let skip = λ (b : Bool) (f : b ≡ false). ap (λ b. cond b (key ∷ rest) rest) f in
        ⊎_elim
        (λ low.
        ⊎_elim
        (λ high.
        let both : is_between hard key ≡ true = (λ i. low i && high i) in
        let first_is = low-kept hard.min low_placed n numbered low in
        let one = one_step n (last g) (high-kept hard.max n g numbered within high) in
        ap (λ b. cond b (key ∷ rest) rest) both ∙ ap (λ ks. key ∷ ks) more
        ∙ ap (λ f. key ∷ keys_from s f (interval_count f (last g))) (low-next hard.min low_placed n numbered low)
        ∙ ap (keys_from s n) (sym one) ∙ ap (λ f. keys_from s f (interval_count f (last g))) (sym first_is))
        (λ high.
        let neither : is_between hard key ≡ false = (λ i. low i && high i) in
        let below = high-dropped hard.max high_placed n g numbered high in
        skip _ neither ∙ more ∙ none-kept n' g (less_of_next (last g) (first n') n below (low-least hard.min n'))
        ∙ sym (none-kept n g (less_of_first (last g) (first n) n below (low-least hard.min n))))
        (cases_Bool (high_passes hard.max n)))
        (λ low.
        let neither : is_between hard key ≡ false = ap (λ b. b && high_passes hard.max n) low in
        skip _ neither ∙ more ∙ ap (λ f. keys_from s f (interval_count f (last g))) (sym (low-dropped hard.min low_placed n low)))
        (cases_Bool (low_passes hard.min n))

    module _ (extended : Bounds) (ns : List ℤ) where
      abbrev filled : List Key
      filled = filled_keys s extended hard ns

      abbrev between : Option ℤ → Option ℤ → List Key
      between least greatest = filter (is_between hard) (map Whole (starts_between s least greatest))

      -- the starts, as the keys of so many intervals from the first on
      starts-from : (least : ℤ) (a m : ℕ) → map Whole (map (start_after s least) (range_with_len a m)) ≡ keys_from s (number_at s least +ℤ pos a) m
      starts-from least a zero = refl
      starts-from least a (suc m) =
          let next : number_at s least +ℤ pos (a + 1) ≡ (number_at s least +ℤ pos a) +ℤ pos 1 = omega (arith, ints) in
          ap (λ ks. Whole (start_at s (number_at s least +ℤ pos a)) ∷ ks) (starts-from least (a + 1) m ∙ ap (λ n. keys_from s n m) next)

      starts-are : (least greatest : ℤ) → interval_start s least ≡ least → IsPlaced s least → IsPlaced s greatest
          → map Whole (starts_between s (Some least) (Some greatest)) ≡ keys_from s (number_at s least) (interval_count (number_at s least) (number_at s greatest))
      starts-are least greatest start placed_least placed_greatest =
          let m = number_at s least in
          let n = number_at s greatest in
          let all = map (start_after s least) (range_with_len 0 (steps_between s least greatest + 1)) in
          by_lt_z greatest least
          (λ less.
          let before = last-before s is greatest placed_greatest m (number-is s least placed_least) (subst (λ (k : ℤ). greatest <ℤ k) (sym start) less) in
          ap (λ b. map Whole (cond b all [])) (le-not least greatest less) ∙ ap (keys_from s m) (sym (no_steps m n before)))
          (λ most.
          let here : m +ℤ pos 0 ≡ m = omega (arith, ints) in
          ap (λ b. map Whole (cond b all [])) (le-is least greatest most)
          ∙ starts-from least 0 (steps_between s least greatest + 1)
          ∙ ap (λ k. keys_from s k (steps_between s least greatest + 1)) here
          ∙ ap (keys_from s m) (sym (ap (λ b. cond b (unsigned_abs (n -ℤ m) + 1) 0) (le-is m n (number-rising s is least greatest placed_least most)))))

      -- with a least and a greatest key they are those of so many intervals from the first on
      pub filled-at : (least greatest : ℤ) → has_buckets extended ns ≡ true → least_key s extended ns ≡ Some least → greatest_key s extended ns ≡ Some greatest
          → interval_start s least ≡ least → IsPlaced s least → IsPlaced s greatest → filled ≡ keys_from s (first (number_at s least)) (filled_count s extended hard ns)
      filled-at least greatest has low high start placed_least placed_greatest =
          let m = number_at s least in
          let n = number_at s greatest in
          ap (λ b. cond b (between (least_key s extended ns) (greatest_key s extended ns)) []) has
          ∙ (λ i. between (low i) (high i)) ∙ ap (filter (is_between hard)) (starts-are least greatest start placed_least placed_greatest)
          ∙ kept-keys (interval_count m n) m n (number-is s least placed_least) refl
          ∙ ap (keys_from s (first m)) (sym (ap (λ b. cond b (keys_between s hard (least_key s extended ns) (greatest_key s extended ns)) 0) has ∙ (λ i. keys_between s hard (low i) (high i))))

-- what holds of all numbers, and of two of which one is taken, holds of the one that is left
reduced : (f : ℤ → ℤ → ℤ) (P : ℤ → Type 0) → ((x y : ℤ) → P x → P y → P (f x y)) → (x : ℤ) (xs : List ℤ) → P x → AllByRecursion P xs → P (fold f x xs)
reduced f P closed x [] first all = first
reduced f P closed x (y ∷ ys) first all = reduced f P closed (f x y) ys (closed x y first all.0) all.1

pub of_reduced : (f : ℤ → ℤ → ℤ) (P : ℤ → Type 0) → ((x y : ℤ) → P x → P y → P (f x y)) → (xs : List ℤ) (r : ℤ) → AllByRecursion P xs → reduce f xs ≡ Some r → P r
of_reduced f P closed [] r all e = absurd (false≢true (ap is_some e))
of_reduced f P closed (x ∷ xs) r all e = subst P (ap (λ o. unwrap_or o r) e) (reduced f P closed x xs all.0 all.1)
