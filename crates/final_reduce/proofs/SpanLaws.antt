-- What a span says of the intervals of a histogram, and that each histogram with a bucket has one.
use Rattle.std.specs.Prelude.{◌≡◌, refl, ℤ, ◌≤ℤ◌, Bool, true, false, cond, ◌&&◌, ◌==◌, length, List, [], ◌∷◌, ◌++◌, map, filter, Option, Some, None, is_some, option_to_list, option_map, unwrap_or, ◌⊎◌, int_le}
use Rattle.std.specs.List.{list_all, AllByRecursion, reduce, cons_option, fold}
use Rattle.std.specs.Option.{option_map_or}
use Rattle.std.specs.Int.{int_min, int_max}
use Rattle.std.proofs.Common.{sym, ◌∙◌, ap, subst, arith, inl, inr}
use Rattle.std.proofs.lemmas.Bool.{and_parts, false≢true}
use Rattle.std.proofs.lemmas.Bool.Decides.{Decides-int_eq}
use Rattle.std.proofs.lemmas.Int.{ints, clamps, by_lt_z}
use Rattle.agg_model.specs.declared.key.Key.{Key}
use Rattle.agg_model.specs.declared.key.Key.TheVariants as key
use Rattle.agg_model.specs.declared.key.Key.TheVariants.{Whole}
use Rattle.agg_model.specs.declared.partial.Bucket.{Bucket}
use Rattle.agg_model.specs.declared.aggregation.Bounds.{Bounds}
use Rattle.agg_model.specs.declared.aggregation.Spacing.{Spacing}
use Rattle.agg_evaluation.specs.Conditions.{is_spaced}
use Rattle.agg_evaluation.specs.Finishable.{is_histogram_key, is_near}
use Rattle.agg_evaluation.specs.Keys.{is_between}
use Rattle.agg_evaluation.specs.Orders.{bucket_key}
use Rattle.agg_evaluation.specs.Spacings.{interval_start, number_at, number_from, start_at}
use Rattle.list_laws.proofs.Lists.{append-nil}
use Rattle.agg_spec.specs.Filling.{number_of_key, least_key, greatest_key, has_buckets, filled_keys, starts_between}
use Rattle.agg_spec.specs.GapCount.{interval_count, filled_count, keys_between}
use Rattle.final_reduce.specs.Steps.{IsSpan, first_from, last_to, keys_from, key_numbers}
use Rattle.final_reduce.proofs.Intervals.{IsNumbered, IsPlaced, IsSpacing, from-least, is-le, last-greatest, number-back, number-is, number-more, number-rising, place-is}
use Rattle.final_reduce.proofs.Grids.{IsPlacedBound, extended-held, hard-held, is_held, near-placed, placed-bound, spacing-is}
use Rattle.final_reduce.proofs.KeySteps.{filled-at, low-least, of_reduced}
use Rattle.final_reduce.proofs.Filled.{AreAt}

-- a key of a histogram, as a number
pub record IsMade (s : Spacing) (hard : Bounds) (k : Key) : Type 0 where
  pub number : ℤ
  pub is : k ≡ Whole number
  pub start : interval_start s number ≡ number
  pub near : is_near s number ≡ true
  pub within : is_between hard (Whole number) ≡ true

pub made : (s : Spacing) (hard : Bounds) (k : Key) → is_histogram_key s hard k ≡ true → IsMade s hard k
made s hard (key.Whole n) h =
    let parts = and_parts _ _ h in
    let rest = and_parts _ _ parts.1 in
    record { number = n; is = refl; start = (Decides-int_eq (interval_start s n) n).0 parts.0; near = rest.0; within = rest.1 }
made s hard key.Null h = absurd (false≢true h)
made s hard (key.Flag b) h = absurd (false≢true h)
made s hard (key.Word w) h = absurd (false≢true h)
made s hard (key.Fixed n) h = absurd (false≢true h)
made s hard (key.Many' n ks) h = absurd (false≢true h)

-- the least of some numbers is at most each, and the greatest at least each
fold-low : (x : ℤ) (xs : List ℤ) → (fold int_min x xs ≤ℤ x) × AllByRecursion (λ y. fold int_min x xs ≤ℤ y) xs
fold-low x [] = (omega (arith, ints), tt)
fold-low x (y ∷ ys) =
    let rest = fold-low (int_min x y) ys in
    let r = rest.0 in
    (omega (arith, ints, clamps, r), (omega (arith, ints, clamps, r), rest.1))

reduced-low : (xs : List ℤ) (r : ℤ) → reduce int_min xs ≡ Some r → AllByRecursion (λ y. r ≤ℤ y) xs
reduced-low [] r e = tt
reduced-low (x ∷ xs) r e =
    let is : fold int_min x xs ≡ r = ap (λ o. unwrap_or o r) e in
    subst (λ r. AllByRecursion (λ y. r ≤ℤ y) (x ∷ xs)) is (fold-low x xs)

fold-high : (x : ℤ) (xs : List ℤ) → (x ≤ℤ fold int_max x xs) × AllByRecursion (λ y. y ≤ℤ fold int_max x xs) xs
fold-high x [] = (omega (arith, ints), tt)
fold-high x (y ∷ ys) =
    let rest = fold-high (int_max x y) ys in
    let r = rest.0 in
    (omega (arith, ints, clamps, r), (omega (arith, ints, clamps, r), rest.1))

reduced-high : (xs : List ℤ) (r : ℤ) → reduce int_max xs ≡ Some r → AllByRecursion (λ y. y ≤ℤ r) xs
reduced-high [] r e = tt
reduced-high (x ∷ xs) r e =
    let is : fold int_max x xs ≡ r = ap (λ o. unwrap_or o r) e in
    subst (λ r. AllByRecursion (λ y. y ≤ℤ r) (x ∷ xs)) is (fold-high x xs)

-- one of two numbers is the lesser one, and one is the greater one
of_min : (P : ℤ → Type 0) (x y : ℤ) → P x → P y → P (int_min x y)
of_min P x y p q =
    by_lt_z y x (λ h. let e : y ≡ int_min x y = omega (arith, ints, clamps, h) in subst P e q) (λ h. let e : x ≡ int_min x y = omega (arith, ints, clamps, h) in subst P e p)

of_max : (P : ℤ → Type 0) (x y : ℤ) → P x → P y → P (int_max x y)
of_max P x y p q =
    by_lt_z x y (λ h. let e : y ≡ int_max x y = omega (arith, ints, clamps, h) in subst P e q) (λ h. let e : x ≡ int_max x y = omega (arith, ints, clamps, h) in subst P e p)

min_first : (x y : ℤ) → x ≤ℤ y → int_min x y ≡ x
min_first x y h = omega (arith, ints, clamps, h)

min_second : (x y : ℤ) → y ≤ℤ x → int_min x y ≡ y
min_second x y h = omega (arith, ints, clamps, h)

max_first : (x y : ℤ) → y ≤ℤ x → int_max x y ≡ x
max_first x y h = omega (arith, ints, clamps, h)

max_second : (x y : ℤ) → x ≤ℤ y → int_max x y ≡ y
max_second x y h = omega (arith, ints, clamps, h)

max_both : (x y m : ℤ) → x ≤ℤ m → y ≤ℤ m → int_max x y ≤ℤ m
max_both x y m h k = omega (arith, ints, clamps, h, k)

min_both : (x y m : ℤ) → m ≤ℤ x → m ≤ℤ y → m ≤ℤ int_min x y
min_both x y m h k = omega (arith, ints, clamps, h, k)

-- one more at the end
fold-last : (f : ℤ → ℤ → ℤ) (x : ℤ) (xs : List ℤ) (y : ℤ) → fold f x (xs ++ y ∷ []) ≡ f (fold f x xs) y
fold-last f x [] y = refl
fold-last f x (z ∷ zs) y = fold-last f (f x z) zs y

pub reduce-last : (f : ℤ → ℤ → ℤ) (xs : List ℤ) (y : ℤ) → reduce f (xs ++ y ∷ []) ≡ Some (option_map_or (λ n. f n y) (reduce f xs) y)
reduce-last f [] y = refl
reduce-last f (x ∷ xs) y = ap Some (fold-last f x xs y)

module _ (s : Spacing) (extended hard : Bounds) (spaced : is_spaced s extended hard ≡ true) where
  is : IsSpacing s
  is = spacing-is s extended hard spaced

  abbrev pub are_made : List Bucket → Bool
  are_made bs = list_all (λ b. is_histogram_key s hard (bucket_key b)) bs

  -- the start of an interval, for which that is known
  abbrev IsStart : ℤ → Type 0
  IsStart k = (interval_start s k ≡ k) × IsPlaced s k

  -- the numbers of the buckets, and then that of a bound
  each-number : (P : ℤ → Type 0) → ((k : Key) → (m : IsMade s hard k) → P m.number) → (bs : List Bucket) → are_made bs ≡ true → (more : List ℤ) → AllByRecursion P more → AllByRecursion P (key_numbers bs ++ more)
  each-number P each [] all more rest = rest
  each-number P each (b ∷ bs) all more rest =
      let parts = and_parts _ _ all in
      let m = made s hard (bucket_key b) parts.0 in
      let there : number_of_key (bucket_key b) ≡ Some m.number = ap number_of_key m.is in
      subst (λ o. AllByRecursion P (cons_option o (key_numbers bs) ++ more)) (sym there) (each (bucket_key b) m, each-number P each bs parts.1 more rest)

  made-start : (k : Key) (m : IsMade s hard k) → IsStart m.number
  made-start k m = (m.start, near-placed s is m.number m.near)

  bound-start : (b : ℤ) → IsPlaced s b → IsStart (interval_start s b)
  bound-start b placed =
      let numbered = number-is s b placed in
      (ap (start_at s) (number-back s is (number_at s b) numbered), place-is s (number_at s b) numbered)

  bound-starts : (bound : Option ℤ) → is_held s bound ≡ true → AllByRecursion IsStart (option_to_list (option_map (interval_start s) bound))
  bound-starts None held = tt
  bound-starts (Some b) held = (bound-start b (placed-bound s is (Some b) held), tt)

  -- the least and the greatest number of the buckets are near
  pub near-least : (bs : List Bucket) → are_made bs ≡ true → (r : ℤ) → reduce int_min (key_numbers bs) ≡ Some r → is_near s r ≡ true
  near-least bs all r e =
      let Near : ℤ → Type 0 = λ x. is_near s x ≡ true in
      of_reduced int_min Near (of_min Near) (key_numbers bs ++ []) r (each-number Near (λ k m. m.near) bs all [] tt) (ap (reduce int_min) (append-nil (key_numbers bs)) ∙ e)

  pub near-greatest : (bs : List Bucket) → are_made bs ≡ true → (r : ℤ) → reduce int_max (key_numbers bs) ≡ Some r → is_near s r ≡ true
  near-greatest bs all r e =
      let Near : ℤ → Type 0 = λ x. is_near s x ≡ true in
      of_reduced int_max Near (of_max Near) (key_numbers bs ++ []) r (each-number Near (λ k m. m.near) bs all [] tt) (ap (reduce int_max) (append-nil (key_numbers bs)) ∙ e)

  -- the number of the lesser one is the lesser number
  number-min : (x y : ℤ) → IsPlaced s x → IsPlaced s y → number_at s (int_min x y) ≡ int_min (number_at s x) (number_at s y)
  number-min x y placed placed' =
      by_lt_z y x
      (λ h. let le : y ≤ℤ x = omega (arith, ints, h) in ap (number_at s) (min_second x y le) ∙ sym (min_second (number_at s x) (number_at s y) (number-rising s is y x placed' le)))
      (λ le. ap (number_at s) (min_first x y le) ∙ sym (min_first (number_at s x) (number_at s y) (number-rising s is x y placed le)))

  number-max : (x y : ℤ) → IsPlaced s x → IsPlaced s y → number_at s (int_max x y) ≡ int_max (number_at s x) (number_at s y)
  number-max x y placed placed' =
      by_lt_z y x
      (λ h. let le : y ≤ℤ x = omega (arith, ints, h) in ap (number_at s) (max_first x y le) ∙ sym (max_first (number_at s x) (number_at s y) (number-rising s is y x placed' le)))
      (λ le. ap (number_at s) (max_second x y le) ∙ sym (max_second (number_at s x) (number_at s y) (number-rising s is x y placed le)))

  number-start : (b : ℤ) → IsPlaced s b → number_at s (interval_start s b) ≡ number_at s b
  number-start b placed = number-back s is (number_at s b) (number-is s b placed)

  -- the number of the least key, from those of the buckets and of the bound
  pub least-own : (bs : List Bucket) (own : Option ℤ) → own ≡ reduce int_min (key_numbers bs) → extended.min ≡ None → option_map (number_at s) own ≡ option_map (number_at s) (least_key s extended (key_numbers bs))
  least-own bs own e none =
      ap (option_map (number_at s)) (e ∙ ap (reduce int_min) (sym (append-nil (key_numbers bs))) ∙ ap (λ o. reduce int_min (key_numbers bs ++ option_to_list (option_map (interval_start s) o))) (sym none))

  pub greatest-own : (bs : List Bucket) (own : Option ℤ) → own ≡ reduce int_max (key_numbers bs) → extended.max ≡ None → option_map (number_at s) own ≡ option_map (number_at s) (greatest_key s extended (key_numbers bs))
  greatest-own bs own e none =
      ap (option_map (number_at s)) (e ∙ ap (reduce int_max) (sym (append-nil (key_numbers bs))) ∙ ap (λ o. reduce int_max (key_numbers bs ++ option_to_list (option_map (interval_start s) o))) (sym none))

  pub least-both : (bs : List Bucket) → are_made bs ≡ true → (own : Option ℤ) → own ≡ reduce int_min (key_numbers bs) → (b : ℤ) → extended.min ≡ Some b
      → Some (option_map_or (λ n. int_min n (number_at s b)) (option_map (number_at s) own) (number_at s b)) ≡ option_map (number_at s) (least_key s extended (key_numbers bs))
  least-both bs all own e b given =
      let placed = placed-bound s is (Some b) (sym (ap (is_held s) given) ∙ (extended-held s extended hard spaced).0) in
      let start = interval_start s b in
      of_own own e placed
      ∙ ap (option_map (number_at s)) (ap (λ o. Some (option_map_or (λ n. int_min n start) o start)) e ∙ sym (reduce-last int_min (key_numbers bs) start)
      ∙ ap (λ o. reduce int_min (key_numbers bs ++ option_to_list (option_map (interval_start s) o))) (sym given))
    where
      of_own : (own : Option ℤ) → own ≡ reduce int_min (key_numbers bs) → IsPlaced s b
          → Some (option_map_or (λ n. int_min n (number_at s b)) (option_map (number_at s) own) (number_at s b)) ≡ Some (number_at s (option_map_or (λ n. int_min n (interval_start s b)) own (interval_start s b)))
      of_own None e placed = ap Some (sym (number-start b placed))
      of_own (Some x) e placed =
          let placed_x = near-placed s is x (near-least bs all x (sym e)) in
          ap Some (ap (int_min (number_at s x)) (sym (number-start b placed)) ∙ sym (number-min x (interval_start s b) placed_x (bound-start b placed).1))

  pub greatest-both : (bs : List Bucket) → are_made bs ≡ true → (own : Option ℤ) → own ≡ reduce int_max (key_numbers bs) → (b : ℤ) → extended.max ≡ Some b
      → Some (option_map_or (λ n. int_max n (number_at s b)) (option_map (number_at s) own) (number_at s b)) ≡ option_map (number_at s) (greatest_key s extended (key_numbers bs))
  greatest-both bs all own e b given =
      let placed = placed-bound s is (Some b) (sym (ap (is_held s) given) ∙ (extended-held s extended hard spaced).1) in
      let start = interval_start s b in
      of_own own e placed
      ∙ ap (option_map (number_at s)) (ap (λ o. Some (option_map_or (λ n. int_max n start) o start)) e ∙ sym (reduce-last int_max (key_numbers bs) start)
      ∙ ap (λ o. reduce int_max (key_numbers bs ++ option_to_list (option_map (interval_start s) o))) (sym given))
    where
      of_own : (own : Option ℤ) → own ≡ reduce int_max (key_numbers bs) → IsPlaced s b
          → Some (option_map_or (λ n. int_max n (number_at s b)) (option_map (number_at s) own) (number_at s b)) ≡ Some (number_at s (option_map_or (λ n. int_max n (interval_start s b)) own (interval_start s b)))
      of_own None e placed = ap Some (sym (number-start b placed))
      of_own (Some x) e placed =
          let placed_x = near-placed s is x (near-greatest bs all x (sym e)) in
          ap Some (ap (int_max (number_at s x)) (sym (number-start b placed)) ∙ sym (number-max x (interval_start s b) placed_x (bound-start b placed).1))

  -- with a bucket there is a number
  pub a_number : (b : Bucket) (bs : List Bucket) → are_made (b ∷ bs) ≡ true → (n : ℤ) × (key_numbers (b ∷ bs) ≡ n ∷ key_numbers bs)
  a_number b bs all =
      let m = made s hard (bucket_key b) (and_parts _ _ all).0 in
      (m.number, ap (λ o. cons_option o (key_numbers bs)) (ap number_of_key m.is))

  pub has-some : (bs : List Bucket) → are_made bs ≡ true → false ≡ (length bs == 0) → true ≡ has_buckets extended (key_numbers bs)
  has-some [] all some = absurd (false≢true some)
  has-some (b ∷ bs) all some = sym (ap (has_buckets extended) (a_number b bs all).1)

  module _ (bs : List Bucket) (all : are_made bs ≡ true) (first last : ℤ) (span : IsSpan s extended hard (key_numbers bs) first last) where
    abbrev ns : List ℤ
    ns = key_numbers bs

    abbrev least_number : ℤ
    least_number = number_at s span.least

    abbrev greatest_number : ℤ
    greatest_number = number_at s span.greatest

    least-start : IsStart span.least
    least-start = of_reduced int_min IsStart (of_min IsStart) _ span.least (each-number IsStart made-start bs all _ (bound-starts extended.min (extended-held s extended hard spaced).0)) span.least_is

    greatest-start : IsStart span.greatest
    greatest-start = of_reduced int_max IsStart (of_max IsStart) _ span.greatest (each-number IsStart made-start bs all _ (bound-starts extended.max (extended-held s extended hard spaced).1)) span.greatest_is

    low_placed : IsPlacedBound s hard.min
    low_placed = placed-bound s is hard.min (hard-held s extended hard spaced).0

    high_placed : IsPlacedBound s hard.max
    high_placed = placed-bound s is hard.max (hard-held s extended hard spaced).1

    pub span-keys : filled_keys s extended hard ns ≡ keys_from s first (filled_count s extended hard ns)
    span-keys =
        filled-at s is hard low_placed high_placed extended ns span.least span.greatest span.has span.least_is span.greatest_is least-start.0 least-start.1 greatest-start.1
        ∙ ap (λ f. keys_from s f (filled_count s extended hard ns)) (sym span.first_is)

    pub span-count : interval_count first last ≡ filled_count s extended hard ns
    span-count =
        (λ i. interval_count (span.first_is i) (span.last_is i))
        ∙ sym (ap (λ b. cond b (keys_between s hard (least_key s extended ns) (greatest_key s extended ns)) 0) span.has ∙ (λ i. keys_between s hard (span.least_is i) (span.greatest_is i)))

    first-least : least_number ≤ℤ first
    first-least = subst (λ (f : ℤ). least_number ≤ℤ f) (sym span.first_is) (low-least s is hard.min least_number)

    pub span-numbered : IsNumbered s first
    span-numbered = number-more s least_number first (number-is s span.least least-start.1) first-least

    -- the first number is at most that of each key, and the last at least that
    first-at_most : (k : Key) (m : IsMade s hard k) → span.least ≤ℤ m.number → first ≤ℤ number_at s m.number
    first-at_most k m low =
        let n = number_at s m.number in
        let placed = (made-start k m).1 in
        subst (λ (f : ℤ). f ≤ℤ n) (sym span.first_is)
        (of_bound hard.min low_placed (and_parts _ _ m.within).0 n (number-is s m.number placed) m.start (number-rising s is span.least m.number least-start.1 low))
      where
        of_bound : (bound : Option ℤ) → IsPlacedBound s bound → option_map_or (λ least. int_le least m.number) bound true ≡ true → (n : ℤ) → IsNumbered s n → start_at s n ≡ m.number → least_number ≤ℤ n
            → option_map_or (λ b. int_max least_number (number_from s b)) bound least_number ≤ℤ n
        of_bound None placed passes n numbered start least = least
        of_bound (Some b) placed passes n numbered start least =
            max_both least_number (number_from s b) n least (from-least s is b placed n numbered (subst (λ (k : ℤ). b ≤ℤ k) (sym start) (is-le b m.number passes)))

    last-at_least : (k : Key) (m : IsMade s hard k) → m.number ≤ℤ span.greatest → number_at s m.number ≤ℤ last
    last-at_least k m high =
        let n = number_at s m.number in
        let placed = (made-start k m).1 in
        subst (λ (g : ℤ). n ≤ℤ g) (sym span.last_is)
        (of_bound hard.max (and_parts _ _ m.within).1 n (number-is s m.number placed) m.start (number-rising s is m.number span.greatest placed high))
      where
        of_bound : (bound : Option ℤ) → option_map_or (λ greatest. int_le m.number greatest) bound true ≡ true → (n : ℤ) → IsNumbered s n → start_at s n ≡ m.number → n ≤ℤ greatest_number
            → n ≤ℤ option_map_or (λ b. int_min greatest_number (number_at s b)) bound greatest_number
        of_bound None passes n numbered start most = most
        of_bound (Some b) passes n numbered start most =
            min_both greatest_number (number_at s b) n most (last-greatest s is b n numbered (subst (λ (k : ℤ). k ≤ℤ b) (sym start) (is-le m.number b passes)))

    each-at : (cs : List Bucket) → are_made cs ≡ true → (more more' : List ℤ) → AllByRecursion (λ x. span.least ≤ℤ x) (key_numbers cs ++ more) → AllByRecursion (λ x. x ≤ℤ span.greatest) (key_numbers cs ++ more') → AreAt s first last cs
    each-at [] made_all more more' low high = tt
    each-at (c ∷ cs) made_all more more' low high =
        let parts = and_parts _ _ made_all in
        let m = made s hard (bucket_key c) parts.0 in
        let there : number_of_key (bucket_key c) ≡ Some m.number = ap number_of_key m.is in
        let low' = subst (λ o. AllByRecursion (λ x. span.least ≤ℤ x) (cons_option o (key_numbers cs) ++ more)) there low in
        let high' = subst (λ o. AllByRecursion (λ x. x ≤ℤ span.greatest) (cons_option o (key_numbers cs) ++ more')) there high in (
          record { number = number_at s m.number; is = m.is ∙ ap Whole (sym m.start); at_least = first-at_most (bucket_key c) m low'.0; at_most = last-at_least (bucket_key c) m high'.0 },
          each-at cs parts.1 more more' low'.1 high'.1,
        )

    pub span-holds : AreAt s first last bs
    span-holds =
        each-at bs all (option_to_list (option_map (interval_start s) extended.min)) (option_to_list (option_map (interval_start s) extended.max))
        (reduced-low _ span.least span.least_is) (reduced-high _ span.greatest span.greatest_is)

  abbrev Bounded : List Bucket → Type 0
  Bounded bs = ((filled_keys s extended hard (key_numbers bs) ≡ []) × ((filled_count s extended hard (key_numbers bs) ≡ 0) × (bs ≡ [])))
      ⊎ ((first : ℤ) × (last : ℤ) × IsSpan s extended hard (key_numbers bs) first last)

  made-span : (bs : List Bucket) (least greatest : ℤ) → has_buckets extended (key_numbers bs) ≡ true → least_key s extended (key_numbers bs) ≡ Some least → greatest_key s extended (key_numbers bs) ≡ Some greatest → Bounded bs
  made-span bs least greatest has low high =
      let first = first_from s hard (number_at s least) in
      let last = last_to s hard (number_at s greatest) in
      inr (first, last, record { least = least; greatest = greatest; has = has; least_is = low; greatest_is = high; first_is = refl; last_is = refl })

  -- a histogram has no bucket, or a span
  pub spans : (bs : List Bucket) → are_made bs ≡ true → Bounded bs
  spans [] all = by_bounds extended.min extended.max refl refl
    where
      none : has_buckets extended [] ≡ false → Bounded []
      none lacks =
          inl (
            ap (λ b. cond b (filter (is_between hard) (map Whole (starts_between s (least_key s extended []) (greatest_key s extended [])))) []) lacks,
            (
              ap (λ b. cond b (keys_between s hard (least_key s extended []) (greatest_key s extended [])) 0) lacks,
              refl,
            ),
          )

      by_bounds : (low high : Option ℤ) → extended.min ≡ low → extended.max ≡ high → Bounded []
      by_bounds None high e f = none (ap (λ o. is_some o && is_some extended.max) e)
      by_bounds (Some l) None e f = none (λ i. is_some (e i) && is_some (f i))
      by_bounds (Some l) (Some g) e f =
          made-span [] (interval_start s l) (interval_start s g) (λ i. is_some (e i) && is_some (f i))
          (ap (λ o. reduce int_min (option_to_list (option_map (interval_start s) o))) e)
          (ap (λ o. reduce int_max (option_to_list (option_map (interval_start s) o))) f)
  spans (b ∷ bs) all =
      let n = a_number b bs all in
      made-span (b ∷ bs) (fold int_min n.0 (key_numbers bs ++ option_to_list (option_map (interval_start s) extended.min)))
      (fold int_max n.0 (key_numbers bs ++ option_to_list (option_map (interval_start s) extended.max)))
      (ap (has_buckets extended) n.1) (ap (least_key s extended) n.1) (ap (greatest_key s extended) n.1)
