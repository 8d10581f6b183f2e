-- Buckets put among the keys of a histogram: where a key has none an empty one stands.
use Rattle.std.specs.Prelude.{◌≡◌, refl, ℕ, zero, suc, ◌+◌, ◌*◌, ◌≤◌, ℤ, pos, ◌+ℤ◌, ◌≤ℤ◌, ◌<ℤ◌, true, false, cond, List, [], ◌∷◌, map, length, sum_by, Some, unwrap_or, find}
use Rattle.std.specs.List.{list_all, AllByRecursion}
use Rattle.std.specs.Ordering.{is_eq, is_lt}
use Rattle.std.specs.declared.cmp.Ordering.TheVariants.{Less, Greater}
use Rattle.std.specs.Cmp.{int_cmp_is}
use Rattle.std.proofs.Common.{sym, ◌∙◌, ap, subst, arith}
use Rattle.std.proofs.lemmas.Bool.{and_parts}
use Rattle.std.proofs.lemmas.Cmp.{int_ranked}
use Rattle.std.proofs.lemmas.Int.{ints, by_lt_z}
use Rattle.std.proofs.lemmas.List.Sums.{sum_by-cons}
use Rattle.date_spec.proofs.PeriodLemmas.{less_itself, less-next, most_least}
use Rattle.agg_model.specs.declared.key.Key.{Key}
use Rattle.agg_model.specs.declared.key.Key.TheVariants.{Whole}
use Rattle.agg_model.specs.declared.partial.Bucket.{Bucket}
use Rattle.agg_model.specs.declared.aggregation.Spacing.{Spacing}
use Rattle.agg_evaluation.specs.KeyOrder.{key_cmp, key_eq}
use Rattle.agg_evaluation.specs.Orders.{bucket_key}
use Rattle.agg_evaluation.specs.Spacings.{start_at}
use Rattle.agg_evaluation.specs.Trees.{is_ascending}
use Rattle.agg_evaluation.proofs.Computing.{computing}
use Rattle.agg_evaluation.proofs.KeyLists.{key_eq-self}
use Rattle.agg_spec.specs.Filling.{bucket_at}
use Rattle.agg_spec.specs.GapCount.{interval_count}
use Rattle.list_laws.proofs.Orders.{less_of}
use Rattle.final_reduce.specs.Steps.{keys_from}
use Rattle.final_reduce.proofs.Intervals.{IsNumbered, IsSpacing, number-more, one_step, start-rising}

pub whole_cmp : (m n : ℤ) → m <ℤ n → key_cmp (Whole m) (Whole n) ≡ Less
unfolding computing
whole_cmp m n less = sym (int_cmp_is m n Less less)

whole_cmp-back : (m n : ℤ) → m <ℤ n → key_cmp (Whole n) (Whole m) ≡ Greater
unfolding computing
whole_cmp-back m n less = sym (int_cmp_is n m Greater less)

pub apart : (m n : ℤ) → m <ℤ n → key_eq (Whole m) (Whole n) ≡ false
apart m n less = ap is_eq (whole_cmp m n less)

whole_less : (m n : ℤ) → is_lt (key_cmp (Whole m) (Whole n)) ≡ true → m <ℤ n
unfolding computing
whole_less m n e = int_ranked m n Less (sym (less_of _ e))

more_next : (n : ℤ) → n ≤ℤ (n +ℤ pos 1)
more_next n = omega (arith, ints)

next-less : (n m : ℤ) → (n +ℤ pos 1) ≤ℤ m → n <ℤ m
next-less n m h = omega (arith, ints, h)

less-next_of : (m n : ℤ) → m <ℤ n → m <ℤ (n +ℤ pos 1)
less-next_of m n h = omega (arith, ints, h)

itself-less : (n : ℤ) → n <ℤ (n +ℤ pos 1)
itself-less n = omega (arith, ints)

most_of : (n m g : ℤ) → n ≤ℤ m → m ≤ℤ g → n ≤ℤ g
most_of n m g h k = omega (arith, ints, h, k)

both_ways : (a b : ℤ) → a <ℤ b → b <ℤ a → ⊥
both_ways a b h k = omega (arith, ints, h, k)

module _ (s : Spacing) where
  -- a bucket whose key is that of an interval, from one number on and up to another
  pub record IsAt (low high : ℤ) (b : Bucket) : Type 0 where
    pub number : ℤ
    pub is : bucket_key b ≡ Whole (start_at s number)
    pub at_least : low ≤ℤ number
    pub at_most : number ≤ℤ high

  abbrev pub AreAt : ℤ → ℤ → List Bucket → Type 0
  AreAt low high bs = AllByRecursion (IsAt low high) bs

  module _ (spaced : IsSpacing s) where
    module _ (high n : ℤ) (numbered : IsNumbered s n) where
      abbrev next : ℤ
      next = n +ℤ pos 1

      past : (b : Bucket) (at : IsAt n high b) → n <ℤ at.number → IsAt next high b
      past b at less = record { number = at.number; is = at.is; at_least = less-next n at.number less; at_most = at.at_most }

      -- a bucket of a later key is past the number
      later_key : (b : Bucket) (at : IsAt n high b) → start_at s n <ℤ start_at s at.number → n <ℤ at.number
      later_key b at less =
          by_lt_z n at.number (λ h. h)
          (λ most. absurd (less_itself (start_at s n) (subst (λ (m : ℤ). start_at s n <ℤ start_at s m) (most_least at.number n most at.at_least) less)))

      -- what stands behind a bucket of the key is from the next number on
      pub behind : (key : Key) → key ≡ Whole (start_at s n) → (bs : List Bucket) → AreAt n high bs → list_all (λ later. is_lt (key_cmp key later)) (map bucket_key bs) ≡ true → AreAt next high bs
      behind key is [] all below = tt
      behind key is (b ∷ bs) all below =
          let parts = and_parts _ _ below in
          let less = whole_less (start_at s n) (start_at s all.0.number) (sym (λ i. is_lt (key_cmp (is i) (all.0.is i))) ∙ parts.0) in
          (past b all.0 (later_key b all.0 less), behind key is bs all.1 parts.1)

      -- where the first bucket is past the number, all are
      pub all_past : (b : Bucket) (bs : List Bucket) (at : IsAt n high b) → n <ℤ at.number → AreAt n high bs → list_all (λ later. is_lt (key_cmp (bucket_key b) later)) (map bucket_key bs) ≡ true → AreAt next high (b ∷ bs)
      all_past b bs at less all below = (past b at less, each bs all below)
        where
          each : (cs : List Bucket) → AreAt n high cs → list_all (λ later. is_lt (key_cmp (bucket_key b) later)) (map bucket_key cs) ≡ true → AreAt next high cs
          each [] all below = tt
          each (c ∷ cs) all below =
              let parts = and_parts _ _ below in
              let more = whole_less (start_at s at.number) (start_at s all.0.number) (sym (λ i. is_lt (key_cmp (at.is i) (all.0.is i))) ∙ parts.0) in
              let first = start-rising s spaced n at.number numbered less in
              let later = later_key c all.0 (let both : start_at s n <ℤ start_at s all.0.number = omega (arith, ints, first, more) in both) in
              (past c all.0 later, each cs all.1 parts.1)

    module _ (empty : Key → Bucket) where
      abbrev put_among : List Bucket → ℤ → ℕ → List Bucket
      put_among bs n m = map (bucket_at empty bs) (keys_from s n m)

      found : (bs : List Bucket) (b : Bucket) (k : ℤ) → bucket_key b ≡ Whole k → bucket_at empty (b ∷ bs) (Whole k) ≡ b
      found bs b k is = ap (λ c. unwrap_or (cond c (Some b) (find (λ b. key_eq (Whole k) (bucket_key b)) bs)) (empty (Whole k))) (ap (key_eq (Whole k)) is ∙ key_eq-self (Whole k))

      skipped : (bs : List Bucket) (b : Bucket) (k : ℤ) → key_eq (Whole k) (bucket_key b) ≡ false → bucket_at empty (b ∷ bs) (Whole k) ≡ bucket_at empty bs (Whole k)
      skipped bs b k differs = ap (λ c. unwrap_or (cond c (Some b) (find (λ b. key_eq (Whole k) (bucket_key b)) bs)) (empty (Whole k))) differs

      absent : (high n : ℤ) → IsNumbered s n → (bs : List Bucket) → AreAt (n +ℤ pos 1) high bs → bucket_at empty bs (Whole (start_at s n)) ≡ empty (Whole (start_at s n))
      absent high n numbered [] all = refl
      absent high n numbered (b ∷ bs) all =
          let at = all.0 in
          let less = start-rising s spaced n at.number numbered (next-less n at.number at.at_least) in
          skipped bs b (start_at s n) (ap (key_eq (Whole (start_at s n))) at.is ∙ ap is_eq (whole_cmp (start_at s n) (start_at s at.number) less)) ∙ absent high n numbered bs all.1

      later : (b : Bucket) (m : ℤ) → IsNumbered s m → bucket_key b ≡ Whole (start_at s m) → (bs : List Bucket) (count : ℕ) (n : ℤ) → m <ℤ n → put_among (b ∷ bs) n count ≡ put_among bs n count
      later b m numbered is bs zero n less = refl
      later b m numbered is bs (suc count) n less =
          let after = start-rising s spaced m n numbered less in
          let here = skipped bs b (start_at s n) (ap (key_eq (Whole (start_at s n))) is ∙ ap is_eq (whole_cmp-back (start_at s m) (start_at s n) after)) in
          let rest = later b m numbered is bs count (n +ℤ pos 1) (less-next_of m n less) in
          λ i. here i ∷ rest i

      -- a bucket of the key comes first, and the others stand among the later keys
      pub put-found : (b : Bucket) (bs : List Bucket) (n : ℤ) → IsNumbered s n → (count : ℕ) → bucket_key b ≡ Whole (start_at s n) → put_among (b ∷ bs) n (suc count) ≡ b ∷ put_among bs (n +ℤ pos 1) count
      put-found b bs n numbered count is = λ i. found bs b (start_at s n) is i ∷ later b n numbered is bs count (n +ℤ pos 1) (itself-less n) i

      -- with no bucket of the key an empty one comes first
      pub put-absent : (high : ℤ) (bs : List Bucket) (n : ℤ) → IsNumbered s n → (count : ℕ) → AreAt (n +ℤ pos 1) high bs → put_among bs n (suc count) ≡ empty (Whole (start_at s n)) ∷ put_among bs (n +ℤ pos 1) count
      put-absent high bs n numbered count all = ap (λ b. b ∷ put_among bs (n +ℤ pos 1) count) (absent high n numbered bs all)

      module _ (weight : Bucket → ℕ) (nothing : ℕ) (empties : (key : Key) → weight (empty key) ≡ nothing) (high : ℤ) where
        abbrev AddsUp : List Bucket → ℤ → ℕ → Type 0
        AddsUp bs n count = (sum_by weight (put_among bs n count) + length bs * nothing ≡ sum_by weight bs + count * nothing) × (length bs ≤ count)

        filled-none : (count : ℕ) (n : ℤ) → sum_by weight (put_among [] n count) ≡ count * nothing
        filled-none zero n = omega arith
        filled-none (suc count) n =
            let rest = filled-none count (n +ℤ pos 1) in
            let product : suc count * nothing ≡ nothing + count * nothing = omega arith in
            omega (arith, rest, product, empties (Whole (start_at s n)), sum_by-cons weight (empty (Whole (start_at s n))) (put_among [] (n +ℤ pos 1) count))

        one-more : (bs : List Bucket) (n : ℤ) → IsNumbered s n → (count : ℕ) → AreAt (n +ℤ pos 1) high bs → AddsUp bs (n +ℤ pos 1) count → AddsUp bs n (suc count)
        one-more bs n numbered count all rest =
            let product : suc count * nothing ≡ nothing + count * nothing = omega arith in
            let sum = ap (sum_by weight) (put-absent high bs n numbered count all) in
            let sums = rest.0 in
            let few = rest.1 in
            (omega (arith, sum, sums, product, empties (Whole (start_at s n)), sum_by-cons weight (empty (Whole (start_at s n))) (put_among bs (n +ℤ pos 1) count)), omega (arith, few))

        -- The buckets are all there, and each further key has an empty one.
        pub adds_up : (count : ℕ) (n : ℤ) → IsNumbered s n → count ≡ interval_count n high → (bs : List Bucket) → is_ascending (map bucket_key bs) ≡ true → AreAt n high bs → AddsUp bs n count
        adds_up count n numbered e [] up all =
            let none = filled-none count n in
            let product : 0 * nothing ≡ 0 = omega arith in
            (omega (arith, none, product), omega arith)
        adds_up zero n numbered e (b ∷ bs) up all = absurd (omega (arith, e, one_step n high (most_of n all.0.number high all.0.at_least all.0.at_most)))
        adds_up (suc count) n numbered e (b ∷ bs) up all =
            let at = all.0 in
            let n' = n +ℤ pos 1 in
            let numbered' = number-more s n n' numbered (more_next n) in
            let e' : count ≡ interval_count n' high = omega (arith, e, one_step n high (most_of n at.number high at.at_least at.at_most)) in
            let parts = and_parts _ _ up in
            by_lt_z n at.number
            (λ less. let past = all_past high n numbered b bs at less all.1 parts.0 in one-more (b ∷ bs) n numbered count past (adds_up count n' numbered' e' (b ∷ bs) up past))
            (λ most.
            let same : at.number ≡ n = most_least at.number n most at.at_least in
            let is = at.is ∙ ap (λ m. Whole (start_at s m)) same in
            let rest = adds_up count n' numbered' e' bs parts.1 (behind high n numbered (bucket_key b) is bs all.1 parts.0) in
            let sums = rest.0 in
            let few = rest.1 in
            let sum = ap (sum_by weight) (put-found b bs n numbered count is) in
            let product : suc count * nothing ≡ nothing + count * nothing = omega arith in
            let product' : suc (length bs) * nothing ≡ nothing + length bs * nothing = omega arith in
            (omega (arith, sum, sums, product, product', sum_by-cons weight b (put_among bs n' count), sum_by-cons weight b bs), omega (arith, few)))
