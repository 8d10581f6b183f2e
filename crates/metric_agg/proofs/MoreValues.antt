-- A metric of one more value.
use Rattle.std.proofs.Common.{◌≡◌, refl, ℕ, ℤ, ◌+◌, ◌<◌, ◌≤◌, zero, suc, List, [], ◌∷◌, ◌++◌, length, map, take, Option, Some, None, sym, ◌∙◌, ap, subst, arith, add-one}
use Rattle.std.specs.Prelude.{◌+ℤ◌, filter_map}
use Rattle.std.specs.List.{reduce, slice_get}
use Rattle.std.specs.Int.{int_min, int_max}
use Rattle.std.specs.Option.{option_map_or}
use Rattle.std.proofs.lemmas.Int.{ints}
use Rattle.std.proofs.lemmas.List.{length-append}
use Rattle.std.proofs.lemmas.List.Sums.{fold-append}
use Rattle.list_laws.proofs.Lists.{filter_map-append, append-nil}
use Rattle.agg_model.specs.declared.partial.Metric.{Metric}
use Rattle.agg_model.specs.declared.row.Scalar.{Scalar}
use Rattle.agg_model.specs.declared.row.Scalar.TheVariants.{Whole, Word, Flag}
use Rattle.agg_evaluation.specs.Keys.{or_missing}
use Rattle.agg_evaluation.specs.Shard.{metric_of, int_sum, integer_of}
use Rattle.agg_evaluation.proofs.MetricLaws.{int_sum-append}
use Rattle.shard_columns.specs.Lent.{wholes_in}

abbrev numbers : List Scalar → List ℤ
numbers = filter_map integer_of

reduce-more : (f : ℤ → ℤ → ℤ) (ns : List ℤ) (n : ℤ) → reduce f (ns ++ n ∷ []) ≡ Some (option_map_or (λ before. f before n) (reduce f ns) n)
reduce-more f [] n = refl
reduce-more f (m ∷ ns) n = ap Some (fold-append f m ns (n ∷ []))

sum-more : (ns : List ℤ) (n : ℤ) → int_sum (ns ++ n ∷ []) ≡ int_sum ns +ℤ n
sum-more ns n = let more = int_sum-append ns (n ∷ []) in omega (arith, ints)

length-more : (seen : List Scalar) (v : Scalar) → length (seen ++ v ∷ []) ≡ length seen + 1
length-more seen v = length-append seen (v ∷ [])

whole-more : (seen : List Scalar) (n : ℤ) → numbers (seen ++ Whole n ∷ []) ≡ numbers seen ++ n ∷ []
whole-more seen n = filter_map-append integer_of seen (Whole n ∷ [])

none-more : (v : Scalar) → integer_of v ≡ None → numbers (v ∷ []) ≡ []
none-more (Whole n) is = absurd (cc is)
none-more _ is = refl

other-more : (seen : List Scalar) (v : Scalar) → integer_of v ≡ None → numbers (seen ++ v ∷ []) ≡ numbers seen
other-more seen v is = filter_map-append integer_of seen (v ∷ []) ∙ (ap (λ (ns : List ℤ). numbers seen ++ ns) (none-more v is) ∙ append-nil (numbers seen))

-- a whole number more
pub with_whole : (m : Metric) (v : Scalar) (n sum least greatest : ℤ) → v ≡ Whole n → sum ≡ m.sum +ℤ n → least ≡ option_map_or (λ before. int_min before n) m.least n → greatest ≡ option_map_or (λ before. int_max before n) m.greatest n
    → (seen : List Scalar) → m ≡ metric_of seen → (record { count = m.count + 1; sum = sum; least = Some least; greatest = Some greatest }) ≡ metric_of (seen ++ v ∷ [])
with_whole m v n sum least greatest is sums leasts greatests seen e =
    let more : numbers (seen ++ v ∷ []) ≡ numbers seen ++ n ∷ [] = ap (λ (w : Scalar). numbers (seen ++ w ∷ [])) is ∙ whole-more seen n in
    λ i. record {
      count = (ap (λ (o : Metric). o.count + 1) e ∙ sym (length-more seen v)) i;
      sum = (sums ∙ (ap (λ (o : Metric). o.sum +ℤ n) e ∙ sym (ap int_sum more ∙ sum-more (numbers seen) n))) i;
      least = (ap Some (leasts ∙ ap (λ (o : Metric). option_map_or (λ before. int_min before n) o.least n) e) ∙ sym (ap (reduce int_min) more ∙ reduce-more int_min (numbers seen) n)) i;
      greatest = (ap Some (greatests ∙ ap (λ (o : Metric). option_map_or (λ before. int_max before n) o.greatest n) e) ∙ sym (ap (reduce int_max) more ∙ reduce-more int_max (numbers seen) n)) i;
    }

-- a value more that is no whole number
pub with_other : (m : Metric) (v : Scalar) (sum : ℤ) → integer_of v ≡ None → sum ≡ m.sum
    → (seen : List Scalar) → m ≡ metric_of seen → (record { count = m.count + 1; sum = sum; least = m.least; greatest = m.greatest }) ≡ metric_of (seen ++ v ∷ [])
with_other m v sum is sums seen e =
    let same : numbers (seen ++ v ∷ []) ≡ numbers seen = other-more seen v is in
    λ i. record {
      count = (ap (λ (o : Metric). o.count + 1) e ∙ sym (length-more seen v)) i;
      sum = (sums ∙ (ap (λ (o : Metric). o.sum) e ∙ sym (ap int_sum same))) i;
      least = (ap (λ (o : Metric). o.least) e ∙ sym (ap (reduce int_min) same)) i;
      greatest = (ap (λ (o : Metric). o.greatest) e ∙ sym (ap (reduce int_max) same)) i;
    }

take-next : (seen values : List Scalar) (n : ℕ) (v : Scalar) → slice_get values n ≡ Some v → (seen ++ take n values) ++ v ∷ [] ≡ seen ++ take (suc n) values
take-next [] [] n v is = absurd (cc is)
take-next [] (w ∷ values) zero v is = let same : v ≡ w = cc is in ap (λ (x : Scalar). x ∷ []) same
take-next [] (w ∷ values) (suc n) v is = ap (λ (xs : List Scalar). w ∷ xs) (take-next [] values n v is)
take-next (s ∷ seen) values n v is = ap (λ (xs : List Scalar). s ∷ xs) (take-next seen values n v is)

-- one value more is seen
pub seen_more : (seen values : List Scalar) (n : ℕ) (v : Scalar) → slice_get values n ≡ Some v → (seen ++ take n values) ++ v ∷ [] ≡ seen ++ take (n + 1) values
seen_more seen values n v is = subst (λ (k : ℕ). (seen ++ take n values) ++ v ∷ [] ≡ seen ++ take k values) (sym (add-one n)) (take-next seen values n v is)

-- all values are seen
pub all-seen : (values : List Scalar) (n : ℕ) → length values ≤ n → take n values ≡ values
all-seen [] zero le = refl
all-seen [] (suc n) le = refl
all-seen (v ∷ values) zero le = absurd (omega arith)
all-seen (v ∷ values) (suc n) le = ap (λ (vs : List Scalar). v ∷ vs) (all-seen values n (omega arith))

few-wholes : (values : List Scalar) → length (wholes_in values) ≤ length values
few-wholes [] = omega arith
few-wholes (Whole n ∷ values) = let fewer = few-wholes values in omega arith
few-wholes (Word w ∷ values) = let fewer = few-wholes values in omega arith
few-wholes (Flag b ∷ values) = let fewer = few-wholes values in omega arith

-- where there are as many whole numbers as values, those are the values
pub wholes-are : (values : List Scalar) → length (wholes_in values) ≡ length values → map Whole (wholes_in values) ≡ values
wholes-are [] all = refl
wholes-are (Whole n ∷ values) all = ap (λ (vs : List Scalar). Whole n ∷ vs) (wholes-are values (omega arith))
wholes-are (Word w ∷ values) all = let fewer = few-wholes values in absurd (omega arith)
wholes-are (Flag b ∷ values) all = let fewer = few-wholes values in absurd (omega arith)

-- nothing stands for the values of a row that has some
pub some-values : (missing : Option Scalar) (values : List Scalar) → 0 < length values → or_missing missing values ≡ values
some-values missing [] some = absurd (omega arith)
some-values missing (v ∷ values) some = refl
