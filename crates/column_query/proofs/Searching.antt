-- What a search in ascending numbers finds, and lists that are sorted.
use Rattle.std.proofs.Common.{◌≡◌, refl, ℕ, ◌+◌, ◌<◌, suc, Bool, true, false, cond, List, [], ◌∷◌, length, get_or, Result, Ok, Err, is_ok, IsPermutation, inl, inr, sym, ◌∙◌, ap, arith, ℤ}
use Rattle.std.specs.Prelude.{◌||◌}
use Rattle.std.specs.List.{list_any, dedup, dedup_from}
use Rattle.std.specs.List.Sorted.{IsSorted, IsStrictlySortedBy, IsBinarySearchResult, IsSearchInRange}
use Rattle.std.specs.declared.cmp.Ordering.{Ordering}
use Rattle.std.specs.declared.cmp.Ordering.TheVariants.{Less, Greater}
use Rattle.std.specs.Ordering.{is_eq, is_lt, int_cmp, int_eq, ordering_reverse}
use Rattle.std.proofs.lemmas.Bool.{cases_lt, or_from}
use Rattle.std.proofs.lemmas.Cmp.{int_cmp_total, tied_back, alike_right}
use Rattle.std.proofs.lemmas.List.Sorted.{searchable_from_sorted, list_any-IsPermutation}
use Rattle.std.proofs.lemmas.Map.Keys.{Less-from_sorted}
use Rattle.std.proofs.lemmas.Option.{slice_get-get_or}
use Rattle.list_laws.proofs.Booleans.{or_same}
use Rattle.list_laws.proofs.Orders.{equal_of}
use Rattle.column_query.specs.Numbers.{is_among}
use Rattle.column_query.proofs.Lists.{one_is_enough}

not_falling : (numbers : List ℤ) → IsStrictlySortedBy int_cmp numbers → IsSorted int_cmp numbers
not_falling numbers strict k d low high =
    ap is_lt (int_cmp_total.antisymm (get_or numbers (k + 1) d) (get_or numbers k d) ∙ ap ordering_reverse (Less-from_sorted int_cmp numbers k (k + 1) d strict (omega arith) high))

none_passes : (p : ℤ → Bool) (numbers : List ℤ) (d : ℤ) → ((k : ℕ) → k < length numbers → p (get_or numbers k d) ≡ false) → list_any p numbers ≡ false
none_passes p [] d none = refl
none_passes p (n ∷ ns) d none = or_from _ _ (none 0 (omega arith)) (none_passes p ns d (λ k low. none (suc k) (omega (arith, low))))

turned : (x y : ℤ) (o : Ordering) → int_cmp y x ≡ o → is_eq (int_cmp x y) ≡ is_eq (ordering_reverse o)
turned x y o is = ap is_eq (int_cmp_total.antisymm x y ∙ ap ordering_reverse is)

-- what a binary search answers
pub search-finds : (numbers : List ℤ) → IsStrictlySortedBy int_cmp numbers → (x : ℤ) (answer : Result ℕ ℕ) → IsSearchInRange answer (length numbers) → IsBinarySearchResult (λ y. int_cmp y x) numbers answer → is_ok answer ≡ is_among numbers x
search-finds numbers strict x (Ok i) low position =
    sym (one_is_enough (λ (n : ℤ). is_eq (int_cmp x n)) numbers i (get_or numbers i x) (slice_get-get_or numbers i x low) (ap is_eq (tied_back int_cmp_total (get_or numbers i x) x (position x))))
search-finds numbers strict x (Err i) low position =
    let point = position (searchable_from_sorted int_cmp_total (λ y. y) numbers x (not_falling numbers strict)) in
    sym (none_passes (λ (n : ℤ). is_eq (int_cmp x n)) numbers x (λ k below. elim (cases_lt k i) [
      | inl before ↦ turned x (get_or numbers k x) Less (point.0 k x (omega arith) before)
      | inr behind ↦ turned x (get_or numbers k x) Greater (point.1 k x behind below)
    ]))

module _ (x : ℤ) where
  abbrev is_x : ℤ → Bool
  is_x n = is_eq (int_cmp x n)

  alike : (n m : ℤ) → int_eq n m ≡ true → is_x m ≡ is_x n
  alike n m same = sym (ap is_eq (alike_right int_cmp_total n m x (equal_of (int_cmp n m) same)))

  any_kept : (k : ℤ) (ns : List ℤ) → list_any is_x (dedup_from int_eq k ns) ≡ (is_x k || list_any is_x ns)
  any_kept k [] = refl
  any_kept k (n ∷ ns) =
      elim (int_eq n k) as (λ (b : Bool). int_eq n k ≡ b → list_any is_x (cond b (dedup_from int_eq k ns) (k ∷ dedup_from int_eq n ns)) ≡ (is_x k || (is_x n || list_any is_x ns))) [
        | true ↦ λ same. any_kept k ns ∙ (or_same (is_x k) (list_any is_x ns) ∙ ap (λ (b : Bool). is_x k || (b || list_any is_x ns)) (alike n k same))
        | false ↦ λ other. ap (λ (b : Bool). is_x k || b) (any_kept n ns)
      ] refl

  any_once : (ns : List ℤ) → list_any is_x (dedup int_eq ns) ≡ list_any is_x ns
  any_once [] = refl
  any_once (n ∷ ns) = any_kept n ns

-- a list that is sorted, each number once, has the numbers that it had
pub sorted-has : (numbers ordered ascending : List ℤ) → IsPermutation numbers ordered → ascending ≡ dedup int_eq ordered → (x : ℤ) → is_among ascending x ≡ is_among numbers x
sorted-has numbers ordered ascending moved is x =
    ap (λ (ns : List ℤ). is_among ns x) is ∙ (any_once x ordered ∙ sym (list_any-IsPermutation (λ (n : ℤ). is_eq (int_cmp x n)) numbers ordered moved))
