-- Items in runs: the place of a key among the runs.
use Rattle.std.proofs.Common.{◌≡◌, refl, ℕ, zero, suc, ◌<◌, ◌≤◌, Bool, true, false, List, [], ◌∷◌, ◌++◌, length, get_or, take, drop, Option, Some, None, Less, Equal, Greater, sym, ◌∙◌, ap, subst, arith}
use Rattle.std.specs.Prelude.{T}
use Rattle.std.proofs.lemmas.List.{append-nil, length-append}
use Rattle.std.specs.List.{list_all, last_or}
use Rattle.std.specs.List.Sorted.{IsPartitionedBy}
use Rattle.std.specs.Option.{option_map_or}
use Rattle.std.specs.Ordering.{is_lt, ordering_reverse}
use Rattle.std.specs.declared.cmp.Ordering.{Ordering}
use Rattle.std.proofs.lemmas.Bool.{false≢true}
use Rattle.agg_model.specs.declared.aggregation.CompositeSource.{CompositeSource}
use Rattle.agg_model.specs.declared.key.Key.{Key}
use Rattle.bucket_order.specs.Composites.{key_parts}
use Rattle.bucket_order.proofs.CompositeLaws.{any_parts_total}
use Rattle.list_laws.proofs.Booleans.{and_left, and_right, both, holds, true_is}
use Rattle.composite_agg.specs.InOrder.{IsInOrder, page_cmp}
use Rattle.composite_agg.specs.Runs.{AreFilled, Run, in_runs, place_in}
use Rattle.composite_agg.proofs.PlaceOrder.{at, before_trans}
use Rattle.composite_agg.proofs.PageSteps.{back}
use Rattle.composite_agg.proofs.InOrder.{last-decides}
use Rattle.composite_agg.proofs.InRuns.{filled-at, got, place-below, seam}

module _ {A : Type 0} (p : A → Bool) where
  pub all-right : (xs ys : List A) → T (list_all p (xs ++ ys)) → T (list_all p ys)
  all-right [] ys all = all
  all-right (x ∷ xs) ys all = all-right xs ys (and_right _ _ all)

  pub all-left : (xs ys : List A) → T (list_all p (xs ++ ys)) → T (list_all p xs)
  all-left [] ys all = tt
  all-left (x ∷ xs) ys all = both _ _ (and_left _ _ all) (all-left xs ys (and_right _ _ all))

  pub all-append : (xs ys : List A) → T (list_all p xs) → T (list_all p ys) → T (list_all p (xs ++ ys))
  all-append [] ys all more = more
  all-append (x ∷ xs) ys all more = both _ _ (and_left _ _ all) (all-append xs ys (and_right _ _ all) more)

first-of : {A : Type 0} (bs : List A) → 0 < length bs → A
first-of [] some = absurd (omega (arith, some))
first-of (b ∷ bs) some = b

module _ {A : Type 0} (key_of : A → Key) (sources : List CompositeSource) where
  pub order-right : (xs ys : List A) → IsInOrder key_of sources (xs ++ ys) → IsInOrder key_of sources ys
  order-right [] ys order = order
  order-right (x ∷ xs) ys order = order-right xs ys order.1

  pub order-left : (xs ys : List A) → IsInOrder key_of sources (xs ++ ys) → IsInOrder key_of sources xs
  order-left [] ys order = tt
  order-left (x ∷ xs) ys order = (all-left (λ later. is_lt (page_cmp sources (key_of x) (key_of later))) xs ys order.0, order-left xs ys order.1)

  pub order-run : (rs : List (Run A)) (r : ℕ) (d : Run A) → r < length rs → IsInOrder key_of sources (in_runs rs) → IsInOrder key_of sources (get_or rs r d).items
  order-run rs r d below order =
      order-left (get_or rs r d).items (in_runs (drop (suc r) rs)) (order-right (in_runs (take r rs)) ((get_or rs r d).items ++ in_runs (drop (suc r) rs)) (subst (IsInOrder key_of sources) (seam rs r d below) order))

  module _ (key : Key) where
    abbrev is_first : A → Bool
    is_first b = is_lt (page_cmp sources (key_of b) key)

    -- the last item of a run comes before the key
    abbrev pub ends_first : Run A → Bool
    ends_first run = option_map_or is_first (last_or None run.items) true

    front-first : (bs ys : List A) (m : ℕ) (e : A) → m < length ys → IsInOrder key_of sources (bs ++ ys) → T (is_first (get_or ys m e)) → T (list_all is_first bs)
    front-first [] ys m e below order less = tt
    front-first (b ∷ bs) ys m e below order less =
        both _ _ (before_trans sources (key_of b) (key_of (get_or ys m e)) key
        (at (λ later. is_lt (page_cmp sources (key_of b) (key_of later))) ys m e below (all-right (λ later. is_lt (page_cmp sources (key_of b) (key_of later))) bs ys order.0)) less)
        (front-first bs ys m e below order.1 less)

    run-first : (rs : List (Run A)) (r : ℕ) (d : Run A) → r < length rs → IsInOrder key_of sources (in_runs rs) → ends_first (get_or rs r d) ≡ true → T (list_all is_first (get_or rs r d).items)
    run-first rs r d below order e = holds _ (last-decides key_of sources key (get_or rs r d).items (order-run rs r d below order) ∙ e)

    -- the runs before the key stand in front
    pub parted-runs : (rs : List (Run A)) → IsInOrder key_of sources (in_runs rs) → AreFilled rs → IsPartitionedBy ends_first rs
    parted-runs [] order filled i j d le below e = absurd (omega (arith, below))
    parted-runs (r ∷ rs) order filled zero zero d le below e = e
    parted-runs (r ∷ rs) order filled zero (suc j) d le below e =
        let short : j < length rs = omega (arith, below) in
        let rest = order-right r.items (in_runs rs) order in
        let some = filled-at rs j d short filled.1 in
        let b = first-of (get_or rs j d).items some in
        let less : T (is_first (get_or (get_or rs j d).items 0 b)) = at is_first (get_or rs j d).items 0 b some (run-first rs j d short rest e) in
        let all = front-first r.items (in_runs rs) (place_in rs j 0) b (place-below rs j 0 d short some) order (subst (λ c. T (is_first c)) (sym (got rs j 0 d short b some)) less) in
        sym (last-decides key_of sources key r.items (order-left r.items (in_runs rs) order)) ∙ true_is _ all
    parted-runs (r ∷ rs) order filled (suc i) zero d le below e = absurd (omega (arith, le))
    parted-runs (r ∷ rs) order filled (suc i) (suc j) d le below e = parted-runs rs (order-right r.items (in_runs rs) order) filled.1 i j d (omega (arith, le)) (omega (arith, below)) e

    pub runs-first : (rs : List (Run A)) (n : ℕ) → n ≤ length rs → IsInOrder key_of sources (in_runs rs) → ((k : ℕ) (d : Run A) → k < n → ends_first (get_or rs k d) ≡ true) → T (list_all is_first (in_runs (take n rs)))
    runs-first [] zero le order all = tt
    runs-first [] (suc n) le order all = tt
    runs-first (r ∷ rs) zero le order all = tt
    runs-first (r ∷ rs) (suc n) le order all =
        all-append is_first r.items (in_runs (take n rs)) (holds _ (last-decides key_of sources key r.items (order-left r.items (in_runs rs) order) ∙ all 0 r (omega arith)))
        (runs-first rs n (omega (arith, le)) (order-right r.items (in_runs rs) order) (λ k d below. all (suc k) d (omega (arith, below))))

    behind-tie : (b : A) (c : A) (o : Ordering) → page_cmp sources (key_of b) key ≡ o → is_first b ≡ false → T (is_lt (page_cmp sources (key_of b) (key_of c))) → T (is_lt (page_cmp sources key (key_of c)))
    behind-tie b c Less is e less = absurd (false≢true (sym e ∙ ap is_lt is))
    behind-tie b c Equal is e less = subst (λ o. T (is_lt o)) ((any_parts_total sources).congr (key_parts (key_of b)) (key_parts key) (key_parts (key_of c)) is) less
    behind-tie b c Greater is e less =
        before_trans sources key (key_of b) (key_of c) (subst (λ o. T (is_lt o)) (sym (back sources key (key_of b) ∙ ap ordering_reverse is)) tt) less

    behind-one : (b : A) (cs : List A) → is_first b ≡ false → T (list_all (λ c. is_lt (page_cmp sources (key_of b) (key_of c))) cs) → T (list_all (λ c. is_lt (page_cmp sources key (key_of c))) cs)
    behind-one b [] e all = tt
    behind-one b (c ∷ cs) e all = both _ _ (behind-tie b c (page_cmp sources (key_of b) key) refl e (and_left _ _ all)) (behind-one b cs e (and_right _ _ all))

    behind-last : (bs cs : List A) → 0 < length bs → IsInOrder key_of sources (bs ++ cs) → option_map_or is_first (last_or None bs) true ≡ false → T (list_all (λ c. is_lt (page_cmp sources key (key_of c))) cs)
    behind-last [] cs some order e = absurd (omega (arith, some))
    behind-last (b ∷ []) cs some order e = behind-one b cs e order.0
    behind-last (b ∷ c ∷ bs) cs some order e = behind-last (c ∷ bs) cs (omega arith) order.1 e

    -- the runs behind one whose last item does not come before the key
    pub runs-behind : (rs : List (Run A)) (r : ℕ) (d : Run A) → r < length rs → IsInOrder key_of sources (in_runs rs) → AreFilled rs → ends_first (get_or rs r d) ≡ false
        → T (list_all (λ c. is_lt (page_cmp sources key (key_of c))) (in_runs (drop (suc r) rs)))
    runs-behind rs r d below order filled e =
        behind-last (get_or rs r d).items (in_runs (drop (suc r) rs)) (filled-at rs r d below filled)
        (order-right (in_runs (take r rs)) ((get_or rs r d).items ++ in_runs (drop (suc r) rs)) (subst (IsInOrder key_of sources) (seam rs r d below) order)) e

last-append : {A : Type 0} (o : Option A) (xs ys : List A) → 0 < length ys → last_or o (xs ++ ys) ≡ last_or None ys
last-append o [] [] some = absurd (omega (arith, some))
last-append o [] (y ∷ ys) some = refl
last-append o (x ∷ xs) ys some = last-append (Some x) xs ys some

-- the last item is that of the last run
pub last-of-runs : {A : Type 0} (rs : List (Run A)) → AreFilled rs → (run : Run A) → last_or None rs ≡ Some run → last_or None (in_runs rs) ≡ last_or None run.items
last-of-runs [] filled run e = absurd (cc e)
last-of-runs {A} (x ∷ []) filled run e = let same : x ≡ run = cc e in ap (last_or None) (append-nil x.items) ∙ ap (λ (r : Run A). last_or None r.items) same
last-of-runs (x ∷ y ∷ ys) filled run e =
    let n = length-append y.items (in_runs ys) in
    let first = filled.1.0 in
    let some : 0 < length (in_runs (y ∷ ys)) = omega (arith, n, first) in
    last-append None x.items (in_runs (y ∷ ys)) some ∙ last-of-runs (y ∷ ys) filled.1 run e

-- what holds of all items holds of those of a run
pub all-run : {A : Type 0} (p : A → Bool) (rs : List (Run A)) (r : ℕ) (d : Run A) → r < length rs → T (list_all p (in_runs rs)) → T (list_all p (get_or rs r d).items)
all-run p rs r d below all =
    all-left p (get_or rs r d).items (in_runs (drop (suc r) rs))
    (all-right p (in_runs (take r rs)) ((get_or rs r d).items ++ in_runs (drop (suc r) rs)) (subst (λ xs. T (list_all p xs)) (seam rs r d below) all))

pub first-run : {A : Type 0} (rs : List (Run A)) → 0 < length rs → Run A
first-run [] some = absurd (omega (arith, some))
first-run (r ∷ rs) some = r

pub some-runs : {A : Type 0} (rs : List (Run A)) → 0 < length (in_runs rs) → 0 < length rs
some-runs [] some = absurd (omega (arith, some))
some-runs (r ∷ rs) some = omega arith
