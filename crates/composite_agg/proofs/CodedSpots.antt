-- Spots at which an item is, and keys that come between two neighbours there.
use Rattle.std.proofs.Common.{◌≡◌, ℕ, zero, suc, ◌-◌, ◌<◌, List, [], ◌∷◌, length, get_or, take, drop, sym, ◌∙◌, ap, subst, arith}
use Rattle.std.specs.Prelude.{T}
use Rattle.std.specs.Ordering.{is_lt}
use Rattle.std.proofs.lemmas.List.{get_or_default}
use Rattle.agg_model.specs.declared.aggregation.CompositeSource.{CompositeSource}
use Rattle.agg_model.specs.declared.key.Key.{Key}
use Rattle.list_laws.proofs.Booleans.{both, true_is}
use Rattle.composite_agg.specs.InOrder.{IsInOrder, all_before, all_behind, page_cmp}
use Rattle.composite_agg.specs.Runs.{IsGapFor, IsSpotOf, Run, in_runs, place_in}
use Rattle.composite_agg.specs.declared.runs.Spot.{Spot}
use Rattle.composite_agg.proofs.InOrder.{behind-all}
use Rattle.composite_agg.proofs.InRuns.{got, place-below}
use Rattle.composite_agg.proofs.PlaceOrder.{at, before_trans}

module _ {A : Type 0} (key : A → Key) (sources : List CompositeSource) (k : Key) where
  -- those up to one that comes before it
  front-from : (xs : List A) (n : ℕ) (d : A) → n < length xs → IsInOrder key sources xs → T (is_lt (page_cmp sources (key (get_or xs n d)) k)) → T (all_before key sources k (take (suc n) xs))
  front-from [] n d below order first = absurd (omega (arith, below))
  front-from (x ∷ []) zero d below order first = both _ _ first tt
  front-from (x ∷ y ∷ xs) zero d below order first = both _ _ first tt
  front-from (x ∷ xs) (suc n) d below order first =
      let short : n < length xs = omega (arith, below) in
      both _ _ (before_trans sources (key x) (key (get_or xs n d)) k (at (λ later. is_lt (page_cmp sources (key x) (key later))) xs n d short order.0) first) (front-from xs n d short order.1 first)

  -- those from one on that comes behind it
  back-from : (xs : List A) (n : ℕ) (d : A) → n < length xs → IsInOrder key sources xs → T (is_lt (page_cmp sources k (key (get_or xs n d)))) → T (all_behind key sources k (drop n xs))
  back-from [] n d below order first = absurd (omega (arith, below))
  back-from (x ∷ xs) zero d below order first = both _ _ first (behind-all key sources k (key x) xs first order.0)
  back-from (x ∷ xs) (suc n) d below order first = back-from xs n d (omega (arith, below)) order.1 first

-- an item of a run, among all
module _ {A : Type 0} (rs : List (Run A)) (r i : ℕ) (run : Run A) (x : A) (within : r < length rs) (is_run : run ≡ get_or rs r run) (below : i < length run.items) (is_item : x ≡ get_or run.items i x) where
  run-below : i < length (get_or rs r run).items
  run-below = subst (λ (v : Run A). i < length v.items) is_run below

  pub among-below : place_in rs r i < length (in_runs rs)
  among-below = place-below rs r i run within run-below

  pub among-is : get_or (in_runs rs) (place_in rs r i) x ≡ x
  among-is = got rs r i run within x run-below ∙ sym (ap (λ (v : Run A). get_or v.items i x) is_run) ∙ sym is_item

  pub each-below : (d : Run A) → i < length (get_or rs r d).items
  each-below d = subst (λ (v : Run A). i < length v.items) (get_or_default rs r run d within) run-below

-- a run that is looked up twice
pub same-run : {A : Type 0} (rs : List (Run A)) (r : ℕ) (one two : Run A) → r < length rs → one ≡ get_or rs r one → two ≡ get_or rs r two → one ≡ two
same-run rs r one two within is_one is_two = is_one ∙ get_or_default rs r one two within ∙ sym is_two

-- the item at a spot has the key
pub spot-of : {A : Type 0} (key : A → Key) (rs : List (Run A)) (k : Key) (s : Spot) (run : Run A) (x : A) → s.run < length rs → run ≡ get_or rs s.run run → s.at < length run.items → x ≡ get_or run.items s.at x → key x ≡ k → IsSpotOf key rs k s
spot-of key rs k s run x within is_run below is_item same =
    let lt = each-below rs s.run s.at run x within is_run below is_item in
    let among = among-below rs s.run s.at run x within is_run below is_item in
    record {
      place = record { there = within; fits = λ d. let short = lt d in omega (arith, short) };
      there = lt;
      among = among;
      is_key = λ e. ap key (get_or_default (in_runs rs) (place_in rs s.run s.at) e x among ∙ among-is rs s.run s.at run x within is_run below is_item) ∙ same;
    }

-- the key comes between the item at a spot and the one before it
pub gap-for : {A : Type 0} (key : A → Key) (sources : List CompositeSource) (rs : List (Run A)) (k : Key) (s : Spot) (run : Run A) (x y : A) → IsInOrder key sources (in_runs rs)
    → s.run < length rs → run ≡ get_or rs s.run run → 0 < s.at → s.at < length run.items → x ≡ get_or run.items (s.at - 1) x → y ≡ get_or run.items s.at y
    → T (is_lt (page_cmp sources (key x) k)) → T (is_lt (page_cmp sources k (key y))) → IsGapFor key sources rs k s
gap-for key sources rs k s run x y order within is_run some below is_x is_y less more =
    let before : s.at - 1 < length run.items = omega (arith, below) in
    let xs = in_runs rs in
    let lt = each-below rs s.run s.at run y within is_run below is_y in
    let front = front-from key sources k xs (place_in rs s.run (s.at - 1)) x (among-below rs s.run (s.at - 1) run x within is_run before is_x) order
    (subst (λ z. T (is_lt (page_cmp sources (key z) k))) (sym (among-is rs s.run (s.at - 1) run x within is_run before is_x)) less) in
    let next : suc (place_in rs s.run (s.at - 1)) ≡ place_in rs s.run s.at = omega (arith, some) in
    let back = back-from key sources k xs (place_in rs s.run s.at) y (among-below rs s.run s.at run y within is_run below is_y) order
    (subst (λ z. T (is_lt (page_cmp sources k (key z)))) (sym (among-is rs s.run s.at run y within is_run below is_y)) more) in
    record {
      place = λ some. record { there = within; fits = λ d. let short = lt d in omega (arith, short) };
      before = true_is _ (subst (λ n. T (all_before key sources k (take n xs))) next front);
      behind = true_is _ back;
    }
