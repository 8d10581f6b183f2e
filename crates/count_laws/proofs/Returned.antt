-- Under a composite a returned key stands in the page of each shard that has it: what a page left out came behind a whole page.
use Rattle.std.specs.Prelude.{◌≡◌, refl, ℕ, ◌||◌, Bool, true, false, cond, if◌then◌else◌, T, List, [], ◌∷◌, filter, take, length, Option}
use Rattle.std.specs.List.{list_all}
use Rattle.std.specs.declared.cmp.Ordering.{Ordering}
use Rattle.std.specs.Ordering.{is_le}
use Rattle.std.proofs.Common.{sym, ◌∙◌, ap, subst, ⊎_elim}
use Rattle.std.proofs.Math.Bool.{or-true}
use Rattle.std.proofs.lemmas.Bool.{cases_Bool}
use Rattle.agg_model.specs.declared.key.Key.{Key}
use Rattle.agg_model.specs.declared.aggregation.CompositeSource.{CompositeSource}
use Rattle.agg_evaluation.specs.CompositeKeys.{is_composite_of}
use Rattle.agg_evaluation.specs.KeyOrder.{has_key, key_cmp, key_eq}
use Rattle.agg_evaluation.specs.Orders.{composite_cmp}
use Rattle.agg_evaluation.specs.Shard.{page}
use Rattle.agg_evaluation.specs.Trees.{is_ascending}
use Rattle.agg_evaluation.proofs.KeyCompare.{key_cmp_total}
use Rattle.agg_evaluation.proofs.KeyExact.{exact_keys}
use Rattle.agg_evaluation.proofs.KeyLists.{key_eq-self, key_eq-exact, same_keys, ascending-insert_once, has_key-insert_once}
use Rattle.list_laws.specs.Sorting.{insert_once, insert_sorted, sorted}
use Rattle.list_laws.proofs.Booleans.{and_left, and_right, holds, true_is}
use Rattle.growth_laws.proofs.CompositeOrder.{beyond}
use Rattle.growth_laws.proofs.PageKeys.{AreKeys, found-has, insert-keys, page-fewer, page-insert, page-keys}
use Rattle.growth_laws.proofs.Ordered.{has-filter, has-take}

-- a key stands in a sorted list where it stands in the list
has-insert_sorted : (cmp : Key → Key → Ordering) (q k : Key) (ks : List Key) → has_key q (insert_sorted cmp k ks) ≡ (key_eq q k || has_key q ks)
has-insert_sorted cmp q k [] = refl
has-insert_sorted cmp q k (j ∷ ks) =
    elim (is_le (cmp k j)) as (λ b. has_key q (if b then k ∷ j ∷ ks else (j ∷ insert_sorted cmp k ks)) ≡ (key_eq q k || (key_eq q j || has_key q ks))) [
      | true ↦ refl
      | false ↦ ap (λ b. key_eq q j || b) (has-insert_sorted cmp q k ks) ∙ swapped (key_eq q j) (key_eq q k) (has_key q ks)
    ]
  where
    swapped : (a b c : Bool) → (a || (b || c)) ≡ (b || (a || c))
    swapped true true c = refl
    swapped true false c = refl
    swapped false true c = refl
    swapped false false c = refl

pub has-sorted : (cmp : Key → Key → Ordering) (q : Key) (ks : List Key) → has_key q (sorted cmp ks) ≡ has_key q ks
has-sorted cmp q [] = refl
has-sorted cmp q (k ∷ ks) = has-insert_sorted cmp q k (sorted cmp ks) ∙ ap (λ b. key_eq q k || b) (has-sorted cmp q ks)

-- a test that holds of each key that stands in a list
pub all-pass : (p : Key → Bool) (ks : List Key) → ((q : Key) → has_key q ks ≡ true → p q ≡ true) → filter p ks ≡ ks
all-pass p [] h = refl
all-pass p (k ∷ ks) h =
    ap (λ c. cond c (k ∷ filter p ks) (filter p ks)) (h k (ap (λ b. b || has_key k ks) (key_eq-self k)))
    ∙ ap (λ js. k ∷ js) (all-pass p ks (λ q e. h q (ap (λ b. key_eq q k || b) e ∙ or-true (key_eq q k))))

module _ (sources : List CompositeSource) (size : ℕ) (after : Option Key) where
  -- each key of a page comes after `after`
  pub page-beyond : (q : Key) (ks : List Key) → has_key q (page sources size after ks) ≡ true → beyond sources after q ≡ true
  page-beyond q ks e =
      let first = take size (filter (beyond sources after) (sorted (composite_cmp sources) ks)) in
      let there = found-has key_cmp key_cmp_total exact_keys q first (sym (has-sorted key_cmp q first) ∙ e) in
      (has-filter key_cmp key_cmp_total exact_keys (beyond sources after) q (sorted (composite_cmp sources) ks)
      (has-take key_cmp key_cmp_total exact_keys size q (filter (beyond sources after) (sorted (composite_cmp sources) ks)) there)).1

  -- keys that all come after `after` have one page whether it is given or not
  pub page-open : (ks : List Key) → ((q : Key) → has_key q ks ≡ true → beyond sources after q ≡ true) → page sources size after ks ≡ sorted key_cmp (take size (sorted (composite_cmp sources) ks))
  page-open ks h = ap (λ js. sorted key_cmp (take size js)) (all-pass (beyond sources after) (sorted (composite_cmp sources) ks) (λ q e. h q (sym (has-sorted (composite_cmp sources) q ks) ∙ e)))

  -- a key that is among others changes nothing
  inserted-again : (q : Key) (ks : List Key) → T (is_ascending ks) → has_key q ks ≡ true → insert_once key_cmp q ks ≡ ks
  inserted-again q ks up e =
      same_keys _ _ (ascending-insert_once q ks up) up (λ j. has_key-insert_once j q ks ∙ elim (key_eq j q) as (λ b. key_eq j q ≡ b → (b || has_key j ks) ≡ has_key j ks) [
        | true ↦ λ f. sym (ap (λ i. has_key i ks) (key_eq-exact j q (holds _ f)) ∙ e)
        | false ↦ λ f. refl
      ] refl)

  -- Of the keys of several shards the pages are taken, and of these the first again: a key among these stands in the page of each
  -- shard that has it.
  pub returned-in_page : (q : Key) (ks union : List Key) → AreKeys sources size after ks → AreKeys sources size after union
      → ((j : Key) → has_key j (page sources size after ks) ≡ true → has_key j union ≡ true) → ((j : Key) → has_key j union ≡ true → beyond sources after j ≡ true)
      → has_key q union ≡ true → has_key q (take size (sorted (composite_cmp sources) union)) ≡ true → has_key q ks ≡ true → has_key q (page sources size after ks) ≡ true
  returned-in_page q ks union are_ks are_union sub all_beyond in_union returned there =
      let paged = page sources size after ks in
      let composite : T (is_composite_of (length sources) q) = holds _ (one_of q union are_union.composite in_union) in
      let more = insert_once key_cmp q paged in
      let first : has_key q (page sources size after union) ≡ true = ap (has_key q) (page-open union all_beyond) ∙ has-sorted key_cmp q (take size (sorted (composite_cmp sources) union)) ∙ returned in
      let inside : has_key q (page sources size after more) ≡ true =
      page-fewer sources size after more union (insert-keys sources size after q paged (page-keys sources size after ks are_ks) composite) are_union
      (λ j e. ⊎_elim (λ (f : key_eq j q ≡ true). ap (λ i. has_key i union) (key_eq-exact j q (holds _ f)) ∙ in_union)
      (λ (f : key_eq j q ≡ false). sub j (sym (ap (λ b. b || has_key j paged) f) ∙ sym (has_key-insert_once j q paged) ∙ e)) (cases_Bool (key_eq j q)))
      q (has_key-insert_once q q paged ∙ ap (λ b. b || has_key q paged) (key_eq-self q)) first in
      sym (ap (has_key q) (page-insert sources size after q ks are_ks composite ∙ ap (page sources size after) (inserted-again q ks are_ks.up there))) ∙ inside
    where
      one_of : (q : Key) (js : List Key) → T (list_all (is_composite_of (length sources)) js) → has_key q js ≡ true → is_composite_of (length sources) q ≡ true
      one_of q [] h e = absurd (subst T (sym e) tt)
      one_of q (j ∷ js) h e =
          ⊎_elim (λ (f : key_eq q j ≡ true). ap (is_composite_of (length sources)) (key_eq-exact q j (holds _ f)) ∙ true_is _ (and_left _ _ h))
          (λ (f : key_eq q j ≡ false). one_of q js (and_right _ _ h) (sym (ap (λ b. b || has_key q js) f) ∙ e)) (cases_Bool (key_eq q j))
