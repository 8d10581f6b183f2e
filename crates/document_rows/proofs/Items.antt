-- Lists by place in a map take one more item.
use Rattle.std.specs.Prelude.{◌≡◌, refl, ℕ, List, [], ◌∷◌, ◌++◌, Some, unwrap_or, cond}
use Rattle.std.specs.declared.cmp.Ordering.TheVariants.{Less, Equal, Greater}
use Rattle.std.specs.Ordering.{nat_cmp, is_eq, match_ordering}
use Rattle.std.specs.List.Sorted.{IsStrictlySortedBy}
use Rattle.std.specs.Map.{lookup, keys_of}
use Rattle.std.specs.BTreeMap.{is_at, insert_entry}
use Rattle.std.proofs.Common.{sym, ap}
use Rattle.std.proofs.lemmas.Cmp.{nat_cmp_total, ranked}
use Rattle.std.proofs.lemmas.Map.{lookup-none}
use Rattle.std.proofs.lemmas.Map.Entries.{none_below_head}
use Rattle.std.proofs.lemmas.Map.Keys.{sorted_tail}
use Rattle.document_rows.specs.Drafts.{with_item}

module _ {A : Type 0} (place : ℕ) (x : A) where
  -- an entry for the place, whose list is that of before, if any, with one more item
  pub item_put : (es : List (ℕ × List A)) → IsStrictlySortedBy nat_cmp (keys_of es)
      → insert_entry nat_cmp es place (unwrap_or (lookup (is_at (nat_cmp place)) es) [] ++ x ∷ []) ≡ with_item place x es
  item_put [] up = refl
  item_put (e ∷ es) up =
      elim (nat_cmp place e.0) as (λ o. nat_cmp place e.0 ≡ o
      → let vs = unwrap_or (cond (is_eq o) (Some e.1) (lookup (is_at (nat_cmp place)) es)) [] ++ x ∷ [] in
      match_ordering o ((place, vs) ∷ e ∷ es) ((e.0, vs) ∷ es) (e ∷ insert_entry nat_cmp es place vs)
      ≡ match_ordering o ((place, x ∷ []) ∷ e ∷ es) ((place, e.1 ++ x ∷ []) ∷ es) (e ∷ with_item place x es)) [
        | Less ↦ λ h. ap (λ found. (place, unwrap_or found [] ++ x ∷ []) ∷ e ∷ es) (lookup-none (is_at (nat_cmp place)) es (none_below_head nat_cmp_total place e es up h).1)
        | Equal ↦ λ h. let here : place ≡ e.0 = ranked place e.0 Equal (sym h) in λ i. (sym here i, e.1 ++ x ∷ []) ∷ es
        | Greater ↦ λ h. ap (λ rest. e ∷ rest) (item_put es (sorted_tail nat_cmp e.0 (keys_of es) up))
      ] refl
