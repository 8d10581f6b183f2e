-- Keys put into an ascending list, one after another, and the rows of a key that no row has.
use Rattle.std.specs.Prelude.{◌≡◌, refl, Bool, true, false, cond, ◌||◌, T, List, [], ◌∷◌, flat_map}
use Rattle.std.proofs.Common.{sym, ◌∙◌, ap}
use Rattle.std.proofs.lemmas.Bool.{or_parts}
use Rattle.agg_model.specs.declared.aggregation.Kind.{Kind}
use Rattle.agg_model.specs.declared.key.Key.{Key}
use Rattle.agg_evaluation.specs.Groups.{group}
use Rattle.agg_evaluation.specs.KeyOrder.{has_key, key_cmp, key_eq}
use Rattle.agg_evaluation.specs.Keys.{keys}
use Rattle.agg_evaluation.specs.Rows.{PlacedRow}
use Rattle.agg_evaluation.specs.Trees.{is_ascending}
use Rattle.agg_evaluation.proofs.KeyLists.{ascending-insert_once, has_key-insert_once}
use Rattle.agg_evaluation.proofs.UnionLaws.{has_key-append}
use Rattle.list_laws.specs.Sorting.{insert_once}

-- the keys of the list put in, one after another
abbrev pub insert_all : List Key → List Key → List Key
insert_all [] ks = ks
insert_all (j ∷ js) ks = insert_all js (insert_once key_cmp j ks)

-- they ascend
pub ascending-insert_all : (js ks : List Key) → T (is_ascending ks) → T (is_ascending (insert_all js ks))
ascending-insert_all [] ks up = up
ascending-insert_all (j ∷ js) ks up = ascending-insert_all js _ (ascending-insert_once j ks up)

-- a key stands there if it was put in or stood there
pub has_key-insert_all : (q : Key) (js ks : List Key) → has_key q (insert_all js ks) ≡ (has_key q js || has_key q ks)
has_key-insert_all q [] ks = refl
has_key-insert_all q (j ∷ js) ks =
    has_key-insert_all q js (insert_once key_cmp j ks) ∙ ap (λ b. has_key q js || b) (has_key-insert_once q j ks)
    ∙ swapped (has_key q js) (key_eq q j) (has_key q ks)
  where
    swapped : (a b c : Bool) → (a || (b || c)) ≡ ((b || a) || c)
    swapped true true c = refl
    swapped true false c = refl
    swapped false true c = refl
    swapped false false c = refl

-- where no row has a key, its group is empty
pub no_group : (all : List PlacedRow) (k : Kind) (q : Key) (rows : List PlacedRow) → has_key q (flat_map (keys all k) rows) ≡ false → group all k rows q ≡ []
no_group all k q [] e = refl
no_group all k q (r ∷ rows) e =
    let parts = or_parts _ _ (sym (has_key-append q (keys all k r) (flat_map (keys all k) rows)) ∙ e) in
    ap (λ b. cond b (r ∷ group all k rows q) (group all k rows q)) parts.0 ∙ no_group all k q rows parts.1
