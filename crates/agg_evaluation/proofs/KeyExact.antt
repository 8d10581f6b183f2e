-- Keys that compare alike are equal.
use Rattle.std.specs.Prelude.{◌≡◌, refl, Bool, true, false, List, [], ◌∷◌}
use Rattle.std.specs.declared.cmp.Ordering.{Ordering}
use Rattle.std.specs.declared.cmp.Ordering.TheVariants.{Less, Equal, Greater}
use Rattle.std.specs.Ordering.{ordering_then, bool_cmp}
use Rattle.std.specs.FinMap.{nat_cmp-IsAntisymmetric, int_cmp-IsAntisymmetric, slice_cmp-IsAntisymmetric}
use Rattle.std.specs.Cmp.Lexicographic.{slice_cmp}
use Rattle.std.proofs.Common.{sym, ◌∙◌, ap}
use Rattle.list_laws.proofs.Orders.{less_not_equal, greater_not_equal}
use Rattle.agg_model.specs.declared.key.Key.{Key, out-Key, roll-Key, roll-out-Key, Row_of-Key, end_of-Key, more_of-Key, items-the_row-Key, items_shown-the_row-Key-0}
use Rattle.agg_model.specs.declared.key.Key.TheBlock.{shown-the_row-Key-0}
use Rattle.agg_model.specs.declared.key.Key.TheOpen.{Key-F}
use Rattle.agg_model.specs.declared.key.Key.TheVariants as key
use Rattle.agg_evaluation.specs.Folds.{fold_keys}
use Rattle.agg_evaluation.specs.KeyOrder.{key_cmp, key_cmp_at}
use Rattle.agg_evaluation.proofs.Computing.{computing}

exact_bool : (a b : Bool) → bool_cmp a b ≡ Equal → a ≡ b
exact_bool false false e = refl
exact_bool false true e = less_not_equal e
exact_bool true false e = greater_not_equal e
exact_bool true true e = refl

-- two comparisons in turn
both_equal : (o p : Ordering) → ordering_then o p ≡ Equal → (o ≡ Equal) × (p ≡ Equal)
both_equal Less p e = less_not_equal e
both_equal Equal p e = (refl, e)
both_equal Greater p e = greater_not_equal e

mutual
  unfolding computing

  pub exact_keys : (j k : Key) → key_cmp j k ≡ Equal → j ≡ k
  exact_keys key.Null key.Null e = refl
  exact_keys key.Null (key.Whole n) e = less_not_equal e
  exact_keys key.Null (key.Flag c) e = less_not_equal e
  exact_keys key.Null (key.Word w) e = less_not_equal e
  exact_keys key.Null (key.Fixed n) e = less_not_equal e
  exact_keys key.Null (key.Many' n ks) e = less_not_equal e
  exact_keys (key.Whole m) key.Null e = greater_not_equal e
  exact_keys (key.Whole m) (key.Whole n) e = ap key.Whole (int_cmp-IsAntisymmetric m n e)
  exact_keys (key.Whole m) (key.Flag c) e = less_not_equal e
  exact_keys (key.Whole m) (key.Word w) e = less_not_equal e
  exact_keys (key.Whole m) (key.Fixed n) e = less_not_equal e
  exact_keys (key.Whole m) (key.Many' n ks) e = less_not_equal e
  exact_keys (key.Flag b) key.Null e = greater_not_equal e
  exact_keys (key.Flag b) (key.Whole n) e = greater_not_equal e
  exact_keys (key.Flag b) (key.Flag c) e = ap key.Flag (exact_bool b c e)
  exact_keys (key.Flag b) (key.Word w) e = less_not_equal e
  exact_keys (key.Flag b) (key.Fixed n) e = less_not_equal e
  exact_keys (key.Flag b) (key.Many' n ks) e = less_not_equal e
  exact_keys (key.Word v) key.Null e = greater_not_equal e
  exact_keys (key.Word v) (key.Whole n) e = greater_not_equal e
  exact_keys (key.Word v) (key.Flag c) e = greater_not_equal e
  exact_keys (key.Word v) (key.Word w) e = ap key.Word (slice_cmp-IsAntisymmetric nat_cmp-IsAntisymmetric v w e)
  exact_keys (key.Word v) (key.Fixed n) e = less_not_equal e
  exact_keys (key.Word v) (key.Many' n ks) e = less_not_equal e
  exact_keys (key.Fixed m) key.Null e = greater_not_equal e
  exact_keys (key.Fixed m) (key.Whole n) e = greater_not_equal e
  exact_keys (key.Fixed m) (key.Flag c) e = greater_not_equal e
  exact_keys (key.Fixed m) (key.Word w) e = greater_not_equal e
  exact_keys (key.Fixed m) (key.Fixed n) e = ap key.Fixed (nat_cmp-IsAntisymmetric m n e)
  exact_keys (key.Fixed m) (key.Many' n ks) e = less_not_equal e
  exact_keys (key.Many' m js) key.Null e = greater_not_equal e
  exact_keys (key.Many' m js) (key.Whole n) e = greater_not_equal e
  exact_keys (key.Many' m js) (key.Flag c) e = greater_not_equal e
  exact_keys (key.Many' m js) (key.Word w) e = greater_not_equal e
  exact_keys (key.Many' m js) (key.Fixed n) e = greater_not_equal e
  exact_keys (key.Many' m js) (key.Many' n ks) e =
      sym (roll-out-Key (key.Many' m js)) ∙ ap (λ xs. roll-Key (Key-F.Many xs)) (items_shown-the_row-Key-0 m js ∙ exact_parts js (shown-the_row-Key-0 n ks) e) ∙ roll-out-Key (key.Many' n ks)

  exact_parts : {m : _} (js : Row_of-Key m) (ks : List Key) → slice_cmp (λ (h : Key → Ordering) (k : Key). h k) (fold_keys (λ j k. key_cmp_at j (out-Key k)) js) ks ≡ Equal → items-the_row-Key m js ≡ ks
  exact_parts end_of-Key [] e = refl
  exact_parts end_of-Key (k ∷ ks) e = less_not_equal e
  exact_parts (more_of-Key j js) [] e = greater_not_equal e
  exact_parts (more_of-Key j js) (k ∷ ks) e =
      let parts = both_equal _ _ e in
      λ i. exact_keys j k parts.0 i ∷ exact_parts js ks parts.1 i
