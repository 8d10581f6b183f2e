-- The derived order of keys is the stated one, so the stated one is total.
use Rattle.std.specs.Prelude.{◌≡◌, refl, List, [], ◌∷◌}
use Rattle.std.specs.declared.cmp.Ordering.{Ordering}
use Rattle.std.specs.Ordering.{ordering_then}
use Rattle.std.specs.Cmp.Lexicographic.{slice_cmp}
use Rattle.std.specs.Cmp.{IsTotalOrder}
use Rattle.std.proofs.Common.{◌∙◌, ap, subst}
use Rattle.agg_model.specs.declared.key.Key.{Key, out-Key, Row_of-Key, end_of-Key, more_of-Key, items-the_row-Key, items_shown-the_row-Key-0}
use Rattle.agg_model.specs.declared.key.Key.TheBlock.{shown-the_row-Key-0}
use Rattle.agg_model.specs.declared.key.Key.TheVariants as key
use Rattle.agg_model.specs.contracts.key.KeyOrd.TheImpl.{ghosts}
use Rattle.agg_model.specs.contracts.key.KeyOrd.TheImpl.Laws as laws
use Rattle.agg_evaluation.specs.Folds.{fold_keys}
use Rattle.agg_evaluation.specs.KeyOrder.{key_cmp, key_cmp_at}
use Rattle.agg_evaluation.proofs.Computing.{computing}

abbrev pub derived : Key → Key → Ordering
derived = (ghosts).cmp

mutual
  unfolding computing

  one_level : (j k : Key) → laws.unfolded j k ≡ key_cmp j k
  one_level key.Null key.Null = refl
  one_level key.Null (key.Whole n) = refl
  one_level key.Null (key.Flag c) = refl
  one_level key.Null (key.Word w) = refl
  one_level key.Null (key.Fixed n) = refl
  one_level key.Null (key.Many' n ks) = refl
  one_level (key.Whole m) key.Null = refl
  one_level (key.Whole m) (key.Whole n) = refl
  one_level (key.Whole m) (key.Flag c) = refl
  one_level (key.Whole m) (key.Word w) = refl
  one_level (key.Whole m) (key.Fixed n) = refl
  one_level (key.Whole m) (key.Many' n ks) = refl
  one_level (key.Flag b) key.Null = refl
  one_level (key.Flag b) (key.Whole n) = refl
  one_level (key.Flag b) (key.Flag c) = refl
  one_level (key.Flag b) (key.Word w) = refl
  one_level (key.Flag b) (key.Fixed n) = refl
  one_level (key.Flag b) (key.Many' n ks) = refl
  one_level (key.Word v) key.Null = refl
  one_level (key.Word v) (key.Whole n) = refl
  one_level (key.Word v) (key.Flag c) = refl
  one_level (key.Word v) (key.Word w) = refl
  one_level (key.Word v) (key.Fixed n) = refl
  one_level (key.Word v) (key.Many' n ks) = refl
  one_level (key.Fixed m) key.Null = refl
  one_level (key.Fixed m) (key.Whole n) = refl
  one_level (key.Fixed m) (key.Flag c) = refl
  one_level (key.Fixed m) (key.Word w) = refl
  one_level (key.Fixed m) (key.Fixed n) = refl
  one_level (key.Fixed m) (key.Many' n ks) = refl
  one_level (key.Many' m js) key.Null = refl
  one_level (key.Many' m js) (key.Whole n) = refl
  one_level (key.Many' m js) (key.Flag c) = refl
  one_level (key.Many' m js) (key.Word w) = refl
  one_level (key.Many' m js) (key.Fixed n) = refl
  one_level (key.Many' m js) (key.Many' n ks) =
      ap (λ xs. slice_cmp derived xs (shown-the_row-Key-0 n ks)) (items_shown-the_row-Key-0 m js) ∙ parts_are js (shown-the_row-Key-0 n ks)

  parts_are : {m : _} (js : Row_of-Key m) (ks : List Key) → slice_cmp derived (items-the_row-Key m js) ks ≡ slice_cmp (λ (h : Key → Ordering) (k : Key). h k) (fold_keys (λ j k. key_cmp_at j (out-Key k)) js) ks
  parts_are end_of-Key [] = refl
  parts_are end_of-Key (k ∷ ks) = refl
  parts_are (more_of-Key j js) [] = refl
  parts_are (more_of-Key j js) (k ∷ ks) = λ i. ordering_then ((laws.is j k ∙ one_level j k) i) (parts_are js ks i)

pub derived_is : (j k : Key) → derived j k ≡ key_cmp j k
derived_is j k = laws.is j k ∙ one_level j k

pub key_cmp_total : IsTotalOrder key_cmp
key_cmp_total = subst IsTotalOrder (λ i j k. derived_is j k i) laws.total-law
