-- The derived tests of values and of keys say that what passes is one and the same.
use Rattle.std.specs.Prelude.{◌≡◌, refl, Bool, true, List, [], ◌∷◌}
use Rattle.std.specs.Cmp.{first_so, second_so}
use Rattle.std.specs.Cmp.Lexicographic.{pointwise}
use Rattle.std.proofs.Common.{◌∙◌, sym, ap}
use Rattle.agg_model.specs.contracts.key.KeyPartialEq.TheImpl as key_eq
use Rattle.agg_model.specs.contracts.key.KeyPartialEq.TheImpl.Laws as key_laws
use Rattle.agg_model.specs.contracts.query.ProbePartialEq.TheImpl as probe_eq
use Rattle.agg_model.specs.contracts.row.ScalarPartialEq.TheImpl as scalar_eq
use Rattle.agg_model.specs.declared.key.Key.{Key, Row_of-Key, end_of-Key, more_of-Key, items-the_row-Key, items_shown-the_row-Key-0, roll-Key, roll-out-Key}
use Rattle.agg_model.specs.declared.key.Key.TheBlock.{shown-the_row-Key-0}
use Rattle.agg_model.specs.declared.key.Key.TheOpen.{Key-F}
use Rattle.agg_model.specs.declared.key.Key.TheVariants as key
use Rattle.agg_model.specs.declared.query.Probe.TheVariants as probe
use Rattle.agg_model.specs.declared.row.Scalar.TheVariants as scalar
use Rattle.agg_evaluation.proofs.Computing.{computing}
use Rattle.search_equality.proofs.EqualParts.{AreOne, apart, flag-one, number-one, text-one, whole-one}

pub probe-one : AreOne (probe_eq.ghosts).eq
probe-one (probe.Whole m) (probe.Whole n) e = ap probe.Whole (whole-one m n e)
probe-one (probe.Word v) (probe.Word w) e = ap probe.Word (text-one v w e)
probe-one (probe.Flag b) (probe.Flag c) e = ap probe.Flag (flag-one b c e)
probe-one a b e = apart e

pub scalar-one : AreOne (scalar_eq.ghosts).eq
scalar-one (scalar.Whole m) (scalar.Whole n) e = ap scalar.Whole (whole-one m n e)
scalar-one (scalar.Word v) (scalar.Word w) e = ap scalar.Word (text-one v w e)
scalar-one (scalar.Flag b) (scalar.Flag c) e = ap scalar.Flag (flag-one b c e)
scalar-one a b e = apart e

abbrev pub equal_keys : Key → Key → Bool
equal_keys = (key_eq.ghosts).eq

mutual
  unfolding computing

  -- one level of the test, and below it the test of the parts
  level-one : (j k : Key) → key_laws.unfolded j k ≡ true → j ≡ k
  level-one key.Null key.Null e = refl
  level-one (key.Whole m) (key.Whole n) e = ap key.Whole (whole-one m n e)
  level-one (key.Flag b) (key.Flag c) e = ap key.Flag (flag-one b c e)
  level-one (key.Word v) (key.Word w) e = ap key.Word (text-one v w e)
  level-one (key.Fixed m) (key.Fixed n) e = ap key.Fixed (number-one m n e)
  level-one (key.Many' m js) (key.Many' n ks) e =
      let shown = ap (λ xs. pointwise equal_keys xs (shown-the_row-Key-0 n ks)) (items_shown-the_row-Key-0 m js) in
      let parts = items_shown-the_row-Key-0 m js ∙ parts-one js (shown-the_row-Key-0 n ks) (sym shown ∙ e) in
      sym (roll-out-Key (key.Many' m js)) ∙ ap (λ xs. roll-Key (Key-F.Many xs)) parts ∙ roll-out-Key (key.Many' n ks)
  level-one j k e = apart e

  parts-one : {m : _} (js : Row_of-Key m) (ks : List Key) → pointwise equal_keys (items-the_row-Key m js) ks ≡ true → items-the_row-Key m js ≡ ks
  parts-one end_of-Key [] e = refl
  parts-one end_of-Key (k ∷ ks) e = apart e
  parts-one (more_of-Key j js) [] e = apart e
  parts-one (more_of-Key j js) (k ∷ ks) e =
      let first = level-one j k (sym (key_laws.is j k) ∙ first_so _ _ e) in
      let rest = parts-one js ks (second_so _ _ e) in
      λ i. first i ∷ rest i

pub key-one : AreOne equal_keys
key-one j k e = level-one j k (sym (key_laws.is j k) ∙ e)
