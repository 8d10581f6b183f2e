-- Whether a value is the one that a request names, by their kinds.
use Rattle.std.specs.Prelude.{◌≡◌, refl, Bool, false}
use Rattle.std.proofs.Common.{sym, ◌∙◌}
use Rattle.std.specs.Ordering.{int_cmp, bool_cmp, nat_cmp, is_eq}
use Rattle.std.specs.Cmp.Lexicographic.{slice_cmp}
use Rattle.agg_model.specs.declared.row.Scalar.{Scalar}
use Rattle.agg_model.specs.declared.query.Probe.{Probe}
use Rattle.agg_model.specs.declared.row.Scalar.TheVariants as scalar
use Rattle.agg_model.specs.declared.query.Probe.TheVariants as probe
use Rattle.agg_model.specs.ValueKeys.{scalar_key, probe_key}
use Rattle.agg_evaluation.specs.KeyOrder.{key_eq}
use Rattle.agg_evaluation.proofs.Computing.{computing}
use Rattle.shard_columns.specs.Cell.{scalar_of}
use Rattle.shard_columns.specs.declared.shard.Cell.{Cell}

abbrev pub is_same : Scalar → Probe → Bool
is_same (scalar.Whole m) (probe.Whole n) = is_eq (int_cmp m n)
is_same (scalar.Flag a) (probe.Flag b) = is_eq (bool_cmp a b)
is_same (scalar.Word v) (probe.Word w) = is_eq (slice_cmp nat_cmp v w)
is_same _ _ = false

is_same-keys : (v : Scalar) (p : Probe) → is_same v p ≡ key_eq (scalar_key v) (probe_key p)
unfolding computing
is_same-keys (scalar.Whole m) (probe.Whole n) = refl
is_same-keys (scalar.Whole m) (probe.Flag b) = refl
is_same-keys (scalar.Whole m) (probe.Word w) = refl
is_same-keys (scalar.Flag a) (probe.Whole n) = refl
is_same-keys (scalar.Flag a) (probe.Flag b) = refl
is_same-keys (scalar.Flag a) (probe.Word w) = refl
is_same-keys (scalar.Word v) (probe.Whole n) = refl
is_same-keys (scalar.Word v) (probe.Flag b) = refl
is_same-keys (scalar.Word v) (probe.Word w) = refl

-- an answer for a cell and a probe of known kinds
pub answered : (c : Cell) (p : Probe) (v : Scalar) (q : Probe) (r : Bool) → scalar_of c ≡ v → p ≡ q → r ≡ is_same v q → r ≡ key_eq (scalar_key (scalar_of c)) (probe_key p)
answered c p v q r v_is q_is r_is = r_is ∙ (is_same-keys v q ∙ (λ i. key_eq (scalar_key (sym v_is i)) (probe_key (sym q_is i))))
