-- How a value compares with one that a query asks for, by their kinds.
use Rattle.std.specs.Prelude.{◌≡◌, refl}
use Rattle.std.proofs.Common.{sym, ◌∙◌, ap}
use Rattle.std.specs.declared.cmp.Ordering.{Ordering}
use Rattle.std.specs.declared.cmp.Ordering.TheVariants.{Less, Greater}
use Rattle.std.specs.Ordering.{int_cmp, bool_cmp, nat_cmp}
use Rattle.std.specs.Cmp.Lexicographic.{slice_cmp}
use Rattle.agg_model.specs.declared.row.Scalar.{Scalar}
use Rattle.agg_model.specs.declared.query.Probe.{Probe}
use Rattle.agg_model.specs.declared.row.Scalar.TheVariants as scalar
use Rattle.agg_model.specs.declared.query.Probe.TheVariants as probe
use Rattle.agg_evaluation.specs.KeyOrder.{key_cmp}
use Rattle.agg_model.specs.ValueKeys.{scalar_key, probe_key}
use Rattle.agg_evaluation.proofs.Computing.{computing}
use Rattle.shard_columns.specs.Cell.{scalar_of}
use Rattle.shard_columns.specs.declared.shard.Cell.{Cell}

-- the order of a value and a probe
abbrev pub value_cmp : Scalar → Probe → Ordering
value_cmp (scalar.Whole m) (probe.Whole n) = int_cmp m n
value_cmp (scalar.Whole m) _ = Less
value_cmp (scalar.Flag a) (probe.Whole n) = Greater
value_cmp (scalar.Flag a) (probe.Flag b) = bool_cmp a b
value_cmp (scalar.Flag a) (probe.Word w) = Less
value_cmp (scalar.Word v) (probe.Word w) = slice_cmp nat_cmp v w
value_cmp (scalar.Word v) _ = Greater

pub value_cmp-is : (v : Scalar) (p : Probe) → value_cmp v p ≡ key_cmp (scalar_key v) (probe_key p)
unfolding computing
value_cmp-is (scalar.Whole m) (probe.Whole n) = refl
value_cmp-is (scalar.Whole m) (probe.Flag b) = refl
value_cmp-is (scalar.Whole m) (probe.Word w) = refl
value_cmp-is (scalar.Flag a) (probe.Whole n) = refl
value_cmp-is (scalar.Flag a) (probe.Flag b) = refl
value_cmp-is (scalar.Flag a) (probe.Word w) = refl
value_cmp-is (scalar.Word v) (probe.Whole n) = refl
value_cmp-is (scalar.Word v) (probe.Flag b) = refl
value_cmp-is (scalar.Word v) (probe.Word w) = refl

-- an answer for a cell and a probe of known kinds
pub compared : (c : Cell) (p : Probe) (v : Scalar) (q : Probe) (o : Ordering) → scalar_of c ≡ v → p ≡ q → o ≡ value_cmp v q → o ≡ key_cmp (scalar_key (scalar_of c)) (probe_key p)
compared c p v q o v_is q_is o_is = o_is ∙ (value_cmp-is v q ∙ (ap (λ (x : Scalar). key_cmp (scalar_key x) (probe_key q)) (sym v_is) ∙ ap (λ (x : Probe). key_cmp (scalar_key (scalar_of c)) (probe_key x)) (sym q_is)))
