-- The order of composite keys, made total, agrees with the definition on keys that have a part for each source.
use Rattle.std.specs.Prelude.{◌≡◌, refl, Bool, true, List, [], ◌∷◌, length, Option, Some, None}
use Rattle.std.specs.declared.cmp.Ordering.TheVariants.{Equal}
use Rattle.std.specs.Ordering.{ordering_then}
use Rattle.std.specs.Cmp.{IsTotalOrder}
use Rattle.std.proofs.Common.{ap, subst, arith}
use Rattle.std.proofs.lemmas.Bool.{false≢true, eqb-true}
use Rattle.std.proofs.lemmas.Cmp.{on_total, then_total}
use Rattle.agg_model.specs.declared.aggregation.CompositeSource.{CompositeSource}
use Rattle.agg_model.specs.declared.key.Key.{Key, out-Key}
use Rattle.agg_model.specs.declared.key.Key.TheOpen.{Key-F}
use Rattle.agg_evaluation.specs.KeyOrder.{key_cmp, directed}
use Rattle.agg_evaluation.specs.Orders.{parts_cmp, composite_cmp, composite_cmp_at}
use Rattle.agg_evaluation.proofs.KeyCompare.{key_cmp_total}
use Rattle.bucket_order.specs.Composites.{key_parts, first_of, rest_of, part_cmp, any_parts_cmp}
use Rattle.agg_evaluation.specs.CompositeKeys.{has_parts, is_composite_of, key_parts_at}
use Rattle.bucket_order.proofs.TotalLaws.{null_last, null_last_total, directed_total}

part_is : (d : Bool) (x y : Option Key) → null_last (λ j k. directed d (key_cmp j k)) (directed_total key_cmp key_cmp_total d) x y ≡ part_cmp d x y
part_is d None None = refl
part_is d None (Some k) = refl
part_is d (Some j) None = refl
part_is d (Some j) (Some k) = refl

part_total : (d : Bool) → IsTotalOrder (part_cmp d)
part_total d = subst IsTotalOrder (λ i x y. part_is d x y i) (null_last_total (λ j k. directed d (key_cmp j k)) (directed_total key_cmp key_cmp_total d))

equal_total : {K : Type 0} → IsTotalOrder (λ (x y : K). Equal)
equal_total = record { antisymm = λ x y. refl; trans = λ x y z e f. e; congr = λ x y z e. refl }

pub any_parts_total : (sources : List CompositeSource) → IsTotalOrder (any_parts_cmp sources)
any_parts_total [] = equal_total
any_parts_total (s ∷ ss) = then_total (on_total first_of (part_total s.descending)) (on_total rest_of (any_parts_total ss))

same_parts : (sources : List CompositeSource) (js ks : List Key) → length js ≡ length sources → length ks ≡ length sources → any_parts_cmp sources js ks ≡ parts_cmp sources js ks
same_parts [] js ks e f = refl
same_parts (s ∷ ss) [] ks e f = absurd (omega arith)
same_parts (s ∷ ss) (j ∷ js) [] e f = absurd (omega arith)
same_parts (s ∷ ss) (j ∷ js) (k ∷ ks) e f = ap (ordering_then (directed s.descending (key_cmp j k))) (same_parts ss js ks (omega arith) (omega arith))

same_at : (sources : List CompositeSource) (j k : Key-F Key) → has_parts (length sources) j ≡ true → has_parts (length sources) k ≡ true → any_parts_cmp sources (key_parts_at j) (key_parts_at k) ≡ composite_cmp_at sources j k
same_at sources Key-F.Null k e f = absurd (false≢true e)
same_at sources (Key-F.Whole n) k e f = absurd (false≢true e)
same_at sources (Key-F.Flag b) k e f = absurd (false≢true e)
same_at sources (Key-F.Word w) k e f = absurd (false≢true e)
same_at sources (Key-F.Fixed n) k e f = absurd (false≢true e)
same_at sources (Key-F.Many js) Key-F.Null e f = absurd (false≢true f)
same_at sources (Key-F.Many js) (Key-F.Whole n) e f = absurd (false≢true f)
same_at sources (Key-F.Many js) (Key-F.Flag b) e f = absurd (false≢true f)
same_at sources (Key-F.Many js) (Key-F.Word w) e f = absurd (false≢true f)
same_at sources (Key-F.Many js) (Key-F.Fixed n) e f = absurd (false≢true f)
same_at sources (Key-F.Many js) (Key-F.Many ks) e f = same_parts sources js ks (eqb-true _ _ e) (eqb-true _ _ f)

pub same_composites : (sources : List CompositeSource) (j k : Key) → is_composite_of (length sources) j ≡ true → is_composite_of (length sources) k ≡ true
    → any_parts_cmp sources (key_parts j) (key_parts k) ≡ composite_cmp sources j k
same_composites sources j k e f = same_at sources (out-Key j) (out-Key k) e f
