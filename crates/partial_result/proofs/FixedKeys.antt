-- The keys of buckets that exist from the start ascend.
use Rattle.std.specs.Prelude.{◌≡◌, refl, ℕ, zero, suc, ◌+◌, ◌<◌, true, ◌&&◌, List, [], ◌∷◌, map, length}
use Rattle.std.specs.List.{list_all, range_with_len}
use Rattle.std.specs.Option.{option_map_or}
use Rattle.std.specs.declared.cmp.Ordering.TheVariants.{Less, Equal}
use Rattle.std.specs.Ordering.{is_lt, ordering_then}
use Rattle.std.specs.Cmp.{nat_cmp_is, tied_itself}
use Rattle.std.specs.Cmp.Lexicographic.{slice_cmp}
use Rattle.std.proofs.Common.{sym, ◌∙◌, ap, arith}
use Rattle.agg_model.specs.declared.key.Key.{Key}
use Rattle.agg_model.specs.declared.key.Key.TheVariants as key
use Rattle.agg_model.specs.declared.aggregation.Kind.{Kind}
use Rattle.agg_model.specs.declared.aggregation.Kind.TheVariants as kind
use Rattle.agg_evaluation.specs.KeyOrder.{key_cmp}
use Rattle.agg_evaluation.specs.Shard.{fixed_keys}
use Rattle.agg_evaluation.specs.Trees.{is_ascending}
use Rattle.agg_evaluation.proofs.KeyCompare.{key_cmp_total}
use Rattle.agg_evaluation.proofs.Computing.{computing}
use Rattle.list_laws.proofs.Booleans.{and_both}

fixed_cmp : (m n : ℕ) → m < n → key_cmp (key.Fixed m) (key.Fixed n) ≡ Less
unfolding computing
fixed_cmp m n less = sym (nat_cmp_is m n Less less)

all_later : (m a n : ℕ) → m < a → list_all (λ later. is_lt (key_cmp (key.Fixed m) later)) (map key.Fixed (range_with_len a n)) ≡ true
all_later m a zero less = refl
all_later m a (suc n) less = and_both _ _ (ap is_lt (fixed_cmp m a less)) (all_later m (a + 1) n (omega arith))

ascending-range : (a n : ℕ) → is_ascending (map key.Fixed (range_with_len a n)) ≡ true
ascending-range a zero = refl
ascending-range a (suc n) = and_both _ _ (all_later a (a + 1) n (omega arith)) (ascending-range (a + 1) n)

pub ascending-fixed : (k : Kind) → is_ascending (fixed_keys k) ≡ true
ascending-fixed (kind.Filters names filters other) = ascending-range 0 (option_map_or (λ name. length filters + 1) other (length filters))
ascending-fixed _ = refl

pub slice_cmp-itself : (ks : List Key) → slice_cmp key_cmp ks ks ≡ Equal
slice_cmp-itself [] = refl
slice_cmp-itself (k ∷ ks) = ap (λ r. ordering_then r (slice_cmp key_cmp ks ks)) (tied_itself key_cmp_total k) ∙ slice_cmp-itself ks
