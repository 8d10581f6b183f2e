-- Composite keys, which have a part for each source ('Composite aggregation').
use Rattle.std.specs.Prelude.{Bool, List, [], ◌∷◌, Option, Some, None}
use Rattle.std.specs.declared.cmp.Ordering.{Ordering}
use Rattle.std.specs.declared.cmp.Ordering.TheVariants.{Less, Equal, Greater}
use Rattle.std.specs.Ordering.{ordering_then}
use Rattle.agg_model.specs.declared.aggregation.CompositeSource.{CompositeSource}
use Rattle.agg_model.specs.declared.key.Key.{Key, out-Key}
use Rattle.agg_evaluation.specs.CompositeKeys.{key_parts_at}
use Rattle.agg_evaluation.specs.KeyOrder.{key_cmp, directed}

abbrev pub key_parts : Key → List Key
key_parts k = key_parts_at (out-Key k)

abbrev pub first_of : List Key → Option Key
first_of [] = None
first_of (k ∷ ks) = Some k

abbrev pub rest_of : List Key → List Key
rest_of [] = []
rest_of (k ∷ ks) = ks

-- a part that is not there comes last
abbrev pub part_cmp : Bool → Option Key → Option Key → Ordering
part_cmp descending None None = Equal
part_cmp descending None (Some k) = Greater
part_cmp descending (Some j) None = Less
part_cmp descending (Some j) (Some k) = directed descending (key_cmp j k)

-- part by part, each by the direction of its source, of keys with any number of parts
abbrev pub any_parts_cmp : List CompositeSource → List Key → List Key → Ordering
any_parts_cmp [] js ks = Equal
any_parts_cmp (s ∷ ss) js ks = ordering_then (part_cmp s.descending (first_of js) (first_of ks)) (any_parts_cmp ss (rest_of js) (rest_of ks))
