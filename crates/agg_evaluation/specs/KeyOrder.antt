-- The order of bucket keys, which is that of a field's values too
-- (Elasticsearch Reference 8, 'Terms aggregation', order by `_key`; 'Composite aggregation', null first).
use Rattle.std.specs.Prelude.{Bool, if◌then◌else◌, List}
use Rattle.std.specs.declared.cmp.Ordering.{Ordering}
use Rattle.std.specs.declared.cmp.Ordering.TheVariants.{Less, Equal, Greater}
use Rattle.std.specs.Ordering.{nat_cmp, int_cmp, bool_cmp, ordering_reverse, is_eq}
use Rattle.std.specs.Cmp.Lexicographic.{slice_cmp}
use Rattle.std.specs.List.{list_any}
use Rattle.agg_model.specs.declared.key.Key.{Key, out-Key}
use Rattle.agg_model.specs.declared.key.Key.TheOpen.{Key-F}
use Rattle.agg_evaluation.specs.Folds.{fold_key}

-- Null, whole numbers by value, false, true, words by their bytes, fixed keys by number, many keys part by part
abbrev pub key_cmp_at : Key-F (Key → Ordering) → Key-F Key → Ordering
key_cmp_at Key-F.Null k = elim k [ Key-F.Null ↦ Equal | Key-F.Whole n ↦ Less | Key-F.Flag b ↦ Less | Key-F.Word w ↦ Less | Key-F.Fixed n ↦ Less | Key-F.Many ks ↦ Less ]
key_cmp_at (Key-F.Whole m) k = elim k [ Key-F.Null ↦ Greater | Key-F.Whole n ↦ int_cmp m n | Key-F.Flag b ↦ Less | Key-F.Word w ↦ Less | Key-F.Fixed n ↦ Less | Key-F.Many ks ↦ Less ]
key_cmp_at (Key-F.Flag a) k = elim k [ Key-F.Null ↦ Greater | Key-F.Whole n ↦ Greater | Key-F.Flag b ↦ bool_cmp a b | Key-F.Word w ↦ Less | Key-F.Fixed n ↦ Less | Key-F.Many ks ↦ Less ]
key_cmp_at (Key-F.Word v) k = elim k [ Key-F.Null ↦ Greater | Key-F.Whole n ↦ Greater | Key-F.Flag b ↦ Greater | Key-F.Word w ↦ slice_cmp nat_cmp v w | Key-F.Fixed n ↦ Less | Key-F.Many ks ↦ Less ]
key_cmp_at (Key-F.Fixed m) k = elim k [ Key-F.Null ↦ Greater | Key-F.Whole n ↦ Greater | Key-F.Flag b ↦ Greater | Key-F.Word w ↦ Greater | Key-F.Fixed n ↦ nat_cmp m n | Key-F.Many ks ↦ Less ]
key_cmp_at (Key-F.Many js) k = elim k [ Key-F.Null ↦ Greater | Key-F.Whole n ↦ Greater | Key-F.Flag b ↦ Greater | Key-F.Word w ↦ Greater | Key-F.Fixed n ↦ Greater | Key-F.Many ks ↦ slice_cmp (λ j k. j k) js ks ]

abbrev pub key_cmp : Key → Key → Ordering
key_cmp = fold_key (λ j k. key_cmp_at j (out-Key k))

abbrev pub key_eq : Key → Key → Bool
key_eq j k = is_eq (key_cmp j k)

-- whether the key stands in the list
abbrev pub has_key : Key → List Key → Bool
has_key k = list_any (key_eq k)

-- the comparison's outcome, turned round where the order is descending
abbrev pub directed : Bool → Ordering → Ordering
directed descending o = if descending then ordering_reverse o else o
