-- Buckets whose rows are counted alone are chosen by their counters.
use Rattle.std.specs.Prelude.{◌≡◌, refl, ℕ, zero, suc, ℤ, pos, ◌<◌, ◌||◌, true, false, cond, nat_le, List, [], ◌∷◌, filter, length, map, sum_by}
use Rattle.std.proofs.Common.{◌∙◌, ap, arith, inl, inr}
use Rattle.std.proofs.lemmas.List.Sums.{sum_by-cons}
use Rattle.agg_model.specs.declared.aggregation.Agg.{Agg}
use Rattle.agg_model.specs.declared.aggregation.Kind.{Kind}
use Rattle.agg_model.specs.declared.key.Key.{Key}
use Rattle.agg_model.specs.declared.key.Key.TheVariants as key
use Rattle.agg_model.specs.declared.partial.Bucket.{Bucket}
use Rattle.agg_evaluation.specs.KeyOrder.{has_key, key_eq}
use Rattle.agg_evaluation.specs.Orders.{bucket_count, bucket_key}
use Rattle.agg_evaluation.proofs.Computing.{computing}
use Rattle.shard_columns.specs.Columns.{Columns}
use Rattle.growing_tree.specs.Codes.{code_key}
use Rattle.growing_tree.specs.Finished.{finished_bucket}
use Rattle.growing_tree.specs.Frequent.{IsLeast, Suffices, frequent}
use Rattle.growing_tree.specs.Grouped.{AreApart, HasOwnKeys}
use Rattle.growing_tree.specs.Trees.{counter_at, counter_buckets}
use Rattle.growing_tree.specs.declared.ready.Ready.{Ready, out-Ready}
use Rattle.growing_tree.proofs.Choosing.{few-rows, frequent-all}
use Rattle.growing_tree.proofs.Counters.{apart}

-- all counters together have the rows of the buckets
pub counted-rows : (place : ℕ) (ns : List ℕ) → sum_by (λ n. n) ns ≡ sum_by bucket_count (counter_buckets place ns)
counted-rows place [] = refl
counted-rows place (zero ∷ ns) = let one = sum_by-cons (λ (n : ℕ). n) 0 ns in let rest = counted-rows (suc place) ns in omega arith
counted-rows place (suc n ∷ ns) =
    let one = sum_by-cons (λ (n : ℕ). n) (suc n) ns in
    let rest = counted-rows (suc place) ns in
    let all = sum_by-cons bucket_count (counter_at (key.Whole (pos place)) (suc n)) (counter_buckets (suc place) ns) in
    omega arith

-- as many counters are so great as there are buckets with so many rows
many-frequent : (place least : ℕ) (ns : List ℕ) → length (filter (λ n. nat_le (suc least) n) ns) ≡ length (frequent (suc least) (counter_buckets place ns))
many-frequent place least [] = refl
many-frequent place least (zero ∷ ns) =
    ap (λ t. length (cond t (0 ∷ filter (λ n. nat_le (suc least) n) ns) (filter (λ n. nat_le (suc least) n) ns))) (few-rows (suc least) 0 (omega arith)) ∙ many-frequent (suc place) least ns
many-frequent place least (suc n ∷ ns) =
    let b : Bucket = counter_at (key.Whole (pos place)) (suc n) in
    let rest = many-frequent (suc place) least ns in
    elim (nat_le (suc least) (suc n)) as (λ t. length (cond t (suc n ∷ filter (λ n. nat_le (suc least) n) ns) (filter (λ n. nat_le (suc least) n) ns))
    ≡ length (cond t (b ∷ frequent (suc least) (counter_buckets (suc place) ns)) (frequent (suc least) (counter_buckets (suc place) ns)))) [
      | true ↦ ap suc rest
      | false ↦ rest
    ]

-- those that have the least number of rows suffice
pub counted-suffices : (k : Kind) (ns : List ℕ) (least : ℕ) (kept : List Bucket) → IsLeast k ns least → kept ≡ frequent least (counter_buckets 0 ns) → Suffices k (counter_buckets 0 ns) kept
counted-suffices k ns least kept (inl none) kept_are = inl (kept_are ∙ ap (λ n. frequent n (counter_buckets 0 ns)) none ∙ frequent-all (counter_buckets 0 ns))
counted-suffices k ns zero kept (inr cuts) kept_are = inl (kept_are ∙ frequent-all (counter_buckets 0 ns))
counted-suffices k ns (suc least) kept (inr cuts) kept_are =
    let many = many-frequent 0 least ns in
    let same = ap (λ (bs : List Bucket). length bs) kept_are in
    let enough = cuts.enough in
    inr (record { least = suc least; kept_are = kept_are; cuts = record { terms = cuts.terms; is = cuts.is; by_count = cuts.by_count; enough = omega (arith, enough, many, same) } })

-- the keys of finished buckets are apart
module _ (shard : Columns) (a : Agg) (r : Ready) (own : HasOwnKeys (code_key shard (out-Ready r).kind)) where
  abbrev key_of : ℤ → Key
  key_of = code_key shard (out-Ready r).kind

  abbrev keys_from : ℕ → List ℕ → List Key
  keys_from place ns = map bucket_key (map (finished_bucket shard a r) (counter_buckets place ns))

  key-is : (place n : ℕ) → bucket_key (finished_bucket shard a r (counter_at (key.Whole (pos place)) n)) ≡ key_of (pos place)
  unfolding computing
  key-is place n = refl

  none-before : (q place : ℕ) (ns : List ℕ) → q < place → has_key (key_of (pos q)) (keys_from place ns) ≡ false
  none-before q place [] l = refl
  none-before q place (zero ∷ ns) l = none-before q (suc place) ns (omega (arith, l))
  none-before q place (suc n ∷ ns) l =
      ap (λ k. key_eq (key_of (pos q)) k || has_key (key_of (pos q)) (keys_from (suc place) ns)) (key-is place (suc n))
      ∙ (λ i. apart key_of own q place (λ e. absurd (omega (arith, l, e))) i || none-before q (suc place) ns (omega (arith, l)) i)

  pub counted-apart : (place : ℕ) (ns : List ℕ) → AreApart (keys_from place ns)
  counted-apart place [] = tt
  counted-apart place (zero ∷ ns) = counted-apart (suc place) ns
  counted-apart place (suc n ∷ ns) =
      (ap (λ k. has_key k (keys_from (suc place) ns)) (key-is place (suc n)) ∙ none-before place (suc place) ns (omega arith), counted-apart (suc place) ns)
