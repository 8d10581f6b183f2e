-- Buckets are chosen by the numbers of their rows, one after another.
use Rattle.std.specs.Prelude.{◌≡◌, ◌≤◌, ◌<◌, min, refl, ℕ, zero, suc, ℤ, ◌+◌, true, false, cond, nat_le, List, [], ◌∷◌, ◌++◌, map, filter, length, drop, slice_get, Some, sum_by}
use Rattle.std.proofs.Common.{sym, ◌∙◌, ap, arith, inl, inr, add-one, append_assoc}
use Rattle.std.proofs.lemmas.Bool.Decides.{nat_tests}
use Rattle.std.proofs.lemmas.List.{length-map}
use Rattle.list_laws.proofs.Lists.{filter-map, map-append, sum_by-map}
use Rattle.agg_model.specs.declared.aggregation.Kind.{Kind}
use Rattle.agg_model.specs.declared.key.Key.{Key}
use Rattle.agg_model.specs.declared.key.Key.TheVariants as key
use Rattle.agg_model.specs.declared.partial.Bucket.{Bucket}
use Rattle.agg_model.specs.declared.partial.Metric.{Metric}
use Rattle.agg_model.specs.declared.partial.Node.{Node}
use Rattle.agg_evaluation.specs.Orders.{bucket_count}
use Rattle.growing_tree.specs.CodedBuckets.{coded_bucket}
use Rattle.growing_tree.specs.Frequent.{IsLeast, Suffices, frequent, has_rows}
use Rattle.growing_tree.specs.Measures.{measures_from}
use Rattle.growing_tree.specs.Trees.{bucket_with, coded_with, measured_at, measured_buckets}
use Rattle.growing_tree.specs.declared.coded.Coded.{Coded}
use Rattle.growing_tree.proofs.Cuts.{drop-at}

pub enough-rows : (least n : ℕ) → least ≤ n → nat_le least n ≡ true
enough-rows least n more = grind (arith, nat_tests)

pub few-rows : (least n : ℕ) → n < least → nat_le least n ≡ false
few-rows least n fewer = grind (arith, nat_tests)

-- one more bucket that has rows enough, and those that are left
pub kept-more : (least : ℕ) (done : List Coded) (c : Coded) (b : Bucket) (left : List Bucket) → coded_bucket c ≡ b → has_rows least b ≡ true
    → map coded_bucket (done ++ c ∷ []) ++ frequent least left ≡ map coded_bucket done ++ frequent least (b ∷ left)
kept-more least done c b left same enough =
    ap (λ bs. bs ++ frequent least left) (map-append coded_bucket done (c ∷ []))
    ∙ append_assoc (map coded_bucket done) (coded_bucket c ∷ []) (frequent least left)
    ∙ ap (λ x. map coded_bucket done ++ x ∷ frequent least left) same
    ∙ sym (ap (λ t. map coded_bucket done ++ cond t (b ∷ frequent least left) (frequent least left)) enough)

-- one that has too few
pub kept-less : (least : ℕ) (b : Bucket) (left : List Bucket) → has_rows least b ≡ false → frequent least left ≡ frequent least (b ∷ left)
kept-less least b left few = sym (ap (λ t. cond t (b ∷ frequent least left) (frequent least left)) few)

module _ {G : Type 0} (at : Key → G → Bucket) where
  -- the next bucket of those that are left
  pub coded-next : (codes : List ℤ) (i : ℕ) (code : ℤ) (g : G) (gs : List G) → slice_get codes i ≡ Some code → coded_with at (drop i codes) (g ∷ gs) ≡ at (key.Whole code) g ∷ coded_with at (drop (i + 1) codes) gs
  coded-next codes i code g gs e = ap (λ cs. coded_with at cs (g ∷ gs)) (drop-at codes i code e)

  pub coded-empty : (codes : List ℤ) → coded_with at codes [] ≡ []
  coded-empty [] = refl
  coded-empty (c ∷ cs) = refl

-- a bucket with its code, by what is known of both
pub coded-is : (c : Coded) (code : ℤ) (count : ℕ) (children : List Node) → c.code ≡ code → c.bucket.count ≡ count → c.bucket.children.items ≡ children
    → coded_bucket c ≡ record { key = key.Whole code; count = count; covered = 0; children = children }
coded-is c code count children p q r = λ i. record { key = key.Whole (p i); count = q i; covered = 0; children = r i }

-- the next of the buckets by the rows of each
pub measures-next : (at : ℕ → List Metric) (counts : List ℕ) (i n : ℕ) → slice_get counts i ≡ Some n
    → measures_from at i (drop i counts) ≡ record { count = n; metrics = at i } ∷ measures_from at (i + 1) (drop (i + 1) counts)
measures-next at counts i n e = ap (measures_from at i) (drop-at counts i n e) ∙ ap (λ k. record { count = n; metrics = at i } ∷ measures_from at k (drop (i + 1) counts)) (sym (add-one i))

-- behind the last place that has a code and rows there is no bucket
pub none-behind : (at : ℕ → List Metric) (codes : List ℤ) (q : ℕ) (counts : List ℕ) (p : ℕ) → min (length counts) (length codes) ≤ p → measured_buckets (drop p codes) (measures_from at q (drop p counts)) ≡ []
none-behind at [] q counts zero l = refl
none-behind at (c ∷ codes) q [] zero l = refl
none-behind at (c ∷ codes) q (n ∷ counts) zero l = absurd (omega (arith, l))
none-behind at [] q counts (suc p) l = refl
none-behind at (c ∷ codes) q [] (suc p) l = coded-empty measured_at (drop p codes)
none-behind at (c ∷ codes) q (n ∷ counts) (suc p) l = none-behind at codes q counts p (omega (arith, l))

pub measures-counts : (at : ℕ → List Metric) (q : ℕ) (ns : List ℕ) → map (λ m. m.count) (measures_from at q ns) ≡ ns
measures-counts at q [] = refl
measures-counts at q (n ∷ ns) = ap (λ ms. n ∷ ms) (measures-counts at (suc q) ns)

-- the rows of the buckets, where each has a code
pub coded-counts : {G : Type 0} (count_of : G → ℕ) (children_of : G → List Node) (codes : List ℤ) (gs : List G) → length gs ≤ length codes
    → map bucket_count (coded_with (bucket_with count_of children_of) codes gs) ≡ map count_of gs
coded-counts count_of children_of [] [] few = refl
coded-counts count_of children_of [] (g ∷ gs) few = absurd (omega arith)
coded-counts count_of children_of (c ∷ cs) [] few = refl
coded-counts count_of children_of (c ∷ cs) (g ∷ gs) few = ap (λ ns. count_of g ∷ ns) (coded-counts count_of children_of cs gs (omega (arith, few)))

-- each bucket has at least no row
pub frequent-all : (bs : List Bucket) → frequent 0 bs ≡ bs
frequent-all [] = refl
frequent-all (b ∷ bs) = sym (kept-less-none b bs) ∙ ap (λ cs. b ∷ cs) (frequent-all bs)
  where
    kept-less-none : (b : Bucket) (bs : List Bucket) → b ∷ frequent 0 bs ≡ frequent 0 (b ∷ bs)
    kept-less-none b bs = sym (ap (λ t. cond t (b ∷ frequent 0 bs) (frequent 0 bs)) (enough-rows 0 (bucket_count b) (omega arith)))

module _ (all : List Bucket) (counts : List ℕ) (are : map bucket_count all ≡ counts) where
  -- those that have the least number of rows suffice
  pub least-suffices : (k : Kind) (least : ℕ) (kept : List Bucket) → IsLeast k counts least → kept ≡ frequent least all → Suffices k all kept
  least-suffices k least kept (inl none) kept_are = inl (kept_are ∙ ap (λ n. frequent n all) none ∙ frequent-all all)
  least-suffices k least kept (inr cuts) kept_are =
      let many : length (filter (λ n. nat_le least n) counts) ≡ length kept =
      sym (ap (λ ns. length (filter (λ n. nat_le least n) ns)) are) ∙ ap length (filter-map (λ n. nat_le least n) bucket_count all) ∙ length-map (frequent least all) bucket_count ∙ sym (ap length kept_are) in
      let enough = cuts.enough in
      inr (record { least = least; kept_are = kept_are; cuts = record { terms = cuts.terms; is = cuts.is; by_count = cuts.by_count; enough = omega (arith, enough, many) } })

  pub all-rows : sum_by (λ n. n) counts ≡ sum_by bucket_count all
  all-rows = sym (ap (sum_by (λ n. n)) are) ∙ sum_by-map (λ n. n) bucket_count all
