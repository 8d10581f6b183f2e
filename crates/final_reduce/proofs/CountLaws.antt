-- A count that stops at the greatest one, made one after another.
use Rattle.std.specs.Prelude.{◌≡◌, refl, ℕ, zero, suc, ◌+◌, ◌*◌, ◌≤◌, ◌<◌, min, List, [], ◌∷◌}
use Rattle.std.proofs.Common.{sym, ◌∙◌, ap, arith, ⊎_elim}
use Rattle.std.proofs.lemmas.Bool.{cases_lt}
use Rattle.std.proofs.lemmas.List.Sums.{sum_by-cons}
use Rattle.agg_model.specs.declared.partial.Bucket.{Bucket}
use Rattle.agg_model.specs.declared.partial.Node.{Node}
use Rattle.agg_model.specs.declared.aggregation.Kind.{Kind}
use Rattle.agg_model.specs.declared.aggregation.Kind.TheVariants as kind
use Rattle.agg_spec.specs.BucketCount.{greatest_count}
use Rattle.agg_spec.specs.GapCount.{Plan, plan_each, below_empty}
use Rattle.final_reduce.specs.Counts.{tally_from, below_from, nothing_from, tally_below, member_number}

pub tally_from-min : (k : ℕ) (ps : List Plan) (ns : List Node) → tally_from (min k greatest_count) ps ns ≡ min (k + plan_each ps ns) greatest_count
tally_from-min k [] ns = omega arith
tally_from-min k (p ∷ ps) [] = omega arith
tally_from-min k (p ∷ ps) (n ∷ ns) =
    let step : min (min k greatest_count + min (p.count n) greatest_count) greatest_count ≡ min (k + p.count n) greatest_count = omega arith in
    ap (λ m. tally_from m ps ns) step ∙ tally_from-min (k + p.count n) ps ns
    ∙ (let more : min ((k + p.count n) + plan_each ps ns) greatest_count ≡ min (k + (p.count n + plan_each ps ns)) greatest_count = omega arith in more)

pub below_from-min : (ps : List Plan) (k : ℕ) (bs : List Bucket) → below_from ps (min k greatest_count) bs ≡ min (k + tally_below ps bs) greatest_count
below_from-min ps k [] = omega arith
below_from-min ps k (b ∷ bs) =
    let step : min (min k greatest_count + min (plan_each ps b.children) greatest_count) greatest_count ≡ min (k + plan_each ps b.children) greatest_count = omega arith in
    let more : min ((k + plan_each ps b.children) + tally_below ps bs) greatest_count ≡ min (k + tally_below ps (b ∷ bs)) greatest_count = omega (arith, sum_by-cons (λ (b : Bucket). plan_each ps b.children) b bs) in
    ap (λ m. below_from ps m bs) step ∙ below_from-min ps (k + plan_each ps b.children) bs ∙ more

-- no children, no buckets below
pub none-below : (bs : List Bucket) → tally_below [] bs ≡ 0
none-below [] = refl
none-below (b ∷ bs) = omega (arith, sum_by-cons (λ (b : Bucket). plan_each [] b.children) b bs, none-below bs)

pub nothing_from-min : (k : ℕ) (ps : List Plan) → nothing_from (min k greatest_count) ps ≡ min (k + below_empty ps) greatest_count
nothing_from-min k [] = omega arith
nothing_from-min k (p ∷ ps) =
    let step : min (min k greatest_count + min (p.count (p.whole [])) greatest_count) greatest_count ≡ min (k + p.count (p.whole [])) greatest_count = omega arith in
    ap (λ m. nothing_from m ps) step ∙ nothing_from-min (k + p.count (p.whole [])) ps
    ∙ (let more : min ((k + p.count (p.whole [])) + below_empty ps) greatest_count ≡ min (k + (p.count (p.whole []) + below_empty ps)) greatest_count = omega arith in more)

at_least : (a b : ℕ) → 0 < b → a ≤ a * b
at_least a zero positive = absurd (omega arith)
at_least a (suc b) positive = let product : a * suc b ≡ a * b + a = omega arith in omega (arith, product)

none_times : (a : ℕ) → a * 0 ≡ 0
none_times a = omega arith

times_none : (a : ℕ) → 0 * a ≡ 0
times_none a = omega arith

-- a product of numbers that stop stops where the product does
pub product-min : (g a b : ℕ) → min (min a g * min b g) g ≡ min (a * b) g
product-min zero a b = omega arith
product-min (suc g) a zero =
    let none : min 0 (suc g) ≡ 0 = omega arith in
    ap (λ n. min (min a (suc g) * n) (suc g)) none ∙ ap (λ n. min n (suc g)) (none_times (min a (suc g)) ∙ sym (none_times a))
product-min (suc g) zero (suc b) =
    let none : min 0 (suc g) ≡ 0 = omega arith in
    ap (λ n. min (n * min (suc b) (suc g)) (suc g)) none ∙ ap (λ n. min n (suc g)) (times_none (min (suc b) (suc g)) ∙ sym (times_none (suc b)))
product-min (suc g) (suc a) (suc b) =
    ⊎_elim
    (λ more.
    let ag : min (suc a) (suc g) ≡ suc g = omega arith in
    let least = at_least (suc g) (min (suc b) (suc g)) (omega arith) in
    let least' = at_least (suc a) (suc b) (omega arith) in
    ap (λ m. min (m * min (suc b) (suc g)) (suc g)) ag ∙ omega (arith, least, least'))
    (λ few.
    let aa : min (suc a) (suc g) ≡ suc a = omega arith in
    ap (λ m. min (m * min (suc b) (suc g)) (suc g)) aa
    ∙ ⊎_elim
    (λ more.
    let bg : min (suc b) (suc g) ≡ suc g = omega arith in
    let least : suc g ≤ suc a * suc g = let turned : suc a * suc g ≡ suc g * suc a = omega arith in omega (arith, turned, at_least (suc g) (suc a) (omega arith)) in
    let least' : suc g ≤ suc a * suc b = let turned : suc a * suc b ≡ suc b * suc a = omega arith in omega (arith, turned, at_least (suc b) (suc a) (omega arith)) in
    ap (λ m. min (suc a * m) (suc g)) bg ∙ omega (arith, least, least'))
    (λ few'. let bb : min (suc b) (suc g) ≡ suc b = omega arith in ap (λ m. min (suc a * m) (suc g)) bb)
    (cases_lt (suc g) (suc b)))
    (cases_lt (suc g) (suc a))

pub member_number-min : (g : ℕ) (k : Kind) (n : ℕ) → member_number k (min n g) ≡ min (member_number k n) g
member_number-min g (kind.Filter query) n = omega arith
member_number-min g (kind.Missing field) n = omega arith
member_number-min g kind.Global n = omega arith
member_number-min g (kind.Nested context) n = omega arith
member_number-min g (kind.ReverseNested context) n = omega arith
member_number-min g _ n = refl
