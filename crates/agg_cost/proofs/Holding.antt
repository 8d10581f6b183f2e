-- What an aggregation and all below it hold at most, one level at a time.
use Rattle.std.proofs.Common.{◌≡◌, refl, ℕ, ◌+◌, ◌*◌, ◌^◌, ◌<◌, ◌≤◌, List, [], ◌∷◌, length, take, get_or, sym, ap, subst, arith}
use Rattle.std.specs.Prelude.{sum_by}
use Rattle.std.proofs.Math.Nat.{mul-le-mul_left, mul-le-mul_right}
use Rattle.std.proofs.lemmas.List.Sums.{sum_by-cons}
use Rattle.agg_model.specs.declared.aggregation.Agg.{Agg, out-Agg}
use Rattle.agg_model.specs.declared.aggregation.Kind.{Kind}
use Rattle.agg_model.specs.declared.mapping.FieldKind.{FieldKind}
use Rattle.agg_evaluation.specs.Ceiling.{Reached, bucket_bound, handed_on, key_bound, node_bound, path_count}
use Rattle.agg_evaluation.specs.Rows.{PlacedRow}
use Rattle.agg_evaluation.specs.Shard.{fixed_keys}
use Rattle.agg_evaluation.specs.Whole.{Shape, by_key, from_start, a_number, shape_of}
use Rattle.agg_cost.specs.Capped.{capped}
use Rattle.agg_cost.specs.Widths.{HandsOnAtMost, HoldsAtMost, IsReachedAtMost}
use Rattle.agg_cost.proofs.Levels.{bound-level}
use Rattle.agg_cost.proofs.Splitting.{path_count-over}
use Rattle.agg_cost.proofs.Totals.{sum-more}

sum-ones : (xs : List PlacedRow) → sum_by (λ r. 1) xs ≡ length xs
sum-ones [] = refl
sum-ones (x ∷ xs) = let whole = sum_by-cons (λ (r : PlacedRow). 1) x xs in let rest = sum-ones xs in omega arith

module _ (kinds : List FieldKind) (rows : List PlacedRow) where
  -- at most so many paths to each row
  paths-low : (each : ℕ) (reached : List Reached) → IsReachedAtMost each rows reached → path_count reached ≤ each * length rows
  paths-low each reached within =
      let count = path_count-over reached in
      let low = within (λ r. 1) in
      let ones = ap (λ (n : ℕ). each * n) (sum-ones rows) in
      omega (arith, count, low, ones)

  buckets-low : (k : Kind) (shape : Shape) (m n p q : ℕ) → m ≤ n → p ≤ q → bucket_bound kinds rows k shape m p ≤ bucket_bound kinds rows k shape n q
  buckets-low k by_key m n p q nodes paths = paths
  buckets-low k from_start m n p q nodes paths = mul-le-mul_right (length (fixed_keys k)) nodes
  buckets-low k a_number m n p q nodes paths = omega arith

  -- what the children hold, whatever of so many nodes and paths reach them
  abbrev pub ChildrenHoldAtMost : ℕ → ℕ → List Agg → ℕ → ℕ → Type 0
  ChildrenHoldAtMost most own children nodes each =
      (n : ℕ) (reached : List Reached) → n ≤ nodes → IsReachedAtMost each rows reached → own + sum_by (λ c. node_bound kinds rows c n reached) children ≤ most

  pub child-more : (own before here after : ℕ) (children : List Agg) (i : ℕ) (child : Agg) (nodes each : ℕ) → i < length children → child ≡ get_or children i child
      → ChildrenHoldAtMost before own (take i children) nodes each → HoldsAtMost here kinds rows child nodes each → after ≡ before + here
      → ChildrenHoldAtMost after own (take (i + 1) children) nodes each
  child-more own before here after children i child nodes each below is held holds sum n reached few within =
      let a = held n reached few within in
      let b = holds n reached few within in
      let c = sum-more (λ c. node_bound kinds rows c n reached) children i child below is in
      omega (arith, a, b, c, sum)

  small : (n b c : ℕ) → c ≡ capped b → n + c * 128 < 2 ^ 64 → b ≤ c
  small n b c is low = omega (arith, is, low)

  at_least : (bucket c own n : ℕ) → 128 ≤ bucket → own ≡ n + c * bucket → own < 2 ^ 64 → n + c * 128 < 2 ^ 64
  at_least bucket c own n great is low = let more = mul-le-mul_left c great in omega (arith, is, low, more)

  pub level-holds : (a : Agg) (nodes each most below paths buckets own bytes : ℕ) →
      let k = (out-Agg a).kind in
      HandsOnAtMost most kinds rows k → below ≡ each * most → paths ≡ below * length rows
      → buckets ≡ capped (bucket_bound kinds rows k (shape_of k) nodes paths)
      → own ≡ nodes * 512 + buckets * (128 + key_bound kinds rows k) → own < 2 ^ 64
      → ChildrenHoldAtMost bytes own (out-Agg a).children buckets below
      → HoldsAtMost bytes kinds rows a nodes each
  level-holds a nodes each most below paths buckets own bytes hands is_below is_paths is_buckets is_own fits children n reached few within =
      let k = (out-Agg a).kind in
      let key = key_bound kinds rows k in
      let handed = handed_on kinds rows k reached in
      let inside : IsReachedAtMost below rows handed = subst (λ (m : ℕ). IsReachedAtMost m rows handed) (sym is_below) (hands each reached within) in
      let low : path_count handed ≤ paths = subst (λ (m : ℕ). path_count handed ≤ m) (sym is_paths) (paths-low below handed inside) in
      let made = bucket_bound kinds rows k (shape_of k) n (path_count handed) in
      let fewer = buckets-low k (shape_of k) n nodes (path_count handed) paths few low in
      let great : 128 ≤ 128 + key = omega arith in
      let exact = small (nodes * 512) (bucket_bound kinds rows k (shape_of k) nodes paths) buckets is_buckets (at_least (128 + key) buckets own (nodes * 512) great is_own fits) in
      let at_most : made ≤ buckets = omega (arith, fewer, exact) in
      let here = children made handed at_most inside in
      let own_low = mul-le-mul_right (128 + key) at_most in
      let level = bound-level kinds rows a n reached in
      omega (arith, few, here, own_low, level, is_own)
