-- Buckets whose rows are counted alone: the counter of one of them is raised, which begins its bucket where the counter was 0.
use Rattle.std.specs.Prelude.{◌≡◌, refl, ℕ, zero, suc, ℤ, pos, ◌+◌, ◌<◌, ◌≤◌, ◌≢◌, true, false, cond, List, [], ◌∷◌, length, map, replicate, sum_by, Option, Some, None}
use Rattle.std.specs.FinMap.Entries.{find}
use Rattle.std.proofs.Common.{sym, ◌∙◌, ap, subst, arith, add-one, inl, inr}
use Rattle.std.proofs.Math.ListN.{set, get_or}
use Rattle.std.proofs.lemmas.Bool.{cases_Bool}
use Rattle.std.proofs.lemmas.List.Sums.{sum_by-cons}
use Rattle.list_laws.proofs.Booleans.{holds}
use Rattle.list_laws.proofs.Occurrences.{occurrences}
use Rattle.list_laws.proofs.Sums.{sum_by-sorted}
use Rattle.agg_model.specs.declared.key.Key.{Key}
use Rattle.agg_model.specs.declared.partial.Bucket.{Bucket}
use Rattle.agg_model.specs.declared.partial.Node.{Node}
use Rattle.agg_evaluation.specs.Cost.{key_bytes}
use Rattle.agg_evaluation.specs.KeyOrder.{key_cmp, key_eq}
use Rattle.agg_evaluation.specs.Orders.{bucket_key}
use Rattle.agg_evaluation.specs.Rows.{PlacedRow}
use Rattle.agg_evaluation.specs.Shard.{sorted_by_key}
use Rattle.agg_evaluation.proofs.Computing.{computing}
use Rattle.agg_evaluation.proofs.KeyLists.{key_eq-exact, key_eq-self}
use Rattle.evaluation_laws.proofs.CostLaws.{bytes}
use Rattle.growth_laws.specs.Arrived.{AreDistinct}
use Rattle.growth_laws.specs.Gathering.{Gatherer, gathered_children, put_rows}
use Rattle.growing_tree.specs.Decoded.{decoded_bucket}
use Rattle.growing_tree.specs.Grouped.{HasOwnKeys}
use Rattle.growing_tree.specs.Shown.{counted_buckets}
use Rattle.growing_tree.specs.Trees.{counter_buckets}
use Rattle.growing_tree.proofs.Arriving.{entries, grown-sorted, next, swap, twice}
use Rattle.growing_tree.proofs.Children.{decoded-nil}

-- no counter is raised
pub none-counted : (place n : ℕ) → counter_buckets place (replicate n 0) ≡ []
none-counted place zero = refl
none-counted place (suc n) = none-counted (suc place) n

same-place : (m n : ℕ) → pos m ≡ pos n → m ≡ n
same-place m n e = cc e

module _ (key_of : ℤ → Key) (own : HasOwnKeys key_of) where
  -- different places have different keys
  pub apart : (p q : ℕ) → p ≢ q → key_eq (key_of (pos p)) (key_of (pos q)) ≡ false
  apart p q other = elim (cases_Bool (key_eq (key_of (pos p)) (key_of (pos q)))) [
    | inl same ↦ absurd (other (same-place p q (own (pos p) (pos q) (key_eq-exact (key_of (pos p)) (key_of (pos q)) (holds _ same)))))
    | inr f ↦ f
  ]

  -- no key is that of two places
  never-both : (p q : ℕ) (k : Key) → p ≢ q → key_eq k (key_of (pos p)) ≡ true → key_eq k (key_of (pos q)) ≡ true → ⊥
  never-both p q k other e f =
      other (same-place p q (own (pos p) (pos q) (sym (key_eq-exact k (key_of (pos p)) (holds _ e)) ∙ key_eq-exact k (key_of (pos q)) (holds _ f))))

-- nothing is below
gathered-nil : (gs : List Gatherer) (rows : List PlacedRow) → gathered_children gs rows [] ≡ []
gathered-nil [] rows = refl
gathered-nil (g ∷ gs) rows = refl

-- by how much the cost of the buckets rises where this counter is raised
abbrev pub rise : (ℤ → Key) → ℕ → ℕ → ℕ
rise key_of place zero = 128 + key_bytes (key_of (pos place))
rise key_of place (suc n) = 0

-- that of a bucket that was there
pub rise-later : (key_of : ℤ → Key) (place n : ℕ) → n ≢ 0 → rise key_of place n ≡ 0
rise-later key_of place zero some = absurd (some refl)
rise-later key_of place (suc n) some = refl

-- and of one that begins
pub rise-first : (key_of : ℤ → Key) (place n : ℕ) → n ≡ 0 → rise key_of place n ≡ 128 + key_bytes (key_of (pos place))
rise-first key_of place zero none = refl
rise-first key_of place (suc n) none = absurd (omega (arith, none))

module _ (ds : List (Node → Node)) (key_of : ℤ → Key) where
  -- the bucket of a place, of so many rows
  abbrev seen_at : ℕ → ℕ → Bucket
  seen_at place n = record { key = key_of (pos place); count = n; covered = 0; children = [] }

  -- what callers see of the counters from this place on
  seen : ℕ → List ℕ → List Bucket
  seen place [] = []
  seen place (zero ∷ ns) = seen (suc place) ns
  seen place (suc n ∷ ns) = seen_at place (suc n) ∷ seen (suc place) ns

  seen-is : (place : ℕ) (ns : List ℕ) → map (decoded_bucket ds key_of) (counter_buckets place ns) ≡ seen place ns
  unfolding computing seen
  seen-is place [] = refl
  seen-is place (zero ∷ ns) = seen-is (suc place) ns
  seen-is place (suc n ∷ ns) = λ i. record { key = key_of (pos place); count = suc n; covered = 0; children = decoded-nil ds i } ∷ seen-is (suc place) ns i

  module _ (own : HasOwnKeys key_of) where
    -- the key of an earlier place is not among those from this place on
    none-occurs : (q place : ℕ) (ns : List ℕ) → q < place → occurrences (λ b. key_eq (key_of (pos q)) (bucket_key b)) (seen place ns) ≡ 0
    unfolding seen
    none-occurs q place [] l = refl
    none-occurs q place (zero ∷ ns) l = none-occurs q (suc place) ns (omega (arith, l))
    none-occurs q place (suc n ∷ ns) l =
        let rest = occurrences (λ b. key_eq (key_of (pos q)) (bucket_key b)) (seen (suc place) ns) in
        ap (λ t. cond t (suc rest) rest) (apart key_of own q place (λ e. absurd (omega (arith, l, e)))) ∙ none-occurs q (suc place) ns (omega (arith, l))

    not-found : (q place : ℕ) (ns : List ℕ) → q < place → find key_cmp (key_of (pos q)) (entries (seen place ns)) ≡ None
    unfolding seen
    not-found q place [] l = refl
    not-found q place (zero ∷ ns) l = not-found q (suc place) ns (omega (arith, l))
    not-found q place (suc n ∷ ns) l =
        ap (λ t. cond t (Some (seen_at place (suc n))) (find key_cmp (key_of (pos q)) (entries (seen (suc place) ns)))) (apart key_of own q place (λ e. absurd (omega (arith, l, e))))
        ∙ not-found q (suc place) ns (omega (arith, l))

    -- no key stands twice
    seen-distinct : (place : ℕ) (ns : List ℕ) → AreDistinct (seen place ns)
    unfolding seen
    seen-distinct place [] q = omega arith
    seen-distinct place (zero ∷ ns) q = seen-distinct (suc place) ns q
    seen-distinct place (suc n ∷ ns) q =
        elim (key_eq q (key_of (pos place))) as (λ x. key_eq q (key_of (pos place)) ≡ x
        → cond x (suc (occurrences (λ b. key_eq q (bucket_key b)) (seen (suc place) ns))) (occurrences (λ b. key_eq q (bucket_key b)) (seen (suc place) ns)) ≤ 1) [
          | true ↦ λ e.
              let none = ap (λ k. occurrences (λ b. key_eq k (bucket_key b)) (seen (suc place) ns)) (key_eq-exact q (key_of (pos place)) (holds _ e)) ∙ none-occurs place (suc place) ns (omega arith) in
              omega (arith, none)
          | false ↦ λ e. seen-distinct (suc place) ns q
        ] refl

    pub counters-distinct : (place : ℕ) (ns : List ℕ) → AreDistinct (map (decoded_bucket ds key_of) (counter_buckets place ns))
    counters-distinct place ns = subst AreDistinct (sym (seen-is place ns)) (seen-distinct place ns)

    -- what is found of a counter
    abbrev found : ℕ → ℕ → Option Bucket
    found place zero = None
    found place (suc n) = Some (seen_at place (suc n))

    found-here : (place : ℕ) (ns : List ℕ) (i p : ℕ) → p ≡ place + i → find key_cmp (key_of (pos p)) (entries (seen place ns)) ≡ found p (get_or ns i 0)
    unfolding seen
    found-here place [] zero p e = refl
    found-here place [] (suc i) p e = refl
    found-here place (zero ∷ ns) zero p e = not-found p (suc place) ns (omega (arith, e))
    found-here place (suc n ∷ ns) zero p e =
        let here : place ≡ p = omega (arith, e) in
        ap (λ k. find key_cmp (key_of (pos p)) (entries (seen_at k (suc n) ∷ seen (suc place) ns))) here
        ∙ ap (λ t. cond t (Some (seen_at p (suc n))) (find key_cmp (key_of (pos p)) (entries (seen (suc place) ns)))) (key_eq-self (key_of (pos p)))
    found-here place (zero ∷ ns) (suc i) p e = found-here (suc place) ns i p (omega (arith, e))
    found-here place (suc n ∷ ns) (suc i) p e =
        ap (λ t. cond t (Some (seen_at place (suc n))) (find key_cmp (key_of (pos p)) (entries (seen (suc place) ns)))) (apart key_of own p place (λ same. absurd (omega (arith, e, same))))
        ∙ found-here (suc place) ns i p (omega (arith, e))

    -- what is found once a counter is raised
    found-raised : (place : ℕ) (ns : List ℕ) (i p n : ℕ) → p ≡ place + i → i < length ns → (k : Key)
        → find key_cmp k (entries (seen place (set ns i (suc n)))) ≡ cond (key_eq k (key_of (pos p))) (Some (seen_at p (suc n))) (find key_cmp k (entries (seen place ns)))
    unfolding seen
    found-raised place [] i p n e l k = absurd (omega (arith, l))
    found-raised place (zero ∷ ns) zero p n e l k =
        let here : place ≡ p = omega (arith, e) in
        ap (λ q. cond (key_eq k (key_of (pos q))) (Some (seen_at q (suc n))) (find key_cmp k (entries (seen (suc place) ns)))) here
    found-raised place (suc m ∷ ns) zero p n e l k =
        let here : place ≡ p = omega (arith, e) in
        let rest = find key_cmp k (entries (seen (suc place) ns)) in
        twice (key_eq k (key_of (pos place))) (Some (seen_at place (suc n))) (Some (seen_at place (suc m))) rest
        ∙ ap (λ q. cond (key_eq k (key_of (pos q))) (Some (seen_at q (suc n))) (cond (key_eq k (key_of (pos place))) (Some (seen_at place (suc m))) rest)) here
    found-raised place (zero ∷ ns) (suc i) p n e l k = found-raised (suc place) ns i p n (omega (arith, e)) (omega (arith, l)) k
    found-raised place (suc m ∷ ns) (suc i) p n e l k =
        let rest = find key_cmp k (entries (seen (suc place) ns)) in
        ap (cond (key_eq k (key_of (pos place))) (Some (seen_at place (suc m)))) (found-raised (suc place) ns i p n (omega (arith, e)) (omega (arith, l)) k)
        ∙ swap (key_eq k (key_of (pos place))) (key_eq k (key_of (pos p))) (Some (seen_at place (suc m))) (Some (seen_at p (suc n))) rest
        (λ a b. absurd (never-both key_of own place p k (λ same. absurd (omega (arith, e, same))) a b))

    module _ (gs : List Gatherer) (row : PlacedRow) where
      -- the bucket of the raised counter
      raised-is : (p n : ℕ) → (n ≡ 0 → gs ≡ []) → seen_at p (suc n) ≡ next gs (row ∷ []) (key_of (pos p)) (found p n)
      raised-is p zero none = λ i. record {
        key = key_of (pos p);
        count = 1;
        covered = 0;
        children = (sym (gathered-nil gs (row ∷ [])) ∙ ap (gathered_children gs (row ∷ [])) (sym (ap (map (λ g. g.empty)) (none refl)))) i;
      }
      raised-is p (suc n) none = λ i. record {
        key = key_of (pos p);
        count = sym (add-one (suc n)) i;
        covered = 0;
        children = sym (gathered-nil gs (row ∷ [])) i;
      }

      -- one counter more is one row more in the bucket of its place
      pub raised-buckets : (ns : List ℕ) (p : ℕ) → p < length ns → (get_or ns p 0 ≡ 0 → gs ≡ [])
          → counted_buckets ds key_of (set ns p (get_or ns p 0 + 1)) ≡ put_rows gs (row ∷ []) (key_of (pos p)) (counted_buckets ds key_of ns)
      raised-buckets ns p l none =
          let n = get_or ns p 0 in
          let more = set ns p (suc n) in
          let key = key_of (pos p) in
          let start : p ≡ 0 + p = omega arith in
          ap (λ m. counted_buckets ds key_of (set ns p m)) (add-one n)
          ∙ ap sorted_by_key (seen-is 0 more)
          ∙ grown-sorted gs (row ∷ []) key (seen 0 ns) (seen 0 more) (seen-distinct 0 ns) (seen-distinct 0 more) (λ k.
          found-raised 0 ns p p n start l k
          ∙ ap (λ b. cond (key_eq k key) (Some b) (find key_cmp k (entries (seen 0 ns))))
          (raised-is p n none ∙ ap (next gs (row ∷ []) key) (sym (found-here 0 ns p p start))))
          ∙ ap (λ bs. put_rows gs (row ∷ []) key (sorted_by_key bs)) (sym (seen-is 0 ns))

  seen-bytes : (place : ℕ) (ns : List ℕ) (i p : ℕ) → p ≡ place + i → i < length ns
      → sum_by bytes (seen place (set ns i (suc (get_or ns i 0)))) ≡ sum_by bytes (seen place ns) + rise key_of p (get_or ns i 0)
  unfolding seen
  seen-bytes place [] i p e l = absurd (omega (arith, l))
  seen-bytes place (zero ∷ ns) zero p e l =
      let here : place ≡ p = omega (arith, e) in
      let one = sum_by-cons bytes (seen_at place 1) (seen (suc place) ns) in
      let key = ap (λ q. key_bytes (key_of (pos q))) here in
      omega arith
  seen-bytes place (suc n ∷ ns) zero p e l =
      let before = sum_by-cons bytes (seen_at place (suc n)) (seen (suc place) ns) in
      let after = sum_by-cons bytes (seen_at place (suc (suc n))) (seen (suc place) ns) in
      omega arith
  seen-bytes place (zero ∷ ns) (suc i) p e l = seen-bytes (suc place) ns i p (omega (arith, e)) (omega (arith, l))
  seen-bytes place (suc n ∷ ns) (suc i) p e l =
      let before = sum_by-cons bytes (seen_at place (suc n)) (seen (suc place) ns) in
      let after = sum_by-cons bytes (seen_at place (suc n)) (seen (suc place) (set ns i (suc (get_or ns i 0)))) in
      let rest = seen-bytes (suc place) ns i p (omega (arith, e)) (omega (arith, l)) in
      omega arith

  sorted-bytes : (ns : List ℕ) → sum_by bytes (counted_buckets ds key_of ns) ≡ sum_by bytes (seen 0 ns)
  sorted-bytes ns = sum_by-sorted bytes (λ a b. key_cmp (bucket_key a) (bucket_key b)) (map (decoded_bucket ds key_of) (counter_buckets 0 ns)) ∙ ap (sum_by bytes) (seen-is 0 ns)

  -- by how much the cost of the buckets rises
  pub raised-bytes : (ns : List ℕ) (p : ℕ) → p < length ns
      → sum_by bytes (counted_buckets ds key_of (set ns p (get_or ns p 0 + 1))) ≡ sum_by bytes (counted_buckets ds key_of ns) + rise key_of p (get_or ns p 0)
  raised-bytes ns p l =
      let start : p ≡ 0 + p = omega arith in
      ap (λ m. sum_by bytes (counted_buckets ds key_of (set ns p m))) (add-one (get_or ns p 0))
      ∙ sorted-bytes (set ns p (suc (get_or ns p 0))) ∙ seen-bytes 0 ns p p start l ∙ ap (λ m. m + rise key_of p (get_or ns p 0)) (sym (sorted-bytes ns))
