-- What becomes of the buckets of all runs where one of them is changed.
use Rattle.std.proofs.Common.{◌≡◌, ℕ, zero, suc, ◌+◌, ◌-◌, ◌^◌, ◌<◌, List, [], ◌∷◌, length, get_or, slice_set, map, sym, ◌∙◌, ap, subst, arith}
use Rattle.std.specs.List.{AllByRecursion}
use Rattle.agg_model.specs.declared.aggregation.CompositeSource.{CompositeSource}
use Rattle.agg_model.specs.declared.key.Key.{Key}
use Rattle.agg_model.specs.declared.partial.Bucket.{Bucket}
use Rattle.agg_model.specs.declared.partial.Node.{Node}
use Rattle.agg_evaluation.specs.Orders.{bucket_key}
use Rattle.composite_agg.specs.FirstPages.{AreInOrder, children_of, counted, with_children}
use Rattle.composite_agg.specs.Runs.{Run, in_runs, place_in}
use Rattle.composite_agg.proofs.InRuns.{got, place-below, set-in}
use Rattle.composite_agg.proofs.PageSteps.{counted-at}
use Rattle.composite_agg.proofs.Swapped.{children-at, with-at}

each-at : {A : Type 0} (P : A → Type 0) (xs : List A) (i : ℕ) (d : A) → i < length xs → AllByRecursion P xs → P (get_or xs i d)
each-at P [] i d below all = absurd (omega (arith, below))
each-at P (x ∷ xs) zero d below all = all.0
each-at P (x ∷ xs) (suc i) d below all = each-at P xs i d (omega (arith, below)) all.1

module _ (sources : List CompositeSource) (k : Key) (rs : List (Run Bucket)) (r i : ℕ) (v : Run Bucket) (b : Bucket) (order : AreInOrder sources (in_runs rs)) (below : r < length rs)
    (lt : i < length (get_or rs r v).items) (is-v : v ≡ get_or rs r v) (is-b : b ≡ get_or v.items i b) (key-is : bucket_key (get_or (in_runs rs) (place_in rs r i) b) ≡ k) where
  there : b ≡ get_or (in_runs rs) (place_in rs r i) b
  there = is-b ∙ ap (λ (w : Run Bucket). get_or w.items i b) is-v ∙ sym (got rs r i v below b lt)

  pub counted-in : (other : Run Bucket) → other.items ≡ slice_set v.items i (record b { count = b.count + 1 }) → in_runs (slice_set rs r other) ≡ map (counted k) (in_runs rs)
  counted-in other e =
      set-in rs r i v below other (record b { count = b.count + 1 }) lt (e ∙ ap (λ (w : Run Bucket). slice_set w.items i (record b { count = b.count + 1 })) is-v)
      ∙ ap (λ (x : Bucket). slice_set (in_runs rs) (place_in rs r i) (record x { count = x.count + 1 })) there
      ∙ sym (counted-at sources k (in_runs rs) (place_in rs r i) b order (place-below rs r i v below lt) key-is)

  pub with-in : (children : List Node) (other : Run Bucket) → other.items ≡ slice_set v.items i (record b { children = children }) → in_runs (slice_set rs r other) ≡ map (with_children k children) (in_runs rs)
  with-in children other e =
      set-in rs r i v below other (record b { children = children }) lt (e ∙ ap (λ (w : Run Bucket). slice_set w.items i (record b { children = children })) is-v)
      ∙ ap (λ (x : Bucket). slice_set (in_runs rs) (place_in rs r i) (record x { children = children })) there
      ∙ sym (with-at k children sources (in_runs rs) (place_in rs r i) b order (place-below rs r i v below lt) key-is)

  pub children-in : (children : List Node) → children_of k children (in_runs rs) ≡ b.children
  children-in children =
      children-at k children sources (in_runs rs) (place_in rs r i) b order (place-below rs r i v below lt) key-is ∙ sym (ap (λ (x : Bucket). x.children) there)

  pub few-in : AllByRecursion (λ x. x.count < 2 ^ 64 - 1) (in_runs rs) → b.count < 2 ^ 64 - 1
  few-in few = subst (λ (x : Bucket). x.count < 2 ^ 64 - 1) (sym there) (each-at (λ (x : Bucket). x.count < 2 ^ 64 - 1) (in_runs rs) (place_in rs r i) b (place-below rs r i v below lt) few)
