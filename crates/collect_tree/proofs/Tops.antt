-- The trees side by side.
use Rattle.std.specs.Prelude.{◌≡◌, ◌≢◌, refl, ℕ, zero, suc, ◌+◌, ◌<◌, true, false, if◌then◌else◌, nat_eq, nat_lt, List, [], ◌∷◌, ◌++◌, length, map, drop, slice_get, Option, Some, None, sum_by, Result, Ok, Err, OnOk}
use Rattle.std.proofs.Common.{sym, ◌∙◌, ap, subst, arith, add-one, append_assoc, ⊎_elim}
use Rattle.std.proofs.Math.ListN.{set, length-set}
use Rattle.std.specs.Result.{is_err}
use Rattle.std.proofs.lemmas.Bool.{false≢true}
use Rattle.std.proofs.lemmas.Bool.Decides.{nat_tests}
use Rattle.std.proofs.lemmas.List.Sums.{sum_by-cons}
use Rattle.agg_model.specs.declared.aggregation.Agg.{Agg}
use Rattle.agg_model.specs.declared.aggregation.Search.{Search}
use Rattle.agg_model.specs.declared.partial.Node.{Node}
use Rattle.agg_evaluation.specs.Cost.{cost, node_cost}
use Rattle.agg_evaluation.specs.Trace.{built}
use Rattle.growth_laws.specs.Cutting.{cut_tree}
use Rattle.growth_laws.specs.Steps.{tree_after}
use Rattle.list_laws.proofs.Options.{none_some, some_same}
use Rattle.shard_columns.proofs.Drafting.{slice_get-last, slice_get-set_other, slice_get-set_same}
use Rattle.shard_columns.specs.Columns.{Columns}
use Rattle.collect_tree.specs.Grown.{HasGrown}
use Rattle.collect_tree.specs.Tops.{AreNodes, AreTopsFor, IsTopFor, cut_tops, top_cost, top_node}
use Rattle.collect_tree.specs.declared.growth.Growth.{Growth}
use Rattle.collect_tree.specs.declared.top_tree.TopTree.{TopTree}

module _ (shard : Columns) (before : Agg → Node) where
  -- what they cost together
  pub sum-tops : (aggs : List Agg) (tops : List TopTree) → length tops ≡ length aggs → AreNodes shard aggs (λ place a. before a) tops → sum_by (top_cost shard) tops ≡ sum_by node_cost (map before aggs)
  sum-tops [] [] many h = refl
  sum-tops [] (t ∷ tops) many h = absurd (omega arith)
  sum-tops (a ∷ aggs) [] many h = absurd (omega arith)
  sum-tops (a ∷ aggs) (t ∷ tops) many h =
      let first = ap node_cost (h 0 a t refl refl) in
      let rest = sum-tops aggs tops (omega arith) (λ n b u at there. h (suc n) b u at there) in
      let here = sum_by-cons (top_cost shard) t tops in
      let there = sum_by-cons node_cost (before a) (map before aggs) in
      omega arith

-- the bytes are the cost of the trees
pub grown-bytes : (shard : Columns) (search : Search) (n : ℕ) (g : Growth) → HasGrown shard search n g → g.bytes ≡ cost (built search shard.rows n)
grown-bytes shard search n g h = h.bytes_are ∙ sum-tops shard (λ a. tree_after search shard.rows a n) search.aggs g.trees.items h.ready.count h.nodes

-- what stands at a place before another, and what does from there on
abbrev pub so_far : {A : Type 0} → ℕ → ℕ → A → A → A
so_far k place x y = if nat_lt place k then x else y

-- the cuts of the trees, where each is known
module _ (shard : Columns) (before f : Agg → Node) where
  pub cut-all : (aggs : List Agg) (tops : List TopTree) → length tops ≡ length aggs → AreNodes shard aggs (λ place a. before a) tops
      → ((n : ℕ) (a : Agg) → slice_get aggs n ≡ Some a → cut_tree a (before a) ≡ f a) → cut_tops shard aggs tops ≡ map f aggs
  cut-all [] tops many h is = refl
  cut-all (a ∷ aggs) [] many h is = absurd (omega arith)
  cut-all (a ∷ aggs) (t ∷ tops) many h is =
      λ i. (ap (cut_tree a) (h 0 a t refl refl) ∙ is 0 a refl) i ∷ cut-all aggs tops (omega arith) (λ n b u at there. h (suc n) b u at there) (λ n b at. is (suc n) b at) i

-- the item at a place is the first of those from there on
pub drop-here : {A : Type 0} (xs : List A) (n : ℕ) (x : A) → slice_get xs n ≡ Some x → drop n xs ≡ x ∷ drop (n + 1) xs
drop-here {A = A} xs n x e = here xs n e ∙ ap (λ m. x ∷ drop m xs) (sym (add-one n))
  where
    here : (xs : List A) (n : ℕ) → slice_get xs n ≡ Some x → drop n xs ≡ x ∷ drop (suc n) xs
    here [] zero e = none_some x e
    here [] (suc n) e = none_some x e
    here (y ∷ xs) zero e = ap (λ z. z ∷ xs) (some_same y x e)
    here (y ∷ xs) (suc n) e = here xs n e

-- one more tree is finished
pub cut-more : (shard : Columns) (nodes : List Node) (aggs : List Agg) (place : ℕ) (a : Agg) (top : TopTree) (left : List TopTree) → slice_get aggs place ≡ Some a
    → (nodes ++ cut_tree a (top_node shard top) ∷ []) ++ cut_tops shard (drop (place + 1) aggs) left ≡ nodes ++ cut_tops shard (drop place aggs) (top ∷ left)
cut-more shard nodes aggs place a top left at =
    append_assoc nodes (cut_tree a (top_node shard top) ∷ []) (cut_tops shard (drop (place + 1) aggs) left)
    ∙ ap (λ rest. nodes ++ cut_tops shard rest (top ∷ left)) (sym (drop-here aggs place a at))

-- the first of those from a place on stands there
pub drop-first : {A : Type 0} (xs : List A) (n : ℕ) (x : A) (more : List A) → drop n xs ≡ x ∷ more → (slice_get xs n ≡ Some x) × (drop (n + 1) xs ≡ more)
drop-first {A = A} xs n x more e = let f = first xs n e in (f.0, ap (λ m. drop m xs) (add-one n) ∙ f.1)
  where
    head : List A → Option A
    head [] = None
    head (y ∷ ys) = Some y

    tail : List A → List A
    tail [] = []
    tail (y ∷ ys) = ys

    first : (xs : List A) (n : ℕ) → drop n xs ≡ x ∷ more → (slice_get xs n ≡ Some x) × (drop (suc n) xs ≡ more)
    first [] zero e = (ap head e, ap tail e)
    first [] (suc n) e = (ap head e, ap tail e)
    first (y ∷ xs) zero e = (ap head e, ap tail e)
    first (y ∷ xs) (suc n) e = first xs n e

module _ {A B : Type 0} (P : ℕ → A → B → Type 0) (xs : List A) where
  abbrev pub Each : List B → Type 0
  Each bs = (n : ℕ) (a : A) (b : B) → slice_get xs n ≡ Some a → slice_get bs n ≡ Some b → P n a b

  -- one more pair
  pub each-pushed : (bs : List B) (a : A) (b : B) → slice_get xs (length bs) ≡ Some a → P (length bs) a b → Each bs → Each (bs ++ b ∷ [])
  each-pushed bs a b at here each n x y there is = ⊎_elim
      (λ (old : slice_get bs n ≡ Some y). each n x y there old)
      (λ last. subst (λ m. P m x y) (sym last.0) (subst (λ z. P (length bs) x z) last.1 (subst (λ z. P (length bs) z b) (some_same a x (sym at ∙ ap (slice_get xs) (sym last.0) ∙ there)) here)))
      (slice_get-last bs b y n is)

-- one pair is another
pub each-set : {A B : Type 0} (P Q : ℕ → A → B → Type 0) (xs : List A) (bs : List B) (i : ℕ) (a : A) (b : B) → i < length bs → slice_get xs i ≡ Some a → Q i a b
    → ((n : ℕ) (a : A) (b : B) → n ≢ i → P n a b → Q n a b) → Each P xs bs → Each Q xs (set bs i b)
each-set {A = A} {B = B} P Q xs bs i a b within at here others each n x y there is =
    elim (nat_eq n i) as (λ e. nat_eq n i ≡ e → Q n x y) [
      | true ↦ λ e.
          let same : n ≡ i = grind (arith, nat_tests) in
          subst (λ m. Q m x y) (sym same) (subst (λ z. Q i x z) (some_same b y (sym (slice_get-set_same bs i b within) ∙ ap (slice_get (set bs i b)) (sym same) ∙ is))
          (subst (λ z. Q i z b) (some_same a x (sym at ∙ ap (slice_get xs) (sym same) ∙ there)) here))
      | false ↦ λ e.
          let other : n ≢ i = grind (arith, nat_tests) in
          others n x y other (each n x y there (sym (slice_get-set_other bs i n b other) ∙ is))
    ] refl

-- a tree before or from a place on, when the place goes on by one
so-later : {A : Type 0} (k n : ℕ) (x y : A) → n ≢ k → so_far (k + 1) n x y ≡ so_far k n x y
so-later k n x y other = ap (λ b. if b then x else y) (let e : nat_lt n (k + 1) ≡ nat_lt n k = grind (arith, nat_tests) in e)

so-here : {A : Type 0} (k : ℕ) (x y : A) → so_far (k + 1) k x y ≡ x
so-here k x y = ap (λ b. if b then x else y) (let e : nat_lt k (k + 1) ≡ true = grind (arith, nat_tests) in e)

pub so-none : {A : Type 0} (n : ℕ) (x y : A) → so_far 0 n x y ≡ y
so-none n x y = ap (λ b. if b then x else y) (let e : nat_lt n 0 ≡ false = grind (arith, nat_tests) in e)

so-before : {A : Type 0} (k : ℕ) (x y : A) → so_far k k x y ≡ y
so-before k x y = ap (λ b. if b then x else y) (let e : nat_lt k k ≡ false = grind (arith, nat_tests) in e)

pub so-all : {A : Type 0} (k n : ℕ) (x y : A) → n < k → so_far k n x y ≡ x
so-all k n x y l = ap (λ b. if b then x else y) (let e : nat_lt n k ≡ true = grind (arith, nat_tests) in e)

module _ (shard : Columns) (aggs : List Agg) (tops : List TopTree) (place : ℕ) (a : Agg) (old new : TopTree) (within : place < length tops) (at : slice_get aggs place ≡ Some a) (there : slice_get tops place ≡ Some old) where
  -- one more tree has the root
  pub set-nodes : (f before : Agg → Node) → top_node shard new ≡ f a → AreNodes shard aggs (λ n b. so_far place n (f b) (before b)) tops
      → AreNodes shard aggs (λ n b. so_far (place + 1) n (f b) (before b)) (set tops place new)
  set-nodes f before is nodes =
      each-set (λ n b t. top_node shard t ≡ so_far place n (f b) (before b)) (λ n b t. top_node shard t ≡ so_far (place + 1) n (f b) (before b)) aggs tops place a new within at
      (is ∙ sym (so-here place (f a) (before a))) (λ n b t other h. h ∙ sym (so-later place n (f b) (before b) other)) nodes

  pub set-ready : IsTopFor shard a new → AreTopsFor shard aggs tops → AreTopsFor shard aggs (set tops place new)
  set-ready is ready = record {
    count = length-set tops place new ∙ ready.count;
    each = each-set (λ n b t. IsTopFor shard b t) (λ n b t. IsTopFor shard b t) aggs tops place a new within at is (λ n b t other h. h) ready.each;
  }

  -- the tree at the place before
  pub node-before : (f before : Agg → Node) → AreNodes shard aggs (λ n b. so_far place n (f b) (before b)) tops → top_node shard old ≡ before a
  node-before f before nodes = nodes place a old at there ∙ so-before place (f a) (before a)

-- what holds of a result that is no error
pub on-ok : {A E : Type 0} {P : Type 0} (r : Result A E) → is_err r ≡ false → OnOk r P → P
on-ok (Ok x) e h = h
on-ok (Err x) e h = absurd (false≢true (sym e))
