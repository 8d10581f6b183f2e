-- Metrics of several lists, added up.
use Rattle.std.specs.Prelude.{◌≡◌, refl, ℤ, ◌+ℤ◌, List, [], ◌∷◌, ◌++◌, map, filter_map, flat_map, sum_by, Option, Some, None}
use Rattle.std.specs.List.{reduce, fold, cons_option}
use Rattle.std.specs.Int.{int_min, int_max}
use Rattle.std.proofs.Common.{sym, ◌∙◌, ap, arith}
use Rattle.std.proofs.lemmas.Int.{ints, clamps}
use Rattle.std.proofs.lemmas.List.Sums.{sum_by-cons, fold-append}
use Rattle.agg_model.specs.declared.partial.Metric.{Metric}
use Rattle.agg_evaluation.specs.Shard.{int_sum}
use Rattle.agg_evaluation.specs.Whole.{metric_sum}
use Rattle.list_laws.proofs.Lists.{append-nil, filter_map-flat_map, sum_by-flat_map, map-flat_map}

module _ {A : Type 0} (f : A → A → A) (assoc : (a b c : A) → f (f a b) c ≡ f a (f b c)) where
  -- two results as one
  abbrev pub join : Option A → Option A → Option A
  join None y = y
  join (Some a) None = Some a
  join (Some a) (Some b) = Some (f a b)

  fold-first : (a b : A) (xs : List A) → fold f (f a b) xs ≡ f a (fold f b xs)
  fold-first a b [] = refl
  fold-first a b (x ∷ xs) = ap (λ c. fold f c xs) (assoc a b x) ∙ fold-first a (f b x) xs

  pub reduce-append : (xs ys : List A) → reduce f (xs ++ ys) ≡ join (reduce f xs) (reduce f ys)
  reduce-append [] ys = refl
  reduce-append (x ∷ xs) [] = ap (λ zs. Some (fold f x zs)) (append-nil xs)
  reduce-append (x ∷ xs) (y ∷ ys) = ap Some (fold-append f x xs (y ∷ ys) ∙ fold-first (fold f x xs) y ys)

  reduce-option : (o : Option A) → reduce f (cons_option o []) ≡ o
  reduce-option None = refl
  reduce-option (Some a) = refl

  pub reduce-groups : {X : Type 0} (values : X → List A) (xs : List X) → reduce f (flat_map (λ x. cons_option (reduce f (values x)) []) xs) ≡ reduce f (flat_map values xs)
  reduce-groups values [] = refl
  reduce-groups values (x ∷ xs) =
      reduce-append (cons_option (reduce f (values x)) []) (flat_map (λ x. cons_option (reduce f (values x)) []) xs)
      ∙ ap (λ o. join o (reduce f (flat_map (λ x. cons_option (reduce f (values x)) []) xs))) (reduce-option (reduce f (values x)))
      ∙ ap (join (reduce f (values x))) (reduce-groups values xs)
      ∙ sym (reduce-append (values x) (flat_map values xs))

  module _ (comm : (a b : A) → f a b ≡ f b a) where
    pub join_comm : (x y : Option A) → join x y ≡ join y x
    join_comm None None = refl
    join_comm None (Some b) = refl
    join_comm (Some a) None = refl
    join_comm (Some a) (Some b) = ap Some (comm a b)

pub min_assoc : (a b c : ℤ) → int_min (int_min a b) c ≡ int_min a (int_min b c)
min_assoc a b c = omega (arith, ints, clamps)

pub max_assoc : (a b c : ℤ) → int_max (int_max a b) c ≡ int_max a (int_max b c)
max_assoc a b c = omega (arith, ints, clamps)

pub min_comm : (a b : ℤ) → int_min a b ≡ int_min b a
min_comm a b = omega (arith, ints, clamps)

pub max_comm : (a b : ℤ) → int_max a b ≡ int_max b a
max_comm a b = omega (arith, ints, clamps)

pub int_sum-append : (ms ns : List ℤ) → int_sum (ms ++ ns) ≡ int_sum ms +ℤ int_sum ns
int_sum-append [] ns = omega (arith, ints)
int_sum-append (m ∷ ms) ns = let rest = int_sum-append ms ns in omega (arith, ints)

int_sum-groups : {X : Type 0} (values : X → List ℤ) (xs : List X) → int_sum (flat_map (λ x. int_sum (values x) ∷ []) xs) ≡ int_sum (flat_map values xs)
int_sum-groups values [] = refl
int_sum-groups values (x ∷ xs) =
    let rest = int_sum-groups values xs in
    let both = int_sum-append (values x) (flat_map values xs) in
    omega (arith, ints)

module _ {X : Type 0} (metrics : X → List Metric) where
  abbrev sums : List X → List Metric
  sums xs = flat_map (λ x. metric_sum (metrics x) ∷ []) xs

  -- the sum of sums is the sum of all
  pub metric_sum-groups : (xs : List X) → metric_sum (flat_map (λ x. metric_sum (metrics x) ∷ []) xs) ≡ metric_sum (flat_map metrics xs)
  metric_sum-groups xs =
      let single = λ (x : X). sum_by-cons (λ (m : Metric). m.count) (metric_sum (metrics x)) [] in
      let one : (x : X) → sum_by (λ m. m.count) (metric_sum (metrics x) ∷ []) ≡ sum_by (λ m. m.count) (metrics x) = (λ x. let e = single x in omega arith) in
      let counts = sum_by-flat_map (λ m. m.count) (λ x. metric_sum (metrics x) ∷ []) xs ∙ (λ i. sum_by (λ x. one x i) xs) ∙ sym (sum_by-flat_map (λ m. m.count) metrics xs) in
      let totals = ap int_sum (map-flat_map (λ m. m.sum) (λ x. metric_sum (metrics x) ∷ []) xs) ∙ int_sum-groups (λ x. map (λ m. m.sum) (metrics x)) xs ∙ ap int_sum (sym (map-flat_map (λ m. m.sum) metrics xs)) in
      let least = ap (reduce int_min) (filter_map-flat_map (λ m. m.least) (λ x. metric_sum (metrics x) ∷ []) xs) ∙ reduce-groups int_min min_assoc (λ x. filter_map (λ m. m.least) (metrics x)) xs ∙ ap (reduce int_min) (sym (filter_map-flat_map (λ m. m.least) metrics xs)) in
      let greatest = ap (reduce int_max) (filter_map-flat_map (λ m. m.greatest) (λ x. metric_sum (metrics x) ∷ []) xs) ∙ reduce-groups int_max max_assoc (λ x. filter_map (λ m. m.greatest) (metrics x)) xs ∙ ap (reduce int_max) (sym (filter_map-flat_map (λ m. m.greatest) metrics xs)) in
      λ i. (record { count = counts i; sum = totals i; least = least i; greatest = greatest i })
