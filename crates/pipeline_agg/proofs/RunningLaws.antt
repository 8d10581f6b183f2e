-- What a pipeline keeps from bucket to bucket, and what a parent says by it.
use Rattle.std.specs.Prelude.{◌≡◌, refl, ℕ, zero, suc, ℤ, pos, ◌+◌, ◌+ℤ◌, ◌<◌, Bool, true, false, List, [], ◌∷◌, ◌++◌, map, take, drop, fold, filter, length, slice_get, Option, Some, None, option_to_list, unwrap_or}
use Rattle.std.proofs.Common.{◌∙◌, sym, ap, arith}
use Rattle.std.proofs.lemmas.Int.{ints}
use Rattle.agg_model.specs.declared.aggregation.Agg.{Agg}
use Rattle.agg_model.specs.declared.aggregation.Kind.{Kind}
use Rattle.agg_model.specs.declared.answer.BucketAnswer.{BucketAnswer, out-BucketAnswer}
use Rattle.agg_model.specs.declared.pipeline.Pipe.{Pipe}
use Rattle.agg_model.specs.declared.pipeline.PipeKind.{PipeKind}
use Rattle.agg_model.specs.declared.pipeline.PipeKind.TheVariants as pipe
use Rattle.agg_model.specs.declared.pipeline.PipePath.{PipePath}
use Rattle.agg_spec.specs.Notes.{piper}
use Rattle.agg_spec.specs.Pipelines.{cumulative_sum_at, derivative_at, difference, sum_of_values, value_at, value_of_place, values_of}
use Rattle.agg_spec.specs.Remarks.{Remark, parent_says, remark_of, sibling_says}
use Rattle.bucket_order.specs.Kinds.{child_kinds}
use Rattle.pipeline_agg.specs.Entries.{entry_of_teller, moved_on, pipe_entry}
use Rattle.pipeline_agg.specs.Parents.{next_running, next_says}
use Rattle.pipeline_agg.specs.declared.parents.Running.{Running}
use Rattle.pipeline_agg.proofs.ValueLaws.{sum-more}
use Rattle.pipeline_agg.proofs.SiblingLaws.{kinds-of}

-- in front of the first bucket
abbrev pub start : Running
start = record { sum = pos 0; before = None }

-- behind some buckets
abbrev pub ran : List Kind → PipeKind → List BucketAnswer → Running
ran kinds k bs = fold (λ r b. next_running kinds k b r) start bs

module _ {A B : Type 0} (f : B → A → B) where
  pub fold-snoc : (xs : List A) (x : A) (y : B) → fold f y (xs ++ x ∷ []) ≡ f (fold f y xs) x
  fold-snoc [] x y = refl
  fold-snoc (z ∷ xs) x y = fold-snoc xs x (f y z)

pub ran-more : (kinds : List Kind) (k : PipeKind) (bs : List BucketAnswer) (b : BucketAnswer) → ran kinds k (bs ++ b ∷ []) ≡ next_running kinds k b (ran kinds k bs)
ran-more kinds k bs b = fold-snoc (λ (r : Running) (c : BucketAnswer). next_running kinds k c r) bs b start

module _ (kinds : List Kind) (at : PipePath) where
  -- the sum that is kept is that of all values
  sums : (bs : List BucketAnswer) (r : Running) → (fold (λ s b. next_running kinds (pipe.CumulativeSum at) b s) r bs).sum ≡ r.sum +ℤ sum_of_values (values_of kinds at bs)
  sums [] r = omega (arith, ints)
  sums (b ∷ bs) r = sums bs (next_running kinds (pipe.CumulativeSum at) b r) ∙ plus (value_at kinds at b) r.sum (values_of kinds at bs) where
    plus : (v : Option ℤ) (n : ℤ) (vs : List (Option ℤ)) → (n +ℤ unwrap_or v (pos 0)) +ℤ sum_of_values vs ≡ n +ℤ sum_of_values (v ∷ vs)
    plus None n vs = omega (arith, ints)
    plus (Some m) n vs = omega (arith, ints)

  pub sum-kept : (bs : List BucketAnswer) → (ran kinds (pipe.CumulativeSum at) bs).sum ≡ sum_of_values (values_of kinds at bs)
  sum-kept bs = sums bs start ∙ zero-plus (sum_of_values (values_of kinds at bs)) where
    zero-plus : (n : ℤ) → pos 0 +ℤ n ≡ n
    zero-plus n = omega (arith, ints)

  -- the values up to the one behind some buckets
  front-values : (before : List BucketAnswer) (b : BucketAnswer) (behind : List BucketAnswer) → take (length before + 1) (values_of kinds at (before ++ b ∷ behind)) ≡ values_of kinds at before ++ value_at kinds at b ∷ []
  front-values [] b behind = refl
  front-values (c ∷ before) b behind =
      let more : suc (length before) + 1 ≡ suc (length before + 1) = omega (arith) in
      ap (λ n. take n (values_of kinds at ((c ∷ before) ++ b ∷ behind))) more ∙ ap (λ vs. value_at kinds at c ∷ vs) (front-values before b behind)

  place-value : (before : List BucketAnswer) (b : BucketAnswer) (behind : List BucketAnswer) → value_of_place (values_of kinds at (before ++ b ∷ behind)) (length before) ≡ value_at kinds at b
  place-value [] b behind = refl
  place-value (c ∷ before) b behind = place-value before b behind

  -- the value at the place before, and another one in front of the first
  abbrev one-before : Option ℤ → List (Option ℤ) → ℕ → Option ℤ
  one-before v vs zero = v
  one-before v vs (suc i) = value_of_place vs i

  one-before-cons : (v w : Option ℤ) (vs : List (Option ℤ)) (i : ℕ) → one-before v vs i ≡ one-before w (v ∷ vs) (suc i)
  one-before-cons v w vs zero = refl
  one-before-cons v w vs (suc i) = refl

  last-kept : (before rest : List BucketAnswer) (r : Running)
      → (fold (λ s b. next_running kinds (pipe.Derivative at) b s) r before).before ≡ one-before r.before (values_of kinds at (before ++ rest)) (length before)
  last-kept [] rest r = refl
  last-kept (c ∷ before) rest r =
      last-kept before rest (next_running kinds (pipe.Derivative at) c r) ∙ one-before-cons (value_at kinds at c) r.before (values_of kinds at (before ++ rest)) (length before)

  no-difference : (v : Option ℤ) → difference v None ≡ None
  no-difference None = refl
  no-difference (Some n) = refl

  derivative-is : (vs : List (Option ℤ)) (i : ℕ) → difference (value_of_place vs i) (one-before None vs i) ≡ derivative_at vs i
  derivative-is vs zero = no-difference (value_of_place vs 0)
  derivative-is vs (suc i) = refl

  pub sum-here : (before : List BucketAnswer) (b : BucketAnswer) (behind : List BucketAnswer)
      → (ran kinds (pipe.CumulativeSum at) before).sum +ℤ unwrap_or (value_at kinds at b) (pos 0) ≡ cumulative_sum_at (values_of kinds at (before ++ b ∷ behind)) (length before)
  sum-here before b behind =
      ap (λ n. n +ℤ unwrap_or (value_at kinds at b) (pos 0)) (sum-kept before) ∙ sym (sum-more (values_of kinds at before) (value_at kinds at b))
      ∙ ap sum_of_values (sym (front-values before b behind))

  pub change-here : (before : List BucketAnswer) (b : BucketAnswer) (behind : List BucketAnswer)
      → difference (value_at kinds at b) (ran kinds (pipe.Derivative at) before).before ≡ derivative_at (values_of kinds at (before ++ b ∷ behind)) (length before)
  change-here before b behind =
      (λ i. difference (sym (place-value before b behind) i) (last-kept before (b ∷ behind) start i)) ∙ derivative-is (values_of kinds at (before ++ b ∷ behind)) (length before)

-- what a parent says behind some buckets is what it says at their number
pub parent-next : (kinds : List Kind) (p : Pipe) (k : PipeKind) (before : List BucketAnswer) (b : BucketAnswer) (behind : List BucketAnswer)
    → next_says kinds p k b (ran kinds k before) ≡ parent_says kinds (before ++ b ∷ behind) (length before) p k
parent-next kinds p (pipe.CumulativeSum at) before b behind = ap (λ n. remark_of p (Some n) [] ∷ []) (sum-here kinds at before b behind)
parent-next kinds p (pipe.Derivative at) before b behind = ap (λ d. map (λ n. remark_of p (Some n) []) (option_to_list d)) (change-here kinds at before b behind)
parent-next kinds p (pipe.SumBucket i at) before b behind = refl
parent-next kinds p (pipe.MinBucket i at) before b behind = refl
parent-next kinds p (pipe.MaxBucket i at) before b behind = refl
parent-next kinds p (pipe.BucketSort sort first size) before b behind = refl

-- each pipeline behind some buckets
abbrev pub standing : List Kind → List BucketAnswer → Pipe → Pipe × Running
standing kinds before p = (p, ran kinds p.kind before)

pub all-moved : (kinds : List Kind) (before : List BucketAnswer) (b : BucketAnswer) (ps : List Pipe)
    → map (moved_on kinds b) (map (standing kinds before) ps) ≡ map (standing kinds (before ++ b ∷ [])) ps
all-moved kinds before b [] = refl
all-moved kinds before b (p ∷ ps) = λ i. (p, sym (ran-more kinds p.kind before b) i) ∷ all-moved kinds before b ps i

-- what the pipelines of a bucket's object say at its place
abbrev pub bucket_says : List Agg → List BucketAnswer → ℕ → BucketAnswer → Pipe → List Remark
bucket_says children buckets place b p =
    sibling_says (map piper children) (out-BucketAnswer b).children p p.kind ++ parent_says (map (λ c. c.kind) (map piper children)) buckets place p p.kind

pub all-say : (children : List Agg) (before : List BucketAnswer) (b : BucketAnswer) (behind : List BucketAnswer) (ps : List Pipe)
    → map (entry_of_teller children b) (map (standing (child_kinds children) before) ps) ≡ map (λ p. pipe_entry p (bucket_says children (before ++ b ∷ behind) (length before) b p)) ps
all-say children before b behind [] = refl
all-say children before b behind (p ∷ ps) =
    let sibling = sibling_says (map piper children) (out-BucketAnswer b).children p p.kind in
    let parent : next_says (child_kinds children) p p.kind b (ran (child_kinds children) p.kind before) ≡ parent_says (map (λ c. c.kind) (map piper children)) (before ++ b ∷ behind) (length before) p p.kind =
    parent-next (child_kinds children) p p.kind before b behind ∙ ap (λ kinds. parent_says kinds (before ++ b ∷ behind) (length before) p p.kind) (sym (kinds-of children)) in
    λ i. pipe_entry p (sibling ++ parent i) ∷ all-say children before b behind ps i
