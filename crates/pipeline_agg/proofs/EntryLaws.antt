-- Entries of an object: what is said of remarks, entries in order, and entries of tellers one after another.
use Rattle.std.specs.Prelude.{◌≡◌, refl, ℕ, zero, suc, ℤ, pos, IsTrue, ◌<◌, ◌+◌, ◌==◌, Bool, true, false, cond, List, [], ◌∷◌, ◌++◌, map, take, drop, length, Option, Some, None}
use Rattle.std.specs.List.{All, AllByRecursion}
use Rattle.std.specs.declared.cmp.Ordering.{Ordering}
use Rattle.std.specs.Ordering.{is_le}
use Rattle.std.specs.Cmp.{IsTotalOrder}
use Rattle.std.proofs.Common.{◌∙◌, ap, subst, sym, arith, get_or, set}
use Rattle.std.proofs.lemmas.List.{append_assoc, drop_more, drop-set-lt, get_or-set_same, length-set, map-append, take-set, take_more}
use Rattle.std.proofs.lemmas.Bool.Decides.{nat_tests}
use Rattle.std.proofs.lemmas.Cmp.{on_total, nat_list_cmp_total}
use Rattle.agg_model.specs.declared.pipeline.Pipe.{Pipe}
use Rattle.agg_model.specs.declared.pipeline.PipeKind.{PipeKind}
use Rattle.agg_model.specs.declared.pipeline.PipeKind.TheVariants as pipe
use Rattle.agg_model.specs.declared.aggregation.Agg.{Agg}
use Rattle.agg_model.specs.declared.aggregation.Kind.{Kind}
use Rattle.agg_model.specs.declared.answer.BucketAnswer.{BucketAnswer, out-BucketAnswer}
use Rattle.agg_model.specs.declared.answer.NodeAnswer.{NodeAnswer}
use Rattle.agg_spec.specs.Notes.{piper}
use Rattle.agg_spec.specs.Remarks.{Piper, Remark, are_no_places, pipes_here, sibling_says}
use Rattle.list_laws.proofs.Lists.{append-nil}
use Rattle.agg_spec.specs.RangeCheck.{is_in_range}
use Rattle.bucket_order.specs.Kinds.{child_kinds}
use Rattle.pipeline_agg.specs.Bounds.{is_small}
use Rattle.pipeline_agg.specs.Parents.{IsSmall, next_says}
use Rattle.pipeline_agg.specs.declared.parents.Running.{Running}
use Rattle.pipeline_agg.specs.Placed.{pipe_of, pipes_of}
use Rattle.pipeline_agg.specs.declared.placed.Placed.{Placed}
use Rattle.list_laws.specs.Sorting.{insert_sorted, sorted}
use Rattle.pipeline_agg.specs.Entries.{AreFit, View, all_small, beginning, entry_cmp, entry_of_teller, said_of, teller_of, top_entry, view_of}
use Rattle.pipeline_agg.specs.Told.{IsFit, IsSaid}
use Rattle.pipeline_agg.specs.declared.entries.Entry.{Entry}
use Rattle.pipeline_agg.specs.declared.entries.Teller.{Teller}
use Rattle.pipeline_agg.specs.declared.remarked.Said.{Said}
use Rattle.pipeline_agg.specs.declared.remarked.Said.TheVariants as said

pub said-is : (remarks : List Remark) (s : Said) → IsSaid remarks s → s ≡ said_of remarks remarks
said-is remarks (said.Notes notes) h = let none = h.0 in let are = h.1 in cc (none, are)
said-is remarks (said.Wide path) h = cc (h)

pub entry_total : IsTotalOrder (λ (a b : Entry). entry_cmp (view_of a) (view_of b))
entry_total = on_total (λ (e : Entry). (view_of e).0) nat_list_cmp_total

module _ {A B : Type 0} (f : A → B) (R : B → B → Ordering) where
  map-insert : (x : A) (ys : List A) → map f (insert_sorted (λ a b. R (f a) (f b)) x ys) ≡ insert_sorted R (f x) (map f ys)
  map-insert x [] = refl
  map-insert x (y ∷ ys) = elim (is_le (R (f x) (f y))) as (λ b. map f (cond b (x ∷ y ∷ ys) (y ∷ insert_sorted (λ a b. R (f a) (f b)) x ys)) ≡ cond b (f x ∷ f y ∷ map f ys) (f y ∷ insert_sorted R (f x) (map f ys))) [
    | true ↦ refl
    | false ↦ ap (λ zs. f y ∷ zs) (map-insert x ys)
  ]

  -- sorted by what they are mapped to
  pub map-sorted : (xs : List A) → map f (sorted (λ a b. R (f a) (f b)) xs) ≡ sorted R (map f xs)
  map-sorted [] = refl
  map-sorted (x ∷ xs) = map-insert x (sorted (λ a b. R (f a) (f b)) xs) ∙ ap (insert_sorted R (f x)) (map-sorted xs)

-- entries that all fit
pub fit-front : (xs ys : List View) → AreFit (xs ++ ys) → AreFit xs
fit-front [] ys h = tt
fit-front (x ∷ xs) ys h = (h.0, fit-front xs ys h.1)

pub fit-back : (xs ys : List View) → AreFit (xs ++ ys) → AreFit ys
fit-back [] ys h = h
fit-back (x ∷ xs) ys h = fit-back xs ys h.1

pub drop-more : {A : Type 0} (xs : List A) (i : ℕ) (x : A) → i < length xs → x ≡ get_or xs i x → drop i xs ≡ x ∷ drop (i + 1) xs
drop-more xs i x within is = drop_more xs i x within ∙ ap (λ y. y ∷ drop (i + 1) xs) (sym is)

-- the pipelines of an object itself that are left, from a place on
module _ {B : Type 0} (f : Pipe → B) (ps : List Placed) (i : ℕ) (p : Placed) (within : i < length ps) (is : p ≡ get_or ps i p) where
  left : map f (pipes_here (pipes_of (drop i ps))) ≡ map f (pipes_here (pipe_of p ∷ pipes_of (drop (i + 1) ps)))
  left = ap (λ qs. map f (pipes_here (pipes_of qs))) (drop-more ps i p within is)

  pub here-more : are_no_places p.at.now ≡ true → map f (pipes_here (pipes_of (drop i ps))) ≡ f (pipe_of p) ∷ map f (pipes_here (pipes_of (drop (i + 1) ps)))
  here-more here = left ∙ ap (λ b. map f (cond b (pipe_of p ∷ pipes_here (pipes_of (drop (i + 1) ps))) (pipes_here (pipes_of (drop (i + 1) ps))))) here

  pub here-less : are_no_places p.at.now ≡ false → map f (pipes_here (pipes_of (drop i ps))) ≡ map f (pipes_here (pipes_of (drop (i + 1) ps)))
  here-less away = left ∙ ap (λ b. map f (cond b (pipe_of p ∷ pipes_here (pipes_of (drop (i + 1) ps))) (pipes_here (pipes_of (drop (i + 1) ps))))) away

pub no-places : (at : List ℕ) → are_no_places at ≡ (length at == 0)
no-places [] = refl
no-places (i ∷ at) = let e : (suc (length at) == 0) ≡ false = grind (arith, nat_tests) in sym e

-- one more item, and what is left
pub push-step : {A B : Type 0} (f : A → B) (old new : List A) (x : A) (rest ahead total : List B) → new ≡ old ++ x ∷ [] → ahead ≡ f x ∷ rest → map f old ++ ahead ≡ total
    → map f new ++ rest ≡ total
push-step f old new x rest ahead total more is held =
    ap (λ xs. map f xs ++ rest) more ∙ ap (λ ys. ys ++ rest) (map-append f old (x ∷ [])) ∙ append_assoc (map f old) (f x ∷ []) rest ∙ ap (λ zs. map f old ++ zs) (sym is) ∙ held

-- what a pipeline says does not depend on its places
pub sibling-placed : (aggs : List Piper) (nodes : List NodeAnswer) (p : Pipe) (at : List ℕ) (k : PipeKind) → sibling_says aggs nodes (record p { at = at }) k ≡ sibling_says aggs nodes p k
sibling-placed aggs nodes p at (pipe.CumulativeSum path) = refl
sibling-placed aggs nodes p at (pipe.Derivative path) = refl
sibling-placed aggs nodes p at (pipe.SumBucket i path) = refl
sibling-placed aggs nodes p at (pipe.MinBucket i path) = refl
sibling-placed aggs nodes p at (pipe.MaxBucket i path) = refl
sibling-placed aggs nodes p at (pipe.BucketSort sort start size) = refl

pub next-placed : (kinds : List Kind) (p : Pipe) (at : List ℕ) (k : PipeKind) (b : BucketAnswer) (r : Running) → next_says kinds (record p { at = at }) k b r ≡ next_says kinds p k b r
next-placed kinds p at (pipe.CumulativeSum path) b r = refl
next-placed kinds p at (pipe.Derivative path) b r = refl
next-placed kinds p at (pipe.SumBucket i path) b r = refl
next-placed kinds p at (pipe.MinBucket i path) b r = refl
next-placed kinds p at (pipe.MaxBucket i path) b r = refl
next-placed kinds p at (pipe.BucketSort sort start size) b r = refl

pub top-is : (aggs : List Agg) (nodes : List NodeAnswer) (p : Placed) (s : Said) → IsSaid (sibling_says (map piper aggs) nodes p.pipe.now p.pipe.now.kind) s
    → (p.pipe.now.name, s) ≡ top_entry aggs nodes (pipe_of p)
top-is aggs nodes p s h =
    let says = sibling-placed (map piper aggs) nodes p.pipe.now p.at.now p.pipe.now.kind in
    ap (λ x. (p.pipe.now.name, x)) (said-is (sibling_says (map piper aggs) nodes p.pipe.now p.pipe.now.kind) s h)
    ∙ ap (λ rs. (p.pipe.now.name, said_of rs rs)) (sym (append-nil (sibling_says (map piper aggs) nodes (pipe_of p) p.pipe.now.kind) ∙ says))

pub beginning-is : (p : Pipe) (r : Running) → r.sum ≡ pos 0 → r.before ≡ None → (p, r) ≡ beginning p
beginning-is p r sum before = λ i. (p, record { sum = sum i; before = before i })

-- a list with another item at a place
take-set-more : {A : Type 0} (xs : List A) (i : ℕ) (x : A) → i < length xs → take (i + 1) (set xs i x) ≡ take i xs ++ x ∷ []
take-set-more xs i x within =
    take_more (set xs i x) i x (let e = length-set xs i x in omega (arith, e, within)) ∙ (λ k. take-set xs i x k ++ get_or-set_same xs i x x within k ∷ [])

-- Tellers that are asked one after another: so many are moved on, the others are as they were.
module _ (children : List Agg) (b : BucketAnswer) (olds now : List Teller) (i : ℕ) (t : Teller) (within : i < length now) (is : t ≡ get_or now i t) (as-were : drop i now ≡ drop i olds)
    (long : length now ≡ length olds) where
  both : t ∷ drop (i + 1) now ≡ get_or olds i t ∷ drop (i + 1) olds
  both = sym (drop-more now i t within is) ∙ as-were ∙ drop_more olds i t (subst (λ n. i < n) long within)

  pub was : t ≡ get_or olds i t
  was = first both where
    first : {x y : Teller} {xs ys : List Teller} → x ∷ xs ≡ y ∷ ys → x ≡ y
    first e = cc (e)

  pub later : drop (i + 1) now ≡ drop (i + 1) olds
  later = rest both where
    rest : {x y : Teller} {xs ys : List Teller} → x ∷ xs ≡ y ∷ ys → xs ≡ ys
    rest e = cc (e)

  asked : take (i + 1) olds ≡ take i olds ++ t ∷ []
  asked = take_more olds i t (subst (λ n. i < n) long within) ∙ ap (λ x. take i olds ++ x ∷ []) (sym was)

  -- what is made of those that were asked
  pub made : {B : Type 0} (f : Pipe × Running → B) (ys zs : List B) (y : B) → ys ≡ map f (map teller_of (take i olds)) → y ≡ f (teller_of t) → zs ≡ ys ++ y ∷ []
      → zs ≡ map f (map teller_of (take (i + 1) olds))
  made f ys zs y before here more =
      more ∙ ap (λ xs. xs ++ y ∷ []) before ∙ ap (λ x. map f (map teller_of (take i olds)) ++ x ∷ []) here
      ∙ sym (ap (λ ts. map f (map teller_of ts)) asked ∙ ap (map f) (map-append teller_of (take i olds) (t ∷ [])) ∙ map-append f (map teller_of (take i olds)) (teller_of t ∷ []))

  module _ (new : Teller) where
    pub moved : take (i + 1) (set now i new) ≡ take i now ++ new ∷ []
    moved = take-set-more now i new within

    pub left-over : drop (i + 1) (set now i new) ≡ drop (i + 1) olds
    left-over = drop-set-lt (i + 1) now i new (let less : i < i + 1 = omega (arith) in less) ∙ later

pub alone-small : (t : Teller) → IsSmall t.running → all_small (t ∷ [])
alone-small t small zero d within = small
alone-small t small (suc k) d within = absurd (omega (arith, within))

-- nothing was added up, and there was no value
pub start-small : (r : Running) → r.sum ≡ pos 0 → r.before ≡ None → IsSmall r
start-small r sum before = (subst (λ (n : ℤ). IsTrue (is_in_range n)) (sym sum) (let e : is_in_range (pos 0) ≡ true = refl in e), subst (λ (v : Option ℤ). IsTrue (is_small v)) (sym before) (let e : is_small None ≡ true = refl in e))

pub told-is : (children : List Agg) (b : BucketAnswer) (t : Teller) (s : Said)
    → IsSaid (sibling_says (map piper children) (out-BucketAnswer b).children t.placed.pipe.now t.placed.pipe.now.kind ++ next_says (child_kinds children) t.placed.pipe.now t.placed.pipe.now.kind b t.running) s
    → (t.placed.pipe.now.name, s) ≡ entry_of_teller children b (teller_of t)
told-is children b t s h =
    let p = t.placed.pipe.now in
    let at = t.placed.at.now in
    let sibling = sibling-placed (map piper children) (out-BucketAnswer b).children p at p.kind in
    let next = next-placed (child_kinds children) p at p.kind b t.running in
    let says : sibling_says (map piper children) (out-BucketAnswer b).children p p.kind ++ next_says (child_kinds children) p p.kind b t.running
    ≡ sibling_says (map piper children) (out-BucketAnswer b).children (pipe_of t.placed) p.kind ++ next_says (child_kinds children) (pipe_of t.placed) p.kind b t.running =
    λ i. sym sibling i ++ sym next i in
    ap (λ x. (p.name, x)) (said-is (sibling_says (map piper children) (out-BucketAnswer b).children (pipe_of t.placed) p.kind ++ next_says (child_kinds children) (pipe_of t.placed) p.kind b t.running) s (subst (λ (rs : List Remark). IsSaid rs s) says h))
