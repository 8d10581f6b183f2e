-- Lists of the ceilings of tasks.
use Rattle.std.specs.Prelude.{◌≡◌, refl, ℕ, zero, suc, ◌+◌, ◌<◌, Bool, true, false, ◌&&◌, List, [], ◌∷◌, ◌++◌, Option, Some, Result, Ok, IfOk, flat_map, length, map, take, slice_get, slice_index_or}
use Rattle.std.specs.List.{list_all}
use Rattle.std.proofs.Common.{sym, ◌∙◌, ap, subst, arith, append_assoc}
use Rattle.list_laws.proofs.Lists.{append-nil}
use Rattle.agg_cost.proofs.Summing.{here, take-next}
use Rattle.agg_cost.specs.Searches.{task_ceilings}
use Rattle.agg_evaluation.specs.Ceiling.{ceiling}
use Rattle.agg_evaluation.specs.Rows.{PlacedRow}
use Rattle.agg_model.specs.declared.aggregation.Search.{Search}
use Rattle.agg_model.specs.declared.mapping.FieldKind.{FieldKind}
use Rattle.shard_columns.specs.Columns.{Columns}
use Rattle.shard_columns.specs.Index.{rows_by_shard}

-- the shard at a place
pub at-place : (shards items : List Columns) (i : ℕ) (s : Columns) → items ≡ shards → i < length shards → s ≡ slice_index_or items i s → slice_get shards i ≡ Some s
at-place shards items i s same below is = subst (λ (xs : List Columns). slice_get xs i ≡ Some s) same (here items i s (subst (λ (xs : List Columns). i < length xs) (sym same) below) is)

-- its rows
pub rows-at : (shards : List Columns) (i : ℕ) (s : Columns) → slice_get shards i ≡ Some s → slice_index_or (rows_by_shard shards) i [] ≡ s.rows
rows-at [] zero s e = absurd (let no : ⊥ = cc in no)
rows-at [] (suc i) s e = absurd (let no : ⊥ = cc in no)
rows-at (x ∷ xs) zero s e = let same : x ≡ s = cc in ap (λ (c : Columns). c.rows) same
rows-at (x ∷ xs) (suc i) s e = rows-at xs i s e

pub as-many : (shards : List Columns) → length (rows_by_shard shards) ≡ length shards
as-many [] = refl
as-many (x ∷ xs) = ap suc (as-many xs)

-- where the call at each place gave what f gives there, all that they gave is f of all
module _ {A B E : Type 0} (f : A → B) (e : A) where
  abbrev ok : B → Result B E
  ok b = Ok b

  pub each-of : (xs : List A) (all : List B) → length (map ok all) ≡ length xs
      → ((i : ℕ) (d : Result B E) → i < length xs → IfOk (slice_index_or (map ok all) i d) (λ c. c ≡ f (slice_index_or xs i e))) → all ≡ map f xs
  each-of [] [] n each = refl
  each-of [] (b ∷ all) n each = absurd (omega arith)
  each-of (x ∷ xs) [] n each = absurd (omega arith)
  each-of (x ∷ xs) (b ∷ all) n each =
      let first : b ≡ f x = each 0 (ok b) (omega arith) in
      let rest : all ≡ map f xs = each-of xs all (omega arith) (λ i d below. each (suc i) d (omega arith)) in
      λ k. first k ∷ rest k

flat-next : {A B : Type 0} (f : A → List B) (xs : List A) (x : A) → flat_map f (xs ++ x ∷ []) ≡ flat_map f xs ++ f x
flat-next f [] x = append-nil (f x)
flat-next f (y ∷ ys) x = ap (λ rest. f y ++ rest) (flat-next f ys x) ∙ sym (append_assoc (f y) (flat_map f ys) (f x))

-- the tasks of one search more
pub next-search : (kinds : List FieldKind) (searches : List Search) (rows : List (List PlacedRow)) (i : ℕ) (s : Search) (all more : List (Option ℕ)) → slice_get searches i ≡ Some s
    → all ≡ task_ceilings kinds (take i searches) rows → more ≡ map (ceiling kinds s) rows → all ++ more ≡ task_ceilings kinds (take (i + 1) searches) rows
next-search kinds searches rows i s all more at before one =
    let of : Search → List (Option ℕ) = λ search. map (ceiling kinds search) rows in
    let both : all ++ more ≡ flat_map of (take i searches) ++ of s = (λ k. before k ++ one k) in
    both ∙ (sym (flat-next of (take i searches) s) ∙ ap (λ xs. flat_map of xs) (sym (take-next searches i s at)))

both-true : (a b : Bool) → a && b ≡ true → (a ≡ true) × (b ≡ true)
both-true true true e = (refl, refl)
both-true true false e = absurd (let no : ⊥ = cc in no)
both-true false b e = absurd (let no : ⊥ = cc in no)

-- where all pass, the one at a place does
pub all-at : {A : Type 0} (p : A → Bool) (xs : List A) (i : ℕ) (x : A) → list_all p xs ≡ true → slice_get xs i ≡ Some x → p x ≡ true
all-at p [] zero x all at = absurd (let no : ⊥ = cc in no)
all-at p [] (suc i) x all at = absurd (let no : ⊥ = cc in no)
all-at p (y ∷ ys) zero x all at = let same : y ≡ x = cc in subst (λ z. p z ≡ true) same (both-true (p y) (list_all p ys) all).0
all-at p (y ∷ ys) (suc i) x all at = all-at p ys i x (both-true (p y) (list_all p ys) all).1 at
