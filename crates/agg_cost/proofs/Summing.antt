-- The ceilings of shards, one after another.
use Rattle.std.specs.Prelude.{◌≡◌, refl, ℕ, zero, suc, ◌+◌, ◌^◌, ◌<◌, ◌≤◌, ◌==◌, nat_lt, if◌then◌else◌, Bool, true, false, List, [], ◌∷◌, ◌++◌, map, take, drop, length, Option, Some, None, option_map, option_and_then, slice_get, IsTrue}
use Rattle.std.proofs.Common.{sym, ◌∙◌, ap, subst, arith, get_or}
use Rattle.std.proofs.Math.Logic.{∥∥₁_elim, ∥∥₁_map}
use Rattle.std.proofs.lemmas.Bool.{eq-eqb, eqb-true, ltb-false}
use Rattle.std.proofs.lemmas.List.{map-append, take_all}
use Rattle.std.proofs.Math.Bool.{Bool-set}
use Rattle.agg_evaluation.specs.Ceiling.{ceiling, ceiling_by, has_wide_row, search_ceiling, sum_of_all, task_bound, within_greatest}
use Rattle.agg_evaluation.specs.Rows.{PlacedRow}
use Rattle.agg_evaluation.specs.SearchFits.{search_fits}
use Rattle.agg_model.specs.declared.aggregation.Search.{Search}
use Rattle.agg_model.specs.declared.mapping.FieldKind.{FieldKind}
use Rattle.agg_model.specs.declared.mapping.Mapping.{Mapping}
use Rattle.agg_model.specs.declared.row.Document.{Document}
use Rattle.shard_columns.specs.Built.{IsShard, IsShardOf, IsBuiltFrom}
use Rattle.shard_columns.specs.Columns.{Columns}
use Rattle.shard_columns.specs.Index.{AreShardsOf, rows_by_shard}
use Rattle.shard_columns.specs.Made.{IsSearchFor}
use Rattle.agg_cost.specs.Searches.{kinds_of}

-- what stands at a place
pub here : {A : Type 0} (xs : List A) (i : ℕ) (x : A) → i < length xs → x ≡ get_or xs i x → slice_get xs i ≡ Some x
here [] i x below is = absurd (omega arith)
here (y ∷ ys) zero x below is = ap (λ z. Some z) (sym is)
here (y ∷ ys) (suc i) x below is = here ys i x (omega arith) is

-- each of the shards is one of the mapping
shard-of : (m : Mapping) (ss : List Columns) (i : ℕ) (s : Columns) → slice_get ss i ≡ Some s → AreShardsOf m ss → IsShardOf m s
shard-of m [] i s e are = absurd (let no : ⊥ = cc in no)
shard-of m (x ∷ xs) zero s e are = let same : x ≡ s = cc in subst (IsShardOf m) same are.0
shard-of m (x ∷ xs) (suc i) s e are = shard-of m xs i s e are.1

pub one-shard : (m : Mapping) (ss : List Columns) (i : ℕ) (s : Columns) → slice_get ss i ≡ Some s → ∥ AreShardsOf m ss ∥₁ → ∥ IsShardOf m s ∥₁
one-shard m ss i s e are = ∥∥₁_map are (λ found. shard-of m ss i s e found)

pub is-shard : (m : Mapping) (s : Columns) → ∥ IsShardOf m s ∥₁ → IsShard s
is-shard m s of = ∥∥₁_map of (λ found. (m, found))

pub search-made : (m : Mapping) (s : Columns) (search : Search) → IsTrue (search_fits m search) → ∥ IsShardOf m s ∥₁ → IsSearchFor s search
search-made m s search fits of = ∥∥₁_map of (λ found. (m, (found, fits)))

abbrev same_option : Option ℕ → Option ℕ → Bool
same_option None None = true
same_option (Some a) (Some b) = a == b
same_option None (Some b) = false
same_option (Some a) None = false

same-itself : (a : Option ℕ) → same_option a a ≡ true
same-itself None = refl
same-itself (Some a) = eq-eqb a a refl

same-is : (a b : Option ℕ) → same_option a b ≡ true → a ≡ b
same-is None None e = refl
same-is (Some a) (Some b) e = ap (λ n. Some n) (eqb-true a b e)
same-is None (Some b) e = absurd (let no : ⊥ = cc in no)
same-is (Some a) None e = absurd (let no : ⊥ = cc in no)

-- the kinds are those of the mapping
pub by-mapping : (m : Mapping) (s : Columns) (search : Search) → ∥ IsShardOf m s ∥₁ → ceiling s.kinds search s.rows ≡ ceiling (kinds_of m) search s.rows
by-mapping m s search of =
    same-is (ceiling s.kinds search s.rows) (ceiling (kinds_of m) search s.rows)
    (∥∥₁_elim of (Bool-set _ _) (λ (found : IsShardOf m s). ∥∥₁_elim found (Bool-set _ _) (λ (built : (documents : List Document) × IsBuiltFrom m documents s).
    subst (λ c. same_option (ceiling s.kinds search s.rows) c ≡ true) (ap (λ (k : List FieldKind). ceiling k search s.rows) (ap (λ (c : Columns). c.kinds) built.1.columns_are))
    (same-itself (ceiling s.kinds search s.rows)))))

-- one more ceiling behind some
sum-push : (xs : List (Option ℕ)) (a b : ℕ) → sum_of_all xs ≡ Some a → sum_of_all (xs ++ Some b ∷ []) ≡ Some (a + b)
sum-push [] a b e = let zero_is : 0 ≡ a = cc in ap (λ n. Some n) (omega arith)
sum-push (None ∷ xs) a b e = absurd (let no : ⊥ = cc in no)
sum-push (Some n ∷ xs) a b e = by_rest (λ c same. sum-push xs c b same) (sum_of_all xs) refl
  where
    by_rest : ((c : ℕ) → sum_of_all xs ≡ Some c → sum_of_all (xs ++ Some b ∷ []) ≡ Some (c + b)) → (o : Option ℕ) → sum_of_all xs ≡ o → option_map (λ rest. n + rest) (sum_of_all (xs ++ Some b ∷ [])) ≡ Some (a + b)
    by_rest later None same = absurd (let no : None ≡ Some a = sym (ap (option_map (λ rest. n + rest)) same) ∙ e in (let none : ⊥ = cc in none))
    by_rest later (Some c) same =
        let sums : Some (n + c) ≡ Some a = sym (ap (option_map (λ rest. n + rest)) same) ∙ e in
        let is : n + c ≡ a = cc in
        ap (option_map (λ rest. n + rest)) (later c same) ∙ ap (λ k. Some k) (omega arith)

-- where one has none, all have none
sum-none : (xs ys : List (Option ℕ)) → sum_of_all (xs ++ None ∷ ys) ≡ None
sum-none [] ys = refl
sum-none (None ∷ xs) ys = refl
sum-none (Some n ∷ xs) ys = ap (option_map (λ rest. n + rest)) (sum-none xs ys)

-- a ceiling is at most the greatest
pub ceiling-low : (kinds : List FieldKind) (search : Search) (rows : List PlacedRow) (n : ℕ) → ceiling kinds search rows ≡ Some n → n ≤ 2 ^ 50
ceiling-low kinds search rows n e = by_wide (has_wide_row search rows) refl
  where
    by_bound : (b : Bool) → nat_lt (2 ^ 50) (task_bound kinds search rows) ≡ b → (if b then None else Some (task_bound kinds search rows)) ≡ Some n → n ≤ 2 ^ 50
    by_bound true same is = absurd (let no : ⊥ = cc in no)
    by_bound false same is = let bound : task_bound kinds search rows ≡ n = cc in let low = ltb-false (2 ^ 50) (task_bound kinds search rows) same in omega (arith, low, bound)

    by_wide : (b : Bool) → has_wide_row search rows ≡ b → n ≤ 2 ^ 50
    by_wide true same = absurd (let no : None ≡ Some n = sym (ap (λ b. ceiling_by b kinds search rows) same) ∙ e in (let none : ⊥ = cc in none))
    by_wide false same = by_bound (nat_lt (2 ^ 50) (task_bound kinds search rows)) refl (sym (ap (λ b. ceiling_by b kinds search rows) same) ∙ e)

-- the sum of the first ceilings
abbrev pub first_sum : List FieldKind → Search → List Columns → ℕ → Option ℕ
first_sum kinds search shards n = sum_of_all (map (ceiling kinds search) (rows_by_shard (take n shards)))

rows-of : (kinds : List FieldKind) (search : Search) (xs : List Columns) → map (ceiling kinds search) (rows_by_shard xs) ≡ map (λ (s : Columns). ceiling kinds search s.rows) xs
rows-of kinds search [] = refl
rows-of kinds search (x ∷ xs) = ap (λ os. ceiling kinds search x.rows ∷ os) (rows-of kinds search xs)

apart-at : (xs : List Columns) (i : ℕ) (x : Columns) → slice_get xs i ≡ Some x → xs ≡ take i xs ++ x ∷ drop (suc i) xs
apart-at [] zero x e = absurd (let no : ⊥ = cc in no)
apart-at [] (suc i) x e = absurd (let no : ⊥ = cc in no)
apart-at (y ∷ ys) zero x e = let same : y ≡ x = cc in ap (λ z. z ∷ ys) same
apart-at (y ∷ ys) (suc i) x e = ap (λ zs. y ∷ zs) (apart-at ys i x e)

pub take-next : {A : Type 0} (xs : List A) (i : ℕ) (x : A) → slice_get xs i ≡ Some x → take (i + 1) xs ≡ take i xs ++ x ∷ []
take-next xs i x e = ap (λ n. take n xs) (let one : i + 1 ≡ suc i = omega arith in one) ∙ suc-next xs i x e
  where
    suc-next : {A : Type 0} (xs : List A) (i : ℕ) (x : A) → slice_get xs i ≡ Some x → take (suc i) xs ≡ take i xs ++ x ∷ []
    suc-next [] zero x e = absurd (let no : ⊥ = cc in no)
    suc-next [] (suc i) x e = absurd (let no : ⊥ = cc in no)
    suc-next (y ∷ ys) zero x e = let same : y ≡ x = cc in ap (λ z. z ∷ []) same
    suc-next (y ∷ ys) (suc i) x e = ap (λ zs. y ∷ zs) (suc-next ys i x e)

module _ (kinds : List FieldKind) (search : Search) (shards : List Columns) (i : ℕ) (s : Columns) (at : slice_get shards i ≡ Some s) where
  pub sum-next : (a b : ℕ) → first_sum kinds search shards i ≡ Some a → ceiling kinds search s.rows ≡ Some b → first_sum kinds search shards (i + 1) ≡ Some (a + b)
  sum-next a b before one =
      ap sum_of_all (rows-of kinds search (take (i + 1) shards))
      ∙ ap (λ xs. sum_of_all (map (λ (s : Columns). ceiling kinds search s.rows) xs)) (take-next shards i s at)
      ∙ ap sum_of_all (map-append (λ (s : Columns). ceiling kinds search s.rows) (take i shards) (s ∷ []))
      ∙ ap (λ o. sum_of_all (map (λ (s : Columns). ceiling kinds search s.rows) (take i shards) ++ o ∷ [])) one
      ∙ sum-push (map (λ (s : Columns). ceiling kinds search s.rows) (take i shards)) a b (sym (ap sum_of_all (rows-of kinds search (take i shards))) ∙ before)

  pub none-all : ceiling kinds search s.rows ≡ None → search_ceiling kinds search (rows_by_shard shards) ≡ None
  none-all one =
      ap (option_and_then within_greatest)
      (ap sum_of_all (rows-of kinds search shards)
      ∙ ap (λ xs. sum_of_all (map (λ (s : Columns). ceiling kinds search s.rows) xs)) (apart-at shards i s at)
      ∙ ap sum_of_all (map-append (λ (s : Columns). ceiling kinds search s.rows) (take i shards) (s ∷ drop (suc i) shards))
      ∙ ap (λ o. sum_of_all (map (λ (s : Columns). ceiling kinds search s.rows) (take i shards) ++ o ∷ map (λ (s : Columns). ceiling kinds search s.rows) (drop (suc i) shards))) one
      ∙ sum-none (map (λ (s : Columns). ceiling kinds search s.rows) (take i shards)) (map (λ (s : Columns). ceiling kinds search s.rows) (drop (suc i) shards)))

pub all-summed : (kinds : List FieldKind) (search : Search) (shards : List Columns) (n a : ℕ) → length shards ≤ n → first_sum kinds search shards n ≡ Some a
    → within_greatest a ≡ search_ceiling kinds search (rows_by_shard shards)
all-summed kinds search shards n a le e =
    sym (ap (option_and_then within_greatest) (sym (ap (λ xs. sum_of_all (map (ceiling kinds search) (rows_by_shard xs))) (take_all n shards le)) ∙ e))

-- which tasks have a ceiling, where the search has one
some-each : (os : List (Option ℕ)) (i : ℕ) (o : Option ℕ) (total : ℕ) → slice_get os i ≡ Some o → sum_of_all os ≡ Some total → (n : ℕ) × (o ≡ Some n)
some-each [] i o total e sum = absurd (let no : ⊥ = cc in no)
some-each (None ∷ os) i o total e sum = absurd (let no : ⊥ = cc in no)
some-each (Some n ∷ os) zero o total e sum = (n, (let same : Some n ≡ o = cc in sym same))
some-each (Some n ∷ os) (suc i) o total e sum = by_rest (λ c same. some-each os i o c e same) (sum_of_all os) refl
  where
    by_rest : ((c : ℕ) → sum_of_all os ≡ Some c → (k : ℕ) × (o ≡ Some k)) → (r : Option ℕ) → sum_of_all os ≡ r → (k : ℕ) × (o ≡ Some k)
    by_rest later (Some c) same = later c same
    by_rest later None same = absurd (let no : None ≡ Some total = sym (ap (option_map (λ rest. n + rest)) same) ∙ sum in (let none : ⊥ = cc in none))

pub get-map : {A B : Type 0} (g : A → B) (xs : List A) (i : ℕ) (x : A) → slice_get xs i ≡ Some x → slice_get (map g xs) i ≡ Some (g x)
get-map g [] i x e = absurd (let no : ⊥ = cc in no)
get-map g (y ∷ ys) zero x e = let same : y ≡ x = cc in ap (λ z. Some (g z)) same
get-map g (y ∷ ys) (suc i) x e = get-map g ys i x e

by_sum : (kinds : List FieldKind) (search : Search) (shards : List Columns) (i : ℕ) (s : Columns) (total : ℕ) → slice_get shards i ≡ Some s
    → search_ceiling kinds search (rows_by_shard shards) ≡ Some total
    → (o : Option ℕ) → sum_of_all (map (ceiling kinds search) (rows_by_shard shards)) ≡ o → (n : ℕ) × (ceiling kinds search s.rows ≡ Some n)
by_sum kinds search shards i s total at e (Some sum) same =
    some-each (map (ceiling kinds search) (rows_by_shard shards)) i (ceiling kinds search s.rows) sum
    (get-map (ceiling kinds search) (rows_by_shard shards) i s.rows (get-map (λ (c : Columns). c.rows) shards i s at)) same
by_sum kinds search shards i s total at e None same =
    absurd (let no : None ≡ Some total = sym (ap (option_and_then within_greatest) same) ∙ e in (let none : ⊥ = cc in none))

-- each task of a search that has a ceiling has one of at most 2 ^ 50
pub record HasCeiling (kinds : List FieldKind) (search : Search) (shard : Columns) : Type 0 where
  pub bytes : ℕ
  pub is : ceiling kinds search shard.rows ≡ Some bytes
  pub low : bytes ≤ 2 ^ 50

pub each-has : (kinds : List FieldKind) (search : Search) (shards : List Columns) (i : ℕ) (s : Columns) (total : ℕ) → slice_get shards i ≡ Some s
    → search_ceiling kinds search (rows_by_shard shards) ≡ Some total → HasCeiling kinds search s
each-has kinds search shards i s total at e =
    let found = by_sum kinds search shards i s total at e (sum_of_all (map (ceiling kinds search) (rows_by_shard shards))) refl in
    record { bytes = found.0; is = found.1; low = ceiling-low kinds search s.rows found.0 found.1 }
