-- The roots that a search collects, one after another.
use Rattle.std.proofs.Common.{◌≡◌, refl, ℕ, ◌+◌, ◌<◌, Bool, true, false, List, [], ◌∷◌, ◌++◌, length, get_or, map, filter, take, sym, ◌∙◌, ap, cond}
use Rattle.std.specs.Prelude.{◌||◌, nat_lt, Option, Some, option_map, slice_get}
use Rattle.std.specs.List.{list_any}
use Rattle.std.proofs.lemmas.List.Elements.{filter_more}
use Rattle.std.proofs.lemmas.Option.{get_or_from_slice_get, slice_get-get_or, slice_get-map}
use Rattle.column_query.proofs.Lists.{map_step}
use Rattle.list_laws.proofs.Lists.{map-append}
use Rattle.growth_laws.proofs.Combinations.{composite-count}
use Rattle.agg_model.specs.declared.key.Key.{Key}
use Rattle.agg_model.specs.declared.aggregation.CompositeSource.{CompositeSource}
use Rattle.agg_model.specs.declared.aggregation.Kind.TheVariants as kind
use Rattle.agg_evaluation.specs.Ceiling.{Reached, combination_count, greatest_combinations}
use Rattle.agg_evaluation.specs.Keys.{keys}
use Rattle.agg_evaluation.specs.Rows.{PlacedRow, row_of}
use Rattle.agg_cost.specs.Paths.{reached_by}
use Rattle.agg_cost.specs.Roots.{once_each}
use Rattle.agg_cost.specs.declared.paths.RowPaths.{RowPaths}

abbrev pub one_path : ℕ → RowPaths
one_path n = record { row = n; paths = 1 }

abbrev once : PlacedRow → Reached
once row = (row, 1)

plain : {A : Type 0} (xs : List A) → xs ++ [] ≡ xs
plain [] = refl
plain (x ∷ xs) = ap (λ ys. x ∷ ys) (plain xs)

-- one row more
pub reached-next : (rows : List PlacedRow) (old new : List RowPaths) (n : ℕ) (found : List PlacedRow) → new ≡ old ++ one_path n ∷ [] → reached_by rows old ≡ once_each found
    → reached_by rows new ≡ once_each (found ++ row_of rows n ∷ [])
reached-next rows old new n found pushed before =
    ap (reached_by rows) pushed
    ∙ (map-append (λ (r : RowPaths). (row_of rows r.row, r.paths)) old (one_path n ∷ [])
    ∙ (ap (λ (rs : List Reached). rs ++ (row_of rows n, 1) ∷ []) before
    ∙ sym (map-append once found (row_of rows n ∷ []))))

take-next : (xs : List PlacedRow) (n : ℕ) (x : PlacedRow) → slice_get xs n ≡ Some x → map once (take (n + 1) xs) ≡ map once (take n xs ++ x ∷ [])
take-next xs n x is = map_step once xs n x is ∙ sym (map-append once (take n xs) (x ∷ []))

-- all roots, one more
pub all-next : (rows : List PlacedRow) (old new : List RowPaths) (n : ℕ) (roots : List PlacedRow) (place : ℕ) → new ≡ old ++ one_path n ∷ [] → slice_get roots place ≡ Some (row_of rows n)
    → reached_by rows old ≡ once_each (take place roots) → reached_by rows new ≡ once_each (take (place + 1) roots)
all-next rows old new n roots place pushed is before = reached-next rows old new n (take place roots) pushed before ∙ sym (take-next roots place (row_of rows n) is)

module _ (p : PlacedRow → Bool) (roots : List PlacedRow) (place : ℕ) (below : place < length roots) where
  answer : (d : PlacedRow) (b : Bool) → slice_get (map p roots) place ≡ Some b → p (get_or roots place d) ≡ b
  answer d b is =
      let there : Some (p (get_or roots place d)) ≡ Some b = sym (slice_get-map p roots place ∙ ap (option_map p) (slice_get-get_or roots place d below)) ∙ is in
      cc there

  -- a root that passes is one more
  pub passed-next : (x : PlacedRow) → slice_get roots place ≡ Some x → slice_get (map p roots) place ≡ Some true → filter p (take (place + 1) roots) ≡ filter p (take place roots) ++ x ∷ []
  passed-next x is said =
      filter_more p roots place x below
      ∙ (ap (λ (b : Bool). filter p (take place roots) ++ cond b (get_or roots place x ∷ []) []) (answer x true said)
      ∙ ap (λ (y : PlacedRow). filter p (take place roots) ++ y ∷ []) (get_or_from_slice_get roots place x x is))

  -- and any other is none
  pub failed-next : (d : PlacedRow) → slice_get (map p roots) place ≡ Some false → filter p (take (place + 1) roots) ≡ filter p (take place roots)
  failed-next d said =
      filter_more p roots place d below
      ∙ (ap (λ (b : Bool). filter p (take place roots) ++ cond b (get_or roots place d ∷ []) []) (answer d false said)
      ∙ plain (filter p (take place roots)))

-- as many keys as combinations
pub wide-rows : (rows : List PlacedRow) (sources : List CompositeSource) (size : ℕ) (after : Option Key) (rs : List RowPaths) →
    list_any (λ (r : RowPaths). nat_lt greatest_combinations (length (keys rows (kind.Composite sources size after) (row_of rows r.row)))) rs
    ≡ list_any (λ row. nat_lt greatest_combinations (combination_count sources row)) (map (λ (r : RowPaths). row_of rows r.row) rs)
wide-rows rows sources size after [] = refl
wide-rows rows sources size after (r ∷ rs) = λ i. nat_lt greatest_combinations (composite-count sources (row_of rows r.row) i) || wide-rows rows sources size after rs i
