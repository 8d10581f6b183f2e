-- The paths that an aggregation hands on, one row after another.
use Rattle.std.proofs.Common.{◌≡◌, refl, ℕ, zero, suc, ◌+◌, ◌*◌, ◌<◌, ◌≤◌, true, List, [], ◌∷◌, length, map, get_or, take, sym, ◌∙◌, ap, arith, mul_assoc}
use Rattle.std.specs.Prelude.{sum_by}
use Rattle.std.proofs.lemmas.Bool.{false≢true}
use Rattle.std.proofs.lemmas.List.{take_more, take_all, map_more}
use Rattle.std.proofs.lemmas.List.Sums.{sum_by-cons, sum_by-append}
use Rattle.agg_model.specs.declared.aggregation.Kind.{Kind}
use Rattle.agg_model.specs.declared.aggregation.Kind.TheVariants as kind
use Rattle.agg_model.specs.declared.mapping.FieldKind.{FieldKind}
use Rattle.agg_evaluation.specs.Ceiling.{handed_on}
use Rattle.agg_evaluation.specs.Groups.{under}
use Rattle.agg_evaluation.specs.Keys.{keys}
use Rattle.agg_evaluation.specs.Rows.{PlacedRow, roots, row_of}
use Rattle.nested_agg.specs.Nesting.{goes_by_nesting}
use Rattle.agg_cost.specs.Capped.{capped, Alike}
use Rattle.agg_cost.specs.Paths.{reached_by, over_paths, AreAlike}
use Rattle.agg_cost.specs.Staying.{stays}
use Rattle.agg_cost.specs.declared.paths.RowPaths.{RowPaths}
use Rattle.agg_cost.proofs.Capping.{alike_capped, alike-add, alike-mul}
use Rattle.agg_cost.proofs.Reaching.{reached-push}
use Rattle.agg_cost.proofs.Splitting.{over_handed}

-- what one path to a row carries on
abbrev pub carried : List PlacedRow → Kind → (PlacedRow → ℕ) → PlacedRow → ℕ
carried all k f r = sum_by (λ inner. length (keys all k inner) * f inner) (under all (r ∷ []) k (r ∷ []))

-- the paths found carry on what the first rows give
abbrev pub CarryOn : List PlacedRow → Kind → List RowPaths → List RowPaths → Type 0
CarryOn all k found reached = (f : PlacedRow → ℕ) → Alike (over_paths f (reached_by all found)) (over_paths (carried all k f) (reached_by all reached))

-- all rows are gone through
pub all-carried : (kinds : List FieldKind) (all : List PlacedRow) (k : Kind) (found reached : List RowPaths) (n : ℕ) → CarryOn all k found (take n reached) → length reached ≤ n
    → AreAlike (reached_by all found) (handed_on kinds all k (reached_by all reached))
all-carried kinds all k found reached n carry le =
    λ f. carry f ∙ ap capped (ap (λ (rs : List RowPaths). over_paths (carried all k f) (reached_by all rs)) (take_all n reached le) ∙ sym (over_handed kinds all k f (reached_by all reached)))

module _ (all : List PlacedRow) (k : Kind) where
  pub carried-more : (f : PlacedRow → ℕ) (reached : List RowPaths) (i : ℕ) (d : RowPaths) → i < length reached
      → over_paths (carried all k f) (reached_by all (take (i + 1) reached))
      ≡ over_paths (carried all k f) (reached_by all (take i reached)) + (get_or reached i d).paths * carried all k f (row_of all (get_or reached i d).row)
  carried-more f reached i d below =
      ap (λ (rs : List RowPaths). over_paths (carried all k f) (reached_by all rs)) (take_more reached i d below)
      ∙ reached-push all (carried all k f) (take i reached) (get_or reached i d)

  pub stays-there : stays k ≡ true → (r : PlacedRow) → under all (r ∷ []) k (r ∷ []) ≡ r ∷ []
  stays-there = there k
    where
      there : (k : Kind) → stays k ≡ true → (r : PlacedRow) → under all (r ∷ []) k (r ∷ []) ≡ r ∷ []
      there (kind.Terms field size shard_size min_doc_count order include exclude missing show_error) h r = refl
      there (kind.Histogram field interval offset min_doc_count extended hard keyed order missing) h r = refl
      there (kind.DateHistogram field period zone min_doc_count extended hard keyed order missing) h r = refl
      there (kind.Filters names filters other) h r = refl
      there (kind.Filter query) h r = refl
      there (kind.Missing field) h r = refl
      there kind.Global h r = refl
      there (kind.Nested context) h r = absurd (false≢true h)
      there (kind.ReverseNested context) h r = absurd (false≢true h)
      there (kind.Composite sources size after) h r = refl
      there (kind.Sum field missing) h r = refl
      there (kind.Min field missing) h r = refl
      there (kind.Max field missing) h r = refl
      there (kind.Avg field missing) h r = refl
      there (kind.ValueCount field missing) h r = refl

  -- one row more, through each of its keys
  pub by-keys : stays k ≡ true → (found new reached : List RowPaths) (i : ℕ) (d : RowPaths) (count paths : ℕ) → i < length reached
      → count ≡ capped (length (keys all k (row_of all (get_or reached i d).row))) → paths ≡ capped ((get_or reached i d).paths * count)
      → ((f : PlacedRow → ℕ) → Alike (over_paths f (reached_by all new)) (over_paths f (reached_by all found) + paths * f (row_of all (get_or reached i d).row)))
      → CarryOn all k found (take i reached) → CarryOn all k new (take (i + 1) reached)
  by-keys h found new reached i d count paths below counted product put carry =
      λ f.
      let r = get_or reached i d in
      let row = row_of all r.row in
      let many = length (keys all k row) in
      let amount = f row in
      let one : carried all k f row ≡ many * amount = ap (sum_by (λ inner. length (keys all k inner) * f inner)) (stays-there h row) ∙ (sum_by-cons (λ inner. length (keys all k inner) * f inner) row [] ∙ omega arith) in
      let same : Alike paths (r.paths * many) = ap capped product ∙ (alike_capped (r.paths * count) ∙ alike-mul r.paths r.paths count many refl (ap capped counted ∙ alike_capped many)) in
      let deeper : (r.paths * many) * amount ≡ r.paths * carried all k f row = mul_assoc r.paths many amount ∙ ap (λ (n : ℕ). r.paths * n) (sym one) in
      put f
      ∙ (alike-add (over_paths f (reached_by all found)) (over_paths (carried all k f) (reached_by all (take i reached))) (paths * amount) ((r.paths * many) * amount) (carry f) (alike-mul paths (r.paths * many) amount amount same refl)
      ∙ ap capped (ap (λ (n : ℕ). over_paths (carried all k f) (reached_by all (take i reached)) + n) deeper ∙ sym (carried-more f reached i d below)))

  one_key : (c : ℕ) → c ≡ 1 → (n : ℕ) → c * n ≡ n
  one_key c e n = ap (λ (m : ℕ). m * n) e ∙ omega arith

  -- where nesting leads, each row has one key
  nesting-carried : goes_by_nesting k ≡ true → (f : PlacedRow → ℕ) (r : PlacedRow) → carried all k f r ≡ sum_by f (under all (roots all) k (r ∷ []))
  nesting-carried = there k
    where
      there : (k : Kind) → goes_by_nesting k ≡ true → (f : PlacedRow → ℕ) (r : PlacedRow) → carried all k f r ≡ sum_by f (under all (roots all) k (r ∷ []))
      there (kind.Nested zero) h f r = absurd (false≢true h)
      there (kind.Nested (suc path)) h f r = (λ i. sum_by (λ (inner : PlacedRow). one_key 1 refl (f inner) i) (under all (r ∷ []) (kind.Nested (suc path)) (r ∷ [])))
      there (kind.ReverseNested context) h f r = (λ i. sum_by (λ (inner : PlacedRow). one_key 1 refl (f inner) i) (under all (r ∷ []) (kind.ReverseNested context) (r ∷ [])))
      there (kind.Terms field size shard_size min_doc_count order include exclude missing show_error) h f r = absurd (false≢true h)
      there (kind.Histogram field interval offset min_doc_count extended hard keyed order missing) h f r = absurd (false≢true h)
      there (kind.DateHistogram field period zone min_doc_count extended hard keyed order missing) h f r = absurd (false≢true h)
      there (kind.Filters names filters other) h f r = absurd (false≢true h)
      there (kind.Filter query) h f r = absurd (false≢true h)
      there (kind.Missing field) h f r = absurd (false≢true h)
      there kind.Global h f r = absurd (false≢true h)
      there (kind.Composite sources size after) h f r = absurd (false≢true h)
      there (kind.Sum field missing) h f r = absurd (false≢true h)
      there (kind.Min field missing) h f r = absurd (false≢true h)
      there (kind.Max field missing) h f r = absurd (false≢true h)
      there (kind.Avg field missing) h f r = absurd (false≢true h)
      there (kind.ValueCount field missing) h f r = absurd (false≢true h)

  -- one row more that nesting leads to
  pub row-more : (found new : List RowPaths) (before : (PlacedRow → ℕ) → ℕ) (rows : List ℕ) (i paths : ℕ) → i < length rows
      → ((f : PlacedRow → ℕ) → Alike (over_paths f (reached_by all new)) (over_paths f (reached_by all found) + paths * f (row_of all (get_or rows i 0))))
      → ((f : PlacedRow → ℕ) → Alike (over_paths f (reached_by all found)) (before f + paths * sum_by f (map (row_of all) (take i rows))))
      → (f : PlacedRow → ℕ) → Alike (over_paths f (reached_by all new)) (before f + paths * sum_by f (map (row_of all) (take (i + 1) rows)))
  row-more found new before rows i paths below put was f =
      let here = f (row_of all (get_or rows i 0)) in
      let so_far = sum_by f (map (row_of all) (take i rows)) in
      let sum : sum_by f (map (row_of all) (take (i + 1) rows)) ≡ so_far + here =
      ap (sum_by f) (map_more (row_of all) rows i 0 below) ∙ (sum_by-append f (map (row_of all) (take i rows)) (row_of all (get_or rows i 0) ∷ []) ∙ ap (λ (n : ℕ). so_far + n) (sum_by-cons f (row_of all (get_or rows i 0)) [] ∙ omega arith)) in
      let product : paths * (so_far + here) ≡ paths * so_far + paths * here = omega arith in
      let regroup : (before f + paths * so_far) + paths * here ≡ before f + paths * (so_far + here) = omega arith in
      put f
      ∙ (alike-add (over_paths f (reached_by all found)) (before f + paths * so_far) (paths * here) (paths * here) (was f) refl
      ∙ ap capped (regroup ∙ ap (λ (n : ℕ). before f + paths * n) (sym sum)))

  -- all rows that nesting leads to from one row
  pub rows-all : goes_by_nesting k ≡ true → (found reached : List RowPaths) (i : ℕ) (d : RowPaths) (rows seen : List ℕ) (n : ℕ) → i < length reached → length seen ≤ n → seen ≡ rows
      → map (row_of all) rows ≡ under all (roots all) k (row_of all (get_or reached i d).row ∷ [])
      → ((f : PlacedRow → ℕ) → Alike (over_paths f (reached_by all found)) (over_paths (carried all k f) (reached_by all (take i reached)) + (get_or reached i d).paths * sum_by f (map (row_of all) (take n seen))))
      → CarryOn all k found (take (i + 1) reached)
  rows-all h found reached i d rows seen n below le same are was =
      λ f.
      let r = get_or reached i d in
      let before = over_paths (carried all k f) (reached_by all (take i reached)) in
      let there : sum_by f (map (row_of all) (take n seen)) ≡ carried all k f (row_of all r.row) =
      ap (λ (ns : List ℕ). sum_by f (map (row_of all) ns)) (take_all n seen le ∙ same) ∙ (ap (sum_by f) are ∙ sym (nesting-carried h f (row_of all r.row))) in
      was f ∙ ap capped (ap (λ (n : ℕ). before + r.paths * n) there ∙ sym (carried-more f reached i d below))
