-- A shard from its rows: entries with their values are the rows.
use Rattle.std.proofs.Common.{Bool, true, false, cond, eqb, T, ◌≡◌, refl, ℕ, ◌+◌, ◌<◌, ◌≤◌, List, [], ◌∷◌, ◌++◌, map, length, get_or, sym, ◌∙◌, ap, subst, arith, append_assoc}
use Rattle.std.proofs.lemmas.List.{append-nil, map-append, length-map, get_or-map}
use Rattle.std.specs.Prelude.{sum, sum_by}
use Rattle.std.proofs.lemmas.List.Sums.{sum-map, sum_by-cons, sum_by-append}
use Rattle.std.proofs.Math.Facts.{eqb_yes}
use Rattle.std.specs.List.{zip}
use Rattle.agg_model.specs.declared.row.FieldValues.{FieldValues}
use Rattle.agg_evaluation.specs.Rows.{PlacedRow, no_row, row_of}
use Rattle.shard_columns.specs.declared.layout.Entry.{Entry}
use Rattle.shard_columns.specs.declared.layout.Laid.{Laid}
use Rattle.shard_columns.specs.Layout.{placed, flat_rows, row_at, values_of_laid, entries_of_laid, context_of}
use Rattle.shard_columns.specs.Values.{Words, words_in, words_for, FieldsBelow, total_count}
use Rattle.shard_columns.specs.Words.{AllFieldsBelow}
use Rattle.shard_columns.specs.Given.{RowsBelow}
use Rattle.agg_evaluation.specs.ColumnBytes.{value_count}
use Rattle.shard_columns.proofs.Dictionaries.{sum-cons}
use Rattle.shard_columns.proofs.Placing.{length-flat_rows}

-- a field beyond the mapping has no words
pub words_for-none : (n f : ℕ) (fs : List FieldValues) → FieldsBelow n fs → n ≤ f → words_for f fs ≡ []
unfolding FieldsBelow
words_for-none n f [] below beyond = refl
words_for-none n f (x ∷ xs) below beyond =
    let other : (b : Bool) → eqb x.field f ≡ b → cond b (words_in x.values) [] ≡ [] =
    λ b. elim b as (λ b. eqb x.field f ≡ b → cond b (words_in x.values) [] ≡ []) [
      | true ↦ (λ e. let same : x.field ≡ f = eqb_yes (subst T (sym e) tt) in absurd (omega (arith, below.0)))
      | false ↦ (λ e. refl)
    ] in
    ap (λ (ws : Words). ws ++ words_for f xs) (other (eqb x.field f) refl) ∙ words_for-none n f xs below.1 beyond

pub zip-map : {X A B : Type 0} (f : X → A) (g : X → B) (xs : List X) → zip (map f xs) (map g xs) ≡ map (λ x. (f x, g x)) xs
zip-map f g [] = refl
zip-map f g (x ∷ xs) = ap (λ ys. (f x, g x) ∷ ys) (zip-map f g xs)

-- the rows have the values of their entries, one for one
pub values-placed : (ids : List (List ℕ)) (rows : List PlacedRow) (es : List (Entry × List FieldValues)) → map (λ r. r.values) (placed ids rows es) ≡ map (λ r. r.values) rows ++ map (λ e. e.1) es
unfolding placed
values-placed ids rows [] = sym (append-nil (map (λ r. r.values) rows))
values-placed ids rows (e ∷ es) =
    values-placed ids (rows ++ row_at ids rows e.0 e.1 ∷ []) es
    ∙ (ap (λ (vs : List (List FieldValues)). vs ++ map (λ e. e.1) es) (map-append (λ (r : PlacedRow). r.values) rows (row_at ids rows e.0 e.1 ∷ []))
    ∙ append_assoc (map (λ r. r.values) rows) (e.1 ∷ []) (map (λ e. e.1) es))

abbrev pub pair : Laid → Entry × List FieldValues
pair l = (l.entry, l.values.now)

pub pairs-values : (laid : List Laid) → map (λ e. e.1) (map pair laid) ≡ values_of_laid laid
pairs-values [] = refl
pairs-values (l ∷ ls) = ap (λ (vs : List (List FieldValues)). l.values.now ∷ vs) (pairs-values ls)

below-laid : (n : ℕ) (rs : List PlacedRow) (ls : List Laid) → map (λ r. r.values) rs ≡ values_of_laid ls → RowsBelow n rs → AllFieldsBelow n ls
unfolding RowsBelow AllFieldsBelow
below-laid n [] [] e below = tt
below-laid n (r ∷ rs) [] e below = tt
below-laid n [] (l ∷ ls) e below = absurd (cc e)
below-laid n (r ∷ rs) (l ∷ ls) e below =
    let first : r.values ≡ l.values.now = cc e in
    let rest : map (λ (r : PlacedRow). r.values) rs ≡ values_of_laid ls = cc e in
    (subst (FieldsBelow n) first below.0, below-laid n rs ls rest below.1)

pub AllFieldsBelow-given : (n : ℕ) (ids : List (List ℕ)) (laid : List Laid) (rows : List PlacedRow) → flat_rows ids laid ≡ rows → RowsBelow n rows → AllFieldsBelow n laid
AllFieldsBelow-given n ids laid rows is below =
    below-laid n rows laid (ap (map (λ (r : PlacedRow). r.values)) (sym is) ∙ (values-placed ids [] (map pair laid) ∙ pairs-values laid)) below

-- entries and values, one for one, are the rows
pub rows-stored : (ids : List (List ℕ)) (laid : List Laid) (entries : List Entry) (values : List (List FieldValues)) → entries ≡ entries_of_laid laid → values ≡ values_of_laid laid →
    placed ids [] (zip entries values) ≡ flat_rows ids laid
rows-stored ids laid entries values entries_are values_are =
    ap (λ (es : List Entry). placed ids [] (zip es values)) entries_are ∙ (ap (λ (vs : List (List FieldValues)). placed ids [] (zip (entries_of_laid laid) vs)) values_are
    ∙ ap (placed ids []) (zip-map (λ (l : Laid). l.entry) (λ (l : Laid). l.values.now) laid))

pub sizes-stored : (ids : List (List ℕ)) (laid : List Laid) (entries : List Entry) (rows : List PlacedRow) → entries ≡ entries_of_laid laid → flat_rows ids laid ≡ rows → length entries ≡ length rows
sizes-stored ids laid entries rows entries_are rows_are = ap length entries_are ∙ (length-map laid (λ (l : Laid). l.entry) ∙ (sym (length-flat_rows ids laid) ∙ ap length rows_are))

-- what each row has, from its entry and its values alone
pub map-placed : {B : Type 0} (f : PlacedRow → B) (g : Entry × List FieldValues → B) (ids : List (List ℕ)) (rows : List PlacedRow) (es : List (Entry × List FieldValues)) →
    ((rs : List PlacedRow) (e : Entry × List FieldValues) → f (row_at ids rs e.0 e.1) ≡ g e) → map f (placed ids rows es) ≡ map f rows ++ map g es
unfolding placed
map-placed f g ids rows [] same = sym (append-nil (map f rows))
map-placed {B} f g ids rows (e ∷ es) same =
    map-placed f g ids (rows ++ row_at ids rows e.0 e.1 ∷ []) es same
    ∙ (ap (λ (bs : List B). bs ++ map g es) (map-append f rows (row_at ids rows e.0 e.1 ∷ []) ∙ ap (λ (b : B). map f rows ++ b ∷ []) (same rows e))
    ∙ append_assoc (map f rows) (g e ∷ []) (map g es))

pub zip-first : {K X B : Type 0} (h : K → B) (ks : List K) (vs : List X) → length vs ≡ length ks → map (λ e. h e.0) (zip ks vs) ≡ map h ks
zip-first h [] vs same = refl
zip-first h (k ∷ ks) [] same = absurd (omega arith)
zip-first {K} {X} {B} h (k ∷ ks) (v ∷ vs) same = ap (λ (bs : List B). h k ∷ bs) (zip-first h ks vs (omega arith))

zip-second : {K X : Type 0} (ks : List K) (vs : List X) → length vs ≡ length ks → map (λ e. e.1) (zip ks vs) ≡ vs
zip-second [] [] same = refl
zip-second [] (v ∷ vs) same = absurd (omega arith)
zip-second (k ∷ ks) [] same = absurd (omega arith)
zip-second {K} {X} (k ∷ ks) (v ∷ vs) same = ap (λ (xs : List X). v ∷ xs) (zip-second ks vs (omega arith))

pub contexts-are : (ids : List (List ℕ)) (es : List Entry) (vs : List (List FieldValues)) → length vs ≡ length es → map (λ r. r.context) (placed ids [] (zip es vs)) ≡ map (λ e. context_of e.origin) es
contexts-are ids es vs same = map-placed (λ (r : PlacedRow). r.context) (λ (e : Entry × List FieldValues). context_of e.0.origin) ids [] (zip es vs) (λ rs e. refl) ∙ zip-first (λ (e : Entry). context_of e.origin) es vs same

pub ids-are : (ids : List (List ℕ)) (es : List Entry) (vs : List (List FieldValues)) → length vs ≡ length es → map (λ r. r.id) (placed ids [] (zip es vs)) ≡ map (λ e. get_or ids e.document []) es
ids-are ids es vs same = map-placed (λ (r : PlacedRow). r.id) (λ (e : Entry × List FieldValues). get_or ids e.0.document []) ids [] (zip es vs) (λ rs e. refl) ∙ zip-first (λ (e : Entry). get_or ids e.document []) es vs same

pub values-are : (ids : List (List ℕ)) (es : List Entry) (vs : List (List FieldValues)) → length vs ≡ length es → map (λ r. r.values) (placed ids [] (zip es vs)) ≡ vs
values-are ids es vs same = map-placed (λ (r : PlacedRow). r.values) (λ (e : Entry × List FieldValues). e.1) ids [] (zip es vs) (λ rs e. refl) ∙ zip-second es vs same

pub size-is : (ids : List (List ℕ)) (es : List Entry) (vs : List (List FieldValues)) → length vs ≡ length es → length (placed ids [] (zip es vs)) ≡ length es
size-is ids es vs same = sym (length-map (placed ids [] (zip es vs)) (λ (r : PlacedRow). r.context)) ∙ (ap length (contexts-are ids es vs same) ∙ length-map es (λ (e : Entry). context_of e.origin))

pub context-at : (ids : List (List ℕ)) (es : List Entry) (vs : List (List FieldValues)) (n : ℕ) (e : Entry) → length vs ≡ length es → n < length es → e ≡ get_or es n e →
    (row_of (placed ids [] (zip es vs)) n).context ≡ context_of e.origin
context-at ids es vs n e same below is =
    sym (get_or-map (λ (r : PlacedRow). r.context) (placed ids [] (zip es vs)) n no_row 0 (subst (λ (k : ℕ). n < k) (sym (size-is ids es vs same)) below))
    ∙ (ap (λ (xs : List ℕ). get_or xs n 0) (contexts-are ids es vs same) ∙ (get_or-map (λ (e : Entry). context_of e.origin) es n e 0 below ∙ ap (λ (e : Entry). context_of e.origin) (sym is)))

pub id-at : (ids : List (List ℕ)) (es : List Entry) (vs : List (List FieldValues)) (n : ℕ) (e : Entry) → length vs ≡ length es → n < length es → e ≡ get_or es n e →
    (row_of (placed ids [] (zip es vs)) n).id ≡ get_or ids e.document []
id-at ids es vs n e same below is =
    sym (get_or-map (λ (r : PlacedRow). r.id) (placed ids [] (zip es vs)) n no_row [] (subst (λ (k : ℕ). n < k) (sym (size-is ids es vs same)) below))
    ∙ (ap (λ (xs : List (List ℕ)). get_or xs n []) (ids-are ids es vs same) ∙ (get_or-map (λ (e : Entry). get_or ids e.document []) es n e [] below ∙ ap (λ (e : Entry). get_or ids e.document []) (sym is)))

-- one more row adds its values
pub total-push : (laid : List Laid) (l : Laid) → sum_by total_count (values_of_laid (laid ++ l ∷ [])) ≡ sum_by total_count (values_of_laid laid) + total_count l.values.now
total-push laid l =
    ap (sum_by total_count) (map-append (λ (l : Laid). l.values.now) laid (l ∷ []))
    ∙ (sum_by-append total_count (values_of_laid laid) (l.values.now ∷ []) ∙ omega (arith, sum_by-cons total_count l.values.now []))

pub total-values : (rows : List PlacedRow) → sum_by total_count (map (λ r. r.values) rows) ≡ sum (map value_count rows)
total-values [] = refl
total-values (r ∷ rs) =
    sum_by-cons total_count r.values (map (λ r. r.values) rs)
    ∙ ((λ i. sym (sum-map (λ (f : FieldValues). length f.values) r.values) i + total-values rs i) ∙ sym (sum-cons (value_count r) (map value_count rs)))
