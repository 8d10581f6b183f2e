-- Laying out rows one after another.
use Rattle.std.proofs.Common.{◌≡◌, refl, zero, suc, ℕ, ◌+◌, ◌<◌, List, [], ◌∷◌, ◌++◌, map, length, get_or, set, take, ◌≤◌, slice_index_or, sym, ◌∙◌, ap, subst, arith, length-append, append_assoc}
use Rattle.std.specs.List.{flat_map, enumerate_from}
use Rattle.std.proofs.lemmas.List.{map-append, append-nil, get_or_append_left, length-map, take_more}
use Rattle.std.proofs.lemmas.List.{length-take, take_all}
use Rattle.std.proofs.lemmas.Grind.{flat_map-append}
use Rattle.std.proofs.lemmas.List.Folds.{flat_map-map}
use Rattle.std.proofs.Math.Seq.{set-append_seam, get_or-append_seam}
use Rattle.agg_model.specs.declared.row.FieldValues.{FieldValues}
use Rattle.agg_model.specs.declared.row.Row.{Row, out-Row}
use Rattle.agg_model.specs.declared.row.Children.{Children, out-Children}
use Rattle.agg_model.specs.declared.row.Document.{Document}
use Rattle.agg_evaluation.specs.Rows.{PlacedRow, Walk, rows_of, walk_children, walk_row, shard_rows, no_row, rows_of_documents}
use Rattle.shard_columns.specs.declared.layout.Entry.{Entry}
use Rattle.shard_columns.specs.declared.layout.Origin.TheVariants.{Root, Nested}
use Rattle.shard_columns.specs.declared.layout.Laid.{Laid}
use Rattle.shard_columns.specs.Layout.{placed, row_at, flat_rows, children_of, place_at, context_of, AddsRow, AddsChildren, AddsRowBehind, AddsChildrenBehind, ids_of}
use Rattle.shard_columns.specs.Drafted.{RootsLaid}
use Rattle.shard_columns.specs.Ends.{Ends, each, row_ends, children_ends, ends_row, ends_children, root_ends}
use Rattle.shard_columns.proofs.Levels.{fold_row-out, fold_children-out}
use Rattle.shard_columns.proofs.Placing.{flat_rows-push, length-flat_rows}

enumerate-push : {X : Type 0} → (n : ℕ) (xs : List X) (x : X) → enumerate_from n (xs ++ x ∷ []) ≡ enumerate_from n xs ++ (n + length xs, x) ∷ []
enumerate-push {X} n [] x = ap (λ (k : ℕ). (k, x) ∷ []) (omega arith)
enumerate-push {X} n (y ∷ ys) x =
    let e : (n + 1) + length ys ≡ n + length (y ∷ ys) = omega arith in
    ap (λ (zs : List (ℕ × X)). (n, y) ∷ zs) (enumerate-push (n + 1) ys x ∙ ap (λ (k : ℕ). enumerate_from (n + 1) ys ++ (k, x) ∷ []) e)

pub each-push : (fs : List Ends) (f : Ends) (b : ℕ) → each (fs ++ f ∷ []) b ≡ each fs b ++ f (b + length (each fs b))
unfolding each
each-push [] f b = append-nil (f b) ∙ ap f (omega arith)
each-push (g ∷ gs) f b =
    let e : (b + length (g b)) + length (each gs (b + length (g b))) ≡ b + length (g b ++ each gs (b + length (g b))) = omega (arith, length-append (g b) (each gs (b + length (g b)))) in
    ap (λ (xs : List ℕ). g b ++ xs) (each-push gs f (b + length (g b))) ∙ (sym (append_assoc (g b) (each gs (b + length (g b))) (f ((b + length (g b)) + length (each gs (b + length (g b))))))
    ∙ ap (λ (k : ℕ). (g b ++ each gs (b + length (g b))) ++ f k) e)

-- one of several blocks, behind those before it, has no more ends than all of them
pub each-room : {X : Type 0} (f : X → Ends) (items : List X) (n : ℕ) (x : X) (b : ℕ) → n < length items → x ≡ get_or items n x →
    length (each (map f (take n items)) b) + length (f x (b + length (each (map f (take n items)) b))) ≤ length (each (map f items) b)
unfolding each
each-room f [] n x b below is = absurd (omega (arith, below))
each-room f (y ∷ ys) zero x b below is =
    let here : length (f x (b + 0)) ≡ length (f y b) = ap (λ z. length (f z (b + 0))) is ∙ ap (λ (k : ℕ). length (f y k)) (let e : b + 0 ≡ b = omega arith in e) in
    omega (arith, here, length-append (f y b) (each (map f ys) (b + length (f y b))))
each-room f (y ∷ ys) (suc n) x b below is =
    let next = b + length (f y b) in
    let done = each (map f (take n ys)) next in
    let rest = each-room f ys n x next (omega (arith, below)) is in
    let size = length-append (f y b) done in
    let at : length (f x (b + length (f y b ++ done))) ≡ length (f x (next + length done)) = ap (λ (k : ℕ). length (f x k)) (let e : b + length (f y b ++ done) ≡ next + length done = omega (arith, size) in e) in
    omega (arith, rest, size, at, length-append (f y b) (each (map f ys) next))

-- blocks with some ends each are no more than their ends
each-long : {X : Type 0} (f : X → Ends) → ((x : X) (b : ℕ) → 0 < length (f x b)) → (items : List X) (b : ℕ) → length items ≤ length (each (map f items) b)
unfolding each
each-long f some [] b = omega arith
each-long f some (y ∷ ys) b =
    let rest = each-long f some ys (b + length (f y b)) in
    omega (arith, rest, some y b, length-append (f y b) (each (map f ys) (b + length (f y b))))

row-size : (r : Row) (b : ℕ) → length (row_ends r b) ≡ 1 + length (each (map children_ends (out-Row r).children) (b + 1))
row-size r b = ap (λ (f : Ends). length (f b)) (fold_row-out ends_children ends_row r) ∙ (omega arith)

some-ends : (r : Row) (b : ℕ) → 0 < length (row_ends r b)
some-ends r b = omega (arith, row-size r b)

-- the rows of one nested path beneath a row at a place
abbrev pub step_into : ℕ → List ℕ → List ℕ → ℕ × (ℕ → Walk) → List PlacedRow
step_into path id place r = r.1 (path + 1) id (place ++ path ∷ r.0 ∷ [])

abbrev pub rows_under : ℕ → List ℕ → List ℕ → List Row → List PlacedRow
rows_under path id place rows = flat_map (step_into path id place) (enumerate_from 0 (map rows_of rows))

rows_under-push : (path : ℕ) (id place : List ℕ) (rows : List Row) (r : Row) → rows_under path id place (rows ++ r ∷ []) ≡ rows_under path id place rows ++ rows_of r (path + 1) id (place ++ path ∷ length rows ∷ [])
rows_under-push path id place rows r =
    ap (λ (ws : List (ℕ → Walk)). flat_map (step_into path id place) (enumerate_from 0 ws)) (map-append rows_of rows (r ∷ []))
    ∙ (ap (flat_map (step_into path id place)) (enumerate-push 0 (map rows_of rows) (rows_of r))
    ∙ (flat_map-append (step_into path id place) (enumerate_from 0 (map rows_of rows)) ((0 + length (map rows_of rows), rows_of r) ∷ [])
    ∙ ap (λ (xs : List PlacedRow). rows_under path id place rows ++ xs) (append-nil (rows_of r (path + 1) id (place ++ path ∷ (0 + length (map rows_of rows)) ∷ []))
    ∙ ap (λ (k : ℕ). rows_of r (path + 1) id (place ++ path ∷ k ∷ [])) (omega (arith, length-map rows rows_of)))))

-- the rows of the nested paths beneath a row at a place
abbrev pub rows_below : List ℕ → List ℕ → List Children → List PlacedRow
rows_below id place cs = flat_map (λ c. children_of c id place) cs

pub record RowsLaid (old new : List Laid) (document parent path : ℕ) (rows : List Row) : Type 0 where
  pub rows_are : (ids : List (List ℕ)) → flat_rows ids new ≡ flat_rows ids old ++ rows_under path (slice_index_or ids document []) (slice_index_or (flat_rows ids old) parent no_row).place rows

pub record ChildrenLaid (old new : List Laid) (row : Row) (entry : Entry) (children : List Children) : Type 0 where
  pub rows_are : (ids : List (List ℕ)) → flat_rows ids new
      ≡ (flat_rows ids old ++ row_at ids (flat_rows ids old) entry (out-Row row).values ∷ []) ++ rows_below (slice_index_or ids entry.document []) (place_at (flat_rows ids old) entry.document entry.origin) children

RowsLaid-push : (old now new : List Laid) (document parent path : ℕ) (rows : List Row) (r : Row) →
    parent < length old →
    RowsLaid old now document parent path rows →
    AddsRow now new r (record { document = document; origin = Nested parent path (length rows) }) →
    RowsLaid old new document parent path (rows ++ r ∷ [])
RowsLaid-push old now new document parent path rows r below laid adds =
    record {
      rows_are = λ ids. let id = slice_index_or ids document [] in let place = (get_or (flat_rows ids old) parent no_row).place in
          let here : (get_or (flat_rows ids now) parent no_row).place ≡ place = ap (λ (rs : List PlacedRow). (get_or rs parent no_row).place) (laid.rows_are ids) ∙ ap (λ (x : PlacedRow). x.place) (get_or_append_left (flat_rows ids old) (rows_under path id place rows) no_row parent (subst (λ (n : ℕ). parent < n) (sym (length-flat_rows ids old)) below)) in
          adds.added ids ∙ (ap (λ (xs : List PlacedRow). xs ++ rows_of r (path + 1) id ((get_or (flat_rows ids now) parent no_row).place ++ path ∷ length rows ∷ [])) (laid.rows_are ids)
          ∙ (append_assoc (flat_rows ids old) (rows_under path id place rows) (rows_of r (path + 1) id ((get_or (flat_rows ids now) parent no_row).place ++ path ∷ length rows ∷ []))
          ∙ ap (λ (xs : List PlacedRow). flat_rows ids old ++ xs) (ap (λ (p : List ℕ). rows_under path id place rows ++ rows_of r (path + 1) id (p ++ path ∷ length rows ∷ [])) here
          ∙ sym (rows_under-push path id place rows r))));
    }

-- the ends of one more row of a path
row_ends-push : (old_ends now_ends new_ends : List ℕ) (rows : List Row) (r : Row) → now_ends ≡ old_ends ++ each (map row_ends rows) (length old_ends) → new_ends ≡ now_ends ++ row_ends r (length now_ends) →
    new_ends ≡ old_ends ++ each (map row_ends (rows ++ r ∷ [])) (length old_ends)
row_ends-push old_ends now_ends new_ends rows r laid ends =
    let now_length : length now_ends ≡ length old_ends + length (each (map row_ends rows) (length old_ends)) = ap length laid ∙ length-append old_ends (each (map row_ends rows) (length old_ends)) in
    ends ∙ (ap (λ (k : ℕ). now_ends ++ row_ends r k) now_length ∙ (ap (λ (xs : List ℕ). xs ++ row_ends r (length old_ends + length (each (map row_ends rows) (length old_ends)))) laid
    ∙ (append_assoc old_ends (each (map row_ends rows) (length old_ends)) (row_ends r (length old_ends + length (each (map row_ends rows) (length old_ends))))
    ∙ ap (λ (xs : List ℕ). old_ends ++ xs) (sym (each-push (map row_ends rows) (row_ends r) (length old_ends)) ∙ ap (λ (fs : List Ends). each fs (length old_ends)) (sym (map-append row_ends rows (r ∷ [])))))))

AddsChildren-laid : (old new : List Laid) (document parent : ℕ) (c : Children) → RowsLaid old new document parent (out-Children c).path (out-Children c).rows → AddsChildren old new c document parent
AddsChildren-laid old new document parent c laid =
    record { added = λ ids. laid.rows_are ids ∙ ap (λ (w : Walk). flat_rows ids old ++ w (slice_index_or ids document []) (get_or (flat_rows ids old) parent no_row).place) (sym (fold_children-out walk_children walk_row c)) }

ChildrenLaid-none : (old new : List Laid) (row : Row) (entry : Entry) (l : Laid) → l.entry ≡ entry → l.values.now ≡ (out-Row row).values → new ≡ old ++ l ∷ [] → ChildrenLaid old new row entry []
ChildrenLaid-none old new row entry l is_entry is_values pushed =
    record {
      rows_are = λ ids. ap (flat_rows ids) pushed ∙ (flat_rows-push ids old l
          ∙ (ap (λ (e : Entry). flat_rows ids old ++ row_at ids (flat_rows ids old) e l.values.now ∷ []) is_entry
          ∙ (ap (λ (vs : List FieldValues). flat_rows ids old ++ row_at ids (flat_rows ids old) entry vs ∷ []) is_values
          ∙ sym (append-nil (flat_rows ids old ++ row_at ids (flat_rows ids old) entry (out-Row row).values ∷ [])))));
    }

ChildrenLaid-push : (old now new : List Laid) (row : Row) (entry : Entry) (cs : List Children) (c : Children) →
    ChildrenLaid old now row entry cs →
    AddsChildren now new c entry.document (length old) →
    ChildrenLaid old new row entry (cs ++ c ∷ [])
ChildrenLaid-push old now new row entry cs c laid adds =
    record {
      rows_are = λ ids.
          let id = slice_index_or ids entry.document [] in
          let place = place_at (flat_rows ids old) entry.document entry.origin in
          let self = row_at ids (flat_rows ids old) entry (out-Row row).values in
          let front = flat_rows ids old ++ self ∷ [] in
          let here : (get_or (flat_rows ids now) (length old) no_row).place ≡ place =
          ap (λ (rs : List PlacedRow). (get_or rs (length old) no_row).place) (laid.rows_are ids ∙ append_assoc (flat_rows ids old) (self ∷ []) (rows_below id place cs))
          ∙ (ap (λ (k : ℕ). (get_or (flat_rows ids old ++ self ∷ rows_below id place cs) k no_row).place) (sym (length-flat_rows ids old))
          ∙ ap (λ (r : PlacedRow). r.place) (get_or-append_seam (flat_rows ids old) self (rows_below id place cs) no_row)) in
          adds.added ids ∙ (ap (λ (xs : List PlacedRow). xs ++ children_of c id (get_or (flat_rows ids now) (length old) no_row).place) (laid.rows_are ids)
          ∙ (append_assoc front (rows_below id place cs) (children_of c id (get_or (flat_rows ids now) (length old) no_row).place)
          ∙ ap (λ (xs : List PlacedRow). front ++ xs) (ap (λ (p : List ℕ). rows_below id place cs ++ children_of c id p) here
          ∙ (ap (λ (xs : List PlacedRow). rows_below id place cs ++ xs) (sym (append-nil (children_of c id place))) ∙ sym (flat_map-append (λ (d : Children). children_of d id place) cs (c ∷ []))))));
    }

-- the ends of one more path of a row
children_ends-push : (old_ends now_ends new_ends : List ℕ) (cs : List Children) (c : Children) → now_ends ≡ (old_ends ++ length old_ends ∷ []) ++ each (map children_ends cs) (length old_ends + 1) →
    new_ends ≡ now_ends ++ children_ends c (length now_ends) → new_ends ≡ (old_ends ++ length old_ends ∷ []) ++ each (map children_ends (cs ++ c ∷ [])) (length old_ends + 1)
children_ends-push old_ends now_ends new_ends cs c laid ends =
    let front = old_ends ++ length old_ends ∷ [] in
    let below = each (map children_ends cs) (length old_ends + 1) in
    let now_length : length now_ends ≡ (length old_ends + 1) + length below = ap length laid ∙ (length-append front below ∙ ap (λ (k : ℕ). k + length below) (length-append old_ends (length old_ends ∷ []))) in
    ends ∙ (ap (λ (k : ℕ). now_ends ++ children_ends c k) now_length ∙ (ap (λ (xs : List ℕ). xs ++ children_ends c ((length old_ends + 1) + length below)) laid
    ∙ (append_assoc front below (children_ends c ((length old_ends + 1) + length below))
    ∙ ap (λ (xs : List ℕ). front ++ xs) (sym (each-push (map children_ends cs) (children_ends c) (length old_ends + 1)) ∙ ap (λ (fs : List Ends). each fs (length old_ends + 1)) (sym (map-append children_ends cs (c ∷ [])))))))

AddsRow-laid : (old new : List Laid) (row : Row) (entry : Entry) → ChildrenLaid old new row entry (out-Row row).children → AddsRow old new row entry
AddsRow-laid old new row entry laid =
    record {
      added = λ ids.
          let id = slice_index_or ids entry.document [] in
          let place = place_at (flat_rows ids old) entry.document entry.origin in
          let self = row_at ids (flat_rows ids old) entry (out-Row row).values in
          laid.rows_are ids ∙ (append_assoc (flat_rows ids old) (self ∷ []) (rows_below id place (out-Row row).children)
          ∙ ap (λ (xs : List PlacedRow). flat_rows ids old ++ xs)
          (ap (λ (xs : List PlacedRow). self ∷ xs) (sym (flat_map-map (λ (w : Walk). w id place) children_of (out-Row row).children))
          ∙ ap (λ (w : ℕ → Walk). w (context_of entry.origin) id place) (sym (fold_row-out walk_children walk_row row))));
    }

pub take-next : {X : Type 0} (items : List X) (n : ℕ) (x : X) → n < length items → x ≡ get_or items n x → take (n + 1) items ≡ take n items ++ x ∷ []
take-next items n x below is = take_more items n x below ∙ ap (λ y. take n items ++ y ∷ []) (sym is)

-- rows of one path behind those of earlier documents
pub record RowsBehind (old new : List Laid) (old_ends new_ends : List ℕ) (document parent path : ℕ) (rows : List Row) : Type 0 where
  pub laid : (before : List Laid) → length (before ++ old) ≡ length old_ends → RowsLaid (before ++ old) (before ++ new) document parent path rows
  pub ends_are : new_ends ≡ old_ends ++ each (map row_ends rows) (length old_ends)
  pub aligned : length new + length old_ends ≡ length old + length new_ends

-- a row and some of the paths beneath it behind those of earlier documents
pub record ChildrenBehind (old new : List Laid) (old_ends new_ends : List ℕ) (row : Row) (entry : Entry) (children : List Children) : Type 0 where
  pub laid : (before : List Laid) → length (before ++ old) ≡ length old_ends → ChildrenLaid (before ++ old) (before ++ new) row entry children
  pub ends_are : new_ends ≡ (old_ends ++ length old_ends ∷ []) ++ each (map children_ends children) (length old_ends + 1)
  pub aligned : length new + length old_ends ≡ length old + length new_ends

-- what grows as its ends do stays beside them
beside : (before old new : List Laid) (old_ends new_ends : List ℕ) → length (before ++ old) ≡ length old_ends → length new + length old_ends ≡ length old + length new_ends → length (before ++ new) ≡ length new_ends
beside before old new old_ends new_ends same grown = omega (arith, same, grown, length-append before old, length-append before new)

pub RowsBehind-none : (old : List Laid) (old_ends : List ℕ) (document parent path : ℕ) → RowsBehind old old old_ends old_ends document parent path []
unfolding each
RowsBehind-none old old_ends document parent path = record {
  laid = λ before same. record { rows_are = λ ids. sym (append-nil (flat_rows ids (before ++ old))) };
  ends_are = sym (append-nil old_ends);
  aligned = refl;
}

pub RowsBehind-more : (old now new : List Laid) (old_ends now_ends new_ends : List ℕ) (document parent path : ℕ) (items : List Row) (n : ℕ) (r : Row) →
    parent < length old_ends → n < length items → r ≡ get_or items n r →
    RowsBehind old now old_ends now_ends document parent path (take n items) →
    AddsRowBehind (length now_ends) now new r (record { document = document; origin = Nested parent path n }) →
    new_ends ≡ now_ends ++ row_ends r (length now_ends) → length new + length now_ends ≡ length now + length new_ends →
    RowsBehind old new old_ends new_ends document parent path (take (n + 1) items)
RowsBehind-more old now new old_ends now_ends new_ends document parent path items n r parent_below below is so_far adds ends grown =
    let reached : length (take n items) ≡ n = omega (arith, length-take n items) in
    let aligned = so_far.aligned in
    rw (take-next items n r below is)
    (record {
      laid = λ before same. RowsLaid-push (before ++ old) (before ++ now) (before ++ new) document parent path (take n items) r (omega (arith, parent_below, same)) (so_far.laid before same)
          (subst (λ (k : ℕ). AddsRow (before ++ now) (before ++ new) r (record { document = document; origin = Nested parent path k })) (sym reached) (adds before (beside before old now old_ends now_ends same aligned)));
      ends_are = row_ends-push old_ends now_ends new_ends (take n items) r so_far.ends_are ends;
      aligned = omega (arith, aligned, grown);
    })

pub AddsChildren-behind : (old new : List Laid) (old_ends new_ends : List ℕ) (document parent : ℕ) (c : Children) → RowsBehind old new old_ends new_ends document parent (out-Children c).path (out-Children c).rows →
    AddsChildrenBehind (length old_ends) old new c document parent
AddsChildren-behind old new old_ends new_ends document parent c done = λ before same. AddsChildren-laid (before ++ old) (before ++ new) document parent c (done.laid before same)

pub ends-laid : (old new : List Laid) (old_ends new_ends : List ℕ) (document parent : ℕ) (c : Children) → RowsBehind old new old_ends new_ends document parent (out-Children c).path (out-Children c).rows →
    new_ends ≡ old_ends ++ children_ends c (length old_ends)
ends-laid old new old_ends new_ends document parent c done = done.ends_are ∙ ap (λ (f : Ends). old_ends ++ f (length old_ends)) (sym (fold_children-out ends_children ends_row c))

pub ChildrenBehind-none : (old new : List Laid) (old_ends new_ends : List ℕ) (row : Row) (entry : Entry) (l : Laid) → l.entry ≡ entry → l.values.now ≡ (out-Row row).values → new ≡ old ++ l ∷ [] → new_ends ≡ old_ends ++ length old_ends ∷ [] →
    ChildrenBehind old new old_ends new_ends row entry []
unfolding each
ChildrenBehind-none old new old_ends new_ends row entry l is_entry is_values pushed pushed_end = record {
  laid = λ before same. ChildrenLaid-none (before ++ old) (before ++ new) row entry l is_entry is_values (ap (λ (xs : List Laid). before ++ xs) pushed ∙ sym (append_assoc before old (l ∷ [])));
  ends_are = pushed_end ∙ sym (append-nil (old_ends ++ length old_ends ∷ []));
  aligned = omega (arith, ap length pushed, length-append old (l ∷ []), ap length pushed_end, length-append old_ends (length old_ends ∷ []));
}

pub ChildrenBehind-more : (old now new : List Laid) (old_ends now_ends new_ends : List ℕ) (row : Row) (entry : Entry) (items : List Children) (n : ℕ) (c : Children) →
    n < length items → c ≡ get_or items n c →
    ChildrenBehind old now old_ends now_ends row entry (take n items) →
    AddsChildrenBehind (length now_ends) now new c entry.document (length old_ends) →
    new_ends ≡ now_ends ++ children_ends c (length now_ends) → length new + length now_ends ≡ length now + length new_ends →
    ChildrenBehind old new old_ends new_ends row entry (take (n + 1) items)
ChildrenBehind-more old now new old_ends now_ends new_ends row entry items n c below is so_far adds ends grown =
    let aligned = so_far.aligned in
    rw (take-next items n c below is)
    (record {
      laid = λ before same. ChildrenLaid-push (before ++ old) (before ++ now) (before ++ new) row entry (take n items) c (so_far.laid before same)
          (subst (AddsChildren (before ++ now) (before ++ new) c entry.document) (sym same) (adds before (beside before old now old_ends now_ends same aligned)));
      ends_are = children_ends-push old_ends now_ends new_ends (take n items) c so_far.ends_are ends;
      aligned = omega (arith, aligned, grown);
    })

pub AddsRow-behind : (old new : List Laid) (old_ends new_ends : List ℕ) (row : Row) (entry : Entry) → ChildrenBehind old new old_ends new_ends row entry (out-Row row).children → AddsRowBehind (length old_ends) old new row entry
AddsRow-behind old new old_ends new_ends row entry done = λ before same. AddsRow-laid (before ++ old) (before ++ new) row entry (done.laid before same)

-- a row with all beneath it
pub ChildrenBehind-whole : (old new : List Laid) (old_ends new_ends : List ℕ) (row : Row) (entry : Entry) → ChildrenBehind old new old_ends new_ends row entry (out-Row row).children →
    length new_ends ≡ length old_ends + length (row_ends row (length old_ends))
ChildrenBehind-whole old new old_ends new_ends row entry done =
    let front = old_ends ++ length old_ends ∷ [] in
    let below = each (map children_ends (out-Row row).children) (length old_ends + 1) in
    let size : length new_ends ≡ (length old_ends + 1) + length below = ap length done.ends_are ∙ (length-append front below ∙ ap (λ (k : ℕ). k + length below) (length-append old_ends (length old_ends ∷ []))) in
    omega (arith, size, row-size row (length old_ends))

pub ends-patched : (old new : List Laid) (old_ends new_ends : List ℕ) (row : Row) (entry : Entry) → ChildrenBehind old new old_ends new_ends row entry (out-Row row).children →
    set new_ends (length old_ends) (length new_ends) ≡ old_ends ++ row_ends row (length old_ends)
ends-patched old new old_ends new_ends row entry done =
    let below = each (map children_ends (out-Row row).children) (length old_ends + 1) in
    let reach : length new_ends ≡ length old_ends + 1 + length below =
    ap length done.ends_are ∙ (length-append (old_ends ++ length old_ends ∷ []) below ∙ ap (λ (k : ℕ). k + length below) (length-append old_ends (length old_ends ∷ []))) in
    ap (λ (xs : List ℕ). set xs (length old_ends) (length new_ends)) (done.ends_are ∙ append_assoc old_ends (length old_ends ∷ []) below)
    ∙ (set-append_seam old_ends (length old_ends) below (length new_ends)
    ∙ (ap (λ (k : ℕ). old_ends ++ k ∷ below) reach
    ∙ ap (λ (f : Ends). old_ends ++ f (length old_ends)) (sym (fold_row-out ends_children ends_row row))))

-- one more row takes no more room than all of its path
pub RowsBehind-room : (old now : List Laid) (old_ends now_ends : List ℕ) (document parent : ℕ) (c : Children) (items : List Row) (n : ℕ) (r : Row) → items ≡ (out-Children c).rows →
    n < length items → r ≡ get_or items n r → RowsBehind old now old_ends now_ends document parent (out-Children c).path (take n items) →
    (n + length old_ends ≤ length now_ends) × (length now_ends + length (row_ends r (length now_ends)) ≤ length old_ends + length (children_ends c (length old_ends)))
RowsBehind-room old now old_ends now_ends document parent c items n r same below is done_so =
    let done = each (map row_ends (take n items)) (length old_ends) in
    let size : length now_ends ≡ length old_ends + length done = ap length done_so.ends_are ∙ length-append old_ends done in
    let whole : length (children_ends c (length old_ends)) ≡ length (each (map row_ends items) (length old_ends)) =
    ap (λ (f : Ends). length (f (length old_ends))) (fold_children-out ends_children ends_row c) ∙ ap (λ (rs : List Row). length (each (map row_ends rs) (length old_ends))) (sym same) in
    let at : length (row_ends r (length now_ends)) ≡ length (row_ends r (length old_ends + length done)) = ap (λ (k : ℕ). length (row_ends r k)) size in
    let long = each-long row_ends some-ends (take n items) (length old_ends) in
    let taken = length-take n items in
    let room = each-room row_ends items n r (length old_ends) below is in
    (omega (arith, long, taken, below, size), omega (arith, room, at, whole, size))

-- one more nested path takes no more room than all of its row
pub ChildrenBehind-room : (old now : List Laid) (old_ends now_ends : List ℕ) (row : Row) (entry : Entry) (items : List Children) (n : ℕ) (c : Children) → items ≡ (out-Row row).children →
    n < length items → c ≡ get_or items n c → ChildrenBehind old now old_ends now_ends row entry (take n items) →
    (length old_ends < length now_ends) × (length now_ends + length (children_ends c (length now_ends)) ≤ length old_ends + length (row_ends row (length old_ends)))
ChildrenBehind-room old now old_ends now_ends row entry items n c same below is done_so =
    let front = old_ends ++ length old_ends ∷ [] in
    let done = each (map children_ends (take n items)) (length old_ends + 1) in
    let front_size = length-append old_ends (length old_ends ∷ []) in
    let size : length now_ends ≡ (length old_ends + 1) + length done = ap length done_so.ends_are ∙ (length-append front done ∙ ap (λ (k : ℕ). k + length done) front_size) in
    let whole : length (row_ends row (length old_ends)) ≡ 1 + length (each (map children_ends items) (length old_ends + 1)) =
    row-size row (length old_ends) ∙ ap (λ (cs : List Children). 1 + length (each (map children_ends cs) (length old_ends + 1))) (sym same) in
    let at : length (children_ends c (length now_ends)) ≡ length (children_ends c ((length old_ends + 1) + length done)) = ap (λ (k : ℕ). length (children_ends c k)) size in
    let room = each-room children_ends items n c (length old_ends + 1) below is in
    (omega (arith, size), omega (arith, room, at, whole, size))

pub all-taken : {X : Type 0} (items : List X) (n : ℕ) → length items ≤ n → take n items ≡ items
all-taken items n reached = take_all n items reached

abbrev root_of : Document → List ℕ × Row
root_of d = (d.id, d.root)

abbrev of_document : ℕ × (List ℕ × Row) → List PlacedRow
of_document d = rows_of d.1.1 0 d.1.0 (d.0 ∷ [])

pub rows-push : (done : List Document) (d : Document) → rows_of_documents (done ++ d ∷ []) ≡ rows_of_documents done ++ rows_of d.root 0 d.id (length done ∷ [])
rows-push done d =
    ap shard_rows (map-append root_of done (d ∷ [])) ∙ (ap (flat_map of_document) (enumerate-push 0 (map root_of done) (root_of d))
    ∙ (flat_map-append of_document (enumerate_from 0 (map root_of done)) ((0 + length (map root_of done), root_of d) ∷ [])
    ∙ (ap (λ (xs : List PlacedRow). rows_of_documents done ++ xs) (append-nil (rows_of d.root 0 d.id ((0 + length (map root_of done)) ∷ [])))
    ∙ ap (λ (k : ℕ). rows_of_documents done ++ rows_of d.root 0 d.id (k ∷ [])) (let at : 0 + length (map root_of done) ≡ length done = omega (arith, length-map done root_of) in at))))

pub root_ends-push : (done : List Document) (d : Document) → each (map root_ends (done ++ d ∷ [])) 0 ≡ each (map root_ends done) 0 ++ row_ends d.root (length (each (map root_ends done) 0))
root_ends-push done d =
    ap (λ (fs : List Ends). each fs 0) (map-append root_ends done (d ∷ []))
    ∙ (each-push (map root_ends done) (root_ends d) 0
    ∙ ap (λ (k : ℕ). each (map root_ends done) 0 ++ row_ends d.root k) (let at : 0 + length (each (map root_ends done) 0) ≡ length (each (map root_ends done) 0) = omega arith in at))

pub RootsLaid-none : RootsLaid [] [] []
unfolding each placed
RootsLaid-none = record { rows_are = λ more. refl; ends_are = refl; aligned = refl }

-- one more document behind the others
pub RootsLaid-push : (now new : List Laid) (now_ends new_ends : List ℕ) (done : List Document) (d : Document) →
    RootsLaid now now_ends done → AddsRow now new d.root (record { document = length done; origin = Root }) →
    new_ends ≡ now_ends ++ row_ends d.root (length now_ends) → length new ≡ length new_ends →
    RootsLaid new new_ends (done ++ d ∷ [])
RootsLaid-push now new now_ends new_ends done d laid adds ends aligned =
    record {
      rows_are = λ more.
          let ids = ids_of (done ++ d ∷ []) ++ more in
          let split : ids ≡ ids_of done ++ d.id ∷ more = ap (λ (xs : List (List ℕ)). xs ++ more) (map-append (λ (e : Document). e.id) done (d ∷ [])) ∙ append_assoc (ids_of done) (d.id ∷ []) more in
          let id_is : get_or ids (length done) [] ≡ d.id =
          ap (λ (xs : List (List ℕ)). get_or xs (length done) []) split ∙ (ap (λ (k : ℕ). get_or (ids_of done ++ d.id ∷ more) k []) (sym (length-map done (λ (e : Document). e.id))) ∙ get_or-append_seam (ids_of done) d.id more []) in
          adds.added ids
          ∙ (ap (λ (xs : List PlacedRow). xs ++ rows_of d.root 0 (get_or ids (length done) []) (length done ∷ [])) (ap (λ (xs : List (List ℕ)). flat_rows xs now) split ∙ laid.rows_are (d.id ∷ more))
          ∙ (ap (λ (id : List ℕ). rows_of_documents done ++ rows_of d.root 0 id (length done ∷ [])) id_is
          ∙ sym (rows-push done d)));
      ends_are = ends ∙ (ap (λ (xs : List ℕ). xs ++ row_ends d.root (length xs)) laid.ends_are ∙ sym (root_ends-push done d));
      aligned = aligned;
    }

-- documents are no more than their rows
pub few-documents : (documents : List Document) → length documents ≤ length (each (map root_ends documents) 0)
few-documents documents = each-long root_ends (λ (e : Document) b. some-ends e.root b) documents 0
