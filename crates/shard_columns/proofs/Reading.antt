-- What the fields of a shard say of the rows that it shows.
use Rattle.std.proofs.Common.{◌≡◌, refl, zero, suc, true, false, Bool, cond, ℕ, ℤ, ◌+◌, ◌-◌, ◌<◌, ◌≤◌, ◌^◌, List, [], ◌∷◌, map, length, get_or, Some, None, eqb, filter, find, Option, inl, inr, sym, ◌∙◌, ap, subst, arith}
use Rattle.std.specs.Prelude.{◌&&◌, ◌==◌, nat_le, nat_lt, sum, sum_by}
use Rattle.std.proofs.lemmas.List.{length-map, get_or-map, get_or_read}
use Rattle.std.proofs.lemmas.Option.{slice_get-get_or, slice_get_past, slice_get_within, slice_get-map}
use Rattle.std.specs.Prelude.{Vec, option_map}
use Rattle.std.specs.declared.alloc.Global.{Global}
use Rattle.shard_columns.specs.declared.values.Typed.{Typed}
use Rattle.shard_columns.specs.declared.values.Typed.TheVariants as typed
use Rattle.shard_columns.specs.Values.{shown}
use Rattle.shard_columns.proofs.Searching.{taken}
use Rattle.std.proofs.lemmas.Bool.{cases_lt}
use Rattle.std.specs.Option.{option_map_or}
use Rattle.std.specs.List.{slice_get, list_all, range_with_len}
use Rattle.std.specs.List.Sorted.{IsStrictlyIncreasing}
use Rattle.agg_evaluation.specs.Rows.{PlacedRow, roots, values_of, beneath, is_within, row_of, no_row}
use Rattle.shard_columns.specs.Contexts.{AreEnclosed}
use Rattle.shard_columns.specs.declared.layout.Entry.{Entry}
use Rattle.shard_columns.specs.declared.shard.Shard.TheInside.{Inside}
use Rattle.shard_columns.specs.declared.columns.Column.{Column}
use Rattle.agg_model.specs.declared.row.Scalar.TheVariants as scalar
use Rattle.agg_model.specs.declared.mapping.FieldKind.{FieldKind}
use Rattle.agg_model.specs.declared.mapping.FieldKind.TheVariants.{Keyword}
use Rattle.shard_columns.specs.Dictionary.{words_of}
use Rattle.agg_evaluation.specs.ColumnBytes.{value_count, dictionary_bytes}
use Rattle.agg_model.specs.FieldKinds.{is_of_kind, is_number_kind}
use Rattle.agg_model.specs.declared.row.Scalar.{Scalar}
use Rattle.agg_model.specs.declared.row.FieldValues.{FieldValues}
use Rattle.shard_columns.specs.Columns.{Columns}
use Rattle.shard_columns.specs.Counts.{most_values}
use Rattle.shard_columns.specs.Homes.{home_count}
use Rattle.shard_columns.specs.Layout.{context_of, numbers_at}
use Rattle.shard_columns.specs.Values.{Words, by_words, row_values, held_values, found_values, present_from, column_values, scalars, span_of, typed_len, is_taken, words_in}
use Rattle.shard_columns.specs.Columnar.{IsColumn, wholes_part, ordinals_part, flags_part}
use Rattle.shard_columns.specs.Lent.{wholes_in, flags_in, word_at, holds_numbers}
use Rattle.shard_columns.proofs.Drafting.{all-taken-of-kind}
use Rattle.shard_columns.proofs.Presenting.{range-length, range-at, found-unwrap, found-present, found-beyond, lent-wholes, lent-flags, lent-ordinals, wholes-all}
use Rattle.agg_evaluation.specs.RowsWeight.{rows_weight}
use Rattle.shard_columns.specs.Shard.{columns_of, placed_rows, IsSound}
use Rattle.shard_columns.proofs.Storing.{scalars-len, length-cut, get_or-cut}
use Rattle.shard_columns.proofs.Building.{values-are, size-is, contexts-are, context-at, id-at}
use Rattle.shard_columns.proofs.Numbering.{rows-numbered, rows-beneath, numbers-rise, numbers-below, numbers-few}
use Rattle.shard_columns.proofs.Weighing.{words_weight, rows-light, values-light, words-light, counts-light, bytes-words, dictionaries-bytes}

filter-few : (p : PlacedRow → Bool) (rows : List PlacedRow) → length (filter p rows) ≤ length rows
filter-few p [] = omega arith
filter-few p (r ∷ rs) = pick (p r) (filter-few p rs)
  where
    pick : (b : Bool) → length (filter p rs) ≤ length rs → length (cond b (r ∷ filter p rs) (filter p rs)) ≤ suc (length rs)
    pick true few = omega arith
    pick false few = omega arith

filter-below : (p : ℕ → Bool) (ns : List ℕ) (m : ℕ) → ((j : ℕ) → j < length ns → get_or ns j 0 < m) → (k : ℕ) → k < length (filter p ns) → get_or (filter p ns) k 0 < m
filter-below p [] m all k low = absurd (omega (arith, low))
filter-below p (n ∷ ns) m all k low = pick (p n) k low (filter-below p ns m (λ j j_low. all (suc j) (omega (arith, j_low))))
  where
    pick : (b : Bool) (k : ℕ) → k < length (cond b (n ∷ filter p ns) (filter p ns)) → ((k : ℕ) → k < length (filter p ns) → get_or (filter p ns) k 0 < m) → get_or (cond b (n ∷ filter p ns) (filter p ns)) k 0 < m
    pick true zero low' rest = all 0 (omega arith)
    pick true (suc k) low' rest = rest k (omega (arith, low'))
    pick false k low' rest = rest k low'

pub beneath-few : (rows : List PlacedRow) (context : ℕ) (outer : PlacedRow) → length (beneath rows context outer) ≤ length rows
beneath-few rows context outer = filter-few (λ r. (r.context == context) && is_within r outer) rows

-- the rows beneath a row, by their numbers
pub child-row : (rows : List PlacedRow) (context : ℕ) (outer : PlacedRow) (place : ℕ) (ns : List ℕ) → map (row_of rows) ns ≡ beneath rows context outer → place < length (beneath rows context outer) →
    (place < length ns) × (slice_get (beneath rows context outer) place ≡ Some (row_of rows (get_or ns place 0)))
child-row rows context outer place ns are there =
    let within : place < length ns = omega (arith, ap length are, length-map ns (row_of rows)) in (
      within,
      slice_get-get_or (beneath rows context outer) place no_row there
          ∙ ap Some (ap (λ (rs : List PlacedRow). get_or rs place no_row) (sym are) ∙ get_or-map (row_of rows) ns place 0 no_row within),
    )

abbrev pub vals : Inside → List (List FieldValues)
vals s = row_values s.homes (by_words s.words.items) s.columns.items (length s.rows)

pub aligned : (s : Inside) → length (vals s) ≡ length s.rows
aligned s = length-map (range_with_len 0 (length s.rows)) (λ n. present_from (λ f. held_values s.homes (by_words s.words.items) s.columns.items f n) 0 (length s.columns.items)) ∙ range-length 0 (length s.rows)

module _ (s : Inside) (v : Columns) (view : columns_of s ≡ v) (sound : IsSound s) where
  pub rows-are : placed_rows s ≡ v.rows
  rows-are = ap (λ (c : Columns). c.rows) view

  pub len-is : length s.rows ≡ length v.rows
  len-is = sym (size-is s.ids s.rows (vals s) (aligned s)) ∙ ap length rows-are

  pub in-range : (n : ℕ) → n < length v.rows → n < length s.rows
  in-range n below = subst (λ (k : ℕ). n < k) (sym len-is) below

  -- each row has a home
  pub home-in : (n : ℕ) → n < length v.rows → n < home_count s.homes
  home-in n below = subst (λ (k : ℕ). n < k) (sym sound.homed) (in-range n below)

  pub context-is : (n : ℕ) (e : Entry) → n < length v.rows → e ≡ get_or s.rows n e → (row_of v.rows n).context ≡ context_of e.origin
  context-is n e below is = ap (λ (rs : List PlacedRow). (row_of rs n).context) (sym rows-are) ∙ context-at s.ids s.rows (vals s) n e (aligned s) (in-range n below) is

  pub most-is : (field : ℕ) → get_or s.most.items field 0 ≡ most_values field v.rows
  most-is field = sound.most field ∙ ap (most_values field) rows-are

  pub rows-few : length v.rows < 2 ^ 32
  rows-few = omega (arith, rows-light v.rows, ap rows_weight rows-are, sound.light)

  pub context-small : (n : ℕ) → (row_of v.rows n).context ≤ 1000
  context-small n = omega (arith, ap (λ (rs : List PlacedRow). (row_of rs n).context) rows-are, sound.contexts n, sound.few_paths)

  pub id-is : (n : ℕ) (e : Entry) → n < length v.rows → e ≡ get_or s.rows n e → (row_of v.rows n).id ≡ get_or s.ids e.document []
  id-is n e below is = ap (λ (rs : List PlacedRow). (row_of rs n).id) (sym rows-are) ∙ id-at s.ids s.rows (vals s) n e (aligned s) (in-range n below) is

  same-contexts : map (λ r. r.context) v.rows ≡ map (λ e. context_of e.origin) s.rows
  same-contexts = ap (map (λ (r : PlacedRow). r.context)) (sym rows-are) ∙ contexts-are s.ids s.rows (vals s) (aligned s)

  pub enclosed-are : AreEnclosed v.rows s.ends.items
  enclosed-are = subst (λ (rs : List PlacedRow). AreEnclosed rs s.ends.items) rows-are sound.enclosed

  pub numbers-ascend : (context : ℕ) (ns : List ℕ) → ns ≡ numbers_at context 0 s.rows → IsStrictlyIncreasing ns
  numbers-ascend context ns are = subst IsStrictlyIncreasing (sym are) (numbers-rise context 0 s.rows)

  -- the rows of a context within a row, by their numbers
  pub beneath-are : (context n : ℕ) (ns : List ℕ) → n < length v.rows → ns ≡ numbers_at context 0 s.rows →
      beneath v.rows context (row_of v.rows n) ≡ map (row_of v.rows) (filter (λ j. nat_le n j && nat_lt j (get_or s.ends.items n 0)) ns)
  beneath-are context n ns below are =
      rows-beneath v.rows context (row_of v.rows n) (λ j. nat_le n j && nat_lt j (get_or s.ends.items n 0)) 0 [] v.rows s.rows (λ j j_below. enclosed-are.within n j below j_below) refl refl same-contexts
      ∙ ap (λ (xs : List ℕ). map (row_of v.rows) (filter (λ j. nat_le n j && nat_lt j (get_or s.ends.items n 0)) xs)) (sym are)

  module _ (context n : ℕ) (ns : List ℕ) (below : n < length v.rows) (are : ns ≡ numbers_at context 0 s.rows) (stop : ℕ) (stop_is : stop ≡ get_or s.ends.items n stop) (found : List ℕ)
      (between : found ≡ filter (λ j. nat_le n j && nat_lt j stop) ns) where
    pub children-are : map (row_of v.rows) found ≡ beneath v.rows context (row_of v.rows n)
    children-are =
        let ends : stop ≡ get_or s.ends.items n 0 = get_or_read s.ends.items n stop (omega (arith, enclosed-are.sizes)) stop_is 0 in
        sym (beneath-are context n ns below are ∙ ap (map (row_of v.rows)) (ap (λ (k : ℕ). filter (λ j. nat_le n j && nat_lt j k) ns) (sym ends) ∙ sym between))

    pub child-number : (k : ℕ) → k < length found → get_or found k 0 < length v.rows
    child-number k low =
        let all : (j : ℕ) → j < length ns → get_or ns j 0 < length v.rows = λ j j_low.
        (let at = numbers-below context 0 s.rows j 0 (subst (λ (xs : List ℕ). j < length xs) are j_low) in
        omega (arith, at, ap (λ (xs : List ℕ). get_or xs j 0) are, len-is)) in
        subst (λ (xs : List ℕ). get_or xs k 0 < length v.rows) (sym between) (filter-below (λ j. nat_le n j && nat_lt j stop) ns (length v.rows) all k (subst (λ (xs : List ℕ). k < length xs) between low))

  -- the numbers that the shard keeps for a context
  pub numbers-are : (context : ℕ) (numbers : List (List ℕ)) (ns : List ℕ) → numbers ≡ s.numbers.items → ns ≡ get_or numbers context [] → ns ≡ numbers_at context 0 s.rows
  numbers-are context numbers ns same is = is ∙ (ap (λ (xs : List (List ℕ)). get_or xs context []) same ∙ sound.numbered.numbers_are context)

  module _ (ns : List ℕ) (ns_are : ns ≡ numbers_at 0 0 s.rows) where
    roots-are : map (row_of v.rows) ns ≡ roots v.rows
    roots-are = ap (map (row_of v.rows)) ns_are ∙ rows-numbered v.rows 0 0 [] v.rows s.rows refl refl same-contexts

    pub roots-len : length ns ≡ length (roots v.rows)
    roots-len = sym (length-map ns (row_of v.rows)) ∙ ap length roots-are

    pub roots-few : length ns < 2 ^ 32
    roots-few = omega (arith, numbers-few 0 0 s.rows, ap length ns_are, len-is, rows-few)

    pub root-in : (n : ℕ) → n < length (roots v.rows) → n < length ns
    root-in n below = subst (λ (k : ℕ). n < k) (sym roots-len) below

    pub root-number : (n : ℕ) → n < length (roots v.rows) → get_or ns n 0 < length v.rows
    root-number n below =
        let at = numbers-below 0 0 s.rows n 0 (subst (λ (xs : List ℕ). n < length xs) ns_are (root-in n below)) in
        omega (arith, at, ap (λ (xs : List ℕ). get_or xs n 0) ns_are, len-is)

    pub root-row : (n : ℕ) → n < length (roots v.rows) → slice_get (roots v.rows) n ≡ Some (row_of v.rows (get_or ns n 0))
    root-row n below =
        slice_get-get_or (roots v.rows) n no_row below ∙ ap Some (ap (λ (rs : List PlacedRow). get_or rs n no_row) (sym roots-are) ∙ get_or-map (row_of v.rows) ns n 0 no_row (root-in n below))

  row-fields : (n : ℕ) → n < length v.rows → (row_of v.rows n).values ≡ present_from (λ f. held_values s.homes (by_words s.words.items) s.columns.items f n) 0 (length s.columns.items)
  row-fields n below =
      let fields : ℕ → List FieldValues = λ k. present_from (λ f. held_values s.homes (by_words s.words.items) s.columns.items f k) 0 (length s.columns.items) in
      let below' : n < length (placed_rows s) = subst (λ (rs : List PlacedRow). n < length rs) (sym rows-are) below in
      let count = length s.rows in
      let size = range-length 0 count in
      let low = in-range n below in
      ap (λ (rs : List PlacedRow). (row_of rs n).values) (sym rows-are)
      ∙ (sym (get_or-map (λ (r : PlacedRow). r.values) (placed_rows s) n no_row [] below')
      ∙ (ap (λ (vs : List (List FieldValues)). get_or vs n []) (values-are s.ids s.rows (vals s) (aligned s))
      ∙ (get_or-map fields (range_with_len 0 count) n 0 [] (omega (arith, low, size)) ∙ ap fields (range-at 0 count n low ∙ (let e : 0 + n ≡ n = omega arith in e)))))

  pub values-held : (n field : ℕ) → n < length v.rows → values_of field (row_of v.rows n) ≡ held_values s.homes (by_words s.words.items) s.columns.items field n
  values-held n field below =
      let read : ℕ → List Scalar = λ f. held_values s.homes (by_words s.words.items) s.columns.items f n in
      let count = length s.columns.items in
      found-unwrap (find (λ (x : FieldValues). eqb x.field field) (row_of v.rows n).values)
      ∙ (ap (found_values field) (row-fields n below)
      ∙ elim (cases_lt field count) [
        | inl low ↦ found-present read 0 count field (omega arith) (omega (arith, low))
        | inr past ↦ found-beyond read 0 count field (omega (arith, past)) ∙ sym (ap (λ (o : Option Column). option_map_or (λ (c : Column). column_values s.homes (by_words s.words.items field) c n) o []) (slice_get_past s.columns.items field past))
      ])

  pub values-few : (n field : ℕ) → length (values_of field (row_of v.rows n)) < 2 ^ 32
  values-few n field = omega (arith, values-light field v.rows n, ap rows_weight rows-are, sound.light)

  kinds-are : s.kinds.items ≡ v.kinds
  kinds-are = ap (λ (x : Columns). x.kinds) view

  pub of-kind : (n field : ℕ) (k : FieldKind) → slice_get v.kinds field ≡ Some k → list_all (is_of_kind k) (values_of field (row_of v.rows n)) ≡ true
  of-kind n field k is =
      ap (λ (rs : List PlacedRow). list_all (is_of_kind k) (values_of field (row_of rs n))) (sym rows-are) ∙ sound.kinds field k (ap (λ (ks : List FieldKind). slice_get ks field) kinds-are ∙ is) n

  pub no-column : (n field : ℕ) (cs : List Column) → n < length v.rows → cs ≡ s.columns.items → slice_get cs field ≡ None → values_of field (row_of v.rows n) ≡ []
  no-column n field cs below same none =
      values-held n field below ∙ ap (λ (o : Option Column). option_map_or (λ (c : Column). column_values s.homes (by_words s.words.items field) c n) o []) (ap (λ (xs : List Column). slice_get xs field) (sym same) ∙ none)

  module _ (n field : ℕ) (cs : List Column) (c : Column) (below : n < length v.rows) (same : cs ≡ s.columns.items) (is : slice_get cs field ≡ Some c) where
    here : slice_get s.columns.items field ≡ Some c
    here = ap (λ (xs : List Column). slice_get xs field) (sym same) ∙ is

    pub column-sound : IsColumn s.homes c
    column-sound = sound.columns field c here

    pub has-column : values_of field (row_of v.rows n) ≡ column_values s.homes (by_words s.words.items field) c n
    has-column = values-held n field below ∙ ap (λ (o : Option Column). option_map_or (λ (c : Column). column_values s.homes (by_words s.words.items field) c n) o []) here

    taken-all : list_all (is_taken c.typed) (column_values s.homes (by_words s.words.items field) c n) ≡ true
    taken-all =
        let low = slice_get_within s.columns.items field c here in
        let k_is = slice_get-get_or s.kinds.items field Keyword (omega (arith, low, sound.column_sizes)) in
        let k = get_or s.kinds.items field Keyword in
        all-taken-of-kind k c.typed (column_values s.homes (by_words s.words.items field) c n) (sound.typed field k c k_is here)
        (ap (list_all (is_of_kind k)) (sym has-column) ∙ of-kind n field k (ap (λ (ks : List FieldKind). slice_get ks field) (sym kinds-are) ∙ k_is))

    pub wholes-lent : wholes_part c.typed (span_of s.homes c.spans n) ≡ wholes_in (values_of field (row_of v.rows n))
    wholes-lent = lent-wholes (by_words s.words.items field) c.typed (span_of s.homes c.spans n) taken-all ∙ ap wholes_in (sym has-column)

    pub flags-lent : flags_part c.typed (span_of s.homes c.spans n) ≡ flags_in (values_of field (row_of v.rows n))
    flags-lent = lent-flags (by_words s.words.items field) c.typed (span_of s.homes c.spans n) taken-all ∙ ap flags_in (sym has-column)

    pub ordinals-lent : (map (word_at (get_or s.words.items field [])) (ordinals_part c.typed (span_of s.homes c.spans n)) ≡ words_in (values_of field (row_of v.rows n)))
        × ((k : ℕ) → k < length (ordinals_part c.typed (span_of s.homes c.spans n)) → get_or (ordinals_part c.typed (span_of s.homes c.spans n)) k 0 < length (get_or s.words.items field []))
    ordinals-lent =
        let got = lent-ordinals (get_or s.words.items field []) c.typed (span_of s.homes c.spans n) taken-all in
        (got.0 ∙ ap words_in (sym has-column), got.1)

    pub count-is : length (values_of field (row_of v.rows n)) ≡ (span_of s.homes c.spans n).end - (span_of s.homes c.spans n).start
    count-is =
        let size = scalars-len (by_words s.words.items field) c.typed in
        let part = column-sound.within n (home-in n below) in
        ap length has-column ∙ length-cut (scalars (by_words s.words.items field) c.typed) (span_of s.homes c.spans n) (part.0, (omega (arith, part.1, size)))

    pub value-at : (place : ℕ) → place < length (values_of field (row_of v.rows n)) → slice_get (values_of field (row_of v.rows n)) place ≡ slice_get (scalars (by_words s.words.items field) c.typed) ((span_of s.homes c.spans n).start + place)
    value-at place there =
        let span = span_of s.homes c.spans n in
        let all = scalars (by_words s.words.items field) c.typed in
        let size = scalars-len (by_words s.words.items field) c.typed in
        let part = column-sound.within n (home-in n below) in
        let low : place < span.end - span.start = omega (arith, there, count-is) in
        slice_get-get_or (values_of field (row_of v.rows n)) place nothing there
        ∙ (ap Some (ap (λ (vs : List Scalar). get_or vs place nothing) has-column ∙ get_or-cut all span place nothing low)
        ∙ sym (slice_get-get_or all (span.start + place) nothing (omega (arith, low, part.0, part.1, size))))
      where
        nothing : Scalar
        nothing = scalar.Flag false

    pub place-low : (place : ℕ) → place < length (values_of field (row_of v.rows n)) → (span_of s.homes c.spans n).start + place < typed_len c.typed
    place-low place there =
        let part = column-sound.within n (home-in n below) in
        omega (arith, there, count-is, part.0, part.1)

    pub whole-at : (place : ℕ) (ns : Vec ℤ Global) (x : ℤ) → place < length (values_of field (row_of v.rows n)) → c.typed ≡ typed.Wholes ns → x ≡ get_or ns.items ((span_of s.homes c.spans n).start + place) x →
        slice_get (values_of field (row_of v.rows n)) place ≡ Some (scalar.Whole x)
    whole-at place ns x there typed_is x_is =
        let at = (span_of s.homes c.spans n).start + place in
        let low : at < length ns.items = omega (arith, place-low place there, ap typed_len typed_is) in
        value-at place there ∙ (ap (λ (t : Typed). slice_get (scalars (by_words s.words.items field) t) at) typed_is
        ∙ (slice_get-map scalar.Whole ns.items at ∙ ap (option_map scalar.Whole) (taken ns.items at x low x_is)))

    pub flag-at : (place : ℕ) (bs : Vec Bool Global) (x : Bool) → place < length (values_of field (row_of v.rows n)) → c.typed ≡ typed.Flags bs → x ≡ get_or bs.items ((span_of s.homes c.spans n).start + place) x →
        slice_get (values_of field (row_of v.rows n)) place ≡ Some (scalar.Flag x)
    flag-at place bs x there typed_is x_is =
        let at = (span_of s.homes c.spans n).start + place in
        let low : at < length bs.items = omega (arith, place-low place there, ap typed_len typed_is) in
        value-at place there ∙ (ap (λ (t : Typed). slice_get (scalars (by_words s.words.items field) t) at) typed_is
        ∙ (slice_get-map scalar.Flag bs.items at ∙ ap (option_map scalar.Flag) (taken bs.items at x low x_is)))

    pub word-at : (place : ℕ) (ps : Vec ℕ Global) (x : ℕ) (r : Scalar) → place < length (values_of field (row_of v.rows n)) → c.typed ≡ typed.Words ps → x ≡ get_or ps.items ((span_of s.homes c.spans n).start + place) x →
        r ≡ shown (get_or s.words.items field []) x → slice_get (values_of field (row_of v.rows n)) place ≡ Some r
    word-at place ps x r there typed_is x_is r_is =
        let at = (span_of s.homes c.spans n).start + place in
        let low : at < length ps.items = omega (arith, place-low place there, ap typed_len typed_is) in
        value-at place there ∙ (ap (λ (t : Typed). slice_get (scalars (by_words s.words.items field) t) at) typed_is
        ∙ (slice_get-map (by_words s.words.items field) ps.items at ∙ (ap (option_map (by_words s.words.items field)) (taken ps.items at x low x_is) ∙ ap Some (sym r_is))))

  pub whole-values : (n field : ℕ) (r : List ℤ) → r ≡ wholes_in (values_of field (row_of v.rows n)) → holds_numbers v.kinds field ≡ true → map scalar.Whole r ≡ values_of field (row_of v.rows n)
  whole-values n field r is holds = by_kind (slice_get v.kinds field) refl holds
    where
      by_kind : (o : Option FieldKind) → slice_get v.kinds field ≡ o → option_map_or is_number_kind o false ≡ true → map scalar.Whole r ≡ values_of field (row_of v.rows n)
      by_kind None e whole = absurd (cc whole)
      by_kind (Some k) e whole = ap (map scalar.Whole) is ∙ wholes-all k (values_of field (row_of v.rows n)) whole (of-kind n field k e)

  -- the words that the shard keeps for a field
  pub words-are : (field : ℕ) (words : List Words) (ws : Words) → words ≡ s.words.items → ws ≡ get_or words field [] → ws ≡ words_of field v.rows
  words-are field words ws same is = is ∙ (ap (λ (xs : List Words). get_or xs field []) same ∙ (sound.dictionaries field ∙ ap (words_of field) rows-are))

  pub words-few : (field : ℕ) → words_weight (words_of field v.rows) < 2 ^ 32
  words-few field = omega (arith, words-light field v.rows, ap rows_weight rows-are, sound.light)

  -- how many values are stored
  pub stored-are : s.values ≡ sum (map value_count v.rows)
  stored-are = sound.counted ∙ ap (λ (rs : List PlacedRow). sum (map value_count rs)) rows-are

  pub stored-few : s.values < 2 ^ 32
  stored-few = omega (arith, stored-are, counts-light v.rows, ap rows_weight rows-are, sound.light)

  pub bytes-are : (words : List Words) → words ≡ s.words.items → sum_by (λ ws. sum_by length ws) words ≡ sum (map (dictionary_bytes v.rows) (range_with_len 0 (length v.kinds)))
  bytes-are words same =
      dictionaries-bytes v.rows words (length v.kinds) (ap length same ∙ (sound.sizes ∙ ap (λ (x : Columns). length x.kinds) view)) (λ f. words-are f words (get_or words f []) same refl)

  pub few-dictionaries : (words : List Words) → words ≡ s.words.items → length words ≤ 1000
  few-dictionaries words same = omega (arith, ap length same, sound.sizes, sound.few_fields)

  pub bytes-light : (words : List Words) → words ≡ s.words.items → (f : ℕ) → sum_by length (get_or words f []) < 2 ^ 32
  bytes-light words same f = omega (arith, ap (λ (ws : Words). sum_by length ws) (words-are f words (get_or words f []) same refl), bytes-words (words_of f v.rows), words-few f)
