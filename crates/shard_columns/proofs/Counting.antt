-- The greatest of some numbers, and the most values that a row has.
use Rattle.std.proofs.Common.{option_map, ◌≡◌, refl, ℕ, ◌+◌, ◌-◌, ◌<◌, ◌≤◌, zero, suc, true, false, Bool, cond, eqb, List, [], ◌∷◌, ◌++◌, Some, Option, length, get_or, take, map, find, inl, inr, sym, ◌∙◌, ap, subst, arith, T}
use Rattle.std.specs.Prelude.{nat_lt, slice_get}
use Rattle.std.specs.Option.{option_map_or}
use Rattle.std.specs.Ordering.{nat_cmp, ord_max}
use Rattle.std.proofs.lemmas.List.{map-append, length-map, get_or-map, get_or_past}
use Rattle.std.proofs.lemmas.Bool.{cases_lt}
use Rattle.std.proofs.lemmas.Option.{same_Some}
use Rattle.std.proofs.lemmas.Bool.Decides.{nat_tests}
use Rattle.std.proofs.Math.Facts.{eqb_yes}
use Rattle.std.specs.List.Sorted.{IsStrictlyIncreasing}
use Rattle.agg_model.specs.declared.row.FieldValues.{FieldValues}
use Rattle.agg_model.specs.declared.row.Scalar.{Scalar}
use Rattle.agg_model.specs.declared.mapping.FieldKind.{FieldKind}
use Rattle.agg_evaluation.specs.Ceiling.{greatest_of}
use Rattle.agg_evaluation.specs.Rows.{PlacedRow, no_row, row_of, values_of}
use Rattle.shard_columns.specs.declared.layout.Laid.{Laid}
use Rattle.shard_columns.specs.declared.values.Span.{Span}
use Rattle.shard_columns.specs.declared.values.Held.{Held}
use Rattle.shard_columns.specs.declared.values.Draft.{Draft}
use Rattle.shard_columns.specs.declared.values.Drafts.{Drafts}
use Rattle.shard_columns.specs.declared.words.WordNumbers.{WordNumbers}
use Rattle.shard_columns.specs.Counts.{most_values}
use Rattle.shard_columns.specs.Layout.{values_of_laid}
use Rattle.shard_columns.specs.Stored.{AreDrafts}
use Rattle.shard_columns.specs.Values.{Reader, Words, no_span, span_in, scalars, typed_len, draft_values, found_values, held_count, most_held, FieldsBelow, IsShaped}
use Rattle.shard_columns.specs.Words.{Shows, AllFieldsBelow}
use Rattle.shard_columns.proofs.Laying.{take-next}
use Rattle.shard_columns.proofs.Presenting.{found-unwrap}
use Rattle.shard_columns.proofs.Searching.{find-some, rises-by}
use Rattle.shard_columns.proofs.Storing.{scalars-len, length-cut, span-part}

abbrev pub more : ℕ → ℕ → ℕ
more n rest = cond (nat_lt n rest) rest n

greatest-push : (ns : List ℕ) (n : ℕ) → greatest_of (ns ++ n ∷ []) ≡ more (greatest_of ns) n
greatest-push [] n = only n
  where
    only : (n : ℕ) → more n 0 ≡ more 0 n
    only n = grind (arith, nat_tests)
greatest-push (m ∷ ms) n = ap (more m) (greatest-push ms n) ∙ regroup m (greatest_of ms) n
  where
    regroup : (a b c : ℕ) → more a (more b c) ≡ more (more a b) c
    regroup a b c = grind (arith, nat_tests)

max-more : (a b : ℕ) → ord_max nat_cmp a b ≡ more a b
max-more a b = grind (arith, nat_tests)

-- the greatest with one more item
pub greatest-more : {X : Type 0} (f : X → ℕ) (items : List X) (i : ℕ) (x : X) (most value new : ℕ) → i < length items → x ≡ get_or items i x → value ≡ f x → most ≡ greatest_of (map f (take i items)) →
    new ≡ ord_max nat_cmp most value → new ≡ greatest_of (map f (take (i + 1) items))
greatest-more f items i x most value new below is value_is before max =
    let next : map f (take (i + 1) items) ≡ map f (take i items) ++ f x ∷ [] = ap (map f) (take-next items i x below is) ∙ map-append f (take i items) (x ∷ []) in
    max ∙ (max-more most value ∙ ((λ j. more (before j) (value_is j)) ∙ sym (ap greatest_of next ∙ greatest-push (map f (take i items)) (f x))))

-- the word that has so many bytes
pub sized : (ws : Words) (i n : ℕ) → option_map length (slice_get ws i) ≡ Some n → (w : List ℕ) × ((w ≡ get_or ws i w) × (n ≡ length w))
sized [] i n is = absurd (cc is)
sized (v ∷ vs) zero n is = (v, (refl, sym (same_Some (length v) n is)))
sized (v ∷ vs) (suc i) n is = sized vs i n is

more-first : (n rest : ℕ) → n ≤ more n rest
more-first n rest = grind (arith, nat_tests)

more-rest : (n rest : ℕ) → rest ≤ more n rest
more-rest n rest = grind (arith, nat_tests)

more-least : (n rest m : ℕ) → n ≤ m → rest ≤ m → more n rest ≤ m
more-least n rest m first others = grind (arith, nat_tests)

pub greatest-has : (ns : List ℕ) (k : ℕ) → k < length ns → get_or ns k 0 ≤ greatest_of ns
greatest-has [] k low = absurd (omega (arith, low))
greatest-has (n ∷ ns) zero low = more-first n (greatest_of ns)
greatest-has (n ∷ ns) (suc k) low = let rest = greatest-has ns k (omega (arith, low)) in omega (arith, rest, more-rest n (greatest_of ns))

pub greatest-least : (ns : List ℕ) (m : ℕ) → ((k : ℕ) → k < length ns → get_or ns k 0 ≤ m) → greatest_of ns ≤ m
greatest-least [] m all = omega arith
greatest-least (n ∷ ns) m all = more-least n (greatest_of ns) m (all 0 (omega arith)) (greatest-least ns m (λ k low. all (suc k) (omega (arith, low))))

abbrev span_size : Span → ℕ
span_size s = s.end - s.start

-- no row has more values than the most that is held
span-few : (hs : List Held) (n : ℕ) → span_size (span_in hs n) ≤ greatest_of (map held_count hs)
span-few [] n = omega arith
span-few (h ∷ hs) n = pick (eqb h.row n) (span-few hs n)
  where
    pick : (b : Bool) → span_size (span_in hs n) ≤ greatest_of (map held_count hs) → span_size (option_map_or (λ h. h.span) (cond b (Some h) (find (λ (x : Held). eqb x.row n) hs)) no_span) ≤ more (held_count h) (greatest_of (map held_count hs))
    pick true rest = more-first (held_count h) (greatest_of (map held_count hs))
    pick false rest = omega (arith, rest, more-rest (held_count h) (greatest_of (map held_count hs)))

-- each span that is held is that of its row
span-held : (hs : List Held) (k : ℕ) (d : Held) → IsStrictlyIncreasing (map (λ h. h.row) hs) → k < length hs → span_in hs (get_or hs k d).row ≡ (get_or hs k d).span
span-held hs k d rise low =
    ap (λ (o : Option Held). option_map_or (λ (h : Held). h.span) o no_span)
    (find-some hs (get_or hs k d).row k d low refl (λ j before same. let up = rises-by (λ (h : Held). h.row) hs rise j k d before low in absurd (omega (arith, up, same))))

-- the most that is held is the most that any of so many rows has
most-of-rows : (d : Draft) (rows : ℕ) (counts : List ℕ) → IsShaped rows d → length counts ≡ rows → ((n : ℕ) → n < rows → get_or counts n 0 ≡ span_size (span_in d.held n)) → most_held d ≡ greatest_of counts
most-of-rows d rows counts shaped size same =
    let hs = d.held in
    let none : Held = record { row = 0; span = no_span } in
    let up : greatest_of (map held_count hs) ≤ greatest_of counts =
    greatest-least (map held_count hs) (greatest_of counts) (λ k low.
    let k_low : k < length hs = omega (arith, low, length-map hs held_count) in
    let row = (get_or hs k none).row in
    let row_low : row < rows = shaped.below k none k_low in
    let at = get_or-map held_count hs k none 0 k_low in
    let span = ap span_size (span-held hs k none shaped.rising k_low) in
    omega (arith, at, span, same row row_low, greatest-has counts row (omega (arith, row_low, size)))) in
    let down : greatest_of counts ≤ greatest_of (map held_count hs) =
    greatest-least counts (greatest_of (map held_count hs)) (λ k low. omega (arith, same k (omega (arith, low, size)), span-few hs k)) in
    omega (arith, up, down)

-- how many values a draft has in a row
draft-count : (show : ℕ → Scalar) (d : Draft) (rows n : ℕ) → IsShaped rows d → length (draft_values show d n) ≡ span_size (span_in d.held n)
draft-count show d rows n shaped =
    let part = span-part (typed_len d.typed) d.held n shaped.within in
    let size = scalars-len show d.typed in
    length-cut (scalars show d.typed) (span_in d.held n) (part.0, omega (arith, part.1, size))

abbrev pub field_count : ℕ → Laid → ℕ
field_count f l = length (found_values f l.values.now)

-- a field beyond the mapping has no values
found-beyond : (count f : ℕ) (vs : List FieldValues) → FieldsBelow count vs → count ≤ f → found_values f vs ≡ []
unfolding FieldsBelow
found-beyond count f [] below beyond = refl
found-beyond count f (v ∷ vs) below beyond = pick (eqb v.field f) refl (found-beyond count f vs below.1 beyond)
  where
    pick : (b : Bool) → eqb v.field f ≡ b → found_values f vs ≡ [] → option_map_or (λ (x : FieldValues). x.values) (cond b (Some v) (find (λ (x : FieldValues). eqb x.field f) vs)) [] ≡ []
    pick true e rest = absurd (let same : v.field ≡ f = eqb_yes (subst T (sym e) tt) in omega (arith, below.0, beyond, same))
    pick false e rest = rest

-- nor has any row, so that the most is 0
most-beyond : (count f : ℕ) (rows : List Laid) → AllFieldsBelow count rows → count ≤ f → greatest_of (map (field_count f) rows) ≡ 0
unfolding AllFieldsBelow
most-beyond count f [] below beyond = refl
most-beyond count f (l ∷ ls) below beyond =
    let first : field_count f l ≡ 0 = ap length (found-beyond count f l.values.now below.0 beyond) in
    let rest = most-beyond count f ls below.1 beyond in
    (λ i. more (first i) (rest i))

at-place : {X : Type 0} (g : X → ℕ) (xs : List X) (k : ℕ) → k < length xs → (x : X) × ((slice_get xs k ≡ Some x) × (get_or (map g xs) k 0 ≡ g x))
at-place g [] k low = absurd (omega (arith, low))
at-place g (x ∷ xs) zero low = (x, (refl, refl))
at-place g (x ∷ xs) (suc k) low = at-place g xs k (omega (arith, low))

-- for each field the most that its draft holds is the most that a row has
pub most-made : (kinds : List FieldKind) (numbers : WordNumbers) (rows : List Laid) (drafts : Drafts) (show : Reader) → AreDrafts kinds numbers rows drafts → Shows numbers show → AllFieldsBelow (length kinds) rows →
    (f : ℕ) → get_or (map most_held drafts.columns.items) f 0 ≡ greatest_of (map (field_count f) rows)
most-made kinds numbers rows drafts show are shows below f =
    let size = are.sizes in
    elim (cases_lt f (length kinds)) [
      | inl inside ↦
          let here = at-place most_held drafts.columns.items f (omega (arith, inside, size)) in
          let d : Draft = here.0 in
          let shaped : IsShaped (length rows) d = are.shaped f d here.1.0 in
          here.1.1 ∙ most-of-rows d (length rows) (map (field_count f) rows) shaped (length-map rows (field_count f)) (λ n low.
          let there = at-place (field_count f) rows n low in
          let l : Laid = there.0 in
          let values : draft_values (show f) d n ≡ found_values f l.values.now =
          sym (ap (λ (o : Option Draft). option_map_or (λ (x : Draft). draft_values (show f) x n) o []) here.1.0) ∙ are.values show shows f n l inside there.1.0 in
          there.1.1 ∙ (sym (ap length values) ∙ draft-count (show f) d (length rows) n shaped))
      | inr beyond ↦
          get_or_past (map most_held drafts.columns.items) f 0 (omega (arith, beyond, size, length-map drafts.columns.items most_held)) ∙ sym (most-beyond (length kinds) f rows below beyond)
    ]

-- rows that are laid have as many values of a field as the rows that are placed
pub counts-placed : (f : ℕ) (rows : List PlacedRow) (laid : List Laid) → map (λ r. r.values) rows ≡ values_of_laid laid → map (λ r. length (values_of f r)) rows ≡ map (field_count f) laid
counts-placed f [] [] same = refl
counts-placed f [] (l ∷ ls) same = absurd (cc same)
counts-placed f (r ∷ rs) [] same = absurd (cc same)
counts-placed f (r ∷ rs) (l ∷ ls) same =
    let values : r.values ≡ l.values.now = cc same in
    let others : map (λ (r : PlacedRow). r.values) rs ≡ values_of_laid ls = cc same in
    let first : length (values_of f r) ≡ field_count f l = ap length (found-unwrap (find (λ (v : FieldValues). eqb v.field f) r.values)) ∙ ap (λ (vs : List FieldValues). length (found_values f vs)) values in
    let rest = counts-placed f rs ls others in
    (λ i. first i ∷ rest i)

-- the longest word of each field
pub longest-at : (words : List Words) (f : ℕ) → get_or (map (λ ws. greatest_of (map length ws)) words) f 0 ≡ greatest_of (map length (get_or words f []))
longest-at [] f = refl
longest-at (w ∷ ws) zero = refl
longest-at (w ∷ ws) (suc f) = longest-at ws f

-- no row has more values of a field than the most that a row has
pub most-each : (f n : ℕ) (rows : List PlacedRow) → length (values_of f (row_of rows n)) ≤ most_values f rows
most-each f n rows = elim (cases_lt n (length rows)) [
  | inl inside ↦
      (let at = get_or-map (λ (r : PlacedRow). length (values_of f r)) rows n no_row 0 inside in
      omega (arith, at, greatest-has (map (λ (r : PlacedRow). length (values_of f r)) rows) n (omega (arith, inside, length-map rows (λ (r : PlacedRow). length (values_of f r))))))
  | inr past ↦ omega (arith, ap (λ (r : PlacedRow). length (values_of f r)) (get_or_past rows n no_row past))
]
