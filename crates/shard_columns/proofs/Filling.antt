-- Drafts of all rows, and the rows that columns stand for.
use Rattle.std.proofs.Common.{Bool, cond, T, Some, zero, suc, ◌≡◌, ◌≢◌, refl, ℕ, ◌+◌, ◌<◌, ◌≤◌, List, [], ◌∷◌, ◌++◌, map, length, get_or, take, sym, ◌∙◌, ap, subst, arith, length-append, None, Option, true, false, eqb, eq-eqb, find, inl, inr}
use Rattle.std.specs.Prelude.{◌^◌, slice_get, sum_by}
use Rattle.std.specs.Option.{option_map_or}
use Rattle.std.specs.List.{list_all, range_with_len}
use Rattle.std.specs.List.Sorted.{IsStrictlyIncreasing}
use Rattle.std.proofs.lemmas.Bool.{cases_lt}
use Rattle.std.proofs.lemmas.List.{get_or_past}
use Rattle.std.proofs.lemmas.List.Sums.{sum_by-cons}
use Rattle.std.specs.Prelude.{flat_map}
use Rattle.std.specs.Ordering.{nat_cmp}
use Rattle.std.specs.Cmp.Lexicographic.{slice_cmp}
use Rattle.std.specs.declared.cmp.Ordering.{Ordering}
use Rattle.std.specs.declared.cmp.Ordering.TheVariants.{Less, Equal, Greater}
use Rattle.std.specs.Ordering.{match_ordering}
use Rattle.list_laws.specs.Sorting.{ascending}
use Rattle.list_laws.specs.Sorting.{insert_once}
use Rattle.agg_model.specs.declared.row.Scalar.TheVariants as scalar
use Rattle.shard_columns.proofs.Dictionaries.{SameWords-ascending}
use Rattle.shard_columns.specs.Words.{AllFieldsBelow, AreDictionaries, row_words}
use Rattle.shard_columns.specs.Values.{words_in, words_at, words_for}
use Rattle.std.proofs.lemmas.Option.{same_Some, slice_get_within, slice_get-get_or}
use Rattle.std.proofs.Math.Facts.{eqb_yes}
use Rattle.agg_model.specs.FieldKinds.{is_of_kind}
use Rattle.agg_model.specs.declared.mapping.FieldKind.{FieldKind}
use Rattle.agg_model.specs.declared.row.Scalar.{Scalar}
use Rattle.agg_model.specs.declared.row.FieldValues.{FieldValues}
use Rattle.shard_columns.specs.declared.layout.Laid.{Laid}
use Rattle.shard_columns.specs.declared.values.Held.{Held}
use Rattle.shard_columns.specs.declared.values.Draft.{Draft}
use Rattle.shard_columns.specs.declared.values.Drafts.{Drafts}
use Rattle.shard_columns.specs.declared.columns.Column.{Column}
use Rattle.shard_columns.specs.declared.homes.Homes.{Homes}
use Rattle.shard_columns.specs.Homes.{home_count}
use Rattle.shard_columns.specs.declared.words.WordNumbers.{WordNumbers}
use Rattle.shard_columns.specs.Columnar.{AreFinished}
use Rattle.shard_columns.specs.Layout.{values_of_laid}
use Rattle.shard_columns.specs.Storing.{HasKinds, IsEmpty, AddsRowValues}
use Rattle.shard_columns.specs.Stored.{AreSound, AreStorable, AreDrafts, AreStored, AreColumns}
use Rattle.shard_columns.specs.Values.{Words, by_words, ranked, held_values, drafted, found_values, present, present_from, typed_len, draft_values, column_values, total_count, FieldsBelow, WithinReach, IsShaped}
use Rattle.shard_columns.specs.Words.{Shows}
use Rattle.shard_columns.proofs.Building.{total-push}
use Rattle.shard_columns.proofs.Drafting.{slice_get-last, same-or-other}
use Rattle.shard_columns.proofs.Laying.{take-next}
use Rattle.shard_columns.proofs.Storing.{Keeps, Shows-before, map-take}
use Rattle.std.proofs.lemmas.List.Sums.{sum_by-take-le}
use Rattle.agg_model.specs.declared.mapping.FieldKind.TheVariants.{Keyword}

IsShaped-empty : (d : Draft) → d.held ≡ [] → IsShaped 0 d
unfolding WithinReach
IsShaped-empty d none = record {
  rising = subst (λ (hs : List Held). IsStrictlyIncreasing (map (λ h. h.row) hs)) (sym none) (λ k low. absurd (omega (arith, low)));
  below = λ k h low. absurd (omega (arith, low, ap length none));
  within = subst (WithinReach (typed_len d.typed)) (sym none) tt;
}

pub AreDrafts-none : (kinds : List FieldKind) (numbers : WordNumbers) (drafts : Drafts) → length drafts.columns.items ≡ length kinds → HasKinds kinds drafts → IsEmpty drafts → length numbers.ranks.items ≡ 0 → AreDrafts kinds numbers [] drafts
AreDrafts-none kinds numbers drafts sizes kinds_are empty none = record {
  sizes = sizes;
  typed = kinds_are;
  shaped = λ f d at. IsShaped-empty d (empty.held f d at);
  bounded = record { values = λ f d at. (let size = empty.typed f d at in omega (arith, size)); words = omega (arith, none) };
  counted = empty.count;
  values = λ show shows f n l low at. absurd (cc at);
}

pub AreDrafts-push : (kinds : List FieldKind) (before after : WordNumbers) (rows : List Laid) (l : Laid) (old new : Drafts) → Keeps before after → AreDrafts kinds before rows old → AddsRowValues after old new (length rows) l.values.now →
    AreDrafts kinds after (rows ++ l ∷ []) new
AreDrafts-push kinds before after rows l old new kept so_far adds =
    let size : length rows + 1 ≡ length (rows ++ l ∷ []) = omega (arith, length-append rows (l ∷ [])) in
    let sizes = so_far.sizes in
    record {
      sizes = adds.sizes ∙ sizes;
      typed = adds.kinds kinds so_far.typed;
      shaped = λ f d at. subst (λ (n : ℕ). IsShaped n d) size (adds.shaped f d at);
      bounded = adds.bounded;
      counted = adds.counted ∙ (ap (λ (n : ℕ). n + total_count l.values.now) so_far.counted ∙ sym (total-push rows l));
      values = λ show shows f n m low at. elim (slice_get-last rows l m n at) [
        | inl front ↦
            (let inside = slice_get_within rows n m front in
            adds.others show shows f n (λ (same : n ≡ length rows). absurd (omega (arith, inside, same))) ∙ so_far.values show (Shows-before before after show kept shows) f n m low front)
        | inr last ↦
            ap (λ (k : ℕ). drafted show new.columns.items f k) last.0 ∙ (adds.here show shows f (omega (arith, low, sizes)) ∙ ap (λ (x : Laid). found_values f x.values.now) last.1)
      ];
    }

pub sound-kind : (kinds : List FieldKind) (least : ℕ) (vs : List FieldValues) (n : ℕ) (v : FieldValues) (k : FieldKind) → AreSound kinds least vs → slice_get vs n ≡ Some v → slice_get kinds v.field ≡ Some k → list_all (is_of_kind k) v.values ≡ true
unfolding AreSound
sound-kind kinds least [] n v k sound at is = absurd (cc at)
sound-kind kinds least (u ∷ us) zero v k sound at is = subst (λ (x : FieldValues). slice_get kinds x.field ≡ Some k → list_all (is_of_kind k) x.values ≡ true) (same_Some u v at) (sound.1.1.0 k) is
sound-kind kinds least (u ∷ us) (suc n) v k sound at is = sound-kind kinds (u.field + 1) us n v k sound.1.1.1 at is

-- a row from what each field has

skip : (v : FieldValues) (f : ℕ) (o : Option FieldValues) (b : Bool) → eqb v.field f ≡ b → v.field ≢ f → cond b (Some v) o ≡ o
skip v f o true e other = absurd (other (eqb_yes (subst T (sym e) tt)))
skip v f o false e other = refl

found-later : (v : FieldValues) (vs : List FieldValues) (f : ℕ) → v.field ≢ f → found_values f (v ∷ vs) ≡ found_values f vs
found-later v vs f other = ap (λ (o : Option FieldValues). option_map_or (λ (x : FieldValues). x.values) o []) (skip v f (find (λ (x : FieldValues). eqb x.field f) vs) (eqb v.field f) refl other)

found-here : (v : FieldValues) (vs : List FieldValues) → found_values v.field (v ∷ vs) ≡ v.values
found-here v vs = ap (λ (b : Bool). option_map_or (λ (x : FieldValues). x.values) (cond b (Some v) (find (λ (x : FieldValues). eqb x.field v.field) vs)) []) (eq-eqb v.field v.field refl)

found-none : (kinds : List FieldKind) (least : ℕ) (vs : List FieldValues) (f : ℕ) → AreSound kinds least vs → f < least → found_values f vs ≡ []
unfolding AreSound
found-none kinds least [] f sound low = refl
found-none kinds least (v ∷ vs) f sound low =
    let up = sound.0 in
    found-later v vs f (λ (same : v.field ≡ f). absurd (omega (arith, up, low, same))) ∙ found-none kinds (v.field + 1) vs f sound.1.1.1 (omega (arith, up, low))

present-some : (f : ℕ) (vs : List Scalar) → 0 < length vs → present f vs ≡ record { field = f; values = vs } ∷ []
present-some f [] some = absurd (omega (arith, some))
present-some f (v ∷ vs) some = refl

AreSound-more : (kinds : List FieldKind) (m n : ℕ) (v : FieldValues) (vs : List FieldValues) → n ≤ v.field → AreSound kinds m (v ∷ vs) → AreSound kinds n (v ∷ vs)
unfolding AreSound
AreSound-more kinds m n v vs low sound = (low, sound.1)

pub rebuilt : (kinds : List FieldKind) (vs : List FieldValues) (least n : ℕ) (read : ℕ → List Scalar) → AreSound kinds least vs → FieldsBelow (least + n) vs → ((f : ℕ) → least ≤ f → f < least + n → read f ≡ found_values f vs) → present_from read least n ≡ vs
unfolding AreSound FieldsBelow present_from
rebuilt kinds [] least zero read sound below same = refl
rebuilt kinds (v ∷ vs) least zero read sound below same = absurd (let up = sound.0 in omega (arith, up, below.0))
rebuilt kinds [] least (suc n) read sound below same =
    ap (λ (xs : List Scalar). present least xs ++ present_from read (least + 1) n) (same least (omega arith) (omega arith))
    ∙ rebuilt kinds [] (least + 1) n read tt tt (λ f up low. same f (omega (arith, up)) (omega (arith, low)))
rebuilt kinds (v ∷ vs) least (suc n) read sound below same =
    elim (same-or-other v.field least) [
      | inl at ↦
          let here : read least ≡ v.values = same least (omega arith) (omega arith) ∙ (ap (λ (f : ℕ). found_values f (v ∷ vs)) (sym at) ∙ found-here v vs) in
          let one : present least (read least) ≡ v ∷ [] =
          ap (present least) here ∙ (present-some least v.values sound.1.0 ∙ ap (λ (f : ℕ). record { field = f; values = v.values } ∷ []) (sym at)) in
          let e : v.field + 1 ≡ least + 1 = omega (arith, at) in
          let s : suc (least + n) ≡ (least + 1) + n = omega arith in
          let more : FieldsBelow ((least + 1) + n) vs = subst (λ (m : ℕ). FieldsBelow m vs) (let t : least + suc n ≡ (least + 1) + n = omega arith in t) below.1 in
          ap (λ (xs : List FieldValues). xs ++ present_from read (least + 1) n) one
          ∙ ap (λ (xs : List FieldValues). v ∷ xs) (rebuilt kinds vs (least + 1) n read (subst (λ (m : ℕ). AreSound kinds m vs) e sound.1.1.1) more
          (λ f up low. same f (omega (arith, up)) (omega (arith, low)) ∙ found-later v vs f (λ (is : v.field ≡ f). absurd (omega (arith, is, up, at)))))
      | inr other ↦
          let up = sound.0 in
          let past : least + 1 ≤ v.field = above least v.field up other in
          let none : read least ≡ [] = same least (omega arith) (omega arith) ∙ found-none kinds (least + 1) (v ∷ vs) least (past, sound.1) (omega arith) in
          ap (λ (xs : List Scalar). present least xs ++ present_from read (least + 1) n) none
          ∙ rebuilt kinds (v ∷ vs) (least + 1) n read (past, sound.1) (subst (λ (m : ℕ). FieldsBelow m (v ∷ vs)) (let t : least + suc n ≡ (least + 1) + n = omega arith in t) below)
          (λ f up' low. same f (omega (arith, up')) (omega (arith, low)))
    ]
  where
    above : (m n : ℕ) → m ≤ n → n ≢ m → m + 1 ≤ n
    above m n le other = elim (cases_lt m n) [
      | inl less ↦ omega (arith, less)
      | inr more ↦ absurd (other (omega (arith, le, more)))
    ]

map-range : {X Y : Type 0} (g : ℕ → X) (h : Y → X) (m : ℕ) (ys : List Y) → ((n : ℕ) (y : Y) → slice_get ys n ≡ Some y → g (m + n) ≡ h y) → map g (range_with_len m (length ys)) ≡ map h ys
map-range g h m [] same = refl
map-range {X} {Y} g h m (y ∷ ys) same =
    let first : g m ≡ h y = ap g (let e : m ≡ m + 0 = omega arith in e) ∙ same 0 y refl in
    let rest = map-range g h (m + 1) ys (λ n z at. ap g (let e : (m + 1) + n ≡ m + suc n = omega arith in e) ∙ same (suc n) z at) in
    (λ i. first i ∷ rest i)

held-finished : (homes : Homes) (ranks : List ℕ) (words : List Words) (drafts : List Draft) (columns : List Column) (f n : ℕ) (c : Option Column) (d : Option Draft) → AreFinished homes ranks drafts columns → n < home_count homes → slice_get columns f ≡ c → slice_get drafts f ≡ d →
    option_map_or (λ c. column_values homes (by_words words f) c n) c [] ≡ option_map_or (λ d. draft_values (λ p. by_words words f (ranked ranks p)) d n) d []
held-finished homes ranks words drafts columns f n None None are inside c_is d_is = refl
held-finished homes ranks words drafts columns f n None (Some d) are inside c_is d_is =
    let low = slice_get_within drafts f d d_is in let size = are.sizes in absurd (cc (sym c_is ∙ slice_get-get_or columns f (absurd-column columns low size) (omega (arith, low, size))))
  where
    absurd-column : (columns : List Column) → f < length drafts → length columns ≡ length drafts → Column
    absurd-column [] low size = absurd (omega (arith, low, size))
    absurd-column (c ∷ cs) low size = c
held-finished homes ranks words drafts columns f n (Some c) None are inside c_is d_is =
    let low = slice_get_within columns f c c_is in let size = are.sizes in absurd (cc (sym d_is ∙ slice_get-get_or drafts f (absurd-draft drafts low size) (omega (arith, low, size))))
  where
    absurd-draft : (drafts : List Draft) → f < length columns → length columns ≡ length drafts → Draft
    absurd-draft [] low size = absurd (omega (arith, low, size))
    absurd-draft (d ∷ ds) low size = d
held-finished homes ranks words drafts columns f n (Some c) (Some d) are inside c_is d_is = (are.each f d c d_is c_is).values (by_words words f) n inside

pub AreStored-made : (homes : Homes) (kinds : List FieldKind) (numbers : WordNumbers) (rows : List Laid) (drafts : Drafts) (ranks : List ℕ) (words : List Words) (columns : List Column) → AreStorable kinds rows → AreDrafts kinds numbers rows drafts → AreFinished homes ranks drafts.columns.items columns → length rows ≡ home_count homes →
    Shows numbers (λ f p. by_words words f (ranked ranks p)) → ((n : ℕ) (l : Laid) → slice_get rows n ≡ Some l → FieldsBelow (length kinds) l.values.now) → AreStored homes rows words columns
AreStored-made homes kinds numbers rows drafts ranks words columns storable are finished counted shows below =
    let size : length columns ≡ length kinds = finished.sizes ∙ are.sizes in
    map-range (λ n. present_from (λ f. held_values homes (by_words words) columns f n) 0 (length columns)) (λ (l : Laid). l.values.now) 0 rows (λ n l at.
    let n_is : 0 + n ≡ n = omega arith in
    ap (λ (m : ℕ). present_from (λ f. held_values homes (by_words words) columns f m) 0 (length columns)) n_is
    ∙ (ap (present_from (λ f. held_values homes (by_words words) columns f n) 0) size
    ∙ rebuilt kinds l.values.now 0 (length kinds) (λ f. held_values homes (by_words words) columns f n) (storable.sound n l at) (subst (λ (m : ℕ). FieldsBelow m l.values.now) (let e : length kinds ≡ 0 + length kinds = omega arith in e) (below n l at)) (λ f up low.
    held-finished homes ranks words drafts.columns.items columns f n (slice_get columns f) (slice_get drafts.columns.items f) finished (let there = slice_get_within rows n l at in omega (arith, there, counted)) refl refl
    ∙ are.values (λ f p. by_words words f (ranked ranks p)) shows f n l (omega (arith, low)) at)))

pub AreColumns-made : (homes : Homes) (kinds : List FieldKind) (numbers : WordNumbers) (rows : List Laid) (drafts : Drafts) (ranks : List ℕ) (columns : List Column) → AreDrafts kinds numbers rows drafts → AreFinished homes ranks drafts.columns.items columns → AreColumns homes kinds columns
AreColumns-made homes kinds numbers rows drafts ranks columns are finished =
    let sizes = finished.sizes in
    record {
      sizes = sizes ∙ are.sizes;
      sound = λ f c at. (let low = slice_get_within columns f c at in (finished.each f _ c (slice_get-get_or drafts.columns.items f (some-draft drafts.columns.items f low sizes) (omega (arith, low, sizes))) at).sound);
      typed = λ f k c k_is at. (let low = slice_get_within columns f c at in
          let there = slice_get-get_or drafts.columns.items f (some-draft drafts.columns.items f low sizes) (omega (arith, low, sizes)) in
          (finished.each f _ c there at).kind k ∙ are.typed.typed f k _ k_is there);
    }
  where
    some-draft : (drafts : List Draft) (f : ℕ) → f < length columns → length columns ≡ length drafts → Draft
    some-draft [] f low size = absurd (omega (arith, low, size))
    some-draft (d ∷ ds) f low size = d

pub taken-total : (rows : List Laid) (k : ℕ) (l : Laid) → k < length rows → l ≡ get_or rows k l → sum_by total_count (values_of_laid (take k rows)) + total_count l.values.now ≤ sum_by total_count (values_of_laid rows)
taken-total rows k l below is =
    let next = take-next rows k l below is in
    omega (arith, sym (total-push (take k rows) l), ap (λ (ls : List Laid). sum_by total_count (values_of_laid ls)) (sym next), ap (sum_by total_count) (map-take (λ (x : Laid). x.values.now) (k + 1) rows), sum_by-take-le total_count (values_of_laid rows) (k + 1))

pub kind-there : (kinds : List FieldKind) (drafts : Drafts) (f : ℕ) (d : Draft) → length drafts.columns.items ≡ length kinds → slice_get drafts.columns.items f ≡ Some d → (k : FieldKind) × (slice_get kinds f ≡ Some k)
kind-there kinds drafts f d sizes at =
    let low = slice_get_within drafts.columns.items f d at in
    (get_or kinds f Keyword, slice_get-get_or kinds f Keyword (omega (arith, low, sizes)))

pub below-at : (count : ℕ) (rows : List Laid) → AllFieldsBelow count rows → (n : ℕ) (l : Laid) → slice_get rows n ≡ Some l → FieldsBelow count l.values.now
unfolding AllFieldsBelow
below-at count [] below n l at = absurd (cc at)
below-at count (r ∷ rs) below zero l at = subst (λ (x : Laid). FieldsBelow count x.values.now) (same_Some r l at) below.0
below-at count (r ∷ rs) below (suc n) l at = below-at count rs below.1 n l at

-- no more distinct words than values

insert-length : (w : List ℕ) (vs : Words) → length (insert_once (slice_cmp nat_cmp) w vs) ≤ length vs + 1
insert-length w [] = omega arith
insert-length w (v ∷ vs) = pick (slice_cmp nat_cmp w v) (insert-length w vs)
  where
    pick : (o : Ordering) → length (insert_once (slice_cmp nat_cmp) w vs) ≤ length vs + 1 → length (match_ordering o (w ∷ v ∷ vs) (v ∷ vs) (v ∷ insert_once (slice_cmp nat_cmp) w vs)) ≤ suc (length vs) + 1
    pick Less rest = omega arith
    pick Equal rest = omega arith
    pick Greater rest = omega (arith, rest)

ascending-length : (ws : Words) → length (ascending (slice_cmp nat_cmp) ws) ≤ length ws
ascending-length [] = omega arith
ascending-length (w ∷ ws) = omega (arith, insert-length w (ascending (slice_cmp nat_cmp) ws), ascending-length ws)

words-length : (vs : List Scalar) → length (words_in vs) ≤ length vs
words-length [] = omega arith
words-length (scalar.Whole n ∷ vs) = omega (arith, words-length vs)
words-length (scalar.Word w ∷ vs) = omega (arith, words-length vs)
words-length (scalar.Flag b ∷ vs) = omega (arith, words-length vs)

fields-length : (f : ℕ) (vs : List FieldValues) → length (words_for f vs) ≤ total_count vs
fields-length f [] = omega arith
fields-length f (v ∷ vs) = omega (arith, length-append (words_at f v) (words_for f vs), pick (eqb v.field f), fields-length f vs, sum_by-cons (λ (x : FieldValues). length x.values) v vs)
  where
    pick : (b : Bool) → length (cond b (words_in v.values) []) ≤ length v.values
    pick true = words-length v.values
    pick false = omega arith

rows-length : (f : ℕ) (rows : List Laid) → length (flat_map (row_words f) rows) ≤ sum_by total_count (values_of_laid rows)
rows-length f [] = omega arith
rows-length f (l ∷ ls) = omega (arith, length-append (row_words f l) (flat_map (row_words f) ls), fields-length f l.values.now, rows-length f ls, sum_by-cons total_count l.values.now (values_of_laid ls))

pub few-words : (count : ℕ) (rows : List Laid) (words : List Words) → AreDictionaries count rows words → sum_by total_count (values_of_laid rows) < 2 ^ 32 → (f : ℕ) → length (get_or words f []) < 2 ^ 32
few-words count rows words are few f =
    elim (cases_lt f count) [
      | inl inside ↦ omega (arith, ap length (SameWords-ascending (flat_map (row_words f) rows) (get_or words f []) (are.same f inside)), ascending-length (flat_map (row_words f) rows), rows-length f rows, few)
      | inr past ↦ omega (arith, ap length (get_or_past words f [] (omega (arith, past, are.sizes))))
    ]
