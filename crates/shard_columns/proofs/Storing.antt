-- Flat arrays that grow: what they stood for stays, and what is put behind is added.
use Rattle.std.proofs.Common.{Bool, cond, flat_map, Some, zero, suc, ◌≡◌, ◌≢◌, refl, ℕ, ℤ, ◌+◌, ◌-◌, ◌<◌, ◌≤◌, List, [], ◌∷◌, ◌++◌, map, length, get_or, take, drop, slice_range, sym, ◌∙◌, ap, subst, arith, length-append, append_assoc, Contains, None, Option, true, false, eqb, find, inl, inr, length-drop}
use Rattle.std.specs.Prelude.{Vec, OnOk, Result, Ok, Err}
use Rattle.std.specs.declared.alloc.Global.{Global}
use Rattle.std.specs.Option.{option_map_or}
use Rattle.std.specs.List.{list_all}
use Rattle.std.specs.List.Sorted.{IsStrictlyIncreasing}
use Rattle.std.proofs.lemmas.List.{map-append, append-nil, length-map, take-append-le, drop_at, length-take, get_or-take, get_or-drop, get_or-map, get_or_append_left}
use Rattle.std.proofs.lemmas.List.Elements.{Contains-append_left, Contains-append_right}
use Rattle.std.proofs.lemmas.Bool.{cases_lt}
use Rattle.std.proofs.lemmas.Grind.{flat_map-append}
use Rattle.std.proofs.lemmas.Slice.{between_is, between_to_end}
use Rattle.std.proofs.Math.Seq.{get_or-append_seam}
use Rattle.agg_model.specs.declared.mapping.FieldKind.{FieldKind}
use Rattle.agg_model.specs.declared.mapping.FieldKind.TheVariants.{Long, Integer, Short, Byte, Keyword, Boolean, Date}
use Rattle.agg_model.specs.declared.row.Scalar.{Scalar}
use Rattle.agg_model.specs.declared.row.Scalar.TheVariants as scalar
use Rattle.agg_model.specs.declared.row.FieldValues.{FieldValues}
use Rattle.shard_columns.specs.declared.values.Typed.{Typed}
use Rattle.shard_columns.specs.declared.values.Typed.TheVariants as typed
use Rattle.shard_columns.specs.declared.values.Span.{Span}
use Rattle.shard_columns.specs.declared.values.Held.{Held}
use Rattle.shard_columns.specs.declared.values.Draft.{Draft}
use Rattle.shard_columns.specs.declared.words.WordNumbers.{WordNumbers}
use Rattle.shard_columns.specs.Values.{no_span, span_in, Words, Reader, cut, scalars, typed_len, is_typed, is_taken, draft_values, word_in, words_in, FieldsBelow, IsPart, WithinReach, IsShaped}
use Rattle.shard_columns.specs.Lent.{wholes_in, flags_in}
use Rattle.shard_columns.specs.Words.{IsNumberOf, Notes, of_field, Shows}
use Rattle.shard_columns.specs.Storing.{AddsTyped, AddsHeld}
use Rattle.shard_columns.proofs.Searching.{find-one, find-not, find-none}

-- a part of a list stays when the list grows
pub slice_range-stays : {X : Type 0} (xs ys : List X) (a b : ℕ) → b ≤ length xs → slice_range (xs ++ ys) a b ≡ slice_range xs a b
slice_range-stays xs ys a b within = between_is (xs ++ ys) a b ∙ (ap (λ zs. drop a zs) (take-append-le b xs ys within) ∙ sym (between_is xs a b))

pub slice_range-seam : {X : Type 0} (xs ys : List X) (n : ℕ) → n ≡ length (xs ++ ys) → slice_range (xs ++ ys) (length xs) n ≡ ys
slice_range-seam xs ys n is = between_to_end (xs ++ ys) (length xs) n (omega (arith, is)) ∙ drop_at xs ys (length xs) refl

-- what has a number keeps it
abbrev pub Keeps : WordNumbers → WordNumbers → Type 0
Keeps old new = (f n : ℕ) (w : List ℕ) → IsNumberOf old f w n → IsNumberOf new f w n

pub Shows-before : (old new : WordNumbers) (show : Reader) → Keeps old new → Shows new show → Shows old show
Shows-before old new show kept shows = record { word = λ f n w is. shows.word f n w (kept f n w is) }

-- what is among the words of one value is among those of all
pub Contains-flat_map : {X : Type 0} (f : X → Words) (xs : List X) (n : ℕ) (d : X) (w : List ℕ) → n < length xs → Contains (f (get_or xs n d)) w → Contains (flat_map f xs) w
Contains-flat_map f [] n d w below has = absurd (omega arith)
Contains-flat_map f (x ∷ xs) zero d w below has = Contains-append_left (f x) (flat_map f xs) w has
Contains-flat_map f (x ∷ xs) (suc n) d w below has = Contains-append_right (f x) (flat_map f xs) w (Contains-flat_map f xs n d w (omega arith) has)

pub FieldsBelow-at : (m : ℕ) (fs : List FieldValues) (n : ℕ) (d : FieldValues) → n < length fs → FieldsBelow m fs → (get_or fs n d).field < m
unfolding FieldsBelow
FieldsBelow-at m [] n d below has = absurd (omega arith)
FieldsBelow-at m (f ∷ fs) zero d below has = has.0
FieldsBelow-at m (f ∷ fs) (suc n) d below has = FieldsBelow-at m fs n d (omega arith) has.1

pub WithinReach-more : (m n : ℕ) (hs : List Held) → m ≤ n → WithinReach m hs → WithinReach n hs
unfolding WithinReach
WithinReach-more m n [] le within = tt
WithinReach-more m n (h ∷ hs) le within = ((within.0.0, omega (arith, within.0.1)), WithinReach-more m n hs le within.1)

pub WithinReach-push : (n : ℕ) (hs : List Held) (h : Held) → IsPart n h.span → WithinReach n hs → WithinReach n (hs ++ h ∷ [])
unfolding WithinReach
WithinReach-push n [] h le within = (le, tt)
WithinReach-push n (g ∷ gs) h le within = (within.0, WithinReach-push n gs h le within.1)

found-first : (n : ℕ) (p : Held → Bool) (x : Held) (xs : List Held) (b : Bool) → IsPart n x.span → IsPart n (option_map_or (λ h. h.span) (find p xs) no_span) → IsPart n (option_map_or (λ h. h.span) (cond b (Some x) (find p xs)) no_span)
found-first n p x xs true part rest = part
found-first n p x xs false part rest = rest

-- the values of each row lie within the array
pub span-part : (n : ℕ) (hs : List Held) (row : ℕ) → WithinReach n hs → IsPart n (span_in hs row)
unfolding WithinReach
span-part n [] row within = (omega arith, omega arith)
span-part n (x ∷ xs) row within = found-first n (λ h. eqb h.row row) x xs (eqb x.row row) within.0 (span-part n xs row within.1)

pub map-take : {X Y : Type 0} (f : X → Y) (k : ℕ) (xs : List X) → map f (take k xs) ≡ take k (map f xs)
map-take f zero [] = refl
map-take f (suc k) [] = refl
map-take f zero (x ∷ xs) = refl
map-take f (suc k) (x ∷ xs) = ap (λ ys. f x ∷ ys) (map-take f k xs)

map-drop : {X Y : Type 0} (f : X → Y) (k : ℕ) (xs : List X) → map f (drop k xs) ≡ drop k (map f xs)
map-drop f zero [] = refl
map-drop f (suc k) [] = refl
map-drop f zero (x ∷ xs) = refl
map-drop f (suc k) (x ∷ xs) = map-drop f k xs

pub cut-map : {X Y : Type 0} (f : X → Y) (xs : List X) (s : Span) → cut (map f xs) s ≡ map f (cut xs s)
cut-map f xs s = ap (λ ys. take (s.end - s.start) ys) (sym (map-drop f s.start xs)) ∙ sym (map-take f (s.end - s.start) (drop s.start xs))

pub length-cut : {X : Type 0} (xs : List X) (s : Span) → IsPart (length xs) s → length (cut xs s) ≡ s.end - s.start
length-cut xs s part = omega (arith, length-take (s.end - s.start) (drop s.start xs), length-drop s.start xs, part.0, part.1)

pub get_or-cut : {X : Type 0} (xs : List X) (s : Span) (k : ℕ) (d : X) → k < s.end - s.start → get_or (cut xs s) k d ≡ get_or xs (s.start + k) d
get_or-cut xs s k d below = get_or-take (s.end - s.start) (drop s.start xs) k d below ∙ get_or-drop s.start xs k d

-- within a list no default is read
pub get_or-any : {X : Type 0} (xs : List X) (k : ℕ) (d e : X) → k < length xs → get_or xs k d ≡ get_or xs k e
get_or-any [] k d e below = absurd (omega arith)
get_or-any (x ∷ xs) zero d e below = refl
get_or-any (x ∷ xs) (suc k) d e below = get_or-any xs k d e (omega arith)

pub scalars-len : (show : ℕ → Scalar) (t : Typed) → length (scalars show t) ≡ typed_len t
scalars-len show (typed.Wholes ns) = length-map ns.items scalar.Whole
scalars-len show (typed.Words ps) = length-map ps.items show
scalars-len show (typed.Flags bs) = length-map bs.items scalar.Flag

-- one more value
pub flat-step : {X Y : Type 0} (f : X → List Y) (old now new : List Y) (vs : List X) (v : X) → now ≡ old ++ flat_map f vs → new ≡ now ++ f v → new ≡ old ++ flat_map f (vs ++ v ∷ [])
flat-step f old now new vs v p q =
    q ∙ (ap (λ zs. zs ++ f v) p ∙ (append_assoc old (flat_map f vs) (f v)
    ∙ ap (λ zs. old ++ zs) (sym (flat_map-append f vs (v ∷ []) ∙ ap (λ zs. flat_map f vs ++ zs) (append-nil (f v))))))

-- values of one type are the values of that type among them
pub wholes-back : (vs : List Scalar) (ns : _) → list_all (is_taken (typed.Wholes ns)) vs ≡ true → map scalar.Whole (wholes_in vs) ≡ vs
wholes-back [] ns e = refl
wholes-back (scalar.Whole n ∷ vs) ns e = ap (λ (xs : List Scalar). scalar.Whole n ∷ xs) (wholes-back vs ns e)
wholes-back (scalar.Word w ∷ vs) ns e = absurd (cc e)
wholes-back (scalar.Flag b ∷ vs) ns e = absurd (cc e)

pub words-back : (vs : List Scalar) (ps : _) → list_all (is_taken (typed.Words ps)) vs ≡ true → map scalar.Word (words_in vs) ≡ vs
words-back [] ps e = refl
words-back (scalar.Whole n ∷ vs) ps e = absurd (cc e)
words-back (scalar.Word w ∷ vs) ps e = ap (λ (xs : List Scalar). scalar.Word w ∷ xs) (words-back vs ps e)
words-back (scalar.Flag b ∷ vs) ps e = absurd (cc e)

pub flags-back : (vs : List Scalar) (bs : _) → list_all (is_taken (typed.Flags bs)) vs ≡ true → map scalar.Flag (flags_in vs) ≡ vs
flags-back [] bs e = refl
flags-back (scalar.Whole n ∷ vs) bs e = absurd (cc e)
flags-back (scalar.Word w ∷ vs) bs e = absurd (cc e)
flags-back (scalar.Flag b ∷ vs) bs e = ap (λ (xs : List Scalar). scalar.Flag b ∷ xs) (flags-back vs bs e)

-- the entry of another row does not matter
pub find-other : (hs : List Held) (h : Held) (n : ℕ) → h.row ≢ n → find (λ (h : Held). eqb h.row n) (hs ++ h ∷ []) ≡ find (λ (h : Held). eqb h.row n) hs
find-other [] h n other = find-not n h None (eqb h.row n) refl other
find-other (g ∷ hs) h n other = ap (λ (o : Option Held). cond (eqb g.row n) (Some g) o) (find-other hs h n other)

find-later : (b : Bool) (g h : Held) (o p : Option Held) → cond b (Some g) o ≡ None → (o ≡ None → p ≡ Some h) → cond b (Some g) p ≡ Some h
find-later true g h o p none rest = absurd (cc none)
find-later false g h o p none rest = rest none

pub find-last : (hs : List Held) (h : Held) (n : ℕ) → find (λ (h : Held). eqb h.row n) hs ≡ None → h.row ≡ n → find (λ (h : Held). eqb h.row n) (hs ++ h ∷ []) ≡ Some h
find-last [] h n none same = find-one n h None (eqb h.row n) refl same
find-last (g ∷ hs) h n none same = find-later (eqb g.row n) g h (find (λ (h : Held). eqb h.row n) hs) (find (λ (h : Held). eqb h.row n) (hs ++ h ∷ [])) none (λ e. find-last hs h n e same)

-- a row that is not there yet has nothing
pub find-fresh : (rows : ℕ) (d : Draft) → IsShaped rows d → (n : ℕ) → rows ≤ n → find (λ (h : Held). eqb h.row n) d.held ≡ None
find-fresh rows d shaped n past =
    let h : Held = record { row = 0; span = no_span } in
    find-none d.held n h (λ k below same. let low = shaped.below k h below in absurd (omega (arith, low, same, past)))

pub draft-fresh : (show : ℕ → Scalar) (rows : ℕ) (d : Draft) → IsShaped rows d → (n : ℕ) → rows ≤ n → draft_values show d n ≡ []
draft-fresh show rows d shaped n past = ap (λ (o : Option Held). cut (scalars show d.typed) (option_map_or (λ h. h.span) o no_span)) (find-fresh rows d shaped n past)

module _ (numbers : WordNumbers) (field row : ℕ) (old new : Draft) (values : List Scalar) (adds : AddsHeld numbers field old new row values) where
  last : Held
  last = record { row = row; span = record { start = typed_len old.typed; end = typed_len new.typed } }

  -- the values of other rows stay
  pub draft-other : (show : Reader) (rows n : ℕ) → Shows numbers show → IsShaped rows old → n ≢ row → draft_values (show field) new n ≡ draft_values (show field) old n
  unfolding last
  draft-other show rows n shows shaped other =
      let before = scalars (show field) old.typed in
      let span : span_in new.held n ≡ span_in old.held n =
      ap (λ (hs : List Held). span_in hs n) adds.held ∙ ap (λ (o : Option Held). option_map_or (λ h. h.span) o no_span) (find-other old.held last n (λ same. other (sym same))) in
      let part = span-part (typed_len old.typed) old.held n shaped.within in
      let s = span_in old.held n in
      ap (λ (t : Span). cut (scalars (show field) new.typed) t) span
      ∙ (ap (λ (xs : List Scalar). cut xs s) (adds.typed.shown show shows)
      ∙ slice_range-stays before values s.start s.end (let size = scalars-len (show field) old.typed in omega (arith, size, part.1)))

  -- and the row has these
  pub draft-here : (show : Reader) → Shows numbers show → IsShaped row old → draft_values (show field) new row ≡ values
  unfolding last
  draft-here show shows shaped =
      let before = scalars (show field) old.typed in
      let size = scalars-len (show field) old.typed in
      let span : span_in new.held row ≡ last.span =
      ap (λ (hs : List Held). span_in hs row) adds.held ∙ ap (λ (o : Option Held). option_map_or (λ h. h.span) o no_span) (find-last old.held last row (find-fresh row old shaped row (omega arith)) refl) in
      ap (λ (t : Span). cut (scalars (show field) new.typed) t) span
      ∙ (ap (λ (xs : List Scalar). slice_range xs (typed_len old.typed) (typed_len new.typed)) (adds.typed.shown show shows)
      ∙ (ap (λ (k : ℕ). slice_range (before ++ values) k (typed_len new.typed)) (sym size)
      ∙ slice_range-seam before values (typed_len new.typed) (let grown = adds.typed.grown in omega (arith, grown, size, length-append before values))))

  rises-more : (ns : List ℕ) (n : ℕ) → IsStrictlyIncreasing ns → ((k : ℕ) → k < length ns → get_or ns k 0 < n) → IsStrictlyIncreasing (ns ++ n ∷ [])
  rises-more ns n rise low k below =
      elim (cases_lt (k + 1) (length ns)) [
        | inl inside ↦
            (let here = get_or_append_left ns (n ∷ []) 0 k (omega (arith, inside)) in
            let next = get_or_append_left ns (n ∷ []) 0 (k + 1) inside in
            omega (arith, rise k inside, here, next))
        | inr end ↦
            (let size = length-append ns (n ∷ []) in
            let at : k + 1 ≡ length ns = omega (arith, end, below, size) in
            let here = get_or_append_left ns (n ∷ []) 0 k (omega (arith, at)) in
            let next = ap (λ (j : ℕ). get_or (ns ++ n ∷ []) j 0) at ∙ get_or-append_seam ns n [] 0 in
            omega (arith, low k (omega (arith, at)), here, next))
      ]

  pub IsShaped-push : IsShaped row old → IsShaped (row + 1) new
  unfolding last
  IsShaped-push shaped =
      let hs = old.held in
      let rows = map (λ (h : Held). h.row) hs in
      let grown = adds.typed.grown in
      let size = length-map hs (λ (h : Held). h.row) in
      record {
        rising =
            subst IsStrictlyIncreasing (sym (ap (map (λ (h : Held). h.row)) adds.held ∙ map-append (λ (h : Held). h.row) hs (last ∷ [])))
            (rises-more rows row shaped.rising (λ k below. (let at = shaped.below k last (omega (arith, below, size)) in
            omega (arith, at, get_or-map (λ (h : Held). h.row) hs k last 0 (omega (arith, below, size))))));
        below = λ k h k_below.
            subst (λ (xs : List Held). (get_or xs k h).row < row + 1) (sym adds.held)
            (elim (cases_lt k (length hs)) [
              | inl inside ↦ (let at = shaped.below k h inside in omega (arith, at, ap (λ (x : Held). x.row) (get_or_append_left hs (last ∷ []) h k inside)))
              | inr end ↦ (let at : k ≡ length hs = omega (arith, end, k_below, ap length adds.held, length-append hs (last ∷ [])) in
                  omega (arith, ap (λ (j : ℕ). (get_or (hs ++ last ∷ []) j h).row) at, ap (λ (x : Held). x.row) (get_or-append_seam hs last [] h)))
            ]);
        within =
            subst (WithinReach (typed_len new.typed)) (sym adds.held)
            (WithinReach-push (typed_len new.typed) hs last (omega (arith, grown), omega arith) (WithinReach-more (typed_len old.typed) (typed_len new.typed) hs (omega (arith, grown)) shaped.within));
      }

pub IsShaped-more : (m n : ℕ) (d : Draft) → m ≤ n → IsShaped m d → IsShaped n d
IsShaped-more m n d le shaped = record { rising = shaped.rising; below = λ k h below. (let at = shaped.below k h below in omega (arith, at, le)); within = shaped.within }

-- one more word
pub words-step : (show : ℕ → Scalar) (old now new : List ℕ) (vs : List Scalar) (v : Scalar) (n : ℕ) → map show now ≡ map show old ++ map scalar.Word (words_in vs) → new ≡ now ++ n ∷ [] → show n ∷ [] ≡ map scalar.Word (words_in (v ∷ [])) →
    map show new ≡ map show old ++ map scalar.Word (words_in (vs ++ v ∷ []))
words-step show old now new vs v n p q r =
    ap (map show) q ∙ (map-append show now (n ∷ []) ∙ (ap (λ (xs : List Scalar). xs ++ show n ∷ []) p
    ∙ (append_assoc (map show old) (map scalar.Word (words_in vs)) (show n ∷ [])
    ∙ ap (λ (xs : List Scalar). map show old ++ xs) (ap (λ (xs : List Scalar). map scalar.Word (words_in vs) ++ xs) r
    ∙ (sym (map-append scalar.Word (words_in vs) (words_in (v ∷ []))) ∙ ap (map scalar.Word) (sym (flat_map-append word_in vs (v ∷ []))))))))

-- a value that is no word
pub words-skip : (vs : List Scalar) (v : Scalar) → word_in v ≡ [] → words_in (vs ++ v ∷ []) ≡ words_in vs
words-skip vs v none = flat_map-append word_in vs (v ∷ []) ∙ (ap (λ (ws : Words). words_in vs ++ (ws ++ [])) none ∙ append-nil (words_in vs))

pub words-count : (vs : List Scalar) (v : Scalar) → length (words_in (vs ++ v ∷ [])) ≡ length (words_in vs) + length (word_in v)
words-count vs v = ap length (flat_map-append word_in vs (v ∷ [])) ∙ (ap (λ (ws : Words). length (words_in vs ++ ws)) (append-nil (word_in v)) ∙ length-append (words_in vs) (word_in v))

pub no-words-wholes : (vs : List Scalar) (ns : _) → list_all (is_taken (typed.Wholes ns)) vs ≡ true → words_in vs ≡ []
no-words-wholes [] ns e = refl
no-words-wholes (scalar.Whole n ∷ vs) ns e = no-words-wholes vs ns e
no-words-wholes (scalar.Word w ∷ vs) ns e = absurd (cc e)
no-words-wholes (scalar.Flag b ∷ vs) ns e = absurd (cc e)

pub no-words-flags : (vs : List Scalar) (bs : _) → list_all (is_taken (typed.Flags bs)) vs ≡ true → words_in vs ≡ []
no-words-flags [] bs e = refl
no-words-flags (scalar.Whole n ∷ vs) bs e = absurd (cc e)
no-words-flags (scalar.Word w ∷ vs) bs e = absurd (cc e)
no-words-flags (scalar.Flag b ∷ vs) bs e = no-words-flags vs bs e

kind-same : (k : FieldKind) (a b : _) → is_typed k (typed.Wholes a) ≡ is_typed k (typed.Wholes b)
kind-same Keyword a b = refl
kind-same Boolean a b = refl
kind-same Long a b = refl
kind-same Integer a b = refl
kind-same Short a b = refl
kind-same Byte a b = refl
kind-same Date a b = refl

pub kind-same-words : (k : FieldKind) (a b : _) → is_typed k (typed.Words a) ≡ is_typed k (typed.Words b)
kind-same-words Keyword a b = refl
kind-same-words Boolean a b = refl
kind-same-words Long a b = refl
kind-same-words Integer a b = refl
kind-same-words Short a b = refl
kind-same-words Byte a b = refl
kind-same-words Date a b = refl

kind-same-flags : (k : FieldKind) (a b : _) → is_typed k (typed.Flags a) ≡ is_typed k (typed.Flags b)
kind-same-flags Keyword a b = refl
kind-same-flags Boolean a b = refl
kind-same-flags Long a b = refl
kind-same-flags Integer a b = refl
kind-same-flags Short a b = refl
kind-same-flags Byte a b = refl
kind-same-flags Date a b = refl

taken-same : (v : Scalar) (a b : _) → is_taken (typed.Wholes a) v ≡ is_taken (typed.Wholes b) v
taken-same (scalar.Whole n) a b = refl
taken-same (scalar.Word w) a b = refl
taken-same (scalar.Flag f) a b = refl

taken-same-words : (v : Scalar) (a b : _) → is_taken (typed.Words a) v ≡ is_taken (typed.Words b) v
taken-same-words (scalar.Whole n) a b = refl
taken-same-words (scalar.Word w) a b = refl
taken-same-words (scalar.Flag f) a b = refl

taken-same-flags : (v : Scalar) (a b : _) → is_taken (typed.Flags a) v ≡ is_taken (typed.Flags b) v
taken-same-flags (scalar.Whole n) a b = refl
taken-same-flags (scalar.Word w) a b = refl
taken-same-flags (scalar.Flag f) a b = refl

pub AddsTyped-wholes : (numbers : WordNumbers) (field : ℕ) (a b : Vec ℤ Global) (vs : List Scalar) → list_all (is_taken (typed.Wholes a)) vs ≡ true → b.items ≡ a.items ++ wholes_in vs → AddsTyped numbers field (typed.Wholes a) (typed.Wholes b) vs
AddsTyped-wholes numbers field a b vs taken is =
    let back = wholes-back vs a taken in
    record {
      grown = omega (arith, ap length is, length-append a.items (wholes_in vs), sym (length-map (wholes_in vs) scalar.Whole), ap length back);
      shown = λ show shows. ap (map scalar.Whole) is ∙ (map-append scalar.Whole a.items (wholes_in vs) ∙ ap (λ (xs : List Scalar). map scalar.Whole a.items ++ xs) back);
      kind = λ k. kind-same k b a;
      taken = λ v. taken-same v b a;
    }

pub AddsTyped-words : (numbers : WordNumbers) (field : ℕ) (a b : Vec ℕ Global) (vs : List Scalar) → list_all (is_taken (typed.Words a)) vs ≡ true → length b.items ≡ length a.items + length (words_in vs) →
    ((show : Reader) → Shows numbers show → map (show field) b.items ≡ map (show field) a.items ++ map scalar.Word (words_in vs)) → AddsTyped numbers field (typed.Words a) (typed.Words b) vs
AddsTyped-words numbers field a b vs taken grown is =
    let back = words-back vs a taken in
    record {
      grown = omega (arith, grown, sym (length-map (words_in vs) scalar.Word), ap length back);
      shown = λ show shows. is show shows ∙ ap (λ (xs : List Scalar). map (show field) a.items ++ xs) back;
      kind = λ k. kind-same-words k b a;
      taken = λ v. taken-same-words v b a;
    }

pub AddsTyped-flags : (numbers : WordNumbers) (field : ℕ) (a b : Vec Bool Global) (vs : List Scalar) → list_all (is_taken (typed.Flags a)) vs ≡ true → b.items ≡ a.items ++ flags_in vs → AddsTyped numbers field (typed.Flags a) (typed.Flags b) vs
AddsTyped-flags numbers field a b vs taken is =
    let back = flags-back vs a taken in
    record {
      grown = omega (arith, ap length is, length-append a.items (flags_in vs), sym (length-map (flags_in vs) scalar.Flag), ap length back);
      shown = λ show shows. ap (map scalar.Flag) is ∙ (map-append scalar.Flag a.items (flags_in vs) ∙ ap (λ (xs : List Scalar). map scalar.Flag a.items ++ xs) back);
      kind = λ k. kind-same-flags k b a;
      taken = λ v. taken-same-flags v b a;
    }

-- two facts of one call
pub OnOk-both : {X E P Q R : Type 0} (r : Result X E) → OnOk r P → OnOk r Q → (P → Q → R) → OnOk r R
OnOk-both (Ok x) p q f = f p q
OnOk-both (Err e) p q f = tt

-- the words among n values are put behind others
pub record AddsWords (start numbers : WordNumbers) (field : ℕ) (old new : Vec ℕ Global) (vs : List Scalar) (n : ℕ) : Type 0 where
  pub notes : Notes start numbers (of_field field (words_in vs))
  pub few : length numbers.ranks.items ≤ length start.ranks.items + n
  pub grown : length new.items ≡ length old.items + length (words_in vs)
  pub shown : (show : Reader) → Shows numbers show → map (show field) new.items ≡ map (show field) old.items ++ map scalar.Word (words_in vs)

pub no-word : (v : Scalar) → ((w : List ℕ) → ¬ (v ≡ scalar.Word w)) → word_in v ≡ []
no-word (scalar.Whole n) other = refl
no-word (scalar.Word w) other = absurd (other w refl)
no-word (scalar.Flag b) other = refl
