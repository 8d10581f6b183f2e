-- The words of fields in order, and their places by number.
use Rattle.std.proofs.Common.{T, Bool, true, false, eqb, eq-eqb, flat_map, zero, suc, ◌≡◌, ◌≢◌, refl, ℕ, ◌+◌, ◌<◌, ◌≤◌, List, [], ◌∷◌, ◌++◌, map, length, get_or, set, sym, ◌∙◌, ap, subst, arith, length-append, Contains, inl, inr, Option, None, Some}
use Rattle.std.specs.Prelude.{◌⊎◌, ◌-◌, ◌^◌, pos, slice_get, unwrap_or, Vec}
use Rattle.std.specs.List.{AllByRecursion}
use Rattle.std.proofs.lemmas.List.Elements.{Contains-append_left, Contains-append_right, Contains-append_cases}
use Rattle.std.specs.declared.alloc.Global.{Global}
use Rattle.std.specs.Option.{option_map_or}
use Rattle.std.specs.Ordering.{nat_cmp, is_lt, ordering_reverse}
use Rattle.std.specs.declared.cmp.Ordering.{Ordering}
use Rattle.std.specs.declared.cmp.Ordering.TheVariants.{Less, Equal, Greater}
use Rattle.std.specs.Cmp.Lexicographic.{slice_cmp}
use Rattle.std.specs.List.Sorted.{IsStrictlySortedBy}
use Rattle.std.proofs.lemmas.Cmp.{nat_list_cmp_total}
use Rattle.std.proofs.lemmas.List.{length-map, length-set, get_or-set_same, get_or-set_other, get_or_past, get_or_append_left}
use Rattle.std.proofs.lemmas.Bool.{cases_lt}
use Rattle.std.proofs.lemmas.Map.Lookups.{exact_bytes}
use Rattle.std.proofs.lemmas.Option.{same_Some, slice_get_within, unwrap_or-slice_get}
use Rattle.std.proofs.lemmas.Bool.Decides.{nat_tests}
use Rattle.std.proofs.Math.Facts.{eqb_yes}
use Rattle.std.proofs.Math.Seq.{get_or-append_seam}
use Rattle.agg_model.specs.declared.row.Scalar.TheVariants as scalar
use Rattle.shard_columns.specs.declared.layout.Laid.{Laid}
use Rattle.shard_columns.specs.declared.values.Typed.TheVariants as typed
use Rattle.shard_columns.specs.declared.words.WordNumbers.{WordNumbers}
use Rattle.shard_columns.specs.Values.{Words, by_words, ranked, limited, AreRankedAll}
use Rattle.shard_columns.specs.Numbered.{Entry, Entries, Known, none_known, HasNumber}
use Rattle.shard_columns.specs.Words.{IsNumberOf, entries_of, HasNoWords, IsNumbered, Notes, Shows, AreApart, AreRanked, AreWordsOf, IsPutLast, AreWords, ArePlaced, AreDictionaries, row_words}
use Rattle.shard_columns.proofs.Arranging.{AreSame, all-from, all-push, only-one}
use Rattle.shard_columns.proofs.Noting.{none-has}
use Rattle.shard_columns.proofs.Storing.{kind-same-words}

slice_get-front : {X : Type 0} (xs ys : List X) (i : ℕ) (x : X) → slice_get xs i ≡ Some x → slice_get (xs ++ ys) i ≡ Some x
slice_get-front [] ys i x is = absurd (cc is)
slice_get-front (y ∷ xs) ys zero x is = is
slice_get-front (y ∷ xs) ys (suc i) x is = slice_get-front xs ys i x is

pub slice_get-seam : {X : Type 0} (xs : List X) (x : X) → slice_get (xs ++ x ∷ []) (length xs) ≡ Some x
slice_get-seam [] x = refl
slice_get-seam (y ∷ xs) x = slice_get-seam xs x

slice_get-contains : {X : Type 0} (xs : List X) (i : ℕ) (x : X) → slice_get xs i ≡ Some x → Contains xs x
slice_get-contains [] i x is = absurd (cc is)
slice_get-contains (y ∷ xs) zero x is = (0, omega arith, same_Some y x is)
slice_get-contains (y ∷ xs) (suc i) x is = let rest = slice_get-contains xs i x is in (suc rest.0, (let within = rest.1 in omega (arith, within)), rest.2)

abbrev Rises : Words → Type 0
Rises words = IsStrictlySortedBy (slice_cmp nat_cmp) words

rises-push : (words : Words) (k : List ℕ) → Rises words → AllByRecursion (λ w. slice_cmp nat_cmp w k ≡ Less) words → Rises (words ++ k ∷ [])
unfolding IsStrictlySortedBy
rises-push [] k up before = (tt, tt)
rises-push (w ∷ ws) k up before = (all-push (λ (v : List ℕ). slice_cmp nat_cmp w v ≡ Less) ws k up.0 before.0, rises-push ws k up.1 before.1)

-- a word of these is the last, or a greater one comes behind it
abbrev Ends : List ℕ → Words → Type 0
Ends k words = ((n : ℕ) → n + 1 ≡ length words → slice_get words n ≡ Some k) ⊎ ((later : List ℕ) × (Contains words later × (slice_cmp nat_cmp k later ≡ Less)))

last-or-less : (words : Words) (k : List ℕ) → Rises words → Contains words k → Ends k words
unfolding IsStrictlySortedBy
last-or-less [] k up has = (let low = has.1 in absurd (omega (arith, low)))
last-or-less (w ∷ ws) k up has = pick has.0 has.1 has.2 (λ rest. last-or-less ws k up.1 rest)
  where
    last : ((n : ℕ) → n + 1 ≡ length ws → slice_get ws n ≡ Some k) → 0 < length ws → (n : ℕ) → n + 1 ≡ suc (length ws) → slice_get (w ∷ ws) n ≡ Some k
    last at some zero is = absurd (omega (arith, some, is))
    last at some (suc n) is = at n (omega (arith, is))

    alone : w ≡ k → (n : ℕ) → n + 1 ≡ 1 → slice_get (w ∷ []) n ≡ Some k
    alone same zero is = ap Some same
    alone same (suc n) is = absurd (omega (arith, is))

    first : (ws : Words) → AllByRecursion (λ v. slice_cmp nat_cmp w v ≡ Less) ws → w ≡ k → Ends k (w ∷ ws)
    first [] all same = inl (alone same)
    first (v ∷ vs) all same = inr (v, ((1, omega arith, refl), subst (λ (x : List ℕ). slice_cmp nat_cmp x v ≡ Less) same all.0))

    pick : (i : ℕ) → i < length (w ∷ ws) → get_or (w ∷ ws) i k ≡ k → (Contains ws k → Ends k ws) → Ends k (w ∷ ws)
    pick zero low is below = first ws up.0 is
    pick (suc i) low is below = elim (below (i, omega (arith, low), is)) [
      | inl at ↦ inl (last at (omega (arith, low)))
      | inr rest ↦ inr (rest.0, ((suc rest.1.0.0, (let within = rest.1.0.1 in omega (arith, within)), rest.1.0.2), rest.1.1))
    ]

less-or : (v w : List ℕ) → is_lt (slice_cmp nat_cmp w v) ≡ false → v ≢ w → (o : Ordering) → slice_cmp nat_cmp v w ≡ o → o ≡ Less
less-or v w up other Less at = refl
less-or v w up other Equal at = absurd (other (exact_bytes v w at))
less-or v w up other Greater at = absurd (cc (sym (ap is_lt (nat_list_cmp_total.antisymm w v ∙ ap ordering_reverse at)) ∙ up))

-- the entries so far are ranked
pub record IsRankedSoFar (all so_far : Entries) (words : Words) (old new : List ℕ) : Type 0 where
  pub strict : Rises words
  pub from : (w : List ℕ) → Contains words w → (n : ℕ) × Contains so_far (w, n)
  pub sizes : length new ≡ length old
  pub placed : (n : ℕ) (w : List ℕ) → Contains so_far (w, n) → slice_get words (get_or new n 0) ≡ Some w
  pub others : (n : ℕ) → ((w : List ℕ) → ¬ (Contains all (w, n))) → get_or new n 0 ≡ get_or old n 0

pub Ranked-none : (all : Entries) (old : List ℕ) → IsRankedSoFar all [] [] old old
unfolding IsStrictlySortedBy
Ranked-none all old = record {
  strict = tt;
  from = λ w has. (let low = has.1 in absurd (omega (arith, low)));
  sizes = refl;
  placed = λ n w has. (let low = has.1 in absurd (omega (arith, low)));
  others = λ n none. refl;
}

same-or-other : (m n : ℕ) (b : Bool) → eqb n m ≡ b → (n ≡ m) ⊎ (n ≢ m)
same-or-other m n true e = inl (eqb_yes (subst T (sym e) tt))
same-or-other m n false e = inr (λ (h : n ≡ m). absurd (cc (sym (eq-eqb n m h) ∙ e)))

-- no two of these words have one number
abbrev pub HaveOwn : Entries → Type 0
HaveOwn all = (n : ℕ) (v w : List ℕ) → Contains all (v, n) → Contains all (w, n) → v ≡ w

module _ (all so_far rest : Entries) (k : List ℕ) (m : ℕ) (words next : Words) (place : ℕ) (old now : List ℕ) (own : HaveOwn all) (in_range : m < length old) (split : all ≡ so_far ++ (k, m) ∷ rest)
    (up : (w : List ℕ) (n : ℕ) → Contains so_far (w, n) → is_lt (slice_cmp nat_cmp k w) ≡ false) (put : IsPutLast words next k place) (s : IsRankedSoFar all so_far words old now) where
  front-in : (w : List ℕ) (n : ℕ) → Contains so_far (w, n) → Contains all (w, n)
  front-in w n has = subst (λ (es : Entries). Contains es (w, n)) (sym split) (Contains-append_left so_far ((k, m) ∷ rest) (w, n) has)

  this-in : Contains all (k, m)
  this-in = subst (λ (es : Entries). Contains es (k, m)) (sym split) (Contains-append_right so_far ((k, m) ∷ rest) (k, m) (0, omega arith, refl))

  -- the word is not among those before, unless it is the last of them
  new-word : ((n : ℕ) → n + 1 ≡ length words → slice_get words n ≢ Some k) → ¬ (Contains words k)
  new-word other has = elim (last-or-less words k s.strict has) [
    | inl last ↦ (let low = has.1 in let end : (length words - 1) + 1 ≡ length words = omega (arith, low) in other (length words - 1) end (last (length words - 1) end))
    | inr later ↦ (let there = s.from later.0 later.1.0 in absurd (cc (sym (ap is_lt later.1.1) ∙ up later.0 there.0 there.1)))
  ]

  below : ((n : ℕ) → n + 1 ≡ length words → slice_get words n ≢ Some k) → (w : List ℕ) → Contains words w → slice_cmp nat_cmp w k ≡ Less
  below other w has =
      let there = s.from w has in
      less-or w k (up w there.0 there.1) (λ (h : w ≡ k). new-word other (subst (Contains words) h has)) (slice_cmp nat_cmp w k) refl

  abbrev Grown : Type 0
  Grown = (next ≡ words) ⊎ ((next ≡ words ++ k ∷ []) × ((n : ℕ) → n + 1 ≡ length words → slice_get words n ≢ Some k))

  still-rises : Grown → Rises next
  still-rises (inl same) = subst Rises (sym same) s.strict
  still-rises (inr new) = subst Rises (sym new.0) (rises-push words k s.strict (all-from (λ (w : List ℕ). slice_cmp nat_cmp w k ≡ Less) words (below new.1)))

  kept : Grown → (i : ℕ) (w : List ℕ) → slice_get words i ≡ Some w → slice_get next i ≡ Some w
  kept (inl same) i w is = ap (λ (ws : Words). slice_get ws i) same ∙ is
  kept (inr new) i w is = ap (λ (ws : Words). slice_get ws i) new.0 ∙ slice_get-front words (k ∷ []) i w is

  from-old : (w : List ℕ) → Contains words w → (n : ℕ) × Contains (so_far ++ (k, m) ∷ []) (w, n)
  from-old w has = let there = s.from w has in (there.0, Contains-append_left so_far ((k, m) ∷ []) (w, there.0) there.1)

  from-now : Grown → (w : List ℕ) → Contains next w → (n : ℕ) × Contains (so_far ++ (k, m) ∷ []) (w, n)
  from-now (inl same) w has = from-old w (subst (λ (ws : Words). Contains ws w) same has)
  from-now (inr new) w has = elim (Contains-append_cases words (k ∷ []) w (subst (λ (ws : Words). Contains ws w) new.0 has)) [
    | inl front ↦ from-old w front
    | inr last ↦ (m, Contains-append_right so_far ((k, m) ∷ []) (w, m) (0, omega arith, (λ i. (sym (only-one k w last) i, m))))
  ]

  here : slice_get next (get_or (set now m place) m 0) ≡ Some k
  here = ap (slice_get next) (get_or-set_same now m place 0 (let e = s.sizes in omega (arith, in_range, e))) ∙ put.there

  placed-old : (n : ℕ) (w : List ℕ) → Contains so_far (w, n) → (n ≡ m) ⊎ (n ≢ m) → slice_get next (get_or (set now m place) n 0) ≡ Some w
  placed-old n w has (inl same) =
      let word : w ≡ k = own m w k (subst (λ (j : ℕ). Contains all (w, j)) same (front-in w n has)) this-in in
      ap (λ (j : ℕ). slice_get next (get_or (set now m place) j 0)) same ∙ (here ∙ ap Some (sym word))
  placed-old n w has (inr other) = ap (slice_get next) (get_or-set_other now m n place 0 other) ∙ kept put.grown (get_or now n 0) w (s.placed n w has)

  pub Ranked-push : IsRankedSoFar all (so_far ++ (k, m) ∷ []) next old (set now m place)
  Ranked-push = record {
    strict = still-rises put.grown;
    from = from-now put.grown;
    sizes = length-set now m place ∙ s.sizes;
    placed = λ n w has. elim (Contains-append_cases so_far ((k, m) ∷ []) (w, n) has) [
      | inl front ↦ placed-old n w front (same-or-other m n (eqb n m) refl)
      | inr last ↦ (let it = only-one {X = Entry} (k, m) (w, n) last in
          ap (λ (e : Entry). slice_get next (get_or (set now m place) e.1 0)) it ∙ (here ∙ ap (λ (e : Entry). Some e.0) (sym it)))
    ];
    others = λ n none.
        let other : n ≢ m = λ (h : n ≡ m). none k (subst (λ (j : ℕ). Contains all (k, j)) (sym h) this-in) in
        get_or-set_other now m n place 0 other ∙ s.others n none;
  }

pub AreRanked-made : (known : Known) (all : Entries) (words : Words) (old new : List ℕ) → AreSame known all → IsRankedSoFar all all words old new → AreWordsOf known words × AreRanked known words old new
AreRanked-made known all words old new same s = (
  record {
    strict = s.strict;
    kept = λ w n has. slice_get-contains words (get_or new n 0) w (s.placed n w ((same w n).0 has));
    nothing_else = λ w has. (let there = s.from w has in (there.0, (same w there.0).1 there.1));
  },
  record {
    sizes = s.sizes;
    placed = λ n w is. s.placed n w ((same w n).0 is);
    others = λ n none. s.others n (λ w has. none w ((same w n).1 has));
  },
)

pub own-entries : (limit : ℕ) (known : Known) (all : Entries) → AreSame known all → AreApart limit known → HaveOwn all
own-entries limit known all same apart n v w p q = apart.apart n v w ((same v n).1 p) ((same w n).1 q)

-- the fields before k have their words and places
pub record AreMade (numbers : WordNumbers) (k : ℕ) (words : List Words) (ranks : List ℕ) : Type 0 where
  pub sizes : length words ≡ k
  pub room : length ranks ≡ length numbers.ranks.items
  pub same : (f : ℕ) → f < k → AreWordsOf (entries_of numbers f) (get_or words f [])
  pub placed : (f n : ℕ) (w : List ℕ) → f < k → IsNumberOf numbers f w n → slice_get (get_or words f []) (get_or ranks n 0) ≡ Some w

pub AreMade-none : (numbers : WordNumbers) → AreMade numbers 0 [] numbers.ranks.items
AreMade-none numbers = record {
  sizes = refl;
  room = refl;
  same = λ f below. absurd (omega arith);
  placed = λ f n w below is. absurd (omega arith);
}

pub apart-in : (numbers : WordNumbers) (f : ℕ) (known : Known) (limit : ℕ) → IsNumbered numbers → known ≡ entries_of numbers f → limit ≡ length numbers.ranks.items → AreApart limit known
apart-in numbers f known limit sound is same = record {
  below = λ n w has. (let low = sound.below f n w (subst (λ (k : Known). HasNumber k w n) is has) in omega (arith, low, same));
  apart = λ n v w p q. (sound.apart f f n v w (subst (λ (k : Known). HasNumber k v n) is p) (subst (λ (k : Known). HasNumber k w n) is q)).1;
}

pub AreMade-push : (numbers : WordNumbers) (k : ℕ) (words : List Words) (ranks new : List ℕ) (es : Known) (d : Words) → IsNumbered numbers → es ≡ entries_of numbers k → AreMade numbers k words ranks →
    AreWordsOf es d → AreRanked es d ranks new → AreMade numbers (k + 1) (words ++ d ∷ []) new
AreMade-push numbers k words ranks new es d sound is made d_is ranks_are =
    let size = made.sizes in
    let front : (f : ℕ) → f < k → get_or (words ++ d ∷ []) f [] ≡ get_or words f [] = λ f below. get_or_append_left words (d ∷ []) [] f (omega (arith, below, size)) in
    let last : (f : ℕ) → k ≤ f → f < k + 1 → (f ≡ k) × (get_or (words ++ d ∷ []) f [] ≡ d) =
    λ f from below. (let at : f ≡ length words = omega (arith, from, below, size) in (omega (arith, from, below), ap (λ (g : ℕ). get_or (words ++ d ∷ []) g []) at ∙ get_or-append_seam words d [] [])) in
    record {
      sizes = omega (arith, length-append words (d ∷ []), size);
      room = ranks_are.sizes ∙ made.room;
      same = λ f below. elim (cases_lt f k) [
        | inl inside ↦ subst (AreWordsOf (entries_of numbers f)) (sym (front f inside)) (made.same f inside)
        | inr from ↦ (let l = last f from below in
            subst (λ (g : ℕ). AreWordsOf (entries_of numbers g) (get_or (words ++ d ∷ []) f [])) (sym l.0)
            (subst (AreWordsOf (entries_of numbers k)) (sym l.1) (subst (λ (xs : Known). AreWordsOf xs d) is d_is)))
      ];
      placed = λ f n w below has. elim (cases_lt f k) [
        | inl inside ↦
            let none : (v : List ℕ) → ¬ (HasNumber es v n) = λ v h.
            (let same = (sound.apart f k n w v has (subst (λ (xs : Known). HasNumber xs v n) is h)).0 in absurd (omega (arith, same, inside))) in
            ap (λ (ws : Words). slice_get ws (get_or new n 0)) (front f inside) ∙ (ap (slice_get (get_or words f [])) (ranks_are.others n none) ∙ made.placed f n w inside has)
        | inr from ↦ (let l = last f from below in
            ap (λ (ws : Words). slice_get ws (get_or new n 0)) l.1 ∙ ranks_are.placed n w (subst (λ (xs : Known). HasNumber xs w n) (sym is) (subst (λ (g : ℕ). IsNumberOf numbers g w n) l.0 has)))
      ];
    }

no-words : AreWordsOf none_known []
unfolding IsStrictlySortedBy
no-words = record { strict = tt; kept = λ w n has. absurd (none-has w n has); nothing_else = λ w has. (let low = has.1 in absurd (omega (arith, low))) }

entries-past : (numbers : WordNumbers) (f : ℕ) → length numbers.by_field.items ≤ f → entries_of numbers f ≡ none_known
entries-past numbers f past = get_or_past numbers.by_field.items f none_known past

pub AreWords-made : (numbers : WordNumbers) (k : ℕ) (words : List Words) (ranks : List ℕ) → length numbers.by_field.items ≡ k → AreMade numbers k words ranks → AreWords numbers words × ArePlaced numbers words ranks
AreWords-made numbers k words ranks all made =
    let size = made.sizes in (
      record {
        sizes = size ∙ sym all;
        same = λ f. elim (cases_lt f k) [
          | inl inside ↦ made.same f inside
          | inr past ↦ subst (λ (es : Known). AreWordsOf es (get_or words f [])) (sym (entries-past numbers f (omega (arith, all, past))))
              (subst (AreWordsOf none_known) (sym (get_or_past words f [] (omega (arith, size, past)))) no-words)
        ];
      },
      λ f n w has. elim (cases_lt f k) [
        | inl inside ↦ made.placed f n w inside has
        | inr past ↦ absurd (none-has w n (subst (λ (es : Known). HasNumber es w n) (entries-past numbers f (omega (arith, all, past))) has))
      ],
    )

-- the words that are met in rows are the words of their dictionaries
pub AreDictionaries-made : (count : ℕ) (rows : List Laid) (empty numbers : WordNumbers) (words : List Words) → length empty.by_field.items ≡ count → HasNoWords empty → Notes empty numbers (λ f. flat_map (row_words f) rows) → AreWords numbers words → AreDictionaries count rows words
AreDictionaries-made count rows empty numbers words size none notes are = record {
  sizes = are.sizes ∙ (notes.sizes ∙ size);
  same = λ f below. record {
    strict = (are.same f).strict;
    kept = λ w has. (let there = notes.known f w has in (are.same f).kept w there.0 there.1);
    nothing_else = λ w has.
        let there = (are.same f).nothing_else w has in
        elim (notes.nothing_else f there.0 w there.1) [
          | inl before ↦ absurd (none f w before.0 before.1)
          | inr met ↦ met
        ];
  };
}

limited-low : (n : ℕ) → n < 2 ^ 32 → limited n ≡ n
limited-low n low = grind (arith, nat_tests)

-- numbers that are put into their places show their words
pub Shows-ranked : (numbers : WordNumbers) (words : List Words) (ranks : List ℕ) → ArePlaced numbers words ranks → ((f : ℕ) → length (get_or words f []) < 2 ^ 32) → Shows numbers (λ f n. by_words words f (ranked ranks n))
Shows-ranked numbers words ranks placed few = record {
  word = λ f n w is. shown-ranked f n w is (slice_get ranks n) refl (placed f n w is);
}
  where
    shown-ranked : (f n : ℕ) (w : List ℕ) → IsNumberOf numbers f w n → (o : Option ℕ) → slice_get ranks n ≡ o → slice_get (get_or words f []) (get_or ranks n 0) ≡ Some w → by_words words f (ranked ranks n) ≡ scalar.Word w
    shown-ranked f n w is None e there =
        let at : get_or ranks n 0 ≡ 0 = sym (unwrap_or-slice_get ranks n 0) ∙ ap (λ (o : Option ℕ). unwrap_or o 0) e in
        ap (λ (o : Option ℕ). by_words words f (option_map_or limited o 0)) e ∙ ap (λ (o : Option (List ℕ)). option_map_or scalar.Word o (scalar.Whole (pos 0))) (ap (slice_get (get_or words f [])) (sym at) ∙ there)
    shown-ranked f n w is (Some r) e there =
        let at : get_or ranks n 0 ≡ r = sym (unwrap_or-slice_get ranks n 0) ∙ ap (λ (o : Option ℕ). unwrap_or o 0) e in
        let low : r < length (get_or words f []) = slice_get_within (get_or words f []) r w (ap (slice_get (get_or words f [])) (sym at) ∙ there) in
        ap (λ (o : Option ℕ). by_words words f (option_map_or limited o 0)) e
        ∙ (ap (by_words words f) (limited-low r (omega (arith, low, few f)))
        ∙ ap (λ (o : Option (List ℕ)). option_map_or scalar.Word o (scalar.Whole (pos 0))) (ap (slice_get (get_or words f [])) (sym at) ∙ there))

pub map-after : {X Y Z : Type 0} (f : Y → Z) (g : X → Y) (xs : List X) → map f (map g xs) ≡ map (λ x. f (g x)) xs
map-after f g [] = refl
map-after {X} {Y} {Z} f g (x ∷ xs) = ap (λ (zs : List Z). f (g x) ∷ zs) (map-after f g xs)

-- words that are put into their places
pub ranked-words : (ranks : List ℕ) (old new : Vec ℕ Global) → new.items ≡ map (ranked ranks) old.items → AreRankedAll ranks (typed.Words old) (typed.Words new)
ranked-words ranks old new is = record {
  size = ap length is ∙ length-map old.items (ranked ranks);
  kind = λ k. kind-same-words k new old;
  same = λ show. ap (map show) is ∙ map-after show (ranked ranks) old.items;
}
