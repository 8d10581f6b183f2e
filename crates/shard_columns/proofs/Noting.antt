-- Words that are met: each keeps its number, and no two have one number.
use Rattle.std.proofs.Common.{T, Bool, true, false, cond, eqb, eq-eqb, flat_map, zero, suc, ◌≡◌, ◌≢◌, refl, ℕ, ◌<◌, ◌≤◌, List, [], ◌∷◌, ◌++◌, length, get_or, set, sym, ◌∙◌, ap, subst, arith, Contains, inl, inr}
use Rattle.std.specs.Prelude.{◌⊎◌}
use Rattle.std.proofs.lemmas.List.{append-nil, length-set, get_or-set_same, get_or-set_other}
use Rattle.std.proofs.lemmas.List.Elements.{Contains-append_left, Contains-append_right, Contains-append_cases}
use Rattle.std.proofs.lemmas.Grind.{flat_map-append}
use Rattle.std.proofs.Math.Facts.{eqb_yes}
use Rattle.agg_model.specs.declared.row.Scalar.{Scalar}
use Rattle.agg_model.specs.declared.row.FieldValues.{FieldValues}
use Rattle.shard_columns.specs.declared.layout.Laid.{Laid}
use Rattle.shard_columns.specs.declared.words.WordNumbers.{WordNumbers}
use Rattle.shard_columns.specs.Values.{Words, word_in, words_in, words_at, words_for, FieldsBelow}
use Rattle.shard_columns.specs.Numbered.{Known, none_known, HasNumber, HasNone, IsGiven}
use Rattle.shard_columns.specs.Words.{entries_of, IsNumberOf, HasNoWords, IsNumbered, of_field, Notes, row_words, AllFieldsBelow}
use Rattle.shard_columns.proofs.Storing.{get_or-any}

pub Notes-none : (numbers : WordNumbers) → IsNumbered numbers → Notes numbers numbers (λ f. [])
Notes-none numbers sound = record {
  sizes = refl;
  sound = sound;
  kept = λ f n w is. is;
  known = λ f w has. (let none = has.1 in absurd (omega (arith, none)));
  nothing_else = λ f n w is. inl (n, is);
}

pub Notes-join : (old now new : WordNumbers) (xs ys : ℕ → Words) → Notes old now xs → Notes now new ys → Notes old new (λ f. xs f ++ ys f)
Notes-join old now new xs ys p q = record {
  sizes = q.sizes ∙ p.sizes;
  sound = q.sound;
  kept = λ f n w is. q.kept f n w (p.kept f n w is);
  known = λ f w has. elim (Contains-append_cases (xs f) (ys f) w has) [
    | inl front ↦ (let there = p.known f w front in (there.0, q.kept f there.0 w there.1))
    | inr behind ↦ q.known f w behind
  ];
  nothing_else = λ f n w is. elim (q.nothing_else f n w is) [
    | inl before ↦ elim (p.nothing_else f before.0 w before.1) [
      | inl first ↦ inl first
      | inr front ↦ inr (Contains-append_left (xs f) (ys f) w front)
    ]
    | inr behind ↦ inr (Contains-append_right (xs f) (ys f) w behind)
  ];
}

pub Notes-same : (old new : WordNumbers) (xs ys : ℕ → Words) → ((f : ℕ) → xs f ≡ ys f) → Notes old new xs → Notes old new ys
Notes-same old new xs ys same p = record {
  sizes = p.sizes;
  sound = p.sound;
  kept = p.kept;
  known = λ f w has. p.known f w (subst (λ (ws : Words). Contains ws w) (sym (same f)) has);
  nothing_else = λ f n w is. elim (p.nothing_else f n w is) [
    | inl before ↦ inl before
    | inr here ↦ inr (subst (λ (ws : Words). Contains ws w) (same f) here)
  ];
}

of_field-append : (b : Bool) (xs ys : Words) → cond b xs [] ++ cond b ys [] ≡ cond b (xs ++ ys) []
of_field-append true xs ys = refl
of_field-append false xs ys = refl

words_in-push : (vs : List Scalar) (v : Scalar) → words_in vs ++ word_in v ≡ words_in (vs ++ v ∷ [])
words_in-push vs v = ap (λ (ws : Words). words_in vs ++ ws) (sym (append-nil (word_in v))) ∙ sym (flat_map-append word_in vs (v ∷ []))

-- one more value of a field
pub Notes-value : (old now new : WordNumbers) (field : ℕ) (vs : List Scalar) (v : Scalar) → Notes old now (of_field field (words_in vs)) → Notes now new (of_field field (word_in v)) → Notes old new (of_field field (words_in (vs ++ v ∷ [])))
Notes-value old now new field vs v p q =
    Notes-same old new (λ f. of_field field (words_in vs) f ++ of_field field (word_in v) f) (of_field field (words_in (vs ++ v ∷ [])))
    (λ f. of_field-append (eqb field f) (words_in vs) (word_in v) ∙ ap (λ (ws : Words). cond (eqb field f) ws []) (words_in-push vs v))
    (Notes-join old now new (of_field field (words_in vs)) (of_field field (word_in v)) p q)

of_field-none : (b : Bool) → cond {A = Words} b [] [] ≡ []
of_field-none true = refl
of_field-none false = refl

pub Notes-no_word : (numbers : WordNumbers) (field : ℕ) → IsNumbered numbers → Notes numbers numbers (of_field field [])
Notes-no_word numbers field sound = Notes-same numbers numbers (λ f. []) (of_field field []) (λ f. sym (of_field-none (eqb field f))) (Notes-none numbers sound)

pub Notes-field : (old new : WordNumbers) (field : FieldValues) → Notes old new (of_field field.field (words_in field.values)) → Notes old new (λ f. words_for f (field ∷ []))
Notes-field old new field p =
    Notes-same old new (of_field field.field (words_in field.values)) (λ f. words_for f (field ∷ [])) (λ f. sym (append-nil (of_field field.field (words_in field.values) f))) p

pub Notes-fields : (old now new : WordNumbers) (xs ys : List FieldValues) → Notes old now (λ f. words_for f xs) → Notes now new (λ f. words_for f ys) → Notes old new (λ f. words_for f (xs ++ ys))
Notes-fields old now new xs ys p q =
    Notes-same old new (λ f. words_for f xs ++ words_for f ys) (λ f. words_for f (xs ++ ys)) (λ f. sym (flat_map-append (words_at f) xs ys)) (Notes-join old now new (λ f. words_for f xs) (λ f. words_for f ys) p q)

pub Notes-row : (old now new : WordNumbers) (rows : List Laid) (l : Laid) → Notes old now (λ f. flat_map (row_words f) rows) → Notes now new (λ f. words_for f l.values.now) → Notes old new (λ f. flat_map (row_words f) (rows ++ l ∷ []))
Notes-row old now new rows l p q =
    Notes-same old new (λ f. flat_map (row_words f) rows ++ row_words f l) (λ f. flat_map (row_words f) (rows ++ l ∷ []))
    (λ f. ap (λ (ws : Words). flat_map (row_words f) rows ++ ws) (sym (append-nil (row_words f l))) ∙ sym (flat_map-append (row_words f) rows (l ∷ [])))
    (Notes-join old now new (λ f. flat_map (row_words f) rows) (λ f. row_words f l) p q)

abbrev IsIt : ℕ → List ℕ → ℕ → List ℕ → Type 0
IsIt field word f w = (f ≡ field) × (w ≡ word)

-- a word of a field is given the number n, which is its own or the next one
pub record Numbering (old new : WordNumbers) (field n : ℕ) (word : List ℕ) : Type 0 where
  pub sizes : length new.by_field.items ≡ length old.by_field.items
  pub there : IsNumberOf new field word n
  pub own : IsNumberOf old field word n ⊎ (n ≡ length old.ranks.items)
  pub kept : (f m : ℕ) (w : List ℕ) → IsNumberOf old f w m → IsNumberOf new f w m
  pub nothing_else : (f m : ℕ) (w : List ℕ) → IsNumberOf new f w m → IsNumberOf old f w m ⊎ (IsIt field word f w × (m ≡ n))
  pub below : n < length new.ranks.items
  pub grown : length old.ranks.items ≤ length new.ranks.items

-- what had the number is this word
own-word : (old new : WordNumbers) (field n : ℕ) (word : List ℕ) → IsNumbered old → Numbering old new field n word → (f m : ℕ) (w : List ℕ) → m ≡ n → IsNumberOf old f w m → IsIt field word f w
own-word old new field n word sound s f m w same has = elim s.own [
  | inl own ↦ sound.apart f field m w word has (subst (IsNumberOf old field word) (sym same) own)
  | inr next ↦ (let low = sound.below f m w has in absurd (omega (arith, next, same, low)))
]

apart-now : (old new : WordNumbers) (field n : ℕ) (word : List ℕ) → IsNumbered old → Numbering old new field n word → (f g m : ℕ) (v w : List ℕ) → IsNumberOf new f v m → IsNumberOf new g w m → (f ≡ g) × (v ≡ w)
apart-now old new field n word sound s f g m v w p q = elim (s.nothing_else f m v p) [
  | inl o ↦ elim (s.nothing_else g m w q) [
    | inl u ↦ sound.apart f g m v w o u
    | inr b ↦ (let it = own-word old new field n word sound s f m v b.1 o in (it.0 ∙ sym b.0.0, it.1 ∙ sym b.0.1))
  ]
  | inr a ↦ elim (s.nothing_else g m w q) [
    | inl u ↦ (let it = own-word old new field n word sound s g m w a.1 u in (a.0.0 ∙ sym it.0, a.0.1 ∙ sym it.1))
    | inr b ↦ (a.0.0 ∙ sym b.0.0, a.0.1 ∙ sym b.0.1)
  ]
]

in-one : (field : ℕ) (word : List ℕ) (f : ℕ) (w : List ℕ) (b : Bool) → eqb field f ≡ b → Contains (cond b (word ∷ []) []) w → IsIt field word f w
in-one field word f w true e has =
    let first : has.0 ≡ 0 = (let below = has.1 in omega (arith, below)) in
    let same : field ≡ f = eqb_yes (subst T (sym e) tt) in
    (sym same, sym (subst (λ (k : ℕ). get_or (word ∷ []) k w ≡ w) first has.2))
in-one field word f w false e has = (let below = has.1 in absurd (omega (arith, below)))

one-in : (field : ℕ) (word : List ℕ) → Contains (of_field field (word ∷ []) field) word
one-in field word = subst (λ (b : Bool). Contains (cond b (word ∷ []) []) word) (sym (eq-eqb field field refl)) (0, omega arith, refl)

pub Notes-number : (old new : WordNumbers) (field n : ℕ) (word : List ℕ) → IsNumbered old → Numbering old new field n word → Notes old new (of_field field (word ∷ []))
Notes-number old new field n word sound s = record {
  sizes = s.sizes;
  sound = record {
    below = λ f m w is. elim (s.nothing_else f m w is) [
      | inl o ↦ (let low = sound.below f m w o in let more = s.grown in omega (arith, low, more))
      | inr it ↦ (let low = s.below in let own = it.1 in omega (arith, low, own))
    ];
    apart = λ f g m v w p q. apart-now old new field n word sound s f g m v w p q;
  };
  kept = s.kept;
  known = λ f w has.
      let it = in-one field word f w (eqb field f) refl has in
      (n, subst (λ (g : ℕ). IsNumberOf new g w n) (sym it.0) (subst (λ (v : List ℕ). IsNumberOf new field v n) (sym it.1) s.there));
  nothing_else = λ f m w is. elim (s.nothing_else f m w is) [
    | inl o ↦ inl (m, o)
    | inr it ↦ inr (subst (λ (g : ℕ). Contains (of_field field (word ∷ []) g) w) (sym it.0.0) (subst (Contains (of_field field (word ∷ []) field)) (sym it.0.1) (one-in field word)))
  ];
}

same-or-other : (f field : ℕ) (b : Bool) → eqb f field ≡ b → (f ≡ field) ⊎ (f ≢ field)
same-or-other f field true e = inl (eqb_yes (subst T (sym e) tt))
same-or-other f field false e = inr (λ (h : f ≡ field). absurd (cc (sym (eq-eqb f field h) ∙ e)))

known-at : (all : List Known) (field : ℕ) (here : Known) → field < length all → here ≡ get_or all field here → get_or all field none_known ≡ here
known-at all field here below read = get_or-any all field none_known here below ∙ sym read

module _ (old new : WordNumbers) (field n : ℕ) (word : List ℕ) (here noted : Known) (below : field < length old.by_field.items) (read : here ≡ get_or old.by_field.items field here)
    (is : new.by_field.items ≡ set old.by_field.items field noted) (given : IsGiven here noted word n (length old.ranks.items)) where
  before : entries_of old field ≡ here
  before = known-at old.by_field.items field here below read

  after : entries_of new field ≡ noted
  after = ap (λ (all : List Known). get_or all field none_known) is ∙ get_or-set_same old.by_field.items field noted none_known below

  others : (f : ℕ) → f ≢ field → entries_of new f ≡ entries_of old f
  others f other = ap (λ (all : List Known). get_or all f none_known) is ∙ get_or-set_other old.by_field.items field f noted none_known other

  kept-at : (f m : ℕ) (w : List ℕ) → IsNumberOf old f w m → (f ≡ field) ⊎ (f ≢ field) → IsNumberOf new f w m
  kept-at f m w has (inl same) =
      let had : HasNumber here w m = subst (λ (k : Known). HasNumber k w m) before (subst (λ (g : ℕ). IsNumberOf old g w m) same has) in
      subst (λ (g : ℕ). IsNumberOf new g w m) (sym same) (subst (λ (k : Known). HasNumber k w m) (sym after) (given.kept w m had))
  kept-at f m w has (inr other) = subst (λ (k : Known). HasNumber k w m) (sym (others f other)) has

  else-at : (f m : ℕ) (w : List ℕ) → IsNumberOf new f w m → (f ≡ field) ⊎ (f ≢ field) → IsNumberOf old f w m ⊎ (IsIt field word f w × (m ≡ n))
  else-at f m w has (inl same) =
      elim (given.nothing_else w m (subst (λ (k : Known). HasNumber k w m) after (subst (λ (g : ℕ). IsNumberOf new g w m) same has))) [
        | inl had ↦ inl (subst (λ (g : ℕ). IsNumberOf old g w m) (sym same) (subst (λ (k : Known). HasNumber k w m) (sym before) had))
        | inr it ↦ inr ((same, it.0), it.1)
      ]
  else-at f m w has (inr other) = inl (subst (λ (k : Known). HasNumber k w m) (others f other) has)

  pub Numbering-made : n < length new.ranks.items → length old.ranks.items ≤ length new.ranks.items → Numbering old new field n word
  Numbering-made low grown = record {
    sizes = ap length is ∙ length-set old.by_field.items field noted;
    there = subst (λ (k : Known). HasNumber k word n) (sym after) given.there;
    own = elim given.own [
      | inl had ↦ inl (subst (λ (k : Known). HasNumber k word n) (sym before) had)
      | inr next ↦ inr next
    ];
    kept = λ f m w has. kept-at f m w has (same-or-other f field (eqb f field) refl);
    nothing_else = λ f m w has. else-at f m w has (same-or-other f field (eqb f field) refl);
    below = low;
    grown = grown;
  }

  -- a number that is not below the next one is the next one
  pub next-number : IsNumbered old → n ≤ length old.ranks.items
  next-number sound = elim given.own [
    | inl had ↦ (let low = sound.below field n word (subst (λ (k : Known). HasNumber k word n) (sym before) had) in omega (arith, low))
    | inr next ↦ omega (arith, next)
  ]

-- no words have no number
pub none-has : HasNone none_known
none-has w n (inl found) = absurd (cc found)
none-has w n (inr has) = (let low = has.1 in absurd (omega (arith, low)))

pub none-first : (f : ℕ) → HasNone (get_or [] f none_known)
none-first zero = none-has
none-first (suc f) = none-has

pub none-push : (all : List Known) (k : Known) → HasNone k → ((f : ℕ) → HasNone (get_or all f none_known)) → (f : ℕ) → HasNone (get_or (all ++ k ∷ []) f none_known)
none-push [] k none all zero = none
none-push [] k none all (suc f) = all f
none-push (n ∷ ns) k none all zero = all 0
none-push (n ∷ ns) k none all (suc f) = none-push ns k none (λ g. all (suc g)) f

pub IsNumbered-none : (numbers : WordNumbers) → HasNoWords numbers → IsNumbered numbers
IsNumbered-none numbers none = record {
  below = λ f n w is. absurd (none f w n is);
  apart = λ f g n v w p q. absurd (none f v n p);
}

pub AllFieldsBelow-at : (m : ℕ) (ls : List Laid) (n : ℕ) (d : Laid) → n < length ls → AllFieldsBelow m ls → FieldsBelow m (get_or ls n d).values.now
unfolding AllFieldsBelow
AllFieldsBelow-at m [] n d below has = absurd (omega arith)
AllFieldsBelow-at m (l ∷ ls) zero d below has = has.0
AllFieldsBelow-at m (l ∷ ls) (suc n) d below has = AllFieldsBelow-at m ls n d (omega arith) has.1
