-- What a field of a row has, by its column.
use Rattle.std.proofs.Common.{Bool, cond, T, Some, zero, suc, ◌≡◌, ◌≢◌, refl, ℕ, ℤ, ◌+◌, ◌<◌, ◌≤◌, List, [], ◌∷◌, ◌++◌, map, length, get_or, sym, ◌∙◌, ap, subst, arith, None, Option, true, false, eqb, eq-eqb, find, inl, inr, unwrap_or, option_map}
use Rattle.std.specs.Prelude.{slice_get, pos, Vec}
use Rattle.std.specs.declared.alloc.Global.{Global}
use Rattle.std.proofs.lemmas.Option.{get_or_from_slice_get, slice_get_within}
use Rattle.std.specs.Option.{option_map_or}
use Rattle.std.specs.List.{list_all, range_with_len}
use Rattle.std.proofs.lemmas.Bool.{cases_lt}
use Rattle.std.proofs.Math.Facts.{eqb_yes}
use Rattle.agg_model.specs.FieldKinds.{is_of_kind, is_number_kind}
use Rattle.agg_model.specs.declared.mapping.FieldKind.{FieldKind}
use Rattle.agg_model.specs.declared.mapping.FieldKind.TheVariants.{Long, Integer, Short, Byte, Keyword, Boolean, Date}
use Rattle.agg_model.specs.declared.row.Scalar.{Scalar}
use Rattle.agg_model.specs.declared.row.Scalar.TheVariants as scalar
use Rattle.agg_model.specs.declared.row.FieldValues.{FieldValues}
use Rattle.shard_columns.specs.declared.values.Span.{Span}
use Rattle.shard_columns.specs.declared.values.Typed.{Typed}
use Rattle.shard_columns.specs.declared.values.Typed.TheVariants as typed
use Rattle.shard_columns.specs.Columnar.{wholes_part, ordinals_part, flags_part}
use Rattle.shard_columns.specs.Lent.{wholes_in, flags_in, word_at}
use Rattle.shard_columns.specs.Values.{Words, found_values, present, present_from, scalars, shown, cut, is_taken, words_in}
use Rattle.shard_columns.proofs.Drafting.{same-or-other}
use Rattle.shard_columns.proofs.Storing.{cut-map, no-words-wholes, no-words-flags}

pub range-length : (m n : ℕ) → length (range_with_len m n) ≡ n
range-length m zero = refl
range-length m (suc n) = ap suc (range-length (m + 1) n)

pub range-at : (m n k : ℕ) → k < n → get_or (range_with_len m n) k 0 ≡ m + k
range-at m zero k low = absurd (omega (arith, low))
range-at m (suc n) zero low = omega arith
range-at m (suc n) (suc k) low = range-at (m + 1) n k (omega (arith, low)) ∙ (let e : (m + 1) + k ≡ m + suc k = omega arith in e)

other-field : (v : FieldValues) (f : ℕ) (o : Option FieldValues) (b : Bool) → eqb v.field f ≡ b → v.field ≢ f → cond b (Some v) o ≡ o
other-field v f o true e other = absurd (other (eqb_yes (subst T (sym e) tt)))
other-field v f o false e other = refl

present-other : (g f : ℕ) (vs : List Scalar) (rest : List FieldValues) → g ≢ f → found_values f (present g vs ++ rest) ≡ found_values f rest
present-other g f [] rest other = refl
present-other g f (v ∷ vs) rest other =
    ap (λ (o : Option FieldValues). option_map_or (λ (x : FieldValues). x.values) o []) (other-field (record { field = g; values = v ∷ vs }) f (find (λ (x : FieldValues). eqb x.field f) rest) (eqb g f) refl other)

present-same : (f : ℕ) (vs : List Scalar) (rest : List FieldValues) → found_values f rest ≡ [] → found_values f (present f vs ++ rest) ≡ vs
present-same f [] rest none = none
present-same f (v ∷ vs) rest none = ap (λ (b : Bool). option_map_or (λ (x : FieldValues). x.values) (cond b (Some (record { field = f; values = v ∷ vs })) (find (λ (x : FieldValues). eqb x.field f) rest)) []) (eq-eqb f f refl)

found-before : (read : ℕ → List Scalar) (least n f : ℕ) → f < least → found_values f (present_from read least n) ≡ []
unfolding present_from
found-before read least zero f low = refl
found-before read least (suc n) f low =
    present-other least f (read least) (present_from read (least + 1) n) (λ (same : least ≡ f). absurd (omega (arith, same, low))) ∙ found-before read (least + 1) n f (omega (arith, low))

pub found-beyond : (read : ℕ → List Scalar) (least n f : ℕ) → least + n ≤ f → found_values f (present_from read least n) ≡ []
unfolding present_from
found-beyond read least zero f past = refl
found-beyond read least (suc n) f past =
    present-other least f (read least) (present_from read (least + 1) n) (λ (same : least ≡ f). absurd (omega (arith, same, past))) ∙ found-beyond read (least + 1) n f (omega (arith, past))

pub found-present : (read : ℕ → List Scalar) (least n f : ℕ) → least ≤ f → f < least + n → found_values f (present_from read least n) ≡ read f
unfolding present_from
found-present read least zero f up low = absurd (omega (arith, up, low))
found-present read least (suc n) f up low =
    elim (same-or-other least f) [
      | inl same ↦
          ap (λ (g : ℕ). found_values f (present g (read g) ++ present_from read (least + 1) n)) same
          ∙ present-same f (read f) (present_from read (least + 1) n) (found-before read (least + 1) n f (omega (arith, same)))
      | inr other ↦ present-other least f (read least) (present_from read (least + 1) n) other ∙ found-present read (least + 1) n f (after other) (omega (arith, low))
    ]
  where
    after : least ≢ f → least + 1 ≤ f
    after other = elim (cases_lt least f) [
      | inl less ↦ omega (arith, less)
      | inr more ↦ absurd (other (omega (arith, up, more)))
    ]

pub found-unwrap : (o : Option FieldValues) → unwrap_or (option_map (λ (v : FieldValues). v.values) o) [] ≡ option_map_or (λ (v : FieldValues). v.values) o []
found-unwrap None = refl
found-unwrap (Some v) = refl

wholes-of : (ns : List ℤ) → wholes_in (map scalar.Whole ns) ≡ ns
wholes-of [] = refl
wholes-of (n ∷ ns) = ap (λ (xs : List ℤ). n ∷ xs) (wholes-of ns)

flags-of : (bs : List Bool) → flags_in (map scalar.Flag bs) ≡ bs
flags-of [] = refl
flags-of (b ∷ bs) = ap (λ (xs : List Bool). b ∷ xs) (flags-of bs)

no-wholes : (t : Vec ℕ Global) (vs : List Scalar) → list_all (is_taken (typed.Words t)) vs ≡ true → wholes_in vs ≡ []
no-wholes t [] e = refl
no-wholes t (scalar.Whole n ∷ vs) e = absurd (cc e)
no-wholes t (scalar.Word w ∷ vs) e = no-wholes t vs e
no-wholes t (scalar.Flag b ∷ vs) e = absurd (cc e)

no-flags : (t : Vec ℕ Global) (vs : List Scalar) → list_all (is_taken (typed.Words t)) vs ≡ true → flags_in vs ≡ []
no-flags t [] e = refl
no-flags t (scalar.Whole n ∷ vs) e = absurd (cc e)
no-flags t (scalar.Word w ∷ vs) e = no-flags t vs e
no-flags t (scalar.Flag b ∷ vs) e = absurd (cc e)

wholes-flags : (bs : List Bool) → wholes_in (map scalar.Flag bs) ≡ []
wholes-flags [] = refl
wholes-flags (b ∷ bs) = wholes-flags bs

flags-wholes : (ns : List ℤ) → flags_in (map scalar.Whole ns) ≡ []
flags-wholes [] = refl
flags-wholes (n ∷ ns) = flags-wholes ns

-- what is lent of a column
pub lent-wholes : (show : ℕ → Scalar) (t : Typed) (s : Span) → list_all (is_taken t) (cut (scalars show t) s) ≡ true → wholes_part t s ≡ wholes_in (cut (scalars show t) s)
lent-wholes show (typed.Wholes ns) s taken = sym (ap wholes_in (cut-map scalar.Whole ns.items s) ∙ wholes-of (cut ns.items s))
lent-wholes show (typed.Words ps) s taken = sym (no-wholes ps (cut (map show ps.items) s) taken)
lent-wholes show (typed.Flags bs) s taken = sym (ap wholes_in (cut-map scalar.Flag bs.items s) ∙ wholes-flags (cut bs.items s))

pub lent-flags : (show : ℕ → Scalar) (t : Typed) (s : Span) → list_all (is_taken t) (cut (scalars show t) s) ≡ true → flags_part t s ≡ flags_in (cut (scalars show t) s)
lent-flags show (typed.Wholes ns) s taken = sym (ap flags_in (cut-map scalar.Whole ns.items s) ∙ flags-wholes (cut ns.items s))
lent-flags show (typed.Words ps) s taken = sym (no-flags ps (cut (map show ps.items) s) taken)
lent-flags show (typed.Flags bs) s taken = sym (ap flags_in (cut-map scalar.Flag bs.items s) ∙ flags-of (cut bs.items s))

shown-words : (ws : Words) (ps : List ℕ) (t : Vec ℕ Global) → list_all (is_taken (typed.Words t)) (map (shown ws) ps) ≡ true → (map (word_at ws) ps ≡ words_in (map (shown ws) ps)) × ((k : ℕ) → k < length ps → get_or ps k 0 < length ws)
shown-words ws [] t taken = (refl, λ k low. absurd (omega (arith, low)))
shown-words ws (p ∷ ps) t taken = one (slice_get ws p) refl taken (λ rest. shown-words ws ps t rest)
  where
    one : (o : Option (List ℕ)) → slice_get ws p ≡ o → list_all (is_taken (typed.Words t)) (option_map_or scalar.Word o (scalar.Whole (pos 0)) ∷ map (shown ws) ps) ≡ true →
        (list_all (is_taken (typed.Words t)) (map (shown ws) ps) ≡ true → (map (word_at ws) ps ≡ words_in (map (shown ws) ps)) × ((k : ℕ) → k < length ps → get_or ps k 0 < length ws)) →
        (map (word_at ws) (p ∷ ps) ≡ words_in (map (shown ws) (p ∷ ps))) × ((k : ℕ) → k < length (p ∷ ps) → get_or (p ∷ ps) k 0 < length ws)
    one None e taken' more = absurd (cc taken')
    one (Some w) e taken' more =
        let rest = more taken' in
        let here : word_at ws p ≡ w = get_or_from_slice_get ws p w [] e in
        let front : words_in (shown ws p ∷ []) ≡ w ∷ [] = ap (λ (o : Option (List ℕ)). words_in (option_map_or scalar.Word o (scalar.Whole (pos 0)) ∷ [])) e in (
          (λ i. here i ∷ rest.0 i) ∙ sym (ap (λ (o : Option (List ℕ)). words_in (option_map_or scalar.Word o (scalar.Whole (pos 0)) ∷ map (shown ws) ps)) e),
          λ k. elim k as (λ k. k < length (p ∷ ps) → get_or (p ∷ ps) k 0 < length ws) [
            | zero ↦ (λ low. slice_get_within ws p w e)
            | suc k ↦ (λ low. rest.1 k (omega (arith, low)))
          ],
        )

pub lent-ordinals : (ws : Words) (t : Typed) (s : Span) → list_all (is_taken t) (cut (scalars (shown ws) t) s) ≡ true →
    (map (word_at ws) (ordinals_part t s) ≡ words_in (cut (scalars (shown ws) t) s)) × ((k : ℕ) → k < length (ordinals_part t s) → get_or (ordinals_part t s) k 0 < length ws)
lent-ordinals ws (typed.Wholes ns) s taken = (sym (no-words-wholes (cut (map scalar.Whole ns.items) s) ns taken), λ k low. absurd (omega (arith, low)))
lent-ordinals ws (typed.Flags bs) s taken = (sym (no-words-flags (cut (map scalar.Flag bs.items) s) bs taken), λ k low. absurd (omega (arith, low)))
lent-ordinals ws (typed.Words ps) s taken =
    let is = cut-map (shown ws) ps.items s in
    let got = shown-words ws (cut ps.items s) ps (ap (list_all (is_taken (typed.Words ps))) (sym is) ∙ taken) in
    (got.0 ∙ ap words_in (sym is), got.1)

pub wholes-all : (k : FieldKind) (vs : List Scalar) → is_number_kind k ≡ true → list_all (is_of_kind k) vs ≡ true → map scalar.Whole (wholes_in vs) ≡ vs
wholes-all k [] whole all = refl
wholes-all Long (scalar.Whole n ∷ vs) whole all = ap (λ (xs : List Scalar). scalar.Whole n ∷ xs) (wholes-all Long vs whole all)
wholes-all Long (scalar.Word w ∷ vs) whole all = absurd (cc all)
wholes-all Long (scalar.Flag b ∷ vs) whole all = absurd (cc all)
wholes-all Integer (scalar.Whole n ∷ vs) whole all = ap (λ (xs : List Scalar). scalar.Whole n ∷ xs) (wholes-all Integer vs whole all)
wholes-all Integer (scalar.Word w ∷ vs) whole all = absurd (cc all)
wholes-all Integer (scalar.Flag b ∷ vs) whole all = absurd (cc all)
wholes-all Short (scalar.Whole n ∷ vs) whole all = ap (λ (xs : List Scalar). scalar.Whole n ∷ xs) (wholes-all Short vs whole all)
wholes-all Short (scalar.Word w ∷ vs) whole all = absurd (cc all)
wholes-all Short (scalar.Flag b ∷ vs) whole all = absurd (cc all)
wholes-all Byte (scalar.Whole n ∷ vs) whole all = ap (λ (xs : List Scalar). scalar.Whole n ∷ xs) (wholes-all Byte vs whole all)
wholes-all Byte (scalar.Word w ∷ vs) whole all = absurd (cc all)
wholes-all Byte (scalar.Flag b ∷ vs) whole all = absurd (cc all)
wholes-all Date (scalar.Whole n ∷ vs) whole all = ap (λ (xs : List Scalar). scalar.Whole n ∷ xs) (wholes-all Date vs whole all)
wholes-all Date (scalar.Word w ∷ vs) whole all = absurd (cc all)
wholes-all Date (scalar.Flag b ∷ vs) whole all = absurd (cc all)
wholes-all Keyword (v ∷ vs) whole all = absurd (cc whole)
wholes-all Boolean (v ∷ vs) whole all = absurd (cc whole)

pub words-all : (vs : List Scalar) → list_all (is_of_kind Keyword) vs ≡ true → map scalar.Word (words_in vs) ≡ vs
words-all [] all = refl
words-all (scalar.Whole n ∷ vs) all = absurd (cc all)
words-all (scalar.Word w ∷ vs) all = ap (λ (xs : List Scalar). scalar.Word w ∷ xs) (words-all vs all)
words-all (scalar.Flag b ∷ vs) all = absurd (cc all)

pub flags-all : (vs : List Scalar) → list_all (is_of_kind Boolean) vs ≡ true → map scalar.Flag (flags_in vs) ≡ vs
flags-all [] all = refl
flags-all (scalar.Whole n ∷ vs) all = absurd (cc all)
flags-all (scalar.Word w ∷ vs) all = absurd (cc all)
flags-all (scalar.Flag b ∷ vs) all = ap (λ (xs : List Scalar). scalar.Flag b ∷ xs) (flags-all vs all)
