-- Drafts of columns, row by row.
use Rattle.std.proofs.Common.{Bool, cond, T, Some, zero, suc, ◌≡◌, ◌≢◌, refl, ℕ, ◌+◌, ◌<◌, ◌≤◌, List, [], ◌∷◌, ◌++◌, map, length, get_or, set, take, sym, ◌∙◌, ap, subst, arith, length-append, None, Option, true, false, eqb, eq-eqb, find, inl, inr}
use Rattle.std.specs.Prelude.{◌⊎◌, ◌&&◌, slice_get}
use Rattle.std.specs.Option.{option_map_or}
use Rattle.std.specs.List.{list_all}
use Rattle.std.specs.List.Sorted.{IsStrictlyIncreasing}
use Rattle.shard_columns.proofs.Searching.{rises-by}
use Rattle.std.proofs.lemmas.Bool.{and_parts, and_from}
use Rattle.std.proofs.lemmas.List.{length-set, length-take, get_or-take}
use Rattle.std.proofs.lemmas.List.Sums.{sum_by-cons, sum_by-append}
use Rattle.std.proofs.lemmas.Option.{same_Some, slice_get_within}
use Rattle.std.proofs.Math.Facts.{eqb_yes}
use Rattle.agg_model.specs.FieldKinds.{is_of_kind}
use Rattle.agg_model.specs.declared.mapping.FieldKind.{FieldKind}
use Rattle.agg_model.specs.declared.mapping.FieldKind.TheVariants.{Long, Integer, Short, Byte, Keyword, Boolean, Date}
use Rattle.agg_model.specs.declared.row.Scalar.{Scalar}
use Rattle.agg_model.specs.declared.row.Scalar.TheVariants as scalar
use Rattle.agg_model.specs.declared.row.FieldValues.{FieldValues}
use Rattle.shard_columns.specs.declared.values.Typed.{Typed}
use Rattle.shard_columns.specs.declared.values.Typed.TheVariants as typed
use Rattle.shard_columns.specs.declared.values.Draft.{Draft}
use Rattle.shard_columns.specs.declared.values.Drafts.{Drafts}
use Rattle.shard_columns.specs.declared.words.WordNumbers.{WordNumbers}
use Rattle.shard_columns.specs.Values.{Reader, typed_len, is_typed, is_taken, draft_values, drafted, found_values, IsShaped}
use Rattle.shard_columns.specs.Words.{Shows}
use Rattle.shard_columns.specs.Storing.{AddsHeld, HasKinds, AreBounded, AreShaped, AddsRowValues}
use Rattle.shard_columns.proofs.Laying.{take-next}
use Rattle.shard_columns.proofs.Storing.{Keeps, get_or-any, Shows-before, draft-fresh, draft-other, draft-here, IsShaped-push, IsShaped-more}

pub slice_get-set_same : {X : Type 0} (xs : List X) (i : ℕ) (x : X) → i < length xs → slice_get (set xs i x) i ≡ Some x
slice_get-set_same [] i x below = absurd (omega arith)
slice_get-set_same (y ∷ xs) zero x below = refl
slice_get-set_same (y ∷ xs) (suc i) x below = slice_get-set_same xs i x (omega arith)

pub slice_get-set_other : {X : Type 0} (xs : List X) (i j : ℕ) (x : X) → j ≢ i → slice_get (set xs i x) j ≡ slice_get xs j
slice_get-set_other [] i j x other = refl
slice_get-set_other (y ∷ xs) zero zero x other = absurd (other refl)
slice_get-set_other (y ∷ xs) zero (suc j) x other = refl
slice_get-set_other (y ∷ xs) (suc i) zero x other = refl
slice_get-set_other (y ∷ xs) (suc i) (suc j) x other = slice_get-set_other xs i j x (λ e. other (ap suc e))

pub slice_get-last : {X : Type 0} (xs : List X) (x y : X) (n : ℕ) → slice_get (xs ++ x ∷ []) n ≡ Some y → (slice_get xs n ≡ Some y) ⊎ ((n ≡ length xs) × (x ≡ y))
slice_get-last [] x y zero is = inr (refl, same_Some x y is)
slice_get-last [] x y (suc n) is = absurd (cc is)
slice_get-last (z ∷ xs) x y zero is = inl is
slice_get-last (z ∷ xs) x y (suc n) is = elim (slice_get-last xs x y n is) [
  | inl front ↦ inl front
  | inr last ↦ inr (ap suc last.0, last.1)
]

pub same-or-other : (m n : ℕ) → (m ≡ n) ⊎ (m ≢ n)
same-or-other m n = pick (eqb m n) refl
  where
    pick : (b : Bool) → eqb m n ≡ b → (m ≡ n) ⊎ (m ≢ n)
    pick true e = inl (eqb_yes (subst T (sym e) tt))
    pick false e = inr (λ (h : m ≡ n). absurd (cc (sym (eq-eqb m n h) ∙ e)))

-- a value of a kind is of the type for it
pub taken-of-kind : (k : FieldKind) (t : Typed) (v : Scalar) → is_typed k t ≡ true → is_of_kind k v ≡ true → is_taken t v ≡ true
taken-of-kind Keyword (typed.Wholes ns) v typed_is is = absurd (cc typed_is)
taken-of-kind Keyword (typed.Words ps) (scalar.Whole n) typed_is is = absurd (cc is)
taken-of-kind Keyword (typed.Words ps) (scalar.Word w) typed_is is = refl
taken-of-kind Keyword (typed.Words ps) (scalar.Flag b) typed_is is = absurd (cc is)
taken-of-kind Keyword (typed.Flags bs) v typed_is is = absurd (cc typed_is)
taken-of-kind Boolean (typed.Wholes ns) v typed_is is = absurd (cc typed_is)
taken-of-kind Boolean (typed.Words ps) v typed_is is = absurd (cc typed_is)
taken-of-kind Boolean (typed.Flags bs) (scalar.Whole n) typed_is is = absurd (cc is)
taken-of-kind Boolean (typed.Flags bs) (scalar.Word w) typed_is is = absurd (cc is)
taken-of-kind Boolean (typed.Flags bs) (scalar.Flag b) typed_is is = refl
taken-of-kind Long (typed.Wholes ns) (scalar.Whole n) typed_is is = refl
taken-of-kind Long (typed.Wholes ns) (scalar.Word w) typed_is is = absurd (cc is)
taken-of-kind Long (typed.Wholes ns) (scalar.Flag b) typed_is is = absurd (cc is)
taken-of-kind Long (typed.Words ps) v typed_is is = absurd (cc typed_is)
taken-of-kind Long (typed.Flags bs) v typed_is is = absurd (cc typed_is)
taken-of-kind Integer (typed.Wholes ns) (scalar.Whole n) typed_is is = refl
taken-of-kind Integer (typed.Wholes ns) (scalar.Word w) typed_is is = absurd (cc is)
taken-of-kind Integer (typed.Wholes ns) (scalar.Flag b) typed_is is = absurd (cc is)
taken-of-kind Integer (typed.Words ps) v typed_is is = absurd (cc typed_is)
taken-of-kind Integer (typed.Flags bs) v typed_is is = absurd (cc typed_is)
taken-of-kind Short (typed.Wholes ns) (scalar.Whole n) typed_is is = refl
taken-of-kind Short (typed.Wholes ns) (scalar.Word w) typed_is is = absurd (cc is)
taken-of-kind Short (typed.Wholes ns) (scalar.Flag b) typed_is is = absurd (cc is)
taken-of-kind Short (typed.Words ps) v typed_is is = absurd (cc typed_is)
taken-of-kind Short (typed.Flags bs) v typed_is is = absurd (cc typed_is)
taken-of-kind Byte (typed.Wholes ns) (scalar.Whole n) typed_is is = refl
taken-of-kind Byte (typed.Wholes ns) (scalar.Word w) typed_is is = absurd (cc is)
taken-of-kind Byte (typed.Wholes ns) (scalar.Flag b) typed_is is = absurd (cc is)
taken-of-kind Byte (typed.Words ps) v typed_is is = absurd (cc typed_is)
taken-of-kind Byte (typed.Flags bs) v typed_is is = absurd (cc typed_is)
taken-of-kind Date (typed.Wholes ns) (scalar.Whole n) typed_is is = refl
taken-of-kind Date (typed.Wholes ns) (scalar.Word w) typed_is is = absurd (cc is)
taken-of-kind Date (typed.Wholes ns) (scalar.Flag b) typed_is is = absurd (cc is)
taken-of-kind Date (typed.Words ps) v typed_is is = absurd (cc typed_is)
taken-of-kind Date (typed.Flags bs) v typed_is is = absurd (cc typed_is)

pub all-taken-of-kind : (k : FieldKind) (t : Typed) (vs : List Scalar) → is_typed k t ≡ true → list_all (is_of_kind k) vs ≡ true → list_all (is_taken t) vs ≡ true
all-taken-of-kind k t [] typed_is all = refl
all-taken-of-kind k t (v ∷ vs) typed_is all =
    let parts = and_parts (is_of_kind k v) (list_all (is_of_kind k) vs) all in
    and_from _ _ (taken-of-kind k t v typed_is parts.0) (all-taken-of-kind k t vs typed_is parts.1)

-- empty drafts of these kinds
pub record AreNew (kinds : List FieldKind) (drafts : List Draft) : Type 0 where
  pub sizes : length drafts ≡ length kinds
  pub typed : (f : ℕ) (k : FieldKind) (d : Draft) → slice_get kinds f ≡ Some k → slice_get drafts f ≡ Some d → is_typed k d.typed ≡ true
  pub held : (f : ℕ) (d : Draft) → slice_get drafts f ≡ Some d → d.held ≡ []
  pub none : (f : ℕ) (d : Draft) → slice_get drafts f ≡ Some d → typed_len d.typed ≡ 0

pub AreNew-none : AreNew [] []
AreNew-none = record { sizes = refl; typed = λ f k d is at. absurd (cc at); held = λ f d at. absurd (cc at); none = λ f d at. absurd (cc at) }

pub AreNew-push : (kinds : List FieldKind) (drafts : List Draft) (k : FieldKind) (d : Draft) → AreNew kinds drafts → is_typed k d.typed ≡ true → d.held ≡ [] → typed_len d.typed ≡ 0 → AreNew (kinds ++ k ∷ []) (drafts ++ d ∷ [])
AreNew-push kinds drafts k d new typed_is no_rows none =
    let size = new.sizes in
    record {
      sizes = omega (arith, size, length-append drafts (d ∷ []), length-append kinds (k ∷ []));
      typed = λ f l e k_at d_at. elim (slice_get-last kinds k l f k_at) [
        | inl k_front ↦ elim (slice_get-last drafts d e f d_at) [
          | inl d_front ↦ new.typed f l e k_front d_front
          | inr d_last ↦ (let low = slice_get_within kinds f l k_front in absurd (omega (arith, low, size, d_last.0)))
        ]
        | inr k_last ↦ elim (slice_get-last drafts d e f d_at) [
          | inl d_front ↦ (let low = slice_get_within drafts f e d_front in absurd (omega (arith, low, size, k_last.0)))
          | inr d_last ↦ ap (λ (x : FieldKind). is_typed x e.typed) (sym k_last.1) ∙ (ap (λ (x : Draft). is_typed k x.typed) (sym d_last.1) ∙ typed_is)
        ]
      ];
      held = λ f e at. elim (slice_get-last drafts d e f at) [
        | inl front ↦ new.held f e front
        | inr last ↦ ap (λ (x : Draft). x.held) (sym last.1) ∙ no_rows
      ];
      none = λ f e at. elim (slice_get-last drafts d e f at) [
        | inl front ↦ new.none f e front
        | inr last ↦ ap (λ (x : Draft). typed_len x.typed) (sym last.1) ∙ none
      ];
    }

pub AreNew-next : (kinds : List FieldKind) (drafts : List Draft) (n : ℕ) (k none : FieldKind) (d : Draft) → AreNew (take n kinds) drafts → is_typed k d.typed ≡ true → d.held ≡ [] → typed_len d.typed ≡ 0 → n < length kinds → k ≡ get_or kinds n none →
    AreNew (take (n + 1) kinds) (drafts ++ d ∷ [])
AreNew-next kinds drafts n k none d new typed_is no_rows no_values below is =
    subst (λ (ks : List FieldKind). AreNew ks (drafts ++ d ∷ [])) (sym (take-next kinds n k below (is ∙ get_or-any kinds n none k below))) (AreNew-push (take n kinds) drafts k d new typed_is no_rows no_values)

drafted-fresh : (show : Reader) (drafts : Drafts) (row f n : ℕ) (o : Option Draft) → AreShaped row drafts → row ≤ n → slice_get drafts.columns.items f ≡ o → option_map_or (λ d. draft_values (show f) d n) o [] ≡ []
drafted-fresh show drafts row f n None shaped past at = refl
drafted-fresh show drafts row f n (Some d) shaped past at = draft-fresh (show f) row d (shaped f d at) n past

-- a row without fields
pub AddsRowValues-none : (numbers : WordNumbers) (drafts : Drafts) (row : ℕ) → AreShaped row drafts → AreBounded numbers drafts → AddsRowValues numbers drafts drafts row []
AddsRowValues-none numbers drafts row shaped bounded = record {
  sizes = refl;
  others = λ show shows f n other. refl;
  here = λ show shows f below. drafted-fresh show drafts row f row (slice_get drafts.columns.items f) shaped (omega arith) refl;
  shaped = λ f d at. IsShaped-more row (row + 1) d (omega arith) (shaped f d at);
  fresh = λ f d at none. shaped f d at;
  counted = omega arith;
  bounded = bounded;
  kinds = λ ks has. has;
  taken = λ f d e d_is e_is v. ap (λ (x : Draft). is_taken x.typed v) (same_Some d e (sym d_is ∙ e_is));
}

find-field-other : (fs : List FieldValues) (v : FieldValues) (f : ℕ) → v.field ≢ f → find (λ (v : FieldValues). eqb v.field f) (fs ++ v ∷ []) ≡ find (λ (v : FieldValues). eqb v.field f) fs
find-field-other [] v f other = skip (eqb v.field f) refl
  where
    skip : (b : Bool) → eqb v.field f ≡ b → cond b (Some v) None ≡ None
    skip true e = absurd (other (eqb_yes (subst T (sym e) tt)))
    skip false e = refl
find-field-other (g ∷ fs) v f other = ap (λ (o : Option FieldValues). cond (eqb g.field f) (Some g) o) (find-field-other fs v f other)

find-field-last : (fs : List FieldValues) (v : FieldValues) → find (λ (x : FieldValues). eqb x.field v.field) fs ≡ None → find (λ (x : FieldValues). eqb x.field v.field) (fs ++ v ∷ []) ≡ Some v
find-field-last [] v none = ap (λ (b : Bool). cond b (Some v) None) (eq-eqb v.field v.field refl)
find-field-last (g ∷ fs) v none = pick (eqb g.field v.field) none (λ e. find-field-last fs v e)
  where
    pick : (b : Bool) → cond b (Some g) (find (λ (x : FieldValues). eqb x.field v.field) fs) ≡ None → (find (λ (x : FieldValues). eqb x.field v.field) fs ≡ None → find (λ (x : FieldValues). eqb x.field v.field) (fs ++ v ∷ []) ≡ Some v) →
        cond b (Some g) (find (λ (x : FieldValues). eqb x.field v.field) (fs ++ v ∷ [])) ≡ Some v
    pick true e rest = absurd (cc e)
    pick false e rest = rest e

-- one more field of the row
module _ (before after : WordNumbers) (old now new : Drafts) (row : ℕ) (fs : List FieldValues) (v : FieldValues) (d e : Draft) (kept : Keeps before after) (so_far : AddsRowValues before old now row fs)
    (at : slice_get now.columns.items v.field ≡ Some d) (columns_are : new.columns.items ≡ set now.columns.items v.field e) (count_is : new.count ≡ now.count + length v.values) (adds : AddsHeld after v.field d e row v.values)
    (absent : find (λ (x : FieldValues). eqb x.field v.field) fs ≡ None) (few : length after.ranks.items ≤ length before.ranks.items + length v.values) where
  below : v.field < length now.columns.items
  below = slice_get_within now.columns.items v.field d at

  there : slice_get new.columns.items v.field ≡ Some e
  there = ap (λ (xs : List Draft). slice_get xs v.field) columns_are ∙ slice_get-set_same now.columns.items v.field e below

  apart : (f : ℕ) → f ≢ v.field → slice_get new.columns.items f ≡ slice_get now.columns.items f
  apart f other = ap (λ (xs : List Draft). slice_get xs f) columns_are ∙ slice_get-set_other now.columns.items v.field f e other

  shape : IsShaped row d
  shape = so_far.fresh v.field d at absent

  values-of : (show : Reader) (drafts : Drafts) (f n : ℕ) (x : Draft) → slice_get drafts.columns.items f ≡ Some x → drafted show drafts.columns.items f n ≡ draft_values (show f) x n
  values-of show drafts f n x is = ap (λ (o : Option Draft). option_map_or (λ (d : Draft). draft_values (show f) d n) o []) is

  others-are : (show : Reader) → Shows after show → (f n : ℕ) → n ≢ row → (f ≡ v.field) ⊎ (f ≢ v.field) → drafted show new.columns.items f n ≡ drafted show now.columns.items f n
  others-are show shows f n other (inl same) =
      ap (λ (g : ℕ). drafted show new.columns.items g n) same
      ∙ (values-of show new v.field n e there ∙ (draft-other after v.field row d e v.values adds show row n shows shape other ∙ (sym (values-of show now v.field n d at) ∙ ap (λ (g : ℕ). drafted show now.columns.items g n) (sym same))))
  others-are show shows f n other (inr differ) = ap (λ (o : Option Draft). option_map_or (λ (d : Draft). draft_values (show f) d n) o []) (apart f differ)

  here-is : (show : Reader) → Shows after show → (f : ℕ) → f < length old.columns.items → (f ≡ v.field) ⊎ (f ≢ v.field) → drafted show new.columns.items f row ≡ found_values f (fs ++ v ∷ [])
  here-is show shows f low (inl same) =
      ap (λ (g : ℕ). drafted show new.columns.items g row) same
      ∙ (values-of show new v.field row e there ∙ (draft-here after v.field row d e v.values adds show shows shape
      ∙ sym (ap (λ (g : ℕ). found_values g (fs ++ v ∷ [])) same ∙ ap (λ (o : Option FieldValues). option_map_or (λ (x : FieldValues). x.values) o []) (find-field-last fs v absent))))
  here-is show shows f low (inr differ) =
      ap (λ (o : Option Draft). option_map_or (λ (d : Draft). draft_values (show f) d row) o []) (apart f differ)
      ∙ (so_far.here show (Shows-before before after show kept shows) f low
      ∙ ap (λ (o : Option FieldValues). option_map_or (λ (x : FieldValues). x.values) o []) (sym (find-field-other fs v f (λ same. differ (sym same)))))

  shaped-are : (f : ℕ) (x : Draft) → slice_get new.columns.items f ≡ Some x → (f ≡ v.field) ⊎ (f ≢ v.field) → IsShaped (row + 1) x
  shaped-are f x is (inl same) =
      subst (IsShaped (row + 1)) (same_Some e x (sym there ∙ (ap (slice_get new.columns.items) (sym same) ∙ is))) (IsShaped-push after v.field row d e v.values adds shape)
  shaped-are f x is (inr differ) = so_far.shaped f x (sym (apart f differ) ∙ is)

  fresh-are : (f : ℕ) (x : Draft) → slice_get new.columns.items f ≡ Some x → find (λ (y : FieldValues). eqb y.field f) (fs ++ v ∷ []) ≡ None → (f ≡ v.field) ⊎ (f ≢ v.field) → IsShaped row x
  fresh-are f x is none (inl same) = absurd (cc (sym (ap (λ (g : ℕ). find (λ (y : FieldValues). eqb y.field g) (fs ++ v ∷ [])) (sym same) ∙ none) ∙ find-field-last fs v absent))
  fresh-are f x is none (inr differ) = so_far.fresh f x (sym (apart f differ) ∙ is) (sym (find-field-other fs v f (λ same. differ (sym same))) ∙ none)

  bound-is : (f : ℕ) (x : Draft) → slice_get new.columns.items f ≡ Some x → (f ≡ v.field) ⊎ (f ≢ v.field) → typed_len x.typed ≤ new.count
  bound-is f x is (inl same) =
      let grown = adds.typed.grown in
      let low = so_far.bounded.values v.field d at in
      let x_is = ap (λ (y : Draft). typed_len y.typed) (same_Some e x (sym there ∙ (ap (slice_get new.columns.items) (sym same) ∙ is))) in
      omega (arith, grown, low, x_is, count_is)
  bound-is f x is (inr differ) = let low = so_far.bounded.values f x (sym (apart f differ) ∙ is) in omega (arith, low, count_is)

  kind-is : (kinds : List FieldKind) → HasKinds kinds now → (f : ℕ) (k : FieldKind) (x : Draft) → slice_get kinds f ≡ Some k → slice_get new.columns.items f ≡ Some x → (f ≡ v.field) ⊎ (f ≢ v.field) → is_typed k x.typed ≡ true
  kind-is kinds has f k x k_is is (inl same) =
      ap (λ (y : Draft). is_typed k y.typed) (sym (same_Some e x (sym there ∙ (ap (slice_get new.columns.items) (sym same) ∙ is))))
      ∙ (adds.typed.kind k ∙ has.typed v.field k d (ap (slice_get kinds) (sym same) ∙ k_is) at)
  kind-is kinds has f k x k_is is (inr differ) = has.typed f k x k_is (sym (apart f differ) ∙ is)

  taken-is : (f : ℕ) (x y : Draft) → slice_get new.columns.items f ≡ Some x → slice_get old.columns.items f ≡ Some y → (u : Scalar) → (f ≡ v.field) ⊎ (f ≢ v.field) → is_taken x.typed u ≡ is_taken y.typed u
  taken-is f x y x_is y_is u (inl same) =
      ap (λ (z : Draft). is_taken z.typed u) (sym (same_Some e x (sym there ∙ (ap (slice_get new.columns.items) (sym same) ∙ x_is))))
      ∙ (adds.typed.taken u ∙ so_far.taken v.field d y at (ap (slice_get old.columns.items) (sym same) ∙ y_is) u)
  taken-is f x y x_is y_is u (inr differ) = so_far.taken f x y (sym (apart f differ) ∙ x_is) y_is u

  pub AddsRowValues-push : AddsRowValues after old new row (fs ++ v ∷ [])
  AddsRowValues-push =
      let few_before = so_far.bounded.words in
      let counted = so_far.counted in
      let sizes = so_far.sizes in
      record {
        sizes = ap length columns_are ∙ (length-set now.columns.items v.field e ∙ sizes);
        others = λ show shows f n other. others-are show shows f n other (same-or-other f v.field) ∙ so_far.others show (Shows-before before after show kept shows) f n other;
        here = λ show shows f low. here-is show shows f low (same-or-other f v.field);
        shaped = λ f x is. shaped-are f x is (same-or-other f v.field);
        fresh = λ f x is none. fresh-are f x is none (same-or-other f v.field);
        counted = omega (arith, count_is, counted, sum_by-append (λ (f : FieldValues). length f.values) fs (v ∷ []), sum_by-cons (λ (f : FieldValues). length f.values) v []);
        bounded = record { values = λ f x is. bound-is f x is (same-or-other f v.field); words = omega (arith, few, few_before, count_is) };
        kinds = λ ks has. record { typed = λ f k x k_is is. kind-is ks (so_far.kinds ks has) f k x k_is is (same-or-other f v.field) };
        taken = λ f x y x_is y_is u. taken-is f x y x_is y_is u (same-or-other f v.field);
      }

pub list_all-same : (p q : Scalar → Bool) (vs : List Scalar) → ((v : Scalar) → p v ≡ q v) → list_all p vs ≡ list_all q vs
list_all-same p q [] same = refl
list_all-same p q (v ∷ vs) same = (λ i. same v i && list_all-same p q vs same i)

-- the fields before one of ascending fields are others
pub find-before : (fs : List FieldValues) (k : ℕ) (v : FieldValues) → IsStrictlyIncreasing (map (λ f. f.field) fs) → k < length fs → v ≡ get_or fs k v → find (λ (x : FieldValues). eqb x.field v.field) (take k fs) ≡ None
find-before fs k v rise below is = none (take k fs) (λ j low same.
    let size = length-take k fs in
    let j_low : j < k = omega (arith, low, size) in
    let up = rises-by (λ (f : FieldValues). f.field) fs rise j k v j_low below in
    omega (arith, up, same, ap (λ (f : FieldValues). f.field) (get_or-take k fs j v j_low), ap (λ (f : FieldValues). f.field) is))
  where
    skip : (g : FieldValues) (o : Option FieldValues) (b : Bool) → eqb g.field v.field ≡ b → g.field ≢ v.field → cond b (Some g) o ≡ o
    skip g o true e other = absurd (other (eqb_yes (subst T (sym e) tt)))
    skip g o false e other = refl

    none : (gs : List FieldValues) → ((j : ℕ) → j < length gs → (get_or gs j v).field ≢ v.field) → find (λ (x : FieldValues). eqb x.field v.field) gs ≡ None
    none [] other = refl
    none (g ∷ gs) other = skip g (find (λ (x : FieldValues). eqb x.field v.field) gs) (eqb g.field v.field) refl (other 0 (omega arith)) ∙ none gs (λ j low. other (suc j) (omega arith))
