-- Rows behind those that a draft holds.
use Rattle.std.proofs.Common.{◌≡◌, ◌∷◌, ◌++◌, ◌+◌, ◌<◌, ℕ, suc, [], List, map, take, length, get_or, sym, ◌∙◌, ap, subst, arith, length-append, append_assoc}
use Rattle.std.specs.Prelude.{◌^◌, sum_by}
use Rattle.std.specs.List.Sorted.{IsStrictlyIncreasing}
use Rattle.std.proofs.lemmas.List.{append-nil, length-take}
use Rattle.agg_model.specs.declared.mapping.FieldKind.{FieldKind}
use Rattle.shard_columns.specs.declared.layout.Laid.{Laid}
use Rattle.shard_columns.specs.declared.values.Drafts.{Drafts}
use Rattle.shard_columns.specs.declared.words.WordNumbers.{WordNumbers}
use Rattle.shard_columns.specs.Values.{FieldsBelow, IsShaped, total_count, words_for}
use Rattle.shard_columns.specs.Words.{IsNumbered, Notes}
use Rattle.shard_columns.specs.Stored.{AreStorable}
use Rattle.shard_columns.specs.Storing.{AreTaken, AreBounded, AreShaped, AddsRowValues}
use Rattle.shard_columns.specs.Layout.{values_of_laid}
use Rattle.shard_columns.specs.Drafted.{Holds}
use Rattle.shard_columns.proofs.Drafting.{all-taken-of-kind}
use Rattle.shard_columns.proofs.Filling.{AreDrafts-push, sound-kind, taken-total, kind-there, below-at}
use Rattle.shard_columns.proofs.Laying.{take-next}
use Rattle.shard_columns.proofs.Noting.{Notes-row}
use Rattle.shard_columns.proofs.Searching.{taken}

get_or-behind : {X : Type 0} (xs ys : List X) (k : ℕ) (x : X) → get_or (xs ++ ys) (length xs + k) x ≡ get_or ys k x
get_or-behind [] ys k x = ap (λ (n : ℕ). get_or ys n x) (let e : 0 + k ≡ k = omega arith in e)
get_or-behind (y ∷ xs) ys k x = ap (λ (n : ℕ). get_or (y ∷ xs ++ ys) n x) (let e : length (y ∷ xs) + k ≡ suc (length xs + k) = omega arith in e) ∙ get_or-behind xs ys k x

take-behind : {X : Type 0} (xs ys : List X) (k : ℕ) → take (length xs + k) (xs ++ ys) ≡ xs ++ take k ys
take-behind [] ys k = ap (λ (n : ℕ). take n ys) (let e : 0 + k ≡ k = omega arith in e)
take-behind {X} (y ∷ xs) ys k =
    ap (λ (n : ℕ). take n (y ∷ xs ++ ys)) (let e : length (y ∷ xs) + k ≡ suc (length xs + k) = omega arith in e)
    ∙ ap (λ (zs : List X). y ∷ zs) (take-behind xs ys k)

-- there is room for the values of this row, which has this number
pub record HasRoom (n : ℕ) (row : Laid) (numbers : WordNumbers) (drafts : Drafts) : Type 0 where
  pub in_range : FieldsBelow (length drafts.columns.items) row.values.now
  pub sizes : length drafts.columns.items ≡ length numbers.by_field.items
  pub sound : IsNumbered numbers
  pub rise : IsStrictlyIncreasing (map (λ f. f.field) row.values.now)
  pub taken : AreTaken drafts row.values.now
  pub few : drafts.count + total_count row.values.now < 2 ^ 32
  pub bounded : AreBounded numbers drafts
  pub shaped : AreShaped n drafts

pub has-room : (kinds : List FieldKind) (before rows : List Laid) (n k : ℕ) (row : Laid) (numbers : WordNumbers) (drafts : Drafts) →
    Holds kinds (before ++ take k rows) numbers drafts → AreStorable kinds (before ++ rows) → n ≡ length before + k → k < length rows → row ≡ get_or rows k row → HasRoom n row numbers drafts
has-room kinds before rows n k row numbers drafts held storable n_is below is =
    let low : length before + k < length (before ++ rows) = omega (arith, below, length-append before rows) in
    let here : row ≡ get_or (before ++ rows) (length before + k) row = is ∙ sym (get_or-behind before rows k row) in
    let at = taken (before ++ rows) (length before + k) row low here in
    let size : length (before ++ take k rows) ≡ n = omega (arith, length-append before (take k rows), length-take k rows, below, n_is) in
    record {
      in_range = subst (λ (m : ℕ). FieldsBelow m row.values.now) (sym held.values.sizes) (below-at (length kinds) (before ++ rows) storable.below (length before + k) row at);
      sizes = held.values.sizes ∙ (sym held.sizes ∙ sym held.notes.sizes);
      sound = held.notes.sound;
      rise = storable.rising (length before + k) row at;
      taken = λ m v d v_at d_at.
          let kind = kind-there kinds drafts v.field d held.values.sizes d_at in
          all-taken-of-kind kind.0 d.typed v.values (held.values.typed.typed v.field kind.0 d kind.1 d_at) (sound-kind kinds 0 row.values.now m v kind.0 (storable.sound (length before + k) row at) v_at kind.1);
      few = (let counted = held.values.counted ∙ ap (λ (ls : List Laid). sum_by total_count (values_of_laid ls)) (sym (take-behind before rows k)) in
          let few_values = storable.few_values in
          omega (arith, counted, taken-total (before ++ rows) (length before + k) row low here, few_values));
      bounded = held.values.bounded;
      shaped = λ f d d_at. subst (λ (m : ℕ). IsShaped m d) size (held.values.shaped f d d_at);
    }

pub Holds-none : (kinds : List FieldKind) (before : List Laid) (numbers : WordNumbers) (drafts : Drafts) → Holds kinds before numbers drafts → Holds kinds (before ++ []) numbers drafts
Holds-none kinds before numbers drafts held = subst (λ (ls : List Laid). Holds kinds ls numbers drafts) (sym (append-nil before)) held

-- one more row is held
pub Holds-push : (kinds : List FieldKind) (before rows : List Laid) (n k : ℕ) (row : Laid) (now new : WordNumbers) (drafts more : Drafts) →
    Holds kinds (before ++ take k rows) now drafts → n ≡ length before + k → k < length rows → row ≡ get_or rows k row →
    Notes now new (λ f. words_for f row.values.now) → AddsRowValues new drafts more n row.values.now → Holds kinds (before ++ take (k + 1) rows) new more
Holds-push kinds before rows n k row now new drafts more held n_is below is noted adds =
    let next : (before ++ take k rows) ++ row ∷ [] ≡ before ++ take (k + 1) rows = append_assoc before (take k rows) (row ∷ []) ∙ ap (λ (ls : List Laid). before ++ ls) (sym (take-next rows k row below is)) in
    let size : n ≡ length (before ++ take k rows) = omega (arith, length-append before (take k rows), length-take k rows, below, n_is) in
    subst (λ (ls : List Laid). Holds kinds ls new more) next
    (record {
      none = held.none;
      empty = held.empty;
      sizes = held.sizes;
      notes = Notes-row held.none now new (before ++ take k rows) row held.notes noted;
      values = AreDrafts-push kinds now new (before ++ take k rows) row drafts more noted.kept held.values (subst (λ (m : ℕ). AddsRowValues new drafts more m row.values.now) size adds);
    })
