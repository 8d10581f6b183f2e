-- Columns that are finished, one after another.
use Rattle.std.proofs.Common.{Some, ◌≡◌, refl, zero, suc, ℕ, ◌+◌, ◌<◌, List, [], ◌∷◌, ◌++◌, map, length, get_or, take, sym, ◌∙◌, ap, subst, arith, length-append, None, eqb, find, inl, inr}
use Rattle.std.specs.Prelude.{slice_get}
use Rattle.std.specs.List.Sorted.{IsStrictlyIncreasing}
use Rattle.std.proofs.lemmas.List.{length-take, get_or-take}
use Rattle.std.proofs.lemmas.Option.{slice_get_within}
use Rattle.agg_model.specs.declared.row.Scalar.{Scalar}
use Rattle.shard_columns.specs.declared.values.Typed.{Typed}
use Rattle.shard_columns.specs.declared.values.Held.{Held}
use Rattle.shard_columns.specs.declared.values.Draft.{Draft}
use Rattle.shard_columns.specs.declared.homes.Homes.{Homes}
use Rattle.shard_columns.specs.declared.columns.Spans.{Spans}
use Rattle.shard_columns.specs.declared.columns.Column.{Column}
use Rattle.shard_columns.specs.Values.{span_in, span_of, cut, scalars, typed_len, IsPart, IsShaped, WithinReach, AreRankedAll}
use Rattle.shard_columns.specs.Homes.{home_count, home_of, AreHomes}
use Rattle.shard_columns.specs.Columnar.{IsFinished, AreFinished, Rises, StandFor}
use Rattle.shard_columns.proofs.Starting.{alike-part, alike-cut, AreStarts-row}
use Rattle.shard_columns.specs.Starts.{AreStarts}
use Rattle.shard_columns.proofs.Laying.{take-next}
use Rattle.shard_columns.proofs.Searching.{find-none, rises-by}
use Rattle.shard_columns.proofs.Storing.{span-part}
use Rattle.shard_columns.proofs.Drafting.{slice_get-last}

-- no entry of a row stands before it
pub find-before : (hs : List Held) (k : ℕ) (h : Held) → IsStrictlyIncreasing (map (λ h. h.row) hs) → k < length hs → h ≡ get_or hs k h → find (λ (x : Held). eqb x.row h.row) (take k hs) ≡ None
find-before hs k h rise below is = find-none (take k hs) h.row h (λ j low same.
    let size = length-take k hs in
    let j_low : j < k = omega (arith, low, size) in
    let up = rises-by (λ (x : Held). x.row) hs rise j k h j_low below in
    omega (arith, up, same, ap (λ (x : Held). x.row) (get_or-take k hs j h j_low), ap (λ (x : Held). x.row) is))

within-at : (n k : ℕ) (hs : List Held) (h : Held) → WithinReach n hs → k < length hs → h ≡ get_or hs k h → IsPart n h.span
unfolding WithinReach
within-at n k [] h within below is = absurd (omega (arith, below))
within-at n zero (g ∷ hs) h within below is = subst (λ (x : Held). IsPart n x.span) (sym is) within.0
within-at n (suc k) (g ∷ hs) h within below is = within-at n k hs h within.1 (omega (arith, below)) is

-- the start of the rank of the next row
pub starts-next : (homes : Homes) (hs : List Held) (context size k end rank : ℕ) (h : Held) (starts : List ℕ) → AreHomes homes → IsStrictlyIncreasing (map (λ h. h.row) hs) → k < length hs → h ≡ get_or hs k h →
    h.row < home_count homes → home_of homes h.row ≡ record { context = context; rank = rank } → length starts ≡ rank + 1 → h.span.start ≡ end → WithinReach size hs → AreStarts homes context size (take k hs) end starts →
    AreStarts homes context size (take (k + 1) hs) h.span.end (starts ++ h.span.end ∷ [])
starts-next homes hs context size k end rank h starts apart rise below is inside home_is at follows within so_far =
    let part = within-at size k hs h within below is in
    subst (λ (gs : List Held). AreStarts homes context size gs h.span.end (starts ++ h.span.end ∷ [])) (sym (take-next hs k h below is))
    (AreStarts-row homes context size (take k hs) end starts so_far h rank apart inside home_is at follows part.1 (find-before hs k h rise below is))

module _ (homes : Homes) (ranks : List ℕ) (d : Draft) (typed : Typed) (shaped : IsShaped (home_count homes) d) (are : AreRankedAll ranks d.typed typed) where
  pub finished-by : (s : Spans) → Rises s → StandFor homes s d.held → IsFinished homes ranks d (record { spans = s; typed = typed })
  finished-by s rises same = record {
    sound = record {
      rising = rises;
      within = λ n low. (let part = alike-part (typed_len d.typed) (span_of homes s n) (span_in d.held n) (same (typed_len d.typed) shaped.within n low) (span-part (typed_len d.typed) d.held n shaped.within) in
          let size = are.size in
          (part.0, omega (arith, part.1, size)));
    };
    kind = are.kind;
    values = λ show n low. alike-cut (typed_len d.typed) (span_of homes s n) (span_in d.held n) (scalars show typed) (same (typed_len d.typed) shaped.within n low) ∙ ap (λ (xs : List Scalar). cut xs (span_in d.held n)) (are.same show);
  }

pub slice_get-between : {X : Type 0} (xs ys : List X) (x : X) → slice_get (xs ++ x ∷ ys) (length xs) ≡ Some x
slice_get-between [] ys x = refl
slice_get-between (z ∷ xs) ys x = slice_get-between xs ys x

pub AreFinished-none : (homes : Homes) (ranks : List ℕ) → AreFinished homes ranks [] []
AreFinished-none homes ranks = record { sizes = refl; each = λ f d c at. absurd (cc at) }

pub AreFinished-push : (homes : Homes) (ranks : List ℕ) (drafts : List Draft) (columns : List Column) (d : Draft) (c : Column) → AreFinished homes ranks drafts columns → IsFinished homes ranks d c → AreFinished homes ranks (drafts ++ d ∷ []) (columns ++ c ∷ [])
AreFinished-push homes ranks drafts columns d c are one =
    let size = are.sizes in
    record {
      sizes = omega (arith, size, length-append drafts (d ∷ []), length-append columns (c ∷ []));
      each = λ f e b e_at b_at. elim (slice_get-last drafts d e f e_at) [
        | inl e_front ↦ elim (slice_get-last columns c b f b_at) [
          | inl b_front ↦ are.each f e b e_front b_front
          | inr b_last ↦ (let low = slice_get_within drafts f e e_front in absurd (omega (arith, low, size, b_last.0)))
        ]
        | inr e_last ↦ elim (slice_get-last columns c b f b_at) [
          | inl b_front ↦ (let low = slice_get_within columns f b b_front in absurd (omega (arith, low, size, e_last.0)))
          | inr b_last ↦ subst (λ (x : Draft). IsFinished homes ranks x b) e_last.1 (subst (IsFinished homes ranks d) b_last.1 one)
        ]
      ];
    }
