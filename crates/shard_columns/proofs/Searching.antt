-- Binary searches in ascending lists.
use Rattle.std.proofs.Common.{unwrap_or, ◌≡◌, ◌≢◌, refl, ℕ, ◌+◌, ◌-◌, ◌<◌, ◌≤◌, zero, suc, true, false, not, Bool, T, eqb, eq-eqb, ltb, List, [], ◌∷◌, Option, Some, None, cond, length, get_or, take, drop, filter, find, map, sym, ◌∙◌, ap, subst, arith, Contains, inl, inr}
use Rattle.std.specs.Prelude.{◌&&◌, nat_le, nat_lt, slice_get}
use Rattle.std.specs.declared.cmp.Ordering.TheVariants.{Less, Equal, Greater}
use Rattle.std.specs.Ordering.{nat_cmp, is_lt, is_eq}
use Rattle.std.specs.Cmp.Lexicographic.{slice_cmp, pointwise, texts_ties}
use Rattle.std.specs.Cmp.{tied_itself}
use Rattle.std.specs.List.Sorted.{IsNonDecreasingBy, IsPartitionedBy, IsPartitionPoint, IsStrictlyIncreasing, IsStrictlySortedBy}
use Rattle.std.proofs.lemmas.List.{length-map, get_or-map}
use Rattle.std.proofs.lemmas.Option.{unwrap_or-slice_get}
use Rattle.std.proofs.lemmas.Bool.{cases_lt, ltb-true, ltb-false}
use Rattle.std.proofs.lemmas.Cmp.{nat_list_cmp_total}
use Rattle.std.proofs.lemmas.Bool.Decides.{nat_tests}
use Rattle.std.proofs.lemmas.Map.Keys.{Less-from_sorted}
use Rattle.std.proofs.lemmas.Map.Lookups.{exact_bytes}
use Rattle.std.proofs.lemmas.Map.Views.{tells_apart}
use Rattle.std.proofs.Math.Facts.{eqb_yes}
use Rattle.shard_columns.specs.declared.values.Held.{Held}
use Rattle.shard_columns.specs.Bounds.{is_before, AreBefore}
use Rattle.shard_columns.specs.Values.{Words}

-- the part of a list that passes a test, where that stands between what does not
pub cut-filter : (p : ℕ → Bool) (xs : List ℕ) (s e : ℕ) → s ≤ e → e ≤ length xs → ((k : ℕ) → k < s → p (get_or xs k 0) ≡ false) → ((k : ℕ) → s ≤ k → k < e → p (get_or xs k 0) ≡ true) →
    ((k : ℕ) → e ≤ k → k < length xs → p (get_or xs k 0) ≡ false) → take (e - s) (drop s xs) ≡ filter p xs
cut-filter p [] zero zero le within front middle back = ap (λ (n : ℕ). take {A = ℕ} n []) (let e : 0 - 0 ≡ 0 = omega arith in e)
cut-filter p [] zero (suc e) le within front middle back = absurd (omega arith)
cut-filter p [] (suc s) e le within front middle back = absurd (omega arith)
cut-filter p (x ∷ xs) zero zero le within front middle back =
    ap (λ (n : ℕ). take n (x ∷ xs)) (let e : 0 - 0 ≡ 0 = omega arith in e) ∙ ap (λ (n : ℕ). take n xs) (let e : 0 ≡ 0 - 0 = omega arith in e) ∙ cut-filter p xs zero zero (omega arith) (omega arith) (λ k b. absurd (omega arith)) (λ k a b. absurd (omega arith)) (λ k a b. back (suc k) (omega arith) (omega arith))
    ∙ ap (λ (b : Bool). cond b (x ∷ filter p xs) (filter p xs)) (sym (back 0 (omega arith) (omega arith)))
cut-filter p (x ∷ xs) zero (suc e) le within front middle back =
    ap (λ (n : ℕ). take n (x ∷ xs)) (let up : suc e - 0 ≡ suc (e - 0) = omega arith in up) ∙ ap (λ (ys : List ℕ). x ∷ ys) (cut-filter p xs zero e (omega arith) (omega arith) (λ k b. absurd (omega arith)) (λ k a b. middle (suc k) (omega arith) (omega arith)) (λ k a b. back (suc k) (omega arith) (omega arith)))
    ∙ ap (λ (b : Bool). cond b (x ∷ filter p xs) (filter p xs)) (sym (middle 0 (omega arith) (omega arith)))
cut-filter p (x ∷ xs) (suc s) zero le within front middle back = absurd (omega arith)
cut-filter p (x ∷ xs) (suc s) (suc e) le within front middle back =
    ap (λ (n : ℕ). take n (drop s xs)) (let down : suc e - suc s ≡ e - s = omega arith in down) ∙ cut-filter p xs s e (omega arith) (omega arith) (λ k b. front (suc k) (omega arith)) (λ k a b. middle (suc k) (omega arith) (omega arith)) (λ k a b. back (suc k) (omega arith) (omega arith))
    ∙ ap (λ (b : Bool). cond b (x ∷ filter p xs) (filter p xs)) (sym (front 0 (omega arith)))

-- within a list no default is read
get_or-within : (xs : List ℕ) (k d : ℕ) → k < length xs → get_or xs k d ≡ get_or xs k 0
get_or-within [] k d low = absurd (omega (arith, low))
get_or-within (x ∷ xs) zero d low = refl
get_or-within (x ∷ xs) (suc k) d low = get_or-within xs k d (omega (arith, low))

-- rising numbers rise over any distance
pub rises-far : (xs : List ℕ) → IsStrictlyIncreasing xs → (i j : ℕ) → i < j → j < length xs → get_or xs i 0 < get_or xs j 0
rises-far xs rise i zero before within = absurd (omega arith)
rises-far xs rise i (suc j) before within =
    let step : get_or xs j 0 < get_or xs (suc j) 0 = subst (λ (k : ℕ). get_or xs j 0 < get_or xs k 0) (let e : j + 1 ≡ suc j = omega arith in e) (rise j (omega arith)) in
    elim (cases_lt i j) [
      | inl far ↦ (let rest = rises-far xs rise i j far (omega arith) in omega (arith, rest, step))
      | inr near ↦ subst (λ (k : ℕ). get_or xs k 0 < get_or xs (suc j) 0) (let e : j ≡ i = omega arith in e) step
    ]

pub rises-by : {X : Type 0} (n : X → ℕ) (xs : List X) → IsStrictlyIncreasing (map n xs) → (i j : ℕ) (d : X) → i < j → j < length xs → n (get_or xs i d) < n (get_or xs j d)
rises-by n xs rise i j d before within =
    let far = rises-far (map n xs) rise i j before (omega (arith, length-map xs n)) in
    let first = get_or-map n xs i d 0 (omega arith) in
    let second = get_or-map n xs j d 0 within in
    omega (arith, far, first, second)

pub IsNonDecreasingBy-rising : {X : Type 0} (n : X → ℕ) (xs : List X) → IsStrictlyIncreasing (map n xs) → IsNonDecreasingBy n xs
IsNonDecreasingBy-rising n xs rise i j d le within =
    elim (cases_lt i j) [
      | inl far ↦ (let up = rises-by n xs rise i j d far within in omega (arith, up))
      | inr near ↦ subst (λ (k : ℕ). n (get_or xs i d) ≤ n (get_or xs k d)) (let e : i ≡ j = omega arith in e) (omega arith)
    ]

-- numbers up to one that is below a bound are below it
pub front-below-bound : (xs : List ℕ) (bound count : ℕ) → IsStrictlyIncreasing xs → count ≤ length xs → get_or xs (count - 1) 0 < bound → (k d : ℕ) → k < count → nat_lt (get_or xs k d) bound ≡ true
front-below-bound xs bound count rise within last k d low =
    let same = get_or-within xs k d (omega (arith, low, within)) in
    let less : get_or xs k d < bound = elim (cases_lt k (count - 1)) [
      | inl before ↦ (let far = rises-far xs rise k (count - 1) before (omega (arith, low, within)) in omega (arith, far, last, same))
      | inr at ↦ (let here : get_or xs k 0 ≡ get_or xs (count - 1) 0 = ap (λ (n : ℕ). get_or xs n 0) (let e : k ≡ count - 1 = omega (arith, at, low) in e) in omega (arith, here, last, same))
    ] in
    lt-true (get_or xs k d) bound less
  where
    lt-true : (m n : ℕ) → m < n → nat_lt m n ≡ true
    lt-true m n less = grind (arith, nat_tests)

-- numbers from one on that is not below a bound are not below it
pub rest-not-below : (xs : List ℕ) (bound count : ℕ) → IsStrictlyIncreasing xs → nat_le bound (get_or xs count 0) ≡ true → (k d : ℕ) → count ≤ k → k < length xs → nat_lt (get_or xs k d) bound ≡ false
rest-not-below xs bound count rise test k d up low =
    let first = le-true bound (get_or xs count 0) test in
    let same = get_or-within xs k d low in
    let more : bound ≤ get_or xs k d = elim (cases_lt count k) [
      | inl past ↦ (let far = rises-far xs rise count k past low in omega (arith, far, first, same))
      | inr at ↦ (let here : get_or xs k 0 ≡ get_or xs count 0 = ap (λ (n : ℕ). get_or xs n 0) (let e : k ≡ count = omega (arith, at, up) in e) in omega (arith, here, first, same))
    ] in
    lt-false (get_or xs k d) bound more
  where
    le-true : (m n : ℕ) → nat_le m n ≡ true → m ≤ n
    le-true m n test = grind (arith, nat_tests)

    lt-false : (m n : ℕ) → n ≤ m → nat_lt m n ≡ false
    lt-false m n more = grind (arith, nat_tests)

pub map-same : (xs : List ℕ) → map (λ (n : ℕ). n) xs ≡ xs
map-same [] = refl
map-same (x ∷ xs) = ap (λ (ys : List ℕ). x ∷ ys) (map-same xs)

abbrev pub NumbersParted : List ℕ → ℕ → ℕ → Type 0
NumbersParted xs t i = IsPartitionPoint (λ (n : ℕ). ltb n t ≡ true) (λ (n : ℕ). ltb n t ≡ false) xs i

pub spans-in-order : (xs : List ℕ) (from to s e : ℕ) → from ≤ to → s ≤ length xs → NumbersParted xs from s → NumbersParted xs to e → s ≤ e
spans-in-order xs from to s e le s_within first last =
    elim (cases_lt e s) [
      | inl wrong ↦ (let low = ltb-true (get_or xs e 0) from (first.0 e 0 (omega arith) wrong) in let high = ltb-false (get_or xs e 0) to (last.1 e 0 (omega arith) (omega arith)) in absurd (omega (arith, low, high)))
      | inr right ↦ right
    ]

both-true : (m n t : ℕ) → m ≤ n → n < t → (nat_le m n && nat_lt n t) ≡ true
both-true m n t low high = grind (arith, nat_tests)

low-false : (m n t : ℕ) → n < m → (nat_le m n && nat_lt n t) ≡ false
low-false m n t low = grind (arith, nat_tests)

high-false : (m n t : ℕ) → t ≤ n → (nat_le m n && nat_lt n t) ≡ false
high-false m n t high = grind (arith, nat_tests)

pub span-filter : (xs : List ℕ) (from to s e : ℕ) → from ≤ to → s ≤ length xs → e ≤ length xs → NumbersParted xs from s → NumbersParted xs to e →
    take (e - s) (drop s xs) ≡ filter (λ n. nat_le from n && nat_lt n to) xs
span-filter xs from to s e le s_within e_within first last =
    cut-filter (λ n. nat_le from n && nat_lt n to) xs s e (spans-in-order xs from to s e le s_within first last) e_within
    (λ k before. low-false from (get_or xs k 0) to (ltb-true (get_or xs k 0) from (first.0 k 0 (omega arith) before)))
    (λ k after before. both-true from (get_or xs k 0) to (ltb-false (get_or xs k 0) from (first.1 k 0 after (omega arith))) (ltb-true (get_or xs k 0) to (last.0 k 0 (omega arith) before)))
    (λ k after within. high-false from (get_or xs k 0) to (ltb-false (get_or xs k 0) to (last.1 k 0 after within)))

pub find-one : (f : ℕ) (h : Held) (rest : Option Held) (b : Bool) → eqb h.row f ≡ b → h.row ≡ f → cond b (Some h) rest ≡ Some h
find-one f h rest true e same = refl
find-one f h rest false e same = absurd (cc (sym e ∙ eq-eqb h.row f same))

pub find-not : (f : ℕ) (h : Held) (rest : Option Held) (b : Bool) → eqb h.row f ≡ b → h.row ≢ f → cond b (Some h) rest ≡ rest
find-not f h rest true e other = absurd (other (eqb_yes (subst T (sym e) tt)))
find-not f h rest false e other = refl

-- a field that no entry has is not found
pub find-none : (hs : List Held) (f : ℕ) (d : Held) → ((k : ℕ) → k < length hs → (get_or hs k d).row ≢ f) → find (λ (h : Held). eqb h.row f) hs ≡ None
find-none [] f d other = refl
find-none (h ∷ hs) f d other = find-not f h (find (λ (h : Held). eqb h.row f) hs) (eqb h.row f) refl (other 0 (omega arith)) ∙ find-none hs f d (λ k below. other (suc k) (omega arith))

-- the first entry of a field is found
pub find-some : (hs : List Held) (f i : ℕ) (d : Held) → i < length hs → (get_or hs i d).row ≡ f → ((k : ℕ) → k < i → (get_or hs k d).row ≢ f) → find (λ (h : Held). eqb h.row f) hs ≡ Some (get_or hs i d)
find-some [] f i d below same front = absurd (omega arith)
find-some (h ∷ hs) f zero d below same front = find-one f h (find (λ (h : Held). eqb h.row f) hs) (eqb h.row f) refl same
find-some (h ∷ hs) f (suc i) d below same front =
    find-not f h (find (λ (h : Held). eqb h.row f) hs) (eqb h.row f) refl (front 0 (omega arith)) ∙ find-some hs f i d (omega arith) same (λ k b. front (suc k) (omega arith))

abbrev pub Parted : List Held → ℕ → ℕ → Type 0
Parted hs f i = IsPartitionPoint (λ (h : Held). ltb h.row f ≡ true) (λ (h : Held). ltb h.row f ≡ false) hs i

-- entries before a field are below it
front-below : (hs : List Held) (f i : ℕ) (d : Held) → Parted hs f i → (k : ℕ) → k < i → (get_or hs k d).row < f
front-below hs f i d point k below = ltb-true (get_or hs k d).row f (point.0 k d (omega arith) below)

pub not-past : (hs : List Held) (f i : ℕ) (d : Held) → Parted hs f i → length hs ≤ i → find (λ (h : Held). eqb h.row f) hs ≡ None
not-past hs f i d point past = find-none hs f d (λ k within same. let below = front-below hs f i d point k (omega arith) in absurd (omega (arith, below, same)))

pub not-at : (hs : List Held) (f i : ℕ) (d : Held) → IsStrictlyIncreasing (map (λ h. h.row) hs) → Parted hs f i → i < length hs → (get_or hs i d).row ≢ f → find (λ (h : Held). eqb h.row f) hs ≡ None
not-at hs f i d rise point within other = find-none hs f d (λ k k_within same.
    elim (cases_lt k i) [
      | inl before ↦ (let below = front-below hs f i d point k before in absurd (omega (arith, below, same)))
      | inr after ↦ (let here = ltb-false (get_or hs i d).row f (point.1 i d (omega arith) within) in
          elim (cases_lt i k) [
            | inl later ↦ (let up = rises-by (λ (h : Held). h.row) hs rise i k d later k_within in absurd (omega (arith, up, here, same)))
            | inr at ↦ absurd (other (ap (λ (n : ℕ). (get_or hs n d).row) (let e : i ≡ k = omega arith in e) ∙ same))
          ])
    ])

pub is-at : (hs : List Held) (f i : ℕ) (d : Held) → Parted hs f i → i < length hs → (get_or hs i d).row ≡ f → find (λ (h : Held). eqb h.row f) hs ≡ Some (get_or hs i d)
is-at hs f i d point within same = find-some hs f i d within same (λ k below other. let less = front-below hs f i d point k below in absurd (omega (arith, less, other)))

-- words below a word stand before those that are not
abbrev pub WordsParted : Words → List ℕ → ℕ → Type 0
WordsParted ws w i = IsPartitionPoint (λ (v : List ℕ). is_before v w ≡ true) (λ (v : List ℕ). is_before v w ≡ false) ws i

less-at : (ws : Words) → IsStrictlySortedBy (slice_cmp nat_cmp) ws → (i j : ℕ) (d : List ℕ) → i < j → j < length ws → slice_cmp nat_cmp (get_or ws i d) (get_or ws j d) ≡ Less
less-at ws strict i j d before within = Less-from_sorted (slice_cmp nat_cmp) ws i j d strict before within

is_lt-Less : (o : _) → is_lt o ≡ true → o ≡ Less
is_lt-Less Less e = refl
is_lt-Less Equal e = absurd (cc e)
is_lt-Less Greater e = absurd (cc e)

pub words-parted : (ws : Words) (w : List ℕ) → IsStrictlySortedBy (slice_cmp nat_cmp) ws → IsPartitionedBy (λ v. is_before v w) ws
words-parted ws w strict i j d le within e =
    elim (cases_lt i j) [
      | inl far ↦ ap is_lt (nat_list_cmp_total.trans (get_or ws i d) (get_or ws j d) w (less-at ws strict i j d far within) (is_lt-Less (slice_cmp nat_cmp (get_or ws j d) w) e))
      | inr near ↦ ap (λ (k : ℕ). is_before (get_or ws k d) w) (let e : i ≡ j = omega arith in e) ∙ e
    ]

-- what is got at a place stands there
pub read : (ws : Words) (k : ℕ) (v d : List ℕ) → slice_get ws k ≡ Some v → get_or ws k d ≡ v
read ws k v d at = sym (unwrap_or-slice_get ws k d) ∙ ap (λ (o : Option (List ℕ)). unwrap_or o d) at

-- those from one place to before another are not compared yet
pub record IsNarrowed (ws : Words) (w : List ℕ) (start end : ℕ) : Type 0 where
  pub in_order : start ≤ end
  pub within : end ≤ length ws
  pub low : (k : ℕ) (d : List ℕ) → k < start → is_before (get_or ws k d) w ≡ true
  pub high : (k : ℕ) (d : List ℕ) → end ≤ k → k < length ws → is_before (get_or ws k d) w ≡ false

pub narrowed-none : (ws : Words) (w : List ℕ) (end : ℕ) → end ≡ length ws → IsNarrowed ws w 0 end
narrowed-none ws w end all = record {
  in_order = omega arith;
  within = omega (arith, all);
  low = λ k d below. absurd (omega arith);
  high = λ k d from below. absurd (omega (arith, all, from, below));
}

-- where a word is before, so are those in front of it
pub narrowed-low : (ws : Words) (w v : List ℕ) (start end middle : ℕ) → IsStrictlySortedBy (slice_cmp nat_cmp) ws → IsNarrowed ws w start end → middle < end → slice_get ws middle ≡ Some v → is_before v w ≡ true → IsNarrowed ws w (middle + 1) end
narrowed-low ws w v start end middle strict so before at is =
    let within = so.within in
    record {
      in_order = omega (arith, before);
      within = within;
      low = λ k d below. words-parted ws w strict k middle d (omega (arith, below)) (omega (arith, before, within)) (ap (λ (u : List ℕ). is_before u w) (read ws middle v d at) ∙ is);
      high = so.high;
    }

-- where a word is not before, those behind it are not either
pub narrowed-high : (ws : Words) (w v : List ℕ) (start end middle : ℕ) → IsStrictlySortedBy (slice_cmp nat_cmp) ws → IsNarrowed ws w start end → start ≤ middle → middle < end → slice_get ws middle ≡ Some v → is_before v w ≡ false → IsNarrowed ws w start middle
narrowed-high ws w v start end middle strict so from before at is =
    let within = so.within in
    record {
      in_order = from;
      within = omega (arith, before, within);
      low = so.low;
      high = λ k d behind below. not-so (is_before (get_or ws k d) w) refl (λ yes. sym (ap (λ (u : List ℕ). is_before u w) (read ws middle v d at) ∙ is) ∙ words-parted ws w strict middle k d behind below yes);
    }
  where
    not-so : (b : Bool) → b ≡ b → (b ≡ true → false ≡ true) → b ≡ false
    not-so true e h = absurd (cc (h refl))
    not-so false e h = refl

pub narrowed-all : (ws : Words) (w : List ℕ) (start end : ℕ) → IsNarrowed ws w start end → end ≤ start → AreBefore ws w start
narrowed-all ws w start end so met =
    (λ k d from below. so.low k d below, λ k d from below. so.high k d (omega (arith, met, from)) below)

-- a word is not before itself
not-before : (w : List ℕ) → is_before w w ≡ false
not-before w = ap is_lt (tied_itself nat_list_cmp_total w)

pub absent-past : (ws : Words) (w : List ℕ) (i : ℕ) → WordsParted ws w i → length ws ≤ i → ¬ (Contains ws w)
absent-past ws w i point past has =
    let before : is_before (get_or ws has.0 w) w ≡ true = point.0 has.0 w (omega arith) (omega (arith, has.1)) in
    absurd (cc (sym before ∙ (ap (λ (v : List ℕ). is_before v w) has.2 ∙ not-before w)))

pub absent-at : (ws : Words) (w : List ℕ) (i : ℕ) → IsStrictlySortedBy (slice_cmp nat_cmp) ws → WordsParted ws w i → i < length ws → get_or ws i w ≢ w → ¬ (Contains ws w)
absent-at ws w i strict point within other has =
    elim (cases_lt has.0 i) [
      | inl before ↦ absurd (cc (sym (point.0 has.0 w (omega arith) before) ∙ (ap (λ (v : List ℕ). is_before v w) has.2 ∙ not-before w)))
      | inr after ↦ elim (cases_lt i has.0) [
        | inl later ↦ absurd (cc (sym (ap is_lt (ap (slice_cmp nat_cmp (get_or ws i w)) (sym has.2) ∙ less-at ws strict i has.0 w later has.1)) ∙ point.1 i w (omega arith) within))
        | inr at ↦ absurd (other (ap (λ (k : ℕ). get_or ws k w) (let e : i ≡ has.0 = omega arith in e) ∙ has.2))
      ]
    ]

pub different-text : (v w : List ℕ) → not (pointwise eqb v w) ≡ true → v ≢ w
different-text v w e same =
    let equal : pointwise eqb w w ≡ true = texts_ties w w ∙ ap is_eq (tied_itself nat_list_cmp_total w) in
    absurd (cc (sym e ∙ (ap (λ (u : List ℕ). not (pointwise eqb u w)) same ∙ ap not equal)))

not-false : (b : Bool) → not b ≡ false → b ≡ true
not-false true e = refl
not-false false e = absurd (cc e)

pub equal-text : (v w : List ℕ) → not (pointwise eqb v w) ≡ false → v ≡ w
equal-text v w e = tells_apart exact_bytes v w (sym (texts_ties v w) ∙ not-false (pointwise eqb v w) e)

pub taken : {X : Type 0} (xs : List X) (i : ℕ) (x : X) → i < length xs → x ≡ get_or xs i x → slice_get xs i ≡ Some x
taken [] i x below is = absurd (omega (arith, below))
taken (y ∷ ys) zero x below is = ap Some (sym is)
taken (y ∷ ys) (suc i) x below is = taken ys i x (omega arith) is

pub within-list : {X : Type 0} (xs : List X) (i : ℕ) (x : X) → slice_get xs i ≡ Some x → i < length xs
within-list [] i x is = absurd (cc is)
within-list (y ∷ ys) zero x is = omega arith
within-list (y ∷ ys) (suc i) x is = let rest = within-list ys i x is in omega (arith, rest)
