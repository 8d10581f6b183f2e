-- The places of words in a dictionary.
use Rattle.std.proofs.Common.{◌≡◌, refl, ℕ, ◌+◌, ◌<◌, ◌≤◌, zero, suc, Bool, true, false, cond, List, [], ◌∷◌, ◌⊎◌, inl, inr, length, map, Option, Some, None, sym, ◌∙◌, ap, subst, arith, add-one, ℤ, pos, ltb}
use Rattle.std.proofs.lemmas.Map.Lookups.{exact_bytes}
use Rattle.list_laws.proofs.Orders.{less_of}
use Rattle.agg_model.specs.declared.query.RangeOp.{RangeOp}
use Rattle.agg_model.specs.declared.query.RangeOp.TheVariants.{Gt, Gte, Lt, Lte}
use Rattle.agg_evaluation.specs.Matching.{allows}
use Rattle.std.specs.Prelude.{option_map}
use Rattle.std.specs.List.{slice_get, AllByRecursion}
use Rattle.std.specs.declared.cmp.Ordering.{Ordering}
use Rattle.std.specs.declared.cmp.Ordering.TheVariants.{Less, Equal, Greater}
use Rattle.std.specs.Ordering.{nat_cmp, int_cmp, is_lt, ordering_reverse}
use Rattle.std.specs.Cmp.Lexicographic.{slice_cmp}
use Rattle.std.specs.List.Sorted.{IsStrictlySortedBy}
use Rattle.std.proofs.lemmas.Bool.{cases_lt, cases_order, lt-ltb, le-ltb}
use Rattle.std.proofs.lemmas.Cmp.{nat_list_cmp_total, tied_itself}
use Rattle.std.proofs.lemmas.Option.{slice_get-map}
use Rattle.agg_model.specs.declared.row.Scalar.{Scalar}
use Rattle.agg_model.specs.declared.row.Scalar.TheVariants as scalar
use Rattle.shard_columns.specs.Values.{Words}
use Rattle.shard_columns.specs.Dictionary.{as_values}
use Rattle.column_query.specs.Numbers.{place_among, number_of, without_equal}

abbrev pub Strict : Words → Type 0
Strict = IsStrictlySortedBy (slice_cmp nat_cmp)

each_at : {A : Type 0} (P : A → Type 0) (xs : List A) (k : ℕ) (x : A) → AllByRecursion P xs → slice_get xs k ≡ Some x → P x
each_at P [] k x all is = absurd (cc is)
each_at P (y ∷ ys) zero x all is = subst P (let same : y ≡ x = cc is in same) all.0
each_at P (y ∷ ys) (suc k) x all is = each_at P ys k x all.1 is

-- a word of a dictionary stands at its place
pub place-at : (ws : Words) → Strict ws → (k : ℕ) (w : List ℕ) → slice_get ws k ≡ Some w → place_among ws w ≡ k
unfolding place_among IsStrictlySortedBy
place-at [] strict k w is = absurd (cc is)
place-at (v ∷ vs) strict zero w is =
    let same : v ≡ w = cc is in
    ap (λ (u : List ℕ). cond (is_lt (slice_cmp nat_cmp u w)) (place_among vs w + 1) 0) same ∙ ap (λ (o : Ordering). cond (is_lt o) (place_among vs w + 1) 0) (tied_itself nat_list_cmp_total w)
place-at (v ∷ vs) strict (suc k) w is =
    ap (λ (o : Ordering). cond (is_lt o) (place_among vs w + 1) 0) (each_at (λ (u : List ℕ). slice_cmp nat_cmp v u ≡ Less) vs k w strict.0 is) ∙ (add-one (place_among vs w) ∙ ap suc (place-at vs strict.1 k w is))

Less_lt : (o : Ordering) → o ≡ Less → is_lt o ≡ true
Less_lt o e = ap is_lt e

when_before : (b : Bool) (n k : ℕ) → k < cond b (n + 1) 0 → (b ≡ true) × (k < n + 1)
when_before true n k below = (refl, below)
when_before false n k below = absurd (omega arith)

-- words before the place of a word are less
pub less_before : (ws : Words) (w : List ℕ) (k : ℕ) (v : List ℕ) → slice_get ws k ≡ Some v → k < place_among ws w → slice_cmp nat_cmp v w ≡ Less
unfolding place_among
less_before [] w k v is below = absurd (cc is)
less_before (u ∷ us) w zero v is below =
    let same : u ≡ v = cc is in
    ap (λ (x : List ℕ). slice_cmp nat_cmp x w) (sym same) ∙ less_of (slice_cmp nat_cmp u w) (when_before (is_lt (slice_cmp nat_cmp u w)) (place_among us w) 0 below).0
less_before (u ∷ us) w (suc k) v is below =
    let more = when_before (is_lt (slice_cmp nat_cmp u w)) (place_among us w) (suc k) below in less_before us w k v is (omega (arith, more.1))

not_less : (b : Bool) (n k : ℕ) → cond b (n + 1) 0 ≤ k → (b ≡ false) ⊎ ((b ≡ true) × (n + 1 ≤ k))
not_less true n k le = inr (refl, le)
not_less false n k le = inl refl

false_true : {A : Type 0} (b : Bool) → b ≡ false → b ≡ true → A
false_true true e f = absurd (cc e)
false_true false e f = absurd (cc f)

not_true : (b : Bool) → (b ≡ true → ⊥) → b ≡ false
not_true true h = absurd (h refl)
not_true false h = refl

-- those from there on are not
pub not_less_from : (ws : Words) → Strict ws → (w : List ℕ) (k : ℕ) (v : List ℕ) → slice_get ws k ≡ Some v → place_among ws w ≤ k → is_lt (slice_cmp nat_cmp v w) ≡ false
unfolding place_among IsStrictlySortedBy
not_less_from [] strict w k v is le = absurd (cc is)
not_less_from (u ∷ us) strict w zero v is le =
    let same : u ≡ v = cc is in
    elim (not_less (is_lt (slice_cmp nat_cmp u w)) (place_among us w) 0 le) [
      | inl above ↦ ap (λ (x : List ℕ). is_lt (slice_cmp nat_cmp x w)) (sym same) ∙ above
      | inr before ↦ absurd (omega (arith, before.1))
    ]
not_less_from (u ∷ us) strict w (suc k) v is le =
    elim (not_less (is_lt (slice_cmp nat_cmp u w)) (place_among us w) (suc k) le) [
      | inl above ↦ not_true (is_lt (slice_cmp nat_cmp v w)) (λ less. false_true (is_lt (slice_cmp nat_cmp u w)) above
          (Less_lt (slice_cmp nat_cmp u w) (nat_list_cmp_total.trans u v w (each_at (λ (x : List ℕ). slice_cmp nat_cmp u x ≡ Less) us k v strict.0 is) (less_of (slice_cmp nat_cmp v w) less))))
      | inr before ↦ not_less_from us strict.1 w k v is (omega (arith, before.1))
    ]

pub number-less : (m n : ℕ) → m < n → int_cmp (pos m) (pos n) ≡ Less
number-less m n below = ap (λ (b : Bool). cond b Less (cond (ltb n m) Greater Equal)) (lt-ltb m n below)

pub number-greater : (m n : ℕ) → n < m → int_cmp (pos m) (pos n) ≡ Greater
number-greater m n above = ap (λ (b : Bool). cond b Less (cond (ltb n m) Greater Equal)) (le-ltb m n (omega arith)) ∙ ap (λ (b : Bool). cond b Greater Equal) (lt-ltb n m above)

pub number-same : (m : ℕ) → int_cmp (pos m) (pos m) ≡ Equal
number-same m = ap (λ (b : Bool). cond b Less (cond b Greater Equal)) (le-ltb m m (omega arith))

-- places compare as their words do
pub places-order : (ws : Words) → Strict ws → (k o : ℕ) (v w : List ℕ) → slice_get ws k ≡ Some v → slice_get ws o ≡ Some w → int_cmp (pos k) (pos o) ≡ slice_cmp nat_cmp v w
places-order ws strict k o v w v_at w_at =
    elim (cases_order k o) [
      | inl same ↦ (let alike : Some v ≡ Some w = sym v_at ∙ (ap (slice_get ws) same ∙ w_at) in
          let equal : v ≡ w = cc alike in
          ap (λ (n : ℕ). int_cmp (pos k) (pos n)) (sym same) ∙ (number-same k ∙ (sym (tied_itself nat_list_cmp_total v) ∙ ap (slice_cmp nat_cmp v) equal)))
      | inr differ ↦ elim differ [
        | inl below ↦ number-less k o below ∙ sym (less_before ws w k v v_at (subst (λ (n : ℕ). k < n) (sym (place-at ws strict o w w_at)) below))
        | inr above ↦ number-greater k o above ∙ sym (nat_list_cmp_total.antisymm v w ∙ ap ordering_reverse (less_before ws v o w w_at (subst (λ (n : ℕ). o < n) (sym (place-at ws strict k v v_at)) above)))
      ]
    ]

kept_less : (op : RangeOp) → allows (without_equal op) Less ≡ allows op Less
kept_less Gt = refl
kept_less Gte = refl
kept_less Lt = refl
kept_less Lte = refl

kept_equal : (op : RangeOp) → allows (without_equal op) Equal ≡ allows op Greater
kept_equal Gt = refl
kept_equal Gte = refl
kept_equal Lt = refl
kept_equal Lte = refl

kept_greater : (op : RangeOp) → allows (without_equal op) Greater ≡ allows op Greater
kept_greater Gt = refl
kept_greater Gte = refl
kept_greater Lt = refl
kept_greater Lte = refl

above_all : (o : Ordering) → is_lt o ≡ false → (o ≡ Equal → ⊥) → o ≡ Greater
above_all Less e differ = absurd (cc e)
above_all Equal e differ = absurd (differ refl)
above_all Greater e differ = refl

-- a word that is not in the dictionary bounds others as the place where it would stand
pub place-bounds : (ws : Words) → Strict ws → (op : RangeOp) (k : ℕ) (v w : List ℕ) → slice_get ws k ≡ Some v → (v ≡ w → ⊥) →
    allows (without_equal op) (int_cmp (pos k) (pos (place_among ws w))) ≡ allows op (slice_cmp nat_cmp v w)
place-bounds ws strict op k v w v_at differ =
    let p = place_among ws w in
    elim (cases_lt k p) [
      | inl below ↦ ap (allows (without_equal op)) (number-less k p below) ∙ (kept_less op ∙ ap (allows op) (sym (less_before ws w k v v_at below)))
      | inr from ↦ (let greater : slice_cmp nat_cmp v w ≡ Greater = above_all (slice_cmp nat_cmp v w) (not_less_from ws strict w k v v_at from) (λ tie. differ (exact_bytes v w tie)) in
          elim (cases_lt p k) [
            | inl after ↦ ap (allows (without_equal op)) (number-greater k p after) ∙ (kept_greater op ∙ ap (allows op) (sym greater))
            | inr at ↦ (let same : k ≡ p = omega arith in
                ap (λ (n : ℕ). allows (without_equal op) (int_cmp (pos k) (pos n))) (sym same) ∙ (ap (allows (without_equal op)) (number-same k) ∙ (kept_equal op ∙ ap (allows op) (sym greater))))
          ])
    ]

-- the number of a value at a place
pub number-at : (f : Scalar → ℤ) (vs : List Scalar) (place : ℕ) (v : Scalar) → slice_get vs place ≡ Some v → slice_get (map f vs) place ≡ Some (f v)
number-at f vs place v is = slice_get-map f vs place ∙ ap (option_map f) is

word-number : (ws : Words) → Strict ws → (o : ℕ) (found : Option (List ℕ)) (value : Option Scalar) → slice_get ws o ≡ found → option_map scalar.Word found ≡ value → (value ≡ None → ⊥) → option_map (number_of ws) value ≡ Some (pos o)
word-number ws strict o None value at is there = absurd (there (sym is))
word-number ws strict o (Some w) value at is there = ap (option_map (number_of ws)) (sym is) ∙ ap (λ (n : ℕ). Some (pos n)) (place-at ws strict o w at)

get_there : (vs : List Scalar) (place : ℕ) → place < length vs → slice_get vs place ≡ None → ⊥
get_there [] place below is = absurd (omega arith)
get_there (v ∷ vs) zero below is = absurd (cc is)
get_there (v ∷ vs) (suc place) below is = get_there vs place (omega arith) is

-- the number of a word at a place is its ordinal
pub ordinal-number : (ws : Words) → Strict ws → (vs : List Scalar) (place o : ℕ) → place < length vs → slice_get (as_values ws) o ≡ slice_get vs place → slice_get (map (number_of ws) vs) place ≡ Some (pos o)
ordinal-number ws strict vs place o there is =
    slice_get-map (number_of ws) vs place ∙ word-number ws strict o (slice_get ws o) (slice_get vs place) refl (sym (slice_get-map scalar.Word ws o) ∙ is) (get_there vs place there)

-- no more words come before a word than there are
pub place-few : (ws : Words) (w : List ℕ) → place_among ws w ≤ length ws
unfolding place_among
place-few [] w = omega arith
place-few (v ∷ vs) w = few (is_lt (slice_cmp nat_cmp v w)) (place_among vs w) (length vs) (place-few vs w)
  where
    few : (b : Bool) (n m : ℕ) → n ≤ m → cond b (n + 1) 0 ≤ suc m
    few true n m le = omega arith
    few false n m le = omega arith

-- a binary search goes on behind a word that comes before, and before one that does not
pub search-behind : (ws : Words) → Strict ws → (w : List ℕ) (k : ℕ) (v : List ℕ) → slice_get ws k ≡ Some v → is_lt (slice_cmp nat_cmp v w) ≡ true → k + 1 ≤ place_among ws w
search-behind ws strict w k v at before =
    elim (cases_lt k (place_among ws w)) [
      | inl below ↦ omega arith
      | inr from ↦ absurd (cc (sym before ∙ not_less_from ws strict w k v at from))
    ]

pub search-before : (ws : Words) (w : List ℕ) (k : ℕ) (v : List ℕ) → slice_get ws k ≡ Some v → is_lt (slice_cmp nat_cmp v w) ≡ false → place_among ws w ≤ k
search-before ws w k v at behind =
    elim (cases_lt k (place_among ws w)) [
      | inl below ↦ absurd (cc (sym (Less_lt (slice_cmp nat_cmp v w) (less_before ws w k v at below)) ∙ behind))
      | inr from ↦ from
    ]
