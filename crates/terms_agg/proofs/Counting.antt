-- Counters of words, raised one word after another.
use Rattle.std.proofs.Common.{◌≡◌, refl, ℕ, ◌+◌, ◌<◌, zero, suc, Bool, true, false, cond, List, [], ◌∷◌, ◌++◌, length, filter, take, get_or, sym, ◌∙◌, ap, arith, zero-add}
use Rattle.std.specs.Prelude.{replicate, ◌||◌, not, sum_by, slice_set}
use Rattle.std.specs.List.{AllByRecursion}
use Rattle.std.specs.List.Sorted.{IsStrictlySortedBy}
use Rattle.std.specs.declared.cmp.Ordering.{Ordering}
use Rattle.std.specs.declared.cmp.Ordering.TheVariants.{Less, Equal, Greater}
use Rattle.std.specs.Ordering.{nat_cmp, is_eq, match_ordering, ordering_reverse}
use Rattle.std.specs.Cmp.{tied_itself}
use Rattle.std.specs.Cmp.Lexicographic.{slice_cmp}
use Rattle.std.proofs.lemmas.List.Sums.{sum_by-append}
use Rattle.agg_model.specs.declared.key.Key.{Key}
use Rattle.agg_model.specs.declared.key.Key.TheVariants.{Word}
use Rattle.agg_evaluation.specs.Counters.{raised, raised_by}
use Rattle.agg_evaluation.specs.KeyOrder.{key_cmp, key_eq, has_key}
use Rattle.agg_evaluation.proofs.Computing.{computing}
use Rattle.agg_evaluation.proofs.KeyCompare.{key_cmp_total}
use Rattle.agg_evaluation.proofs.KeyExact.{exact_keys}
use Rattle.list_laws.proofs.Booleans.{or_same, or_swap}
use Rattle.list_laws.proofs.Lists.{filter-append}
use Rattle.shard_columns.specs.Values.{Words}
use Rattle.terms_agg.specs.Counts.{word_key, counted, is_counted, bucket_bytes, new_bucket_bytes}

-- each word comes before those after it
abbrev pub Strict : Words → Type 0
Strict = IsStrictlySortedBy (slice_cmp nat_cmp)

abbrev pub IsBefore : List ℕ → Words → Type 0
IsBefore w ws = AllByRecursion (λ v. slice_cmp nat_cmp w v ≡ Less) ws

pub word_cmp : (v w : List ℕ) → key_cmp (Word v) (Word w) ≡ slice_cmp nat_cmp v w
unfolding computing
word_cmp v w = refl

-- a raised key, by how it compares with the first counter's
abbrev put_by : Ordering → Key → Key × ℕ → List (Key × ℕ) → List (Key × ℕ) → List (Key × ℕ)
put_by r k c cs rest = match_ordering r ((k, 1) ∷ c ∷ cs) ((c.0, c.1 + 1) ∷ cs) (c ∷ rest)

before-all : (w : List ℕ) (ws : Words) (cs : List ℕ) → IsBefore w ws → raised (Word w) (counted ws cs) ≡ (Word w, 1) ∷ counted ws cs
before-all w [] cs h = refl
before-all w (v ∷ vs) [] h = refl
before-all w (v ∷ vs) (zero ∷ cs) h = before-all w vs cs h.1
before-all w (v ∷ vs) (suc n ∷ cs) h =
    ap (λ (r : Ordering). put_by r (Word w) (Word v, suc n) (counted vs cs) (raised (Word w) (counted vs cs))) (word_cmp w v ∙ h.0)

before-at : (w : List ℕ) (ws : Words) (o : ℕ) → IsBefore w ws → o < length ws → slice_cmp nat_cmp w (get_or ws o []) ≡ Less
before-at w [] o h below = absurd (omega (arith, below))
before-at w (v ∷ vs) zero h below = h.0
before-at w (v ∷ vs) (suc o) h below = before-at w vs o h.1 (omega (arith, below))

-- a word behind the first one
behind : (w v : List ℕ) → slice_cmp nat_cmp w v ≡ Less → key_cmp (Word v) (Word w) ≡ Greater
behind w v h = key_cmp_total.antisymm (Word v) (Word w) ∙ ap ordering_reverse (word_cmp w v ∙ h)

-- raising the counter at a place raises the word there
pub counted-raised : (ws : Words) (cs : List ℕ) (o : ℕ) → Strict ws → length cs ≡ length ws → o < length ws
    → counted ws (slice_set cs o (get_or cs o 0 + 1)) ≡ raised (word_key ws o) (counted ws cs)
unfolding IsStrictlySortedBy
counted-raised [] cs o strict long below = absurd (omega (arith, below))
counted-raised (w ∷ ws) [] o strict long below = absurd (omega (arith, long))
counted-raised (w ∷ ws) (zero ∷ cs) zero strict long below = sym (before-all w ws cs strict.0)
counted-raised (w ∷ ws) (suc n ∷ cs) zero strict long below =
    let more : suc n + 1 ≡ suc (suc n) = omega arith in
    ap (λ (m : ℕ). counted (w ∷ ws) (m ∷ cs)) more
    ∙ (ap (λ (m : ℕ). (Word w, m) ∷ counted ws cs) (sym more)
    ∙ ap (λ (r : Ordering). put_by r (Word w) (Word w, suc n) (counted ws cs) (raised (Word w) (counted ws cs))) (sym (tied_itself key_cmp_total (Word w))))
counted-raised (w ∷ ws) (zero ∷ cs) (suc o) strict long below = counted-raised ws cs o strict.1 (omega (arith, long)) (omega (arith, below))
counted-raised (w ∷ ws) (suc n ∷ cs) (suc o) strict long below =
    let k = word_key ws o in
    ap (λ (rest : List (Key × ℕ)). (Word w, suc n) ∷ rest) (counted-raised ws cs o strict.1 (omega (arith, long)) (omega (arith, below)))
    ∙ ap (λ (r : Ordering). put_by r k (Word w, suc n) (counted ws cs) (raised k (counted ws cs)))
    (sym (behind w (get_or ws o []) (before-at w ws o strict.0 (omega (arith, below)))))

-- no word is counted at first
pub counted-zeros : (ws : Words) (n : ℕ) → counted ws (replicate n 0) ≡ []
counted-zeros [] n = refl
counted-zeros (w ∷ ws) zero = refl
counted-zeros (w ∷ ws) (suc n) = counted-zeros ws n

-- a word that stands before others has no counter among theirs
no-counter : (w : List ℕ) (ws : Words) (cs : List ℕ) → IsBefore w ws → is_counted (counted ws cs) (Word w) ≡ false
no-counter w [] cs h = refl
no-counter w (v ∷ vs) [] h = refl
no-counter w (v ∷ vs) (zero ∷ cs) h = no-counter w vs cs h.1
no-counter w (v ∷ vs) (suc n ∷ cs) h = ap (λ (r : Ordering). is_eq r || is_counted (counted vs cs) (Word w)) (word_cmp w v ∙ h.0) ∙ no-counter w vs cs h.1

-- whether a counter is not 0
abbrev pub is_above_zero : ℕ → Bool
is_above_zero zero = false
is_above_zero (suc n) = true

counter-there : (ws : Words) (cs : List ℕ) (o : ℕ) → Strict ws → length cs ≡ length ws → o < length ws
    → is_counted (counted ws cs) (word_key ws o) ≡ is_above_zero (get_or cs o 0)
unfolding IsStrictlySortedBy
counter-there [] cs o strict long below = absurd (omega (arith, below))
counter-there (w ∷ ws) [] o strict long below = absurd (omega (arith, long))
counter-there (w ∷ ws) (zero ∷ cs) zero strict long below = no-counter w ws cs strict.0
counter-there (w ∷ ws) (suc n ∷ cs) zero strict long below = ap (λ (r : Ordering). is_eq r || is_counted (counted ws cs) (Word w)) (tied_itself key_cmp_total (Word w))
counter-there (w ∷ ws) (zero ∷ cs) (suc o) strict long below = counter-there ws cs o strict.1 (omega (arith, long)) (omega (arith, below))
counter-there (w ∷ ws) (suc n ∷ cs) (suc o) strict long below =
    ap (λ (r : Ordering). is_eq r || is_counted (counted ws cs) (word_key ws o)) (behind w (get_or ws o []) (before-at w ws o strict.0 (omega (arith, below))))
    ∙ counter-there ws cs o strict.1 (omega (arith, long)) (omega (arith, below))

bytes-by : (cs : List (Key × ℕ)) (k : Key) (b : Bool) → is_counted cs k ≡ b → new_bucket_bytes cs (k ∷ []) ≡ cond b 0 (bucket_bytes k)
bytes-by cs k true is = ap (λ (b : Bool). sum_by bucket_bytes (cond (not b) (k ∷ []) [])) is
bytes-by cs k false is = ap (λ (b : Bool). sum_by bucket_bytes (cond (not b) (k ∷ []) [])) is ∙ zero-add (bucket_bytes k)

above-zero : (n : ℕ) → 0 < n → is_above_zero n ≡ true
above-zero zero h = absurd (omega (arith, h))
above-zero (suc n) h = refl

-- the bytes of one word's bucket, where its counter is 0
pub new-bytes : (ws : Words) (cs : List ℕ) (o : ℕ) → Strict ws → length cs ≡ length ws → o < length ws → get_or cs o 0 ≡ 0
    → new_bucket_bytes (counted ws cs) (word_key ws o ∷ []) ≡ bucket_bytes (word_key ws o)
new-bytes ws cs o strict long below is = bytes-by (counted ws cs) (word_key ws o) false (counter-there ws cs o strict long below ∙ ap is_above_zero is)

-- and no bytes where it is not
pub known-bytes : (ws : Words) (cs : List ℕ) (o : ℕ) → Strict ws → length cs ≡ length ws → o < length ws → 0 < get_or cs o 0
    → new_bucket_bytes (counted ws cs) (word_key ws o ∷ []) ≡ 0
known-bytes ws cs o strict long below above =
    bytes-by (counted ws cs) (word_key ws o) true (counter-there ws cs o strict long below ∙ above-zero (get_or cs o 0) above)

-- one more key is raised after the others
pub raised-last : (ks : List Key) (k : Key) (cs : List (Key × ℕ)) → raised_by (ks ++ k ∷ []) cs ≡ raised k (raised_by ks cs)
raised-last [] k cs = refl
raised-last (j ∷ js) k cs = raised-last js k (raised j cs)

has-raised : (q k : Key) (cs : List (Key × ℕ)) → is_counted (raised k cs) q ≡ (key_eq q k || is_counted cs q)
has-raised q k [] = refl
has-raised q k (c ∷ cs) =
    elim (key_cmp k c.0) as (λ r. key_cmp k c.0 ≡ r → is_counted (put_by r k c cs (raised k cs)) q ≡ (key_eq q k || (key_eq q c.0 || is_counted cs q))) [
      | Less ↦ λ p. refl
      | Equal ↦ λ p. or_same (key_eq q c.0) (is_counted cs q) ∙ ap (λ (j : Key). key_eq q j || (key_eq q c.0 || is_counted cs q)) (sym (exact_keys k c.0 p))
      | Greater ↦ λ p. ap (λ (b : Bool). key_eq q c.0 || b) (has-raised q k cs) ∙ or_swap (key_eq q c.0) (key_eq q k) (is_counted cs q)
    ] refl

-- a key has a counter afterwards where it was raised or had one before
pub has-raised_by : (q : Key) (ks : List Key) (cs : List (Key × ℕ)) → is_counted (raised_by ks cs) q ≡ (has_key q ks || is_counted cs q)
has-raised_by q [] cs = refl
has-raised_by q (k ∷ ks) cs = has-raised_by q ks (raised k cs) ∙ ap (λ (b : Bool). has_key q ks || b) (has-raised q k cs) ∙ turn (has_key q ks) (key_eq q k) (is_counted cs q)
  where
    turn : (a b c : Bool) → (a || (b || c)) ≡ ((b || a) || c)
    turn true true c = refl
    turn true false c = refl
    turn false true c = refl
    turn false false c = refl

-- the bytes of one more key, which is none of those before
pub bytes-last : (cs : List (Key × ℕ)) (ks : List Key) (k : Key) → has_key k ks ≡ false
    → new_bucket_bytes cs (ks ++ k ∷ []) ≡ new_bucket_bytes cs ks + new_bucket_bytes (raised_by ks cs) (k ∷ [])
bytes-last cs ks k absent =
    ap (sum_by bucket_bytes) (filter-append (λ q. not (is_counted cs q)) ks (k ∷ []))
    ∙ (sum_by-append bucket_bytes (filter (λ q. not (is_counted cs q)) ks) (filter (λ q. not (is_counted cs q)) (k ∷ []))
    ∙ ap (λ (b : Bool). new_bucket_bytes cs ks + sum_by bucket_bytes (cond (not b) (k ∷ []) []))
    (sym (has-raised_by k ks cs ∙ ap (λ (b : Bool). b || is_counted cs k) absent)))

none-counted : (ws : Words) (cs : List ℕ) → counted (take 0 ws) cs ≡ []
none-counted [] cs = refl
none-counted (w ∷ ws) cs = refl

after : (n : ℕ) → suc n + 1 ≡ suc (n + 1)
after n = omega arith

-- one more word, whose counter is not 0
pub counted-more : (ws : Words) (cs : List ℕ) (n : ℕ) → length cs ≡ length ws → n < length ws → 0 < get_or cs n 0
    → counted (take (n + 1) ws) cs ≡ counted (take n ws) cs ++ (word_key ws n, get_or cs n 0) ∷ []
counted-more [] cs n long below above = absurd (omega (arith, below))
counted-more (w ∷ ws) [] n long below above = absurd (omega (arith, long))
counted-more (w ∷ ws) (zero ∷ cs) zero long below above = absurd (omega (arith, above))
counted-more (w ∷ ws) (suc c ∷ cs) zero long below above = ap (λ (rest : List (Key × ℕ)). (Word w, suc c) ∷ rest) (none-counted ws cs)
counted-more (w ∷ ws) (zero ∷ cs) (suc n) long below above =
    ap (λ (m : ℕ). counted (take m (w ∷ ws)) (zero ∷ cs)) (after n) ∙ counted-more ws cs n (omega (arith, long)) (omega (arith, below)) above
counted-more (w ∷ ws) (suc c ∷ cs) (suc n) long below above =
    ap (λ (m : ℕ). counted (take m (w ∷ ws)) (suc c ∷ cs)) (after n)
    ∙ ap (λ (rest : List (Key × ℕ)). (Word w, suc c) ∷ rest) (counted-more ws cs n (omega (arith, long)) (omega (arith, below)) above)

-- and one whose counter is 0
pub counted-less : (ws : Words) (cs : List ℕ) (n : ℕ) → length cs ≡ length ws → n < length ws → get_or cs n 0 ≡ 0
    → counted (take (n + 1) ws) cs ≡ counted (take n ws) cs
counted-less [] cs n long below none = absurd (omega (arith, below))
counted-less (w ∷ ws) [] n long below none = absurd (omega (arith, long))
counted-less (w ∷ ws) (zero ∷ cs) zero long below none = none-counted ws cs
counted-less (w ∷ ws) (suc c ∷ cs) zero long below none = absurd (omega (arith, none))
counted-less (w ∷ ws) (zero ∷ cs) (suc n) long below none =
    ap (λ (m : ℕ). counted (take m (w ∷ ws)) (zero ∷ cs)) (after n) ∙ counted-less ws cs n (omega (arith, long)) (omega (arith, below)) none
counted-less (w ∷ ws) (suc c ∷ cs) (suc n) long below none =
    ap (λ (m : ℕ). counted (take m (w ∷ ws)) (suc c ∷ cs)) (after n)
    ∙ ap (λ (rest : List (Key × ℕ)). (Word w, suc c) ∷ rest) (counted-less ws cs n (omega (arith, long)) (omega (arith, below)) none)
