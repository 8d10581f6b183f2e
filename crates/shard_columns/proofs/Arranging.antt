-- The words of a field in order: no mapped word stands twice, and sorted words ascend.
use Rattle.std.proofs.Common.{Bool, true, false, cond, ◌≡◌, refl, ℕ, ◌+◌, ◌<◌, List, [], ◌∷◌, ◌++◌, length, length-append, get_or, sym, ◌∙◌, ap, subst, arith, zero, suc, inl, inr, Option, None, Some, Contains}
use Rattle.std.specs.Prelude.{slice_get, ◌↔◌, IsSome, String, string_bytes}
use Rattle.std.specs.Prelude.{◌⊎◌, if◌then◌else◌, unwrap_or}
use Rattle.std.specs.Result.{IfOk}
use Rattle.std.specs.declared.result.Result.{Result}
use Rattle.std.specs.declared.result.Result.TheVariants.{Ok, Err}
use Rattle.std.specs.Str.{bytes_eq}
use Rattle.std.proofs.lemmas.Slice.Eq.{bytes_eq-Decides}
use Rattle.std.specs.Cmp.{IsTotalOrder}
use Rattle.std.specs.declared.alloc.Global.{Global}
use Rattle.std.specs.declared.cmp.Ordering.{Ordering}
use Rattle.std.specs.declared.cmp.Ordering.TheVariants.{Less}
use Rattle.std.specs.Option.{option_or}
use Rattle.std.specs.Ordering.{nat_cmp, is_eq, is_lt, eq_by_cmp, ordering_then, then_cmp, on}
use Rattle.std.specs.Cmp.Lexicographic.{slice_cmp}
use Rattle.std.specs.String.{string_cmp}
use Rattle.std.specs.List.{AllByRecursion, IsDistinct}
use Rattle.std.specs.List.Sorted.{IsSortedBy, IsSortedByClosure, IsStrictlySortedBy, IsPermutation}
use Rattle.std.specs.Fn.{Called, ComparesAs}
use Rattle.std.specs.Map.{keys_of}
use Rattle.std.specs.BTreeMap.{is_at}
use Rattle.std.proofs.lemmas.Cmp.{nat_cmp_total, nat_list_cmp_total, eq_by_cmp_equiv, then_total, on_total}
use Rattle.std.proofs.lemmas.List.{length-map, map-append, get_or_append_left}
use Rattle.std.proofs.Math.Seq.{get_or-append_seam}
use Rattle.std.proofs.lemmas.List.Elements.{Contains-append_left, Contains-append_right, Contains-append_cases}
use Rattle.std.proofs.lemmas.List.Sorted.{IsPermutation-map, IsPermutation-sym, Contains-permutation, ranks_by, sorted_far}
use Rattle.std.proofs.lemmas.Fn.{always_returns_same}
use Rattle.std.proofs.lemmas.Option.{same_Some}
use Rattle.std.proofs.lemmas.Map.{NonePasses, lookup-none, none_passes_from_lookup}
use Rattle.std.proofs.lemmas.Map.Entries.{none_past_head, place_from_lookup}
use Rattle.std.proofs.lemmas.Map.Views.{lookup-from_Contains}
use Rattle.std.proofs.lemmas.Map.Keys.{IsDistinct-from_sorted, IsDistinct-cons, sorted_tail}
use denote.Param.Members.{Mut}
use denote.Ref.{Bor}
use Rattle.shard_columns.specs.declared.field_words.Numbered.{Numbered}
use Rattle.shard_columns.specs.Numbered.{Entries, Entry, number_in, words_among, entry_of, all_entries, later_entries, beginning_of, first_entries, other_entries, Known, HasNumber, IsGiven, IsBegun, AreBegun, AreSorted, IsOneEach, IsIndexed}
use Rattle.shard_columns.specs.Values.{Words}
use Rattle.shard_columns.proofs.Beginnings.{Begun, first_of, number_if, number-append, number-first, number_if-other, is-it, itself}
use Rattle.shard_columns.proofs.Bytewise.{by-words}
use Rattle.shard_columns.proofs.Storing.{get_or-any}

abbrev by_text : Numbered → Numbered → Bool
by_text a b = is_lt (slice_cmp nat_cmp a.text.now b.text.now)

abbrev pub same_word : List ℕ → List ℕ → Bool
same_word = eq_by_cmp (slice_cmp nat_cmp)

abbrev Firsts : Type 0
Firsts = List (ℕ × Entry)

abbrev Others : Type 0
Others = List (String Global × ℕ)

-- no word is one of those behind it

none-words : (w : List ℕ) (es : Entries) → NonePasses (is_at (slice_cmp nat_cmp w)) es → AllByRecursion (λ v. same_word w v ≡ false) (words_among es)
none-words w [] none = tt
none-words w (e ∷ es) none = (none.0, none-words w es none.1)

distinct-push : (e : List ℕ × ℕ) (es : Entries) → number_in es e.0 ≡ None → IsDistinct same_word (words_among es) → IsDistinct same_word (words_among (e ∷ es))
distinct-push e es none rest = IsDistinct-cons same_word e.0 (words_among es) (none-words e.0 es (none_passes_from_lookup (is_at (slice_cmp nat_cmp e.0)) es none)) rest

after-texts : (k : String Global) (es : Others) → AllByRecursion (λ (y : String Global). string_cmp k y ≡ Less) (keys_of es) → AllByRecursion (λ v. slice_cmp nat_cmp (string_bytes k) v ≡ Less) (words_among (other_entries es))
after-texts k [] after = after
after-texts k (e ∷ es) after = (after.0, after-texts k es after.1)

others-rise : (es : Others) → IsStrictlySortedBy string_cmp (keys_of es) → IsStrictlySortedBy (slice_cmp nat_cmp) (words_among (other_entries es))
unfolding IsStrictlySortedBy
others-rise [] up = up
others-rise (e ∷ es) up = (after-texts e.0 es up.0, others-rise es up.1)

-- none of these words is of the other part
abbrev Cross : Others → Firsts → Type 0
Cross others firsts = AllByRecursion (λ e. number_in (other_entries others) e.1.0 ≡ None) firsts

some-later : (b : Bool) (n : ℕ) (o : Option ℕ) → IsSome o → IsSome (cond b (Some n) o)
some-later true n o has = refl
some-later false n o has = has

cross-all : (firsts : Firsts) (others : Others) → IsIndexed firsts others → (es : Firsts) → ((w : List ℕ) → IsSome (number_in (first_entries es) w) → IsSome (number_in (first_entries firsts) w)) → Cross others es
cross-all firsts others indexed [] among = tt
cross-all firsts others indexed (e ∷ es) among =
    let there = among e.1.0 (subst (λ (b : Bool). IsSome (cond b (Some e.1.1) (number_in (first_entries es) e.1.0))) (sym (itself e.1.0)) refl) in (
      here there (number_in (other_entries others) e.1.0) refl,
      cross-all firsts others indexed es (λ w has. among w (some-later (is_eq (slice_cmp nat_cmp w e.1.0)) e.1.1 (number_in (first_entries es) w) has)),
    )
  where
    here : IsSome (number_in (first_entries firsts) e.1.0) → (o : Option ℕ) → number_in (other_entries others) e.1.0 ≡ o → o ≡ None
    here there None at = refl
    here there (Some n) at =
        let first = indexed.apart e.1.0 (subst IsSome (sym at) refl) in
        let none : number_in (first_entries firsts) e.1.0 ≡ None =
        number-first firsts e.1.0 indexed.firsts_ascend indexed.begun ∙ (ap (number_if e.1.0) first.1.0 ∙ number_if-other e.1.0 first.0 first.1.1) in
        absurd (cc (subst IsSome none there))

all-distinct : (others : Others) → IsStrictlySortedBy string_cmp (keys_of others) → (es : Firsts) → IsStrictlySortedBy nat_cmp (keys_of es) → Begun es → Cross others es → IsDistinct same_word (words_among (first_entries es ++ other_entries others))
all-distinct others rise [] up begun cross = IsDistinct-from_sorted (slice_cmp nat_cmp) (words_among (other_entries others)) (others-rise others rise)
all-distinct others rise (e ∷ es) up begun cross =
    let tail = sorted_tail nat_cmp e.0 (keys_of es) up in
    let passed : first_of es e.1.0 ≡ None =
    lookup-none (is_at (nat_cmp (beginning_of e.1.0))) es (none_past_head (eq_by_cmp_equiv nat_cmp_total) (beginning_of e.1.0) e es (IsDistinct-from_sorted nat_cmp (keys_of (e ∷ es)) up)
    (ap (λ (k : ℕ). is_eq (nat_cmp k e.0)) (sym begun.0) ∙ (eq_by_cmp_equiv nat_cmp_total).refl e.0)) in
    let none : number_in (first_entries es ++ other_entries others) e.1.0 ≡ None =
    number-append (first_entries es) (other_entries others) e.1.0
    ∙ (ap (λ (o : Option ℕ). option_or o (number_in (other_entries others) e.1.0)) (number-first es e.1.0 tail begun.1 ∙ ap (number_if e.1.0) passed) ∙ cross.0) in
    distinct-push e.1 (first_entries es ++ other_entries others) none (all-distinct others rise es tail begun.1 cross.1)

pub distinct-view : (firsts : Firsts) (others : Others) → IsIndexed firsts others → IsStrictlySortedBy string_cmp (keys_of others) → IsDistinct same_word (words_among (first_entries firsts ++ other_entries others))
distinct-view firsts others indexed rise = all-distinct others rise firsts indexed.firsts_ascend indexed.begun (cross-all firsts others indexed firsts (λ w has. has))

-- words that are put in another order

slice_get-contains : {X : Type 0} (xs : List X) (i : ℕ) (x : X) → slice_get xs i ≡ Some x → Contains xs x
slice_get-contains [] i x is = absurd (cc is)
slice_get-contains (y ∷ xs) zero x is = (0, omega arith, same_Some y x is)
slice_get-contains (y ∷ xs) (suc i) x is = let rest = slice_get-contains xs i x is in (suc rest.0, (let within = rest.1 in omega (arith, within)), rest.2)

pub number-there : (es : Entries) (w : List ℕ) (n : ℕ) → IsDistinct same_word (words_among es) → Contains es (w, n) → number_in es w ≡ Some n
number-there es w n distinct has = lookup-from_Contains (eq_by_cmp_equiv nat_list_cmp_total) w n es distinct has

entry-there : (es : Entries) (w : List ℕ) (n : ℕ) → number_in es w ≡ Some n → Contains es (w, n)
entry-there es w n is =
    let place = place_from_lookup (is_at (slice_cmp nat_cmp w)) es n is in
    slice_get-contains es place.0 (w, n) (subst (λ (k : List ℕ). slice_get es place.0 ≡ Some (k, n)) (sym (is-it w place.1 place.3)) place.2)

-- texts with their numbers

pub later-push : (texts : Words) (numbers : List ℕ) (text : List ℕ) (n : ℕ) → length texts ≡ length numbers → later_entries (texts ++ text ∷ []) (numbers ++ n ∷ []) ≡ later_entries texts numbers ++ (text, n) ∷ []
later-push [] [] text n same = refl
later-push [] (m ∷ ms) text n same = absurd (omega (arith, same))
later-push (t ∷ ts) [] text n same = absurd (omega (arith, same))
later-push (t ∷ ts) (m ∷ ms) text n same = ap (λ (es : Entries). (t, m) ∷ es) (later-push ts ms text n (omega (arith, same)))

pub only-one : {X : Type 0} (x y : X) → Contains (x ∷ []) y → y ≡ x
only-one {X} x y has =
    let first : has.0 ≡ 0 = (let low = has.1 in omega (arith, low)) in
    sym (subst (λ (i : ℕ). get_or (x ∷ []) i y ≡ y) first has.2)

-- a text that comes behind the others is given the next number
pub given-later : (mapped later now : Entries) (word : List ℕ) (n : ℕ) → now ≡ later ++ (word, n) ∷ [] → IsGiven (record { mapped = mapped; later = later }) (record { mapped = mapped; later = now }) word n n
given-later mapped later now word n is = record {
  there = inr (subst (λ (es : Entries). Contains es (word, n)) (sym is) (Contains-append_right later ((word, n) ∷ []) (word, n) (0, omega arith, refl)));
  own = inr refl;
  kept = λ w m has. elim has [
    | inl found ↦ inl found
    | inr late ↦ inr (subst (λ (es : Entries). Contains es (w, m)) (sym is) (Contains-append_left later ((word, n) ∷ []) (w, m) late))
  ];
  nothing_else = λ w m has. elim has [
    | inl found ↦ inl (inl found)
    | inr late ↦ elim (Contains-append_cases later ((word, n) ∷ []) (w, m) (subst (λ (es : Entries). Contains es (w, m)) is late)) [
      | inl front ↦ inl (inr front)
      | inr last ↦ (let it = only-one {X = Entry} (word, n) (w, m) last in inr (ap (λ (e : Entry). e.0) it, ap (λ (e : Entry). e.1) it))
    ]
  ];
}

-- a word that is looked up is given its number
module _ (before now later : Entries) (word : List ℕ) (n next : ℕ) (found : n ≡ unwrap_or (number_in before word) next)
    (after : (w : List ℕ) → number_in now w ≡ (if bytes_eq word w then Some n else number_in before w)) where
  abbrev was : Known
  was = record { mapped = before; later = later }

  abbrev is : Known
  is = record { mapped = now; later = later }

  at-word : (b : Bool) → bytes_eq word word ≡ b → number_in now word ≡ Some n
  at-word true e = after word ∙ ap (λ (b : Bool). if b then Some n else number_in before word) e
  at-word false e = absurd (cc (sym ((bytes_eq-Decides word word).1 refl) ∙ e))

  own-or-next : (o : Option ℕ) → number_in before word ≡ o → HasNumber was word n ⊎ (n ≡ next)
  own-or-next None e = inr (found ∙ ap (λ (o : Option ℕ). unwrap_or o next) e)
  own-or-next (Some m) e = inl (inl (e ∙ ap Some (sym (found ∙ ap (λ (o : Option ℕ). unwrap_or o next) e))))

  still : (w : List ℕ) (m : ℕ) (b : Bool) → bytes_eq word w ≡ b → number_in before w ≡ Some m → number_in now w ≡ Some m
  still w m true e has =
      let same : word ≡ w = (bytes_eq-Decides word w).0 e in
      let number : n ≡ m = found ∙ ap (λ (o : Option ℕ). unwrap_or o next) (ap (number_in before) same ∙ has) in
      after w ∙ (ap (λ (b : Bool). if b then Some n else number_in before w) e ∙ ap Some number)
  still w m false e has = after w ∙ (ap (λ (b : Bool). if b then Some n else number_in before w) e ∙ has)

  had : (w : List ℕ) (m : ℕ) (b : Bool) → bytes_eq word w ≡ b → number_in now w ≡ Some m → HasNumber was w m ⊎ ((w ≡ word) × (m ≡ n))
  had w m true e has = inr (sym ((bytes_eq-Decides word w).0 e), same_Some m n (sym has ∙ (after w ∙ ap (λ (b : Bool). if b then Some n else number_in before w) e)))
  had w m false e has = inl (inl (sym (after w ∙ ap (λ (b : Bool). if b then Some n else number_in before w) e) ∙ has))

  pub given-mapped : IsGiven was is word n next
  given-mapped = record {
    there = inl (at-word (bytes_eq word word) refl);
    own = own-or-next (number_in before word) refl;
    kept = λ w m has. elim has [
      | inl found ↦ inl (still w m (bytes_eq word w) refl found)
      | inr late ↦ inr late
    ];
    nothing_else = λ w m has. elim has [
      | inl found ↦ had w m (bytes_eq word w) refl found
      | inr late ↦ inl (inr late)
    ];
  }

pub given-if : {X : Type 0} (before now later : Entries) (word : List ℕ) (next : ℕ) (r : Result ℕ X) → IfOk r (λ n. n ≡ unwrap_or (number_in before word) next) →
    IfOk r (λ n. (w : List ℕ) → number_in now w ≡ (if bytes_eq word w then Some n else number_in before w)) →
    IfOk r (λ n. IsGiven (record { mapped = before; later = later }) (record { mapped = now; later = later }) word n next)
given-if before now later word next (Ok n) found after = given-mapped before now later word n next found after
given-if before now later word next (Err e) found after = tt

-- each of a list

pub all-from : {X : Type 0} (P : X → Type 0) (xs : List X) → ((x : X) → Contains xs x → P x) → AllByRecursion P xs
all-from P [] each = tt
all-from P (x ∷ xs) each = (each x (0, omega arith, refl), all-from P xs (λ y has. each y (suc has.0, (let within = has.1 in omega (arith, within)), has.2)))

pub all-at : {X : Type 0} (P : X → Type 0) (xs : List X) (k : ℕ) (d : X) → AllByRecursion P xs → k < length xs → P (get_or xs k d)
all-at P [] k d all low = absurd (omega (arith, low))
all-at P (x ∷ xs) zero d all low = all.0
all-at P (x ∷ xs) (suc k) d all low = all-at P xs k d all.1 (omega (arith, low))

pub all-has : {X : Type 0} (P : X → Type 0) (xs : List X) (x : X) → AllByRecursion P xs → Contains xs x → P x
all-has P xs x all has = subst P has.2 (all-at P xs has.0 x all has.1)

pub all-push : {X : Type 0} (P : X → Type 0) (xs : List X) (x : X) → AllByRecursion P xs → P x → AllByRecursion P (xs ++ x ∷ [])
all-push P [] x all here = (here, tt)
all-push P (y ∷ ys) x all here = (all.0, all-push P ys x all.1 here)

all-moved : {X : Type 0} (P : X → Type 0) (xs ys : List X) → IsPermutation xs ys → AllByRecursion P xs → AllByRecursion P ys
all-moved P xs ys moved all = all-from P ys (λ y has. all-has P xs y all (Contains-permutation ys xs y (IsPermutation-sym xs ys moved) has))

-- words in order

-- these entries are the words with their numbers
abbrev pub AreSame : Known → Entries → Type 0
AreSame known all = (w : List ℕ) (n : ℕ) → HasNumber known w n ↔ Contains all (w, n)

-- a sort keeps each number with its word
pub same-numbers : (mapped later : Entries) (before after : List Numbered) → all_entries before ≡ mapped ++ later → IsOneEach mapped → IsPermutation before after →
    AreSame (record { mapped = mapped; later = later }) (all_entries after)
same-numbers mapped later before after is one moved w n = (there, back)
  where
    perm : IsPermutation (all_entries before) (all_entries after)
    perm = IsPermutation-map entry_of before after moved

    there : HasNumber (record { mapped = mapped; later = later }) w n → Contains (all_entries after) (w, n)
    there (inl found) =
        Contains-permutation (all_entries before) (all_entries after) (w, n) perm (subst (λ (es : Entries). Contains es (w, n)) (sym is) (Contains-append_left mapped later (w, n) (entry-there mapped w n found)))
    there (inr has) =
        Contains-permutation (all_entries before) (all_entries after) (w, n) perm (subst (λ (es : Entries). Contains es (w, n)) (sym is) (Contains-append_right mapped later (w, n) has))

    back : Contains (all_entries after) (w, n) → HasNumber (record { mapped = mapped; later = later }) w n
    back has =
        let had : Contains (mapped ++ later) (w, n) = subst (λ (es : Entries). Contains es (w, n)) is (Contains-permutation (all_entries after) (all_entries before) (w, n) (IsPermutation-sym (all_entries before) (all_entries after) perm) has) in
        elim (Contains-append_cases mapped later (w, n) had) [
          | inl front ↦ inl (one w n front)
          | inr behind ↦ inr behind
        ]

abbrev pub both_cmp : Numbered → Numbered → Ordering
both_cmp a b = then_cmp (on (λ w. w.beginning) nat_cmp) (on (λ w. w.text.now) (slice_cmp nat_cmp)) a b

abbrev both_less : Numbered → Numbered → Bool
both_less a b = is_lt (both_cmp a b)

both-total : IsTotalOrder both_cmp
both-total = then_total (on_total (λ (w : Numbered). w.beginning) nat_cmp_total) (on_total (λ (w : Numbered). w.text.now) nat_list_cmp_total)

begun-less : (a b : Numbered) → IsBegun a → IsBegun b → both_less a b ≡ false → is_lt (slice_cmp nat_cmp a.text.now b.text.now) ≡ false
begun-less a b first second not =
    by-words a.text.now b.text.now first.1 ((λ i. is_lt (ordering_then (nat_cmp (sym first.0 i) (sym second.0 i)) (slice_cmp nat_cmp a.text.now b.text.now))) ∙ not)

-- what a sort by beginnings and texts ensures
pub sorted-words : {F : Type 0} {g : Mut F (Bor Numbered × (Bor Numbered × Unit {0})) Ordering} {f : F} (before after : List Numbered) → AreBegun before → IsPermutation before after → IsSortedByClosure g f after →
    ((a : Bor Numbered × (Bor Numbered × Unit {0})) (r : Ordering) (f' : F) → Called g f a r f' → (r ≡ both_cmp a.0.now a.1.0.now) × (f' ≡ f)) → AreSorted after
sorted-words {g = g} {f = f} before after begun moved up calls =
    let compares : ComparesAs g both_less f = always_returns_same g (λ a r. is_lt r ≡ both_less a.0.now a.1.0.now) f (λ a r f' k. (ap is_lt (calls a r f' k).0, (calls a r f' k).1)) in
    let by_both : IsSortedBy both_less after = up both_less (ranks_by both-total (λ (n : Numbered). n)) compares in
    let all = all-moved IsBegun before after moved begun in
    λ k d from low. begun-less (get_or after (k + 1) d) (get_or after k d) (all-at IsBegun after (k + 1) d all low) (all-at IsBegun after k d all (omega (arith, low))) (by_both k d from low)

entry-at : (words : List Numbered) (k : ℕ) (d : Numbered) → k < length words → get_or (all_entries words) k (entry_of d) ≡ entry_of (get_or words k d)
entry-at [] k d low = absurd (omega (arith, low))
entry-at (w ∷ ws) zero d low = refl
entry-at (w ∷ ws) (suc k) d low = entry-at ws k d (omega (arith, low))

-- a word is not less than those before it
pub not-less : (yielded rest : List Numbered) (word : Numbered) → AreSorted (yielded ++ word ∷ rest) → (w : List ℕ) (n : ℕ) → Contains (all_entries yielded) (w, n) → is_lt (slice_cmp nat_cmp word.text.now w) ≡ false
not-less yielded rest word up w n has =
    let all = yielded ++ word ∷ rest in
    let size : length (all_entries yielded) ≡ length yielded = length-map yielded entry_of in
    let long : length all ≡ length yielded + suc (length rest) = length-append yielded (word ∷ rest) in
    let low : has.0 < length yielded = (let within = has.1 in omega (arith, within, size)) in
    let at : entry_of (get_or yielded has.0 word) ≡ (w, n) = sym (entry-at yielded has.0 word low) ∙ (get_or-any (all_entries yielded) has.0 (entry_of word) (w, n) has.1 ∙ has.2) in
    let far = sorted_far by_text (ranks_by nat_list_cmp_total (λ (n : Numbered). n.text.now)) all up has.0 (length yielded) word (omega (arith, low)) (omega (arith, long)) in
    let last : word.text.now ≡ (get_or all (length yielded) word).text.now = ap (λ (m : Numbered). m.text.now) (sym (get_or-append_seam yielded word rest word)) in
    let front : w ≡ (get_or all has.0 word).text.now = ap (λ (e : Entry). e.0) (sym at) ∙ ap (λ (m : Numbered). m.text.now) (sym (get_or_append_left yielded (word ∷ rest) word has.0 low)) in
    (λ i. is_lt (slice_cmp nat_cmp (last i) (front i))) ∙ far

-- those before a word, the word, and those behind it
pub entries-next : (yielded rest : List Numbered) (word : Numbered) (all left : List Numbered) → all ≡ yielded ++ left → left ≡ word ∷ rest → all_entries all ≡ all_entries yielded ++ (word.text.now, word.number) ∷ all_entries rest
entries-next yielded rest word all left is next = ap all_entries (is ∙ ap (λ (ws : List Numbered). yielded ++ ws) next) ∙ map-append entry_of yielded (word ∷ rest)

pub entry-next : (all so_far rest : Entries) (k : List ℕ) (m : ℕ) → all ≡ so_far ++ (k, m) ∷ rest → Contains all (k, m)
entry-next all so_far rest k m split = subst (λ (es : Entries). Contains es (k, m)) (sym split) (Contains-append_right so_far ((k, m) ∷ rest) (k, m) (0, omega arith, refl))
